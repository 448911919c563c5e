use Rattle.ft_cover.proofs.CoverLemmas.{tables_proper}
use Rattle.ft_cover.proofs.law.closed_laws.Goals as goal

pub returns : goal.returns
returns c = tables_proper c.laws.ensures
