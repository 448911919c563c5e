use Rattle.ft_cover.proofs.CoverLemmas.{complete}
use Rattle.ft_cover.proofs.covering.cover.Goals as goal

pub returns-clause-complete : goal.returns-clause-complete
returns-clause-complete c = λ proper. complete c.laws.ensures c.args.tables.now c.args.keep c.in_ok-found.found proper c.in_ok-found.ensures
