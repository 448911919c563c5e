use Rattle.ft_worked.proofs.RelayLemmas.{refines}
use Rattle.ft_worked.proofs.law.relay_refines.Goals as goal

pub returns : goal.returns
returns c = refines c.laws.ensures
