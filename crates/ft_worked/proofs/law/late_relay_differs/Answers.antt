use Rattle.ft_worked.proofs.RelayLemmas.{late_differs}
use Rattle.ft_worked.proofs.law.late_relay_differs.Goals as goal

pub returns : goal.returns
returns c = late_differs c.laws.ensures
