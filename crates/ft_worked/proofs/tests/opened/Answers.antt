use Rattle.std.proofs.Common.{sym, subst}
use Rattle.ft_worked.specs.Made.{IsMadeOf}
use Rattle.ft_worked.specs.Mixer.{mixer}
use Rattle.ft_worked.proofs.tests.opened.Goals as goal

pub returns : goal.returns
returns c = (subst (IsMadeOf mixer) (sym c.in_ok-scanner.ensures.set) c.requires, c.in_ok-scanner.ensures.side)
