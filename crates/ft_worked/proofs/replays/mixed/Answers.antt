use Rattle.std.proofs.Common.{sym, subst}
use Rattle.ft_mean.specs.meaning.Allowed.{Allowed}
use Rattle.ft_mean.specs.meaning.Reading.{Scans}
use Rattle.ft_worked.proofs.MixerProper.{is_proper}
use Rattle.ft_worked.proofs.replays.mixed.Goals as goal

pub replay-requires-clause-proper : goal.replay-requires-clause-proper
replay-requires-clause-proper c = (is_proper c.args.set.now c.requires.set).0

pub replay-requires-clause-allowed : goal.replay-requires-clause-allowed
replay-requires-clause-allowed c =
    subst (λ (h : Scans). Allowed c.args.set.now h) (sym c.requires.given) (c.mixer_is_worked.ensures c.args.set.now c.requires.set).allowed
