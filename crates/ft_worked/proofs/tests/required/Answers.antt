use Rattle.std.proofs.Common.{◌∙◌, sym, subst, w64}
use Rattle.std.proofs.lemmas.Int.{to_z-of_z}
use Rattle.ft_core.specs.declared.tables.Side.TheVariants as side
use Rattle.ft_worked.specs.Made.{IsMadeOf}
use Rattle.ft_worked.specs.Mixer.{mixer}
use Rattle.ft_worked.proofs.MixerProper.{is_proper}
use Rattle.ft_worked.proofs.MixerRows.{required_level, side_width}
use Rattle.ft_worked.proofs.tests.required.Goals as goal

pub step-requires-clause-proper : goal.step-requires-clause-proper
step-requires-clause-proper c = (is_proper c.args.scanner.now.set c.requires.runs.0).0

pub step-requires-clause-given : goal.step-requires-clause-given
step-requires-clause-given c =
    required_level c.args.scanner.now.set c.requires.runs.0 c.args.scanner.now.side c.requires.runs.1 _ c.args.level
    (to_z-of_z w64 c.args.level c.ranges.level) c.requires.level

pub step-requires-clause-room : goal.step-requires-clause-room
step-requires-clause-room c = side_width c.args.scanner.now.set c.requires.runs.0 c.args.scanner.now.side side.Req c.requires.runs.1

pub returns : goal.returns
returns c = (subst (IsMadeOf mixer) (sym c.step.ensures.set) c.requires.runs.0, c.step.ensures.side ∙ c.requires.runs.1)
