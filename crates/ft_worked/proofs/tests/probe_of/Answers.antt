use Rattle.std.proofs.Common.{w64}
use Rattle.std.proofs.lemmas.Int.{to_z-of_z}
use Rattle.ft_core.specs.meaning.Kinds.{inputs}
use Rattle.ft_worked.proofs.MixerProper.{is_proper}
use Rattle.ft_worked.proofs.MixerRows.{level, width}
use Rattle.ft_worked.proofs.tests.probe_of.Goals as goal

pub input_map-requires-clause-proper : goal.input_map-requires-clause-proper
input_map-requires-clause-proper c = (is_proper c.args.set.now c.requires.set).0

pub input_map-requires-clause-row : goal.input_map-requires-clause-row
input_map-requires-clause-row c =
    level c.args.set.now c.requires.set _ c.args.level (to_z-of_z w64 c.args.level c.ranges.level) c.requires.level

pub input_map-requires-clause-room : goal.input_map-requires-clause-room
input_map-requires-clause-room c = width c.args.set.now c.requires.set inputs
