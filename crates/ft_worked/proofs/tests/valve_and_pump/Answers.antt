use Rattle.std.proofs.Common.{w64}
use Rattle.std.proofs.lemmas.Int.{to_z-of_z}
use Rattle.ft_core.specs.meaning.Kinds.{controlled}
use Rattle.ft_worked.proofs.MixerProper.{is_proper}
use Rattle.ft_worked.proofs.MixerRows.{drive_and_gate, width}
use Rattle.ft_worked.proofs.tests.valve_and_pump.Goals as goal

pub output_map-requires-clause-proper : goal.output_map-requires-clause-proper
output_map-requires-clause-proper c = (is_proper c.args.set.now c.requires.set).0

pub output_map-requires-clause-row : goal.output_map-requires-clause-row
output_map-requires-clause-row c =
    drive_and_gate c.args.set.now c.requires.set _ c.args.drive _ c.args.gate (to_z-of_z w64 c.args.drive c.ranges.drive)
    (to_z-of_z w64 c.args.gate c.ranges.gate) c.requires.drive c.requires.gate

pub output_map-requires-clause-room : goal.output_map-requires-clause-room
output_map-requires-clause-room c = width c.args.set.now c.requires.set controlled
