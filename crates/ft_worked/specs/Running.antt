-- Scanners of the mixer, and replayers of the late relay.
use Rattle.std.specs.Prelude.{◌≡◌, true}
use Rattle.ft_core.specs.declared.tables.Side.{Side}
use Rattle.ft_replay.specs.meaning.Replaying.{Replaying}
use Rattle.ft_scan.specs.meaning.Scanning.{Scanning}
use Rattle.ft_worked.specs.Made.{IsMadeOf}
use Rattle.ft_worked.specs.Mixer.{mixer}
use Rattle.ft_worked.specs.Relay.{hold_of, relay}

-- a scanner runs this side of the mixer
abbrev pub RunsMixer : Side → Scanning → Type 0
RunsMixer side scanning = IsMadeOf mixer scanning.set × (scanning.side ≡ side)

-- a replayer runs the late relay
abbrev pub ReplaysLate : Replaying → Type 0
ReplaysLate replaying = IsMadeOf (relay (hold_of true)) replaying.set
