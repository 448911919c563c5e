-- What the worked sets show.
use Rattle.std.specs.Prelude.{pos}
use Rattle.ft_core.specs.declared.tables.Tables.{Tables}
use Rattle.ft_core.specs.declared.tables.Side.TheVariants as side
use Rattle.ft_mean.specs.meaning.Allowed.{Allowed}
use Rattle.ft_mean.specs.meaning.Fits.{Fits, InputMap, OutputMap}
use Rattle.ft_mean.specs.meaning.Proper.{AllProper, IsProper}
use Rattle.ft_mean.specs.meaning.Refines.{Refines, FirstDiffers}
use Rattle.ft_worked.specs.Made.{IsMadeOf}
use Rattle.ft_worked.specs.Mixer.{mixer, levels, required, probed, designed, put_out, overlapping}
use Rattle.ft_worked.specs.Relay.{relay, on_thrice}
use Rattle.ft_worked.specs.Trip.{trip, pressures, opened, opened_early, readings, counted, counted_again}

-- the levels of the mixer are allowed, its traces are those that were worked out by hand, and so are the images by IN and OUT
pub record MixerRuns (S : Tables) : Type 0 where
  pub allowed : Allowed S levels
  pub requirement : Fits S side.Req levels required
  pub inputs : InputMap S levels probed
  pub design : Fits S side.Sof probed designed
  pub outputs : OutputMap S designed put_out

abbrev pub MixerIsWorked : Type 0
MixerIsWorked = (S : Tables) → IsMadeOf mixer S → MixerRuns S

-- its tables are proper; with both of two cells at one level a table isn't
abbrev pub MixerIsProper : Type 0
MixerIsProper = (S : Tables) → IsMadeOf mixer S → AllProper S × (IsProper S overlapping → ⊥)

-- with the same timer on both sides the design refines the requirement
abbrev pub RelayRefines : Type 0
RelayRefines = (S : Tables) → IsMadeOf (relay (pos 100)) S → Refines S

-- with a longer one it first differs at scan 2
abbrev pub LateRelayDiffers : Type 0
LateRelayDiffers = (S : Tables) → IsMadeOf (relay (pos 150)) S → FirstDiffers S on_thrice 2

-- the valve opens at the scan that was worked out and not one before; the design counts as was worked out, and isn't above again too soon
pub record TripRuns (S : Tables) : Type 0 where
  pub opens : Fits S side.Req pressures opened
  pub not_early : Fits S side.Req pressures opened_early → ⊥
  pub counts : Fits S side.Sof readings counted
  pub not_again : Fits S side.Sof readings counted_again → ⊥

abbrev pub TripIsWorked : Type 0
TripIsWorked = (S : Tables) → IsMadeOf (trip 5) S → TripRuns S
