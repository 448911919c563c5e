-- What a frame is before scan 0.
use Rattle.std.specs.Prelude.{ℕ, ◌≡◌, ◌<◌, List, [], length, map, slice_get, Some}
use Rattle.ft_core.specs.declared.tables.Tables.{Tables}
use Rattle.ft_core.specs.declared.tables.Memory.{Memory}
use Rattle.ft_scan.specs.declared.frame.Frame.{Frame}
use Rattle.ft_scan.specs.declared.frame.Running.{Running}
use Rattle.ft_scan.specs.declared.frame.Running.TheVariants.{Timer, Band}
use Rattle.ft_scan.specs.steps.Frame.{IsRunOf}

-- it was told no scan yet
abbrev pub IsFresh : Running → Type 0
IsFresh (Timer t) = t.truths ≡ []
IsFresh (Band b) = b.numbers ≡ []

-- a running memory is that of the memory at this place, before scan 0
abbrev pub Starts : Tables → ℕ → Running → Type 0
Starts S at run = (memory : Memory) → slice_get S.memories at ≡ Some memory → IsRunOf S.period memory run × IsFresh run

-- the first n memories run, and were told no scan yet
abbrev pub AllStart : Tables → ℕ → List Running → Type 0
AllStart S n runs = (m : ℕ) → m < n → (run : Running) × (slice_get runs m ≡ Some run) × Starts S m run

-- the values are the `init`s
pub record IsStart (S : Tables) (frame : Frame) : Type 0 where
  pub now : frame.now ≡ map (λ v. v.init) S.vars
  pub past : frame.past ≡ map (λ v. v.init) S.vars
  pub truths : length frame.truths ≡ length S.memories
  pub columns : length frame.columns ≡ length S.tables
  pub runs : AllStart S (length S.memories) frame.runs.items
