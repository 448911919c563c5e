-- Lists and traces that go on by a scan, and their first scans.
use Rattle.std.specs.Prelude.{ℕ, suc, ◌≡◌, ◌<◌, ℤ, List, [], ◌∷◌, ◌++◌, take}
use Rattle.ft_core.specs.declared.tables.Tables.{Tables}
use Rattle.ft_core.specs.declared.tables.Side.{Side}
use Rattle.ft_core.specs.meaning.Kinds.{given_kinds}
use Rattle.ft_mean.specs.meaning.Allowed.{Allowed}
use Rattle.ft_mean.specs.meaning.Fits.{Fits, InputMap, OutputMap}
use Rattle.ft_mean.specs.meaning.Proper.{AllProper}
use Rattle.ft_mean.specs.meaning.Reading.{Scans, IsListOf}
use Rattle.ft_mean.specs.meaning.Refines.{FirstDiffers}

-- where the tables are proper, a trace that fits goes on by a scan for each given scan in range
abbrev pub FitsLonger : Type 0
FitsLonger = (S : Tables) → AllProper S → (s : Side) (given trace : Scans) (next : List ℤ) → IsListOf S (given_kinds s) (given ++ next ∷ [])
    → Fits S s given trace → (row : List ℤ) × Fits S s (given ++ next ∷ []) (trace ++ row ∷ [])

-- the first scans of an allowed list are allowed
abbrev pub AllowedShorter : Type 0
AllowedShorter = (S : Tables) (h : Scans) (n : ℕ) → 0 < n → Allowed S h → Allowed S (take n h)

-- the first scans of a trace fit those of the given list
abbrev pub FitsShorter : Type 0
FitsShorter = (S : Tables) (s : Side) (given trace : Scans) (n : ℕ) → Fits S s given trace → Fits S s (take n given) (take n trace)

-- the first scans of the inputs are those of the list's first scans
abbrev pub InputsShorter : Type 0
InputsShorter = (S : Tables) (h i : Scans) (n : ℕ) → InputMap S h i → InputMap S (take n h) (take n i)

-- and so are the controlled values of a design trace
abbrev pub OutputsShorter : Type 0
OutputsShorter = (S : Tables) (trace image : Scans) (n : ℕ) → OutputMap S trace image → OutputMap S (take n trace) (take n image)

-- where the tables are proper, traces over given lists with the same first scans have the same first scans
abbrev pub SameFront : Type 0
SameFront = (S : Tables) → AllProper S → (s : Side) (given trace other its : Scans) (n : ℕ) → Fits S s given trace → Fits S s other its
    → take n given ≡ take n other → take n trace ≡ take n its

-- a first difference at scan k is one of the list cut after that scan
abbrev pub DiffersShorter : Type 0
DiffersShorter = (S : Tables) → AllProper S → (h : Scans) (k : ℕ) → FirstDiffers S h k → FirstDiffers S (take (suc k) h) k
