-- Both sides of a set read together: what an allowed list, its inputs and its traces come to as one reading, and back.
use Rattle.std.specs.Prelude.{ℕ, ◌≡◌, ◌<◌, ℤ, IsTrue, IsFalse, length, slice_get, Some, if◌then◌else◌}
use Rattle.ft_base.specs.Interval.{IsWithin}
use Rattle.ft_core.specs.declared.tables.Tables.{Tables}
use Rattle.ft_core.specs.declared.tables.Var.{Var}
use Rattle.ft_core.specs.declared.tables.Side.TheVariants as side
use Rattle.ft_core.specs.declared.tables.Section.TheVariants as section
use Rattle.ft_core.specs.meaning.Kinds.{monitored, controlled, side_kinds, is_of}
use Rattle.ft_mean.specs.meaning.Allowed.{Allowed, nat_at}
use Rattle.ft_mean.specs.meaning.Cells.{defined, Follows}
use Rattle.ft_mean.specs.meaning.Fits.{Fits, InputMap, OutputMap, side_reading}
use Rattle.ft_mean.specs.meaning.Memory.{look}
use Rattle.ft_mean.specs.meaning.Proper.{AllProper}
use Rattle.ft_mean.specs.meaning.Reading.{Reading, Scans, IsVar, reading_of}
use Rattle.ft_mean.specs.meaning.Refines.{Runs, FirstDiffers}

-- the requirement trace for the variables of its side, and the design trace for the others
abbrev pub joint : Tables → (r s : Scans) → Reading
joint S r s t x = if is_of S.vars (side_kinds side.Req) x then side_reading S side.Req r t x else side_reading S side.Sof s t x

-- a reading whose first n scans are in range, meet the environment's clauses, and have the values of the tables
pub record IsWhole (S : Tables) (n : ℕ) (ρ : Reading) : Type 0 where
  pub ranges : (t x : ℕ) (v : Var) → t < n → slice_get S.vars x ≡ Some v → IsWithin v.range (ρ t x)
  pub clauses : (t : ℕ) → t < n → IsTrue (nat_at S ρ t)
  pub inputs : (t : ℕ) → t < n → Follows S section.In (look S ρ t) (ρ t)
  pub required : (t : ℕ) → t < n → Follows S section.Req (look S ρ t) (ρ t)
  pub designed : (t : ℕ) → t < n → Follows S section.Sof (look S ρ t) (ρ t)

-- what a reading tells of an allowed list and two traces: the requirement's and the design's values, and where c is the image of
-- the design trace by OUT, that OUT gives its values along the reading too, and where the tables are proper no others
pub record ReadsAsWhole (S : Tables) (h r s : Scans) (ρ : Reading) : Type 0 where
  pub whole : IsWhole S (length h) ρ
  pub as_required : (t x : ℕ) (v : Var) → t < length h → IsVar S (side_kinds side.Req) x v → ρ t x ≡ side_reading S side.Req r t x
  pub as_designed : (t x : ℕ) (v : Var) → t < length h → IsVar S (side_kinds side.Sof) x v → ρ t x ≡ side_reading S side.Sof s t x
  pub gives : (c : Scans) → OutputMap S s c → (t x : ℕ) (v : Var) → t < length h → IsVar S controlled x v
      → IsTrue (defined S section.Out (look S ρ t) x (reading_of S controlled c t x))
  pub as_put_out : AllProper S → (c : Scans) → OutputMap S s c → (t x : ℕ) (v : Var) (z : ℤ) → t < length h → IsVar S controlled x v
      → IsTrue (defined S section.Out (look S ρ t) x z) → z ≡ reading_of S controlled c t x

-- an allowed list with its inputs and its two traces is read as a whole
abbrev pub RunsAreWhole : Type 0
RunsAreWhole = (S : Tables) (h r i s : Scans) → Allowed S h → Fits S side.Req h r → InputMap S h i → Fits S side.Sof i s
    → ReadsAsWhole S h r s (joint S r s)

-- a whole reading is made of an allowed list, its inputs and two traces that fit
pub record WholeSplits (S : Tables) (n : ℕ) (ρ : Reading) : Type 0 where
  pub h : Scans
  pub r : Scans
  pub i : Scans
  pub s : Scans
  pub long : length h ≡ n
  pub allowed : Allowed S h
  pub required : Fits S side.Req h r
  pub input_map : InputMap S h i
  pub design : Fits S side.Sof i s
  pub tells_given : (t x : ℕ) (v : Var) → t < n → IsVar S monitored x v → reading_of S monitored h t x ≡ ρ t x
  pub tells_required : (t x : ℕ) (v : Var) → t < n → IsVar S (side_kinds side.Req) x v → side_reading S side.Req r t x ≡ ρ t x
  pub tells_designed : (t x : ℕ) (v : Var) → t < n → IsVar S (side_kinds side.Sof) x v → side_reading S side.Sof s t x ≡ ρ t x

abbrev pub WholesSplit : Type 0
WholesSplit = (S : Tables) (n : ℕ) (ρ : Reading) → 0 < n → IsWhole S n ρ → WholeSplits S n ρ

-- where the tables are proper, what a whole reading splits into is the only one of each kind, with one list of controlled values
abbrev pub SplitsAreRuns : Type 0
SplitsAreRuns = (S : Tables) → AllProper S → (n : ℕ) (ρ : Reading) (w : WholeSplits S n ρ) → (c : Scans) × Runs S w.h w.r w.i w.s c

-- it first differs where OUT first fails to give the reading's controlled values
abbrev pub SplitsDiffer : Type 0
SplitsDiffer = (S : Tables) → AllProper S → (n : ℕ) (ρ : Reading) (w : WholeSplits S n ρ) (k x : ℕ) (v : Var) → k < n
    → ((t y : ℕ) (u : Var) → t < k → IsVar S controlled y u → IsTrue (defined S section.Out (look S ρ t) y (ρ t y)))
    → IsVar S controlled x v → IsFalse (defined S section.Out (look S ρ k) x (ρ k x)) → FirstDiffers S w.h k
