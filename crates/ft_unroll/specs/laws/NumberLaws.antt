-- Numbers that meet the parts of the formulas of lists are whole readings, and whole readings give such numbers.
use Rattle.std.specs.Prelude.{ℕ, suc, ◌≡◌, ℤ, length}
use Rattle.ft_core.specs.declared.tables.Tables.{Tables}
use Rattle.ft_mean.specs.laws.Whole.{joint, IsWhole}
use Rattle.ft_mean.specs.meaning.Proper.{AllProper}
use Rattle.ft_mean.specs.meaning.Reading.{Reading, Scans}
use Rattle.ft_mean.specs.meaning.Refines.{FirstDiffers}
use Rattle.ft_unroll.specs.meaning.Unrolling.{reading_by, MeetsScans, MeetsDifference, list_state}

-- numbers that meet both sides and the clauses are a whole reading
abbrev pub NumbersAreWhole : Type 0
NumbersAreWhole = (S : Tables) (n : ℕ) (σ : ℕ → ℤ) → MeetsScans S n σ → IsWhole S n (reading_by S σ)

-- and a whole reading gives such numbers
abbrev pub WholesAreNumbers : Type 0
WholesAreNumbers = (S : Tables) (n : ℕ) (ρ : Reading) → IsWhole S n ρ → MeetsScans S n (list_state S ρ)

-- where the tables are proper, numbers that also meet a difference give a list that first differs at its last scan
abbrev pub NumbersDiffer : Type 0
NumbersDiffer = (S : Tables) → AllProper S → (k : ℕ) (σ : ℕ → ℤ) → MeetsScans S (suc k) σ → MeetsDifference S k σ
    → (h : Scans) × (length h ≡ suc k) × FirstDiffers S h k

-- and such a list gives such numbers
abbrev pub DifferencesAreNumbers : Type 0
DifferencesAreNumbers = (S : Tables) → AllProper S → (h : Scans) (k : ℕ) (d : FirstDiffers S h k)
    → MeetsScans S (length h) (list_state S (joint S d.r d.s)) × MeetsDifference S k (list_state S (joint S d.r d.s))
