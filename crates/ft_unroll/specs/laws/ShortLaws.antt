-- Shorter lists, and when no short list shows a difference.
use Rattle.std.specs.Prelude.{ℕ, suc, ◌≡◌, ◌<◌, ◌≤◌, length}
use Rattle.ft_core.specs.declared.tables.Tables.{Tables}
use Rattle.ft_mean.specs.meaning.Allowed.{Allowed}
use Rattle.ft_mean.specs.meaning.Proper.{AllProper}
use Rattle.ft_mean.specs.meaning.Reading.{Scans}
use Rattle.ft_mean.specs.meaning.Refines.{FirstDiffers, ShortSafe}
use Rattle.ft_oblige.specs.meaning.Lists.{difference_obliged}
use Rattle.ft_unroll.specs.laws.ListLaws.{HasPoint}

-- an allowed list of one scan more gives one of n scans
abbrev pub AllowedOneLess : Type 0
AllowedOneLess = (S : Tables) (h : Scans) (n : ℕ) → 0 < n → length h ≡ suc n → Allowed S h → (g : Scans) × (length g ≡ n) × Allowed S g

-- a list that first differs at scan k gives one of which that is the last scan
abbrev pub DiffersAtLast : Type 0
DiffersAtLast = (S : Tables) → AllProper S → (h : Scans) (k : ℕ) → FirstDiffers S h k
    → (g : Scans) × (length g ≡ suc k) × FirstDiffers S g k

-- where no formula of a difference at the last of 1 to n scans has a point, no list of at most n scans shows one
abbrev pub ClosedIsShortSafe : Type 0
ClosedIsShortSafe = (S : Tables) → AllProper S → (n : ℕ) → ((k : ℕ) → 0 < k → k ≤ n → HasPoint (difference_obliged S k) → ⊥) → ShortSafe S n
