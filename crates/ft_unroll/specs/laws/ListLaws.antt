-- The points of the formulas of lists: where they are, and what they tell.
use Rattle.std.specs.Prelude.{ℕ, ◌-◌, ◌≡◌, ◌<◌, ◌↔◌, ℤ, List, length}
use Rattle.ft_core.specs.declared.tables.Tables.{Tables}
use Rattle.ft_mean.specs.meaning.Allowed.{IsMonitored, Allowed}
use Rattle.ft_mean.specs.meaning.Proper.{AllProper}
use Rattle.ft_mean.specs.meaning.Reading.{Scans}
use Rattle.ft_mean.specs.meaning.Refines.{FirstDiffers}
use Rattle.ft_claims.specs.declared.claim.Claim.{Claim}
use Rattle.ft_claims.specs.meaning.Areas.{Obliged, finished}
use Rattle.ft_claims.specs.meaning.Points.{IsPointOf}
use Rattle.ft_oblige.specs.meaning.Lists.{list_spans, list_parts, difference_parts, list_obliged, difference_obliged}
use Rattle.ft_unroll.specs.meaning.Unrolling.{HasValues}

-- some point satisfies it
abbrev pub HasPoint : Obliged → Type 0
HasPoint o = (p : List ℤ) × IsPointOf o p

-- some monitored list of n scans has the values of a point
abbrev pub PointsHaveLists : Type 0
PointsHaveLists = (S : Tables) (n : ℕ) (parts : List Claim) (p : List ℤ) → 0 < n → IsPointOf (finished (list_spans S n) parts) p
    → (h : Scans) × (length h ≡ n) × IsMonitored S h × HasValues S n parts p h

-- each monitored list of n scans that has those of a point of the list's formula is allowed
abbrev pub PointsAllow : Type 0
PointsAllow = (S : Tables) (n : ℕ) (p : List ℤ) → IsPointOf (list_obliged S n) p
    → (h : Scans) → length h ≡ n → IsMonitored S h → HasValues S n (list_parts S n) p h → Allowed S h

-- the formula has a point exactly where an allowed list of n scans exists
abbrev pub ListsAreAllowed : Type 0
ListsAreAllowed = (S : Tables) (n : ℕ) → 0 < n → HasPoint (list_obliged S n) ↔ ((h : Scans) × (length h ≡ n) × Allowed S h)

-- where the tables are proper, the sides first differ at the last scan of each monitored list of n scans that has the values of a
-- point of the difference's formula
abbrev pub PointsDiffer : Type 0
PointsDiffer = (S : Tables) → AllProper S → (n : ℕ) (p : List ℤ) → 0 < n → IsPointOf (difference_obliged S n) p
    → (h : Scans) → length h ≡ n → IsMonitored S h → HasValues S n (difference_parts S n) p h → FirstDiffers S h (n - 1)

-- and the formula has a point exactly where there is such a list
abbrev pub DifferencesHavePoints : Type 0
DifferencesHavePoints = (S : Tables) → AllProper S → (n : ℕ) → 0 < n
    → HasPoint (difference_obliged S n) ↔ ((h : Scans) × (length h ≡ n) × FirstDiffers S h (n - 1))
