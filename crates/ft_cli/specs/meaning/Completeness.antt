-- What the answer on a set comes to, by what is so of the set.
use Rattle.std.specs.Prelude.{ℕ, ℤ, ◌+◌, ◌*◌, ◌^◌, ◌≡◌, ◌≤◌, List, length, None, Some}
use Rattle.ft_core.specs.declared.tables.Tables.{Tables}
use Rattle.ft_mean.specs.meaning.Proper.{AllProper}
use Rattle.ft_mean.specs.meaning.Refines.{FirstDiffers}
use Rattle.ft_search.specs.laws.Budget.{points_in}
use Rattle.ft_settle.specs.meaning.Settled.{settled}
use Rattle.ft_claims.specs.meaning.Areas.{Obliged}
use Rattle.ft_oblige.specs.meaning.Lists.{difference_obliged, list_obliged}
use Rattle.ft_oblige.specs.meaning.Obligations.{IsObligation}
use Rattle.ft_unroll.specs.meaning.Found.{HasAllowed, IsStop}
use Rattle.ft_compose.specs.meaning.Decided.{AllClose}
use Rattle.ft_report.specs.declared.short.Short.{Short}
use Rattle.ft_report.specs.declared.short.Short.TheVariants as short
use Rattle.ft_report.specs.declared.report.Report.{Report}
use Rattle.ft_report.specs.declared.report.Report.TheVariants as report

-- a report on this set, or the least length of which its environment allows no list; want of memory is free
abbrev pub IsVerdictOn : Tables → Report → Type 0
IsVerdictOn S (report.Verified T list) = T ≡ S
IsVerdictOn S (report.Refuted T list scan) = T ≡ S
IsVerdictOn S (report.Fails T n req out state short) = T ≡ S
IsVerdictOn S (report.Spent T subject tree short) = T ≡ S
IsVerdictOn S (report.Gap T k state) = T ≡ S
IsVerdictOn S (report.Overlap T k first second state) = T ≡ S
IsVerdictOn S (report.OutOfRange T k cell state) = T ≡ S
IsVerdictOn S (report.NatStops n) = IsStop S n
IsVerdictOn S report.NoMemory = Unit {0}
IsVerdictOn S _ = ⊥

abbrev pub IsVerifiedOrSpent : Report → Type 0
IsVerifiedOrSpent (report.Verified S list) = Unit {0}
IsVerifiedOrSpent (report.Spent S subject tree short) = Unit {0}
IsVerifiedOrSpent report.NoMemory = Unit {0}
IsVerifiedOrSpent _ = ⊥

-- where no obligation of the set has a point and its environment allows a list of `depth` scans, it is verified, or a search was spent
abbrev pub VerifiesClosed : Tables → Report → Type 0
VerifiesClosed S r = AllClose S → HasAllowed S S.depth → IsVerifiedOrSpent r

-- the tables are proper, the environment allows a list of `depth` scans, and on a list of at most so many the two sides differ
pub record HasDifference (S : Tables) : Type 0 where
  pub proper : AllProper S
  pub lists : HasAllowed S S.depth
  pub list : List (List ℤ)
  pub scan : ℕ
  pub short : length list ≤ S.depth
  pub differs : FirstDiffers S list scan

abbrev pub IsSpentShort : Short → Type 0
IsSpentShort (short.Safe n) = ⊥
IsSpentShort (short.SpentAt n tree) = Unit {0}

-- spent before short lists were searched, or there
abbrev pub IsRefutedOrSpent : Report → Type 0
IsRefutedOrSpent (report.Refuted S list scan) = Unit {0}
IsRefutedOrSpent (report.Spent S subject tree None) = Unit {0}
IsRefutedOrSpent (report.Spent S subject tree (Some short)) = IsSpentShort short
IsRefutedOrSpent (report.Fails S n req out state short) = IsSpentShort short
IsRefutedOrSpent report.NoMemory = Unit {0}
IsRefutedOrSpent _ = ⊥

-- where the two sides differ on a short list, the set is refuted, or a search was spent
abbrev pub RefutesDifferent : Tables → Report → Type 0
RefutesDifferent S r = HasDifference S → IsRefutedOrSpent r

-- the splits are as many as the formula's area has points, times two for each atom, less one
abbrev pub IsEnough : Tables → Obliged → Type 0
IsEnough S o = points_in o.spans * 2 ^ length (settled o.formula).atoms ≤ S.splits + 1

-- so for each formula that a verdict tries
pub record HasEnoughSplits (S : Tables) : Type 0 where
  pub obligations : (n : ℕ) (o : Obliged) → IsObligation S n o → IsEnough S o
  pub lists : (n : ℕ) → 1 ≤ n → n ≤ S.depth → IsEnough S (list_obliged S n)
  pub differences : (n : ℕ) → 1 ≤ n → n ≤ S.depth → IsEnough S (difference_obliged S n)

abbrev pub IsSearched : Report → Type 0
IsSearched (report.Spent S subject tree short) = ⊥
IsSearched (report.Fails S n req out state short) = IsSpentShort short → ⊥
IsSearched _ = Unit {0}

-- then no search is spent
abbrev pub DecidesWithEnough : Tables → Report → Type 0
DecidesWithEnough S r = HasEnoughSplits S → IsSearched r
