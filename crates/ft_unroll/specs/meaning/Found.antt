-- The formulas of short lists as they are made, and what is found of these lists.
use Rattle.std.specs.Prelude.{ℕ, ◌+◌, ◌-◌, ◌≡◌, ◌<◌, ◌≤◌, length}
use Rattle.ft_core.specs.declared.tables.Tables.{Tables}
use Rattle.ft_linear.specs.meaning.Formula.{IsOver}
use Rattle.ft_settle.specs.meaning.Settled.{settled}
use Rattle.ft_cert.specs.meaning.Tree.{Tree}
use Rattle.ft_mean.specs.meaning.Allowed.{Allowed}
use Rattle.ft_mean.specs.meaning.Reading.{Scans}
use Rattle.ft_mean.specs.meaning.Refines.{FirstDiffers, ShortSafe}
use Rattle.ft_claims.specs.meaning.Areas.{Obliged}
use Rattle.ft_oblige.specs.meaning.Lists.{list_obliged, difference_obliged}
use Rattle.ft_oblige.specs.meaning.Tried.{IsSpentIn}
use Rattle.ft_unroll.specs.declared.forming.ListForm.{ListForm}
use Rattle.ft_unroll.specs.declared.listing.Lists.{Lists}
use Rattle.ft_unroll.specs.declared.listing.Lists.TheVariants as lists
use Rattle.ft_unroll.specs.declared.refutation.Refute.{Refute}
use Rattle.ft_unroll.specs.declared.refutation.Refute.TheVariants as refute

-- the settled formula, the area and the names of the first unknowns; each unknown of the formula has a span
pub record IsListForm (obliged : Obliged) (form : ListForm) : Type 0 where
  pub formula : form.formula ≡ settled obliged.formula
  pub area : form.area.spans ≡ obliged.spans
  pub names : form.names ≡ obliged.names
  pub over : IsOver (length form.area.spans) form.formula

-- some list of n scans is allowed
abbrev pub HasAllowed : Tables → ℕ → Type 0
HasAllowed S n = (h : Scans) × (length h ≡ n) × Allowed S h

-- a tree that a search of the formula leaves when exactly so many splits are used up
abbrev pub IsSpentFor : Obliged → (splits : ℕ) → Tree → Type 0
IsSpentFor obliged splits tree = IsSpentIn (settled obliged.formula) obliged.spans splits tree

-- n is a length that is tried, and some list of one scan less is allowed
pub record IsReached (S : Tables) (n : ℕ) : Type 0 where
  pub some : 1 ≤ n
  pub within : n ≤ S.depth
  pub shorter : 1 < n → HasAllowed S (n - 1)

-- an allowed list of as many scans as a short list may have
pub record IsDeep (S : Tables) (h : Scans) : Type 0 where
  pub long : length h ≡ S.depth
  pub allowed : Allowed S h

-- the least length of which no list is allowed
pub record IsStop (S : Tables) (n : ℕ) : Type 0 where
  pub reached : IsReached S n
  pub none : HasAllowed S n → ⊥

-- the search at this length used its splits up
pub record IsListSpent (S : Tables) (n : ℕ) (tree : Tree) : Type 0 where
  pub reached : IsReached S n
  pub spent : IsSpentFor (list_obliged S n) S.splits tree

abbrev pub AreLists : Tables → Lists → Type 0
AreLists S (lists.List history) = IsDeep S history
AreLists S (lists.Stops n) = IsStop S n
AreLists S (lists.SpentAt n tree) = IsListSpent S n tree

-- the sides first differ at the last scan of the list, which has no more scans than a short list may have, and no shorter list shows a
-- difference
pub record IsShortest (S : Tables) (h : Scans) (scan : ℕ) : Type 0 where
  pub differs : FirstDiffers S h scan
  pub last : length h ≡ scan + 1
  pub within : scan < S.depth
  pub safe : ShortSafe S scan

-- the search at this length used its splits up, and no shorter list shows a difference
pub record IsRefuteSpent (S : Tables) (n : ℕ) (tree : Tree) : Type 0 where
  pub some : 1 ≤ n
  pub within : n ≤ S.depth
  pub safe : ShortSafe S (n - 1)
  pub spent : IsSpentFor (difference_obliged S n) S.splits tree

abbrev pub IsRefute : Tables → Refute → Type 0
IsRefute S (refute.List history scan) = IsShortest S history scan
IsRefute S refute.Safe = ShortSafe S S.depth
IsRefute S (refute.SpentAt n tree) = IsRefuteSpent S n tree
