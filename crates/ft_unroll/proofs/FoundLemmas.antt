-- What the lengths that were tried tell of the lists of a set.
use Rattle.std.proofs.Common.{◌≡◌, ◌∙◌, subst, ℕ, ◌+◌, ◌-◌, ◌<◌, ◌≤◌, length, arith, ⊎_elim}
use Rattle.std.proofs.lemmas.Bool.{cases_lt}
use Rattle.ft_cert.specs.meaning.Tree.{Tree}
use Rattle.ft_core.specs.declared.tables.Tables.{Tables}
use Rattle.ft_mean.specs.meaning.Allowed.{Allowed}
use Rattle.ft_mean.specs.meaning.Proper.{AllProper}
use Rattle.ft_mean.specs.meaning.Reading.{Scans}
use Rattle.ft_mean.specs.meaning.Refines.{FirstDiffers, ShortSafe}
use Rattle.ft_oblige.specs.meaning.Lists.{list_parts, difference_parts, list_obliged, difference_obliged}
use Rattle.ft_oblige.specs.laws.ReadsThere.{checked_of}
use Rattle.ft_unroll.specs.building.Telling.{IsTold}
use Rattle.ft_unroll.specs.laws.ListLaws.{HasPoint, ListsAreAllowed, PointsAllow, PointsDiffer}
use Rattle.ft_unroll.specs.laws.ShortLaws.{ClosedIsShortSafe}
use Rattle.ft_unroll.specs.meaning.Found.{IsSpentFor, IsReached, IsDeep, IsStop, IsListSpent, IsShortest, IsRefuteSpent}

-- an allowed list of as many scans as were tried
abbrev pub IsLongest : Tables → ℕ → Scans → Type 0
IsLongest S i h = 0 < i → (length h ≡ i) × Allowed S h

-- no formula of a difference has a point up to this length
abbrev pub HasNoneTo : Tables → ℕ → Type 0
HasNoneTo S i = (k : ℕ) → 0 < k → k ≤ i → HasPoint (difference_obliged S k) → ⊥

-- a length that is tried has 1 to 8 scans
pub few_scans : (S : Tables) (i : ℕ) → i < S.depth → i + 1 ≤ 8
few_scans S i l = let few = (checked_of S).low_depth in omega (arith, l, few)

pub few_splits : (S : Tables) → S.splits ≤ 200000
few_splits S = (checked_of S).few_splits

module _ (S : Tables) (i : ℕ) (h : Scans) (longest : IsLongest S i h) where
  reached : i < S.depth → IsReached S (i + 1)
  reached l = record {
    some = omega arith;
    within = omega (arith, l);
    shorter = λ more. let is = longest (omega (arith, more)) in let same : i ≡ i + 1 - 1 = omega arith in (h, is.0 ∙ same, is.1);
  }

  pub stops : ListsAreAllowed → i < S.depth → (HasPoint (list_obliged S (i + 1)) → ⊥) → IsStop S (i + 1)
  stops allowed l none = record {
    reached = reached l;
    none = λ at. none ((allowed S (i + 1) (omega arith)).1 at);
  }

  pub list-spent : i < S.depth → (tree : Tree) → IsSpentFor (list_obliged S (i + 1)) S.splits tree → IsListSpent S (i + 1) tree
  list-spent l tree spent = record { reached = reached l; spent = spent }

  pub deep : S.depth ≤ i → i ≤ S.depth → IsDeep S h
  deep past within =
      let some = (checked_of S).some_depth in
      let is = longest (omega (arith, some, past)) in
      let same : i ≡ S.depth = omega (arith, past, within) in record { long = is.0 ∙ same; allowed = is.1 }

-- one scan more
pub longest-more : PointsAllow → (S : Tables) (i : ℕ) (h : Scans) → IsTold S (i + 1) (list_parts S (i + 1)) h → IsLongest S (i + 1) h
longest-more allow S i h told some = (told.long, allow S (i + 1) told.values told.point h told.long told.listed told.has)

-- no point at one scan more
pub none-more : (S : Tables) (i : ℕ) → HasNoneTo S i → (HasPoint (difference_obliged S (i + 1)) → ⊥) → HasNoneTo S (i + 1)
none-more S i none at_end k some l = ⊎_elim
    (λ less. none k some (omega (arith, less)))
    (λ most. let same : i + 1 ≡ k = omega (arith, l, most) in subst (λ j. HasPoint (difference_obliged S j) → ⊥) same at_end)
    (cases_lt k (i + 1))

module _ (S : Tables) (proper : AllProper S) (safe : ClosedIsShortSafe) (i : ℕ) (none : HasNoneTo S i) where
  pub shortest : i < S.depth → PointsDiffer → (h : Scans) → IsTold S (i + 1) (difference_parts S (i + 1)) h → IsShortest S h i
  shortest l differ h told =
      let same : i + 1 - 1 ≡ i = omega arith in record {
        differs = subst (λ k. FirstDiffers S h k) same
            (differ S proper (i + 1) told.values (omega arith) told.point h told.long told.listed told.has);
        last = told.long;
        within = l;
        safe = safe S proper i none;
      }

  pub refute-spent : i < S.depth → (tree : Tree) → IsSpentFor (difference_obliged S (i + 1)) S.splits tree → IsRefuteSpent S (i + 1) tree
  refute-spent l tree spent =
      let same : i ≡ i + 1 - 1 = omega arith in record {
        some = omega arith;
        within = omega (arith, l);
        safe = subst (λ k. ShortSafe S k) same (safe S proper i none);
        spent = spent;
      }
