-- The list that a point of a formula tells.
use Rattle.std.specs.Prelude.{ℕ, ◌+◌, ◌*◌, ◌≡◌, ◌<◌, ℤ, pos, ◌==◌, List, [], length, None, Some, slice_index_or}
use Rattle.std.specs.List.{position}
use Rattle.ft_core.specs.declared.tables.Tables.{Tables}
use Rattle.ft_core.specs.declared.tables.Var.{Var}
use Rattle.ft_core.specs.meaning.Kinds.{monitored, place_of, count_of}
use Rattle.ft_linear.specs.meaning.Form.{values_at}
use Rattle.ft_mean.specs.meaning.Allowed.{IsMonitored}
use Rattle.ft_mean.specs.meaning.Reading.{Scans, IsVar}
use Rattle.ft_claims.specs.declared.claim.Claim.{Claim}
use Rattle.ft_claims.specs.meaning.Areas.{finished}
use Rattle.ft_claims.specs.meaning.Names.{width}
use Rattle.ft_claims.specs.meaning.Points.{IsPointOf}
use Rattle.ft_oblige.specs.meaning.Lists.{list_spans}
use Rattle.ft_unroll.specs.declared.sought.Sought.{Sought}
use Rattle.ft_unroll.specs.declared.sought.Sought.TheVariants as sought
use Rattle.ft_unroll.specs.laws.ListLaws.{HasPoint}
use Rattle.ft_unroll.specs.meaning.Found.{IsSpentFor}
use Rattle.ft_unroll.specs.meaning.Unrolling.{HasValues}

-- the value that a point gives a name that its formula has, and a number for each other name
abbrev pub told_or : List ℕ → List ℤ → (name : ℕ) → (other : ℤ) → ℤ
told_or names values name other = elim (position (λ n. n == name) names) [ None ↦ other | Some place ↦ values_at values place ]

-- a row has the value of each of the first n variables that is monitored, at a scan whose names begin there
pub record IsRowBefore (S : Tables) (names : List ℕ) (values : List ℤ) (base n : ℕ) (row : List ℤ) : Type 0 where
  pub width : length row ≡ place_of monitored S.vars n
  pub told : (x : ℕ) (v : Var) → x < n → IsVar S monitored x v
      → slice_index_or row (place_of monitored S.vars x) (pos 0) ≡ told_or names values (base + x) v.range.0

-- and of all
pub record IsRow (S : Tables) (names : List ℕ) (values : List ℤ) (base : ℕ) (row : List ℤ) : Type 0 where
  pub width : length row ≡ count_of monitored S.vars
  pub told : (x : ℕ) (v : Var) → IsVar S monitored x v
      → slice_index_or row (place_of monitored S.vars x) (pos 0) ≡ told_or names values (base + x) v.range.0

-- so many scans, each with its row
pub record AreRows (S : Tables) (names : List ℕ) (values : List ℤ) (n : ℕ) (h : Scans) : Type 0 where
  pub long : length h ≡ n
  pub rows : (t : ℕ) → t < n → IsRow S names values (t * width S) (slice_index_or h t [])

-- a monitored list of n scans that has the values of a point
pub record IsTold (S : Tables) (n : ℕ) (parts : List Claim) (h : Scans) : Type 0 where
  pub values : List ℤ
  pub point : IsPointOf (finished (list_spans S n) parts) values
  pub long : length h ≡ n
  pub listed : IsMonitored S h
  pub has : HasValues S n parts values h

-- what a search with so many splits finds of the formula of some parts over n scans
abbrev pub IsSought : Tables → ℕ → List Claim → (splits : ℕ) → Sought → Type 0
IsSought S n parts splits sought.NoList = HasPoint (finished (list_spans S n) parts) → ⊥
IsSought S n parts splits (sought.List history) = IsTold S n parts history
IsSought S n parts splits (sought.Spent tree) = IsSpentFor (finished (list_spans S n) parts) splits tree
