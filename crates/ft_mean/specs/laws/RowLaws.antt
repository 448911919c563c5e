-- Rows of values, the places of variables in them, and what lists of rows tell.
use Rattle.std.specs.Prelude.{ℕ, ◌≡◌, ◌<◌, ◌⊎◌, ℤ, pos, List, [], ◌++◌, length, Some, slice_get, slice_index_or}
use Rattle.ft_base.specs.Interval.{IsWithin}
use Rattle.ft_core.specs.declared.tables.Tables.{Tables}
use Rattle.ft_core.specs.declared.tables.Var.{Var}
use Rattle.ft_core.specs.declared.tables.Side.{Side}
use Rattle.ft_core.specs.meaning.Kinds.{Kinds, count_of, place_of, given_kinds, defined_kinds, side_kinds, section_of}
use Rattle.ft_mean.specs.meaning.Reading.{Reading, Scans, IsListOf, IsVar, reading_of}

-- a variable's place is inside the row
abbrev pub PlacesAreInside : Type 0
PlacesAreInside = (S : Tables) (kinds : Kinds) (x : ℕ) (v : Var) → IsVar S kinds x v → place_of kinds S.vars x < count_of kinds S.vars

-- the variable whose value stands at place k of a row
pub record StandsAt (S : Tables) (kinds : Kinds) (k : ℕ) : Type 0 where
  pub x : ℕ
  pub v : Var
  pub is : IsVar S kinds x v
  pub place : place_of kinds S.vars x ≡ k

-- each place of a row is that of a variable
abbrev pub PlacesAreTaken : Type 0
PlacesAreTaken = (S : Tables) (kinds : Kinds) (k : ℕ) → k < count_of kinds S.vars → StandsAt S kinds k

-- rows of the right length that have the same value at the place of each variable are one
abbrev pub SameRows : Type 0
SameRows = (S : Tables) (kinds : Kinds) (p q : List ℤ) → length p ≡ count_of kinds S.vars → length q ≡ count_of kinds S.vars
    → ((x : ℕ) (v : Var) → IsVar S kinds x v
    → slice_index_or p (place_of kinds S.vars x) (pos 0) ≡ slice_index_or q (place_of kinds S.vars x) (pos 0))
    → p ≡ q

-- a list tells of a variable of its kinds what stands at the variable's place
abbrev pub ReadAtPlace : Type 0
ReadAtPlace = (S : Tables) (kinds : Kinds) (scans : Scans) (t x : ℕ) (v : Var) → IsVar S kinds x v
    → reading_of S kinds scans t x ≡ slice_index_or (slice_index_or scans t []) (place_of kinds S.vars x) (pos 0)

-- a list in range tells every variable of the set in range
abbrev pub ReadInRange : Type 0
ReadInRange = (S : Tables) (kinds : Kinds) (scans : Scans) → IsListOf S kinds scans → (t x : ℕ) (v : Var) → t < length scans
    → slice_get S.vars x ≡ Some v → IsWithin v.range (reading_of S kinds scans t x)

-- what comes after does not change what the first scans tell
abbrev pub ReadInFront : Type 0
ReadInFront = (S : Tables) (kinds : Kinds) (front rest : Scans) (t x : ℕ) → t < length front
    → reading_of S kinds (front ++ rest) t x ≡ reading_of S kinds front t x

-- the first n scans of a reading as a list of rows
pub record RowsOf (S : Tables) (kinds : Kinds) (ρ : Reading) (n : ℕ) (rows : Scans) : Type 0 where
  pub long : length rows ≡ n
  pub widths : (t : ℕ) → t < n → length (slice_index_or rows t []) ≡ count_of kinds S.vars
  pub tells : (t x : ℕ) (v : Var) → t < n → IsVar S kinds x v → reading_of S kinds rows t x ≡ ρ t x

-- every reading has such rows
abbrev pub HasRows : Type 0
HasRows = (S : Tables) (kinds : Kinds) (ρ : Reading) (n : ℕ) → (rows : Scans) × RowsOf S kinds ρ n rows

-- a variable of a side is given or defined
abbrev pub GivenOrDefined : Type 0
GivenOrDefined = (S : Tables) (s : Side) (x : ℕ) (v : Var) → IsVar S (side_kinds s) x v
    → IsVar S (given_kinds s) x v ⊎ IsVar S (defined_kinds (section_of s)) x v
