-- Which variables a list of scans has values of, and tests of a whole list and a whole trace that compute.
use Rattle.std.specs.Prelude.{ℕ, ℤ, int_le, Bool, true, not, ◌&&◌, ◌||◌, ◌==◌, List, [], map, length, slice_get, slice_index_or, Some, None}
use Rattle.std.specs.List.{list_all, range_with_len}
use Rattle.std.specs.Ordering.{int_eq}
use Rattle.ft_core.specs.declared.tables.Tables.{Tables}
use Rattle.ft_core.specs.declared.tables.Side.{Side}
use Rattle.ft_core.specs.meaning.Kinds.{Kinds, given_kinds, defined_kinds, side_kinds, section_of, count_of, is_of}
use Rattle.ft_mean.specs.declared.scope.Scope.{Scope}
use Rattle.ft_mean.specs.declared.scope.Scope.TheVariants.{Given, Defined, Whole}
use Rattle.ft_mean.specs.declared.seen.Seen.{Seen}
use Rattle.ft_mean.specs.meaning.Cells.{defined}
use Rattle.ft_mean.specs.meaning.Fits.{side_reading}
use Rattle.ft_mean.specs.meaning.Reading.{Reading, Scans, before, reading_of}
use Rattle.ft_mean.specs.judge.Seen.{view_at}

abbrev pub kinds_of : Scope → Kinds
kinds_of (Given s) = given_kinds s
kinds_of (Defined s) = defined_kinds (section_of s)
kinds_of (Whole s) = side_kinds s

-- what scans of a part tell of each variable
abbrev pub reading_by : Tables → Scope → Scans → Reading
reading_by S part scans = reading_of S (kinds_of part) scans

-- a number for each variable of the set
abbrev pub row_of : Tables → (ℕ → ℤ) → List ℤ
row_of S f = map f (range_with_len 0 (length S.vars))

-- the first n scans of a reading, where no memory is known yet
abbrev pub scans_of : Tables → Reading → ℕ → Seen
scans_of S ρ n = record {
  rows = map (λ t. row_of S (ρ t)) (range_with_len 0 n);
  past = map (λ t. row_of S (before S ρ t)) (range_with_len 0 n);
  bits = [];
}

-- whether a test passes at all variables, and at the first n scans
abbrev pub at_all : Tables → (ℕ → Bool) → Bool
at_all S test = list_all test (range_with_len 0 (length S.vars))

abbrev pub through : ℕ → (ℕ → Bool) → Bool
through n test = list_all test (range_with_len 0 n)

abbrev pub is_inside : Tables → ℕ → ℤ → Bool
is_inside S x z = elim (slice_get S.vars x) [ None ↦ true | Some v ↦ int_le v.range.0 z && int_le z v.range.1 ]

-- a variable of these kinds has a value in its range at scan t
abbrev pub in_range : Tables → Kinds → Scans → ℕ → ℕ → Bool
in_range S kinds scans t x = not (is_of S.vars kinds x) || is_inside S x (reading_of S kinds scans t x)

-- scan t has a value in range for each variable of these kinds, and no other value
abbrev pub is_row : Tables → Kinds → Scans → ℕ → Bool
is_row S kinds scans t = (length (slice_index_or scans t []) == count_of kinds S.vars) && at_all S (in_range S kinds scans t)

abbrev pub is_list : Tables → Kinds → Scans → Bool
is_list S kinds scans = through (length scans) (is_row S kinds scans)

-- a variable of the side that is given has the given value
abbrev pub has_given : Tables → Side → (given trace : Scans) → ℕ → ℕ → Bool
has_given S s given trace t x =
    not (is_of S.vars (given_kinds s) x) || int_eq (side_reading S s trace t x) (reading_of S (given_kinds s) given t x)

-- a variable of the side that a table defines has the value of its table
abbrev pub has_table : Tables → Side → Scans → Seen → ℕ → ℕ → Bool
has_table S s trace seen t x =
    not (is_of S.vars (defined_kinds (section_of s)) x)
    || defined S (section_of s) (view_at seen t) x (side_reading S s trace t x)

-- whichever it is, it has that value
abbrev pub is_right : Tables → Side → (given trace : Scans) → Seen → ℕ → ℕ → Bool
is_right S s given trace seen t x = has_given S s given trace t x && has_table S s trace seen t x

abbrev pub follows_by : Tables → Side → (given trace : Scans) → Seen → Bool
follows_by S s given trace seen = through (length trace) (λ t. at_all S (is_right S s given trace seen t))

-- the given values and the trace are lists of as many scans, in range
abbrev pub are_lists : Tables → Side → (given trace : Scans) → Bool
are_lists S s given trace = is_list S (given_kinds s) given && is_list S (side_kinds s) trace && (length trace == length given)
