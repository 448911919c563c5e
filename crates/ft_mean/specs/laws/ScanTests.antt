-- Tests of a list of scans and of a trace that compute, and what it says that they pass, without a tactic.
use Rattle.std.proofs.Common.{◌≡◌, ◌∙◌, sym, ap, subst, ℕ, ◌<◌, ℤ, Bool, true, false, not, ◌||◌, [], length, slice_get, slice_index_or}
use Rattle.std.proofs.Common.{Some, None, true≢false}
use Rattle.std.specs.Prelude.{◌==◌}
use Rattle.std.specs.List.{range_with_len}
use Rattle.std.specs.Ordering.{int_eq}
use Rattle.std.proofs.Math.Nat.{zero-add}
use Rattle.std.proofs.lemmas.Bool.{and_parts}
use Rattle.std.proofs.lemmas.Bool.Decides.{Decides-eqb, Decides-int_eq}
use Rattle.std.proofs.lemmas.List.FromFn.{length-range_with_len, get_or-range_with_len}
use Rattle.std.proofs.lemmas.Option.{slice_get_within}
use Rattle.ft_core.specs.declared.tables.Tables.{Tables}
use Rattle.ft_core.specs.declared.tables.Var.{Var}
use Rattle.ft_core.specs.declared.tables.Side.{Side}
use Rattle.ft_core.specs.laws.Lists.{all_pass}
use Rattle.ft_core.specs.laws.Ranges.{is_within, within}
use Rattle.ft_core.specs.meaning.Kinds.{Kinds, given_kinds, defined_kinds, side_kinds, section_of, is_of, count_of}
use Rattle.ft_mean.specs.meaning.Cells.{defined}
use Rattle.ft_mean.specs.meaning.Fits.{Fits, side_reading}
use Rattle.ft_mean.specs.meaning.Memory.{look}
use Rattle.ft_mean.specs.judge.Scope.{through, is_inside, in_range, is_row, is_list, has_given, at_all}
use Rattle.ft_mean.specs.meaning.Reading.{Scans, IsListOf, IsVar, reading_of}

-- a test at the first n numbers
pub through_at : (p : ℕ → Bool) (n : ℕ) → through n p ≡ true → (k : ℕ) → k < n → p k ≡ true
through_at p n h k below = all_pass p (range_with_len 0 n) h k
    (k, subst (λ m. k < m) (sym (length-range_with_len 0 n)) below, get_or-range_with_len 0 n k k below ∙ zero-add k)

-- what is asked where another holds, holds there
implied : (b c : Bool) → (not b || c) ≡ true → b ≡ true → c ≡ true
implied true c h e = h
implied false c h e = absurd (true≢false (sym e))

module _ (S : Tables) (kinds : Kinds) (x : ℕ) where
  pub of_kinds : (v : Var) → slice_get S.vars x ≡ Some v → is_of S.vars kinds x ≡ kinds x v
  of_kinds v there = ap (λ o. elim o as (λ z. Bool) [ None ↦ false | Some u ↦ kinds x u ]) there

  -- a test of the variables of these kinds, at one of them
  pub asked_of : (v : Var) (test : Bool) → IsVar S kinds x v → (not (is_of S.vars kinds x) || test) ≡ true → test ≡ true
  asked_of v test is h = implied (is_of S.vars kinds x) test h (of_kinds v is.0 ∙ is.1)

pub inside_at : (S : Tables) (x : ℕ) (z : ℤ) (v : Var) → slice_get S.vars x ≡ Some v → is_inside S x z ≡ is_within v.range z
inside_at S x z v there = ap (λ o. elim o as (λ y. Bool) [ None ↦ true | Some u ↦ is_within u.range z ]) there

module _ (S : Tables) (kinds : Kinds) (scans : Scans) where
  pub list_is : is_list S kinds scans ≡ true → IsListOf S kinds scans
  list_is h = record {
    widths = λ t below. (Decides-eqb (length (slice_index_or scans t [])) (count_of kinds S.vars)).0 (row t below).0;
    ranges = λ t x v below is. within v.range (reading_of S kinds scans t x)
        (sym (inside_at S x (reading_of S kinds scans t x) v is.0)
        ∙ asked_of S kinds x v (is_inside S x (reading_of S kinds scans t x)) is
        (through_at (in_range S kinds scans t) (length S.vars) (row t below).1 x (slice_get_within S.vars x v is.0)));
  }
    where
      row : (t : ℕ) → t < length scans → ((length (slice_index_or scans t []) == count_of kinds S.vars) ≡ true)
          × (at_all S (in_range S kinds scans t) ≡ true)
      row t below = and_parts (length (slice_index_or scans t []) == count_of kinds S.vars) (at_all S (in_range S kinds scans t))
          (through_at (is_row S kinds scans) (length scans) h t below)

module _ (S : Tables) (s : Side) (given trace : Scans) where
  -- whether a trace has the given values
  abbrev pub have_given : Bool
  have_given = through (length trace) (λ t. at_all S (has_given S s given trace t))

  -- a variable that a table of the side defines has the value of its table at scan t
  abbrev follows_at : ℕ → ℕ → Bool
  follows_at t x = not (is_of S.vars (defined_kinds (section_of s)) x)
      || defined S (section_of s) (look S (side_reading S s trace) t) x (side_reading S s trace t x)

  abbrev pub follow : Bool
  follow = through (length trace) (λ t. at_all S (follows_at t))

  -- what passes at each scan and each variable passes at one
  at_one : (test : ℕ → ℕ → Bool) → through (length trace) (λ t. at_all S (test t)) ≡ true → (t x : ℕ) (v : Var) → t < length trace
      → slice_get S.vars x ≡ Some v
      → test t x ≡ true
  at_one test h t x v below there =
      through_at (test t) (length S.vars) (through_at (λ t. at_all S (test t)) (length trace) h t below) x
      (slice_get_within S.vars x v there)

  -- a trace that passes the tests fits
  pub fits : is_list S (given_kinds s) given ≡ true → length trace ≡ length given → is_list S (side_kinds s) trace ≡ true → have_given
      ≡ true → follow ≡ true
      → Fits S s given trace
  fits ranges same listed has follows = record {
    is_given = list_is S (given_kinds s) given ranges;
    lengths = same;
    values = list_is S (side_kinds s) trace listed;
    same_given = λ t x v below is. (Decides-int_eq (side_reading S s trace t x) (reading_of S (given_kinds s) given t x)).0
        (asked_of S (given_kinds s) x v (int_eq (side_reading S s trace t x) (reading_of S (given_kinds s) given t x)) is
        (at_one (has_given S s given trace) has t x v below is.0));
    follows = λ t below x v is. asked_of S (defined_kinds (section_of s)) x v
        (defined S (section_of s) (look S (side_reading S s trace) t) x (side_reading S s trace t x)) is
        (at_one follows_at follows t x v below is.0);
  }
