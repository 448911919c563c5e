-- What passes the tests of a list of scans.
use Rattle.std.proofs.Common.{◌≡◌, ◌∙◌, sym, subst, refl, ℕ, zero, suc, ◌+◌, ◌<◌, ℤ, Bool, true, false, not, ◌||◌, [], length}
use Rattle.std.proofs.Common.{slice_index_or, arith, ⊎_elim}
use Rattle.std.specs.Prelude.{int_le}
use Rattle.std.proofs.lemmas.Int.{ints}
use Rattle.std.proofs.lemmas.Bool.{and_from}
use Rattle.std.proofs.lemmas.Bool.Decides.{Decides-eqb}
use Rattle.std.proofs.lemmas.Option.{slice_get_cases}
use Rattle.ft_base.specs.Interval.{IsWithin}
use Rattle.ft_core.specs.declared.tables.Tables.{Tables}
use Rattle.ft_core.specs.declared.tables.Var.{Var}
use Rattle.ft_core.specs.laws.Ranges.{is_within}
use Rattle.ft_core.specs.meaning.Kinds.{Kinds, is_of, count_of}
use Rattle.ft_mean.specs.judge.Scope.{through, is_inside, in_range, is_row, is_list}
use Rattle.ft_mean.specs.meaning.Reading.{Scans, IsListOf, IsVar, reading_of}
use Rattle.ft_mean.specs.laws.ScanTests.{inside_at, of_kinds}
use Rattle.ft_mean.proofs.RecallLemmas.{through_next}

pub through_from : (p : ℕ → Bool) (n : ℕ) → ((k : ℕ) → k < n → p k ≡ true) → through n p ≡ true
through_from p zero h = refl
through_from p (suc n) h =
    let more : n + 1 ≡ suc n = omega arith in
    subst (λ m. through m p ≡ true) more (through_next p n (through_from p n (λ k below. h k (omega (arith, below)))) (h n (omega arith)))

when : (b c : Bool) → (b ≡ true → c ≡ true) → (not b || c) ≡ true
when true c h = h refl
when false c h = refl

inside_from : (range : ℤ × ℤ) (z : ℤ) → IsWithin range z → is_within range z ≡ true
inside_from range z h = let low = h.0 in let high = h.1 in and_from (int_le range.0 z) (int_le z range.1) (grind (arith, ints, low))
    (grind (arith, ints, high))

module _ (S : Tables) (kinds : Kinds) (x : ℕ) where
  -- a test of the variables of these kinds that passes for all of them
  pub when_of : (test : Bool) → x < length S.vars → ((v : Var) → IsVar S kinds x v → test ≡ true) → (not (is_of S.vars kinds x) || test)
      ≡ true
  when_of test below h = when (is_of S.vars kinds x) test (λ on. ⊎_elim
      (λ p. h p.0 (p.2, sym (of_kinds S kinds x p.0 p.2) ∙ on))
      (λ p. absurd (omega (arith, below, p.0)))
      (slice_get_cases S.vars x).1)

module _ (S : Tables) (kinds : Kinds) (scans : Scans) where
  pub list_from : IsListOf S kinds scans → is_list S kinds scans ≡ true
  list_from list = through_from (is_row S kinds scans) (length scans) (λ t below. and_from _ _
      ((Decides-eqb (length (slice_index_or scans t [])) (count_of kinds S.vars)).1 (list.widths t below))
      (through_from (in_range S kinds scans t) (length S.vars) (λ x low. when_of S kinds x (is_inside S x (reading_of S kinds scans t x))
      low
      (λ v is. inside_at S x (reading_of S kinds scans t x) v is.0 ∙ inside_from v.range (reading_of S kinds scans t x)
      (list.ranges t x v below is)))))
