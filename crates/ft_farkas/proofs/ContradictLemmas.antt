-- A row with no unknown and a positive constant: the lines that it is the sum of contradict.
use Rattle.std.proofs.Common.{◌≡◌, ◌∙◌, inl, inr, sym, ap, subst, refl, ℕ, suc, ◌<◌, ◌≤◌, ℤ, pos, ◌*ℤ◌, ◌<ℤ◌, Bool, true, false, ◌&&◌, List, [], ◌∷◌, length, unsigned_abs, arith}
use Rattle.std.specs.Prelude.{nat_eq, nat_le, is_some}
use Rattle.std.specs.List.{list_all}
use Rattle.std.proofs.lemmas.Bool.{cases_Bool}
use Rattle.std.proofs.lemmas.Int.{ints}
use Rattle.ft_linear.specs.declared.lines.Line.{Line}
use Rattle.ft_linear.specs.meaning.Formula.{FormulaView}
use Rattle.ft_linear.specs.meaning.Part.{PartView}
use Rattle.ft_linear.specs.meaning.Rules.{line_form, total_constant, times_of, is_multiplier, is_line, Contradicts}
use Rattle.std.proofs.Math.IntN.{zero-*ℤ, *ℤ_comm}
use Rattle.ft_farkas.specs.meaning.Rows.{Row, line_entry, weighted, IsSum, with_times, chosen}
use Rattle.ft_farkas.specs.meaning.Kept.{IsNarrow}
use Rattle.ft_farkas.proofs.SumLemmas.{Positive, same-form, same-times, chosen-factor, chosen-constant}

both : (a b : Bool) → a ≡ true → b ≡ true → (a && b) ≡ true
both true b x y = y
both false b x y = x

-- each line has a form
unfoldable pub HaveForms : FormulaView → PartView → List Line → Type 0
HaveForms f p [] = Unit {0}
HaveForms f p (l ∷ ls) = (is_some (line_form f p l) ≡ true) × HaveForms f p ls

-- no line has an unknown from this one on
unfoldable pub NoneFrom : FormulaView → PartView → ℕ → List Line → Type 0
NoneFrom f p count [] = Unit {0}
NoneFrom f p count (l ∷ ls) = ((u : ℕ) → count ≤ u → line_entry f p (suc u) l ≡ pos 0) × NoneFrom f p count ls

module _ (f : FormulaView) (p : PartView) (r : Row) (narrow : (c : ℕ) → IsNarrow (r c)) where
  pub all-lines : (from : ℕ) (ls : List Line) → HaveForms f p ls → list_all (is_line f p) (chosen r from ls) ≡ true
  unfolding HaveForms
  all-lines from [] h = refl
  all-lines from (l ∷ ls) h = elim (cases_Bool (nat_eq (unsigned_abs (r from)) 0)) [
    | inl so ↦ rw so (all-lines (suc from) ls h.1)
    | inr isnt ↦ rw isnt (both _ _ (both _ _ (times isnt) form) (all-lines (suc from) ls h.1))
  ]
    where
      form : is_some (line_form f p (with_times (unsigned_abs (r from)) l)) ≡ true
      form = ap is_some (same-form f p r (unsigned_abs (r from)) l) ∙ h.0

      within : (t : ℕ) → nat_eq t 0 ≡ false → t ≤ 4611686018427387904 → is_multiplier t ≡ true
      within t some most = grind (arith, some, most)

      times : nat_eq (unsigned_abs (r from)) 0 ≡ false → is_multiplier (times_of (with_times (unsigned_abs (r from)) l)) ≡ true
      times isnt = ap is_multiplier (same-times f p r (unsigned_abs (r from)) l) ∙ within (unsigned_abs (r from)) isnt (narrow from)

  pub no-more : (from : ℕ) (ls : List Line) → length (chosen r from ls) ≤ length ls
  no-more from [] = omega arith
  no-more from (l ∷ ls) = let rest = no-more (suc from) ls in elim (cases_Bool (nat_eq (unsigned_abs (r from)) 0)) [
    | inl so ↦ rw so (omega (arith, rest))
    | inr isnt ↦ rw isnt (omega (arith, rest))
  ]

  none-left : (from count u : ℕ) (ls : List Line) → count ≤ u → NoneFrom f p count ls → weighted f p r from (suc u) ls ≡ pos 0
  unfolding NoneFrom
  none-left from count u [] h none = refl
  none-left from count u (l ∷ ls) h none =
      let rest = none-left (suc from) count u ls h none.1 in
      let one : r from *ℤ line_entry f p (suc u) l ≡ pos 0 = ap (λ (z : ℤ). r from *ℤ z) (none.0 u h) ∙ *ℤ_comm (r from) (pos 0) ∙ zero-*ℤ (r from) in
      omega (arith, ints, rest, one)

  pub contradicts : (ls : List Line) → length ls ≤ 4300 → HaveForms f p ls → NoneFrom f p (length p.spans) ls → IsSum f p ls r → Positive f p r (suc (length p.spans)) ls →
      ((u : ℕ) → u < length p.spans → r (suc u) ≡ pos 0) → pos 0 <ℤ r 0 → Contradicts f p (chosen r (suc (length p.spans)) ls)
  contradicts ls few forms none sum positive cancelled above = record {
    lines = both _ _ (both _ _ (some (chosen r (suc n) ls) constant_above) (most (length (chosen r (suc n) ls)) (no-more (suc n) ls))) (all-lines (suc n) ls forms);
    cancel = λ u. chosen-factor f p r u (suc n) ls positive ∙ by u (nat_le (suc u) n) refl;
    positive = constant_above;
  }
    where
      n : ℕ
      n = length p.spans

      constant_above : pos 0 <ℤ total_constant f p (chosen r (suc n) ls)
      constant_above = subst (λ (z : ℤ). pos 0 <ℤ z) (sum 0 (omega arith) ∙ sym (chosen-constant f p r (suc n) ls positive)) above

      some : (cs : List Line) → pos 0 <ℤ total_constant f p cs → nat_le 1 (length cs) ≡ true
      some [] h = absurd (omega (arith, ints, h))
      some (c ∷ cs) h = grind arith

      most : (k : ℕ) → k ≤ length ls → nat_le k 4300 ≡ true
      most k h = grind (arith, h, few)

      by : (u : ℕ) (b : Bool) → nat_le (suc u) n ≡ b → weighted f p r (suc n) (suc u) ls ≡ pos 0
      by u true e = sym (sum (suc u) (grind (arith, e))) ∙ cancelled u (grind (arith, e))
      by u false e = none-left (suc n) n u ls (grind (arith, e)) none
