-- Rows that are sums of lines: combined, they are sums again, and one with no unknown and a positive constant contradicts.
use Rattle.std.proofs.Common.{◌≡◌, ◌∙◌, inl, inr, sym, ap, subst, refl, ℕ, suc, ◌+◌, ◌<◌, ◌≤◌, ℤ, pos, ◌+ℤ◌, ◌*ℤ◌, ◌≤ℤ◌, true, List, [], ◌∷◌, length, unsigned_abs, arith}
use Rattle.std.specs.Prelude.{nat_eq}
use Rattle.std.proofs.lemmas.Bool.{cases_Bool}
use Rattle.std.proofs.lemmas.Int.{ints}
use Rattle.std.proofs.Math.IntN.{zero-*ℤ}
use Rattle.ft_linear.specs.declared.lines.Line.{Line}
use Rattle.ft_linear.specs.declared.lines.Line.TheVariants.{Atom, Upper, Lower}
use Rattle.ft_linear.specs.meaning.Formula.{FormulaView}
use Rattle.ft_linear.specs.meaning.Part.{PartView}
use Rattle.ft_linear.specs.meaning.Rules.{line_form, factors_in, constant_in, factor_of, total_factor, total_constant, times_of}
use Rattle.ft_farkas.proofs.Arithmetic.{add-mul, mul-add, quotient-is}
use Rattle.ft_farkas.proofs.Arithmetic.{mul-assoc, times-none}
use Rattle.ft_farkas.specs.meaning.Rows.{Row, line_entry, weighted, IsSum, with_times, chosen}

-- a product with a sum of products
pub blend-times : (g m n : ℕ) (t r s e : ℤ) → pos g *ℤ t ≡ (pos m *ℤ r) +ℤ (pos n *ℤ s) → pos g *ℤ (t *ℤ e) ≡ (pos m *ℤ (r *ℤ e)) +ℤ (pos n *ℤ (s *ℤ e))
blend-times g m n t r s e is =
    sym (mul-assoc g t e) ∙ ap (λ (z : ℤ). z *ℤ e) is ∙ add-mul (pos m *ℤ r) (pos n *ℤ s) e ∙ (λ i. mul-assoc m r e i +ℤ mul-assoc n s e i)

pub cancel-times : (g : ℕ) (a b : ℤ) → 0 < g → pos g *ℤ a ≡ pos g *ℤ b → a ≡ b
cancel-times g a b h is = sym (quotient-is (pos g *ℤ a) a g h refl) ∙ quotient-is (pos g *ℤ a) b g h is

module _ (f : FormulaView) (p : PartView) (columns : ℕ) (g m n : ℕ) (r s t : Row)
    (divided : (c : ℕ) → c < columns → pos g *ℤ t c ≡ (pos m *ℤ r c) +ℤ (pos n *ℤ s c)) where
  pub weighted-combined : (from column : ℕ) (ls : List Line) → from + length ls ≤ columns →
      pos g *ℤ weighted f p t from column ls ≡ (pos m *ℤ weighted f p r from column ls) +ℤ (pos n *ℤ weighted f p s from column ls)
  weighted-combined from column [] h = let a = times-none g in let b = times-none m in let c = times-none n in omega (arith, ints, a, b, c)
  weighted-combined from column (l ∷ ls) h =
      let e = line_entry f p column l in
      let rest = weighted-combined (suc from) column ls (omega (arith, h)) in
      let one = blend-times g m n (t from) (r from) (s from) e (divided from (omega (arith, h))) in
      let a = mul-add (pos g) (t from *ℤ e) (weighted f p t (suc from) column ls) in
      let b = mul-add (pos m) (r from *ℤ e) (weighted f p r (suc from) column ls) in
      let c = mul-add (pos n) (s from *ℤ e) (weighted f p s (suc from) column ls) in
      omega (arith, ints, rest, one, a, b, c)

  pub combined-sum : (ls : List Line) → 0 < g → suc (length p.spans) + length ls ≤ columns → IsSum f p ls r → IsSum f p ls s → IsSum f p ls t
  combined-sum ls positive fits r_sum s_sum column within =
      let all = weighted-combined (suc (length p.spans)) column ls fits in
      let own = divided column (omega (arith, fits, within)) in
      let left : pos m *ℤ r column ≡ pos m *ℤ weighted f p r (suc (length p.spans)) column ls = ap (λ (z : ℤ). pos m *ℤ z) (r_sum column within) in
      let right : pos n *ℤ s column ≡ pos n *ℤ weighted f p s (suc (length p.spans)) column ls = ap (λ (z : ℤ). pos n *ℤ z) (s_sum column within) in
      cancel-times g (t column) (weighted f p t (suc (length p.spans)) column ls) positive (omega (arith, ints, all, own, left, right))

-- the chosen lines have the row's sum
module _ (f : FormulaView) (p : PartView) (r : Row) where
  pub same-form : (t : ℕ) (l : Line) → line_form f p (with_times t l) ≡ line_form f p l
  same-form t (Atom number value times) = refl
  same-form t (Upper unknown times) = refl
  same-form t (Lower unknown times) = refl

  pub same-times : (t : ℕ) (l : Line) → times_of (with_times t l) ≡ t
  same-times t (Atom number value times) = refl
  same-times t (Upper unknown times) = refl
  same-times t (Lower unknown times) = refl

  unfoldable pub Positive : ℕ → List Line → Type 0
  Positive from ls = (i : ℕ) → i < length ls → pos 0 ≤ℤ r (from + i)

  positive-rest : (from : ℕ) (l : Line) (ls : List Line) → Positive from (l ∷ ls) → Positive (suc from) ls
  unfolding Positive
  positive-rest from l ls h i below = subst (λ (c : ℕ). pos 0 ≤ℤ r c) (sum-next from i) (h (suc i) (omega (arith, below)))
    where
      sum-next : (a b : ℕ) → a + suc b ≡ suc a + b
      sum-next a b = omega arith

  positive-first : (from : ℕ) (l : Line) (ls : List Line) → Positive from (l ∷ ls) → pos (unsigned_abs (r from)) ≡ r from
  unfolding Positive
  positive-first from l ls h = is-pos (r from) (subst (λ (c : ℕ). pos 0 ≤ℤ r c) (no-more from) (h 0 (omega arith)))
    where
      no-more : (a : ℕ) → a + 0 ≡ a
      no-more a = omega arith

      is-pos : (z : ℤ) → pos 0 ≤ℤ z → pos (unsigned_abs z) ≡ z
      is-pos z e = grind (arith, ints, e)

  none-there : (z e : ℤ) → pos (unsigned_abs z) ≡ z → nat_eq (unsigned_abs z) 0 ≡ true → z *ℤ e ≡ pos 0
  none-there z e is so = ap (λ (y : ℤ). y *ℤ e) (nothing z is so) ∙ zero-*ℤ e
    where
      nothing : (z : ℤ) → pos (unsigned_abs z) ≡ z → nat_eq (unsigned_abs z) 0 ≡ true → z ≡ pos 0
      nothing z is so = grind (arith, ints, is, so)

  pub chosen-factor : (u from : ℕ) (ls : List Line) → Positive from ls → total_factor f p u (chosen r from ls) ≡ weighted f p r from (suc u) ls
  chosen-factor u from [] h = refl
  chosen-factor u from (l ∷ ls) h =
      let rest = chosen-factor u (suc from) ls (positive-rest from l ls h) in
      let is = positive-first from l ls h in
      elim (cases_Bool (nat_eq (unsigned_abs (r from)) 0)) [
        | inl so ↦ let none = none-there (r from) (line_entry f p (suc u) l) is so in rw so (omega (arith, ints, rest, none))
        | inr isnt ↦ rw isnt (λ i. (one is i) +ℤ rest i)
      ]
    where
      one : pos (unsigned_abs (r from)) ≡ r from → (pos (times_of (with_times (unsigned_abs (r from)) l)) *ℤ factor_of u (factors_in (line_form f p (with_times (unsigned_abs (r from)) l)))) ≡ r from *ℤ line_entry f p (suc u) l
      one is = (λ i. pos (same-times (unsigned_abs (r from)) l i) *ℤ factor_of u (factors_in (same-form (unsigned_abs (r from)) l i))) ∙ ap (λ (z : ℤ). z *ℤ line_entry f p (suc u) l) is

  pub chosen-constant : (from : ℕ) (ls : List Line) → Positive from ls → total_constant f p (chosen r from ls) ≡ weighted f p r from 0 ls
  chosen-constant from [] h = refl
  chosen-constant from (l ∷ ls) h =
      let rest = chosen-constant (suc from) ls (positive-rest from l ls h) in
      let is = positive-first from l ls h in
      elim (cases_Bool (nat_eq (unsigned_abs (r from)) 0)) [
        | inl so ↦ let none = none-there (r from) (line_entry f p 0 l) is so in rw so (omega (arith, ints, rest, none))
        | inr isnt ↦ rw isnt (λ i. (one is i) +ℤ rest i)
      ]
    where
      one : pos (unsigned_abs (r from)) ≡ r from → (pos (times_of (with_times (unsigned_abs (r from)) l)) *ℤ constant_in (line_form f p (with_times (unsigned_abs (r from)) l))) ≡ r from *ℤ line_entry f p 0 l
      one is = (λ i. pos (same-times (unsigned_abs (r from)) l i) *ℤ constant_in (same-form (unsigned_abs (r from)) l i)) ∙ ap (λ (z : ℤ). z *ℤ line_entry f p 0 l) is
