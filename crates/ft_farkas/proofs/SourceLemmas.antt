-- Lines and bounds as rows are sums of themselves.
use Rattle.std.proofs.Common.{◌≡◌, ◌≢◌, ◌∙◌, sym, ap, refl, ℕ, zero, suc, ◌+◌, ◌≤◌, ℤ, pos, ◌*ℤ◌, Bool, true, false, cond, List, [], ◌∷◌, length, arith}
use Rattle.std.specs.Prelude.{nat_eq, nat_lt, slice_get}
use Rattle.std.proofs.lemmas.Int.{ints}
use Rattle.std.proofs.Math.IntN.{zero-*ℤ}
use Rattle.ft_linear.specs.declared.lines.Line.{Line}
use Rattle.ft_linear.specs.meaning.Formula.{FormulaView}
use Rattle.ft_linear.specs.meaning.Part.{PartView}
use Rattle.ft_farkas.specs.meaning.Rows.{Row, line_entry, entry_in, weighted, sources, source_row, IsSum}

module _ (f : FormulaView) (p : PartView) where
  zero-sum : (r : Row) (from column : ℕ) (ls : List Line) → ((i : ℕ) → r (from + i) ≡ pos 0) → weighted f p r from column ls ≡ pos 0
  zero-sum r from column [] h = refl
  zero-sum r from column (l ∷ ls) h =
      let rest = zero-sum r (suc from) column ls (λ i. ap r (next from i) ∙ h (suc i)) in
      let one : r from *ℤ line_entry f p column l ≡ pos 0 = ap (λ (z : ℤ). z *ℤ line_entry f p column l) (ap r (same from) ∙ h 0) ∙ zero-*ℤ (line_entry f p column l) in
      omega (arith, ints, rest, one)
    where
      next : (a i : ℕ) → suc a + i ≡ a + suc i
      next a i = omega arith

      same : (a : ℕ) → a ≡ a + 0
      same a = omega arith

  unit-sum : (r : Row) (from column k : ℕ) (ls : List Line) → r (from + k) ≡ pos 1 → ((i : ℕ) → i ≢ k → r (from + i) ≡ pos 0) → weighted f p r from column ls ≡ entry_in f p column (slice_get ls k)
  unit-sum r from column zero [] one none = refl
  unit-sum r from column (suc k) [] one none = refl
  unit-sum r from column zero (l ∷ ls) one none =
      let rest = zero-sum r (suc from) column ls (λ i. ap r (next from i) ∙ none (suc i) (λ e. omega (arith, e))) in
      let here : r from *ℤ line_entry f p column l ≡ line_entry f p column l = ap (λ (z : ℤ). z *ℤ line_entry f p column l) (ap r (same from) ∙ one) ∙ once (line_entry f p column l) in
      omega (arith, ints, rest, here)
    where
      next : (a i : ℕ) → suc a + i ≡ a + suc i
      next a i = omega arith

      same : (a : ℕ) → a ≡ a + 0
      same a = omega arith

      once : (z : ℤ) → pos 1 *ℤ z ≡ z
      once z = omega (arith, ints)
  unit-sum r from column (suc k) (l ∷ ls) one none =
      let rest = unit-sum r (suc from) column k ls (ap r (next from k) ∙ one) (λ i other. ap r (next from i) ∙ none (suc i) (λ e. other (omega (arith, e)))) in
      let here : r from *ℤ line_entry f p column l ≡ pos 0 = ap (λ (z : ℤ). z *ℤ line_entry f p column l) (ap r (same from) ∙ none 0 (λ e. omega (arith, e))) ∙ zero-*ℤ (line_entry f p column l) in
      omega (arith, ints, rest, here)
    where
      next : (a i : ℕ) → suc a + i ≡ a + suc i
      next a i = omega arith

      same : (a : ℕ) → a ≡ a + 0
      same a = omega arith

  pub source-sum : (lines : List Line) (k : ℕ) → IsSum f p (sources p lines) (source_row f p lines k)
  source-sum lines k column within =
      ap (λ (b : Bool). cond b (cond (nat_eq column (suc n + k)) (pos 1) (pos 0)) (entry_in f p column (slice_get (sources p lines) k))) (low n column within)
      ∙ sym (unit-sum (source_row f p lines k) (suc n) column k (sources p lines) (at-own k) (λ i other. at-other i other))
    where
      n : ℕ
      n = length p.spans

      low : (n c : ℕ) → c ≤ n → nat_lt n c ≡ false
      low n c h = grind (arith, h)

      over : (n i : ℕ) → nat_lt n (suc n + i) ≡ true
      over n i = grind arith

      own : (c : ℕ) → nat_eq c c ≡ true
      own c = grind arith

      apart : (n i k : ℕ) → i ≢ k → nat_eq (suc n + i) (suc n + k) ≡ false
      apart n i k h = grind (arith, h)

      past : (i : ℕ) → source_row f p lines k (suc n + i) ≡ cond (nat_eq (suc n + i) (suc n + k)) (pos 1) (pos 0)
      past i = ap (λ (b : Bool). cond b (cond (nat_eq (suc n + i) (suc n + k)) (pos 1) (pos 0)) (entry_in f p (suc n + i) (slice_get (sources p lines) k))) (over n i)

      at-own : (k' : ℕ) → source_row f p lines k (suc n + k) ≡ pos 1
      at-own k' = past k ∙ ap (λ (b : Bool). cond b (pos 1) (pos 0)) (own (suc n + k))

      at-other : (i : ℕ) → i ≢ k → source_row f p lines k (suc n + i) ≡ pos 0
      at-other i other = past i ∙ ap (λ (b : Bool). cond b (pos 1) (pos 0)) (apart n i k other)
