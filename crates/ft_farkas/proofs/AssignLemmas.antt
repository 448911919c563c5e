-- Fractions of all unknowns in turn.
use Rattle.std.proofs.Common.{◌≡◌, ◌∙◌, inl, inr, sym, ap, subst, ℕ, zero, suc, ◌+◌, ◌<◌, ◌≤◌, ℤ, pos, ◌*ℤ◌, ◌⊎◌, List, length, unsigned_abs, arith}
use Prim.Native.Nat.{◌∣◌}
use Rattle.std.proofs.lemmas.Int.{ints}
use Rattle.std.proofs.lemmas.Nat.Gcd.{le_of_dvd}
use Rattle.ft_farkas.specs.meaning.Rows.{Row, constant}
use Rattle.ft_farkas.specs.meaning.Kept.{row_in}
use Rattle.ft_farkas.specs.meaning.Fractions.{AreGiven}
use Rattle.ft_farkas.specs.meaning.Answers.{HasFar, IsFarNumber}
use Rattle.ft_farkas.specs.building.Forms.{NoneContradict}
use Rattle.ft_farkas.specs.building.Points.{IsBound, IsExtended, IsNear, AllUnder, NoneOver}
use Rattle.ft_farkas.specs.building.Turns.{IsUp}
use Rattle.ft_farkas.proofs.GivingLemmas.{given-more}

pub begun : (n : ℕ) (kept : List (List ℤ)) (x : Row) → x 0 ≡ pos 1 → NoneContradict n kept (length kept) → IsUp n kept x 0
begun n kept x one none = (
  record {
    positive = omega (arith, ints, one);
    lowest = λ e d each. divides-one e (subst (λ (z : ℤ). e ∣ unsigned_abs z) one d);
    meet = λ k below last. let h = none k below last in let m = once (constant (row_in kept k)) in omega (arith, ints, h, m);
    greatest = λ u below. absurd (omega (arith, below));
  },
  λ c low. subst (λ (k : ℕ). IsNear (x k)) (zero-is c low) (subst IsNear (sym one) (omega (arith, ints))),
)
  where
    zero-is : (c : ℕ) → c ≤ 0 → 0 ≡ c
    zero-is c h = omega (arith, h)

    once : (z : ℤ) → x 0 *ℤ z ≡ z
    once z = ap (λ (d : ℤ). d *ℤ z) one ∙ unit z
      where
        unit : (z : ℤ) → pos 1 *ℤ z ≡ z
        unit z = omega (arith, ints)

    divides-one : (e : ℕ) → e ∣ 1 → e ≤ 1
    divides-one e h = le_of_dvd (omega arith) h

-- a number that is not near is far
far-number : (z : ℤ) → (IsNear z → ⊥) → IsFarNumber z
far-number z h = grind (arith, h)

module _ (n u : ℕ) (kept : List (List ℤ)) (x y : Row) (at times : ℕ) (value : ℤ) (more : IsExtended u times value x y) (bound : IsBound n u kept x at value times)
    (all : AllUnder n u kept x (length kept) value times) (none : NoneOver n u kept x (length kept) value times) (within : u < n) (up : IsUp n kept x u) where
  pub up-more : ((c : ℕ) → c ≤ u + 1 → IsNear (y c)) → IsUp n kept y (u + 1)
  up-more near = (subst (AreGiven n kept (λ v. y (suc v)) (y 0)) next (given-more n u kept x y times value more at bound all none within up.0), near)
    where
      next : suc u ≡ u + 1
      next = omega arith

  pub beyond : (c : ℕ) → c ≤ u + 1 → (IsNear (y c) → ⊥) → HasFar n kept
  beyond c low far = record {
    given = suc u;
    within = omega (arith, within);
    numerators = λ v. y (suc v);
    denominator = y 0;
    fractions = given-more n u kept x y times value more at bound all none within up.0;
    far = by c low far;
  }
    where
      by : (c : ℕ) → c ≤ u + 1 → (IsNear (y c) → ⊥) → IsFarNumber (y 0) ⊎ ((v : ℕ) × (v < suc u) × IsFarNumber (y (suc v)))
      by zero low far = inl (far-number (y 0) far)
      by (suc v) low far = inr (v, omega (arith, low), far-number (y (suc v)) far)
