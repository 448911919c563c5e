-- One fraction more, by the greatest lower bound.
use Rattle.std.proofs.Common.{◌≡◌, ◌∙◌, sym, ap, subst, refl, ℕ, zero, suc, ◌+◌, ◌%◌, ◌<◌, ◌≤◌, ℤ, pos, negsuc, neg_ℤ, ◌*ℤ◌, ◌<ℤ◌, ◌≤ℤ◌, List, length, Bool, true, false, nat_eq, unsigned_abs, arith}
use Prim.Native.Nat.{◌∣◌}
use Rattle.std.proofs.lemmas.Int.{ints, by_lt_z}
use Rattle.std.proofs.lemmas.Nat.Gcd.{mod-eq-zero_of_dvd}
use Rattle.std.proofs.Math.IntN.{zero-*ℤ, *ℤ_comm}
use Rattle.ft_farkas.proofs.Arithmetic.{mul-add, mul-assoc, times-none, times-up}
use Rattle.ft_farkas.specs.meaning.Rows.{Row, factor}
use Rattle.ft_farkas.specs.meaning.Kept.{row_in, Divides}
use Rattle.ft_farkas.specs.meaning.Fractions.{row_at, IsBelow, IsGreatest, AreGiven}
use Rattle.ft_farkas.specs.building.Points.{dot, excess, IsBound, IsExtended, IsNear, AllUnder, NoneOver}
use Rattle.ft_farkas.specs.building.Quotients.{quotient_of}
use Rattle.ft_farkas.proofs.DividingLemmas.{quotient-exact, none-greater}
use Rattle.ft_farkas.proofs.CombineLemmas.{small-product}
use Rattle.ft_farkas.proofs.SumLemmas.{cancel-times}
use Rattle.ft_farkas.proofs.BoundLemmas.{le-cancel, own-excess, some-times}

-- the numbers of the extended point, divided
module _ (u times : ℕ) (value : ℤ) (x z : Row) (g : ℕ)
    (scaled : (c : ℕ) → c < u + 1 → z c ≡ pos times *ℤ x c) (last : z (u + 1) ≡ value)
    (divides : (c : ℕ) → c < u + 2 → g ∣ unsigned_abs (z c)) where
  pub extended-some : 0 < times → pos 0 <ℤ x 0 → 0 < g
  extended-some some above = by g (z 0) (divides 0 (omega arith)) (let up = times-up times (pos 1) (x 0) (omega (arith, ints, above)) in let e = scaled 0 (omega arith) in let one : pos times *ℤ pos 1 ≡ pos times = unit times in omega (arith, ints, up, e, one, some))
    where
      unit : (k : ℕ) → pos k *ℤ pos 1 ≡ pos k
      unit k = omega (arith, ints)

      by : (g : ℕ) (y : ℤ) → g ∣ unsigned_abs y → pos 0 <ℤ y → 0 < g
      by zero y h above = absurd (let e = mod-eq-zero_of_dvd zero h in none y e above)
        where
          none : (y : ℤ) → unsigned_abs y % 0 ≡ 0 → pos 0 <ℤ y → ⊥
          none y e above = grind (arith, ints, e, above)
      by (suc g) y h above = omega arith

  pub extended-small : times ≤ 4611686018427387904 → unsigned_abs value ≤ 85070591730234615865843651857942052864 → ((c : ℕ) → c ≤ u → IsNear (x c)) →
      (c : ℕ) → c < u + 2 → unsigned_abs (z c) ≤ 85070591730234615865843651857942052864
  extended-small few small near c below = by (nat_eq c (u + 1)) refl
    where
      same : (a b : ℕ) → nat_eq a b ≡ true → a ≡ b
      same a b e = grind (arith, e)

      less : (a u : ℕ) → nat_eq a (u + 1) ≡ false → a < u + 2 → a < u + 1
      less a u e h = grind (arith, e, h)

      within : (y : ℤ) → y ≤ℤ pos 21267647932558653966460912964485513216 → neg_ℤ (pos 21267647932558653966460912964485513216) ≤ℤ y → unsigned_abs y ≤ 85070591730234615865843651857942052864
      within y a b = omega (arith, ints, a, b)

      by : (b : Bool) → nat_eq c (u + 1) ≡ b → unsigned_abs (z c) ≤ 85070591730234615865843651857942052864
      by true e = subst (λ (y : ℤ). unsigned_abs y ≤ 85070591730234615865843651857942052864) (sym (ap z (same c (u + 1) e) ∙ last)) small
      by false e =
          let low = less c u e below in
          let p = small-product times (x c) few (let h = near c (omega (arith, low)) in omega (arith, h)) in
          subst (λ (y : ℤ). unsigned_abs y ≤ 85070591730234615865843651857942052864) (sym (scaled c low)) (within (pos times *ℤ x c) p.0 p.1)

  pub extended : (y : Row) → 0 < g → ((c : ℕ) → c < u + 2 → y c ≡ quotient_of (z c) g) → ((d : ℕ) → ((c : ℕ) → c < u + 2 → d ∣ unsigned_abs (z c)) → d ∣ g) →
      IsExtended u times value x y
  extended y some is greatest = record {
    divisor = g;
    positive = some;
    scaled = λ c below. ap (λ (k : ℤ). pos g *ℤ k) (is c (omega (arith, below))) ∙ sym (quotient-exact (z c) g (divides c (omega (arith, below)))) ∙ scaled c (omega (arith, below));
    last = ap (λ (c : ℕ). pos g *ℤ y c) next ∙ ap (λ (k : ℤ). pos g *ℤ k) (is (u + 1) (omega arith)) ∙ sym (quotient-exact (z (u + 1)) g (divides (u + 1) (omega arith))) ∙ last;
    lowest = λ e all. none-greater z (u + 2) g some divides greatest e (λ c below. subst (λ (k : ℤ). e ∣ unsigned_abs k) (is c below) (all c (omega (arith, below))));
  }
    where
      next : suc u ≡ u + 1
      next = omega arith

turned : (m : ℕ) (a y : ℤ) → pos m *ℤ (a *ℤ y) ≡ a *ℤ (pos m *ℤ y)
turned m a y = ap (λ (z : ℤ). pos m *ℤ z) (*ℤ_comm a y) ∙ sym (mul-assoc m y a) ∙ *ℤ_comm (pos m *ℤ y) a

pub dot-scaled : (m k n : ℕ) (r x y : Row) → ((c : ℕ) → c < n → pos m *ℤ y c ≡ pos k *ℤ x c) → pos m *ℤ dot n r y ≡ pos k *ℤ dot n r x
dot-scaled m k zero r x y same = times-none m ∙ sym (times-none k)
dot-scaled m k (suc n) r x y same =
    let rest = dot-scaled m k n r x y (λ c below. same c (omega (arith, below))) in
    let a = mul-add (pos m) (dot n r y) (r n *ℤ y n) in
    let b = mul-add (pos k) (dot n r x) (r n *ℤ x n) in
    let e = turned m (r n) (y n) in let f = turned k (r n) (x n) in
    let one : r n *ℤ (pos m *ℤ y n) ≡ r n *ℤ (pos k *ℤ x n) = ap (λ (z : ℤ). r n *ℤ z) (same n (omega arith)) in
    omega (arith, ints, rest, a, b, e, f, one)

-- the value of a row by columns
pub dot-row : (u : ℕ) (r x : Row) → dot (suc u) r x ≡ row_at u r (λ v. x (suc v)) (x 0)
dot-row zero r x = let e = *ℤ_comm (r 0) (x 0) in omega (arith, ints, e)
dot-row (suc u) r x = let rest = dot-row u r x in omega (arith, ints, rest)

module _ (n u : ℕ) (kept : List (List ℤ)) (x y : Row) (times : ℕ) (value : ℤ) (more : IsExtended u times value x y) where
  pub extended-dot : (r : Row) → pos more.divisor *ℤ dot (suc (suc u)) r y ≡ excess u r x times value
  extended-dot r =
      let rest = dot-scaled more.divisor times (suc u) r x y (λ c below. more.scaled c (omega (arith, below))) in
      let a = mul-add (pos more.divisor) (dot (suc u) r y) (r (suc u) *ℤ y (suc u)) in
      let e = turned more.divisor (r (suc u)) (y (suc u)) in
      let one : r (suc u) *ℤ (pos more.divisor *ℤ y (suc u)) ≡ r (suc u) *ℤ value = ap (λ (z : ℤ). r (suc u) *ℤ z) more.last in
      omega (arith, ints, rest, a, e, one)

  under : (k : ℕ) (z : ℤ) → 0 < k → (pos k *ℤ z) ≤ℤ pos 0 → z ≤ℤ pos 0
  under k z some le = let e = times-none k in le-cancel k z (pos 0) some (omega (arith, ints, le, e))

  -- a row that is met stays met where the denominator is another
  pub scaled-met : (v : ℕ) (r : Row) → v ≤ u → row_at v r (λ w. x (suc w)) (x 0) ≤ℤ pos 0 → row_at v r (λ w. y (suc w)) (y 0) ≤ℤ pos 0
  scaled-met v r low met =
      let e = dot-scaled more.divisor times (suc v) r x y (λ c below. more.scaled c (omega (arith, below, low))) in
      let a = dot-row v r x in let b = dot-row v r y in
      let up = times-up times (dot (suc v) r x) (pos 0) (omega (arith, ints, a, met)) in let z = times-none times in
      let all = under more.divisor (dot (suc v) r y) more.positive (omega (arith, ints, e, up, z)) in
      omega (arith, ints, all, b)

  pub scaled-reached : (v : ℕ) (r : Row) → v ≤ u → row_at v r (λ w. x (suc w)) (x 0) ≡ pos 0 → row_at v r (λ w. y (suc w)) (y 0) ≡ pos 0
  scaled-reached v r low reached =
      let e = dot-scaled more.divisor times (suc v) r x y (λ c below. more.scaled c (omega (arith, below, low))) in
      let zero-x : pos times *ℤ dot (suc v) r x ≡ pos 0 = ap (λ (z : ℤ). pos times *ℤ z) (dot-row v r x ∙ reached) ∙ times-none times in
      sym (dot-row v r y) ∙ cancel-times more.divisor (dot (suc v) r y) (pos 0) more.positive (e ∙ zero-x ∙ sym (times-none more.divisor))

  module _ (at : ℕ) (bound : IsBound n u kept x at value times) (all : AllUnder n u kept x (length kept) value times) (none : NoneOver n u kept x (length kept) value times)
      (within : u < n) (given : AreGiven n kept (λ v. x (suc v)) (x 0) u) where
    row-met : (k : ℕ) → k < length kept → IsBelow n (suc u) (row_in kept k) → excess u (row_in kept k) x times value ≤ℤ pos 0
    row-met k below last = by_lt_z f (pos 0)
        (λ less. all k below (less, last))
        (λ other. by_lt_z (pos 0) f (λ more. none k below (more, last)) (λ same. at-none (omega (arith, ints, other, same))))
      where
        f : ℤ
        f = factor u (row_in kept k)

        at-none : f ≡ pos 0 → excess u (row_in kept k) x times value ≤ℤ pos 0
        at-none e =
            let met = given.meet k below (λ v low high. by v low high (nat_eq v u) refl) in
            let a = dot-row u (row_in kept k) x in
            let up = times-up times (dot (suc u) (row_in kept k) x) (pos 0) (omega (arith, ints, a, met)) in let z = times-none times in
            let o : factor u (row_in kept k) *ℤ value ≡ pos 0 = ap (λ (z : ℤ). z *ℤ value) e ∙ zero-*ℤ value in
            omega (arith, ints, up, z, o)
          where
            same : (a b : ℕ) → nat_eq a b ≡ true → a ≡ b
            same a b e = grind (arith, e)

            above : (a b : ℕ) → nat_eq a b ≡ false → b ≤ a → suc b ≤ a
            above a b e h = grind (arith, e, h)

            by : (v : ℕ) → u ≤ v → v < n → (b : Bool) → nat_eq v u ≡ b → factor v (row_in kept k) ≡ pos 0
            by v low high true is = ap (λ (j : ℕ). factor j (row_in kept k)) (same v u is) ∙ e
            by v low high false is = last v (above v u is low) high

    pub given-more : AreGiven n kept (λ v. y (suc v)) (y 0) (suc u)
    given-more = record {
      positive = first;
      lowest = λ e d each. more.lowest e (λ c low. by c low e d each);
      meet = λ k below last. met k below last;
      greatest = λ v low. greatest v low (nat_eq v u) refl;
    }
      where
        first : pos 0 <ℤ y 0
        first =
            let up = times-up times (pos 1) (x 0) (let p = given.positive in omega (arith, ints, p)) in
            let e = more.scaled 0 (omega arith) in
            let one : pos times *ℤ pos 1 ≡ pos times = unit times in
            let some = some-times n u kept x at value times bound in
            positive more.divisor (y 0) (omega (arith, ints, up, e, one, some))
          where
            unit : (k : ℕ) → pos k *ℤ pos 1 ≡ pos k
            unit k = omega (arith, ints)

            positive : (k : ℕ) (z : ℤ) → pos 0 <ℤ (pos k *ℤ z) → pos 0 <ℤ z
            positive k (pos zero) lt = absurd (let e = times-none k in omega (arith, ints, lt, e))
            positive k (pos (suc c)) lt = omega (arith, ints)
            positive k (negsuc c) lt = absurd (let d = times-up k (negsuc c) (pos 0) (omega (arith, ints)) in let e = times-none k in omega (arith, ints, lt, d, e))

        by : (c : ℕ) → c ≤ suc u → (e : ℕ) → Divides e (y 0) → ((v : ℕ) → v < suc u → Divides e (y (suc v))) → Divides e (y c)
        by zero low e d each = d
        by (suc v) low e d each = each v (omega (arith, low))

        met : (k : ℕ) → k < length kept → IsBelow n (suc u) (row_in kept k) → row_at (suc u) (row_in kept k) (λ v. y (suc v)) (y 0) ≤ℤ pos 0
        met k below last =
            let e = extended-dot (row_in kept k) in let h = row-met k below last in let a = dot-row (suc u) (row_in kept k) y in
            let o = under more.divisor (dot (suc (suc u)) (row_in kept k) y) more.positive (omega (arith, ints, e, h)) in
            omega (arith, ints, a, o)

        same : (a b : ℕ) → nat_eq a b ≡ true → a ≡ b
        same a b e = grind (arith, e)

        less : (a b : ℕ) → nat_eq a b ≡ false → a < suc b → suc a ≤ b
        less a b e h = grind (arith, e, h)

        own : IsGreatest n kept (λ v. y (suc v)) (y 0) u
        own = record {
          met = λ k below b. met k below b.1;
          row = at;
          within = bound.within;
          bound = bound.bound;
          reached = sym (dot-row (suc u) (row_in kept at) y) ∙ cancel-times more.divisor (dot (suc (suc u)) (row_in kept at) y) (pos 0) more.positive (extended-dot (row_in kept at) ∙ own-excess n u kept x at value times bound ∙ sym (times-none more.divisor));
        }

        greatest : (v : ℕ) → v < suc u → (b : Bool) → nat_eq v u ≡ b → IsGreatest n kept (λ w. y (suc w)) (y 0) v
        greatest v low true is = subst (λ (w : ℕ). IsGreatest n kept (λ j. y (suc j)) (y 0) w) (sym (same v u is)) own
        greatest v low false is =
            let old = given.greatest v (less v u is low) in record {
              met = λ k below b. scaled-met (suc v) (row_in kept k) (less v u is low) (old.met k below b);
              row = old.row;
              within = old.within;
              bound = old.bound;
              reached = scaled-reached (suc v) (row_in kept old.row) (less v u is low) old.reached;
            }
