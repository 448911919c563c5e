-- The value of a constant term is at most its size.
use Rattle.std.proofs.Common.{◌≡◌, ◌∙◌, sym, ap, subst, refl, ℕ, ◌+◌, ◌*◌, ◌≤◌, inl, inr, ℤ, pos, ◌+ℤ◌, ◌-ℤ◌, neg_ℤ}
use Rattle.std.proofs.Common.{Bool, true, false, ◌||◌, ◌&&◌, Option, Some, None, arith, IsTrue, if◌then◌else◌}
use Rattle.std.specs.Prelude.{IfSome, unsigned_abs, int_le, nat_lt, ◌*ℤ◌, option_map}
use Rattle.std.specs.Int.{int_div_euclid}
use Rattle.std.proofs.lemmas.Bool.{cases_Bool}
use Rattle.std.proofs.lemmas.Bool.Decides.{nat_tests}
use Rattle.std.proofs.lemmas.Int.{unsigned_abs-mul}
use Rattle.std.proofs.Math.Nat.{mul-le-mul_left}
use Rattle.ft_tree.specs.declared.expr.Op.{Op}
use Rattle.ft_tree.specs.declared.expr.Op.TheVariants as op
use Rattle.ft_tree.specs.declared.expr.Expr.{Expr, Expr-F, map-Expr, roll-Expr, ind-Expr}
use Rattle.ft_tree.specs.declared.expr.Expr.TheOpen as layer
use Rattle.ft_tree.specs.declared.expr.Expr.TheVariants.{rolls-Num, rolls-Name, rolls-Truth, rolls-Prev, rolls-Age, rolls-Not, rolls-Neg}
use Rattle.ft_tree.specs.declared.expr.Expr.TheVariants.{rolls-Two}
use Rattle.ft_names.specs.declared.card.Card.{Card}
use Rattle.ft_names.specs.declared.card.Card.TheVariants.{Constant, TypeName, Member, Variable, Memory, Block, Invariant}
use Rattle.ft_names.specs.declared.card.Values.{Values}
use Rattle.ft_names.specs.declared.card.Values.TheVariants.{Numbers, Truths, Members, Untyped}
use Rattle.ft_names.specs.meaning.Cards.{Env}
use Rattle.ft_measure.specs.declared.measure.Measure.{Measure}
use Rattle.ft_measure.specs.meaning.Measures.{both_sizes, both_values, capped, is_above, joined, limit, measure, of_age}
use Rattle.ft_measure.specs.meaning.Measures.{of_bounds, of_constant, of_name, of_operator, of_prev, of_product}
use Rattle.ft_measure.specs.meaning.Measures.{of_values, product_size, quotient, unmeasured}
use Rattle.ft_measure.specs.laws.Bounded.{IsBounded}
use Rattle.ft_measure.specs.laws.Layers.{measure-Num, measure-Name, measure-Truth, measure-Prev, measure-Age, measure-Not, measure-Neg}
use Rattle.ft_measure.specs.laws.Layers.{measure-Two}
use Rattle.ft_measure.proofs.SizeLemmas.{IsAdditive, sum_additive, difference_additive, negation_same, quotient_at_most}

or-right : (a b : Bool) → (a || b) ≡ false → b ≡ false
or-right true b e = cc e
or-right false b e = e

if-none : (b : Bool) (v : Option ℤ) (x : ℤ) → (if b then None else v) ≡ Some x → (b ≡ false) × (v ≡ Some x)
if-none true v x e = cc e
if-none false v x e = (refl, e)

above-cap : (n : ℕ) → nat_lt limit (capped n) ≡ false → n ≤ limit
above-cap n e = grind (arith, nat_tests)

-- a value that is there is that of a constant, and at most the size
abbrev pub IsKept : Bool → Option ℤ → Option ℕ → Type 0
IsKept constant v s = (x : ℤ) → v ≡ Some x → (constant ≡ true) × (n : ℕ) × (s ≡ Some (capped n)) × (unsigned_abs x ≤ n)

joined-size : (s : Option ℕ) (x : ℤ) (n : ℕ) → s ≡ Some (capped n) → unsigned_abs x ≤ n → is_above s ≡ false
    → (m : ℕ) × (s ≡ Some m) × (unsigned_abs x ≤ m) × (m ≤ limit)
joined-size s x n size least below =
    let low : n ≤ limit = above-cap n (sym (ap is_above size) ∙ below) in
    (capped n, size, omega arith, omega arith)

pub joined-bounded : (constant large : Bool) (v : Option ℤ) (s : Option ℕ) → IsKept constant v s → IsBounded (joined constant large v s)
joined-bounded constant large v s kept = record {
  constant = λ x e. (kept x (if-none (large || is_above s) v x e).1).0;
  large = λ x e. (if-none (large || is_above s) v x e).0;
  sized = λ x e.
      let k = kept x (if-none (large || is_above s) v x e).1 in
      joined-size s x k.1 k.2 k.3 (or-right large (is_above s) (if-none (large || is_above s) v x e).0);
}

both-parts : (f : ℤ → ℤ → ℤ) (v w : Option ℤ) (x : ℤ) → both_values f v w ≡ Some x
    → (p : ℤ) × (q : ℤ) × (v ≡ Some p) × (w ≡ Some q) × (f p q ≡ x)
both-parts f None w x e = cc e
both-parts f (Some p) None x e = cc e
both-parts f (Some p) (Some q) x e = (p, q, refl, refl, cc e)

both-true : (a b : Bool) → a ≡ true → b ≡ true → (a && b) ≡ true
both-true a b p q = rw (p, q) refl

sized-along : (x y : ℤ) (n : ℕ) → x ≡ y → unsigned_abs x ≤ n → unsigned_abs y ≤ n
sized-along x y n e h = let P : ℤ → Type 0 = λ z. unsigned_abs z ≤ n in subst P e h

pub sum-kept : (f : ℤ → ℤ → ℤ) → IsAdditive f → (a b : Measure) → IsBounded a → IsBounded b
    → IsKept (a.constant && b.constant) (both_values f a.value b.value) (both_sizes a.size b.size)
sum-kept f least a b ha hb x e =
    let parts = both-parts f a.value b.value x e in
    let p = ha.sized parts.0 parts.2 in
    let q = hb.sized parts.1 parts.3 in (
      both-true a.constant b.constant (ha.constant parts.0 parts.2) (hb.constant parts.1 parts.3),
      p.0 + q.0,
      (λ i. both_sizes (p.1 i) (q.1 i)),
      sized-along (f parts.0 parts.1) x (p.0 + q.0) parts.4 (least parts.0 parts.1 p.0 q.0 p.2 q.2),
    )

product-size-is : (a b : Measure) (p : ℤ) (q : ℕ) → a.constant ≡ true → a.large ≡ false → a.value ≡ Some p → b.size ≡ Some q
    → product_size a b ≡ Some (capped (unsigned_abs p * q))
product-size-is a b p q here small value size = rw (here, small, value, size) refl

pub product-kept : (a b : Measure) → IsBounded a → IsBounded b
    → IsKept (a.constant && b.constant) (both_values ◌*ℤ◌ a.value b.value) (product_size a b)
product-kept a b ha hb x e =
    let parts = both-parts ◌*ℤ◌ a.value b.value x e in
    let p = parts.0 in
    let q = hb.sized parts.1 parts.3 in
    let here = ha.constant parts.0 parts.2 in
    let small = ha.large parts.0 parts.2 in (
      both-true a.constant b.constant here (hb.constant parts.1 parts.3),
      unsigned_abs p * q.0,
      product-size-is a b p q.0 here small parts.2 q.1,
      sized-along (p *ℤ parts.1) x (unsigned_abs p * q.0) parts.4
          (rw (unsigned_abs-mul p parts.1) (mul-le-mul_left (unsigned_abs p) q.2)),
    )

kept-cap : (n : ℕ) → n ≤ limit → n ≡ capped n
kept-cap n h = omega arith

negated-part : (v : Option ℤ) (x : ℤ) → option_map neg_ℤ v ≡ Some x → (p : ℤ) × (v ≡ Some p) × (neg_ℤ p ≡ x)
negated-part None x e = cc e
negated-part (Some p) x e = (p, refl, cc e)

pub negation-kept : (a : Measure) → IsBounded a → IsKept a.constant (option_map neg_ℤ a.value) a.size
negation-kept a ha x e =
    let part = negated-part a.value x e in
    let n = ha.sized part.0 part.1 in (
      ha.constant part.0 part.1,
      n.0,
      n.1 ∙ ap (λ m. Some m) (kept-cap n.0 n.3),
      sized-along (neg_ℤ part.0) x n.0 part.2 (rw (negation_same part.0) n.2),
    )

quotient-parts : (v w : Option ℤ) (x : ℤ) → quotient v w ≡ Some x
    → (p : ℤ) × (k : ℤ) × (v ≡ Some p) × (w ≡ Some k) × IsTrue (int_le (pos 1) k) × (int_div_euclid p k ≡ x)
quotient-parts None w x e = cc e
quotient-parts (Some p) None x e = cc e
quotient-parts (Some p) (Some k) x e = elim (cases_Bool (int_le (pos 1) k)) [
  | inl above ↦ (p, k, refl, refl, above, cc (rw above at e))
  | inr other ↦ cc (rw other at e)
]

at-most : (a b c : ℕ) → a ≤ b → b ≤ c → a ≤ c
at-most a b c p q = omega arith

pub quotient-kept : (a b : Measure) → IsBounded a → IsBounded b → IsKept (a.constant && b.constant) (quotient a.value b.value) a.size
quotient-kept a b ha hb x e =
    let parts = quotient-parts a.value b.value x e in
    let n = ha.sized parts.0 parts.2 in (
      both-true a.constant b.constant (ha.constant parts.0 parts.2) (hb.constant parts.1 parts.3),
      n.0,
      n.1 ∙ ap (λ m. Some m) (kept-cap n.0 n.3),
      sized-along (int_div_euclid parts.0 parts.1) x n.0 parts.5 (at-most (unsigned_abs (int_div_euclid parts.0 parts.1))
          (unsigned_abs parts.0) n.0
          (quotient_at_most parts.0 parts.1 parts.4) n.2),
    )

none-kept : (constant : Bool) (s : Option ℕ) → IsKept constant None s
none-kept constant s x e = cc e

constant-kept : (value : ℤ) → IsKept true (Some value) (Some (capped (unsigned_abs value)))
constant-kept value x e =
    let same : value ≡ x = cc e in
    (refl, unsigned_abs value, refl, sized-along value x (unsigned_abs value) same (omega arith))

pub unmeasured-bounded : IsBounded unmeasured
unmeasured-bounded = record { constant = λ x e. cc e; large = λ x e. cc e; sized = λ x e. cc e }

pub constant-bounded : (value : ℤ) → IsBounded (of_constant value)
constant-bounded value = joined-bounded true false (Some value) (Some (capped (unsigned_abs value))) (constant-kept value)

pub bounds-bounded : (lo hi : ℤ) → IsBounded (of_bounds lo hi)
bounds-bounded lo hi = joined-bounded false false None _ (none-kept false _)

values-bounded : (values : Values) → IsBounded (of_values values)
values-bounded (Numbers lo hi) = bounds-bounded lo hi
values-bounded Truths = unmeasured-bounded
values-bounded (Members item count) = unmeasured-bounded
values-bounded Untyped = unmeasured-bounded

name-bounded : (c : Option Card) → IsBounded (of_name c)
name-bounded None = unmeasured-bounded
name-bounded (Some (Constant value)) = constant-bounded value
name-bounded (Some (TypeName values)) = unmeasured-bounded
name-bounded (Some (Member item position)) = unmeasured-bounded
name-bounded (Some (Variable place word values)) = values-bounded values
name-bounded (Some (Memory place side hold)) = unmeasured-bounded
name-bounded (Some (Block place)) = unmeasured-bounded
name-bounded (Some (Invariant block fact)) = unmeasured-bounded

prev-bounded : (c : Option Card) → IsBounded (of_prev c)
prev-bounded None = unmeasured-bounded
prev-bounded (Some (Constant value)) = unmeasured-bounded
prev-bounded (Some (TypeName values)) = unmeasured-bounded
prev-bounded (Some (Member item position)) = unmeasured-bounded
prev-bounded (Some (Variable place word values)) = values-bounded values
prev-bounded (Some (Memory place side hold)) = unmeasured-bounded
prev-bounded (Some (Block place)) = unmeasured-bounded
prev-bounded (Some (Invariant block fact)) = unmeasured-bounded

age-bounded : (c : Option Card) → IsBounded (of_age c)
age-bounded None = unmeasured-bounded
age-bounded (Some (Constant value)) = unmeasured-bounded
age-bounded (Some (TypeName values)) = unmeasured-bounded
age-bounded (Some (Member item position)) = unmeasured-bounded
age-bounded (Some (Variable place word values)) = unmeasured-bounded
age-bounded (Some (Memory place side None)) = unmeasured-bounded
age-bounded (Some (Memory place side (Some hold))) = bounds-bounded (neg_ℤ (pos 1)) hold
age-bounded (Some (Block place)) = unmeasured-bounded
age-bounded (Some (Invariant block fact)) = unmeasured-bounded

pub operator-bounded : (o : Op) (a b : Measure) → IsBounded a → IsBounded b → IsBounded (of_operator o a b)
operator-bounded op.Add a b ha hb = joined-bounded _ _ _ _ (sum-kept ◌+ℤ◌ sum_additive a b ha hb)
operator-bounded op.Sub a b ha hb = joined-bounded _ _ _ _ (sum-kept ◌-ℤ◌ difference_additive a b ha hb)
operator-bounded op.Mul a b ha hb = joined-bounded _ _ _ _ (product-kept a b ha hb)
operator-bounded op.Div a b ha hb = joined-bounded _ _ _ _ (quotient-kept a b ha hb)
operator-bounded op.Or a b ha hb = unmeasured-bounded
operator-bounded op.And a b ha hb = unmeasured-bounded
operator-bounded op.Eq a b ha hb = unmeasured-bounded
operator-bounded op.Ne a b ha hb = unmeasured-bounded
operator-bounded op.Lt a b ha hb = unmeasured-bounded
operator-bounded op.Le a b ha hb = unmeasured-bounded
operator-bounded op.Gt a b ha hb = unmeasured-bounded
operator-bounded op.Ge a b ha hb = unmeasured-bounded

module _ (env : Env) where
  abbrev At : Expr → Type 0
  At e = IsBounded (measure env e)

  by : (e : Expr) (m : Measure) → measure env e ≡ m → IsBounded m → At e
  by e m is h = subst IsBounded (sym is) h

  bounded_layer : (y : Expr-F ((e : Expr) × At e)) → At (roll-Expr (map-Expr ((e : Expr) × At e) Expr (λ e. e.0) y))
  bounded_layer (layer.Num value place) = subst At (sym (rolls-Num value place))
      (by _ _ (measure-Num env value place) (constant-bounded (pos value)))
  bounded_layer (layer.Name name place) = subst At (sym (rolls-Name name place))
      (by _ _ (measure-Name env name place) (name-bounded (env name)))
  bounded_layer (layer.Truth value place) = subst At (sym (rolls-Truth value place))
      (by _ _ (measure-Truth env value place) unmeasured-bounded)
  bounded_layer (layer.Prev name place) = subst At (sym (rolls-Prev name place))
      (by _ _ (measure-Prev env name place) (prev-bounded (env name)))
  bounded_layer (layer.Age name place) = subst At (sym (rolls-Age name place))
      (by _ _ (measure-Age env name place) (age-bounded (env name)))
  bounded_layer (layer.Not of place) = subst At (sym (rolls-Not of.0 place)) (by _ _ (measure-Not env of.0 place) unmeasured-bounded)
  bounded_layer (layer.Neg of place) =
      subst At (sym (rolls-Neg of.0 place)) (by _ _ (measure-Neg env of.0 place)
      (joined-bounded _ _ _ _ (negation-kept (measure env of.0) of.1)))
  bounded_layer (layer.Two o left right place) =
      subst At (sym (rolls-Two o left.0 right.0 place))
      (by _ _ (measure-Two env o left.0 right.0 place) (operator-bounded o (measure env left.0) (measure env right.0) left.1 right.1))

  pub measure_bounded : (e : Expr) → IsBounded (measure env e)
  measure_bounded e = ind-Expr At (λ x y is. subst (λ z. At (roll-Expr z)) is (bounded_layer y)) e

-- a value that is kept is at most 10^15 either way
pub value-small : (v : Option ℤ) → ((x : ℤ) → v ≡ Some x → unsigned_abs x ≤ limit) → IfSome v (λ x. unsigned_abs x ≤ 1000000000000000)
value-small None h = tt
value-small (Some x) h = h x refl

pub bounded-small : (m : Measure) → IsBounded m → IfSome m.value (λ x. unsigned_abs x ≤ 1000000000000000)
bounded-small m h = value-small m.value (λ x e. at-most (unsigned_abs x) (h.sized x e).0 limit (h.sized x e).2 (h.sized x e).3)

pub product-small : (a b : Measure) → IsBounded a → IsBounded b → is_above (product_size a b) ≡ false
    → (x y : ℤ) → a.value ≡ Some x → b.value ≡ Some y → unsigned_abs (x *ℤ y) ≤ 1000000000000000
product-small a b ha hb below x y p q =
    let k = product-kept a b ha hb (x *ℤ y) (λ i. both_values ◌*ℤ◌ (p i) (q i)) in
    let m = joined-size (product_size a b) (x *ℤ y) k.1 k.2 k.3 below in
    at-most (unsigned_abs (x *ℤ y)) m.0 limit m.2 m.3

or-true : (a b : Bool) → b ≡ true → (a || b) ≡ true
or-true true b e = refl
or-true false b e = e

joined-dropped : (constant large : Bool) (v w : Option ℤ) (s : Option ℕ) → is_above s ≡ true → joined constant large v s
    ≡ joined constant large w s
joined-dropped constant large v w s above =
    let big : (large || is_above s) ≡ true = or-true large (is_above s) above in
    rw big refl

-- a product whose size is above the limit keeps no value
pub product-dropped : (a b : Measure) → is_above (product_size a b) ≡ true
    → joined (a.constant && b.constant) (a.large || b.large) None (product_size a b) ≡ of_product a b
product-dropped a b above =
    joined-dropped (a.constant && b.constant) (a.large || b.large) None (both_values ◌*ℤ◌ a.value b.value) (product_size a b) above

pub ruleset bounded = (bounded-small, product-small, product-dropped)
