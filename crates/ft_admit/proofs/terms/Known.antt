-- The value that the building of a term finds is that of its measure, where not-so part of the term is at fault.
use Rattle.std.proofs.Common.{◌≡◌, ◌∙◌, sym, ap, subst, refl, ◌⊎◌, inl, inr, ℕ, ◌≤◌, le_trans, ℤ, pos, neg_ℤ, ◌+ℤ◌, ◌-ℤ◌, ◌*ℤ◌, Bool, true}
use Rattle.std.proofs.Common.{false, ◌&&◌, ◌||◌, Option, Some, None, if◌then◌else◌, option_map, unsigned_abs, int_le, le-leb, true≢false}
use Rattle.std.specs.Int.{int_div_euclid}
use Rattle.std.proofs.lemmas.Bool.{and_parts, cases_Bool}
use Rattle.ft_base.specs.Division.{floor_of}
use Rattle.ft_tree.specs.declared.expr.Op.{Op}
use Rattle.ft_tree.specs.declared.expr.Op.TheVariants as op
use Rattle.ft_names.specs.declared.card.Card.{Card}
use Rattle.ft_names.specs.declared.card.Card.TheVariants as card
use Rattle.ft_names.specs.declared.card.Values.{Values}
use Rattle.ft_names.specs.declared.card.Values.TheVariants.{Numbers, Truths, Members, Untyped}
use Rattle.ft_measure.specs.declared.measure.Measure.{Measure}
use Rattle.ft_measure.specs.declared.slope.Why.TheVariants.{Divisor}
use Rattle.ft_measure.specs.meaning.Measures.{both_values, capped, joined, of_age, of_bounds, of_constant, of_name, of_negation}
use Rattle.ft_measure.specs.meaning.Measures.{of_operator, of_prev, of_values, quotient, unmeasured}
use Rattle.ft_measure.specs.meaning.Slopes.{is_divisor, operator_fault}
use Rattle.ft_measure.specs.laws.Bounded.{IsBounded, IsSmall}
use Rattle.ft_build.specs.meaning.Terms.{both_value, kept, name_value, negated, operator_value}
use Rattle.ft_admit.proofs.terms.Lists.{if-passed}

-- this is the value of a measure, and a constant has one
pub record IsKnown (m : Measure) (v : Option ℤ) : Type 0 where
  pub value : v ≡ m.value
  pub constant : m.constant ≡ true → (x : ℤ) × (m.value ≡ Some x)

abbrev IsKept : Option ℤ → Type 0
IsKept v = (z : ℤ) → v ≡ Some z → kept z ≡ Some z

pub some-cases : {X : Type 0} (o : Option X) → (o ≡ None) ⊎ ((x : X) × (o ≡ Some x))
some-cases None = inl refl
some-cases (Some x) = inr (x, refl)

pub joined-value : (constant large : Bool) (v : Option ℤ) (s : Option ℕ) → IsSmall (joined constant large v s)
    → (joined constant large v s).value ≡ v
joined-value constant large v s h = ap (λ b. if b then None else v) h.large

bounded-kept : (m : Measure) → IsBounded m → IsKept m.value
bounded-kept m h z e =
    let least : unsigned_abs z ≤ 1000000000000000 = le_trans (h.sized z e).2 (h.sized z e).3 in
    ap (λ b. if b then Some z else None) (le-leb (unsigned_abs z) 1000000000000000 least)

unmeasured-known : IsKnown unmeasured None
unmeasured-known = record { value = refl; constant = λ e. absurd (true≢false (sym e)) }

pub constant-known : (z : ℤ) → IsSmall (of_constant z) → IsBounded (of_constant z) → IsKnown (of_constant z) (kept z)
constant-known z small bounded =
    let is = joined-value true false (Some z) (Some (capped (unsigned_abs z))) small in
    record { value = bounded-kept (of_constant z) bounded z is ∙ sym is; constant = λ e. (z, is) }

bounds-known : (lo hi : ℤ) → IsSmall (of_bounds lo hi) → IsKnown (of_bounds lo hi) None
bounds-known lo hi small = record { value = sym (joined-value false false None _ small); constant = λ e. absurd (true≢false (sym e)) }

values-known : (values : Values) → IsSmall (of_values values) → IsKnown (of_values values) None
values-known (Numbers lo hi) small = bounds-known lo hi small
values-known Truths small = unmeasured-known
values-known (Members item count) small = unmeasured-known
values-known Untyped small = unmeasured-known

pub name-known : (c : Option Card) → IsSmall (of_name c) → IsBounded (of_name c) → IsKnown (of_name c) (name_value c)
name-known None small bounded = unmeasured-known
name-known (Some (card.Constant value)) small bounded = constant-known value small bounded
name-known (Some (card.TypeName values)) small bounded = unmeasured-known
name-known (Some (card.Member item position)) small bounded = unmeasured-known
name-known (Some (card.Variable place word values)) small bounded = values-known values small
name-known (Some (card.Memory place side hold)) small bounded = unmeasured-known
name-known (Some (card.Block place)) small bounded = unmeasured-known
name-known (Some (card.Invariant block fact)) small bounded = unmeasured-known

pub prev-known : (c : Option Card) → IsSmall (of_prev c) → IsKnown (of_prev c) None
prev-known None small = unmeasured-known
prev-known (Some (card.Constant value)) small = unmeasured-known
prev-known (Some (card.TypeName values)) small = unmeasured-known
prev-known (Some (card.Member item position)) small = unmeasured-known
prev-known (Some (card.Variable place word values)) small = values-known values small
prev-known (Some (card.Memory place side hold)) small = unmeasured-known
prev-known (Some (card.Block place)) small = unmeasured-known
prev-known (Some (card.Invariant block fact)) small = unmeasured-known

pub age-known : (c : Option Card) → IsSmall (of_age c) → IsKnown (of_age c) None
age-known None small = unmeasured-known
age-known (Some (card.Constant value)) small = unmeasured-known
age-known (Some (card.TypeName values)) small = unmeasured-known
age-known (Some (card.Member item position)) small = unmeasured-known
age-known (Some (card.Variable place word values)) small = unmeasured-known
age-known (Some (card.Memory place side None)) small = unmeasured-known
age-known (Some (card.Memory place side (Some hold))) small = bounds-known (neg_ℤ (pos 1)) hold small
age-known (Some (card.Block place)) small = unmeasured-known
age-known (Some (card.Invariant block fact)) small = unmeasured-known

pub nothing-known : IsKnown unmeasured None
nothing-known = unmeasured-known

negated-kept : (u v : Option ℤ) → v ≡ option_map neg_ℤ u → IsKept v → negated u ≡ v
negated-kept None v e k = sym e
negated-kept (Some a) v e k = k (neg_ℤ a) e ∙ sym e

pub negation-known : (a : Measure) (u : Option ℤ) → IsSmall (of_negation a) → IsBounded (of_negation a) → IsKnown a u
    → IsKnown (of_negation a) (negated u)
negation-known a u small bounded known =
    let is = joined-value a.constant a.large (option_map neg_ℤ a.value) a.size small in
    record {
      value = ap negated known.value ∙ negated-kept a.value (of_negation a).value is (bounded-kept (of_negation a) bounded);
      constant = λ e. let x = known.constant e in (neg_ℤ x.0, is ∙ ap (option_map neg_ℤ) x.1);
    }

-- an operator whose value is kept as far as its sides have theirs
both-kept : (o : Op) (f : ℤ → ℤ → ℤ) → ((x y : ℤ) → both_value o x y ≡ kept (f x y)) → (u w v : Option ℤ) → v ≡ both_values f u w
    → IsKept v → operator_value o u w ≡ v
both-kept o f same (Some a) (Some b) v e k = same a b ∙ k (f a b) e ∙ sym e
both-kept o f same (Some a) None v e k = sym e
both-kept o f same None (Some b) v e k = sym e
both-kept o f same None None v e k = sym e

both-known : (o : Op) (f : ℤ → ℤ → ℤ) → ((x y : ℤ) → both_value o x y ≡ kept (f x y)) → (a b : Measure) (u w : Option ℤ) (s : Option ℕ)
    → IsSmall (joined (a.constant && b.constant) (a.large || b.large) (both_values f a.value b.value) s)
    → IsBounded (joined (a.constant && b.constant) (a.large || b.large) (both_values f a.value b.value) s) → IsKnown a u → IsKnown b w
    → IsKnown (joined (a.constant && b.constant) (a.large || b.large) (both_values f a.value b.value) s) (operator_value o u w)
both-known o f same a b u w s small bounded known other =
    let whole : Measure = joined (a.constant && b.constant) (a.large || b.large) (both_values f a.value b.value) s in
    let is = joined-value (a.constant && b.constant) (a.large || b.large) (both_values f a.value b.value) s small in
    record {
      value = (λ i. operator_value o (known.value i) (other.value i))
          ∙ both-kept o f same a.value b.value whole.value is (bounded-kept whole bounded);
      constant = λ e.
          let both = and_parts a.constant b.constant e in
          let x = known.constant both.0 in
          let y = other.constant both.1 in
          (f x.0 y.0, is ∙ (λ i. both_values f (x.1 i) (y.1 i)));
    }

divided-kept : (u w v : Option ℤ) → v ≡ quotient u w → IsKept v → operator_value op.Div u w ≡ v
divided-kept (Some a) (Some b) v e k = elim (cases_Bool (int_le (pos 1) b)) [
  | inl so ↦ ap (λ t. if t then kept (floor_of a b) else None) so
      ∙ k (int_div_euclid a b) (e ∙ ap (λ t. if t then Some (int_div_euclid a b) else None) so)
      ∙ sym (e ∙ ap (λ t. if t then Some (int_div_euclid a b) else None) so)
  | inr not-so ↦ ap (λ t. if t then kept (floor_of a b) else None) not-so
      ∙ sym (e ∙ ap (λ t. if t then Some (int_div_euclid a b) else None) not-so)
]
divided-kept (Some a) None v e k = sym e
divided-kept None (Some b) v e k = sym e
divided-kept None None v e k = sym e

quotient-known : (a b : Measure) (u w : Option ℤ) → is_divisor b.value ≡ true → IsSmall (of_operator op.Div a b)
    → IsBounded (of_operator op.Div a b) → IsKnown a u → IsKnown b w → IsKnown (of_operator op.Div a b) (operator_value op.Div u w)
quotient-known a b u w divides small bounded known other =
    let whole : Measure = of_operator op.Div a b in
    let is = joined-value (a.constant && b.constant) (a.large || b.large) (quotient a.value b.value) a.size small in
    record {
      value = (λ i. operator_value op.Div (known.value i) (other.value i))
          ∙ divided-kept a.value b.value whole.value is (bounded-kept whole bounded);
      constant = λ e.
          let both = and_parts a.constant b.constant e in
          let x = known.constant both.0 in
          let y = other.constant both.1 in
          let divisor = and_parts (int_le (pos 1) y.0) (int_le y.0 (pos 1000000)) (sym (ap is_divisor y.1) ∙ divides) in (
            int_div_euclid x.0 y.0,
            is ∙ (λ i. quotient (x.1 i) (y.1 i))
                ∙ ap (λ t. if t then Some (int_div_euclid x.0 y.0) else None) divisor.0,
          );
    }

no-value : (o : Op) → ((x y : ℤ) → both_value o x y ≡ None) → (u w : Option ℤ) → IsKnown unmeasured (operator_value o u w)
no-value o none u w = subst (IsKnown unmeasured) (sym (is u w)) unmeasured-known
  where
    is : (u w : Option ℤ) → operator_value o u w ≡ None
    is (Some a) (Some b) = none a b
    is (Some a) None = refl
    is None (Some b) = refl
    is None None = refl

pub two-known : (o : Op) (a b : Measure) (u w : Option ℤ) → operator_fault o a b ≡ None → IsSmall (of_operator o a b)
    → IsBounded (of_operator o a b) → IsKnown a u → IsKnown b w → IsKnown (of_operator o a b) (operator_value o u w)
two-known op.Add a b u w right small bounded known other = both-known op.Add ◌+ℤ◌ (λ x y. refl) a b u w _ small bounded known other
two-known op.Sub a b u w right small bounded known other = both-known op.Sub ◌-ℤ◌ (λ x y. refl) a b u w _ small bounded known other
two-known op.Mul a b u w right small bounded known other = both-known op.Mul ◌*ℤ◌ (λ x y. refl) a b u w _ small bounded known other
two-known op.Div a b u w right small bounded known other =
    quotient-known a b u w (if-passed (is_divisor b.value) Divisor right) small bounded known other
two-known op.Or a b u w right small bounded known other = no-value op.Or (λ x y. refl) u w
two-known op.And a b u w right small bounded known other = no-value op.And (λ x y. refl) u w
two-known op.Eq a b u w right small bounded known other = no-value op.Eq (λ x y. refl) u w
two-known op.Ne a b u w right small bounded known other = no-value op.Ne (λ x y. refl) u w
two-known op.Lt a b u w right small bounded known other = no-value op.Lt (λ x y. refl) u w
two-known op.Le a b u w right small bounded known other = no-value op.Le (λ x y. refl) u w
two-known op.Gt a b u w right small bounded known other = no-value op.Gt (λ x y. refl) u w
two-known op.Ge a b u w right small bounded known other = no-value op.Ge (λ x y. refl) u w
