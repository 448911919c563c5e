-- Terms that are within the size of a measure, with factors and divisors in their limits.
use Rattle.std.proofs.Common.{◌≡◌, ◌∙◌, sym, ap, subst, refl, inl, inr, ℕ, ◌+◌, ◌-◌, ◌*◌, ◌≤◌, le_trans, max, ℤ, pos, neg_ℤ, Bool, true}
use Rattle.std.proofs.Common.{false, ◌&&◌, List, slice_get, Option, Some, None, if◌then◌else◌, option_map, unsigned_abs, int_le, nat_le}
use Rattle.std.proofs.Common.{arith, le-leb, leb-true, ltb-false, true≢false, mul-le-mul_left}
use Rattle.std.proofs.lemmas.Bool.{and_from, and_parts, cases_Bool}
use Rattle.std.proofs.lemmas.Option.{none-some, same_Some}
use Rattle.ft_tree.specs.declared.expr.Op.{Op}
use Rattle.ft_tree.specs.declared.expr.Op.TheVariants as op
use Rattle.ft_tree.specs.declared.item.SectionWord.{SectionWord}
use Rattle.ft_tree.specs.declared.item.VarWord.{VarWord}
use Rattle.ft_core.specs.declared.tables.Memory.{Memory}
use Rattle.ft_core.specs.declared.tables.Memory.TheVariants.{Held, Hyst}
use Rattle.ft_core.specs.declared.tables.Var.{Var}
use Rattle.ft_core.specs.declared.term.Term.{Term}
use Rattle.ft_core.specs.declared.term.Term.TheVariants as term
use Rattle.ft_core.specs.checked.Short.{is_factored}
use Rattle.ft_core.specs.checked.Size.{age_size, is_sized_term, size_of, var_size}
use Rattle.ft_core.specs.laws.SizeEquations.{factored-Num, factored-Now, factored-Prev, factored-Age, factored-Neg, factored-Add}
use Rattle.ft_core.specs.laws.SizeEquations.{factored-Sub, factored-Times, factored-Div, size-Num, size-Now, size-Prev, size-Age, size-Neg}
use Rattle.ft_core.specs.laws.SizeEquations.{size-Add, size-Sub, size-Times, size-Div, small-Num, small-Now, small-Prev, small-Age}
use Rattle.ft_core.specs.laws.SizeEquations.{small-Neg, small-Add, small-Sub, small-Times, small-Div}
use Rattle.ft_names.specs.declared.asked.ExprKind.{ExprKind}
use Rattle.ft_names.specs.declared.asked.ExprKind.TheVariants.{Number, Nothing}
use Rattle.ft_names.specs.declared.card.Card.{Card}
use Rattle.ft_names.specs.declared.card.Card.TheVariants as card
use Rattle.ft_names.specs.declared.card.Values.{Values}
use Rattle.ft_names.specs.declared.card.Values.TheVariants.{Numbers, Truths, Members, Untyped}
use Rattle.ft_names.specs.meaning.Cards.{Env}
use Rattle.ft_names.specs.meaning.Parts.{operands}
use Rattle.ft_types.specs.meaning.Kinds.{is_kind, is_met, op_kind}
use Rattle.ft_types.specs.meaning.Mismatch.{card_kind, is_timer, is_variable, values_kind}
use Rattle.ft_measure.specs.declared.measure.Measure.{Measure}
use Rattle.ft_measure.specs.declared.slope.Why.{Why}
use Rattle.ft_measure.specs.declared.slope.Why.TheVariants.{Factor, Divisor, Product}
use Rattle.ft_measure.specs.meaning.Measures.{both_sizes, capped, is_above, limit, magnitude, of_age, of_bounds, of_constant, of_name}
use Rattle.ft_measure.specs.meaning.Measures.{of_negation, of_operator, of_prev, of_values, product_size, product_sizes, sides_size}
use Rattle.ft_measure.specs.meaning.Measures.{unmeasured}
use Rattle.ft_measure.specs.meaning.Slopes.{factor_fault, is_beyond, is_divisor, operator_fault, product_fault}
use Rattle.ft_measure.specs.laws.Bounded.{IsBounded, IsSmall}
use Rattle.ft_build.specs.meaning.Terms.{age_term, folded, name_term, operator_term, prev_term, product_term, quotient_term}
use Rattle.ft_build.specs.meaning.Variables.{is_range, ranged, values_range}
use Rattle.ft_admit.proofs.terms.Lists.{if-kept, if-passed}
use Rattle.ft_admit.proofs.terms.Cards.{AreThere, HasMemory, HasVar, hold_of}
use Rattle.ft_admit.proofs.terms.Known.{IsKnown, some-cases}

-- the greatest of 1 and the bounds of a range
abbrev range_size : ℤ × ℤ → ℕ
range_size r = max 1 (max (unsigned_abs r.0) (unsigned_abs r.1))

both-bounds : (m n : ℕ) → nat_le m 1000000000 ≡ true → nat_le n 1000000000 ≡ true → max 1 (max m n) ≤ 1000000000
both-bounds m n h k =
    let first = leb-true m 1000000000 h in
    let second = leb-true n 1000000000 k in
    omega (arith, first, second)

one-least : (n : ℕ) → 1 ≤ max 1 n
one-least n = omega arith

is-range-small : (lo hi : ℤ) → is_range lo hi ≡ true → range_size (lo, hi) ≤ 1000000000
is-range-small lo hi h =
    let bounds = (and_parts (int_le lo hi) (nat_le (unsigned_abs lo) 1000000000 && nat_le (unsigned_abs hi) 1000000000) h).1 in
    let both = and_parts (nat_le (unsigned_abs lo) 1000000000) (nat_le (unsigned_abs hi) 1000000000) bounds in
    both-bounds (unsigned_abs lo) (unsigned_abs hi) both.0 both.1

ranged-is : (lo hi : ℤ) (b : Bool) → is_range lo hi ≡ b → range_size (ranged lo hi) ≡ range_size (if b then (lo, hi) else (pos 0, pos 0))
ranged-is lo hi b e = ap (λ t. range_size (if t then (lo, hi) else (pos 0, pos 0))) e

ranged-small : (lo hi : ℤ) → range_size (ranged lo hi) ≤ 1000000000
ranged-small lo hi = elim (cases_Bool (is_range lo hi)) [
  | inl so ↦ subst (λ n. n ≤ 1000000000) (sym (ranged-is lo hi true so)) (is-range-small lo hi so)
  | inr not-so ↦ subst (λ n. n ≤ 1000000000) (sym (ranged-is lo hi false not-so)) (omega arith)
]

ranged-least : (lo hi : ℤ) → range_size (ranged lo hi) ≤ range_size (lo, hi)
ranged-least lo hi = elim (cases_Bool (is_range lo hi)) [
  | inl so ↦ subst (λ n. n ≤ range_size (lo, hi)) (sym (ranged-is lo hi true so)) (omega arith)
  | inr not-so ↦ subst (λ n. n ≤ range_size (lo, hi)) (sym (ranged-is lo hi false not-so))
      (one-least (max (unsigned_abs lo) (unsigned_abs hi)))
]

values-small : (values : Values) → range_size (values_range values) ≤ 1000000000
values-small (Numbers lo hi) = ranged-small lo hi
values-small Truths = ranged-small (pos 0) (pos 1)
values-small (Members k count) = ranged-small (pos 0) (pos (count - 1))
values-small Untyped = ranged-small (pos 0) (pos 0)

-- a size that isn't above the limit
low-size : (n : ℕ) → is_above (Some n) ≡ false → n ≤ limit
low-size n h = ltb-false limit n h

uncapped : (n : ℕ) → is_above (Some (capped n)) ≡ false → n ≤ limit
uncapped n h = let low = low-size (capped n) h in omega (arith, low)

capped-same : (n : ℕ) → n ≤ limit → capped n ≡ n
capped-same n h = omega (arith, h)

widened : (n : ℕ) → n ≤ 1000000000 → n ≤ 1000000000000000
widened n h = omega (arith, h)

module _ (vars : List Var) (memories : List Memory) where
  -- A term's size is at most that of a measure, where it is a number; all its parts are small, and factors and divisors in their limits.
  pub record TermFits (m : Measure) (number : Bool) (t : Term) : Type 0 where
    pub factored : is_factored t ≡ true
    pub small : is_sized_term vars memories t ≡ true
    pub sized : number ≡ true → (n : ℕ) × (m.size ≡ Some n) × (size_of vars memories t ≤ n)

  -- a number in place of what is not-so number term
  pub other-fits : (m : Measure) (z : ℤ) → unsigned_abs z ≤ limit → TermFits m false (term.Num z)
  other-fits m z low = record {
    factored = factored-Num z;
    small = small-Num vars memories z ∙ le-leb (unsigned_abs z) 1000000000000000 low;
    sized = λ e. absurd (true≢false (sym e));
  }

  pub zero-fits : (m : Measure) → TermFits m false (term.Num (pos 0))
  zero-fits m = other-fits m (pos 0) (omega arith)

  pub constant-fits : (z : ℤ) (number : Bool) → is_above (of_constant z).size ≡ false → TermFits (of_constant z) number (term.Num z)
  constant-fits z number low =
      let few = uncapped (unsigned_abs z) low in
      record {
        factored = factored-Num z;
        small = small-Num vars memories z ∙ le-leb (unsigned_abs z) 1000000000000000 few;
        sized = λ e. (
          unsigned_abs z,
          ap Some (capped-same (unsigned_abs z) few),
          subst (λ n. n ≤ unsigned_abs z) (sym (size-Num vars memories z)) (omega arith),
        );
      }

  -- a constant term that is its value
  pub fold-fits : (m : Measure) (number : Bool) (v : Option ℤ) (t : Term) → IsBounded m → v ≡ m.value → TermFits m number t
      → TermFits m number (folded v t)
  fold-fits m number None t bounded is h = h
  fold-fits m number (Some z) t bounded is h =
      let (n, size, least, few) = bounded.sized z (sym is) in
      record {
        factored = factored-Num z;
        small = small-Num vars memories z ∙ le-leb (unsigned_abs z) 1000000000000000 (le_trans least few);
        sized = λ e. (n, size, subst (λ k. k ≤ n) (sym (size-Num vars memories z)) least);
      }

  module _ (place : ℕ) (w : VarWord) (values : Values) (there : HasVar vars place w values) where
    size-there : var_size (slice_get vars place) ≡ range_size (values_range values)
    size-there = ap var_size there.1 ∙ ap range_size there.3

    small-there : nat_le (var_size (slice_get vars place)) 1000000000000000 ≡ true
    small-there = le-leb (var_size (slice_get vars place)) 1000000000000000
        (subst (λ n. n ≤ 1000000000000000) (sym size-there) (widened (range_size (values_range values)) (values-small values)))

    sized-there : (vs : Values) → values ≡ vs → is_above (of_values vs).size ≡ false → is_kind (values_kind vs) Number ≡ true
        → (n : ℕ) × ((of_values vs).size ≡ Some n) × (var_size (slice_get vars place) ≤ n)
    sized-there (Numbers lo hi) same low e = (
      range_size (lo, hi),
      ap Some (capped-same (range_size (lo, hi)) (uncapped (range_size (lo, hi)) low)),
      subst (λ n. n ≤ range_size (lo, hi)) (sym (size-there ∙ ap (λ (vs : Values). range_size (values_range vs)) same))
          (ranged-least lo hi),
    )
    sized-there Truths same low e = absurd (true≢false (sym e))
    sized-there (Members k count) same low e = absurd (true≢false (sym e))
    sized-there Untyped same low e = absurd (true≢false (sym e))

    pub now-fits : is_above (of_values values).size ≡ false
        → TermFits (of_values values) (is_kind (values_kind values) Number) (term.Now place)
    now-fits low = record {
      factored = factored-Now place;
      small = small-Now vars memories place ∙ small-there;
      sized = λ e. let (n, size, least) = sized-there values refl low e in
          (n, size, subst (λ k. k ≤ n) (sym (size-Now vars memories place)) least);
    }

    pub before-fits : is_above (of_values values).size ≡ false
        → TermFits (of_values values) (is_kind (values_kind values) Number) (term.Prev place)
    before-fits low = record {
      factored = factored-Prev place;
      small = small-Prev vars memories place ∙ small-there;
      sized = λ e. let (n, size, least) = sized-there values refl low e in
          (n, size, subst (λ k. k ≤ n) (sym (size-Prev vars memories place)) least);
    }

  hold-size : (m : Memory) (hold : ℤ) → hold_of m ≡ Some hold → age_size (Some m) ≡ max 1 (unsigned_abs hold)
  hold-size (Held name s c h) hold e = ap (λ z. max 1 (unsigned_abs z)) (same_Some h hold e)
  hold-size (Hyst name s t lo hi start) hold e = absurd (none-some hold e)

  band-size : (m : Memory) → hold_of m ≡ None → age_size (Some m) ≡ 1
  band-size (Held name s c h) e = absurd (none-some h (sym e))
  band-size (Hyst name s t lo hi start) e = refl

  timer-fits : (place : ℕ) (w : SectionWord) (hold : ℤ) → HasMemory memories place w (Some hold)
      → is_above (of_bounds (neg_ℤ (pos 1)) hold).size ≡ false → TermFits (of_bounds (neg_ℤ (pos 1)) hold) true (term.Age place)
  timer-fits place w hold there low =
      let size : age_size (slice_get memories place) ≡ max 1 (unsigned_abs hold) = ap age_size there.1 ∙ hold-size there.0 hold there.3 in
      let most : ℕ = range_size (neg_ℤ (pos 1), hold) in
      let few : most ≤ limit = uncapped most low in
      let least : max 1 (unsigned_abs hold) ≤ most = over (unsigned_abs hold) in
      record {
        factored = factored-Age place;
        small = small-Age vars memories place ∙ ap (λ n. nat_le n 1000000000000000) size
            ∙ le-leb (max 1 (unsigned_abs hold)) 1000000000000000 (le_trans least few);
        sized = λ e. (most, ap Some (capped-same most few), subst (λ n. n ≤ most) (sym (size-Age vars memories place ∙ size)) least);
      }
    where
      over : (n : ℕ) → max 1 n ≤ max 1 (max (unsigned_abs (neg_ℤ (pos 1))) n)
      over n = omega arith

  band-fits : (place : ℕ) (w : SectionWord) → HasMemory memories place w None → TermFits unmeasured false (term.Age place)
  band-fits place w there = record {
    factored = factored-Age place;
    small = small-Age vars memories place
        ∙ ap (λ n. nat_le n 1000000000000000) (ap age_size there.1 ∙ band-size there.0 there.3);
    sized = λ e. absurd (true≢false (sym e));
  }

  -- a sum or a difference
  module _ (a b : Measure) (s t : Term) (fa : TermFits a true s) (fb : TermFits b true t)
      (low : is_above (both_sizes a.size b.size) ≡ false)
    where
      abbrev sum : ℕ
      sum = size_of vars memories s + size_of vars memories t

      sum-sized : (n : ℕ) × (both_sizes a.size b.size ≡ Some n) × (sum ≤ n) × (n ≤ limit)
      sum-sized =
          let (m, sa, la) = fa.sized refl in
          let (k, sb, lb) = fb.sized refl in
          let is : both_sizes a.size b.size ≡ Some (capped (m + k)) = λ i. both_sizes (sa i) (sb i) in
          let few = uncapped (m + k) (sym (ap is_above is) ∙ low) in
          (m + k, is ∙ ap Some (capped-same (m + k) few), omega (arith, la, lb), few)

      sum-small : ((is_sized_term vars memories s && is_sized_term vars memories t) && nat_le sum 1000000000000000) ≡ true
      sum-small = and_from (is_sized_term vars memories s && is_sized_term vars memories t) (nat_le sum 1000000000000000)
          (and_from (is_sized_term vars memories s) (is_sized_term vars memories t) fa.small fb.small)
          (le-leb sum 1000000000000000 (le_trans sum-sized.2 sum-sized.3))

      sum-factored : (is_factored s && is_factored t) ≡ true
      sum-factored = and_from (is_factored s) (is_factored t) fa.factored fb.factored

      add-fits : TermFits (of_operator op.Add a b) true (term.Add s t)
      add-fits = record {
        factored = factored-Add s t ∙ sum-factored;
        small = small-Add vars memories s t ∙ sum-small;
        sized = λ e. (sum-sized.0, sum-sized.1, subst (λ n. n ≤ sum-sized.0) (sym (size-Add vars memories s t)) sum-sized.2);
      }

      sub-fits : TermFits (of_operator op.Sub a b) true (term.Sub s t)
      sub-fits = record {
        factored = factored-Sub s t ∙ sum-factored;
        small = small-Sub vars memories s t ∙ sum-small;
        sized = λ e. (sum-sized.0, sum-sized.1, subst (λ n. n ≤ sum-sized.0) (sym (size-Sub vars memories s t)) sum-sized.2);
      }

  pub neg-fits : (a : Measure) (t : Term) → IsSmall a → TermFits a true t → TermFits (of_negation a) true (term.Neg t)
  neg-fits a t small fits =
      let (n, size, least) = fits.sized refl in
      let few = low-size n (sym (ap is_above size) ∙ small.size) in
      record {
        factored = factored-Neg t ∙ fits.factored;
        small = small-Neg vars memories t ∙ and_from (is_sized_term vars memories t) (nat_le (size_of vars memories t) 1000000000000000)
            fits.small (le-leb (size_of vars memories t) 1000000000000000 (le_trans least few));
        sized = λ e. (n, size, subst (λ k. k ≤ n) (sym (size-Neg vars memories t)) least);
      }

  div-fits : (a : Measure) (m : Measure) (k : ℤ) (t : Term) → IsSmall a → m.size ≡ a.size → is_divisor (Some k) ≡ true → TermFits a true t
      → TermFits m true (term.Div t k)
  div-fits a m k t small same divides fits =
      let (n, size, least) = fits.sized refl in
      let few = low-size n (sym (ap is_above size) ∙ small.size) in
      let bounds = and_parts (int_le (pos 1) k) (int_le k (pos 1000000)) divides in
      record {
        factored = factored-Div t k ∙ in-limits (is_factored t) (int_le (pos 1) k) (int_le k (pos 1000000)) fits.factored bounds.0 bounds.1;
        small = small-Div vars memories t k ∙ and_from _ (nat_le (size_of vars memories t) 1000000000000000)
            (in-limits (is_sized_term vars memories t) (int_le (pos 1) k) (int_le k (pos 1000000)) fits.small bounds.0 bounds.1)
            (le-leb (size_of vars memories t) 1000000000000000 (le_trans least few));
        sized = λ e. (n, same ∙ size, subst (λ j. j ≤ n) (sym (size-Div vars memories t k)) least);
      }
    where
      in-limits : (x y z : Bool) → x ≡ true → y ≡ true → z ≡ true → (x && y && z) ≡ true
      in-limits x y z p q r = and_from (x && y) z (and_from x y p q) r

  -- a product of a constant side and the other
  times-fits : (c e m : Measure) (z : ℤ) (t : Term) → m.size ≡ sides_size c e → is_above m.size ≡ false → IsSmall c → c.value ≡ Some z
      → factor_fault c ≡ None → TermFits e true t → TermFits m true (term.Times z t)
  times-fits c e m z t is low small value right fits =
      let (n, size, least) = fits.sized refl in
      let big : magnitude c ≡ Some (unsigned_abs z) =
      (λ i. if small.large i then Some (limit + 1) else option_map unsigned_abs (value i)) in
      let whole : m.size ≡ Some (capped (unsigned_abs z * n)) = is ∙ (λ i. product_sizes (big i) (size i)) in
      let few = uncapped (unsigned_abs z * n) (sym (ap is_above whole) ∙ low) in
      let most : unsigned_abs z * size_of vars memories t ≤ unsigned_abs z * n = mul-le-mul_left (unsigned_abs z) least in
      record {
        factored = factored-Times z t ∙ and_from (nat_le (unsigned_abs z) 1000000) (is_factored t)
            (factor (unsigned_abs z) (sym (ap is_beyond big) ∙ if-kept (is_beyond (magnitude c)) Factor right)) fits.factored;
        small = small-Times vars memories z t ∙ and_from (is_sized_term vars memories t)
            (nat_le (unsigned_abs z * size_of vars memories t) 1000000000000000) fits.small
            (le-leb (unsigned_abs z * size_of vars memories t) 1000000000000000 (le_trans most few));
        sized = λ e. (
          unsigned_abs z * n,
          whole ∙ ap Some (capped-same (unsigned_abs z * n) few),
          subst (λ k. k ≤ unsigned_abs z * n) (sym (size-Times vars memories z t)) most,
        );
      }
    where
      factor : (k : ℕ) → is_beyond (Some k) ≡ false → nat_le k 1000000 ≡ true
      factor k h = le-leb k 1000000 (ltb-false 1000000 k h)

  module _ (a b : Measure) (u w : Option ℤ) (s t : Term) (sa : IsSmall a) (sb : IsSmall b) (ka : IsKnown a u) (kb : IsKnown b w)
      (ba : IsBounded a) (fa : TermFits a true s) (fb : TermFits b true t) where
    by-left : is_above (product_size a b) ≡ false → product_fault a b ≡ None → a.constant ≡ true
        → TermFits (of_operator op.Mul a b) true (product_term u w s t)
    by-left low right left =
        let (z, value) = ka.constant left in
        let fault : factor_fault a ≡ None =
        sym (ap (λ x. if x then factor_fault a else (if b.constant then factor_fault b else Some Product)) left) ∙ right in
        let size : product_size a b ≡ sides_size a b =
        ap (λ x. if x then sides_size a b else (if b.constant then sides_size b a else None)) left in
        subst (TermFits (of_operator op.Mul a b) true) (sym (ap (λ x. product_term x w s t) (ka.value ∙ value)))
        (times-fits a b (of_operator op.Mul a b) z t size low sa value fault fb)

    by-right : is_above (product_size a b) ≡ false → product_fault a b ≡ None → a.constant ≡ false
        → TermFits (of_operator op.Mul a b) true (product_term u w s t)
    by-right low right other =
        let rest : (if b.constant then factor_fault b else Some Product) ≡ None =
        sym (ap (λ x. if x then factor_fault a else (if b.constant then factor_fault b else Some Product)) other) ∙ right in
        elim (cases_Bool b.constant) [
          | inl second ↦
              let (z, value) = kb.constant second in
              let fault : factor_fault b ≡ None = sym (ap (λ x. if x then factor_fault b else Some Product) second) ∙ rest in
              let size : product_size a b ≡ sides_size b a =
              ap (λ x. if x then sides_size a b else (if b.constant then sides_size b a else None)) other
              ∙ ap (λ x. if x then sides_size b a else None) second in
              let none : a.value ≡ None = elim (some-cases a.value) [
                | inl e ↦ e
                | inr e ↦ absurd (true≢false (sym (ba.constant e.0 e.1) ∙ other))
              ] in
              subst (TermFits (of_operator op.Mul a b) true)
              (sym (λ i. product_term ((ka.value ∙ none) i) ((kb.value ∙ value) i) s t))
              (times-fits b a (of_operator op.Mul a b) z s size low sb value fault fa)
          | inr neither ↦ absurd (true≢false (sym (chosen b.constant (factor_fault b) rest) ∙ neither))
        ]
      where
        chosen : (x : Bool) (o : Option Why) → (if x then o else Some Product) ≡ None → x ≡ true
        chosen true o e = refl
        chosen false o e = cc e

    product-fits : is_above (product_size a b) ≡ false → product_fault a b ≡ None
        → TermFits (of_operator op.Mul a b) true (product_term u w s t)
    product-fits low right = elim (cases_Bool a.constant) [ inl left ↦ by-left low right left | inr other ↦ by-right low right other ]

    quotient-fits : is_divisor b.value ≡ true → TermFits (of_operator op.Div a b) true (quotient_term w s)
    quotient-fits divides = elim (some-cases b.value) [
      | inl none ↦ absurd (true≢false (sym (sym (ap is_divisor none) ∙ divides)))
      | inr e ↦ subst (TermFits (of_operator op.Div a b) true) (sym (ap (λ x. quotient_term x s) (kb.value ∙ e.1)))
          (div-fits a (of_operator op.Div a b) e.0 s sa refl (sym (ap is_divisor e.1) ∙ divides) fa)
    ]

  at-number : (m : Measure) (number : Bool) (t : Term) → number ≡ true → TermFits m number t → TermFits m true t
  at-number m number t e h = subst (λ b. TermFits m b t) e h

  -- what an operator makes of two terms that fit
  pub two-fits : (o : Op) (k l : ExprKind) (a b : Measure) (u w : Option ℤ) (s t : Term) → is_met (operands o) k ≡ true
      → is_met (operands o) l ≡ true → IsSmall a → IsSmall b → IsKnown a u → IsKnown b w → IsBounded a
      → TermFits a (is_kind k Number) s → TermFits b (is_kind l Number) t → operator_fault o a b ≡ None → IsSmall (of_operator o a b)
      → TermFits (of_operator o a b) (is_kind (op_kind o) Number) (operator_term o u w s t)
  two-fits op.Add k l a b u w s t p q sa sb ka kb ba fa fb right small =
      add-fits a b s t (at-number a _ s p fa) (at-number b _ t q fb) small.size
  two-fits op.Sub k l a b u w s t p q sa sb ka kb ba fa fb right small =
      sub-fits a b s t (at-number a _ s p fa) (at-number b _ t q fb) small.size
  two-fits op.Mul k l a b u w s t p q sa sb ka kb ba fa fb right small =
      product-fits a b u w s t sa sb ka kb ba (at-number a _ s p fa) (at-number b _ t q fb) small.size right
  two-fits op.Div k l a b u w s t p q sa sb ka kb ba fa fb right small =
      quotient-fits a b u w s t sa sb ka kb ba (at-number a _ s p fa) (at-number b _ t q fb) (if-passed (is_divisor b.value) Divisor right)
  two-fits op.Or k l a b u w s t p q sa sb ka kb ba fa fb right small = zero-fits unmeasured
  two-fits op.And k l a b u w s t p q sa sb ka kb ba fa fb right small = zero-fits unmeasured
  two-fits op.Eq k l a b u w s t p q sa sb ka kb ba fa fb right small = zero-fits unmeasured
  two-fits op.Ne k l a b u w s t p q sa sb ka kb ba fa fb right small = zero-fits unmeasured
  two-fits op.Lt k l a b u w s t p q sa sb ka kb ba fa fb right small = zero-fits unmeasured
  two-fits op.Le k l a b u w s t p q sa sb ka kb ba fa fb right small = zero-fits unmeasured
  two-fits op.Gt k l a b u w s t p q sa sb ka kb ba fa fb right small = zero-fits unmeasured
  two-fits op.Ge k l a b u w s t p q sa sb ka kb ba fa fb right small = zero-fits unmeasured

  module _ (env : Env) (there : AreThere env vars memories) where
    pub name-fits : (name : List ℕ) (c : Option Card) → env name ≡ c → is_above (of_name c).size ≡ false
        → TermFits (of_name c) (is_kind (card_kind c) Number) (name_term c)
    name-fits name None e low = zero-fits unmeasured
    name-fits name (Some (card.Constant value)) e low = constant-fits value true low
    name-fits name (Some (card.TypeName values)) e low = zero-fits unmeasured
    name-fits name (Some (card.Member item position)) e low =
        let few : position ≤ 64 = there name _ e in
        other-fits unmeasured (pos position) (omega (arith, few))
    name-fits name (Some (card.Variable place w values)) e low = now-fits place w values (there name _ e) low
    name-fits name (Some (card.Memory place w hold)) e low = zero-fits unmeasured
    name-fits name (Some (card.Block place)) e low = zero-fits unmeasured
    name-fits name (Some (card.Invariant block fact)) e low = zero-fits unmeasured

    pub prev-fits : (name : List ℕ) (c : Option Card) → env name ≡ c → is_above (of_prev c).size ≡ false
        → TermFits (of_prev c) (is_kind (if is_variable c then card_kind c else Nothing) Number) (prev_term c)
    prev-fits name None e low = zero-fits unmeasured
    prev-fits name (Some (card.Constant value)) e low = zero-fits unmeasured
    prev-fits name (Some (card.TypeName values)) e low = zero-fits unmeasured
    prev-fits name (Some (card.Member item position)) e low = zero-fits unmeasured
    prev-fits name (Some (card.Variable place w values)) e low = before-fits place w values (there name _ e) low
    prev-fits name (Some (card.Memory place w hold)) e low = zero-fits unmeasured
    prev-fits name (Some (card.Block place)) e low = zero-fits unmeasured
    prev-fits name (Some (card.Invariant block fact)) e low = zero-fits unmeasured

    pub age-fits : (name : List ℕ) (c : Option Card) → env name ≡ c → is_above (of_age c).size ≡ false
        → TermFits (of_age c) (is_kind (if is_timer c then Number else Nothing) Number) (age_term c)
    age-fits name None e low = zero-fits unmeasured
    age-fits name (Some (card.Constant value)) e low = zero-fits unmeasured
    age-fits name (Some (card.TypeName values)) e low = zero-fits unmeasured
    age-fits name (Some (card.Member item position)) e low = zero-fits unmeasured
    age-fits name (Some (card.Variable place w values)) e low = zero-fits unmeasured
    age-fits name (Some (card.Memory place w None)) e low = band-fits place w (there name _ e)
    age-fits name (Some (card.Memory place w (Some hold))) e low = timer-fits place w hold (there name _ e) low
    age-fits name (Some (card.Block place)) e low = zero-fits unmeasured
    age-fits name (Some (card.Invariant block fact)) e low = zero-fits unmeasured
