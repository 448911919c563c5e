-- A literal's line with the bounds that cancel its other unknowns.
use Rattle.std.proofs.Common.{◌≡◌, ◌≢◌, ◌∙◌, inl, inr, sym, ap, subst, refl, ℕ, zero, suc, ◌+◌, ◌<◌, ◌≤◌, ◌↔◌, ℤ, pos, negsuc, neg_ℤ, ◌+ℤ◌}
use Rattle.std.proofs.Common.{◌-ℤ◌, ◌*ℤ◌, Bool, true, false, ◌&&◌, cond, List, [], ◌∷◌, length, map, Option, Some, None, slice_get, arith}
use Rattle.std.specs.Prelude.{filter, int_lt, is_some, nat_eq, nat_le}
use Rattle.std.specs.List.{list_all}
use Rattle.std.specs.Option.{option_map}
use Rattle.std.proofs.Math.IntN.{*ℤ-zero, zero-*ℤ}
use Rattle.std.proofs.lemmas.Bool.{and_from, cases_Bool, eqb-true}
use Rattle.std.proofs.lemmas.Int.{ints}
use Rattle.std.proofs.lemmas.List.{length-map}
use Rattle.std.proofs.lemmas.List.Elements.{All-nil, All-cons, All-head, All-tail}
use Rattle.std.proofs.lemmas.Option.{slice_get-get_or}
use Rattle.ft_linear.specs.declared.lines.Line.{Line}
use Rattle.ft_linear.specs.declared.lines.Line.TheVariants.{Atom, Upper, Lower}
use Rattle.ft_linear.specs.laws.Sums.{SinglesTighten}
use Rattle.ft_linear.specs.meaning.Bounds.{times_most, value_most}
use Rattle.ft_linear.specs.meaning.Form.{AreRising, Factor, HasUnknowns, IsSmall, LinView, high_end, least, low_end, most, span_at}
use Rattle.ft_linear.specs.meaning.Formula.{FormulaView}
use Rattle.ft_linear.specs.meaning.Halving.{cancelling, is_other, single_lines, single_span}
use Rattle.ft_linear.specs.meaning.Part.{PartView}
use Rattle.ft_linear.specs.meaning.Rules.{Tightens, are_lines, constant_in, factor_of, factors_in, is_line, is_multiplier, line_form}
use Rattle.ft_linear.specs.meaning.Rules.{literal_form, lower_form, narrowed, times_of, total_constant, total_factor, upper_form}
use Rattle.ft_linear.proofs.Basics.{not-under}
use Rattle.ft_linear.proofs.RuleLemmas.{none-below}
use Rattle.ft_linear.proofs.UnknownLemmas.{factor_of-negated, negated_factors, not-equal}
use Rattle.ft_linear.proofs.Whole.{mul-neg, neg-mul}

above : (n : ℕ) → int_lt (pos 0) (pos (suc n)) ≡ true
above n = grind (arith, ints)

not-above : (n : ℕ) → int_lt (pos 0) (negsuc n) ≡ false
not-above n = grind (arith, ints)

lower-is : (w n : ℕ) → cancelling (w, pos (suc n)) ≡ Lower w (suc n)
lower-is w n = ap (λ (b : Bool). cond b (Lower w (suc n)) (Upper w (suc n))) (above n)

upper-is : (w n : ℕ) → cancelling (w, negsuc n) ≡ Upper w (suc n)
upper-is w n = ap (λ (b : Bool). cond b (Lower w (suc n)) (Upper w (suc n))) (not-above n)

down : (n : ℕ) (b : Bool) → pos (suc n) *ℤ (cond b (negsuc 0) (pos 0) +ℤ pos 0) ≡ neg_ℤ (cond b (pos (suc n)) (pos 0))
down n true = grind (arith, ints)
down n false = *ℤ-zero (pos (suc n))

up : (n : ℕ) (b : Bool) → pos (suc n) *ℤ (cond b (pos 1) (pos 0) +ℤ pos 0) ≡ neg_ℤ (cond b (negsuc n) (pos 0))
up n true = grind (arith, ints)
up n false = *ℤ-zero (pos (suc n))

no-more : (z : ℤ) → pos 0 +ℤ z ≡ z
no-more z = omega (arith, ints)

no-end : (s : ℤ × ℤ) → low_end (pos 0) s ≡ pos 0
no-end s = zero-*ℤ (cond (int_lt (pos 0) (pos 0)) s.1 s.0)

-- the other factors
module _ (u : ℕ) where
  others-factor : (v : ℕ) → v ≢ u → (fs : List Factor) → factor_of v (filter (is_other u) fs) ≡ factor_of v fs
  others-factor v other [] = refl
  others-factor v other (f ∷ fs) = elim (cases_Bool (nat_eq f.0 u)) [
    | inl same ↦
        let away = not-equal f.0 v (λ e. other (sym e ∙ eqb-true f.0 u same)) in
        rw same (others-factor v other fs ∙ sym (ap (λ (b : Bool). cond b f.1 (pos 0) +ℤ factor_of v fs) away ∙ no-more (factor_of v fs)))
    | inr isnt ↦ rw isnt (ap (λ (z : ℤ). cond (nat_eq f.0 v) f.1 (pos 0) +ℤ z) (others-factor v other fs))
  ]

  none-of-it : (fs : List Factor) → factor_of u (filter (is_other u) fs) ≡ pos 0
  none-of-it [] = refl
  none-of-it (f ∷ fs) = elim (cases_Bool (nat_eq f.0 u)) [
    | inl same ↦ rw same (none-of-it fs)
    | inr isnt ↦ rw isnt (rw isnt (no-more (factor_of u (filter (is_other u) fs)) ∙ none-of-it fs))
  ]

  few-others : (fs : List Factor) → length (filter (is_other u) fs) ≤ length fs
  few-others [] = omega arith
  few-others (f ∷ fs) = let r = few-others fs in elim (cases_Bool (nat_eq f.0 u)) [
    | inl same ↦ rw same (omega (arith, r))
    | inr isnt ↦ rw isnt (omega (arith, r))
  ]

  least-apart : (spans : List (ℤ × ℤ)) (from : ℕ) (fs : List Factor) → AreRising from fs
      → least spans fs ≡ low_end (factor_of u fs) (span_at spans u) +ℤ least spans (filter (is_other u) fs)
  least-apart spans from [] rising = sym (ap (λ (z : ℤ). z +ℤ pos 0) (no-end (span_at spans u)))
  least-apart spans from (f ∷ fs) rising =
      let r = least-apart spans (f.0 + 1) fs rising.3 in
      elim (cases_Bool (nat_eq f.0 u)) [
        | inl same ↦
            let is = eqb-true f.0 u same in
            let none = none-below (f.0 + 1) u fs rising.3 (omega (arith, is)) in
            let zero-end : low_end (factor_of u fs) (span_at spans u) ≡ pos 0 = ap (λ (z : ℤ). low_end z (span_at spans u)) none
            ∙ no-end (span_at spans u) in
            let here : low_end f.1 (span_at spans f.0) ≡ low_end f.1 (span_at spans u) = ap (λ (w : ℕ). low_end f.1 (span_at spans w)) is in
            let whole : f.1 +ℤ factor_of u fs ≡ f.1 = omega (arith, ints, none) in
            let end = ap (λ (z : ℤ). low_end z (span_at spans u)) whole in
            rw same (omega (arith, ints, r, zero-end, here, end))
        | inr isnt ↦
            let end = ap (λ (z : ℤ). low_end z (span_at spans u)) (no-more (factor_of u fs)) in
            rw isnt (omega (arith, ints, r, end))
      ]

module _ (f : FormulaView) (p : PartView) where
  lower-form : (w t : ℕ) → w < length p.spans → line_form f p (Lower w t) ≡ Some (lower_form w (span_at p.spans w))
  lower-form w t within = ap (option_map (lower_form w)) (slice_get-get_or p.spans w (pos 0, pos 0) within)

  upper-form : (w t : ℕ) → w < length p.spans → line_form f p (Upper w t) ≡ Some (upper_form w (span_at p.spans w))
  upper-form w t within = ap (option_map (upper_form w)) (slice_get-get_or p.spans w (pos 0, pos 0) within)

  bound-factor : (w : ℕ) (z : ℤ) (v : ℕ) → w < length p.spans → z ≢ pos 0
      → pos (times_of (cancelling (w, z))) *ℤ factor_of v (factors_in (line_form f p (cancelling (w, z))))
      ≡ neg_ℤ (cond (nat_eq w v) z (pos 0))
  bound-factor w (pos zero) v within some = absurd (some refl)
  bound-factor w (pos (suc n)) v within some =
      subst (λ (l : Line). pos (times_of l) *ℤ factor_of v (factors_in (line_form f p l)) ≡ neg_ℤ (cond (nat_eq w v) (pos (suc n)) (pos 0)))
      (sym (lower-is w n))
      (ap (λ (o : Option LinView). pos (suc n) *ℤ factor_of v (factors_in o)) (lower-form w (suc n) within) ∙ down n (nat_eq w v))
  bound-factor w (negsuc n) v within some =
      subst (λ (l : Line). pos (times_of l) *ℤ factor_of v (factors_in (line_form f p l)) ≡ neg_ℤ (cond (nat_eq w v) (negsuc n) (pos 0)))
      (sym (upper-is w n))
      (ap (λ (o : Option LinView). pos (suc n) *ℤ factor_of v (factors_in o)) (upper-form w (suc n) within) ∙ up n (nat_eq w v))

  bound-constant : (w : ℕ) (z : ℤ) → w < length p.spans → z ≢ pos 0
      → pos (times_of (cancelling (w, z))) *ℤ constant_in (line_form f p (cancelling (w, z))) ≡ low_end z (span_at p.spans w)
  bound-constant w (pos zero) within some = absurd (some refl)
  bound-constant w (pos (suc n)) within some =
      subst (λ (l : Line). pos (times_of l) *ℤ constant_in (line_form f p l) ≡ low_end (pos (suc n)) (span_at p.spans w))
      (sym (lower-is w n))
      (ap (λ (o : Option LinView). pos (suc n) *ℤ constant_in o) (lower-form w (suc n) within)
      ∙ sym (ap (λ (b : Bool). pos (suc n) *ℤ cond b (span_at p.spans w).1 (span_at p.spans w).0) (not-under (suc n))))
  bound-constant w (negsuc n) within some =
      let a = mul-neg (pos (suc n)) (span_at p.spans w).1 in
      let b = neg-mul (pos (suc n)) (span_at p.spans w).1 in
      subst (λ (l : Line). pos (times_of l) *ℤ constant_in (line_form f p l) ≡ low_end (negsuc n) (span_at p.spans w)) (sym (upper-is w n))
      (ap (λ (o : Option LinView). pos (suc n) *ℤ constant_in o) (upper-form w (suc n) within) ∙ omega (arith, ints, a, b))

  multiplier : (n : ℕ) → suc n ≤ value_most → is_multiplier (suc n) ≡ true
  multiplier n small = and_from (nat_le 1 (suc n)) (nat_le (suc n) times_most) (grind arith) (grind (arith, small))

  bound-line : (w : ℕ) (z : ℤ) → w < length p.spans → z ≢ pos 0 → IsSmall z → is_line f p (cancelling (w, z)) ≡ true
  bound-line w (pos zero) within some small = absurd (some refl)
  bound-line w (pos (suc n)) within some small =
      ap (is_line f p) (lower-is w n) ∙ and_from (is_multiplier (suc n)) (is_some (line_form f p (Lower w (suc n)))) (multiplier n small)
      (ap is_some (lower-form w (suc n) within))
  bound-line w (negsuc n) within some small =
      ap (is_line f p) (upper-is w n) ∙ and_from (is_multiplier (suc n)) (is_some (line_form f p (Upper w (suc n)))) (multiplier n small)
      (ap is_some (upper-form w (suc n) within))

  -- factors that bounds can cancel
  abbrev Fit : List Factor → Type 0
  Fit [] = Unit {0}
  Fit (g ∷ gs) = (g.0 < length p.spans) × (g.1 ≢ pos 0) × IsSmall g.1 × Fit gs

  fit-others : (u from : ℕ) (fs : List Factor) → AreRising from fs → HasUnknowns (length p.spans) fs → Fit (filter (is_other u) fs)
  fit-others u from [] rising within = tt
  fit-others u from (g ∷ fs) rising within =
      let r = fit-others u (g.0 + 1) fs rising.3 (All-tail (λ (h : Factor). h.0 < length p.spans) g fs within) in
      elim (cases_Bool (nat_eq g.0 u)) [
        | inl same ↦ rw same r
        | inr isnt ↦ rw isnt (All-head (λ (h : Factor). h.0 < length p.spans) g fs within, rising.1, rising.2, r)
      ]

  bounds-factor : (v : ℕ) (gs : List Factor) → Fit gs → total_factor f p v (map cancelling gs) ≡ neg_ℤ (factor_of v gs)
  bounds-factor v [] fit = refl
  bounds-factor v (g ∷ gs) fit = let b = bound-factor g.0 g.1 v fit.0 fit.1 in let r = bounds-factor v gs fit.3 in omega (arith, ints, b, r)

  bounds-constant : (gs : List Factor) → Fit gs → total_constant f p (map cancelling gs) ≡ least p.spans gs
  bounds-constant [] fit = refl
  bounds-constant (g ∷ gs) fit = let b = bound-constant g.0 g.1 fit.0 fit.1 in let r = bounds-constant gs fit.3 in omega (arith, ints, b, r)

  bounds-lines : (gs : List Factor) → Fit gs → list_all (is_line f p) (map cancelling gs) ≡ true
  bounds-lines [] fit = refl
  bounds-lines (g ∷ gs) fit =
      and_from (is_line f p (cancelling g)) (list_all (is_line f p) (map cancelling gs)) (bound-line g.0 g.1 fit.0 fit.1 fit.2)
      (bounds-lines gs fit.3)

  module _ (a : ℕ) (s : Bool) (u : ℕ) (m : LinView) (is : line_form f p (Atom a s 1) ≡ Some m) (rising : AreRising 0 m.factors)
      (within : HasUnknowns (length p.spans) m.factors) (few : length m.factors ≤ 3) (inside : u < length p.spans) where
    abbrev lines : List Line
    lines = Atom a s 1 ∷ map cancelling (filter (is_other u) m.factors)

    fit : Fit (filter (is_other u) m.factors)
    fit = fit-others u 0 m.factors rising within

    one-times : (z : ℤ) → pos 1 *ℤ z ≡ z
    one-times z = omega (arith, ints)

    sum-factor : (v : ℕ) → total_factor f p v lines ≡ factor_of v m.factors +ℤ neg_ℤ (factor_of v (filter (is_other u) m.factors))
    sum-factor v =
        let first = ap (λ (o : Option LinView). pos 1 *ℤ factor_of v (factors_in o)) is ∙ one-times (factor_of v m.factors) in
        let rest = bounds-factor v (filter (is_other u) m.factors) fit in
        λ i. first i +ℤ rest i

    alone-there : (v : ℕ) → v ≢ u → total_factor f p v lines ≡ pos 0
    alone-there v other = let e = sum-factor v in let o = others-factor u v other m.factors in omega (arith, ints, e, o)

    own-factor : total_factor f p u lines ≡ factor_of u m.factors
    own-factor = let e = sum-factor u in let n = none-of-it u m.factors in omega (arith, ints, e, n)

    sum-constant : total_constant f p lines ≡ m.constant +ℤ (least p.spans m.factors -ℤ low_end (factor_of u m.factors) (span_at p.spans u))
    sum-constant =
        let first = ap (λ (o : Option LinView). pos 1 *ℤ constant_in o) is ∙ one-times m.constant in
        let rest = bounds-constant (filter (is_other u) m.factors) fit in
        let apart = least-apart u p.spans 0 m.factors rising in
        (λ i. first i +ℤ rest i) ∙ omega (arith, ints, apart)

    are : are_lines f p lines ≡ true
    are =
        let long = length-map (filter (is_other u) m.factors) cancelling in
        let less = few-others u m.factors in
        and_from (nat_le 1 (length lines) && nat_le (length lines) 4300) (list_all (is_line f p) lines)
        (and_from (nat_le 1 (length lines)) (nat_le (length lines) 4300) (grind arith) (grind (arith, long, less, few)))
        (and_from (is_line f p (Atom a s 1)) (list_all (is_line f p) (map cancelling (filter (is_other u) m.factors))) (ap is_some is)
        (bounds-lines (filter (is_other u) m.factors) fit))

    same-span : narrowed (total_factor f p u lines) (total_constant f p lines) (span_at p.spans u) ≡ single_span p.spans u m
    same-span = λ i. narrowed (own-factor i) (sum-constant i) (span_at p.spans u)

    tightens : (span : ℤ × ℤ) → Tightens f p u lines span ↔ (single_span p.spans u m ≡ Some span)
    tightens span =
        (λ t. sym same-span ∙ t.narrows, λ e. record { unknown = inside; lines = are; alone = alone-there; narrows = same-span ∙ e })

rising-negated : (from : ℕ) (fs : List Factor) → AreRising from fs → AreRising from (negated_factors fs)
rising-negated from [] h = tt
rising-negated from (f ∷ fs) h =
    let small : IsSmall f.1 = h.2 in (h.0, λ e. h.1 (omega (arith, ints, e)), omega (arith, ints, small), rising-negated (f.0 + 1) fs h.3)

within-negated : (n : ℕ) (fs : List Factor) → HasUnknowns n fs → HasUnknowns n (negated_factors fs)
within-negated n [] h = All-nil (λ (g : Factor). g.0 < n)
within-negated n (f ∷ fs) h =
    All-cons (λ (g : Factor). g.0 < n) (f.0, neg_ℤ f.1) (negated_factors fs) (All-head (λ (g : Factor). g.0 < n) f fs h)
    (within-negated n fs (All-tail (λ (g : Factor). g.0 < n) f fs h))

pub singles-tighten : SinglesTighten
singles-tighten f p a s u l span got proper within few is_forced inside =
    by-sign s (ap (λ (b : Bool). cond b (option_map (literal_form s) (slice_get f.atoms a)) None) is_forced
    ∙ ap (option_map (literal_form s)) got)
  where
    by-sign : (s : Bool) → line_form f p (Atom a s 1) ≡ Some (literal_form s l)
        → Tightens f p u (single_lines a s u l) span ↔ (single_span p.spans u (literal_form s l) ≡ Some span)
    by-sign true is = tightens f p a true u l is proper.rising within few inside span
    by-sign false is =
        let long = length-map {B = Factor} l.factors (λ (g : Factor). (g.0, neg_ℤ g.1)) in
        tightens f p a false u (literal_form false l) is (rising-negated 0 l.factors proper.rising)
        (within-negated (length p.spans) l.factors within) (omega (arith, long, few)) inside span

-- the least value of minus a form
pub least-negated : (spans : List (ℤ × ℤ)) (fs : List Factor) → least spans (negated_factors fs) ≡ neg_ℤ (most spans fs)
least-negated spans [] = refl
least-negated spans (f ∷ fs) = let e = end-negated f.1 (span_at spans f.0) in let r = least-negated spans fs in omega (arith, ints, e, r)
  where
    end-negated : (z : ℤ) (t : ℤ × ℤ) → low_end (neg_ℤ z) t ≡ neg_ℤ (high_end z t)
    end-negated (pos zero) t = no-end t ∙ sym (ap neg_ℤ (zero-*ℤ (cond (int_lt (pos 0) (pos 0)) t.0 t.1)))
    end-negated (pos (suc n)) t =
        let a = neg-mul (pos (suc n)) t.1 in
        let h : high_end (pos (suc n)) t ≡ pos (suc n) *ℤ t.1 = ap (λ (b : Bool). pos (suc n) *ℤ cond b t.0 t.1) (not-under (suc n)) in
        omega (arith, ints, a, h)
    end-negated (negsuc n) t =
        let a = neg-mul (pos (suc n)) t.0 in
        let l : low_end (pos (suc n)) t ≡ pos (suc n) *ℤ t.0 = ap (λ (b : Bool). pos (suc n) *ℤ cond b t.1 t.0) (not-under (suc n)) in
        omega (arith, ints, a, l)

pub literal-least : (spans : List (ℤ × ℤ)) (s : Bool) (l : LinView)
    → least spans (literal_form s l).factors ≡ cond s (least spans l.factors) (neg_ℤ (most spans l.factors))
literal-least spans true l = refl
literal-least spans false l = least-negated spans l.factors

pub literal-factor_of : (u : ℕ) (s : Bool) (l : LinView)
    → factor_of u (literal_form s l).factors ≡ cond s (factor_of u l.factors) (neg_ℤ (factor_of u l.factors))
literal-factor_of u true l = refl
literal-factor_of u false l = factor_of-negated u l.factors

pub literal-constant : (s : Bool) (l : LinView) → (literal_form s l).constant ≡ cond s l.constant (pos 1 -ℤ l.constant)
literal-constant true l = refl
literal-constant false l = refl
