-- The floors filled in lie in their spans, and the formula over its own unknowns says what it says over all.
use Rattle.std.proofs.Common.{◌≡◌, ◌∙◌, sym, subst, refl, ℕ, zero, suc, ◌<◌, ℤ, pos, negsuc, ◌*ℤ◌, ◌≤ℤ◌, true, false, cond, List, [], ◌∷◌}
use Rattle.std.proofs.Common.{◌++◌, length, arith, ⊎_elim}
use Rattle.std.specs.Prelude.{int_le, int_lt, nat_eq}
use Rattle.std.proofs.lemmas.Int.{ints}
use Rattle.std.proofs.lemmas.Bool.{cond-true, cond-false}
use Rattle.std.proofs.lemmas.Bool.Decides.{Decides-eqb}
use Rattle.std.proofs.lemmas.List.{length_push}
use Rattle.std.proofs.lemmas.Option.{slice_get_within, slice_get-get_or}
use Rattle.ft_base.specs.Division.{floor_of}
use Rattle.ft_base.specs.Interval.{IsWithin}
use Rattle.ft_claims.proofs.Arithmetic.{floor-at}
use Rattle.ft_core.specs.laws.Places.{of-push}
use Rattle.ft_linear.specs.meaning.Form.{Factor, sum_at, form_at, InArea, span_at, least, most, low_end, high_end}
use Rattle.ft_claims.proofs.Arithmetic.{times-up, times-down, under-floor}
use Rattle.ft_claims.specs.meaning.Forms.{Entries}
use Rattle.ft_claims.specs.meaning.Formulas.{set_at, fill}
use Rattle.ft_claims.specs.meaning.Areas.{Spans, quotient_span, with_spans}
use Rattle.ft_claims.proofs.UnknownLemmas.{AllIn, all-weaker, IsOrdered}

not-under : (k : ℕ) → int_lt (pos k) (pos 0) ≡ false
not-under k = grind (arith, ints)

-- a factor times a number in its span
times-most : (z y : ℤ) (s : ℤ × ℤ) → IsWithin s y → (z *ℤ y) ≤ℤ high_end z s
times-most (pos k) y s h = subst (λ b. (pos k *ℤ y) ≤ℤ (pos k *ℤ cond b s.0 s.1)) (sym (not-under k)) (times-up k y s.1 h.1)
times-most (negsuc k) y s h = times-down k s.0 y h.0

times-least : (z y : ℤ) (s : ℤ × ℤ) → IsWithin s y → low_end z s ≤ℤ (z *ℤ y)
times-least (pos k) y s h = subst (λ b. (pos k *ℤ cond b s.1 s.0) ≤ℤ (pos k *ℤ y)) (sym (not-under k)) (times-up k s.0 y h.0)
times-least (negsuc k) y s h = times-down k y s.1 h.1

span-within : (spans : Spans) (x : ℕ → ℤ) → InArea spans x → (u : ℕ) → u < length spans → IsWithin (span_at spans u) (x u)
span-within spans x h u l = h u (span_at spans u) (slice_get-get_or spans u (pos 0, pos 0) l)

pub sum-most : (spans : Spans) (x : ℕ → ℤ) → InArea spans x → (fs : List Factor) → AllIn (λ u. u < length spans) fs
    → sum_at x fs ≤ℤ most spans fs
sum-most spans x h [] all = omega (arith, ints)
sum-most spans x h (f ∷ fs) all =
    let here = times-most f.1 (x f.0) (span_at spans f.0) (span-within spans x h f.0 all.0) in
    let more = sum-most spans x h fs all.1 in omega (arith, ints, here, more)

pub sum-least : (spans : Spans) (x : ℕ → ℤ) → InArea spans x → (fs : List Factor) → AllIn (λ u. u < length spans) fs
    → least spans fs ≤ℤ sum_at x fs
sum-least spans x h [] all = omega (arith, ints)
sum-least spans x h (f ∷ fs) all =
    let here = times-least f.1 (x f.0) (span_at spans f.0) (span-within spans x h f.0 all.0) in
    let more = sum-least spans x h fs all.1 in omega (arith, ints, here, more)

floor-up : (a b k : ℤ) → int_le (pos 1) k ≡ true → a ≤ℤ b → floor_of a k ≤ℤ floor_of b k
floor-up a b (pos k) up h =
    let low = (floor-at a (pos k) (floor_of a (pos k)) (omega (arith, ints, up)) refl).low in
    under-floor (floor_of a (pos k)) b k (omega (arith, ints, up)) (omega (arith, ints, low, h))
floor-up a b (negsuc k) up h = absurd (omega (arith, ints, up))

-- each floor is in the span of its pair
pub fill-within : (T : Entries) (spans : Spans) (n : ℕ) (ν : ℕ → ℤ) → n ≡ length spans → IsOrdered n T → InArea spans ν
    → InArea (with_spans spans T) (fill n ν T)
fill-within [] spans n ν long o h = h
fill-within (e ∷ T) spans n ν long o h =
    fill-within T (spans ++ quotient_span spans e ∷ []) (suc n) (set_at ν n value) (more-long spans long) later here
  where
    value : ℤ
    value = floor_of (form_at ν e.0) e.1

    more-long : (spans : Spans) → n ≡ length spans → suc n ≡ length (spans ++ quotient_span spans e ∷ [])
    more-long spans long = let more = length_push spans (quotient_span spans e) in omega (arith, more, long)

    later : IsOrdered (suc n) T
    later = λ j b at. (all-weaker _ _ b.0.factors (λ u l. omega (arith, l)) (o (suc j) b at).0, (o (suc j) b at).1)

    low : AllIn (λ u. u < length spans) e.0.factors
    low = all-weaker _ _ e.0.factors (λ u l. omega (arith, l, long)) (o zero e refl).0

    inside : IsWithin (quotient_span spans e) value
    inside =
        let up = (o zero e refl).1 in
        let a = sum-least spans ν h e.0.factors low in let b = sum-most spans ν h e.0.factors low in
        (floor-up _ _ e.1 up (omega (arith, ints, a)), floor-up _ _ e.1 up (omega (arith, ints, b)))

    differs : (u n : ℕ) → u < n → nat_eq u n ≡ false
    differs u n l = grind (arith, l)

    here : InArea (spans ++ quotient_span spans e ∷ []) (set_at ν n value)
    here u s is = ⊎_elim
        (λ old. subst (IsWithin s) (sym (cond-false (nat_eq u n) value (ν u)
        (differs u n (let l = slice_get_within spans u s old in omega (arith, l, long))))) (h u s old))
        (λ new. subst (λ z. IsWithin z (set_at ν n value u)) new.1
        (subst (IsWithin (quotient_span spans e)) (sym (cond-true (nat_eq u n) value (ν u) ((Decides-eqb u n).1 (new.0 ∙ sym long))))
        inside))
        (of-push spans (quotient_span spans e) u s is)
