-- The atoms of a settled formula: in lowest terms, the first factor positive, and no two the same.
use Rattle.std.proofs.Common.{◌≡◌, ◌∙◌, inl, inr, sym, ap, subst, refl, ℕ, zero, suc, ◌*◌, ◌<◌, ◌≤◌, ℤ, pos, negsuc, neg_ℤ, Bool, true}
use Rattle.std.proofs.Common.{false, not, cond, map, List, [], ◌∷◌, ◌++◌, length, All, arith}
use Rattle.std.specs.Prelude.{unsigned_abs, int_lt}
use Rattle.std.specs.Cmp.{IsEquivalence}
use Rattle.std.specs.Int.{◌∣◌}
use Rattle.std.specs.List.{IsDistinct, list_all, list_any, flat_map}
use Rattle.std.proofs.lemmas.Bool.{and_parts, cases_Bool, cases_eq}
use Rattle.std.proofs.lemmas.Int.{ints, unsigned_abs-mul}
use Rattle.std.proofs.lemmas.List.{length-map}
use Rattle.std.proofs.lemmas.List.Elements.{All-nil, All-cons, All-append, All-head, All-tail}
use Rattle.std.proofs.lemmas.Map.Keys.{IsDistinct-push}
use Rattle.std.proofs.lemmas.Nat.Gcd.{le_of_dvd}
use Rattle.std.proofs.Math.Nat.{mul-dvd-mul_left, mul-le-mul_left}
use Rattle.ft_base.specs.Division.{floor_of}
use Rattle.ft_linear.specs.laws.Forms.{QuotientIsExact}
use Rattle.ft_linear.specs.meaning.Form.{Factor, LinView}
use Rattle.ft_settle.specs.declared.raw.Raw.{Raw}
use Rattle.ft_settle.specs.meaning.Canonical.{AreCanonical, IsCanonical, canonical, divides_all, gcd_of, greatest_divisor, is_positive}
use Rattle.ft_settle.specs.meaning.Settled.{atoms_in, forms_of, same_form, with_form, with_forms}
use Rattle.ft_settle.specs.meaning.Raw.{all_begin_well, begins_well}
use Rattle.ft_settle.specs.settling.Factors.{quotient_of}
use Rattle.ft_settle.proofs.CanonicalLemmas.{DividesEach, abs-some, exact, gcd-divides, no-zero, not-zero, of-test, quotient-some}
use Rattle.ft_settle.proofs.CanonicalLemmas.{quotients-are, signed-some, test-of}
use Rattle.ft_settle.proofs.RawLemmas.{WithRaw, bare_raw, InductiveRaw, raw_induction, begins-Le, begins-Not, begins-And, begins-Or}
use Rattle.ft_settle.proofs.RawLemmas.{forms-Le, forms-Not, forms-And, forms-Or}
use Rattle.ft_settle.proofs.SettleLemmas.{form-itself, same-forms}

-- no greater number up to n divides each factor
greatest-most : (n d : ℕ) (fs : List Factor) → d ≤ n → divides_all d fs ≡ true → d ≤ greatest_divisor n fs
unfolding greatest_divisor
greatest-most zero d fs le so = le
greatest-most (suc n) d fs le so = elim (cases_Bool (divides_all (suc n) fs)) [
  | inl here ↦ subst (λ (b : Bool). d ≤ cond b (suc n) (greatest_divisor n fs)) (sym here) le
  | inr isnt ↦ elim (cases_eq d (suc n)) [
    | inl same ↦ cc (sym isnt ∙ ap (λ k. divides_all k fs) (sym same) ∙ so)
    | inr other ↦ subst (λ (b : Bool). d ≤ cond b (suc n) (greatest_divisor n fs)) (sym isnt)
        (greatest-most n d fs (grind (arith, le, other)) so)
  ]
]

abs-signed : (b : Bool) (q : ℤ) → unsigned_abs (cond b q (neg_ℤ q)) ≡ unsigned_abs q
abs-signed true q = refl
abs-signed false q = omega (arith, ints)

one-divisor : (g d : ℕ) → 0 < g → 0 < d → g * d ≤ g → d ≡ 1
one-divisor g zero h some le = absurd (omega (arith, some))
one-divisor g (suc zero) h some le = refl
one-divisor g (suc (suc e)) h some le =
    let two : g * 2 ≤ g * suc (suc e) = mul-le-mul_left g (omega arith) in
    absurd (omega (arith, h, le, two))

-- the quotient of a number that isn't negative isn't, and minus that of a negative one
not-under : (z : ℤ) (g : ℕ) → int_lt (cond (not (int_lt z (pos 0))) (floor_of z (pos g)) (neg_ℤ (floor_of z (pos g)))) (pos 0) ≡ false
not-under (pos n) g =
    ap (λ (b : Bool). int_lt (cond (not b) (floor_of (pos n) (pos g)) (neg_ℤ (floor_of (pos n) (pos g)))) (pos 0)) (up n) ∙ up _
  where
    up : (k : ℕ) → int_lt (pos k) (pos 0) ≡ false
    up k = grind (arith, ints)
not-under (negsuc n) g =
    ap (λ (b : Bool). int_lt (cond (not b) (floor_of (negsuc n) (pos g)) (neg_ℤ (floor_of (negsuc n) (pos g)))) (pos 0)) (down n) ∙ up _
  where
    down : (k : ℕ) → int_lt (negsuc k) (pos 0) ≡ true
    down k = grind (arith, ints)

    up : (k : ℕ) → int_lt (pos k) (pos 0) ≡ false
    up k = grind (arith, ints)

module _ (quotient : QuotientIsExact) where
  times-each : (b : Bool) (g d : ℕ) (fs : List Factor) → 0 < g → DividesEach g fs → DividesEach d (map (quotient_of b g) fs)
      → DividesEach (g * d) fs
  times-each b g d [] h each parts = tt
  times-each b g d (f ∷ fs) h each parts =
      let q = floor_of f.1 (pos g) in
      let size : unsigned_abs f.1 ≡ g * unsigned_abs q = ap unsigned_abs (exact quotient f.1 g h each.0) ∙ unsigned_abs-mul (pos g) q in
      let divides : d ∣ unsigned_abs q = subst (λ (n : ℕ). d ∣ n) (abs-signed b q) parts.0 in
      (subst (λ (n : ℕ). g * d ∣ n) (sym size) (mul-dvd-mul_left d g divides), times-each b g d fs h each.1 parts.1)

  quotients-lowest : (fs : List Factor) → 0 < length fs → begins_well fs ≡ true
      → AreCanonical (map (quotient_of (is_positive fs) (gcd_of fs)) fs)
  quotients-lowest [] some well = absurd (omega (arith, some))
  quotients-lowest (f ∷ fs) some well =
      let b : Bool = is_positive (f ∷ fs) in
      let g : ℕ = gcd_of (f ∷ fs) in
      let (each, above) = gcd-divides (f ∷ fs) some well in
      let nonzero = not-zero f.1 well in
      record {
        some = let long = length-map (f ∷ fs) (quotient_of b g) in omega (arith, long, some);
        lowest = λ d so.
            let parts = of-test d (map (quotient_of b g) (f ∷ fs)) so in
            let first = abs-some (quotient_of b g f).1 (signed-some b (floor_of f.1 (pos g))
            (quotient-some quotient f.1 g above each.0 nonzero)) in
            let times = times-each b g d (f ∷ fs) above each parts in
            let low : g * d ≤ unsigned_abs f.1 = le_of_dvd (abs-some f.1 nonzero) times.0 in
            one-divisor g d above (no-zero d (unsigned_abs (quotient_of b g f).1) parts.0 first)
            (greatest-most (unsigned_abs f.1) (g * d) (f ∷ fs) low (test-of (g * d) (f ∷ fs) times));
        positive = ap not (not-under f.1 g);
      }

  is-canonical : (l : LinView) → 0 < length l.factors → begins_well l.factors ≡ true → IsCanonical (canonical l)
  is-canonical l some well =
      subst (λ (m : LinView). IsCanonical m) (sym (quotients-are (is_positive l.factors) (gcd_of l.factors) l))
      (quotients-lowest l.factors some well)

  abbrev Gives : Raw → Type 0
  Gives raw = all_begin_well raw ≡ true → All IsCanonical (forms_of raw)

  of-form : (l : LinView) (fs : List Factor) → l.factors ≡ fs → begins_well l.factors ≡ true → All IsCanonical (atoms_in l fs)
  of-form l [] is well = All-nil IsCanonical
  of-form l (f ∷ fs) is well =
      let long = ap length is in
      All-cons IsCanonical (canonical l) [] (is-canonical l (omega (arith, long)) well) (All-nil IsCanonical)

  of-parts : (parts : List (WithRaw Gives)) → list_all all_begin_well (bare_raw parts) ≡ true
      → All IsCanonical (flat_map forms_of (bare_raw parts))
  of-parts [] well = All-nil IsCanonical
  of-parts (p ∷ parts) well = let (first, rest) = and_parts (all_begin_well p.0) (list_all all_begin_well (bare_raw parts)) well in
      All-append IsCanonical (forms_of p.0) (flat_map forms_of (bare_raw parts)) (p.1 first) (of-parts parts rest)

  gives : InductiveRaw Gives
  gives = record {
    form = λ l well. subst (All IsCanonical) (sym (forms-Le l)) (of-form l l.factors refl (sym (begins-Le l) ∙ well));
    negated = λ inner h well. subst (All IsCanonical) (sym (forms-Not inner)) (h (sym (begins-Not inner) ∙ well));
    all = λ parts well. subst (All IsCanonical) (sym (forms-And (bare_raw parts)))
        (of-parts parts (sym (begins-And (bare_raw parts)) ∙ well));
    any = λ parts well. subst (All IsCanonical) (sym (forms-Or (bare_raw parts)))
        (of-parts parts (sym (begins-Or (bare_raw parts)) ∙ well));
  }

  pub forms-canonical : (raw : Raw) → all_begin_well raw ≡ true → All IsCanonical (forms_of raw)
  forms-canonical raw = raw_induction Gives gives raw

pub all-with : (P : LinView → Type 0) (forms ls : List LinView) → All P forms → All P ls → All P (with_forms forms ls)
all-with P forms [] old new = old
all-with P forms (l ∷ ls) old new = all-with P (with_form forms l) ls (one (list_any (same_form l) forms)) (All-tail P l ls new)
  where
    one : (b : Bool) → All P (cond b forms (forms ++ l ∷ []))
    one true = old
    one false = All-append P forms (l ∷ []) old (All-cons P l [] (All-head P l ls new) (All-nil P))

same-equivalence : IsEquivalence same_form
same-equivalence = record {
  refl = form-itself;
  symm = λ l m. both-ways (same_form l m) (same_form m l) (λ e. swapped l m e) (λ e. swapped m l e);
  congr = λ l m n e. ap (λ k. same_form k n) (same-forms l m e);
}
  where
    swapped : (l m : LinView) → same_form l m ≡ true → same_form m l ≡ true
    swapped l m e = ap (λ k. same_form k l) (sym (same-forms l m e)) ∙ form-itself l

    both-ways : (b c : Bool) → (b ≡ true → c ≡ true) → (c ≡ true → b ≡ true) → b ≡ c
    both-ways true c h k = sym (h refl)
    both-ways false true h k = k refl
    both-ways false false h k = refl

pub distinct-with : (forms ls : List LinView) → IsDistinct same_form forms → IsDistinct same_form (with_forms forms ls)
distinct-with forms [] old = old
distinct-with forms (l ∷ ls) old = distinct-with (with_form forms l) ls (elim (cases_Bool (list_any (same_form l) forms)) [
  | inl so ↦ subst (λ (b : Bool). IsDistinct same_form (cond b forms (forms ++ l ∷ []))) (sym so) old
  | inr isnt ↦ subst (λ (b : Bool). IsDistinct same_form (cond b forms (forms ++ l ∷ []))) (sym isnt)
      (IsDistinct-push same-equivalence forms l old isnt)
])

pub none-distinct : IsDistinct same_form []
unfolding IsDistinct
none-distinct = tt
