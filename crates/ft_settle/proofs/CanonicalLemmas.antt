-- The greatest common divisor of factors, and what division by it keeps.
use Rattle.std.proofs.Common.{◌≡◌, ◌≢◌, ◌∙◌, inl, inr, sym, ap, subst, refl, ℕ, zero, suc, ◌+◌, ◌*◌, ◌/◌, ◌%◌, ◌<◌, ◌≤◌, ◌↔◌, ℤ, pos}
use Rattle.std.proofs.Common.{negsuc, neg_ℤ, ◌+ℤ◌, ◌-ℤ◌, ◌*ℤ◌, Bool, true, false, not, ◌&&◌, cond, map, List, [], ◌∷◌, ◌++◌, length, take}
use Rattle.std.proofs.Common.{arith}
use Rattle.std.specs.Prelude.{nat_eq, unsigned_abs, slice_index_or, int_le, if◌then◌else◌}
use Rattle.std.specs.Ordering.{int_eq}
use Rattle.std.specs.Int.{IsGcd, ◌∣◌}
use Rattle.std.proofs.lemmas.Bool.{cases_Bool, cases_eq, and_parts, eqb-true}
use Rattle.std.proofs.lemmas.Int.{ints}
use Rattle.std.proofs.lemmas.List.{take_more, take_all}
use Rattle.std.proofs.lemmas.Nat.Gcd.{dvd_refl, dvd-zero, dvd_trans, dvd_antisymm, le_of_dvd, dvd_of_mod-eq-zero, mod-eq-zero_of_dvd}
use Rattle.std.proofs.Math.Nat.{div-le_self}
use Rattle.ft_base.specs.Division.{floor_of}
use Rattle.ft_linear.specs.meaning.Bounds.{value_most}
use Rattle.ft_linear.specs.meaning.Forced.{same_bool}
use Rattle.ft_linear.specs.meaning.Form.{Factor, LinView, AreRising, IsSmall, sum_at, scaled, form_at}
use Rattle.ft_linear.specs.meaning.Rules.{literal_form}
use Rattle.ft_settle.specs.meaning.Canonical.{divides_all, greatest_divisor, gcd_of, divided, canonical, is_positive}
use Rattle.ft_settle.specs.meaning.Raw.{begins_well}
use Rattle.ft_settle.specs.settling.Factors.{quotient_of}
use Rattle.ft_linear.specs.laws.Nodes.{map-map}
use Rattle.std.proofs.Math.IntN.{*ℤ-zero, *ℤ-negsuc}
use Rattle.ft_linear.specs.laws.Forms.{LiteralsHold, DividedHolds, QuotientIsExact}

abbrev pub DividesEach : ℕ → List Factor → Type 0
DividesEach d [] = Unit {0}
DividesEach d (f ∷ fs) = (d ∣ unsigned_abs f.1) × DividesEach d fs

each-push : (d : ℕ) (fs : List Factor) (f : Factor) → DividesEach d (fs ++ f ∷ []) ↔ (DividesEach d fs × (d ∣ unsigned_abs f.1))
each-push d [] f = (λ h. (tt, h.0), λ h. (h.1, tt))
each-push d (g ∷ fs) f = let (to, from) = each-push d fs f in
    (λ h. ((h.0, (to h.1).0), (to h.1).1), λ h. (h.0.0, from (h.0.1, h.1)))

-- the common divisors so far are the divisors of this number
abbrev pub IsDivisor : ℕ → List Factor → Type 0
IsDivisor g fs = (d : ℕ) → (d ∣ g) ↔ DividesEach d fs

pub divisor-none : IsDivisor 0 []
divisor-none d = (λ h. tt, λ h. dvd-zero d)

pub divisor-more : (g next : ℕ) (fs : List Factor) (i : ℕ) (e : Factor) (n : ℕ) → i < length fs → n ≡ unsigned_abs (slice_index_or fs i e).1
    → IsGcd g n next
    → IsDivisor g (take i fs) → IsDivisor next (take (i + 1) fs)
divisor-more g next fs i e n within is gcd before d =
    let (to, from) = each-push d (take i fs) (slice_index_or fs i e) in
    let more = take_more fs i e within in (
      λ h. subst (DividesEach d) (sym more) (from ((before d).0 (dvd_trans d h gcd.0), subst (λ k. d ∣ k) is (dvd_trans d h gcd.1))),
      λ h. let parts = to (subst (DividesEach d) more h) in gcd.2 d ((before d).1 parts.0) (subst (λ k. d ∣ k) (sym is) parts.1),
    )

pub divisor-all : (g : ℕ) (fs : List Factor) (i : ℕ) → length fs ≤ i → IsDivisor g (take i fs) → IsDivisor g fs
divisor-all g fs i past h = subst (IsDivisor g) (take_all i fs past) h

pub test-of : (d : ℕ) (fs : List Factor) → DividesEach d fs → divides_all d fs ≡ true
test-of d [] h = refl
test-of d (f ∷ fs) h = ap (λ b. b && divides_all d fs) (eq-test (unsigned_abs f.1 % d) (mod-eq-zero_of_dvd d h.0)) ∙ test-of d fs h.1
  where
    eq-test : (n : ℕ) → n ≡ 0 → nat_eq n 0 ≡ true
    eq-test n e = grind arith

pub of-test : (d : ℕ) (fs : List Factor) → divides_all d fs ≡ true → DividesEach d fs
of-test d [] e = tt
of-test d (f ∷ fs) e = let (here, rest) = and_parts (nat_eq (unsigned_abs f.1 % d) 0) (divides_all d fs) e in
    (dvd_of_mod-eq-zero d (eqb-true (unsigned_abs f.1 % d) 0 here), of-test d fs rest)

greatest-is : (n g : ℕ) (fs : List Factor) → g ≤ n → 0 < g → divides_all g fs ≡ true → ((d : ℕ) → g < d → divides_all d fs ≡ true → ⊥)
    → greatest_divisor n fs ≡ g
unfolding greatest_divisor
greatest-is zero g fs le above so none = absurd (omega (arith, le, above))
greatest-is (suc n) g fs le above so none = elim (cases_eq g (suc n)) [
  | inl same ↦ ap (λ b. cond b (suc n) (greatest_divisor n fs)) (ap (λ k. divides_all k fs) (sym same) ∙ so) ∙ sym same
  | inr other ↦ elim (cases_Bool (divides_all (suc n) fs)) [
    | inl bad ↦ absurd (none (suc n) (grind (arith, le, other)) bad)
    | inr fine ↦ ap (λ b. cond b (suc n) (greatest_divisor n fs)) fine ∙ greatest-is n g fs (grind (arith, le, other)) above so none
  ]
]

pub abs-some : (z : ℤ) → z ≢ pos 0 → 0 < unsigned_abs z
abs-some (pos zero) h = absurd (h refl)
abs-some (pos (suc n)) h = omega (arith, ints)
abs-some (negsuc n) h = omega (arith, ints)

pub no-zero : (g n : ℕ) → g ∣ n → 0 < n → 0 < g
no-zero zero n d above = let e = dvd_antisymm d (dvd-zero n) in absurd (omega (arith, e, above))
no-zero (suc g) n d above = omega arith

pub gcd-is : (g : ℕ) (fs : List Factor) → 0 < length fs → AreRising 0 fs → IsDivisor g fs → (g ≡ gcd_of fs) × (0 < g) × (g ≤ value_most)
gcd-is g [] some rising h = absurd (omega (arith, some))
gcd-is g (f ∷ fs) some rising h =
    let each = (h g).0 (dvd_refl g) in
    let n_some : 0 < unsigned_abs f.1 = abs-some f.1 rising.1 in
    let above : 0 < g = no-zero g (unsigned_abs f.1) each.0 n_some in
    let low : g ≤ unsigned_abs f.1 = le_of_dvd n_some each.0 in
    let small : unsigned_abs f.1 ≤ value_most = rising.2 in (
      sym (greatest-is (unsigned_abs f.1) g (f ∷ fs) low above (test-of g (f ∷ fs) each)
          (λ d less so. let le = le_of_dvd above ((h d).1 (of-test d (f ∷ fs) so)) in omega (arith, less, le))),
      above,
      omega (arith, low, small),
    )

one-divides : (fs : List Factor) → divides_all 1 fs ≡ true
one-divides [] = refl
one-divides (f ∷ fs) = ap (λ b. b && divides_all 1 fs) (no-rest (unsigned_abs f.1)) ∙ one-divides fs
  where
    no-rest : (n : ℕ) → nat_eq (n % 1) 0 ≡ true
    no-rest n = let e : n % 1 ≡ 0 = omega arith in ap (λ k. nat_eq k 0) e

greatest-divides : (n : ℕ) (fs : List Factor) → 0 < n → (divides_all (greatest_divisor n fs) fs ≡ true) × (0 < greatest_divisor n fs)
unfolding greatest_divisor
greatest-divides zero fs h = absurd (omega (arith, h))
greatest-divides (suc zero) fs h = subst (λ (k : ℕ). (divides_all k fs ≡ true) × (0 < k)) (sym (ap (λ b. cond b 1 0) (one-divides fs)))
    (one-divides fs, omega arith)
greatest-divides (suc (suc n)) fs h = elim (cases_Bool (divides_all (suc (suc n)) fs)) [
  | inl so ↦ subst (λ (k : ℕ). (divides_all k fs ≡ true) × (0 < k)) (sym (ap (λ b. cond b (suc (suc n)) (greatest_divisor (suc n) fs)) so))
      (so, omega arith)
  | inr isnt ↦ subst (λ (k : ℕ). (divides_all k fs ≡ true) × (0 < k)) (sym
      (ap (λ b. cond b (suc (suc n)) (greatest_divisor (suc n) fs)) isnt)) (greatest-divides (suc n) fs (omega arith))
]

pub begins-well : (fs : List Factor) (from : ℕ) → AreRising from fs → begins_well fs ≡ true
begins-well [] from h = refl
begins-well (f ∷ fs) from h = elim (cases_Bool (int_eq f.1 (pos 0))) [
  | inl so ↦ absurd (h.1 (grind (arith, ints, so)))
  | inr isnt ↦ ap not isnt
]

pub not-zero : (z : ℤ) → not (int_eq z (pos 0)) ≡ true → z ≢ pos 0
not-zero z e same = cc (sym e ∙ ap (λ (y : ℤ). not (int_eq y (pos 0))) same)

pub gcd-divides : (fs : List Factor) → 0 < length fs → begins_well fs ≡ true → DividesEach (gcd_of fs) fs × (0 < gcd_of fs)
gcd-divides [] some well = absurd (omega (arith, some))
gcd-divides (f ∷ fs) some well = let (each, above) = greatest-divides (unsigned_abs f.1) (f ∷ fs) (abs-some f.1 (not-zero f.1 well)) in
    (of-test (gcd_of (f ∷ fs)) (f ∷ fs) each, above)

-- a number that g divides is g times its quotient
module _ (quotient : QuotientIsExact) where
  pub exact : (z : ℤ) (g : ℕ) → 0 < g → g ∣ unsigned_abs z → z ≡ pos g *ℤ floor_of z (pos g)
  exact z g h d = multiple z (unsigned_abs z / g) (whole (unsigned_abs z) (mod-eq-zero_of_dvd g d))
    where
      whole : (n : ℕ) → n % g ≡ 0 → n ≡ g * (n / g)
      whole n e = omega (arith, e, h)

      by-quotient : (y q : ℤ) → y ≡ pos g *ℤ q → y ≡ pos g *ℤ floor_of y (pos g)
      by-quotient y q is = is ∙ ap (λ (p : ℤ). pos g *ℤ p) (sym (ap (λ (x : ℤ). floor_of x (pos g)) is ∙ quotient q g h))

      multiple : (y : ℤ) (k : ℕ) → unsigned_abs y ≡ g * k → y ≡ pos g *ℤ floor_of y (pos g)
      multiple (pos n) k e = by-quotient (pos n) (pos k) (ap pos e)
      multiple (negsuc n) zero e = let none : g * 0 ≡ 0 = omega arith in absurd (omega (arith, e, none))
      multiple (negsuc n) (suc k) e =
          let m = *ℤ-negsuc (pos g) k in
          let s : pos (suc n) ≡ pos g *ℤ pos (suc k) = ap pos e in
          by-quotient (negsuc n) (negsuc k) (omega (arith, ints, m, s))

  pub quotient-some : (z : ℤ) (g : ℕ) → 0 < g → g ∣ unsigned_abs z → z ≢ pos 0 → floor_of z (pos g) ≢ pos 0
  quotient-some z g h d some none = some (exact z g h d ∙ ap (λ (q : ℤ). pos g *ℤ q) none ∙ *ℤ-zero (pos g))

quotient-small : (z : ℤ) (g : ℕ) → 0 < g → unsigned_abs (floor_of z (pos g)) ≤ unsigned_abs z
quotient-small (pos n) g h = div-le_self n g
quotient-small (negsuc n) g h = let less : n / g ≤ n = div-le_self n g in omega (arith, ints, less)

pub signed-some : (b : Bool) (q : ℤ) → q ≢ pos 0 → cond b q (neg_ℤ q) ≢ pos 0
signed-some true q h e = h e
signed-some false q h e = h (omega (arith, ints, e))

signed-small : (b : Bool) (q : ℤ) → IsSmall q → IsSmall (cond b q (neg_ℤ q))
signed-small true q h = h
signed-small false q h = omega (arith, ints, h)

-- the canonical form's factors rise as the form's do
pub quotients-rise : (quotient : QuotientIsExact) (b : Bool) (g from : ℕ) (fs : List Factor) → 0 < g → DividesEach g fs → AreRising from fs
    → AreRising from (map (quotient_of b g) fs)
quotients-rise quotient b g from [] h each rising = tt
quotients-rise quotient b g from (f ∷ fs) h each rising = (
  rising.0,
  signed-some b (floor_of f.1 (pos g)) (quotient-some quotient f.1 g h each.0 rising.1),
  signed-small b (floor_of f.1 (pos g)) (let s = quotient-small f.1 g h in let t : unsigned_abs f.1 ≤ value_most = rising.2 in
      omega (arith, s, t)),
  quotients-rise quotient b g (f.0 + 1) fs h each.1 rising.3,
)

pub quotients-are : (b : Bool) (g : ℕ) (l : LinView)
    → literal_form b (divided g l) ≡ record {
      factors = map (quotient_of b g) l.factors;
      constant =
          cond b (neg_ℤ (floor_of (neg_ℤ l.constant) (pos g))) (pos 1 -ℤ neg_ℤ (floor_of (neg_ℤ l.constant) (pos g)));
    }
quotients-are true g l = refl
quotients-are false g l = λ i. record {
  factors = map-map (λ (f : Factor). (f.0, neg_ℤ f.1)) (λ (f : Factor). (f.0, floor_of f.1 (pos g)))
      l.factors i;
  constant = pos 1 -ℤ neg_ℤ (floor_of (neg_ℤ l.constant) (pos g));
}

-- the factors are g times those of the divided form
each-exact : (quotient : QuotientIsExact) (g : ℕ) (fs : List Factor) → 0 < g → DividesEach g fs → fs
    ≡ scaled g (map (λ f. (f.0, floor_of f.1 (pos g))) fs)
each-exact quotient g [] h each = refl
each-exact quotient g (f ∷ fs) h each = λ i. (f.0, exact quotient f.1 g h each.0 i) ∷ each-exact quotient g fs h each.1 i

module _ (literal : LiteralsHold) (divide : DividedHolds) (quotient : QuotientIsExact) (x : ℕ → ℤ) where
  divided-same : (g : ℕ) (l : LinView) → 0 < g → DividesEach g l.factors → int_le (form_at x l) (pos 0)
      ≡ int_le (form_at x (divided g l)) (pos 0)
  divided-same g l h each =
      ap (λ (fs : List Factor). int_le (sum_at x fs +ℤ l.constant) (pos 0)) (each-exact quotient g l.factors h each)
      ∙ divide x g (map (λ f. (f.0, floor_of f.1 (pos g))) l.factors) l.constant h

  -- a form's atom is its canonical atom, or the negation of that
  pub canonical-same : (l : LinView) → 0 < length l.factors → begins_well l.factors ≡ true
      → int_le (form_at x l) (pos 0) ≡ (if is_positive l.factors then int_le (form_at x (canonical l)) (pos 0) else not
      (int_le (form_at x (canonical l)) (pos 0)))
  canonical-same l some well =
      let (each, above) = gcd-divides l.factors some well in
      divided-same (gcd_of l.factors) l above each
      ∙ back (is_positive l.factors) (int_le (form_at x (divided (gcd_of l.factors) l)) (pos 0)) (int_le (form_at x (canonical l)) (pos 0))
      (literal x (is_positive l.factors) (divided (gcd_of l.factors) l))
    where
      twice : (b : Bool) → b ≡ not (not b)
      twice true = refl
      twice false = refl

      back : (b t u : Bool) → u ≡ same_bool b t → t ≡ cond b u (not u)
      back true t u e = sym e
      back false t u e = twice t ∙ ap not (sym e)
