-- Which unknowns forms have, and that numbers which agree on them give one value.
use Rattle.std.proofs.Common.{◌≡◌, ◌∙◌, sym, ap, subst, refl, ℕ, zero, suc, ◌+◌, ◌<◌, ℤ, pos, negsuc, ◌+ℤ◌, ◌*ℤ◌, true, false, ◌&&◌, ◌||◌}
use Rattle.std.proofs.Common.{List, [], ◌∷◌, ◌++◌, map, length, Some, slice_get, arith, ⊎_elim}
use Rattle.std.specs.Prelude.{nat_lt, nat_eq, int_le}
use Rattle.std.specs.List.{position_or_len}
use Rattle.std.specs.Ordering.{int_eq}
use Rattle.std.proofs.lemmas.Bool.{cases_Bool, cond-true, cond-false, and_parts, ltb-true}
use Rattle.std.proofs.lemmas.Bool.Decides.{Decides-eqb}
use Rattle.std.proofs.lemmas.Option.{none-some, same_Some, slice_get_within}
use Rattle.ft_base.specs.Division.{floor_of}
use Rattle.ft_core.specs.laws.Places.{of-push}
use Rattle.ft_linear.specs.meaning.Form.{Factor, LinView, sum_at, form_at}
use Rattle.ft_claims.specs.declared.claim.Sym.{Sym}
use Rattle.ft_claims.specs.declared.claim.Sym.TheOpen as part
use Rattle.ft_claims.specs.declared.claim.Sym.TheVariants.{rolls-Num, rolls-Slot, rolls-Neg, rolls-Add, rolls-Sub, rolls-Times, rolls-Div}
use Rattle.ft_claims.specs.meaning.Forms.{constant_form, unknown, with_front, with_factor, with_factors, plus, minus, times, times_factors}
use Rattle.ft_claims.specs.meaning.Forms.{Entry, Entries, same_entry, is_constant, is_in, quotient, with_entry, Gathered, gathered}
use Rattle.ft_claims.specs.meaning.Formulas.{set_at, fill}
use Rattle.ft_claims.proofs.GatherLemmas.{gather_induction, sym_induction, rolled, stable, found-entry, AreFloors}

-- each unknown of these factors
abbrev pub AllIn : (ℕ → Type 0) → List Factor → Type 0
AllIn P [] = Unit {0}
AllIn P (f ∷ fs) = P f.0 × AllIn P fs

pub all-weaker : (P Q : ℕ → Type 0) (fs : List Factor) → ((u : ℕ) → P u → Q u) → AllIn P fs → AllIn Q fs
all-weaker P Q [] h all = tt
all-weaker P Q (f ∷ fs) h all = (h f.0 all.0, all-weaker P Q fs h all.1)

pub same-sum : (x y : ℕ → ℤ) (fs : List Factor) → AllIn (λ u. x u ≡ y u) fs → sum_at x fs ≡ sum_at y fs
same-sum x y [] h = refl
same-sum x y (f ∷ fs) h = let more = same-sum x y fs h.1 in λ i. (f.1 *ℤ h.0 i) +ℤ more i

pub same-form-at : (x y : ℕ → ℤ) (f : LinView) → AllIn (λ u. x u ≡ y u) f.factors → form_at x f ≡ form_at y f
same-form-at x y f h = ap (λ z. z +ℤ f.constant) (same-sum x y f.factors h)

module _ (P : ℕ → Type 0) where
  front-in : (u : ℕ) (z : ℤ) (fs : List Factor) → P u → AllIn P fs → AllIn P (with_front u z fs)
  front-in u z fs p h = ⊎_elim
      (λ is. subst (AllIn P) (sym (cond-true (int_eq z (pos 0)) fs ((u, z) ∷ fs) is)) h)
      (λ isnt. subst (AllIn P) (sym (cond-false (int_eq z (pos 0)) fs ((u, z) ∷ fs) isnt)) (p, h))
      (cases_Bool (int_eq z (pos 0)))

  factor-in : (u : ℕ) (z : ℤ) (fs : List Factor) → P u → AllIn P fs → AllIn P (with_factor u z fs)
  factor-in u z [] p h = front-in u z [] p h
  factor-in u z (g ∷ gs) p h = ⊎_elim
      (λ less. subst (AllIn P) (sym (cond-true (nat_lt u g.0) _ _ less)) (front-in u z (g ∷ gs) p h))
      (λ not_less. subst (AllIn P) (sym (cond-false (nat_lt u g.0) _ _ not_less)) (⊎_elim
      (λ same. subst (AllIn P) (sym (cond-true (nat_eq u g.0) _ _ same)) (front-in u (z +ℤ g.1) gs p h.1))
      (λ other. subst (AllIn P) (sym (cond-false (nat_eq u g.0) (with_front u (z +ℤ g.1) gs) (g ∷ with_factor u z gs) other))
      (h.0, factor-in u z gs p h.1))
      (cases_Bool (nat_eq u g.0))))
      (cases_Bool (nat_lt u g.0))

  factors-in : (fs gs : List Factor) → AllIn P fs → AllIn P gs → AllIn P (with_factors fs gs)
  factors-in [] gs h k = k
  factors-in (f ∷ fs) gs h k = factor-in f.0 f.1 (with_factors fs gs) h.0 (factors-in fs gs h.1 k)

  mapped-in : (c : ℤ) (fs : List Factor) → AllIn P fs → AllIn P (map (λ f. (f.0, c *ℤ f.1)) fs)
  mapped-in c [] h = tt
  mapped-in c (f ∷ fs) h = (h.0, mapped-in c fs h.1)

  times-in : (c : ℤ) (fs : List Factor) → AllIn P fs → AllIn P (times_factors c fs)
  times-in c fs h = ⊎_elim
      (λ is. subst (AllIn P) (sym (cond-true (int_eq c (pos 0)) [] (map (λ f. (f.0, c *ℤ f.1)) fs) is)) tt)
      (λ isnt. subst (AllIn P) (sym (cond-false (int_eq c (pos 0)) [] (map (λ f. (f.0, c *ℤ f.1)) fs) isnt)) (mapped-in c fs h))
      (cases_Bool (int_eq c (pos 0)))

  pub plus-in : (a b : LinView) → AllIn P a.factors → AllIn P b.factors → AllIn P (plus a b).factors
  plus-in a b h k = factors-in a.factors b.factors h k

  pub times-form-in : (c : ℤ) (a : LinView) → AllIn P a.factors → AllIn P (times c a).factors
  times-form-in c a h = times-in c a.factors h

  pub minus-in : (a b : LinView) → AllIn P a.factors → AllIn P b.factors → AllIn P (minus a b).factors
  minus-in a b h k = factors-in a.factors (times_factors (negsuc 0) b.factors) h (times-in (negsuc 0) b.factors k)

module _ (base : ℕ) where
  -- the unknowns of a term are its names and those of pairs that are there
  abbrev pub IsLow : Entries → ℕ → Type 0
  IsLow T u = u < base + length T

  pub form_low : (T : Entries) (e : Sym) → (gathered base e).has T ≡ true → (gathered base e).good ≡ true
      → AllIn (IsLow T) ((gathered base e).form T).factors
  form_low T = gather_induction base (λ e g. g.has T ≡ true → g.good ≡ true → AllIn (IsLow T) (g.form T).factors) (record {
    num = λ n has good. tt;
    slot = λ x has good. (let l = ltb-true x base good in omega (arith, l), tt);
    negated = λ a g p has good. times-form-in (IsLow T) (negsuc 0) (g.form T) (p has good);
    added = λ a b g h p q has good.
        let hs = and_parts (g.has T) (h.has T) has in let gs = and_parts g.good h.good good in
        plus-in (IsLow T) (g.form T) (h.form T) (p hs.0 gs.0) (q hs.1 gs.1);
    less = λ a b g h p q has good.
        let hs = and_parts (g.has T) (h.has T) has in let gs = and_parts g.good h.good good in
        minus-in (IsLow T) (g.form T) (h.form T) (p hs.0 gs.0) (q hs.1 gs.1);
    scaled = λ c a g p has good. times-form-in (IsLow T) c (g.form T) (p has good);
    quotient = λ a k g p has good.
        let hs = and_parts (g.has T) (is_constant (g.form T).factors || is_in T (g.form T, k)) has in
        quotient_low (g.form T) k hs.1;
  })
    where
      quotient_low : (f : LinView) (k : ℤ) → (is_constant f.factors || is_in T (f, k)) ≡ true
          → AllIn (IsLow T) (quotient base T f k).factors
      quotient_low f k h = ⊎_elim
          (λ is. subst (λ (q : LinView). AllIn (IsLow T) q.factors) (sym
          (cond-true (is_constant f.factors) (constant_form (floor_of f.constant k))
          (unknown (base + position_or_len (same_entry (f, k)) T)) is)) tt)
          (λ isnt.
          let inside = slice_get_within T (position_or_len (same_entry (f, k)) T) (f, k)
          (found-entry T (f, k) (sym (ap (λ b. b || is_in T (f, k)) isnt) ∙ h)) in
          subst (λ (q : LinView). AllIn (IsLow T) q.factors) (sym (cond-false (is_constant f.factors)
          (constant_form (floor_of f.constant k)) (unknown (base + position_or_len (same_entry (f, k)) T)) isnt))
          (omega (arith, inside), tt))
          (cases_Bool (is_constant f.factors))

-- a pair at a place has only unknowns before its own, and a positive divisor
abbrev pub IsOrdered : ℕ → Entries → Type 0
IsOrdered base T = (d : ℕ) (e : Entry) → slice_get T d ≡ Some e → AllIn (λ u. u < base + d) e.0.factors × (int_le (pos 1) e.1 ≡ true)

pub none-ordered : (base : ℕ) → IsOrdered base []
none-ordered base d e is = absurd (none-some e is)

abbrev pub KeepsOrder : ℕ → Gathered → Type 0
KeepsOrder base g = (T : Entries) → IsOrdered base T → g.good ≡ true → IsOrdered base (g.entries T)

entry-ordered : (base : ℕ) (T : Entries) (f : LinView) (k : ℤ) → IsOrdered base T → AllIn (λ u. u < base + length T) f.factors
    → int_le (pos 1) k ≡ true
    → IsOrdered base (with_entry T f k)
entry-ordered base T f k o low up = ⊎_elim
    (λ is. subst (IsOrdered base) (sym (cond-true (is_constant f.factors || is_in T (f, k)) T (T ++ (f, k) ∷ []) is)) o)
    (λ isnt. subst (IsOrdered base) (sym (cond-false (is_constant f.factors || is_in T (f, k)) T (T ++ (f, k) ∷ []) isnt)) pushed)
    (cases_Bool (is_constant f.factors || is_in T (f, k)))
  where
    pushed : IsOrdered base (T ++ (f, k) ∷ [])
    pushed d e is = ⊎_elim
        (λ old. o d e old)
        (λ new. (
          subst (λ (x : Entry). AllIn (λ u. u < base + d) x.0.factors) new.1
              (subst (λ n. AllIn (λ u. u < base + n) f.factors) (sym new.0) low),
          subst (λ (x : Entry). int_le (pos 1) x.1 ≡ true) new.1 up,
        ))
        (of-push T (f, k) d e is)

pub keeps_order : (base : ℕ) (e : Sym) → KeepsOrder base (gathered base e)
keeps_order base = sym_induction (λ e. KeepsOrder base (gathered base e)) (record {
  num = λ n. subst (KeepsOrder base) (sym (rolled base _ (part.Num n) (rolls-Num n))) (λ T o good. o);
  slot = λ x. subst (KeepsOrder base) (sym (rolled base _ (part.Slot x) (rolls-Slot x))) (λ T o good. o);
  negated = λ a p. subst (KeepsOrder base) (sym (rolled base _ (part.Neg a) (rolls-Neg a))) p;
  added = λ a b p q. subst (KeepsOrder base) (sym (rolled base _ (part.Add a b) (rolls-Add a b)))
      (two (gathered base a) (gathered base b) p q);
  less = λ a b p q. subst (KeepsOrder base) (sym (rolled base _ (part.Sub a b) (rolls-Sub a b)))
      (two (gathered base a) (gathered base b) p q);
  scaled = λ c a p. subst (KeepsOrder base) (sym (rolled base _ (part.Times c a) (rolls-Times c a))) p;
  quotient = λ a k p. subst (KeepsOrder base) (sym (rolled base _ (part.Div a k) (rolls-Div a k))) (λ T o good.
      let g = gathered base a in
      let goods = and_parts g.good (int_le (pos 1) k) good in
      entry-ordered base (g.entries T) (g.form (g.entries T)) k (p T o goods.0)
      (form_low base (g.entries T) a ((stable base a).gets T) goods.0) goods.1);
})
  where
    two : (g h : Gathered) → KeepsOrder base g → KeepsOrder base h → (T : Entries) → IsOrdered base T → (g.good && h.good) ≡ true
        → IsOrdered base (h.entries (g.entries T))
    two g h p q T o good = let goods = and_parts g.good h.good good in q (g.entries T) (p T o goods.0) goods.1

-- numbers filled in, with the floor of each pair
pub fill-below : (T : Entries) (n : ℕ) (ν : ℕ → ℤ) (u : ℕ) → u < n → fill n ν T u ≡ ν u
fill-below [] n ν u l = refl
fill-below (e ∷ T) n ν u l =
    fill-below T (suc n) (set_at ν n (floor_of (form_at ν e.0) e.1)) u (omega (arith, l))
    ∙ cond-false (nat_eq u n) (floor_of (form_at ν e.0) e.1) (ν u) (differs u n l)
  where
    differs : (u n : ℕ) → u < n → nat_eq u n ≡ false
    differs u n l = grind (arith, l)

pub fill-floors : (T : Entries) (n : ℕ) (ν : ℕ → ℤ) → IsOrdered n T → AreFloors n (fill n ν T) T
fill-floors [] n ν o d e is = absurd (none-some e is)
fill-floors (e ∷ T) n ν o zero a is =
    let first : n + 0 ≡ n = omega arith in
    let value = floor_of (form_at ν e.0) e.1 in
    let below : (u : ℕ) → u < n + 0 → ν u ≡ fill n ν (e ∷ T) u = λ u l. sym (fill-below (e ∷ T) n ν u (omega (arith, l))) in
    ap (fill n ν (e ∷ T)) first
    ∙ fill-below T (suc n) (set_at ν n value) n (omega arith)
    ∙ cond-true (nat_eq n n) value (ν n) ((Decides-eqb n n).1 refl)
    ∙ ap (λ z. floor_of z e.1) (same-form-at ν (fill n ν (e ∷ T)) e.0 (all-weaker _ _ e.0.factors below (o zero e refl).0))
    ∙ ap (λ (x : Entry). floor_of (form_at (fill n ν (e ∷ T)) x.0) x.1) (same_Some e a is)
fill-floors (e ∷ T) n ν o (suc d) a is =
    let next : n + suc d ≡ suc n + d = omega arith in
    let later : IsOrdered (suc n) T = λ j b at. (
      all-weaker _ _ b.0.factors (λ u l. omega (arith, l)) (o (suc j) b at).0,
      (o (suc j) b at).1,
    ) in
    ap (fill n ν (e ∷ T)) next
    ∙ fill-floors T (suc n) (set_at ν n (floor_of (form_at ν e.0) e.1)) later d a is
