-- The pairs of a form and a divisor that a term has: lists of them grow at their end, what is in one stays there, and with a
-- floor for each pair the form has the term's value.
use Rattle.std.proofs.Common.{◌≡◌, ◌∙◌, sym, ap, subst, refl, ℕ, suc, ◌+◌, ◌<◌, ℤ, pos, negsuc, ◌+ℤ◌, ◌-ℤ◌, ◌*ℤ◌, Bool, true, false, not}
use Rattle.std.proofs.Common.{◌&&◌, ◌||◌, cond, List, [], ◌∷◌, ◌++◌, Some, slice_get, arith, ⊎_elim, true≢false}
use Rattle.std.specs.Prelude.{nat_lt, nat_eq, int_le}
use Rattle.std.specs.Ordering.{int_eq}
use Rattle.std.specs.Cmp.Lexicographic.{pointwise}
use Rattle.std.specs.List.{list_any, position_or_len}
use Rattle.std.proofs.lemmas.Int.{ints}
use Rattle.std.proofs.lemmas.Bool.{cases_Bool, cond-true, cond-false, and_parts, and_from, or_left, or_right, or_cases, ltb-true}
use Rattle.std.proofs.lemmas.Bool.Decides.{Decides-int_eq, Decides-eqb}
use Rattle.std.proofs.lemmas.List.{append-nil}
use Rattle.std.proofs.lemmas.List.Folds.{list_any-append}
use Rattle.ft_base.specs.Division.{floor_of}
use Rattle.ft_linear.specs.meaning.Form.{Factor, LinView, sum_at, form_at}
use Rattle.ft_claims.specs.declared.claim.Sym.{Sym, Sym-F, map-Sym, fold-Sym, roll-Sym, fold-roll-Sym, ind-Sym}
use Rattle.ft_claims.specs.declared.claim.Sym.TheOpen as part
use Rattle.ft_claims.specs.declared.claim.Sym.TheVariants.{Num, Slot, Neg, Add, Sub, Times, Div, rolls-Num, rolls-Slot, rolls-Neg}
use Rattle.ft_claims.specs.declared.claim.Sym.TheVariants.{rolls-Add, rolls-Sub, rolls-Times, rolls-Div}
use Rattle.ft_claims.specs.meaning.Claims.{sym_value}
use Rattle.ft_claims.specs.meaning.Forms.{constant_form, unknown, plus, minus, times, Entry, Entries, same_factor, same_entry, is_constant}
use Rattle.ft_claims.specs.meaning.Forms.{is_in, quotient, with_entry, Gathered, alone, together, over, divided, layer_gathered, gathered}
use Rattle.ft_claims.specs.laws.Equations.{sym-Num, sym-Slot, sym-Neg, sym-Add, sym-Sub, sym-Times, sym-Div}
use Rattle.ft_claims.proofs.FormLemmas.{plus-at, minus-at, times-at, constant-at, unknown-at, minus-one}

-- entries are compared exactly
factor-itself : (f : Factor) → same_factor f f ≡ true
factor-itself f = and_from (nat_eq f.0 f.0) (int_eq f.1 f.1) ((Decides-eqb f.0 f.0).1 refl) ((Decides-int_eq f.1 f.1).1 refl)

factors-itself : (fs : List Factor) → pointwise same_factor fs fs ≡ true
factors-itself [] = refl
factors-itself (f ∷ fs) = and_from (same_factor f f) (pointwise same_factor fs fs) (factor-itself f) (factors-itself fs)

pub entry-itself : (e : Entry) → same_entry e e ≡ true
entry-itself e = and_from _ _ (and_from _ _ ((Decides-int_eq e.1 e.1).1 refl) ((Decides-int_eq e.0.constant e.0.constant).1 refl))
    (factors-itself e.0.factors)

same-factors : (fs gs : List Factor) → pointwise same_factor fs gs ≡ true → fs ≡ gs
same-factors [] [] e = refl
same-factors [] (g ∷ gs) e = absurd (true≢false (sym e))
same-factors (f ∷ fs) [] e = absurd (true≢false (sym e))
same-factors (f ∷ fs) (g ∷ gs) e =
    let both = and_parts (same_factor f g) (pointwise same_factor fs gs) e in
    let here = and_parts (nat_eq f.0 g.0) (int_eq f.1 g.1) both.0 in
    let u = (Decides-eqb f.0 g.0).0 here.0 in
    let z = (Decides-int_eq f.1 g.1).0 here.1 in
    let more = same-factors fs gs both.1 in
    λ i. (u i, z i) ∷ more i

same-entries : (a b : Entry) → same_entry a b ≡ true → a ≡ b
same-entries a b e =
    let both = and_parts (int_eq a.1 b.1 && int_eq a.0.constant b.0.constant) (pointwise same_factor a.0.factors b.0.factors) e in
    let numbers = and_parts (int_eq a.1 b.1) (int_eq a.0.constant b.0.constant) both.0 in
    let k = (Decides-int_eq a.1 b.1).0 numbers.0 in
    let c = (Decides-int_eq a.0.constant b.0.constant).0 numbers.1 in
    let fs = same-factors a.0.factors b.0.factors both.1 in
    λ i. (record { factors = fs i; constant = c i }, k i)

-- the place of an element that passes a test
place-same : {A : Type 0} (p : A → Bool) (xs ys : List A) → list_any p xs ≡ true → position_or_len p (xs ++ ys) ≡ position_or_len p xs
place-same p [] ys h = absurd (true≢false (sym h))
place-same p (x ∷ xs) ys h = ⊎_elim
    (λ e. ap (λ b. cond (not b) (1 + position_or_len p (xs ++ ys)) 0) e ∙ sym (ap (λ b. cond (not b) (1 + position_or_len p xs) 0) e))
    (λ e. ap (λ b. cond (not b) (1 + position_or_len p (xs ++ ys)) 0) e
    ∙ ap (λ k. 1 + k) (place-same p xs ys (sym (ap (λ b. b || list_any p xs) e) ∙ h))
    ∙ sym (ap (λ b. cond (not b) (1 + position_or_len p xs) 0) e))
    (cases_Bool (p x))

pub place-found : {A : Type 0} (p : A → Bool) (xs : List A) → list_any p xs ≡ true → (a : A)
    × (slice_get xs (position_or_len p xs) ≡ Some a) × (p a ≡ true)
place-found p [] h = absurd (true≢false (sym h))
place-found p (x ∷ xs) h = ⊎_elim
    (λ e. (x, ap (λ b. slice_get (x ∷ xs) (cond (not b) (1 + position_or_len p xs) 0)) e, e))
    (λ e.
    let more = place-found p xs (sym (ap (λ b. b || list_any p xs) e) ∙ h) in
    let next : 1 + position_or_len p xs ≡ suc (position_or_len p xs) = omega arith in
    (more.0, ap (λ b. slice_get (x ∷ xs) (cond (not b) (1 + position_or_len p xs) 0)) e ∙ ap (slice_get (x ∷ xs)) next ∙ more.1, more.2))
    (cases_Bool (p x))

pub found-entry : (T : Entries) (e : Entry) → is_in T e ≡ true → slice_get T (position_or_len (same_entry e) T) ≡ Some e
found-entry T e h = let at = place-found (same_entry e) T h in at.1 ∙ ap Some (sym (same-entries e at.0 at.2))

-- a longer list
abbrev pub Extends : Entries → Entries → Type 0
Extends T U = (rest : Entries) × (U ≡ T ++ rest)

pub append-assoc : {A : Type 0} (xs ys zs : List A) → (xs ++ ys) ++ zs ≡ xs ++ (ys ++ zs)
append-assoc [] ys zs = refl
append-assoc (x ∷ xs) ys zs = ap (λ r. x ∷ r) (append-assoc xs ys zs)

pub extends-itself : (T : Entries) → Extends T T
extends-itself T = ([], sym (append-nil T))

pub extends-more : (T U W : Entries) → Extends T U → Extends U W → Extends T W
extends-more T U W (r, a) (q, b) = (r ++ q, b ∙ ap (λ z. z ++ q) a ∙ append-assoc T r q)

pub extends-entry : (T : Entries) (f : LinView) (k : ℤ) → Extends T (with_entry T f k)
extends-entry T f k = ⊎_elim
    (λ is. ([], cond-true (is_constant f.factors || is_in T (f, k)) T (T ++ (f, k) ∷ []) is ∙ sym (append-nil T)))
    (λ isnt. ((f, k) ∷ [], cond-false (is_constant f.factors || is_in T (f, k)) T (T ++ (f, k) ∷ []) isnt))
    (cases_Bool (is_constant f.factors || is_in T (f, k)))

in-longer : (T rest : Entries) (e : Entry) → is_in T e ≡ true → is_in (T ++ rest) e ≡ true
in-longer T rest e h = list_any-append (same_entry e) T rest ∙ or_left (is_in T e) (is_in rest e) h

in-with : (T : Entries) (f : LinView) (k : ℤ) → (is_constant f.factors || is_in (with_entry T f k) (f, k)) ≡ true
in-with T f k = ⊎_elim
    (λ is. ap (λ U. is_constant f.factors || is_in U (f, k)) (cond-true (is_constant f.factors || is_in T (f, k)) T (T ++ (f, k) ∷ []) is)
    ∙ is)
    (λ isnt. ap (λ U. is_constant f.factors || is_in U (f, k)) (cond-false (is_constant f.factors || is_in T (f, k)) T (T ++ (f, k) ∷ [])
    isnt)
    ∙ or_right (is_constant f.factors) _ (list_any-append (same_entry (f, k)) T ((f, k) ∷ [])
    ∙ or_right (is_in T (f, k)) _ (or_left (same_entry (f, k) (f, k)) false (entry-itself (f, k)))))
    (cases_Bool (is_constant f.factors || is_in T (f, k)))

-- what is known of the lists of a term
pub record IsStable (g : Gathered) : Type 0 where
  pub form_stays : (T rest : Entries) → g.has T ≡ true → g.form (T ++ rest) ≡ g.form T
  pub has_stays : (T rest : Entries) → g.has T ≡ true → g.has (T ++ rest) ≡ true
  pub grows : (T : Entries) → Extends T (g.entries T)
  pub gets : (T : Entries) → g.has (g.entries T) ≡ true

pub has_longer : (g : Gathered) → IsStable g → (T U : Entries) → Extends T U → g.has T ≡ true → g.has U ≡ true
has_longer g s T U (rest, is) h = ap g.has is ∙ s.has_stays T rest h

pub form_longer : (g : Gathered) → IsStable g → (T U : Entries) → Extends T U → g.has T ≡ true → g.form U ≡ g.form T
form_longer g s T U (rest, is) h = ap g.form is ∙ s.form_stays T rest h

alone-stable : (f : LinView) (b : Bool) → IsStable (alone f b)
alone-stable f b = record { form_stays = λ T rest h. refl; has_stays = λ T rest h. refl; grows = extends-itself; gets = λ T. refl }

over-stable : (f : LinView → LinView) (a : Gathered) → IsStable a → IsStable (over f a)
over-stable f a s = record {
  form_stays = λ T rest h. ap f (s.form_stays T rest h);
  has_stays = s.has_stays;
  grows = s.grows;
  gets =
      s.gets;
}

together-stable : (f : LinView → LinView → LinView) (a b : Gathered) → IsStable a → IsStable b → IsStable (together f a b)
together-stable f a b s t = record {
  form_stays = λ T rest h. let both = and_parts (a.has T) (b.has T) h in let p = s.form_stays T rest both.0 in let q =
      t.form_stays T rest both.1 in λ i. f (p i) (q i);
  has_stays = λ T rest h. let both = and_parts (a.has T) (b.has T) h in
      and_from _ _ (s.has_stays T rest both.0) (t.has_stays T rest both.1);
  grows = λ T. extends-more T (a.entries T) (b.entries (a.entries T)) (s.grows T) (t.grows (a.entries T));
  gets = λ T. and_from _ _ (has_longer a s (a.entries T) (b.entries (a.entries T)) (t.grows (a.entries T)) (s.gets T))
      (t.gets (a.entries T));
}

quotient-stays : (base : ℕ) (T rest : Entries) (f : LinView) (k : ℤ) → (is_constant f.factors || is_in T (f, k)) ≡ true
    → quotient base (T ++ rest) f k ≡ quotient base T f k
quotient-stays base T rest f k h = ⊎_elim
    (λ is. cond-true (is_constant f.factors) _ (unknown (base + position_or_len (same_entry (f, k)) (T ++ rest))) is
    ∙ sym (cond-true (is_constant f.factors) _ (unknown (base + position_or_len (same_entry (f, k)) T)) is))
    (λ inside. ap (λ d. cond (is_constant f.factors) (constant_form (floor_of f.constant k)) (unknown (base + d)))
    (place-same (same_entry (f, k)) T rest inside))
    (or_cases (is_constant f.factors) (is_in T (f, k)) h)

divided-stable : (base : ℕ) (a : Gathered) (k : ℤ) → IsStable a → IsStable (divided base a k)
divided-stable base a k s = record {
  form_stays = λ T rest h.
      let both = and_parts (a.has T) (is_constant (a.form T).factors || is_in T (a.form T, k)) h in
      ap (λ f. quotient base (T ++ rest) f k) (s.form_stays T rest both.0) ∙ quotient-stays base T rest (a.form T) k both.1;
  has_stays = λ T rest h.
      let both = and_parts (a.has T) (is_constant (a.form T).factors || is_in T (a.form T, k)) h in
      and_from _ _ (s.has_stays T rest both.0)
      (ap (λ (f : LinView). is_constant f.factors || is_in (T ++ rest) (f, k)) (s.form_stays T rest both.0)
      ∙ longer T rest (a.form T) both.1);
  grows = λ T. extends-more T (a.entries T) _ (s.grows T) (extends-entry (a.entries T) (a.form (a.entries T)) k);
  gets = λ T.
      let X = a.entries T in
      let more = extends-entry X (a.form X) k in
      let same = form_longer a s X (with_entry X (a.form X) k) more (s.gets T) in
      and_from _ _ (has_longer a s X (with_entry X (a.form X) k) more (s.gets T))
      (ap (λ (f : LinView). is_constant f.factors || is_in (with_entry X (a.form X) k) (f, k)) same ∙ in-with X (a.form X) k);
}
  where
    longer : (T rest : Entries) (f : LinView) → (is_constant f.factors || is_in T (f, k)) ≡ true
        → (is_constant f.factors || is_in (T ++ rest) (f, k)) ≡ true
    longer T rest f h = ⊎_elim
        (λ is. or_left (is_constant f.factors) (is_in (T ++ rest) (f, k)) is)
        (λ inside. or_right (is_constant f.factors) (is_in (T ++ rest) (f, k)) (in-longer T rest (f, k) inside))
        (or_cases (is_constant f.factors) (is_in T (f, k)) h)

-- induction over terms
pub record SymInductive (P : Sym → Type 0) : Type 0 where
  pub num : (n : ℤ) → P (Num n)
  pub slot : (x : ℕ) → P (Slot x)
  pub negated : (a : Sym) → P a → P (Neg a)
  pub added : (a b : Sym) → P a → P b → P (Add a b)
  pub less : (a b : Sym) → P a → P b → P (Sub a b)
  pub scaled : (c : ℤ) (a : Sym) → P a → P (Times c a)
  pub quotient : (a : Sym) (k : ℤ) → P a → P (Div a k)

of_layer : (P : Sym → Type 0) → SymInductive P → (y : Sym-F ((e : Sym) × P e)) → P (roll-Sym (map-Sym ((e : Sym) × P e) Sym (λ e. e.0) y))
of_layer P h (part.Num n) = subst P (sym (rolls-Num n)) (h.num n)
of_layer P h (part.Slot x) = subst P (sym (rolls-Slot x)) (h.slot x)
of_layer P h (part.Neg a) = subst P (sym (rolls-Neg a.0)) (h.negated a.0 a.1)
of_layer P h (part.Add a b) = subst P (sym (rolls-Add a.0 b.0)) (h.added a.0 b.0 a.1 b.1)
of_layer P h (part.Sub a b) = subst P (sym (rolls-Sub a.0 b.0)) (h.less a.0 b.0 a.1 b.1)
of_layer P h (part.Times c a) = subst P (sym (rolls-Times c a.0)) (h.scaled c a.0 a.1)
of_layer P h (part.Div a k) = subst P (sym (rolls-Div a.0 k)) (h.quotient a.0 k a.1)

pub sym_induction : (P : Sym → Type 0) → SymInductive P → (e : Sym) → P e
sym_induction P h = ind-Sym P (λ x y is. subst (λ z. P (roll-Sym z)) is (of_layer P h y))

module _ (base : ℕ) where
  pub rolled : (e : Sym) (a_layer : Sym-F Sym) → roll-Sym a_layer ≡ e → gathered base e
      ≡ layer_gathered base (map-Sym Sym Gathered (gathered base) a_layer)
  unfolding gathered
  rolled e a_layer is = ap (fold-Sym Gathered (layer_gathered base)) (sym is) ∙ fold-roll-Sym Gathered (layer_gathered base) a_layer

  -- what holds of what is gathered where it holds of the parts
  pub record GatherInductive (P : Sym → Gathered → Type 0) : Type 0 where
    pub num : (n : ℤ) → P (Num n) (alone (constant_form n) true)
    pub slot : (x : ℕ) → P (Slot x) (alone (unknown x) (nat_lt x base))
    pub negated : (a : Sym) (g : Gathered) → P a g → P (Neg a) (over (times (negsuc 0)) g)
    pub added : (a b : Sym) (g h : Gathered) → P a g → P b h → P (Add a b) (together plus g h)
    pub less : (a b : Sym) (g h : Gathered) → P a g → P b h → P (Sub a b) (together minus g h)
    pub scaled : (c : ℤ) (a : Sym) (g : Gathered) → P a g → P (Times c a) (over (times c) g)
    pub quotient : (a : Sym) (k : ℤ) (g : Gathered) → P a g → P (Div a k) (divided base g k)

  pub gather_induction : (P : Sym → Gathered → Type 0) → GatherInductive P → (e : Sym) → P e (gathered base e)
  gather_induction P h = sym_induction (λ e. P e (gathered base e)) (record {
    num = λ n. subst (P (Num n)) (sym (rolled _ (part.Num n) (rolls-Num n))) (h.num n);
    slot = λ x. subst (P (Slot x)) (sym (rolled _ (part.Slot x) (rolls-Slot x))) (h.slot x);
    negated = λ a p. subst (P (Neg a)) (sym (rolled _ (part.Neg a) (rolls-Neg a))) (h.negated a (gathered base a) p);
    added = λ a b p q. subst (P (Add a b)) (sym (rolled _ (part.Add a b) (rolls-Add a b)))
        (h.added a b (gathered base a) (gathered base b) p q);
    less = λ a b p q. subst (P (Sub a b)) (sym (rolled _ (part.Sub a b) (rolls-Sub a b)))
        (h.less a b (gathered base a) (gathered base b) p q);
    scaled = λ c a p. subst (P (Times c a)) (sym (rolled _ (part.Times c a) (rolls-Times c a))) (h.scaled c a (gathered base a) p);
    quotient = λ a k p. subst (P (Div a k)) (sym (rolled _ (part.Div a k) (rolls-Div a k))) (h.quotient a k (gathered base a) p);
  })

  pub stable : (e : Sym) → IsStable (gathered base e)
  stable = gather_induction (λ e g. IsStable g) (record {
    num = λ n. alone-stable (constant_form n) true;
    slot = λ x. alone-stable (unknown x) (nat_lt x base);
    negated = λ a g s. over-stable (times (negsuc 0)) g s;
    added = λ a b g h s t. together-stable plus g h s t;
    less = λ a b g h s t. together-stable minus g h s t;
    scaled = λ c a g s. over-stable (times c) g s;
    quotient = λ a k g s. divided-stable base g k s;
  })

  -- each pair's unknown has the floor
  abbrev pub AreFloors : (ℕ → ℤ) → Entries → Type 0
  AreFloors ν T = (d : ℕ) (e : Entry) → slice_get T d ≡ Some e → ν (base + d) ≡ floor_of (form_at ν e.0) e.1

  constant-value : (ν : ℕ → ℤ) (f : LinView) → is_constant f.factors ≡ true → form_at ν f ≡ f.constant
  constant-value ν f h = ap (λ s. s +ℤ f.constant) (nothing f.factors h)
      ∙ (let none : pos 0 +ℤ f.constant ≡ f.constant = omega (arith, ints) in none)
    where
      nothing : (fs : List Factor) → is_constant fs ≡ true → sum_at ν fs ≡ pos 0
      nothing [] h = refl
      nothing (g ∷ gs) h = absurd (true≢false (sym h))

  quotient-at : (ν : ℕ → ℤ) (T : Entries) (f : LinView) (k : ℤ) → AreFloors ν T → (is_constant f.factors || is_in T (f, k)) ≡ true
      → form_at ν (quotient base T f k) ≡ floor_of (form_at ν f) k
  quotient-at ν T f k floors h = ⊎_elim
      (λ is. ap (form_at ν) (cond-true (is_constant f.factors) (constant_form (floor_of f.constant k))
      (unknown (base + position_or_len (same_entry (f, k)) T)) is)
      ∙ constant-at ν (floor_of f.constant k) ∙ ap (λ z. floor_of z k) (sym (constant-value ν f is)))
      (λ isnt.
      let inside = sym (ap (λ b. b || is_in T (f, k)) isnt) ∙ h in
      ap (form_at ν) (cond-false (is_constant f.factors) (constant_form (floor_of f.constant k))
      (unknown (base + position_or_len (same_entry (f, k)) T)) isnt)
      ∙ unknown-at ν (base + position_or_len (same_entry (f, k)) T)
      ∙ floors (position_or_len (same_entry (f, k)) T) (f, k) (found-entry T (f, k) inside))
      (cases_Bool (is_constant f.factors))

  -- with a floor for each pair, a term's form has its value
  pub value_at : (σ ν : ℕ → ℤ) (T : Entries) → ((x : ℕ) → x < base → ν x ≡ σ x) → AreFloors ν T → (e : Sym)
      → (gathered base e).has T ≡ true → (gathered base e).good ≡ true → form_at ν ((gathered base e).form T) ≡ sym_value σ e
  value_at σ ν T same floors = gather_induction (λ e g. g.has T ≡ true → g.good ≡ true → form_at ν (g.form T) ≡ sym_value σ e) (record {
    num = λ n has good. constant-at ν n ∙ sym (sym-Num σ n);
    slot = λ x has good. unknown-at ν x ∙ same x (ltb-true x base good) ∙ sym (sym-Slot σ x);
    negated = λ a g p has good. times-at ν (negsuc 0) (g.form T) ∙ ap (λ z. negsuc 0 *ℤ z) (p has good) ∙ minus-one (sym_value σ a)
        ∙ sym (sym-Neg σ a);
    added = λ a b g h p q has good.
        let hs = and_parts (g.has T) (h.has T) has in let gs = and_parts g.good h.good good in
        plus-at ν (g.form T) (h.form T) ∙ (λ i. p hs.0 gs.0 i +ℤ q hs.1 gs.1 i) ∙ sym (sym-Add σ a b);
    less = λ a b g h p q has good.
        let hs = and_parts (g.has T) (h.has T) has in let gs = and_parts g.good h.good good in
        minus-at ν (g.form T) (h.form T) ∙ (λ i. p hs.0 gs.0 i -ℤ q hs.1 gs.1 i) ∙ sym (sym-Sub σ a b);
    scaled = λ c a g p has good. times-at ν c (g.form T) ∙ ap (λ z. c *ℤ z) (p has good) ∙ sym (sym-Times σ c a);
    quotient = λ a k g p has good.
        let hs = and_parts (g.has T) (is_constant (g.form T).factors || is_in T (g.form T, k)) has in let gs =
        and_parts g.good (int_le (pos 1) k) good in
        quotient-at ν T (g.form T) k floors hs.1 ∙ ap (λ z. floor_of z k) (p hs.0 gs.0) ∙ sym (sym-Div σ a k);
  })
