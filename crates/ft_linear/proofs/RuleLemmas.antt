-- Lines and their sums: what is read of them, which unknowns cancel, and what they say of points.
use Rattle.std.proofs.Common.{◌≡◌, ◌≢◌, ◌∙◌, ◌⊎◌, inl, inr, sym, ap, subst, refl, ℕ, zero, suc, ◌+◌, ◌<◌, ℤ, pos, negsuc, neg_ℤ, ◌+ℤ◌, ◌*ℤ◌}
use Rattle.std.proofs.Common.{◌≤ℤ◌, ◌<ℤ◌, Bool, true, false, ◌&&◌, ◌||◌, cond, not, List, [], ◌∷◌, ◌++◌, length, take, drop, Option, Some, None}
use Rattle.std.proofs.Common.{slice_get, arith}
use Rattle.std.specs.Prelude.{nat_eq, int_lt, int_le, nat_lt, slice_index_or, is_some, IfSome}
use Rattle.std.specs.Ordering.{int_eq}
use Rattle.std.specs.List.{list_all}
use Rattle.std.specs.Option.{option_map}
use Rattle.std.proofs.lemmas.Bool.{cases_Bool, and_parts, eqb-true}
use Rattle.std.proofs.lemmas.Int.{ints}
use Rattle.std.proofs.lemmas.List.{take_more}
use Rattle.std.proofs.lemmas.List.Folds.{list_all-map}
use Rattle.std.proofs.lemmas.Option.{cond_some, slice_get_past, slice_get_read}
use Rattle.ft_base.specs.Interval.{IsWithin}
use Rattle.ft_base.specs.Division.{floor_of}
use Rattle.ft_linear.specs.declared.lines.Line.{Line}
use Rattle.ft_linear.specs.declared.lines.Line.TheVariants.{Atom, Upper, Lower}
use Rattle.ft_linear.specs.meaning.Form.{Factor, LinView, AreRising, InArea, sum_at, form_at, span_at, scaled, values_at}
use Rattle.ft_linear.specs.meaning.Formula.{FormulaView, form_truth}
use Rattle.ft_linear.specs.meaning.Part.{PartView, forced}
use Rattle.ft_linear.specs.meaning.Rules.{Contradicts, HoldsForced, Tightens, is_line, is_multiplier, line_form, literal_form, upper_form}
use Rattle.ft_linear.specs.meaning.Rules.{lower_form, times_of, factor_of, factors_in, constant_in, total_factor, total_constant, narrowed}
use Rattle.ft_linear.specs.meaning.Rules.{up_to, down_to}
use Rattle.ft_linear.specs.summing.Cancelling.{is_kept, is_cancelled, are_cancelled}
use Rattle.ft_linear.specs.summing.Totals.{AreTotals, are_free}
use Rattle.ft_linear.proofs.Whole.{times-up, mul-add, neg-mul, mul-neg, under-floor}
use Rattle.ft_linear.proofs.UnknownLemmas.{cancels, alone, sum-append, sum-scaled, times-none, equal-to-itself, not-equal, factor_of-append}
use Rattle.ft_linear.proofs.UnknownLemmas.{factor_of-scaled, factor_of-negated, sum-negated}
use Rattle.ft_linear.proofs.Basics.{at-most-zero, is-zero}

-- an unknown below those of a form has the factor 0, and the first factor of an unknown is its only one
pub none-below : (from u : ℕ) (fs : List Factor) → AreRising from fs → u < from → factor_of u fs ≡ pos 0
none-below from u [] h below = refl
none-below from u (f ∷ fs) h below =
    let other = not-equal f.0 u (λ same. omega (arith, same, h.0, below)) in
    let r = none-below (f.0 + 1) u fs h.3 (omega (arith, h.0, below)) in
    ap (λ (b : Bool). cond b f.1 (pos 0) +ℤ factor_of u fs) other ∙ ap (λ (z : ℤ). pos 0 +ℤ z) r

pub first-found : (from : ℕ) (fs : List Factor) (i : ℕ) (d : Factor) → AreRising from fs → i < length fs
    → factor_of (slice_index_or fs i d).0 (drop i fs) ≡ (slice_index_or fs i d).1
first-found from [] i d h within = absurd (omega (arith, within))
first-found from (f ∷ fs) zero d h within =
    let r = none-below (f.0 + 1) f.0 fs h.3 (omega arith) in
    ap (λ (b : Bool). cond b f.1 (pos 0) +ℤ factor_of f.0 fs) (equal-to-itself f.0) ∙ ap (λ (z : ℤ). f.1 +ℤ z) r ∙ none f.1
  where
    none : (z : ℤ) → z +ℤ pos 0 ≡ z
    none z = omega (arith, ints)
first-found from (f ∷ fs) (suc i) d h within = first-found (f.0 + 1) fs i d h.3 (omega (arith, within))

above-none : (k : ℕ) → pos 0 <ℤ pos (suc k)
above-none k = omega (arith, ints)

pub narrowed-up : (g c : ℤ) (s : ℤ × ℤ) → pos 0 <ℤ g → narrowed g c s ≡ up_to s (floor_of (neg_ℤ c) g)
narrowed-up g c s above = ap (λ (b : Bool). cond b (up_to s (floor_of (neg_ℤ c) g))
    (cond (int_lt g (pos 0)) (down_to s (neg_ℤ (floor_of (neg_ℤ c) (neg_ℤ g)))) None)) (so g above)
  where
    so : (g : ℤ) → pos 0 <ℤ g → int_lt (pos 0) g ≡ true
    so g h = grind (arith, ints)

pub narrowed-down : (g c : ℤ) (s : ℤ × ℤ) → g <ℤ pos 0 → narrowed g c s ≡ down_to s (neg_ℤ (floor_of (neg_ℤ c) (neg_ℤ g)))
narrowed-down g c s below =
    ap (λ (b : Bool). cond b (up_to s (floor_of (neg_ℤ c) g)) (cond (int_lt g (pos 0)) (down_to s (neg_ℤ (floor_of (neg_ℤ c) (neg_ℤ g))))
    None)) (isnt g below)
    ∙ ap (λ (b : Bool). cond b (down_to s (neg_ℤ (floor_of (neg_ℤ c) (neg_ℤ g)))) None) (so g below)
  where
    isnt : (g : ℤ) → g <ℤ pos 0 → int_lt (pos 0) g ≡ false
    isnt g h = grind (arith, ints)

    so : (g : ℤ) → g <ℤ pos 0 → int_lt g (pos 0) ≡ true
    so g h = grind (arith, ints)

module _ (f : FormulaView) (p : PartView) where
  factor-push : (u : ℕ) (ls : List Line) (l : Line) → total_factor f p u (ls ++ l ∷ []) ≡ total_factor f p u ls
      +ℤ (pos (times_of l) *ℤ factor_of u (factors_in (line_form f p l)))
  factor-push u [] l = omega (arith, ints)
  factor-push u (m ∷ ls) l = let r = factor-push u ls l in omega (arith, ints, r)

  constant-push : (ls : List Line) (l : Line) → total_constant f p (ls ++ l ∷ []) ≡ total_constant f p ls
      +ℤ (pos (times_of l) *ℤ constant_in (line_form f p l))
  constant-push [] l = omega (arith, ints)
  constant-push (m ∷ ls) l = let r = constant-push ls l in omega (arith, ints, r)

  module _ (ls : List Line) (i : ℕ) (d : Line) (within : i < length ls) where
    pub factor-more : (u : ℕ) → total_factor f p u (take (i + 1) ls)
        ≡ total_factor f p u (take i ls) +ℤ (pos (times_of (slice_index_or ls i d)) *ℤ factor_of u
        (factors_in (line_form f p (slice_index_or ls i d))))
    factor-more u = ap (total_factor f p u) (take_more ls i d within) ∙ factor-push u (take i ls) (slice_index_or ls i d)

    pub constant-more : total_constant f p (take (i + 1) ls)
        ≡ total_constant f p (take i ls) +ℤ (pos (times_of (slice_index_or ls i d)) *ℤ constant_in (line_form f p (slice_index_or ls i d)))
    constant-more = ap (total_constant f p) (take_more ls i d within) ∙ constant-push (take i ls) (slice_index_or ls i d)

  -- the factors of all lines, each times its multiplier
  combined : List Line → List Factor
  combined [] = []
  combined (l ∷ ls) = scaled (times_of l) (factors_in (line_form f p l)) ++ combined ls

  total-is : (u : ℕ) (ls : List Line) → factor_of u (combined ls) ≡ total_factor f p u ls
  unfolding combined
  total-is u [] = refl
  total-is u (l ∷ ls) =
      let a = factor_of-append u (scaled (times_of l) (factors_in (line_form f p l))) (combined ls) in
      let s = factor_of-scaled u (times_of l) (factors_in (line_form f p l)) in
      let r = total-is u ls in
      omega (arith, ints, a, s, r)

  -- an unknown of no line has the factor 0
  module _ (q : ℕ → Bool) where
    in-factors : (v : ℕ) (fs : List Factor) → list_all (λ (g : Factor). q g.0) fs ≡ true → (q v ≡ true) ⊎ (factor_of v fs ≡ pos 0)
    in-factors v [] e = inr refl
    in-factors v (g ∷ fs) e =
        let (here, rest) = and_parts (q g.0) (list_all (λ (g : Factor). q g.0) fs) e in
        elim (cases_Bool (nat_eq g.0 v)) [
          | inl same ↦ inl (ap q (sym (eqb-true g.0 v same)) ∙ here)
          | inr other ↦ elim (in-factors v fs rest) [
            | inl so ↦ inl so
            | inr none ↦ inr (ap (λ (b : Bool). cond b g.1 (pos 0) +ℤ factor_of v fs) other ∙ ap (λ (z : ℤ). pos 0 +ℤ z) none)
          ]
        ]

    in-lines : (v : ℕ) (ls : List Line) → list_all (λ l. list_all (λ (g : Factor). q g.0) (factors_in (line_form f p l))) ls ≡ true
        → (q v ≡ true) ⊎ (total_factor f p v ls ≡ pos 0)
    in-lines v [] e = inr refl
    in-lines v (l ∷ ls) e =
        let (here, rest) = and_parts (list_all (λ (g : Factor). q g.0) (factors_in (line_form f p l)))
        (list_all (λ l. list_all (λ (g : Factor). q g.0) (factors_in (line_form f p l))) ls) e in
        elim (in-factors v (factors_in (line_form f p l)) here) [
          | inl so ↦ inl so
          | inr none ↦ elim (in-lines v ls rest) [
            | inl so ↦ inl so
            | inr nothing ↦ inr ((λ i. (pos (times_of l) *ℤ none i) +ℤ nothing i) ∙ ap (λ (z : ℤ). z +ℤ pos 0) (times-none (times_of l)))
          ]
        ]

    of-factors : ((v : ℕ) → q v ≡ true) → (fs : List Factor) → list_all (λ (g : Factor). q g.0) fs ≡ true
    of-factors h [] = refl
    of-factors h (g ∷ fs) = ap (λ b. b && list_all (λ (g : Factor). q g.0) fs) (h g.0) ∙ of-factors h fs

    pub of-lines : ((v : ℕ) → q v ≡ true) → (ls : List Line) → list_all
        (λ l. list_all (λ (g : Factor). q g.0) (factors_in (line_form f p l))) ls ≡ true
    of-lines h [] = refl
    of-lines h (l ∷ ls) = ap (λ b. b && list_all (λ l. list_all (λ (g : Factor). q g.0) (factors_in (line_form f p l))) ls)
        (of-factors h (factors_in (line_form f p l))) ∙ of-lines h ls

  -- an unknown that is free in each line has the total 0
  pub free-none : (u : ℕ) (ls : List Line) → are_free f p u ls ≡ true → total_factor f p u ls ≡ pos 0
  free-none u ls e = elim (in-lines (λ v. not (nat_eq v u)) u ls e) [
    | inl so ↦ absurd (cc (sym so ∙ ap not (equal-to-itself u)))
    | inr none ↦ none
  ]

  module _ (ls : List Line) (kept : Option ℕ) (totals : List ℤ) (are : AreTotals f p ls totals) where
    zero-is : (z : ℤ) → z ≡ pos 0 → int_eq z (pos 0) ≡ true
    zero-is z e = ap (λ (y : ℤ). int_eq y (pos 0)) e

    or-so : (b c : Bool) → (b || c) ≡ true → b ≡ false → c ≡ true
    or-so true c e n = cc n
    or-so false c e n = e

    so-or : (b c : Bool) → (b ≡ false → c ≡ true) → (b || c) ≡ true
    so-or true c h = refl
    so-or false c h = h refl

    pub cancel : list_all (λ l. are_cancelled kept totals (factors_in (line_form f p l))) ls ≡ true → (v : ℕ) → is_kept kept v ≡ false
        → total_factor f p v ls ≡ pos 0
    cancel e v other = elim (in-lines (is_cancelled kept totals) v ls e) [
      | inl so ↦ sym (are v) ∙ is-zero (values_at totals v) (or-so (is_kept kept v) (int_eq (values_at totals v) (pos 0)) so other)
      | inr none ↦ none
    ]

    cancelled : ((v : ℕ) → is_kept kept v ≡ false → total_factor f p v ls ≡ pos 0) → (v : ℕ) → is_cancelled kept totals v ≡ true
    cancelled h v = so-or (is_kept kept v) (int_eq (values_at totals v) (pos 0)) (λ other. zero-is (values_at totals v) (are v ∙ h v other))

    pub lines-cancelled : ((v : ℕ) → is_kept kept v ≡ false → total_factor f p v ls ≡ pos 0) → (l : Line)
        → are_cancelled kept totals (factors_in (line_form f p l)) ≡ true
    lines-cancelled h l = of-factors (is_cancelled kept totals) (cancelled h) (factors_in (line_form f p l))

  module _ (x : ℕ → ℤ) (area : InArea p.spans x) (holds : HoldsForced f p x) where
    literal-holds : (value : Bool) (o : Option LinView) → form_truth x o ≡ value
        → (sum_at x (factors_in (option_map (literal_form value) o)) +ℤ constant_in (option_map (literal_form value) o)) ≤ℤ pos 0
    literal-holds value None e = omega (arith, ints)
    literal-holds true (Some l) e = at-most-zero (form_at x l) e
    literal-holds false (Some l) e = let t = sum-negated x l.factors in let a = above-zero (form_at x l) e in omega (arith, ints, t, a)
      where
        above-zero : (z : ℤ) → int_le z (pos 0) ≡ false → pos 0 <ℤ z
        above-zero z e = grind (arith, ints)

    one-times : (z : ℤ) → pos 1 *ℤ z ≡ z
    one-times z = omega (arith, ints)

    upper-holds : (u : ℕ) (o : Option (ℤ × ℤ)) → ((s : ℤ × ℤ) → o ≡ Some s → IsWithin s (x u))
        → (sum_at x (factors_in (option_map (upper_form u) o)) +ℤ constant_in (option_map (upper_form u) o)) ≤ℤ pos 0
    upper-holds u None h = omega (arith, ints)
    upper-holds u (Some s) h = let w = (h s refl).1 in let t = one-times (x u) in omega (arith, ints, w, t)

    lower-holds : (u : ℕ) (o : Option (ℤ × ℤ)) → ((s : ℤ × ℤ) → o ≡ Some s → IsWithin s (x u))
        → (sum_at x (factors_in (option_map (lower_form u) o)) +ℤ constant_in (option_map (lower_form u) o)) ≤ℤ pos 0
    lower-holds u None h = omega (arith, ints)
    lower-holds u (Some s) h = let w = (h s refl).0 in let n = neg-mul (pos 1) (x u) in let t = one-times (x u) in
        omega (arith, ints, w, n, t)

    line-holds : (l : Line) → (sum_at x (factors_in (line_form f p l)) +ℤ constant_in (line_form f p l)) ≤ℤ pos 0
    line-holds (Atom number value times) = elim (cases_Bool (forced f p number value)) [
      | inl so ↦ rw so (literal-holds value (slice_get f.atoms number) (holds number value so))
      | inr isnt ↦ rw isnt (omega (arith, ints))
    ]
    line-holds (Upper unknown times) = upper-holds unknown (slice_get p.spans unknown) (area unknown)
    line-holds (Lower unknown times) = lower-holds unknown (slice_get p.spans unknown) (area unknown)

    -- the sum of the lines is at most 0
    sum-holds : (ls : List Line) → (sum_at x (combined ls) +ℤ total_constant f p ls) ≤ℤ pos 0
    unfolding combined
    sum-holds [] = omega (arith, ints)
    sum-holds (l ∷ ls) =
        let o = line_form f p l in
        let r = sum-holds ls in
        let a = sum-append x (scaled (times_of l) (factors_in o)) (combined ls) in
        let s = sum-scaled x (times_of l) (factors_in o) in
        let d = mul-add (pos (times_of l)) (sum_at x (factors_in o)) (constant_in o) in
        let u = times-up (times_of l) (sum_at x (factors_in o) +ℤ constant_in o) (pos 0) (line-holds l) in
        let z = times-none (times_of l) in
        omega (arith, ints, r, a, s, d, u, z)

    pub none-holds : (ls : List Line) → Contradicts f p ls → ⊥
    none-holds ls c =
        let s = sum-holds ls in
        let e = cancels x (combined ls) (λ u. total-is u ls ∙ c.cancel u) in
        let h = c.positive in
        absurd (omega (arith, ints, s, e, h))

    one-left : (u : ℕ) (ls : List Line) → ((v : ℕ) → v ≢ u → total_factor f p v ls ≡ pos 0)
        → ((total_factor f p u ls *ℤ x u) +ℤ total_constant f p ls) ≤ℤ pos 0
    one-left u ls only =
        let s = sum-holds ls in
        let e = alone x u (combined ls) (λ v other. total-is v ls ∙ only v other) in
        let t = ap (λ (g : ℤ). g *ℤ x u) (total-is u ls) in
        omega (arith, ints, s, e, t)

    up-within : (s t : ℤ × ℤ) (hi y : ℤ) → IsWithin s y → y ≤ℤ hi → up_to s hi ≡ Some t → IsWithin t y
    up-within s t hi y within below e = let (test, is) = cond_some (int_le s.0 hi && int_lt hi s.1) (s.0, hi) t e in
        subst (λ (t : ℤ × ℤ). IsWithin t y) is (within.0, below)

    down-within : (s t : ℤ × ℤ) (lo y : ℤ) → IsWithin s y → lo ≤ℤ y → down_to s lo ≡ Some t → IsWithin t y
    down-within s t lo y within above e = let (test, is) = cond_some (int_lt s.0 lo && int_le lo s.1) (lo, s.1) t e in
        subst (λ (t : ℤ × ℤ). IsWithin t y) is (above, within.1)

    narrow-within : (g c y : ℤ) (s t : ℤ × ℤ) → IsWithin s y → ((g *ℤ y) +ℤ c) ≤ℤ pos 0 → narrowed g c s ≡ Some t → IsWithin t y
    narrow-within (pos zero) c y s t within h e = cc e
    narrow-within (pos (suc k)) c y s t within h e =
        up-within s t (floor_of (neg_ℤ c) (pos (suc k))) y within (under-floor y (neg_ℤ c) (suc k) (omega arith) (omega (arith, ints, h)))
        (sym (narrowed-up (pos (suc k)) c s (above-none k)) ∙ e)
    narrow-within (negsuc k) c y s t within h e =
        let n = neg-mul (pos (suc k)) y in
        let m = mul-neg (pos (suc k)) y in
        let low = under-floor (neg_ℤ y) (neg_ℤ c) (suc k) (omega arith) (omega (arith, ints, h, n, m)) in
        down-within s t (neg_ℤ (floor_of (neg_ℤ c) (pos (suc k)))) y within (omega (arith, ints, low)) e

    pub within-tightened : (u : ℕ) (ls : List Line) (t : ℤ × ℤ) → IsWithin (span_at p.spans u) (x u) → Tightens f p u ls t
        → IsWithin t (x u)
    within-tightened u ls t within h = narrow-within (total_factor f p u ls) (total_constant f p ls) (x u) (span_at p.spans u) t within
        (one-left u ls h.alone) h.narrows

-- what is read of a literal's line
module _ (f : FormulaView) (p : PartView) (number : ℕ) (value : Bool) (times : ℕ) (l : LinView) (line : Line)
    (is : line ≡ Atom number value times) (takes : is_line f p line ≡ true)
    (atoms : List LinView) (same : atoms ≡ f.atoms) (item : l ≡ slice_index_or atoms number l) where
  some-form : is_some (cond (forced f p number value) (option_map (literal_form value) (slice_get f.atoms number)) None) ≡ true
  some-form = (and_parts (is_multiplier times) (is_some (line_form f p (Atom number value times))) (ap (is_line f p) (sym is) ∙ takes)).1

  never : (b : Bool) (o : Option LinView) → o ≡ None → is_some (cond b (option_map (literal_form value) o) None) ≡ true → ⊥
  never true o e some = cc (sym some ∙ ap (λ (o : Option LinView). is_some (option_map (literal_form value) o)) e)
  never false o e some = cc some

  there : number < length f.atoms
  there = elim (cases_Bool (nat_lt number (length f.atoms))) [
    | inl below ↦ grind (arith, below)
    | inr above ↦ absurd (never (forced f p number value) (slice_get f.atoms number) (slice_get_past f.atoms number (grind (arith, above)))
        some-form)
  ]

  got : slice_get f.atoms number ≡ Some l
  got = slice_get_read f.atoms (length f.atoms) number l refl there (item ∙ ap (λ (xs : List LinView). slice_index_or xs number l) same)

  is-form : (b : Bool) (o : Option LinView) → is_some (cond b (option_map (literal_form value) o) None) ≡ true → o ≡ Some l
      → cond b (option_map (literal_form value) o) None ≡ Some (literal_form value l)
  is-form true o some e = ap (option_map (literal_form value)) e
  is-form false o some e = cc some

  form-is : line_form f p line ≡ Some (literal_form value l)
  form-is = ap (line_form f p) is ∙ is-form (forced f p number value) (slice_get f.atoms number) some-form got

  by-sign : (value : Bool) (u : ℕ) → cond value (factor_of u l.factors) (neg_ℤ (factor_of u l.factors))
      ≡ factor_of u (literal_form value l).factors
  by-sign true u = refl
  by-sign false u = sym (factor_of-negated u l.factors)

  pub literal-factor : (u : ℕ) → cond value (factor_of u l.factors) (neg_ℤ (factor_of u l.factors))
      ≡ factor_of u (factors_in (line_form f p line))
  literal-factor u = by-sign value u ∙ sym (ap (λ (o : Option LinView). factor_of u (factors_in o)) form-is)

  same-unknowns : (value : Bool) (q : ℕ → Bool) → list_all (λ (g : Factor). q g.0) l.factors
      ≡ list_all (λ (g : Factor). q g.0) (literal_form value l).factors
  same-unknowns true q = refl
  same-unknowns false q = sym (list_all-map (λ (g : Factor). q g.0) (λ (g : Factor). (g.0, neg_ℤ g.1)) l.factors)

  pub literal-unknowns : (q : ℕ → Bool) → list_all (λ (g : Factor). q g.0) l.factors
      ≡ list_all (λ (g : Factor). q g.0) (factors_in (line_form f p line))
  literal-unknowns q = same-unknowns value q
      ∙ sym (ap (λ (o : Option LinView). list_all (λ (g : Factor). q g.0) (factors_in o)) form-is)

  -- so many times the literal's factor, or minus so many times the atom's
  pub signed-factor : (u : ℕ) → cond value (pos times) (neg_ℤ (pos times)) *ℤ factor_of u l.factors
      ≡ pos times *ℤ factor_of u (factors_in (line_form f p line))
  signed-factor u = either value (factor_of u l.factors) ∙ ap (λ (z : ℤ). pos times *ℤ z) (literal-factor u)
    where
      either : (b : Bool) (z : ℤ) → cond b (pos times) (neg_ℤ (pos times)) *ℤ z ≡ pos times *ℤ cond b z (neg_ℤ z)
      either true z = refl
      either false z = let n = neg-mul (pos times) z in let m = mul-neg (pos times) z in omega (arith, ints, n, m)

-- what is read of a bound's line
module _ (f : FormulaView) (p : PartView) (u times : ℕ) (line : Line) where
  pub upper-unknowns : line ≡ Upper u times → is_line f p line ≡ true → (q : ℕ → Bool) → list_all (λ (g : Factor). q g.0) ((u, pos 1) ∷ [])
      ≡ list_all (λ (g : Factor). q g.0) (factors_in (line_form f p line))
  upper-unknowns is takes q =
      there (slice_get p.spans u)
      (and_parts (is_multiplier times) (is_some (line_form f p (Upper u times))) (ap (is_line f p) (sym is) ∙ takes)).1
      ∙ ap (λ l. list_all (λ (g : Factor). q g.0) (factors_in (line_form f p l))) (sym is)
    where
      there : (o : Option (ℤ × ℤ)) → is_some (option_map (upper_form u) o) ≡ true
          → (q u && true) ≡ list_all (λ (g : Factor). q g.0) (factors_in (option_map (upper_form u) o))
      there None some = cc some
      there (Some s) some = refl

  pub lower-unknowns : line ≡ Lower u times → is_line f p line ≡ true → (q : ℕ → Bool)
      → list_all (λ (g : Factor). q g.0) ((u, negsuc 0) ∷ []) ≡ list_all (λ (g : Factor). q g.0) (factors_in (line_form f p line))
  lower-unknowns is takes q =
      there (slice_get p.spans u)
      (and_parts (is_multiplier times) (is_some (line_form f p (Lower u times))) (ap (is_line f p) (sym is) ∙ takes)).1
      ∙ ap (λ l. list_all (λ (g : Factor). q g.0) (factors_in (line_form f p l))) (sym is)
    where
      there : (o : Option (ℤ × ℤ)) → is_some (option_map (lower_form u) o) ≡ true
          → (q u && true) ≡ list_all (λ (g : Factor). q g.0) (factors_in (option_map (lower_form u) o))
      there None some = cc some
      there (Some s) some = refl

pub IfSome_each : {X : Type 0} (r : Option X) {P : X → Type 0} → ((x : X) → r ≡ Some x → P x) → IfSome r P
IfSome_each None h = tt
IfSome_each (Some x) h = h x refl
