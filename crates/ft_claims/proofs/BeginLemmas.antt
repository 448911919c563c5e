-- No form of a formula begins with a factor of 0, so settling it changes no truth.
use Rattle.std.proofs.Common.{◌≡◌, ◌≢◌, ◌∙◌, sym, ap, subst, refl, ℕ, suc, ℤ, pos, negsuc, ◌-ℤ◌, true, false, not, ◌&&◌, ◌||◌, List, []}
use Rattle.std.proofs.Common.{◌∷◌, ◌++◌, map, ⊎_elim}
use Rattle.std.specs.Ordering.{int_eq}
use Rattle.std.specs.List.{list_all}
use Rattle.std.proofs.lemmas.Bool.{cases_Bool, cond-true, cond-false}
use Rattle.std.proofs.lemmas.Bool.Decides.{Decides-int_eq}
use Rattle.ft_linear.specs.meaning.Form.{Factor, LinView}
use Rattle.ft_linear.specs.meaning.Formula.{truth_at}
use Rattle.ft_settle.specs.laws.Settling.{SettledIsTrue}
use Rattle.ft_settle.specs.meaning.Raw.{all_begin_well, begins_well, raw_truth}
use Rattle.ft_settle.specs.meaning.Settled.{settled}
use Rattle.ft_settle.specs.declared.raw.Raw.{Raw}
use Rattle.ft_settle.specs.declared.raw.Raw.TheVariants as raw
use Rattle.ft_settle.specs.laws.Raws.{WithRaw, bare_raw, raw_induction, begins-Le, begins-Not, begins-And, begins-Or}
use Rattle.ft_claims.specs.declared.claim.Sym.{Sym}
use Rattle.ft_claims.specs.declared.claim.Sym.TheOpen as part
use Rattle.ft_claims.specs.declared.claim.Sym.TheVariants.{rolls-Num, rolls-Slot, rolls-Neg, rolls-Add, rolls-Sub, rolls-Times, rolls-Div}
use Rattle.ft_claims.specs.declared.claim.Claim.{Claim}
use Rattle.ft_claims.specs.declared.claim.Claim.TheOpen as layer
use Rattle.ft_claims.specs.declared.claim.Claim.TheVariants.{rolls-Le, rolls-Lt, rolls-Not, rolls-And, rolls-Or}
use Rattle.ft_claims.specs.meaning.Forms.{Rises, constant_form, unknown, plus, minus, times, Entry, Entries, is_constant, is_in, with_entry}
use Rattle.ft_claims.specs.meaning.Forms.{Gathered, gathered}
use Rattle.ft_claims.specs.meaning.Formulas.{Collected, leaf, chain, less, collected, conjuncts, entries_of, parts_of, formula_of}
use Rattle.ft_claims.specs.meaning.Areas.{renumber, renumbered}
use Rattle.ft_claims.proofs.GatherLemmas.{rolled, sym_induction}
use Rattle.ft_claims.proofs.FormulaLemmas.{bare, Each, each-of, each-all, claim_induction, collected-rolled, of_parts}
use Rattle.ft_claims.proofs.Lists.{both_lists}
use Rattle.ft_claims.proofs.ObligedLemmas.{renumber-Le, renumber-Not, renumber-And, renumber-Or}
use Rattle.ft_claims.proofs.RisingLemmas.{factors-rise, times-rise, unknown-rises, form_rises}

some : (z : ℤ) → z ≢ pos 0 → int_eq z (pos 0) ≡ false
some z h = ⊎_elim (λ e. absurd (h ((Decides-int_eq z (pos 0)).0 e))) (λ e. e) (cases_Bool (int_eq z (pos 0)))

begins : (fs : List Factor) → Rises 0 fs → begins_well fs ≡ true
begins [] h = refl
begins (f ∷ fs) h = ap not (some f.1 h.1)

abbrev FormRises : LinView → Type 0
FormRises f = Rises 0 f.factors

atom-begins : (f : LinView) → FormRises f → all_begin_well (raw.Le f) ≡ true
atom-begins f h = begins-Le f ∙ begins f.factors h

minus-rises : (f g : LinView) → FormRises f → FormRises g → FormRises (minus f g)
minus-rises f g h k = factors-rise f.factors (times (negsuc 0) g).factors 0 h (times-rise (negsuc 0) g.factors k)

plus-rises : (f g : LinView) → FormRises f → FormRises g → FormRises (plus f g)
plus-rises f g h k = factors-rise f.factors g.factors 0 h k

-- the forms of the pairs
abbrev AllRise : Entries → Type 0
AllRise [] = Unit {0}
AllRise (e ∷ T) = FormRises e.0 × AllRise T

module _ (base : ℕ) where
  module _ (T : Entries) where
    abbrev Begins : Collected → Type 0
    Begins c = all_begin_well (c.formula T) ≡ true

    leaf-begins : (f : LinView → LinView → LinView) → ((a b : LinView) → FormRises a → FormRises b → FormRises (f a b)) → (a b : Sym)
        → Begins (leaf f (gathered base a) (gathered base b))
    leaf-begins f keeps a b = atom-begins _ (keeps ((gathered base a).form T) ((gathered base b).form T) (form_rises base T a)
        (form_rises base T b))

    all-begin : (cs : List Claim) → Each (λ c. Begins (collected base c)) cs
        → list_all all_begin_well (map (λ (c : Collected). c.formula T) (of_parts base cs)) ≡ true
    all-begin [] each = refl
    all-begin (c ∷ cs) each = ap (λ b. b && list_all all_begin_well (map (λ (g : Collected). g.formula T) (of_parts base cs))) each.0
        ∙ all-begin cs each.1

    pub claim-begins : (c : Claim) → Begins (collected base c)
    claim-begins = claim_induction (λ c. Begins (collected base c)) (record {
      le = λ a b. subst Begins (sym (collected-rolled base _ (layer.Le a b) (rolls-Le a b))) (leaf-begins minus minus-rises a b);
      lt = λ a b. subst Begins (sym (collected-rolled base _ (layer.Lt a b) (rolls-Lt a b)))
          (leaf-begins less (λ f g h k. plus-rises (minus f g) (constant_form (pos 1)) (minus-rises f g h k) tt) a b);
      negated = λ c p. subst Begins (sym (collected-rolled base _ (layer.Not c) (rolls-Not c))) (begins-Not _ ∙ p);
      all = λ parts. subst Begins (sym (collected-rolled base _ (layer.And (bare parts)) (rolls-And (bare parts))))
          (begins-And _ ∙ all-begin (bare parts) (each-of (λ c. Begins (collected base c)) parts));
      any = λ parts. subst Begins (sym (collected-rolled base _ (layer.Or (bare parts)) (rolls-Or (bare parts))))
          (begins-Or _ ∙ all-begin (bare parts) (each-of (λ c. Begins (collected base c)) parts));
    })

  push-rises : (T : Entries) (e : Entry) → AllRise T → FormRises e.0 → AllRise (T ++ e ∷ [])
  push-rises [] e h k = (k, tt)
  push-rises (d ∷ T) e h k = (h.0, push-rises T e h.1 k)

  entry-rises : (T : Entries) (f : LinView) (k : ℤ) → AllRise T → FormRises f → AllRise (with_entry T f k)
  entry-rises T f k h r = ⊎_elim
      (λ is. subst AllRise (sym (cond-true (is_constant f.factors || is_in T (f, k)) T (T ++ (f, k) ∷ []) is)) h)
      (λ isnt. subst AllRise (sym (cond-false (is_constant f.factors || is_in T (f, k)) T (T ++ (f, k) ∷ []) isnt))
      (push-rises T (f, k) h r))
      (cases_Bool (is_constant f.factors || is_in T (f, k)))

  abbrev Keeps : Gathered → Type 0
  Keeps g = (T : Entries) → AllRise T → AllRise (g.entries T)

  term-rises : (e : Sym) → Keeps (gathered base e)
  term-rises = sym_induction (λ e. Keeps (gathered base e)) (record {
    num = λ n. subst Keeps (sym (rolled base _ (part.Num n) (rolls-Num n))) (λ T h. h);
    slot = λ x. subst Keeps (sym (rolled base _ (part.Slot x) (rolls-Slot x))) (λ T h. h);
    negated = λ a p. subst Keeps (sym (rolled base _ (part.Neg a) (rolls-Neg a))) p;
    added = λ a b p q. subst Keeps (sym (rolled base _ (part.Add a b) (rolls-Add a b))) (λ T h. q ((gathered base a).entries T) (p T h));
    less = λ a b p q. subst Keeps (sym (rolled base _ (part.Sub a b) (rolls-Sub a b))) (λ T h. q ((gathered base a).entries T) (p T h));
    scaled = λ c a p. subst Keeps (sym (rolled base _ (part.Times c a) (rolls-Times c a))) p;
    quotient = λ a k p. subst Keeps (sym (rolled base _ (part.Div a k) (rolls-Div a k)))
        (λ T h. entry-rises ((gathered base a).entries T) ((gathered base a).form ((gathered base a).entries T)) k (p T h)
        (form_rises base ((gathered base a).entries T) a));
  })

  abbrev KeepsRising : Collected → Type 0
  KeepsRising c = (T : Entries) → AllRise T → AllRise (c.entries T)

  chain-rises : (cs : List Claim) → Each (λ c. KeepsRising (collected base c)) cs → (T : Entries) → AllRise T
      → AllRise (chain (of_parts base cs) T)
  chain-rises [] each T h = h
  chain-rises (c ∷ cs) each T h = chain-rises cs each.1 ((collected base c).entries T) (each.0 T h)

  claim-rises : (c : Claim) → KeepsRising (collected base c)
  claim-rises = claim_induction (λ c. KeepsRising (collected base c)) (record {
    le = λ a b. subst KeepsRising (sym (collected-rolled base _ (layer.Le a b) (rolls-Le a b)))
        (λ T h. term-rises b ((gathered base a).entries T) (term-rises a T h));
    lt = λ a b. subst KeepsRising (sym (collected-rolled base _ (layer.Lt a b) (rolls-Lt a b)))
        (λ T h. term-rises b ((gathered base a).entries T) (term-rises a T h));
    negated = λ c p. subst KeepsRising (sym (collected-rolled base _ (layer.Not c) (rolls-Not c))) p;
    all = λ parts. subst KeepsRising (sym (collected-rolled base _ (layer.And (bare parts)) (rolls-And (bare parts))))
        (chain-rises (bare parts) (each-of (λ c. KeepsRising (collected base c)) parts));
    any = λ parts. subst KeepsRising (sym (collected-rolled base _ (layer.Or (bare parts)) (rolls-Or (bare parts))))
        (chain-rises (bare parts) (each-of (λ c. KeepsRising (collected base c)) parts));
  })

conjuncts-begin : (q : ℕ) (T : Entries) → AllRise T → list_all all_begin_well (conjuncts q T) ≡ true
conjuncts-begin q [] h = refl
conjuncts-begin q (e ∷ T) h =
    let product = times-rise e.1 (unknown q).factors (unknown-rises q) in
    let most = atom-begins (minus (times e.1 (unknown q)) e.0) (minus-rises (times e.1 (unknown q)) e.0 product h.0) in
    let least = atom-begins (plus (minus e.0 (times e.1 (unknown q))) (constant_form (pos 1 -ℤ e.1)))
    (plus-rises (minus e.0 (times e.1 (unknown q))) (constant_form (pos 1 -ℤ e.1)) (minus-rises e.0 (times e.1 (unknown q)) h.0 product) tt)
    in
    (λ i. most i && (least i && list_all all_begin_well (conjuncts (suc q) T))) ∙ conjuncts-begin (suc q) T h.1

pub formula-begins : (base : ℕ) (parts : List Claim) → all_begin_well (formula_of base parts) ≡ true
formula-begins base parts =
    begins-And _ ∙ both_lists all_begin_well (parts_of base (entries_of base parts) parts) (conjuncts base (entries_of base parts))
    (all-begin base (entries_of base parts) parts (each-all (λ c. all_begin_well ((collected base c).formula (entries_of base parts))
    ≡ true) parts (claim-begins base (entries_of base parts))))
    (conjuncts-begin base (entries_of base parts) (chain-rises base parts
    (each-all (λ c. KeepsRising base (collected base c)) parts (claim-rises base)) [] tt))

-- other numbers change no factor
module _ (ρ : ℕ → ℕ) where
  form-same : (fs : List Factor) → begins_well (map (λ f. (ρ f.0, f.1)) fs) ≡ begins_well fs
  form-same [] = refl
  form-same (f ∷ fs) = refl

  abbrev Same : Raw → Type 0
  Same r = all_begin_well (renumber ρ r) ≡ all_begin_well r

  parts-same : (parts : List (WithRaw Same)) → list_all all_begin_well (map (renumber ρ) (bare_raw parts))
      ≡ list_all all_begin_well (bare_raw parts)
  parts-same [] = refl
  parts-same (p ∷ parts) = let more = parts-same parts in λ i. p.1 i && more i

  pub renumber-begins : (r : Raw) → Same r
  renumber-begins = raw_induction Same (record {
    form = λ l. ap all_begin_well (renumber-Le ρ (λ u. pos 0) l) ∙ begins-Le (renumbered ρ l) ∙ form-same l.factors ∙ sym (begins-Le l);
    negated = λ r p. ap all_begin_well (renumber-Not ρ (λ u. pos 0) r) ∙ begins-Not (renumber ρ r) ∙ p ∙ sym (begins-Not r);
    all = λ parts. ap all_begin_well (renumber-And ρ (λ u. pos 0) (bare_raw parts)) ∙ begins-And _ ∙ parts-same parts
        ∙ sym (begins-And (bare_raw parts));
    any = λ parts. ap all_begin_well (renumber-Or ρ (λ u. pos 0) (bare_raw parts)) ∙ begins-Or _ ∙ parts-same parts
        ∙ sym (begins-Or (bare_raw parts));
  })

-- the settled formula of some conditions is as true as the formula
pub settled-truth : SettledIsTrue → (ρ : ℕ → ℕ) (base : ℕ) (parts : List Claim) (x : ℕ → ℤ)
    → truth_at (settled (renumber ρ (formula_of base parts))) x ≡ raw_truth x (renumber ρ (formula_of base parts))
settled-truth law ρ base parts x = law (renumber ρ (formula_of base parts))
    (renumber-begins ρ (formula_of base parts) ∙ formula-begins base parts) x
