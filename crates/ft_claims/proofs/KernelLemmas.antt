-- Numbers that satisfy the formula of some conditions tell that these hold, and where they hold the floors filled in satisfy it.
use Rattle.std.proofs.Common.{◌≡◌, ◌∙◌, sym, ap, subst, refl, ℕ, zero, suc, ◌+◌, ◌-◌, ◌<◌, ℤ, pos, true, not, ◌&&◌, ◌||◌, List, [], ◌∷◌}
use Rattle.std.proofs.Common.{◌++◌, map, length, Some, slice_get, arith, ⊎_elim}
use Rattle.std.specs.Prelude.{int_le}
use Rattle.std.specs.List.{list_all, list_any, flat_map}
use Rattle.std.proofs.lemmas.Bool.{and_parts, and_from, cases_lt}
use Rattle.std.proofs.lemmas.List.Folds.{list_all-append}
use Rattle.std.proofs.lemmas.Option.{none-some, same_Some}
use Rattle.ft_base.specs.Division.{floor_of}
use Rattle.ft_linear.specs.meaning.Form.{Factor, LinView, form_at}
use Rattle.ft_settle.specs.meaning.Raw.{raw_truth}
use Rattle.ft_settle.specs.declared.raw.Raw.{Raw}
use Rattle.ft_settle.specs.declared.raw.Raw.TheOpen as open_raw
use Rattle.ft_settle.specs.declared.raw.Raw.TheVariants as raw
use Rattle.ft_settle.specs.declared.raw.Raw.TheVariants.{rolls-Le, rolls-Not, rolls-And, rolls-Or}
use Rattle.ft_settle.specs.laws.Raws.{WithRaw, bare_raw, raw_induction, folds, raw-Le, raw-Not, raw-And, raw-Or}
use Rattle.ft_claims.specs.declared.claim.Sym.{Sym}
use Rattle.ft_claims.specs.declared.claim.Claim.{Claim}
use Rattle.ft_claims.specs.declared.claim.Claim.TheOpen as layer
use Rattle.ft_claims.specs.declared.claim.Claim.TheVariants.{Le, Lt, Not, And, Or, rolls-Le as rolls-Le-claim, rolls-Lt as rolls-Lt-claim}
use Rattle.ft_claims.specs.declared.claim.Claim.TheVariants.{rolls-Not as rolls-Not-claim, rolls-And as rolls-And-claim}
use Rattle.ft_claims.specs.declared.claim.Claim.TheVariants.{rolls-Or as rolls-Or-claim}
use Rattle.ft_claims.specs.meaning.Claims.{claim_true}
use Rattle.ft_claims.specs.meaning.Forms.{constant_form, minus, Entry, Entries, gathered}
use Rattle.ft_claims.specs.meaning.Formulas.{Collected, collected, at_most, at_least, conjuncts, entries_of, parts_of, formula_of, less}
use Rattle.ft_claims.specs.meaning.Formulas.{layer_unknowns, unknowns_of, fill}
use Rattle.ft_claims.proofs.GatherLemmas.{AreFloors}
use Rattle.ft_claims.proofs.UnknownLemmas.{AllIn, all-weaker, same-form-at, plus-in, minus-in, form_low, IsOrdered, none-ordered}
use Rattle.ft_claims.proofs.UnknownLemmas.{fill-below, fill-floors}
use Rattle.ft_claims.proofs.FormulaLemmas.{bare, claim_induction, steady, Steady, Each, each-all, each-of, collected-rolled, chain-gets}
use Rattle.ft_claims.proofs.FormulaLemmas.{chain-ordered, parts-tell, met-by, met-only}
use Rattle.ft_core.specs.laws.Places.{some-at}

-- each number of a list
abbrev pub AllOf : (ℕ → Type 0) → List ℕ → Type 0
AllOf P [] = Unit {0}
AllOf P (u ∷ us) = P u × AllOf P us

pub all-left : (P : ℕ → Type 0) (us vs : List ℕ) → AllOf P (us ++ vs) → AllOf P us
all-left P [] vs h = tt
all-left P (u ∷ us) vs h = (h.0, all-left P us vs h.1)

pub all-right : (P : ℕ → Type 0) (us vs : List ℕ) → AllOf P (us ++ vs) → AllOf P vs
all-right P [] vs h = h
all-right P (u ∷ us) vs h = all-right P us vs h.1

pub factors-of : (P : ℕ → Type 0) (fs : List Factor) → AllOf P (map (λ f. f.0) fs) → AllIn P fs
factors-of P [] h = tt
factors-of P (f ∷ fs) h = (h.0, factors-of P fs h.1)

pub unknowns-Le : (l : LinView) → unknowns_of (raw.Le l) ≡ map (λ f. f.0) l.factors
unfolding unknowns_of
unknowns-Le l = folds (List ℕ) layer_unknowns _ (open_raw.Le l) (rolls-Le l)

pub unknowns-Not : (inner : Raw) → unknowns_of (raw.Not inner) ≡ unknowns_of inner
unfolding unknowns_of
unknowns-Not inner = folds (List ℕ) layer_unknowns _ (open_raw.Not inner) (rolls-Not inner)

pub flat-map-map : {A B C : Type 0} (g : B → List C) (f : A → B) (xs : List A) → flat_map g (map f xs) ≡ flat_map (λ x. g (f x)) xs
flat-map-map g f [] = refl
flat-map-map g f (x ∷ xs) = ap (λ r. g (f x) ++ r) (flat-map-map g f xs)

pub unknowns-And : (parts : List Raw) → unknowns_of (raw.And parts) ≡ flat_map unknowns_of parts
unfolding unknowns_of
unknowns-And parts = folds (List ℕ) layer_unknowns _ (open_raw.And parts) (rolls-And parts) ∙ flat-map-map (λ us. us) unknowns_of parts

pub unknowns-Or : (parts : List Raw) → unknowns_of (raw.Or parts) ≡ flat_map unknowns_of parts
unfolding unknowns_of
unknowns-Or parts = folds (List ℕ) layer_unknowns _ (open_raw.Or parts) (rolls-Or parts) ∙ flat-map-map (λ us. us) unknowns_of parts

-- numbers that agree on the unknowns of a formula give it one truth
module _ (x y : ℕ → ℤ) where
  abbrev Agree : ℕ → Type 0
  Agree u = x u ≡ y u

  abbrev IsSame : Raw → Type 0
  IsSame r = AllOf Agree (unknowns_of r) → raw_truth x r ≡ raw_truth y r

  parts-same : (parts : List (WithRaw IsSame)) → AllOf Agree (flat_map unknowns_of (bare_raw parts))
      → (list_all (raw_truth x) (bare_raw parts) ≡ list_all (raw_truth y) (bare_raw parts))
      × (list_any (raw_truth x) (bare_raw parts) ≡ list_any (raw_truth y) (bare_raw parts))
  parts-same [] h = (refl, refl)
  parts-same (p ∷ parts) h =
      let here = p.1 (all-left Agree (unknowns_of p.0) (flat_map unknowns_of (bare_raw parts)) h) in
      let more = parts-same parts (all-right Agree (unknowns_of p.0) (flat_map unknowns_of (bare_raw parts)) h) in
      ((λ i. here i && more.0 i), (λ i. here i || more.1 i))

  pub raw-same : (r : Raw) → IsSame r
  raw-same = raw_induction IsSame (record {
    form = λ l h. raw-Le x l ∙ ap (λ z. int_le z (pos 0)) (same-form-at x y l
        (factors-of Agree l.factors (subst (AllOf Agree) (unknowns-Le l) h))) ∙ sym (raw-Le y l);
    negated = λ inner p h. raw-Not x inner ∙ ap not (p (subst (AllOf Agree) (unknowns-Not inner) h)) ∙ sym (raw-Not y inner);
    all = λ parts h. raw-And x (bare_raw parts) ∙ (parts-same parts (subst (AllOf Agree) (unknowns-And (bare_raw parts)) h)).0
        ∙ sym (raw-And y (bare_raw parts));
    any = λ parts h. raw-Or x (bare_raw parts) ∙ (parts-same parts (subst (AllOf Agree) (unknowns-Or (bare_raw parts)) h)).1
        ∙ sym (raw-Or y (bare_raw parts));
  })

-- the divisors of pairs are positive
abbrev pub ArePositive : Entries → Type 0
ArePositive T = (d : ℕ) (e : Entry) → slice_get T d ≡ Some e → int_le (pos 1) e.1 ≡ true

rest-floors : (n : ℕ) (ν : ℕ → ℤ) (e : Entry) (T : Entries) → AreFloors n ν (e ∷ T) → AreFloors (suc n) ν T
rest-floors n ν e T floors d a is = let next : suc n + d ≡ n + suc d = omega arith in ap ν next ∙ floors (suc d) a is

pub conjuncts-met : (T : Entries) (n : ℕ) (ν : ℕ → ℤ) → ArePositive T → AreFloors n ν T → list_all (raw_truth ν) (conjuncts n T) ≡ true
conjuncts-met [] n ν up floors = refl
conjuncts-met (e ∷ T) n ν up floors =
    let first : n ≡ n + 0 = omega arith in
    let both = met-by ν n e (up zero e refl) (ap ν first ∙ floors zero e refl) in
    and_from _ _ both.0 (and_from _ _ both.1 (conjuncts-met T (suc n) ν (λ d a is. up (suc d) a is) (rest-floors n ν e T floors)))

pub conjuncts-only : (T : Entries) (n : ℕ) (ν : ℕ → ℤ) → ArePositive T → list_all (raw_truth ν) (conjuncts n T) ≡ true → AreFloors n ν T
conjuncts-only [] n ν up met d a is = absurd (none-some a is)
conjuncts-only (e ∷ T) n ν up met zero a is =
    let first : n + 0 ≡ n = omega arith in
    let all = and_parts (raw_truth ν (at_most n e)) (raw_truth ν (at_least n e) && list_all (raw_truth ν) (conjuncts (suc n) T)) met in
    let more = and_parts (raw_truth ν (at_least n e)) (list_all (raw_truth ν) (conjuncts (suc n) T)) all.1 in
    ap ν first ∙ met-only ν n e (up zero e refl) all.0 more.0 ∙ ap (λ (x : Entry). floor_of (form_at ν x.0) x.1) (same_Some e a is)
conjuncts-only (e ∷ T) n ν up met (suc d) a is =
    let next : n + suc d ≡ suc n + d = omega arith in
    let all = and_parts (raw_truth ν (at_most n e)) (raw_truth ν (at_least n e) && list_all (raw_truth ν) (conjuncts (suc n) T)) met in
    let more = and_parts (raw_truth ν (at_least n e)) (list_all (raw_truth ν) (conjuncts (suc n) T)) all.1 in
    ap ν next ∙ conjuncts-only T (suc n) ν (λ j b at. up (suc j) b at) more.1 d a is

all-both : (P Q R : ℕ → Type 0) (fs : List Factor) → ((u : ℕ) → P u → Q u → R u) → AllIn P fs → AllIn Q fs → AllIn R fs
all-both P Q R [] h p q = tt
all-both P Q R (f ∷ fs) h p q = (h f.0 p.0 q.0, all-both P Q R fs h p.1 q.1)

-- floors over the same names are the same
pub same-floors : (base : ℕ) (T : Entries) (x y : ℕ → ℤ) → IsOrdered base T → AreFloors base x T → AreFloors base y T
    → ((d : ℕ) (e : Entry) → slice_get T d ≡ Some e → AllIn (λ u. u < base → x u ≡ y u) e.0.factors)
    → (n d : ℕ) → d < n → d < length T → x (base + d) ≡ y (base + d)
same-floors base T x y o p q names zero d l inside = absurd (omega (arith, l))
same-floors base T x y o p q names (suc n) d l inside =
    let at = some-at T d inside in
    let before : (j : ℕ) → j < d → x (base + j) ≡ y (base + j) = λ j less. same-floors base T x y o p q names n j (omega (arith, less, l))
    (omega (arith, less, inside)) in
    let same = same-form-at x y at.0.0 (all-both _ _ _ at.0.0.factors (λ u low name. one before u low name) (o d at.0 at.1).0
    (names d at.0 at.1)) in
    p d at.0 at.1 ∙ ap (λ z. floor_of z at.0.1) same ∙ sym (q d at.0 at.1)
  where
    one : ((j : ℕ) → j < d → x (base + j) ≡ y (base + j)) → (u : ℕ) → u < base + d → (u < base → x u ≡ y u) → x u ≡ y u
    one before u low name = ⊎_elim
        (λ below. name below)
        (λ past.
        let is : base + (u - base) ≡ u = omega (arith, past) in
        subst (λ v. x v ≡ y v) is (before (u - base) (omega (arith, low, past))))
        (cases_lt u base)

both-of : (P Q R : ℕ → Type 0) (us : List ℕ) → ((u : ℕ) → P u → Q u → R u) → AllOf P us → AllOf Q us → AllOf R us
both-of P Q R [] h p q = tt
both-of P Q R (u ∷ us) h p q = (h u p.0 q.0, both-of P Q R us h p.1 q.1)

pub all-append : (P : ℕ → Type 0) (us vs : List ℕ) → AllOf P us → AllOf P vs → AllOf P (us ++ vs)
all-append P [] vs p q = q
all-append P (u ∷ us) vs p q = (p.0, all-append P us vs p.1 q)

pub of-factors : (P : ℕ → Type 0) (fs : List Factor) → AllIn P fs → AllOf P (map (λ f. f.0) fs)
of-factors P [] h = tt
of-factors P (f ∷ fs) h = (h.0, of-factors P fs h.1)

-- the unknowns of a condition's formula are names and those of pairs
module _ (base : ℕ) (T : Entries) where
  abbrev Low : ℕ → Type 0
  Low u = u < base + length T

  abbrev IsLowClaim : Claim → Collected → Type 0
  IsLowClaim c g = g.has T ≡ true → g.good ≡ true → AllOf Low (unknowns_of (g.formula T))

  all-low : (cs : List Claim) → Each (λ c. IsLowClaim c (collected base c)) cs
      → list_all (λ (g : Collected). g.has T) (map (collected base) cs) ≡ true
      → list_all (λ (g : Collected). g.good) (map (collected base) cs) ≡ true → AllOf Low (flat_map unknowns_of (parts_of base T cs))
  all-low [] each has good = tt
  all-low (c ∷ cs) each has good =
      let hs = and_parts ((collected base c).has T) (list_all (λ (g : Collected). g.has T) (map (collected base) cs)) has in
      let gs = and_parts (collected base c).good (list_all (λ (g : Collected). g.good) (map (collected base) cs)) good in
      all-append Low (unknowns_of ((collected base c).formula T)) (flat_map unknowns_of (parts_of base T cs)) (each.0 hs.0 gs.0)
      (all-low cs each.1 hs.1 gs.1)

  form-pair : (a b : Sym) → ((gathered base a).has T && (gathered base b).has T) ≡ true → ((gathered base a).good && (gathered base b).good)
      ≡ true
      → AllIn Low (minus ((gathered base a).form T) ((gathered base b).form T)).factors
  form-pair a b has good =
      let hs = and_parts ((gathered base a).has T) ((gathered base b).has T) has in
      let gs = and_parts (gathered base a).good (gathered base b).good good in
      minus-in Low ((gathered base a).form T) ((gathered base b).form T) (form_low base T a hs.0 gs.0) (form_low base T b hs.1 gs.1)

  pub low_claim : (c : Claim) → IsLowClaim c (collected base c)
  low_claim = claim_induction (λ c. IsLowClaim c (collected base c)) (record {
    le = λ a b. subst (IsLowClaim (Le a b)) (sym (collected-rolled base _ (layer.Le a b) (rolls-Le-claim a b)))
        (λ has good. subst (AllOf Low) (sym (unknowns-Le (minus ((gathered base a).form T) ((gathered base b).form T))))
        (of-factors Low _ (form-pair a b has good)));
    lt = λ a b. subst (IsLowClaim (Lt a b)) (sym (collected-rolled base _ (layer.Lt a b) (rolls-Lt-claim a b)))
        (λ has good. subst (AllOf Low) (sym (unknowns-Le (less ((gathered base a).form T) ((gathered base b).form T))))
        (of-factors Low _ (plus-in Low (minus ((gathered base a).form T) ((gathered base b).form T)) (constant_form (pos 1))
        (form-pair a b has good) tt)));
    negated = λ c p. subst (IsLowClaim (Not c)) (sym (collected-rolled base _ (layer.Not c) (rolls-Not-claim c)))
        (λ has good. subst (AllOf Low) (sym (unknowns-Not ((collected base c).formula T))) (p has good));
    all = λ parts. subst (IsLowClaim (And (bare parts))) (sym (collected-rolled base _ (layer.And (bare parts))
        (rolls-And-claim (bare parts))))
        (λ has good. subst (AllOf Low) (sym (unknowns-And (parts_of base T (bare parts))))
        (all-low (bare parts) (each-of (λ c. IsLowClaim c (collected base c)) parts) has good));
    any = λ parts. subst (IsLowClaim (Or (bare parts))) (sym (collected-rolled base _ (layer.Or (bare parts))
        (rolls-Or-claim (bare parts))))
        (λ has good. subst (AllOf Low) (sym (unknowns-Or (parts_of base T (bare parts))))
        (all-low (bare parts) (each-of (λ c. IsLowClaim c (collected base c)) parts) has good));
  })

  pub parts_low : (cs : List Claim) → list_all (λ (g : Collected). g.has T) (map (collected base) cs) ≡ true
      → list_all (λ (g : Collected). g.good) (map (collected base) cs) ≡ true → AllOf Low (flat_map unknowns_of (parts_of base T cs))
  parts_low cs = all-low cs (each-all (λ c. IsLowClaim c (collected base c)) cs low_claim)

-- some conditions with names below `base` and positive divisors, and the list of their pairs
module _ (base : ℕ) (parts : List Claim) (good : list_all (λ (g : Collected). g.good) (map (collected base) parts) ≡ true) where
  abbrev T : Entries
  T = entries_of base parts

  pub has : list_all (λ (g : Collected). g.has T) (map (collected base) parts) ≡ true
  has = chain-gets base parts (each-all (Steady base) parts (steady base)) []

  pub ordered : IsOrdered base T
  ordered = chain-ordered base parts (each-all (Steady base) parts (steady base)) [] (none-ordered base) good

  positive : ArePositive T
  positive d e is = (ordered d e is).1

  module _ (σ : ℕ → ℤ) where
    abbrev ν : ℕ → ℤ
    ν = fill base σ T

    filled : (x : ℕ) → x < base → ν x ≡ σ x
    filled x l = fill-below T base σ x l

    floors : AreFloors base ν T
    floors = fill-floors T base σ ordered

    told : list_all (raw_truth ν) (parts_of base T parts) ≡ list_all (claim_true σ) parts
    told = parts-tell base σ ν T filled floors parts has good

    -- where the conditions hold, the floors filled in satisfy the formula
    pub satisfied : list_all (claim_true σ) parts ≡ true → raw_truth ν (formula_of base parts) ≡ true
    satisfied holds =
        raw-And ν (parts_of base T parts ++ conjuncts base T)
        ∙ list_all-append (raw_truth ν) (parts_of base T parts) (conjuncts base T)
        ∙ and_from _ _ (told ∙ holds) (conjuncts-met T base ν positive floors)

    -- numbers that satisfy the formula, and are those of the names that it has, tell that the conditions hold
    pub holds_by : (x : ℕ → ℤ) → raw_truth x (formula_of base parts) ≡ true
        → AllOf (λ u. u < base → x u ≡ σ u) (flat_map unknowns_of (parts_of base T parts))
        → ((d : ℕ) (e : Entry) → slice_get T d ≡ Some e → AllIn (λ u. u < base → x u ≡ σ u) e.0.factors)
        → list_all (claim_true σ) parts ≡ true
    holds_by x met names entries =
        let all = and_parts (list_all (raw_truth x) (parts_of base T parts)) (list_all (raw_truth x) (conjuncts base T))
        (sym (list_all-append (raw_truth x) (parts_of base T parts) (conjuncts base T))
        ∙ sym (raw-And x (parts_of base T parts ++ conjuncts base T)) ∙ met) in
        let mine = conjuncts-only T base x positive all.1 in
        let agrees : (u : ℕ) → u < base + length T → (u < base → x u ≡ σ u) → x u ≡ ν u = λ u low name. one mine u low name in
        let unknowns = both-of _ _ (λ u. x u ≡ ν u) (flat_map unknowns_of (parts_of base T parts)) agrees (parts_low base T parts has good)
        names in
        let same = raw-same x ν (raw.And (parts_of base T parts)) (subst (AllOf (λ u. x u ≡ ν u))
        (sym (unknowns-And (parts_of base T parts))) unknowns) in
        sym told ∙ sym (raw-And ν (parts_of base T parts)) ∙ sym same ∙ raw-And x (parts_of base T parts) ∙ all.0
      where
        as_filled : (d : ℕ) (e : Entry) → slice_get T d ≡ Some e → AllIn (λ u. u < base → x u ≡ ν u) e.0.factors
        as_filled d e is = all-weaker (λ u. u < base → x u ≡ σ u) (λ u. u < base → x u ≡ ν u) e.0.factors
            (λ u name l. name l ∙ sym (filled u l)) (entries d e is)

        one : AreFloors base x T → (u : ℕ) → u < base + length T → (u < base → x u ≡ σ u) → x u ≡ ν u
        one mine u low name = ⊎_elim
            (λ below. name below ∙ sym (filled u below))
            (λ past.
            let is : base + (u - base) ≡ u = omega (arith, past) in
            subst (λ v. x v ≡ ν v) is (same-floors base T x ν ordered mine floors as_filled (suc (u - base)) (u - base) (omega arith)
            (omega (arith, low, past))))
            (cases_lt u base)
