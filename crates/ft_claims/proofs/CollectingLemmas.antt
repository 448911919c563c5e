-- Formulas made from left to right: a formula stays the same by a longer list of pairs.
use Rattle.std.proofs.Common.{◌≡◌, ◌∙◌, sym, ap, subst, refl, ℕ, ◌+◌, ◌<◌, true, List, [], ◌∷◌, ◌++◌, map, take, length}
use Rattle.std.specs.Prelude.{slice_index_or}
use Rattle.std.specs.List.{list_all}
use Rattle.std.proofs.lemmas.Bool.{and_parts}
use Rattle.std.proofs.lemmas.List.{take_more}
use Rattle.ft_linear.specs.meaning.Form.{LinView}
use Rattle.ft_settle.specs.declared.raw.Raw.{Raw}
use Rattle.ft_settle.specs.declared.raw.Raw.TheVariants as raw
use Rattle.ft_claims.specs.declared.claim.Sym.{Sym}
use Rattle.ft_claims.specs.declared.claim.Claim.{Claim}
use Rattle.ft_claims.specs.declared.claim.Claim.TheOpen as layer
use Rattle.ft_claims.specs.declared.claim.Claim.TheVariants.{Le, Lt, Not, And, Or, rolls-Le, rolls-Lt, rolls-Not, rolls-And, rolls-Or}
use Rattle.ft_claims.specs.meaning.Forms.{minus, Entries, gathered, Gathers}
use Rattle.ft_claims.specs.meaning.Formulas.{Collected, leaf, chain, less, collected, Collects, CollectsAll}
use Rattle.ft_claims.proofs.GatherLemmas.{Extends, stable, form_longer}
use Rattle.ft_claims.proofs.FormulaLemmas.{bare, Each, each-of, each-all, claim_induction, collected-rolled, of_parts, Steady, steady}
use Rattle.ft_claims.proofs.FormulaLemmas.{chain-gets}
use Rattle.ft_claims.proofs.MakingLemmas.{later}

module _ (base : ℕ) where
  abbrev Stays : Collected → Type 0
  Stays c = (T U : Entries) → Extends T U → c.has T ≡ true → c.formula U ≡ c.formula T

  abbrev ClaimStays : Claim → Type 0
  ClaimStays c = Stays (collected base c)

  leaf-stays : (f : LinView → LinView → LinView) (a b : Sym) → Stays (leaf f (gathered base a) (gathered base b))
  leaf-stays f a b T U more has =
      let both = and_parts ((gathered base a).has T) ((gathered base b).has T) has in
      let p = form_longer (gathered base a) (stable base a) T U more both.0 in let q =
      form_longer (gathered base b) (stable base b) T U more both.1 in
      λ i. raw.Le (f (p i) (q i))

  parts-stay : (cs : List Claim) → Each ClaimStays cs → (T U : Entries) → Extends T U
      → list_all (λ (g : Collected). g.has T) (of_parts base cs) ≡ true
      → map (λ (g : Collected). g.formula U) (of_parts base cs) ≡ map (λ (g : Collected). g.formula T) (of_parts base cs)
  parts-stay [] each T U more has = refl
  parts-stay (c ∷ cs) each T U more has =
      let both = and_parts ((collected base c).has T) (list_all (λ (g : Collected). g.has T) (of_parts base cs)) has in
      let here = each.0 T U more both.0 in let rest = parts-stay cs each.1 T U more both.1 in λ i. here i ∷ rest i

  pub stays : (c : Claim) → ClaimStays c
  stays = claim_induction ClaimStays (record {
    le = λ a b. subst Stays (sym (collected-rolled base _ (layer.Le a b) (rolls-Le a b))) (leaf-stays minus a b);
    lt = λ a b. subst Stays (sym (collected-rolled base _ (layer.Lt a b) (rolls-Lt a b))) (leaf-stays less a b);
    negated = λ c s. subst Stays (sym (collected-rolled base _ (layer.Not c) (rolls-Not c))) (λ T U more has. ap raw.Not (s T U more has));
    all = λ parts. subst Stays (sym (collected-rolled base _ (layer.And (bare parts)) (rolls-And (bare parts))))
        (λ T U more has. ap raw.And (parts-stay (bare parts) (each-of ClaimStays parts) T U more has));
    any = λ parts. subst Stays (sym (collected-rolled base _ (layer.Or (bare parts)) (rolls-Or (bare parts))))
        (λ T U more has. ap raw.Or (parts-stay (bare parts) (each-of ClaimStays parts) T U more has));
  })

  collects : (c : Claim) (g : Collected) → collected base c ≡ g → (T U : Entries) (r : Raw) → U ≡ g.entries T → r ≡ g.formula U
      → Collects base c T U r
  collects c g is T U r t h = record {
    entries = t ∙ sym (ap (λ (x : Collected). x.entries T) is);
    formula = h
        ∙ sym (ap (λ (x : Collected). x.formula U) is);
  }

  pub collects-Le : (a b : Sym) (T U W : Entries) (f g : LinView) → Gathers base a T U f → Gathers base b U W g
      → Collects base (Le a b) T W (raw.Le (minus f g))
  collects-Le a b T U W f g m n =
      let early = later base a T U W f m (subst (Extends U) (sym n.entries) ((stable base b).grows U)) in
      collects (Le a b) _ (collected-rolled base _ (layer.Le a b) (rolls-Le a b)) T W _ (n.entries ∙ ap (gathered base b).entries m.entries)
      (λ i. raw.Le (minus (early i) (n.form i)))

  pub collects-Lt : (a b : Sym) (T U W : Entries) (f g : LinView) → Gathers base a T U f → Gathers base b U W g
      → Collects base (Lt a b) T W (raw.Le (less f g))
  collects-Lt a b T U W f g m n =
      let early = later base a T U W f m (subst (Extends U) (sym n.entries) ((stable base b).grows U)) in
      collects (Lt a b) _ (collected-rolled base _ (layer.Lt a b) (rolls-Lt a b)) T W _ (n.entries ∙ ap (gathered base b).entries m.entries)
      (λ i. raw.Le (less (early i) (n.form i)))

  pub collects-Not : (c : Claim) (T U : Entries) (r : Raw) → Collects base c T U r → Collects base (Not c) T U (raw.Not r)
  collects-Not c T U r m = collects (Not c) _ (collected-rolled base _ (layer.Not c) (rolls-Not c)) T U _ m.entries (ap raw.Not m.formula)

  pub collects-And : (cs : List Claim) (T U : Entries) (rs : List Raw) → CollectsAll base cs T U rs
      → Collects base (And cs) T U (raw.And rs)
  collects-And cs T U rs m = collects (And cs) _ (collected-rolled base _ (layer.And cs) (rolls-And cs)) T U _ m.entries
      (ap raw.And m.formulas)

  pub collects-Or : (cs : List Claim) (T U : Entries) (rs : List Raw) → CollectsAll base cs T U rs → Collects base (Or cs) T U (raw.Or rs)
  collects-Or cs T U rs m = collects (Or cs) _ (collected-rolled base _ (layer.Or cs) (rolls-Or cs)) T U _ m.entries (ap raw.Or m.formulas)

  -- the same of what equals it
  pub like : {d c : Claim} {T U : Entries} {r q : Raw} → d ≡ c → r ≡ q → Collects base c T U q → Collects base d T U r
  like {c = c} {T = T} {U = U} {r = r} e p m = subst (λ x. Collects base x T U r) (sym e) (subst (λ x. Collects base c T U x) (sym p) m)

  pub like_all : {ds cs : List Claim} {T U : Entries} {rs : List Raw} → ds ≡ cs → CollectsAll base cs T U rs → CollectsAll base ds T U rs
  like_all {T = T} {U = U} {rs = rs} e m = subst (λ x. CollectsAll base x T U rs) (sym e) m

  chain-more : (cs : List Claim) (c : Claim) (T : Entries) → chain (of_parts base (cs ++ c ∷ [])) T
      ≡ (collected base c).entries (chain (of_parts base cs) T)
  chain-more [] c T = refl
  chain-more (d ∷ cs) c T = chain-more cs c ((collected base d).entries T)

  map-more : (W : Entries) (cs : List Claim) (c : Claim)
      → map (λ (g : Collected). g.formula W) (of_parts base (cs ++ c ∷ [])) ≡ map (λ (g : Collected). g.formula W) (of_parts base cs)
      ++ (collected base c).formula W ∷ []
  map-more W [] c = refl
  map-more W (d ∷ cs) c = ap (λ rs. (collected base d).formula W ∷ rs) (map-more W cs c)

  one-more : (cs : List Claim) (c : Claim) (T U W : Entries) (rs : List Raw) (r : Raw) → CollectsAll base cs T U rs → Collects base c U W r
      → CollectsAll base (cs ++ c ∷ []) T W (rs ++ r ∷ [])
  one-more cs c T U W rs r m n =
      let more : Extends U W = subst (Extends U) (sym n.entries) ((steady base c).grows U) in
      let has = ap (λ X. list_all (λ (g : Collected). g.has X) (of_parts base cs)) m.entries
      ∙ chain-gets base cs (each-all (Steady base) cs (steady base)) T in
      let same = m.formulas ∙ sym (parts-stay cs (each-all ClaimStays cs stays) U W more has) in
      record {
        entries = n.entries ∙ ap (collected base c).entries m.entries ∙ sym (chain-more cs c T);
        formulas = (λ i. same i ++ n.formula i ∷ []) ∙ sym (map-more W cs c);
      }

  pub part-more : (T U W : Entries) (rs qs : List Raw) (r : Raw) (parts : List Claim) (i : ℕ) (part : Claim) → i < length parts → part
      ≡ slice_index_or parts i part
      → CollectsAll base (take i parts) T U rs → Collects base part U W r → qs ≡ rs ++ r ∷ [] → CollectsAll base (take (i + 1) parts) T W qs
  part-more T U W rs qs r parts i part within is m n made =
      let longer : take (i + 1) parts ≡ take i parts ++ part ∷ [] = take_more parts i part within
      ∙ ap (λ (p : Claim). take i parts ++ p ∷ []) (sym is) in
      subst (λ x. CollectsAll base (take (i + 1) parts) T W x) (sym made) (like_all longer (one-more (take i parts) part T U W rs r m n))
