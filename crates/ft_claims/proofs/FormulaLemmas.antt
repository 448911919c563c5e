-- The formula of some conditions: with the floors filled in it is as true as they are, and numbers that satisfy it have the floors.
use Rattle.std.proofs.Common.{◌≡◌, ◌∙◌, sym, ap, subst, refl, ℕ, ◌<◌, ℤ, pos, ◌+ℤ◌, ◌*ℤ◌, ◌-ℤ◌, true, not, ◌&&◌, ◌||◌, List, [], ◌∷◌, map}
use Rattle.std.proofs.Common.{arith}
use Rattle.std.specs.Prelude.{int_le, int_lt}
use Rattle.std.specs.List.{list_all, list_any}
use Rattle.std.proofs.lemmas.Int.{ints}
use Rattle.std.proofs.lemmas.Bool.{and_parts, and_from}
use Rattle.ft_base.specs.Division.{floor_of}
use Rattle.ft_claims.proofs.Arithmetic.{floor-at, floor-only}
use Rattle.ft_linear.specs.meaning.Form.{LinView, form_at}
use Rattle.ft_settle.specs.meaning.Raw.{raw_truth}
use Rattle.ft_settle.specs.declared.raw.Raw.{Raw}
use Rattle.ft_settle.specs.declared.raw.Raw.TheVariants as raw
use Rattle.ft_settle.specs.laws.Raws.{raw-Le, raw-Not, raw-And, raw-Or}
use Rattle.ft_claims.specs.declared.claim.Sym.{Sym}
use Rattle.ft_claims.specs.declared.claim.Claim.{Claim, Claim-F, map-Claim, fold-Claim, roll-Claim, fold-roll-Claim, ind-Claim}
use Rattle.ft_claims.specs.declared.claim.Claim.TheOpen as layer
use Rattle.ft_claims.specs.declared.claim.Claim.TheVariants.{Le, Lt, Not, And, Or, rolls-Le, rolls-Lt, rolls-Not, rolls-And, rolls-Or}
use Rattle.ft_claims.specs.meaning.Claims.{sym_value, claim_true}
use Rattle.ft_claims.specs.meaning.Forms.{constant_form, unknown, plus, minus, times, Entry, Entries, gathered}
use Rattle.ft_claims.specs.meaning.Formulas.{Collected, leaf, chain, all_of, less, layer_collected, collected, at_most, at_least}
use Rattle.ft_claims.specs.laws.Equations.{true-Le, true-Lt, true-Not, true-And, true-Or}
use Rattle.ft_claims.proofs.FormLemmas.{plus-at, minus-at, times-at, constant-at, unknown-at}
use Rattle.ft_claims.proofs.GatherLemmas.{Extends, extends-itself, extends-more, stable, has_longer, AreFloors, value_at}
use Rattle.ft_claims.proofs.UnknownLemmas.{IsOrdered, keeps_order}

-- a condition of which P holds
abbrev pub WithClaim : (Claim → Type 0) → Type 0
WithClaim P = (c : Claim) × P c

abbrev pub bare : {P : Claim → Type 0} → List (WithClaim P) → List Claim
bare cs = map (λ e. e.0) cs

pub record ClaimInductive (P : Claim → Type 0) : Type 0 where
  pub le : (a b : Sym) → P (Le a b)
  pub lt : (a b : Sym) → P (Lt a b)
  pub negated : (c : Claim) → P c → P (Not c)
  pub all : (parts : List (WithClaim P)) → P (And (bare parts))
  pub any : (parts : List (WithClaim P)) → P (Or (bare parts))

of_layer : (P : Claim → Type 0) → ClaimInductive P → (y : Claim-F (WithClaim P))
    → P (roll-Claim (map-Claim (WithClaim P) Claim (λ e. e.0) y))
of_layer P h (layer.Le a b) = subst P (sym (rolls-Le a b)) (h.le a b)
of_layer P h (layer.Lt a b) = subst P (sym (rolls-Lt a b)) (h.lt a b)
of_layer P h (layer.Not c) = subst P (sym (rolls-Not c.0)) (h.negated c.0 c.1)
of_layer P h (layer.And parts) = subst P (sym (rolls-And (bare parts))) (h.all parts)
of_layer P h (layer.Or parts) = subst P (sym (rolls-Or (bare parts))) (h.any parts)

pub claim_induction : (P : Claim → Type 0) → ClaimInductive P → (c : Claim) → P c
claim_induction P h = ind-Claim P (λ x y is. subst (λ z. P (roll-Claim z)) is (of_layer P h y))

-- each of the conditions alone
abbrev pub Each : (Claim → Type 0) → List Claim → Type 0
Each P [] = Unit {0}
Each P (c ∷ cs) = P c × Each P cs

pub each-of : (P : Claim → Type 0) (parts : List (WithClaim P)) → Each P (bare parts)
each-of P [] = tt
each-of P (c ∷ cs) = (c.1, each-of P cs)

pub each-all : (P : Claim → Type 0) (cs : List Claim) → ((c : Claim) → P c) → Each P cs
each-all P [] h = tt
each-all P (c ∷ cs) h = (h c, each-all P cs h)

module _ (base : ℕ) where
  pub collected-rolled : (c : Claim) (a_layer : Claim-F Claim) → roll-Claim a_layer ≡ c → collected base c
      ≡ layer_collected base (map-Claim Claim Collected (collected base) a_layer)
  unfolding collected
  collected-rolled c a_layer is = ap (fold-Claim Collected (layer_collected base)) (sym is)
      ∙ fold-roll-Claim Collected (layer_collected base) a_layer

  -- what is known of the lists of a condition
  pub record IsSteady (c : Collected) : Type 0 where
    pub has_stays : (T U : Entries) → Extends T U → c.has T ≡ true → c.has U ≡ true
    pub grows : (T : Entries) → Extends T (c.entries T)
    pub gets : (T : Entries) → c.has (c.entries T) ≡ true
    pub ordered : (T : Entries) → IsOrdered base T → c.good ≡ true → IsOrdered base (c.entries T)

  abbrev pub Steady : Claim → Type 0
  Steady c = IsSteady (collected base c)

  leaf-steady : (f : LinView → LinView → LinView) (a b : Sym) → IsSteady (leaf f (gathered base a) (gathered base b))
  leaf-steady f a b =
      let g = gathered base a in let h = gathered base b in let s = stable base a in let t = stable base b in
      record {
        has_stays = λ T U more has. let both = and_parts (g.has T) (h.has T) has in
            and_from _ _ (has_longer g s T U more both.0) (has_longer h t T U more both.1);
        grows = λ T. extends-more T (g.entries T) (h.entries (g.entries T)) (s.grows T) (t.grows (g.entries T));
        gets = λ T. and_from _ _ (has_longer g s (g.entries T) (h.entries (g.entries T)) (t.grows (g.entries T)) (s.gets T))
            (t.gets (g.entries T));
        ordered = λ T o good. let goods = and_parts g.good h.good good in
            keeps_order base b (g.entries T) (keeps_order base a T o goods.0) goods.1;
      }

  abbrev pub of_parts : List Claim → List Collected
  of_parts cs = map (collected base) cs

  pub chain-grows : (cs : List Claim) → Each Steady cs → (T : Entries) → Extends T (chain (of_parts cs) T)
  chain-grows [] each T = extends-itself T
  chain-grows (c ∷ cs) each T =
      extends-more T ((collected base c).entries T) (chain (of_parts cs) ((collected base c).entries T)) (each.0.grows T)
      (chain-grows cs each.1 ((collected base c).entries T))

  all-stay : (cs : List Claim) → Each Steady cs → (T U : Entries) → Extends T U → list_all (λ (g : Collected). g.has T) (of_parts cs) ≡ true
      → list_all (λ (g : Collected). g.has U) (of_parts cs) ≡ true
  all-stay [] each T U more has = refl
  all-stay (c ∷ cs) each T U more has =
      let both = and_parts ((collected base c).has T) (list_all (λ (g : Collected). g.has T) (of_parts cs)) has in
      and_from _ _ (each.0.has_stays T U more both.0) (all-stay cs each.1 T U more both.1)

  pub chain-gets : (cs : List Claim) → Each Steady cs → (T : Entries) → list_all (λ (g : Collected). g.has (chain (of_parts cs) T))
      (of_parts cs) ≡ true
  chain-gets [] each T = refl
  chain-gets (c ∷ cs) each T =
      let X = (collected base c).entries T in
      and_from _ _ (each.0.has_stays X (chain (of_parts cs) X) (chain-grows cs each.1 X) (each.0.gets T)) (chain-gets cs each.1 X)

  pub chain-ordered : (cs : List Claim) → Each Steady cs → (T : Entries) → IsOrdered base T
      → list_all (λ (g : Collected). g.good) (of_parts cs) ≡ true
      → IsOrdered base (chain (of_parts cs) T)
  chain-ordered [] each T o good = o
  chain-ordered (c ∷ cs) each T o good =
      let both = and_parts (collected base c).good (list_all (λ (g : Collected). g.good) (of_parts cs)) good in
      chain-ordered cs each.1 ((collected base c).entries T) (each.0.ordered T o both.0) both.1

  all-steady : (node : List Raw → Raw) (cs : List Claim) → Each Steady cs → IsSteady (all_of node (of_parts cs))
  all-steady node cs each = record {
    has_stays = all-stay cs each;
    grows = chain-grows cs each;
    gets = chain-gets cs each;
    ordered = chain-ordered cs each;
  }

  pub steady : (c : Claim) → Steady c
  steady = claim_induction Steady (record {
    le = λ a b. subst IsSteady (sym (collected-rolled _ (layer.Le a b) (rolls-Le a b))) (leaf-steady minus a b);
    lt = λ a b. subst IsSteady (sym (collected-rolled _ (layer.Lt a b) (rolls-Lt a b))) (leaf-steady less a b);
    negated = λ c s. subst IsSteady (sym (collected-rolled _ (layer.Not c) (rolls-Not c)))
        (record { has_stays = s.has_stays; grows = s.grows; gets = s.gets; ordered = s.ordered });
    all = λ parts. subst IsSteady (sym (collected-rolled _ (layer.And (bare parts)) (rolls-And (bare parts))))
        (all-steady raw.And (bare parts) (each-of Steady parts));
    any = λ parts. subst IsSteady (sym (collected-rolled _ (layer.Or (bare parts)) (rolls-Or (bare parts))))
        (all-steady raw.Or (bare parts) (each-of Steady parts));
  })

  module _ (σ ν : ℕ → ℤ) (T : Entries) (same : (x : ℕ) → x < base → ν x ≡ σ x) (floors : AreFloors base ν T) where
    abbrev Tells : Claim → Collected → Type 0
    Tells c g = g.has T ≡ true → g.good ≡ true → raw_truth ν (g.formula T) ≡ claim_true σ c

    below-zero : (a b : ℤ) → int_le (a -ℤ b) (pos 0) ≡ int_le a b
    below-zero a b = grind (arith, ints)

    next-below : (a b : ℤ) → int_le ((a -ℤ b) +ℤ pos 1) (pos 0) ≡ int_lt a b
    next-below a b = grind (arith, ints)

    le-tells : (a b : Sym) → Tells (Le a b) (leaf minus (gathered base a) (gathered base b))
    le-tells a b has good =
        let hs = and_parts ((gathered base a).has T) ((gathered base b).has T) has in
        let gs = and_parts (gathered base a).good (gathered base b).good good in
        let p = value_at base σ ν T same floors a hs.0 gs.0 in let q = value_at base σ ν T same floors b hs.1 gs.1 in
        raw-Le ν _ ∙ ap (λ z. int_le z (pos 0)) (minus-at ν ((gathered base a).form T) ((gathered base b).form T) ∙ (λ i. p i -ℤ q i))
        ∙ below-zero (sym_value σ a) (sym_value σ b) ∙ sym (true-Le σ a b)

    lt-tells : (a b : Sym) → Tells (Lt a b) (leaf less (gathered base a) (gathered base b))
    lt-tells a b has good =
        let hs = and_parts ((gathered base a).has T) ((gathered base b).has T) has in
        let gs = and_parts (gathered base a).good (gathered base b).good good in
        let f = (gathered base a).form T in let g = (gathered base b).form T in
        let p = value_at base σ ν T same floors a hs.0 gs.0 in let q = value_at base σ ν T same floors b hs.1 gs.1 in
        raw-Le ν _ ∙ ap (λ z. int_le z (pos 0)) (plus-at ν (minus f g) (constant_form (pos 1))
        ∙ (λ i. minus-at ν f g i +ℤ constant-at ν (pos 1) i) ∙ (λ i. (p i -ℤ q i) +ℤ pos 1))
        ∙ next-below (sym_value σ a) (sym_value σ b) ∙ sym (true-Lt σ a b)

    all-tell : (cs : List Claim) → Each (λ c. Tells c (collected base c)) cs → list_all (λ (g : Collected). g.has T) (of_parts cs) ≡ true
        → list_all (λ (g : Collected). g.good) (of_parts cs) ≡ true → list_all (raw_truth ν)
        (map (λ (g : Collected). g.formula T) (of_parts cs)) ≡ list_all (claim_true σ) cs
    all-tell [] each has good = refl
    all-tell (c ∷ cs) each has good =
        let hs = and_parts ((collected base c).has T) (list_all (λ (g : Collected). g.has T) (of_parts cs)) has in
        let gs = and_parts (collected base c).good (list_all (λ (g : Collected). g.good) (of_parts cs)) good in
        let here = each.0 hs.0 gs.0 in let more = all-tell cs each.1 hs.1 gs.1 in λ i. here i && more i

    any-tell : (cs : List Claim) → Each (λ c. Tells c (collected base c)) cs → list_all (λ (g : Collected). g.has T) (of_parts cs) ≡ true
        → list_all (λ (g : Collected). g.good) (of_parts cs) ≡ true → list_any (raw_truth ν)
        (map (λ (g : Collected). g.formula T) (of_parts cs)) ≡ list_any (claim_true σ) cs
    any-tell [] each has good = refl
    any-tell (c ∷ cs) each has good =
        let hs = and_parts ((collected base c).has T) (list_all (λ (g : Collected). g.has T) (of_parts cs)) has in
        let gs = and_parts (collected base c).good (list_all (λ (g : Collected). g.good) (of_parts cs)) good in
        let here = each.0 hs.0 gs.0 in let more = any-tell cs each.1 hs.1 gs.1 in λ i. here i || more i

    -- with a floor for each pair, a condition's formula is as true as it is
    pub tells : (c : Claim) → Tells c (collected base c)
    tells = claim_induction (λ c. Tells c (collected base c)) (record {
      le = λ a b. subst (Tells (Le a b)) (sym (collected-rolled _ (layer.Le a b) (rolls-Le a b))) (le-tells a b);
      lt = λ a b. subst (Tells (Lt a b)) (sym (collected-rolled _ (layer.Lt a b) (rolls-Lt a b))) (lt-tells a b);
      negated = λ c p. subst (Tells (Not c)) (sym (collected-rolled _ (layer.Not c) (rolls-Not c)))
          (λ has good. raw-Not ν _ ∙ ap not (p has good) ∙ sym (true-Not σ c));
      all = λ parts. subst (Tells (And (bare parts))) (sym (collected-rolled _ (layer.And (bare parts)) (rolls-And (bare parts))))
          (λ has good. raw-And ν _ ∙ all-tell (bare parts) (each-of (λ c. Tells c (collected base c)) parts) has good
          ∙ sym (true-And σ (bare parts)));
      any = λ parts. subst (Tells (Or (bare parts))) (sym (collected-rolled _ (layer.Or (bare parts)) (rolls-Or (bare parts))))
          (λ has good. raw-Or ν _ ∙ any-tell (bare parts) (each-of (λ c. Tells c (collected base c)) parts) has good
          ∙ sym (true-Or σ (bare parts)));
    })

    pub parts-tell : (cs : List Claim) → list_all (λ (g : Collected). g.has T) (of_parts cs) ≡ true
        → list_all (λ (g : Collected). g.good) (of_parts cs) ≡ true
        → list_all (raw_truth ν) (map (λ (g : Collected). g.formula T) (of_parts cs)) ≡ list_all (claim_true σ) cs
    parts-tell cs = all-tell cs (each-all (λ c. Tells c (collected base c)) cs tells)

-- the two conjuncts of a pair say that its unknown is the floor
module _ (ν : ℕ → ℤ) (q : ℕ) (e : Entry) where
  most-value : form_at ν (minus (times e.1 (unknown q)) e.0) ≡ (e.1 *ℤ ν q) -ℤ form_at ν e.0
  most-value = minus-at ν (times e.1 (unknown q)) e.0 ∙ ap (λ z. z -ℤ form_at ν e.0)
      (times-at ν e.1 (unknown q) ∙ ap (λ z. e.1 *ℤ z) (unknown-at ν q))

  least-value : form_at ν (plus (minus e.0 (times e.1 (unknown q))) (constant_form (pos 1 -ℤ e.1))) ≡ (form_at ν e.0 -ℤ (e.1 *ℤ ν q))
      +ℤ (pos 1 -ℤ e.1)
  least-value =
      let product = times-at ν e.1 (unknown q) ∙ ap (λ z. e.1 *ℤ z) (unknown-at ν q) in
      plus-at ν (minus e.0 (times e.1 (unknown q))) (constant_form (pos 1 -ℤ e.1))
      ∙ (λ i. (minus-at ν e.0 (times e.1 (unknown q)) ∙ ap (λ z. form_at ν e.0 -ℤ z) product) i +ℤ constant-at ν (pos 1 -ℤ e.1) i)

  pub met-by : int_le (pos 1) e.1 ≡ true → ν q ≡ floor_of (form_at ν e.0) e.1 → (raw_truth ν (at_most q e) ≡ true)
      × (raw_truth ν (at_least q e) ≡ true)
  met-by up is =
      let floor = floor-at (form_at ν e.0) e.1 (floor_of (form_at ν e.0) e.1) (omega (arith, ints, up)) refl in
      let product = ap (λ z. e.1 *ℤ z) is in (
        raw-Le ν _ ∙ (let low = floor.low in let v = most-value in grind (arith, ints, low, v, product)),
        raw-Le ν _ ∙ (let high = floor.high in let v = least-value in grind (arith, ints, high, v, product)),
      )

  pub met-only : int_le (pos 1) e.1 ≡ true → raw_truth ν (at_most q e) ≡ true → raw_truth ν (at_least q e) ≡ true → ν q
      ≡ floor_of (form_at ν e.0) e.1
  met-only up most least =
      let floor = floor-at (form_at ν e.0) e.1 (floor_of (form_at ν e.0) e.1) (omega (arith, ints, up)) refl in
      let a = sym (raw-Le ν _) ∙ most in
      let b = sym (raw-Le ν _) ∙ least in
      let v = most-value in let w = least-value in
      sym (floor-only (form_at ν e.0) e.1 (floor_of (form_at ν e.0) e.1) (ν q) (omega (arith, ints, up)) floor
      (record { low = omega (arith, ints, a, v); high = omega (arith, ints, b, w) }))
