-- The last component of the walk is finished.
use Rattle.std.proofs.Common.{arith, ◌≡◌, ◌∙◌, sym, ap, subst, refl, ◌⊎◌, inl, inr, ℕ, ◌+◌, ◌-◌, ◌<◌, ◌≤◌, List, [], ◌∷◌, length, take}
use Rattle.std.proofs.Common.{drop, slice_get, Option, Some, None}
use Rattle.std.proofs.lemmas.Bool.{cases_eq, cases_lt}
use Rattle.std.proofs.lemmas.Option.{slice_get_within, same_Some, none-some}
use Rattle.std.proofs.lemmas.List.{length-take-le}
use Rattle.ft_core.specs.declared.walk.Stage.{Stage}
use Rattle.ft_core.specs.declared.walk.Stage.TheVariants.{New, Open, Done}
use Rattle.ft_core.specs.declared.walk.Component.{Component}
use Rattle.ft_core.specs.meaning.Order.{ReadsItem}
use Rattle.ft_core.specs.walk.Circles.{Leads, one}
use Rattle.ft_core.specs.walk.Walk.{IsIn, finished, ahead, waiting, in_hand, IsWalk, IsNew, IsTop, IsLeastAfter, Finishes, work}
use Rattle.ft_core.specs.laws.Places.{one-at, none-at, on-left, some-at}
use Rattle.ft_core.proofs.PlaceLemmas.{of-single, of-append, on-right, of-take, in-take, of-drop, in-drop}
use Rattle.ft_core.proofs.CircleLemmas.{leads-on}
use Rattle.ft_core.proofs.WalkLemmas.{leads-top, work-le}

single-of : (items : List ℕ) (k : ℕ) → length items ≡ 1 → slice_get items 0 ≡ Some k → items ≡ k ∷ []
single-of [] k long is = absurd (none-at 0 k is)
single-of (x ∷ []) k long is = ap (λ (y : ℕ). y ∷ []) (same_Some x k is)
single-of (x ∷ (y ∷ items)) k long is = absurd (omega (arith, long))

module _ (reads : List (List ℕ)) (stages : List Stage) (path : List ℕ) (components : List Component) (pending order : List ℕ)
    (least : Option ℕ)
    (is : IsWalk reads stages path components pending order least None) (top : Component) (last : IsTop components top)
    (none : length pending ≤ top.pending)
    (new : List Stage) (after : List ℕ) (least-now : Option ℕ) (done : Finishes (drop top.first path) stages new order after)
    (small : IsLeastAfter reads (drop top.first path) least least-now) where
  abbrev tail : List ℕ
  tail = drop top.first path

  abbrev IsOut : ℕ → Type 0
  IsOut k = (j : ℕ) → slice_get tail j ≡ Some k → ⊥

  tail-open : (k j : ℕ) → slice_get tail j ≡ Some k → slice_get stages k ≡ Some (Open (top.first + j))
  tail-open k j at = is.path_open k (top.first + j) (of-drop top.first path j k at)

  in-or-out : (k : ℕ) (s : Option Stage) → slice_get stages k ≡ s → ((j : ℕ) × (slice_get tail j ≡ Some k)) ⊎ IsOut k
  in-or-out k None stage = inr (λ j at. let e = sym stage ∙ tail-open k j at in none-some (Open (top.first + j)) e)
  in-or-out k (Some New) stage = inr (λ j at. let e = same_Some New (Open (top.first + j)) (sym stage ∙ tail-open k j at) in absurd (cc))
  in-or-out k (Some (Done p)) stage = inr (λ j at. let e = same_Some (Done p) (Open (top.first + j)) (sym stage ∙ tail-open k j at) in
      absurd (cc))
  in-or-out k (Some (Open p)) stage = elim (cases_lt p top.first) [
    | inl low ↦ inr (λ j at.
        let e = same_Some (Open p) (Open (top.first + j)) (sym stage ∙ tail-open k j at) in
        let same : p ≡ top.first + j = cc in
        absurd (omega (arith, low, same)))
    | inr high ↦ let h = in-drop top.first path p k high (is.open_path k p stage) in inl (h.0, h.2)
  ]

  whether : (k : ℕ) → ((j : ℕ) × (slice_get tail j ≡ Some k)) ⊎ IsOut k
  whether k = in-or-out k (slice_get stages k) refl

  inside : top.first ≤ length path
  inside = let w = is.within top last.0 last.2 in omega (arith, w.0)

  on-end : (k j : ℕ) → slice_get tail j ≡ Some k → slice_get after (length order + j) ≡ Some k
  on-end k j at = subst (λ (l : List ℕ). slice_get l (length order + j) ≡ Some k) (sym done.added) (on-right order tail j k at)

  on-start : (k p : ℕ) → slice_get order p ≡ Some k → slice_get after p ≡ Some k
  on-start k p at = subst (λ (l : List ℕ). slice_get l p ≡ Some k) (sym done.added) (on-left order tail p k at)

  of-after : (k p : ℕ) → slice_get after p ≡ Some k → (slice_get order p ≡ Some k)
      ⊎ ((j : ℕ) × (p ≡ length order + j) × (slice_get tail j ≡ Some k))
  of-after k p at = of-append order tail p k (subst (λ (l : List ℕ). slice_get l p ≡ Some k) done.added at)

  -- what an item of the component reads is finished, or in the component
  leads-into : (k q j : ℕ) → slice_get tail j ≡ Some k → ReadsItem reads k q → (IsIn order q) ⊎ ((i : ℕ) × (slice_get tail i ≡ Some q))
  leads-into k q j at r = elim (is.reached top k q last.0 (top.first + j) last.2 (omega arith) (of-drop top.first path j k at) r) [
    | finished s h ↦ inl (s, h)
    | ahead s up h ↦ let d = in-drop top.first path s q up h in inr (d.0, d.2)
    | waiting e up h ↦ let within = slice_get_within pending e q h in absurd (omega (arith, within, none, up))
    | in_hand wrong ↦ absurd (none-some q wrong)
  ]

  -- two items of the component lead to each other
  both-ways : (k x i j : ℕ) → slice_get tail i ≡ Some k → slice_get tail j ≡ Some x → (i ≡ j → ⊥) → Leads reads k k
  both-ways k x i j from to other =
      let up = leads-top reads stages path components pending order least None is top last in
      leads-on reads k x k
      (up k x (top.first + i) (top.first + j) (of-drop top.first path i k from) (of-drop top.first path j x to)
      (λ e. other (omega (arith, e))) (omega arith))
      (up x k (top.first + j) (top.first + i) (of-drop top.first path j x to) (of-drop top.first path i k from)
      (λ e. other (omega (arith, e))) (omega arith))

  circular : (k i : ℕ) → slice_get tail i ≡ Some k → (tail ≡ k ∷ [] → ReadsItem reads k k) → Leads reads k k
  circular k i at itself = elim (cases_eq (length tail) 1) [
    | inl e ↦
        let within = slice_get_within tail i k at in
        one (itself (single-of tail k e (subst (λ (j : ℕ). slice_get tail j ≡ Some k) (omega (arith, e, within)) at)))
    | inr other ↦
        let within = slice_get_within tail i k at in
        elim (cases_eq i 0) [
          | inl e ↦ let x = some-at tail 1 (omega (arith, other, within)) in both-ways k x.0 i 1 at x.1 (λ f. omega (arith, e, f))
          | inr apart ↦ let x = some-at tail 0 (omega (arith, within)) in both-ways k x.0 i 0 at x.1 apart
        ]
  ]

  pub advances : (k : ℕ) → IsNew new k → IsNew stages k
  advances k fresh = elim (whether k) [
    | inl (j, at) ↦ let e = same_Some New (Done (length order + j)) (sym fresh ∙ done.here k j at) in absurd (cc)
    | inr out ↦ sym (done.there k out) ∙ fresh
  ]

  pub less-work : work reads new ≤ work reads stages
  less-work = work-le reads stages new done.long advances

  abbrev front : List ℕ
  front = take top.first path

  abbrev fewer : List Component
  fewer = take (length components - 1) components

  pub closed : IsWalk reads new (take top.first path) (take (length components - 1) components) pending after least-now None
  closed =
      let short = length-take-le top.first path inside in
      record {
        long = done.long ∙ is.long;
        open_path = λ k p at. elim (whether k) [
          | inl (j, there) ↦ let e = same_Some (Open p) (Done (length order + j)) (sym at ∙ done.here k j there) in absurd (cc)
          | inr out ↦
              let was = is.open_path k p (sym (done.there k out) ∙ at) in
              elim (cases_lt p top.first) [
                | inl low ↦ in-take top.first path p k low was
                | inr high ↦ let d = in-drop top.first path p k high was in absurd (out d.0 d.2)
              ]
        ];
        path_open = λ k p at.
            let h = of-take top.first path p k at in
            let stage = is.path_open k p h.1 in
            done.there k (λ j there.
            let e = same_Some (Open p) (Open (top.first + j)) (sym stage ∙ tail-open k j there) in
            let same : p ≡ top.first + j = cc in
            absurd (omega (arith, same, h.0)))
            ∙ stage;
        done_order = λ k p at. elim (whether k) [
          | inl (j, there) ↦
              let e = same_Some (Done (length order + j)) (Done p) (sym (done.here k j there) ∙ at) in
              let same : length order + j ≡ p = cc in
              subst (λ (i : ℕ). slice_get after i ≡ Some k) same (on-end k j there)
          | inr out ↦ on-start k p (is.done_order k p (sym (done.there k out) ∙ at))
        ];
        order_done = λ k p at. elim (of-after k p at) [
          | inl o ↦
              let stage = is.order_done k p o in
              done.there k (λ j there. let e = same_Some (Done p) (Open (top.first + j)) (sym stage ∙ tail-open k j there) in absurd (cc))
              ∙ stage
          | inr (j, e, there) ↦ done.here k j there ∙ ap (λ (n : ℕ). Some (Done n)) (sym e)
        ];
        closed = λ k q p at r. elim (of-after k p at) [
          | inl o ↦ let c = is.closed k q p o r in (c.0, on-start q c.0 c.1)
          | inr (j, e, there) ↦ elim (leads-into k q j there r) [
            | inl c ↦ (c.0, on-start q c.0 c.1)
            | inr c ↦ (length order + c.0, on-end q c.0 c.1)
          ]
        ];
        cut = λ k j q p r at lone low to reads-it. elim (of-after k p at) [
          | inl o ↦
              let under = slice_get_within order p k o in
              elim (of-after j r to) [
                | inl u ↦ let c = is.cut k j q p r o (small.below k lone) low u reads-it in (c.0, c.1, on-start q c.0 c.2)
                | inr (i, e, there) ↦ absurd (omega (arith, e, low, under))
              ]
          | inr (i, e, there) ↦
              let only = small.alone k i there lone in
              let first = of-single k k i (subst (λ (l : List ℕ). slice_get l i ≡ Some k) only.0 there) in
              elim (of-after j r to) [
                | inl u ↦
                    let c = is.closed j q r u reads-it in
                    let under = slice_get_within order c.0 q c.1 in
                    (c.0, omega (arith, under, e), on-start q c.0 c.1)
                | inr (h, f, also) ↦
                    let this = of-single k j h (subst (λ (l : List ℕ). slice_get l h ≡ Some j) only.0 also) in
                    elim (leads-into j q h also reads-it) [
                      | inl c ↦ let under = slice_get_within order c.0 q c.1 in (c.0, omega (arith, under, e), on-start q c.0 c.1)
                      | inr c ↦
                          let that = of-single k q c.0 (subst (λ (l : List ℕ). slice_get l c.0 ≡ Some q) only.0 c.1) in
                          absurd (only.1 (subst (λ (x : ℕ). ReadsItem reads x k) (sym this.1)
                          (subst (λ (x : ℕ). ReadsItem reads j x) (sym that.1) reads-it)))
                    ]
              ]
        ];
        on_circle = λ k now. elim (small.from k now) [
          | inl old ↦ is.on_circle k old
          | inr (i, at, itself) ↦ circular k i at itself
        ];
        within = λ c i has.
            let h = of-take (length components - 1) components i c has in
            let w = is.within c i h.1 in
            let r = is.rises c top i last.0 (omega (arith, h.0, last.1)) h.1 last.2 in
            (omega (arith, r.0, short), w.1);
        rises = λ c d i j less a b.
            is.rises c d i j less (of-take (length components - 1) components i c a).1 (of-take (length components - 1) components j d b).1;
        bottom = λ k p at.
            let h = of-take top.first path p k at in
            let b = is.bottom k p h.1 in
            let some : 0 < length components - 1 = elim (cases_eq last.0 0) [
              | inl e ↦
                  let same : b.0 ≡ top = one-at components 0 b.0 top b.1 (subst (λ (j : ℕ). slice_get components j ≡ Some top) e last.2) in
                  let firsts = ap (λ (d : Component). d.first) same in
                  let z = b.2 in
                  absurd (omega (arith, firsts, z, h.0))
              | inr other ↦ omega (arith, other, last.1)
            ] in
            (b.0, in-take (length components - 1) components 0 b.0 some b.1, b.2);
        reached = λ c k q i p has low at r.
            let h = of-take (length components - 1) components i c has in
            let g = of-take top.first path p k at in
            elim (is.reached c k q i p h.1 low g.1 r) [
              | finished s there ↦ finished s (on-start q s there)
              | ahead s up there ↦ elim (cases_lt s top.first) [
                | inl under ↦ ahead s up (in-take top.first path s q under there)
                | inr over ↦ let d = in-drop top.first path s q over there in finished (length order + d.0) (on-end q d.0 d.2)
              ]
              | waiting e up there ↦ waiting e up there
              | in_hand wrong ↦ absurd (none-some q wrong)
            ];
        linked = λ k q a b from to other no-start.
            let f = of-take top.first path a k from in
            let g = of-take top.first path b q to in
            is.linked k q a b f.1 g.1 other (λ c i has over high. elim (cases_lt i (length components - 1)) [
              | inl low ↦ no-start c i (in-take (length components - 1) components i c low has) over high
              | inr end ↦
                  let within-it = slice_get_within components i c has in
                  let same : c ≡ top = one-at components last.0 c top (subst (λ (j : ℕ). slice_get components j ≡ Some c)
                  (omega (arith, end, within-it, last.1)) has) last.2 in
                  let firsts = ap (λ (d : Component). d.first) same in
                  absurd (omega (arith, firsts, high, f.0))
            ]);
        reader = λ q e at.
            let r = is.reader q e at in
            let within-it = slice_get_within pending e q at in
            let below = (r.4 top last.0 last.2).1 (omega (arith, within-it, none)) in (
              r.0,
              r.1,
              in-take top.first path r.1 r.0 below r.2,
              r.3,
              λ c i has. r.4 c i
                  (of-take (length components - 1) components i c has).1,
            );
        taker = λ q wrong. absurd (none-some q wrong);
      }

-- what is needed to finish the items of the last component
module _ (reads : List (List ℕ)) (stages : List Stage) (path : List ℕ) (components : List Component) (pending order : List ℕ)
    (least : Option ℕ)
    (is : IsWalk reads stages path components pending order least None) (first : ℕ) (items : List ℕ) (rest : items ≡ drop first path) where
  pub items-staged : (k p : ℕ) → slice_get items p ≡ Some k → k < length stages
  items-staged k p at =
      let place = of-drop first path p k (subst (λ (l : List ℕ). slice_get l p ≡ Some k) rest at) in
      slice_get_within stages k (Open (first + p)) (is.path_open k (first + p) place)

  pub items-below : (k p : ℕ) → slice_get items p ≡ Some k → k < length reads
  items-below k p at = let staged = items-staged k p at in let long = is.long in omega (arith, staged, long)

  pub items-once : (k p r : ℕ) → slice_get items p ≡ Some k → slice_get items r ≡ Some k → p ≡ r
  items-once k p r at to =
      let a = is.path_open k (first + p) (of-drop first path p k (subst (λ (l : List ℕ). slice_get l p ≡ Some k) rest at)) in
      let b = is.path_open k (first + r) (of-drop first path r k (subst (λ (l : List ℕ). slice_get l r ≡ Some k) rest to)) in
      let e = same_Some (Open (first + p)) (Open (first + r)) (sym a ∙ b) in
      let same : first + p ≡ first + r = cc in
      omega (arith, same)

-- the last component is finished: what is known stays, no item becomes new, and less is left
pub closes : (reads : List (List ℕ)) (stages : List Stage) (path : List ℕ) (components : List Component) (pending order : List ℕ)
    (least : Option ℕ)
    → IsWalk reads stages path components pending order least None → (top : Component) → IsTop components top → length pending ≤ top.pending
    → (new : List Stage) (after : List ℕ) (least-now : Option ℕ) (items path-now : List ℕ) (components-now : List Component) (count : ℕ)
    → items ≡ drop top.first path → Finishes items stages new order after → IsLeastAfter reads items least least-now
    → path-now ≡ take top.first path → count ≡ length components → components-now ≡ take (count - 1) components
    → IsWalk reads new path-now components-now pending after least-now None × ((k : ℕ) → IsNew new k → IsNew stages k)
    × (work reads new ≤ work reads stages)
    × (length components-now < length components)
closes reads stages path components pending order least is top last none new after least-now items path-now components-now count a done
    small b e d =
    let f : Finishes (drop top.first path) stages new order after = subst (λ (l : List ℕ). Finishes l stages new order after) a done in
    let g : IsLeastAfter reads (drop top.first path) least least-now =
    subst (λ (l : List ℕ). IsLeastAfter reads l least least-now) a small in
    let h : components-now ≡ take (length components - 1) components = d ∙ ap (λ (n : ℕ). take (n - 1) components) e in
    let short = ap length h ∙ length-take-le (length components - 1) components (omega arith) in (
      rw (b, h) (closed reads stages path components pending order least is top last none new after least-now f g),
      advances reads stages path components pending order least is top last none new after least-now f g,
      less-work reads stages path components pending order least is top last none new after least-now f g,
      omega (arith, short, last.1),
    )
