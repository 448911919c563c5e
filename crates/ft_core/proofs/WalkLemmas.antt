-- How the walk's steps keep what is known of it.
use Rattle.std.proofs.Common.{arith, ◌≡◌, ◌∙◌, sym, ap, subst, refl, ◌⊎◌, inl, inr, ℕ, zero, suc, ◌+◌, ◌-◌, ◌<◌, ◌≤◌, List, [], ◌∷◌, ◌++◌}
use Rattle.std.proofs.Common.{length, take, slice_get, slice_set, slice_index_or, Option, Some, None, append_assoc}
use Rattle.std.proofs.lemmas.Bool.{cases_eq, cases_lt}
use Rattle.std.proofs.lemmas.Option.{slice_get_within, same_Some, none-some}
use Rattle.std.proofs.lemmas.List.{length-set, length-append, length-take-le, take_more}
use Rattle.ft_core.specs.declared.walk.Stage.{Stage}
use Rattle.ft_core.specs.declared.walk.Stage.TheVariants.{New, Open, Done}
use Rattle.ft_core.specs.declared.walk.Component.{Component}
use Rattle.ft_core.specs.meaning.Order.{ReadsItem}
use Rattle.ft_core.specs.walk.Circles.{Leads, one, more}
use Rattle.ft_core.specs.walk.Walk.{IsIn, IsLone, finished, ahead, waiting, in_hand, IsWalk, IsNew, IsTop, Joins, IsLeast, Finishes, weight}
use Rattle.ft_core.specs.walk.Walk.{work}
use Rattle.ft_core.specs.laws.Places.{one-at, none-at, on-left, of-push, at-end, of-set, set-here, set-there, contained, place-of, some-at}
use Rattle.ft_core.proofs.PlaceLemmas.{of-append, on-right, of-take, in-take}
use Rattle.ft_core.proofs.CircleLemmas.{leads-on}

-- one more component is dropped
pub join-more : (at : ℕ) (old mid new : List Component) (c : Component) (n : ℕ) → Joins at old mid → IsTop mid c → at < c.first → n
    ≡ length mid
    → new ≡ take (n - 1) mid → Joins at old new
join-more at old mid new c n before top above long is = rw is (
    let begins = before.begins in
    let inside : 0 < n - 1 = elim (cases_eq top.0 0) [
      | inl e ↦
          let same : begins.0 ≡ c = one-at mid 0 begins.0 c begins.1 (subst (λ (i : ℕ). slice_get mid i ≡ Some c) e top.2) in
          let low = begins.2 in
          let firsts = ap (λ (d : Component). d.first) same in
          absurd (omega (arith, low, above, firsts))
      | inr other ↦ omega (arith, top.1, long, other)
    ] in
    record {
      begins = (begins.0, in-take (n - 1) mid 0 begins.0 inside begins.1, begins.2);
      same = λ d i h. before.same d i (of-take (n - 1) mid i d h).1;
      kept = λ d i h low.
          let there = before.kept d i h low in
          let within = slice_get_within mid i d there in
          elim (cases_eq i top.0) [
            | inl e ↦
                let same : d ≡ c = one-at mid top.0 d c (subst (λ (j : ℕ). slice_get mid j ≡ Some d) e there) top.2 in
                let firsts = ap (λ (x : Component). x.first) same in
                absurd (omega (arith, low, above, firsts))
            | inr other ↦ in-take (n - 1) mid i d (omega (arith, within, other, top.1, long)) there
          ];
      fewer = let short = length-take-le (n - 1) mid (omega (arith, long)) in let few = before.fewer in omega (arith, short, long, few);
    })

-- one more item is taken into account
pub least-more : (least mid new : Option ℕ) (items : List ℕ) (done item : ℕ) → IsLeast least mid items done → slice_get items done
    ≡ Some item
    → ((k : ℕ) → new ≡ Some k → (mid ≡ Some k) ⊎ (item ≡ k)) → ((k : ℕ) → IsLone new k → IsLone mid k × (k < item))
    → IsLeast least new items (done + 1)
least-more least mid new items done item before here from below = record {
  from = λ k is. elim (from k is) [ inl o ↦ before.from k o | inr same ↦ inr (done, here ∙ ap Some same) ];
  below = λ k lone. before.below k (below k lone).0;
  none = λ k p less is lone. elim (cases_eq p done) [
    | inl e ↦
        let same : item ≡ k = one-at items done item k here (subst (λ (i : ℕ). slice_get items i ≡ Some k) e is) in
        let under = (below k lone).1 in
        absurd (omega (arith, same, under))
    | inr other ↦ before.none k p (omega (arith, less, other)) is (below k lone).0
  ];
}

-- one more item is put at the end of the order
pub finish-one : (items : List ℕ) (stages mid : List Stage) (order after : List ℕ) (item : ℕ) → Finishes items stages mid order after
    → ((p : ℕ) → slice_get items p ≡ Some item → ⊥) → item < length stages
    → Finishes (items ++ item ∷ []) stages (slice_set mid item (Done (length after))) order (after ++ item ∷ [])
finish-one items stages mid order after item before fresh within = record {
  long = length-set mid item (Done (length after)) ∙ before.long;
  added = ap (λ (l : List ℕ). l ++ item ∷ []) before.added ∙ append_assoc order items (item ∷ []);
  here = λ k p is. elim (of-push items item p k is) [
    | inl o ↦ set-there mid item (Done (length after)) k (λ e. fresh p (o ∙ ap Some e)) ∙ before.here k p o
    | inr (e, same) ↦
        let count : length after ≡ length order + p = ap length before.added ∙ length-append order items
        ∙ ap (λ (n : ℕ). length order + n) (sym e) in
        let long = before.long in
        subst (λ (i : ℕ). slice_get (slice_set mid item (Done (length after))) i ≡ Some (Done (length order + p))) same
        (set-here mid item (Done (length after)) (omega (arith, long, within)) ∙ ap (λ (n : ℕ). Some (Done n)) count)
  ];
  there = λ k none.
      set-there mid item (Done (length after)) k (λ e. none (length items) (at-end items item ∙ ap Some (sym e)))
      ∙ before.there k (λ p is. none p (on-left items (item ∷ []) p k is));
}

pub finish-more : (items : List ℕ) (done : ℕ) (stages mid new : List Stage) (order after last : List ℕ) (item : ℕ)
    → Finishes (take done items) stages mid order after
    → item ≡ slice_index_or items done 0 → done < length items → ((k p r : ℕ) → slice_get items p ≡ Some k → slice_get items r ≡ Some k → p
    ≡ r) → slice_get items done ≡ Some item
    → item < length stages → new ≡ slice_set mid item (Done (length after)) → last ≡ after ++ item ∷ []
    → Finishes (take (done + 1) items) stages new order last
finish-more items done stages mid new order after last item before item-is inside once here within a b =
    let longer : take (done + 1) items ≡ take done items ++ item ∷ [] = take_more items done 0 inside
    ∙ ap (λ (i : ℕ). take done items ++ i ∷ []) (sym item-is) in
    rw (a, b, longer) (finish-one (take done items) stages mid order after item before
    (λ p is. let h = of-take done items p item is in let e = once item p done h.1 here in absurd (omega (arith, h.0, e))) within)

-- less is left where no more items are new
pub work-le : (reads : List (List ℕ)) (old new : List Stage) → length new ≡ length old → ((k : ℕ) → IsNew new k → IsNew old k)
    → work reads new ≤ work reads old
work-le [] old new long h = omega arith
work-le (r ∷ reads) [] [] long h = omega arith
work-le (r ∷ reads) [] (y ∷ new) long h = absurd (omega (arith, long))
work-le (r ∷ reads) (x ∷ old) [] long h = absurd (omega (arith, long))
work-le (r ∷ reads) (x ∷ old) (New ∷ new) long h =
    let rest = work-le reads old new (omega (arith, long)) (λ k n. h (suc k) n) in
    let same : weight r x ≡ weight r New = ap (weight r) (same_Some x New (h 0 refl)) in
    omega (arith, rest, same)
work-le (r ∷ reads) (x ∷ old) (Open p ∷ new) long h = let rest = work-le reads old new (omega (arith, long)) (λ k n. h (suc k) n) in
    omega (arith, rest)
work-le (r ∷ reads) (x ∷ old) (Done p ∷ new) long h = let rest = work-le reads old new (omega (arith, long)) (λ k n. h (suc k) n) in
    omega (arith, rest)

-- an item that is put on the path takes itself and its reads from what is left
pub work-open : (reads : List (List ℕ)) (stages : List Stage) (q p : ℕ) → q < length reads → IsNew stages q
    → work reads (slice_set stages q (Open p)) + suc (length (slice_index_or reads q [])) ≡ work reads stages
work-open [] stages q p item new = absurd (omega (arith, item))
work-open (r ∷ reads) [] q p item new = absurd (none-at q New new)
work-open (r ∷ reads) (x ∷ stages) zero p item new = let same : weight r x ≡ weight r New = ap (weight r) (same_Some x New new) in
    omega (arith, same)
work-open (r ∷ reads) (x ∷ stages) (suc q) p item new = let rest = work-open reads stages q p (omega (arith, item)) new in
    omega (arith, rest)

module _ (reads : List (List ℕ)) (stages : List Stage) (path : List ℕ) (components : List Component) (pending order : List ℕ)
    (least taken : Option ℕ)
    (is : IsWalk reads stages path components pending order least taken) where
  -- no component begins after the last one
  pub below-top : (top c : Component) (i : ℕ) → IsTop components top → slice_get components i ≡ Some c → (c.first ≤ top.first)
      × (c.pending ≤ top.pending)
  below-top top c i last here = elim (cases_eq i last.0) [
    | inl e ↦
        let same : c ≡ top = one-at components last.0 c top (subst (λ (j : ℕ). slice_get components j ≡ Some c) e here) last.2 in
        let a = ap (λ (d : Component). d.first) same in
        let b = ap (λ (d : Component). d.pending) same in
        (omega (arith, a), omega (arith, b))
    | inr other ↦
        let within = slice_get_within components i c here in
        let r = is.rises c top i last.0 (omega (arith, within, other, last.1)) here last.2 in
        (omega (arith, r.0), r.1)
  ]

  -- items at or after the beginning of the last component lead to each other
  pub leads-top : (top : Component) → IsTop components top → (k q a b : ℕ) → slice_get path a ≡ Some k → slice_get path b ≡ Some q
      → (a ≡ b → ⊥)
      → top.first ≤ b → Leads reads k q
  leads-top top last k q a b from to other high = is.linked k q a b from to other
      (λ c i h low up. let r = below-top top c i last h in omega (arith, r.0, low, high))

  -- a read to an item that is finished, or on the path in a component that isn't before the last, was followed
  pub filled : (q : ℕ) → taken ≡ Some q → (IsIn order q) ⊎ ((at : ℕ) × (slice_get path at ≡ Some q)
      × ((c : Component) (i : ℕ) → slice_get components i ≡ Some c → c.first ≤ at))
      → IsWalk reads stages path components pending order least None
  filled q hand where-it = record {
    long = is.long;
    open_path = is.open_path;
    path_open = is.path_open;
    done_order = is.done_order;
    order_done = is.order_done;
    closed = is.closed;
    cut = is.cut;
    on_circle = is.on_circle;
    within = is.within;
    rises = is.rises;
    bottom = is.bottom;
    reached = λ c k x i p has low at r. elim (is.reached c k x i p has low at r) [
      | finished s h ↦ finished s h
      | ahead s up h ↦ ahead s up h
      | waiting e up h ↦ waiting e up h
      | in_hand same ↦
          let this : q ≡ x = same_Some q x (sym hand ∙ same) in
          elim where-it [
            | inl done ↦ finished done.0 (done.1 ∙ ap Some this)
            | inr on ↦ ahead on.0 (on.2 c i has) (on.1 ∙ ap Some this)
          ]
    ];
    linked = is.linked;
    reader = is.reader;
    taker = λ x no. absurd (none-some x no);
  }

  -- the components after the one of this place are joined with it
  pub joined : (q at : ℕ) (new : List Component) → taken ≡ Some q → slice_get path at ≡ Some q → Joins at components new
      → ((c : Component) → IsTop new c → c.first ≤ at) → IsWalk reads stages path new pending order least None
  joined q at new hand here joins top-low =
      let t = is.taker q hand in
      let low : (c : Component) (i : ℕ) → slice_get new i ≡ Some c → c.first ≤ at = λ c i has.
      let inside = slice_get_within new i c has in
      let last = some-at new (length new - 1) (omega (arith, inside)) in
      let under = top-low last.0 (length new - 1, omega (arith, inside), last.1) in
      elim (cases_eq i (length new - 1)) [
        | inl e ↦
            let same = one-at new (length new - 1) c last.0 (subst (λ (j : ℕ). slice_get new j ≡ Some c) e has) last.1 in
            let firsts = ap (λ (d : Component). d.first) same in
            omega (arith, firsts, under)
        | inr other ↦
            let r = is.rises c last.0 i (length new - 1) (omega (arith, inside, other)) (joins.same c i has)
            (joins.same last.0 (length new - 1) last.1) in
            omega (arith, r.0, under)
      ]
      in record {
        long = is.long;
        open_path = is.open_path;
        path_open = is.path_open;
        done_order = is.done_order;
        order_done = is.order_done;
        closed = is.closed;
        cut = is.cut;
        on_circle = is.on_circle;
        within = λ c i has. is.within c i (joins.same c i has);
        rises = λ c d i j less a b. is.rises c d i j less (joins.same c i a) (joins.same d j b);
        bottom = λ k p at-p. let b = is.bottom k p at-p in (b.0, joins.kept b.0 0 b.1 (let z = b.2 in omega (arith, z)), b.2);
        reached = λ c k x i p has up at-p r. elim (is.reached c k x i p (joins.same c i has) up at-p r) [
          | finished s h ↦ finished s h
          | ahead s over h ↦ ahead s over h
          | waiting e over h ↦ waiting e over h
          | in_hand same ↦ ahead at (low c i has) (here ∙ ap Some (same_Some q x (sym hand ∙ same)))
        ];
        linked = λ k x a b from to other none. elim (cases_lt at a) [
          | inr under ↦ is.linked k x a b from to other (λ c i has over high. none c i (joins.kept c i has (omega (arith, high, under)))
              over high)
          | inl above ↦
              let to-reader : (a ≡ t.1 → ⊥) → Leads reads k t.0 = λ apart. is.linked k t.0 a t.1 from t.2 apart
              (λ c i has over high. let f = t.4 c i has in omega (arith, f, over)) in
              let to-q : Leads reads k q = elim (cases_eq a t.1) [
                | inl e ↦
                    let same : t.0 ≡ k = one-at path a t.0 k (subst (λ (j : ℕ). slice_get path j ≡ Some t.0) (sym e) t.2) from in
                    one (subst (λ (j : ℕ). ReadsItem reads j q) same t.3)
                | inr apart ↦ more (to-reader apart) t.3
              ] in
              elim (cases_eq at b) [
                | inl e ↦ subst (λ (j : ℕ). Leads reads k j) (one-at path b q x (subst (λ (j : ℕ). slice_get path j ≡ Some q) e here) to)
                    to-q
                | inr apart ↦ leads-on reads k q x to-q (
                    is.linked q x at b here to apart (λ c i has over high. none c i (joins.kept c i has high) over
                    (omega (arith, high, above))))
              ]
        ];
        reader = λ x e at-e. let r = is.reader x e at-e in (r.0, r.1, r.2, r.3, λ c i has. r.4 c i (joins.same c i has));
        taker = λ x no. absurd (none-some x no);
      }

  -- a new item that all items of the path lead to is put on the path, as a component of its own, and its reads wait
  module _ (q : ℕ) (new : IsNew stages q) (leads : (k p : ℕ) → slice_get path p ≡ Some k → Leads reads k q)
      (hand : (x : ℕ) → taken ≡ Some x → x ≡ q) where
    abbrev opened-stages : List Stage
    opened-stages = slice_set stages q (Open (length path))

    abbrev single : Component
    single = record { first = length path; pending = length pending }

    not-open : (p k : ℕ) → slice_get path p ≡ Some k → k ≡ q → ⊥
    not-open p k at same = let wrong = same_Some New (Open p) (sym new
        ∙ subst (λ (i : ℕ). slice_get stages i ≡ Some (Open p)) same (is.path_open k p at)) in absurd (cc)

    not-done : (p k : ℕ) → slice_get order p ≡ Some k → k ≡ q → ⊥
    not-done p k at same = let wrong = same_Some New (Done p) (sym new
        ∙ subst (λ (i : ℕ). slice_get stages i ≡ Some (Done p)) same (is.order_done k p at)) in absurd (cc)

    pub opened : IsWalk reads (slice_set stages q (Open (length path))) (path ++ q ∷ [])
        (components ++ record { first = length path; pending = length pending } ∷ [])
        (pending ++ slice_index_or reads q []) order least None
    opened =
        let more-path = length-append path (q ∷ []) in
        let more-pending = length-append pending (slice_index_or reads q []) in
        record {
          long = length-set stages q (Open (length path)) ∙ is.long;
          open_path = λ k p at. elim (of-set stages q (Open (length path)) k (Open p) at) [
            | inl (e, same) ↦
                let place : length path ≡ p = cc in
                subst (λ (j : ℕ). slice_get (path ++ q ∷ []) j ≡ Some k) place (at-end path q ∙ ap Some (sym e))
            | inr (other, o) ↦ on-left path (q ∷ []) p k (is.open_path k p o)
          ];
          path_open = λ k p at. elim (of-push path q p k at) [
            | inl o ↦ set-there stages q (Open (length path)) k (not-open p k o) ∙ is.path_open k p o
            | inr (e, same) ↦
                subst (λ (i : ℕ). slice_get opened-stages i ≡ Some (Open p)) same
                (set-here stages q (Open (length path)) (slice_get_within stages q New new) ∙ ap (λ (n : ℕ). Some (Open n)) (sym e))
          ];
          done_order = λ k p at. elim (of-set stages q (Open (length path)) k (Done p) at) [
            | inl (e, same) ↦ absurd (cc)
            | inr (other, o) ↦ is.done_order k p o
          ];
          order_done = λ k p at. set-there stages q (Open (length path)) k (not-done p k at) ∙ is.order_done k p at;
          closed = is.closed;
          cut = is.cut;
          on_circle = is.on_circle;
          within = λ c i has. elim (of-push components single i c has) [
            | inl o ↦ let w = is.within c i o in (omega (arith, w.0, more-path), omega (arith, w.1, more-pending))
            | inr (e, same) ↦
                let a = ap (λ (d : Component). d.first) same in
                let b = ap (λ (d : Component). d.pending) same in
                (omega (arith, a, more-path), omega (arith, b, more-pending))
          ];
          rises = λ c d i j less at to. elim (of-push components single j d to) [
            | inl u ↦ elim (of-push components single i c at) [
              | inl o ↦ is.rises c d i j less o u
              | inr (e, same) ↦ let inside = slice_get_within components j d u in absurd (omega (arith, less, e, inside))
            ]
            | inr (f, also) ↦ elim (of-push components single i c at) [
              | inl o ↦
                  let w = is.within c i o in
                  let a = ap (λ (x : Component). x.first) also in
                  let b = ap (λ (x : Component). x.pending) also in
                  (omega (arith, w.0, a), omega (arith, w.1, b))
              | inr (e, same) ↦ absurd (omega (arith, less, e, f))
            ]
          ];
          bottom = λ k p at. elim (cases_eq (length path) 0) [
            | inl e ↦
                let none : length components ≡ 0 = elim (cases_eq (length components) 0) [
                  | inl z ↦ z
                  | inr some ↦
                      let c = some-at components 0 (omega (arith, some)) in
                      let w = is.within c.0 0 c.1 in
                      absurd (omega (arith, w.0, e))
                ] in
                (single, subst (λ (i : ℕ). slice_get (components ++ single ∷ []) i ≡ Some single) none (at-end components single), e)
            | inr some ↦
                let first = some-at path 0 (omega (arith, some)) in
                let b = is.bottom first.0 0 first.1 in
                (b.0, on-left components (single ∷ []) 0 b.0 b.1, b.2)
          ];
          reached = λ c k x i p has low at r. elim (of-push path q p k at) [
            | inr (e, same) ↦
                let w = place-of (slice_index_or reads q []) x (subst (λ (j : ℕ). ReadsItem reads j x) (sym same) r) in
                let waits : c.pending ≤ length pending = elim (of-push components single i c has) [
                  | inl o ↦ (is.within c i o).1
                  | inr (f, also) ↦ let b = ap (λ (d : Component). d.pending) also in omega (arith, b)
                ] in
                waiting (length pending + w.0) (omega (arith, waits)) (on-right pending (slice_index_or reads q []) w.0 x w.1)
            | inl o ↦ elim (of-push components single i c has) [
              | inr (f, also) ↦
                  let a = ap (λ (d : Component). d.first) also in
                  let inside = slice_get_within path p k o in
                  absurd (omega (arith, a, inside, low))
              | inl h ↦ elim (is.reached c k x i p h low o r) [
                | finished s there ↦ finished s there
                | ahead s up there ↦ ahead s up (on-left path (q ∷ []) s x there)
                | waiting e up there ↦ waiting e up (on-left pending (slice_index_or reads q []) e x there)
                | in_hand this ↦ let w = is.within c i h in ahead (length path) (omega (arith, w.0))
                    (at-end path q ∙ ap Some (sym (hand x this)))
              ]
            ]
          ];
          linked = λ k x a b from to other none. elim (of-push path q a k from) [
            | inl o ↦ elim (of-push path q b x to) [
              | inl u ↦ is.linked k x a b o u other (λ c i has. none c i (on-left components (single ∷ []) i c has))
              | inr (f, also) ↦ subst (λ (j : ℕ). Leads reads k j) also (leads k a o)
            ]
            | inr (e, same) ↦ elim (of-push path q b x to) [
              | inl u ↦
                  let inside = slice_get_within path b x u in
                  absurd (none single (length components) (at-end components single) (omega (arith, inside)) (omega (arith, e)))
              | inr (f, also) ↦ absurd (other (e ∙ sym f))
            ]
          ];
          reader = λ x e at. elim (of-append pending (slice_index_or reads q []) e x at) [
            | inl o ↦
                let r = is.reader x e o in
                let within-path = slice_get_within path r.1 r.0 r.2 in
                let within-pending = slice_get_within pending e x o in (
                  r.0,
                  r.1,
                  on-left path (q ∷ []) r.1 r.0 r.2,
                  r.3,
                  λ c i has. elim (of-push components single i c has) [
                    | inl h ↦ r.4 c i h
                    | inr (f, also) ↦
                        let a = ap (λ (d : Component). d.first) also in
                        let b = ap (λ (d : Component). d.pending) also in
                        (λ low. absurd (omega (arith, low, b, within-pending)), λ high. omega (arith, a, within-path))
                  ],
                )
            | inr (j, place, there) ↦ (
              q,
              length path,
              at-end path q,
              contained (slice_index_or reads q []) j x there,
              λ c i has. elim (of-push components single i c has) [
                | inl h ↦ let w = is.within c i h in (λ low. omega (arith, w.0), λ high. absurd (omega (arith, high, place, w.1)))
                | inr (f, also) ↦
                    let a = ap (λ (d : Component). d.first) also in
                    let b = ap (λ (d : Component). d.pending) also in
                    (λ low. omega (arith, a), λ high. absurd (omega (arith, high, place, b)))
              ],
            )
          ];
          taker = λ x no. absurd (none-some x no);
        }

-- the last read of the last component is taken off those that wait
pub popped : (reads : List (List ℕ)) (stages : List Stage) (path : List ℕ) (components : List Component) (pending order : List ℕ)
    (least : Option ℕ)
    → IsWalk reads stages path components pending order least None → (top : Component) (count q : ℕ) (rest : List ℕ) → IsTop components top
    → count ≡ length pending
    → top.pending < count → slice_get pending (count - 1) ≡ Some q → rest ≡ take (count - 1) pending
    → IsWalk reads stages path components rest order least (Some q)
popped reads stages path components pending order least is top count q rest last long waits here rest-is = rw rest-is (
    let short = length-take-le (count - 1) pending (omega (arith, long)) in
    record {
      long = is.long;
      open_path = is.open_path;
      path_open = is.path_open;
      done_order = is.done_order;
      order_done = is.order_done;
      closed = is.closed;
      cut = is.cut;
      on_circle = is.on_circle;
      rises = is.rises;
      bottom = is.bottom;
      linked = is.linked;
      within = λ c i has.
          let w = is.within c i has in
          let under = below-top reads stages path components pending order least None is top c i last has in
          (w.0, omega (arith, under.1, waits, short));
      reached = λ c k x i p has low at r. elim (is.reached c k x i p has low at r) [
        | finished s h ↦ finished s h
        | ahead s up h ↦ ahead s up h
        | waiting e up h ↦ elim (cases_eq e (count - 1)) [
          | inl same ↦ in_hand (ap Some (one-at pending (count - 1) q x here (subst (λ (j : ℕ). slice_get pending j ≡ Some x) same h)))
          | inr other ↦
              let inside = slice_get_within pending e x h in
              waiting e up (in-take (count - 1) pending e x (omega (arith, inside, long, other)) h)
        ]
        | in_hand wrong ↦ absurd (none-some x wrong)
      ];
      reader = λ x e at. is.reader x e (of-take (count - 1) pending e x at).1;
      taker = λ x same.
          let r = is.reader x (count - 1) (here ∙ same) in (
            r.0,
            r.1,
            r.2,
            r.3,
            λ c i has.
                let under = below-top reads stages path components pending order least None is top c i last has in
                (r.4 c i has).0 (omega (arith, under.1, waits)),
          );
    })
