-- Ways from item to item, and the search for a way back.
use Rattle.std.proofs.Common.{arith, ◌≡◌, ◌∙◌, sym, ap, subst, refl, inl, inr, ℕ, zero, suc, ◌+◌, ◌-◌, ◌<◌, ◌≤◌, Bool, true, false, cond}
use Rattle.std.proofs.Common.{List, [], ◌∷◌, ◌++◌, length, slice_get, slice_set, slice_index_or, Some, Contains, reverse, replicate}
use Rattle.std.proofs.lemmas.Bool.{cases_eq, cases_lt}
use Rattle.std.proofs.lemmas.Option.{slice_get_within, slice_get-get_or, get_or_from_slice_get, same_Some}
use Rattle.std.proofs.lemmas.List.{get_or_past, length-set, length-append, length-reverse, length-replicate, nil_from_length}
use Rattle.ft_core.specs.meaning.Order.{ReadsItem, IsCircle}
use Rattle.std.proofs.lemmas.List.Sums.{sum_by-set}
use Rattle.ft_core.specs.declared.circle.Search.{Search}
use Rattle.ft_core.specs.walk.Circles.{Leads, one, more, IsSearch, Searches, AreRead, IsEnd, IsWayBack, IsMet, AreFollowed, unseen}
use Rattle.ft_core.specs.laws.Places.{one-at, of-replicate, on-left, of-push, at-end, of-set, set-here, set-there, contained, place-of}
use Rattle.ft_core.specs.laws.Places.{some-at}
use Rattle.ft_core.proofs.PlaceLemmas.{of-single, of-reverse}

-- one way after another
pub leads-on : (reads : List (List ℕ)) (a b c : ℕ) → Leads reads a b → Leads reads b c → Leads reads a c
leads-on reads a b c first (one r) = more first r
leads-on reads a b c first (more {m} w r) = more (leads-on reads a b m first w) r

-- what reads something is an item
pub reader-is-item : (reads : List (List ℕ)) (k q : ℕ) → ReadsItem reads k q → k < length reads
reader-is-item reads k q r = elim (cases_lt k (length reads)) [
  | inl less ↦ less
  | inr past ↦
      let none : slice_index_or reads k [] ≡ [] = get_or_past reads k [] past in
      let short : length (slice_index_or reads k []) ≡ 0 = ap length none in
      absurd (omega (arith, short, r.1))
]

pub start-is-item : (reads : List (List ℕ)) (k q : ℕ) → Leads reads k q → k < length reads
start-is-item reads k q (one r) = reader-is-item reads k q r
start-is-item reads k q (more {m} w r) = start-is-item reads k m w

-- a way never leaves a set that reads only itself
pub stays : (reads : List (List ℕ)) (P : ℕ → Type 0) (k q : ℕ) → ((j : ℕ) → ReadsItem reads k j → P j)
    → ((i j : ℕ) → P i → ReadsItem reads i j → P j)
    → Leads reads k q → P q
stays reads P k q begins keeps (one r) = begins q r
stays reads P k q begins keeps (more {m} w r) = keeps m q (stays reads P k m begins keeps w) r

-- along a circle
forward : (reads : List (List ℕ)) (items : List ℕ) → IsCircle reads items → (k q p d : ℕ) → slice_get items p ≡ Some k
    → slice_get items (p + suc d) ≡ Some q → Leads reads k q
forward reads items circle k q p zero at to = one (circle.next k q p at to)
forward reads items circle k q p (suc d) at to =
    let within = slice_get_within items (p + suc (suc d)) q to in
    let m = some-at items (p + suc d) (omega (arith, within)) in
    more (forward reads items circle k m.0 p d at m.1) (circle.next m.0 q (p + suc d) m.1
    (subst (λ (i : ℕ). slice_get items i ≡ Some q) (omega arith) to))

-- each item of a circle leads back to itself
pub comes-back : (reads : List (List ℕ)) (items : List ℕ) → IsCircle reads items → (k p : ℕ) → slice_get items p ≡ Some k → Leads reads k k
comes-back reads items circle k p at =
    let within = slice_get_within items p k at in
    let last = some-at items (length items - 1) (omega (arith, within)) in
    let first = some-at items 0 (omega (arith, within)) in
    let closing = circle.closes last.0 first.0 last.1 first.1 in
    let to-first : Leads reads k first.0 = elim (cases_eq p (length items - 1)) [
      | inl e ↦
          let same : k ≡ last.0 = one-at items (length items - 1) k last.0 (subst (λ (i : ℕ). slice_get items i ≡ Some k) e at) last.1 in
          one (subst (λ (i : ℕ). ReadsItem reads i first.0) (sym same) closing)
      | inr other ↦
          let d : ℕ = length items - 1 - p - 1 in
          let reaches : length items - 1 ≡ p + suc d = omega (arith, other, within) in
          more (forward reads items circle k last.0 p d at (subst (λ (i : ℕ). slice_get items i ≡ Some last.0) reaches last.1)) closing
    ] in
    elim (cases_eq p 0) [
      | inl e ↦
          let same : first.0 ≡ k = one-at items 0 first.0 k first.1 (subst (λ (i : ℕ). slice_get items i ≡ Some k) e at) in
          subst (λ (i : ℕ). Leads reads k i) same to-first
      | inr other ↦
          let reaches : p ≡ 0 + suc (p - 1) = omega (arith, other) in
          leads-on reads k first.0 k to-first (forward reads items circle first.0 k 0 (p - 1) first.1
          (subst (λ (i : ℕ). slice_get items i ≡ Some k) reaches at))
    ]

pub first-back : (reads : List (List ℕ)) (items : List ℕ) → IsCircle reads items → (k : ℕ) × Leads reads k k
first-back reads items circle = let first = some-at items 0 circle.some in (first.0, comes-back reads items circle first.0 0 first.1)

-- the start alone is met
begun-with : (reads : List (List ℕ)) (start : ℕ) → start < length reads
    → IsSearch reads start (start ∷ []) (0 ∷ []) (slice_set (replicate (length reads) false) start true)
begun-with reads start item = let long = length-replicate (length reads) false in record {
  flags = length-set (replicate (length reads) false) start true ∙ length-replicate (length reads) false;
  long = refl;
  first = refl;
  items = λ k p is. let h = of-single start k p is in subst (λ (i : ℕ). i < length reads) h.1 item;
  once = λ k p r a b. let h = of-single start k p a in let g = of-single start k r b in omega (arith, h.0, g.0);
  seen_met = λ k is. elim (of-set (replicate (length reads) false) start true k true is) [
    | inl (e, h) ↦ (0, ap Some (sym e))
    | inr (other, h) ↦ let wrong = of-replicate (length reads) k true false h in absurd (cc)
  ];
  met_seen = λ k p is.
      let h = of-single start k p is in
      subst (λ (i : ℕ). slice_get (slice_set (replicate (length reads) false) start true) i ≡ Some true) h.1
      (set-here (replicate (length reads) false) start true (omega (arith, long, item)));
  way = λ q p r some at up. let h = of-single start q p at in absurd (omega (arith, h.0, some));
}

pub begun : (reads : List (List ℕ)) (start : ℕ) (met parents : List ℕ) (seen : List Bool) → start < length reads
    → met ≡ start ∷ [] → parents ≡ 0 ∷ [] → seen ≡ slice_set (replicate (length reads) false) start true
    → IsSearch reads start met parents seen
begun reads start met parents seen item a b c = rw (a, b, c) (begun-with reads start item)

-- one more item is met
module _ (reads : List (List ℕ)) (start : ℕ) (met parents : List ℕ) (seen : List Bool) (is : IsSearch reads start met parents seen)
    (reader item at : ℕ) (reads-it : ReadsItem reads reader item) (there : slice_get met at ≡ Some reader) (within : item < length reads)
    (unmet : slice_get seen item ≡ Some false) where
  not-met : (p : ℕ) → slice_get met p ≡ Some item → ⊥
  not-met p here = let s = is.met_seen item p here in let wrong = same_Some true false (sym s ∙ unmet) in absurd (cc)

  pub one-more-met : IsSearch reads start (met ++ item ∷ []) (parents ++ at ∷ []) (slice_set seen item true)
  one-more-met = record {
    flags = length-set seen item true ∙ is.flags;
    long = let l = is.long in omega (arith, length-append parents (at ∷ []), length-append met (item ∷ []), l);
    first = on-left met (item ∷ []) 0 start is.first;
    items = λ k p h. elim (of-push met item p k h) [
      | inl o ↦ is.items k p o
      | inr (e, same)
          ↦ subst (λ (i : ℕ). i < length reads) same within
    ];
    once = λ k p r a b. elim (of-push met item p k a) [
      | inl o ↦ elim (of-push met item r k b) [
        | inl u ↦ is.once k p r o u
        | inr (e, same) ↦ absurd (not-met p (o ∙ ap Some (sym same)))
      ]
      | inr (e, same) ↦ elim (of-push met item r k b) [
        | inl u ↦ absurd (not-met r (u ∙ ap Some (sym same)))
        | inr (f, also) ↦ e ∙ sym f
      ]
    ];
    seen_met = λ k h. elim (of-set seen item true k true h) [
      | inl (e, also) ↦ (length met, at-end met item ∙ ap Some (sym e))
      | inr (other, o) ↦ let m = is.seen_met k o in (m.0, on-left met (item ∷ []) m.0 k m.1)
    ];
    met_seen = λ k p h. elim (cases_eq k item) [
      | inl e ↦ subst (λ (i : ℕ). slice_get (slice_set seen item true) i ≡ Some true) (sym e)
          (set-here seen item true (slice_get_within seen item false unmet))
      | inr other ↦ elim (of-push met item p k h) [
        | inl o ↦ set-there seen item true k other ∙ is.met_seen k p o
        | inr (e, same) ↦ absurd (other (sym same))
      ]
    ];
    way = λ q p r some here up. elim (of-push met item p q here) [
      | inl o ↦
          let inside = slice_get_within met p q o in
          let l = is.long in
          let old-up : slice_get parents p ≡ Some r = elim (of-push parents at p r up)
          [ inl u ↦ u | inr (e, same) ↦ absurd (omega (arith, inside, e, l)) ] in
          let w = is.way q p r some o old-up in
          (w.0, w.1, on-left met (item ∷ []) r w.0 w.2, w.3)
      | inr (e, same) ↦
          let l = is.long in
          let now : at ≡ r = elim (of-push parents at p r up) [
            | inl u ↦ let inside = slice_get_within parents p r u in absurd (omega (arith, inside, e, l))
            | inr (f, also) ↦ also
          ] in
          let inside = slice_get_within met at reader there in (
            reader,
            omega (arith, inside, e, now),
            subst (λ (i : ℕ). slice_get (met ++ item ∷ []) i ≡ Some reader) now (on-left met (item ∷ []) at reader there),
            subst (λ (i : ℕ). ReadsItem reads reader i) same reads-it,
          )
    ];
  }

-- where every item's reads were met and none is the start, no way leads back to it
pub no-way-back : (reads : List (List ℕ)) (start : ℕ) (met parents : List ℕ) (seen : List Bool) (at : ℕ)
    → IsSearch reads start met parents seen
    → AreRead reads start met at → length met ≤ at → Leads reads start start → ⊥
no-way-back reads start met parents seen at is read all w =
    let end = stays reads (λ (q : ℕ). (q ≡ start → ⊥) × ((r : ℕ) × (slice_get met r ≡ Some q))) start start
    (λ j r. let inside = slice_get_within met 0 start is.first in read start j 0 (omega (arith, all, inside)) is.first r)
    (λ i j p r. let inside = slice_get_within met p.1.0 i p.1.1 in read i j p.1.0 (omega (arith, all, inside)) p.1.1 r)
    w in
    end.0 refl

-- the way back, one item longer
module _ (reads : List (List ℕ)) (start : ℕ) (met parents : List ℕ) (seen : List Bool) (is : IsSearch reads start met parents seen)
    (end at : ℕ) (items : List ℕ) (back : IsWayBack reads met end at items) (k : ℕ) (here : slice_get met at ≡ Some k) where
  abbrev longer : List ℕ
  longer = items ++ k ∷ []

  longer-last : (x : ℕ) → slice_get longer 0 ≡ Some x → slice_get met end ≡ Some x
  longer-last x h = elim (of-push items k 0 x h) [
    | inl o ↦ back.last x o
    | inr (e, same) ↦ subst (λ (i : ℕ). slice_get met i ≡ Some x) (back.none (nil_from_length items (sym e))) (here ∙ ap Some same)
  ]

  longer-next : (r q p : ℕ) → slice_get longer p ≡ Some q → slice_get longer (p + 1) ≡ Some r → ReadsItem reads r q
  longer-next r q p a b = elim (of-push items k p q a) [
    | inl o ↦ elim (of-push items k (p + 1) r b) [
      | inl u ↦ back.next r q p o u
      | inr (e, same) ↦
          let place : p ≡ length items - 1 = omega (arith, e) in
          subst (λ (i : ℕ). ReadsItem reads i q) same (back.read k q here (subst (λ (i : ℕ). slice_get items i ≡ Some q) place o))
    ]
    | inr (e, same) ↦
        let inside = slice_get_within longer (p + 1) r b in
        let long = length-append items (k ∷ []) in
        absurd (omega (arith, inside, long, e))
  ]

  longer-once : (x p r : ℕ) → slice_get longer p ≡ Some x → slice_get longer r ≡ Some x → p ≡ r
  longer-once x p r a b = elim (of-push items k p x a) [
    | inl o ↦ elim (of-push items k r x b) [
      | inl u ↦ back.once x p r o u
      | inr (e, same) ↦ let l = back.later x p o in let two = is.once x l.0 at l.2 (here ∙ ap Some same) in absurd (omega (arith, two, l.1))
    ]
    | inr (e, same) ↦ elim (of-push items k r x b) [
      | inl u ↦ let l = back.later x r u in let two = is.once x l.0 at l.2 (here ∙ ap Some same) in absurd (omega (arith, two, l.1))
      | inr (f, also) ↦ e ∙ sym f
    ]
  ]

  longer-end : (x : ℕ) → slice_get longer (length longer - 1) ≡ Some x → k ≡ x
  longer-end x h = elim (of-push items k (length longer - 1) x h) [
    | inl o ↦
        let inside = slice_get_within items (length longer - 1) x o in
        let long = length-append items (k ∷ []) in
        absurd (omega (arith, inside, long))
    | inr (e, same) ↦ same
  ]

  pub back-more : (r : ℕ) → 0 < at → slice_get parents at ≡ Some r → IsWayBack reads met end r longer
  back-more r some up =
      let w = is.way k at r some here up in
      let inside = slice_get_within met at k here in record {
        below = omega (arith, w.1, inside);
        none = λ e. let short = ap length e in let long = length-append items (k ∷ []) in absurd (omega (arith, short, long));
        last = longer-last;
        next = longer-next;
        read = λ x q a b. subst (λ (i : ℕ). ReadsItem reads x i) (longer-end q b)
            (subst (λ (i : ℕ). ReadsItem reads i k) (one-at met r w.0 x w.2 a) w.3);
        later = λ x p h. elim (of-push items k p x h) [
          | inl o ↦ let l = back.later x p o in (l.0, omega (arith, l.1, w.1), l.2)
          | inr (e, same) ↦ (at, w.1, here ∙ ap Some same)
        ];
        once = longer-once;
      }

  -- at the start it is a circle
  pub circle-of : at ≡ 0 → IsEnd reads start met end → IsCircle reads (reverse longer) × (slice_get (reverse longer) 0 ≡ Some start)
  circle-of zero-th ends =
      let same : k ≡ start = one-at met 0 k start (subst (λ (i : ℕ). slice_get met i ≡ Some k) zero-th here) is.first in
      let long = length-append items (k ∷ []) in
      let turned = length-reverse longer in
      let first = some-at (reverse longer) 0 (omega (arith, long, turned)) in
      let first-is = longer-end first.0 (subst (λ (i : ℕ). slice_get longer i ≡ Some first.0) (omega arith)
      (of-reverse longer 0 first.0 first.1)) in (
        record {
          some = omega (arith, long, turned);
          next = λ x q p a b.
              let inside = slice_get_within (reverse longer) (p + 1) q b in
              longer-next x q (length longer - 1 - (p + 1)) (of-reverse longer (p + 1) q b)
              (subst (λ (i : ℕ). slice_get longer i ≡ Some x) (omega (arith, inside, turned)) (of-reverse longer p x a));
          closes = λ x q a b.
              let f = one-at (reverse longer) 0 first.0 q first.1 b in
              let x-last = longer-last x (subst (λ (i : ℕ). slice_get longer i ≡ Some x) (omega (arith, turned))
              (of-reverse longer (length (reverse longer) - 1) x a)) in
              subst (λ (i : ℕ). ReadsItem reads x i) (sym same ∙ first-is ∙ f) (ends x x-last);
          once = λ x p r a b.
              let inside = slice_get_within (reverse longer) p x a in
              let within = slice_get_within (reverse longer) r x b in
              let e = longer-once x (length longer - 1 - p) (length longer - 1 - r) (of-reverse longer p x a) (of-reverse longer r x b) in
              omega (arith, e, inside, within, turned);
        },
        first.1 ∙ ap Some (sym first-is ∙ same),
      )

pub circle-back : (reads : List (List ℕ)) (start : ℕ) (met parents : List ℕ) (seen : List Bool) → IsSearch reads start met parents seen
    → (end at k : ℕ) (items pushed turned result : List ℕ) → IsWayBack reads met end at items → at ≤ 0 → slice_get met 0 ≡ Some k
    → IsEnd reads start met end
    → pushed ≡ items ++ k ∷ [] → turned ≡ reverse pushed → result ≡ turned → IsCircle reads result × (slice_get result 0 ≡ Some start)
circle-back reads start met parents seen is end at k items pushed turned result back low here ends a b c =
    let zero-th : at ≡ 0 = omega (arith, low) in
    let there : slice_get met at ≡ Some k = subst (λ (i : ℕ). slice_get met i ≡ Some k) (sym zero-th) here in
    rw (c, b, a) (circle-of reads start met parents seen is end at items back k there zero-th ends)

pub read-at : (reads : List (List ℕ)) (k i : ℕ) (items reads-of : List ℕ) → slice_get reads k ≡ Some reads-of → items ≡ reads-of
    → i < length items
    → ReadsItem reads k (slice_index_or items i 0)
read-at reads k i items reads-of is same inside =
    let here : slice_index_or reads k [] ≡ items = get_or_from_slice_get reads k reads-of [] is ∙ sym same in
    subst (λ (l : List ℕ). Contains l (slice_index_or items i 0)) (sym here)
    (contained items i (slice_index_or items i 0) (slice_get-get_or items i 0 inside))

abbrev nat_of : Bool → ℕ
nat_of b = cond b 0 1

-- one more read is met
module _ (reads : List (List ℕ)) (start reader at : ℕ) (items : List ℕ) (done : ℕ) (old mid new : Search)
    (before : AreFollowed reads start items done old mid)
    (there : slice_get old.met at ≡ Some reader) (q : ℕ) (inside : done < length items) (q-is : q ≡ slice_index_or items done 0)
    (reads-it : ReadsItem reads reader q) (within : q < length reads) (other : q ≡ start → ⊥) where
  met-by : Searches reads start new → ((k p : ℕ) → slice_get mid.met p ≡ Some k → slice_get new.met p ≡ Some k)
      → length new.met + unseen new.seen ≡ length mid.met + unseen mid.seen → (r : ℕ) → slice_get new.met r ≡ Some q
      → AreFollowed reads start items (done + 1) old new
  met-by search kept left r here = record {
    search = search;
    kept = λ k p h. kept k p (before.kept k p h);
    left = left ∙ before.left;
    met = λ x j less is. elim (cases_eq j done) [
      | inl e ↦
          let same : q ≡ x = q-is ∙ get_or_from_slice_get items done x 0 (subst (λ (i : ℕ). slice_get items i ≡ Some x) e is) in
          (λ wrong. other (same ∙ wrong), (r, here ∙ ap Some same))
      | inr apart ↦ let m = before.met x j (omega (arith, less, apart)) is in (m.0, (m.1.0, kept x m.1.0 m.1.1))
    ];
  }

  pub followed-more : IsMet q at mid new → AreFollowed reads start items (done + 1) old new
  followed-more (inl (seen, a, b, c)) =
      let m = before.search.seen_met q seen in
      met-by (rw (a, b, c) before.search) (λ k p h. rw a h) (rw (a, c) refl) m.0 (rw a m.1)
  followed-more (inr (unmet, a, b, c)) =
      let now = one-more-met reads start mid.met mid.parents mid.seen before.search reader q at reads-it (before.kept reader at there)
      within unmet in
      let sums = sum_by-set nat_of mid.seen q true false (slice_get_within mid.seen q false unmet) in
      let was : nat_of (slice_index_or mid.seen q false) ≡ nat_of false = ap nat_of (get_or_from_slice_get mid.seen q false false unmet) in
      let long = length-append mid.met (q ∷ []) in
      met-by (rw (a, b, c) now) (λ k p h. rw a (on-left mid.met (q ∷ []) p k h)) (rw (a, c) (omega (arith, sums, was, long)))
      (length mid.met) (rw a (at-end mid.met q))

-- all reads of the item at this place were met
pub all-followed : (reads : List (List ℕ)) (start reader at : ℕ) (items reads-of : List ℕ) (done : ℕ) (old new : Search)
    → AreFollowed reads start items done old new
    → slice_get old.met at ≡ Some reader → slice_get reads reader ≡ Some reads-of → items ≡ reads-of → length items ≤ done
    → AreRead reads start old.met at → AreRead reads start new.met (at + 1)
all-followed reads start reader at items reads-of done old new now there is same all before k q p less here r =
    let inside = slice_get_within old.met at reader there in
    let j = some-at old.met p (omega (arith, less, inside)) in
    let who : j.0 ≡ k = one-at new.met p j.0 k (now.kept j.0 p j.1) here in
    elim (cases_eq p at) [
      | inl e ↦
          let reader-is : reader ≡ k = one-at old.met at reader j.0 there (subst (λ (i : ℕ). slice_get old.met i ≡ Some j.0) e j.1) ∙ who in
          let list-is : slice_index_or reads k [] ≡ items = ap (λ (i : ℕ). slice_index_or reads i []) (sym reader-is)
          ∙ get_or_from_slice_get reads reader reads-of [] is ∙ sym same in
          let s = place-of items q (subst (λ (l : List ℕ). Contains l q) list-is r) in
          let within = slice_get_within items s.0 q s.1 in
          now.met q s.0 (omega (arith, within, all)) s.1
      | inr apart ↦
          let m = before k q p (omega (arith, less, apart)) (j.1 ∙ ap Some who) r in
          (m.0, (m.1.0, now.kept q m.1.0 m.1.1))
    ]

pub stays-inside : (reads : List (List ℕ)) (start : ℕ) (items : List ℕ) (done at : ℕ) (old new : Search)
    → AreFollowed reads start items done old new
    → at < length old.met → at < length new.met
stays-inside reads start items done at old new now inside = let k = some-at old.met at inside in
    slice_get_within new.met at k.0 (now.kept k.0 at k.1)
