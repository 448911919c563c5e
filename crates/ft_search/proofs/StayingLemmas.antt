-- What is known of a part stays known of a narrower one: the values of nodes, and what a node forces that can still be as wanted.
use Rattle.std.proofs.Common.{◌≡◌, ◌∙◌, inl, inr, sym, ap, refl, ℕ, suc, ◌+◌, Bool, true, false, not, cond, List, [], ◌∷◌, ◌&&◌, map, arith}
use Rattle.std.specs.Prelude.{nat_eq, count_by}
use Rattle.std.specs.List.{list_all, list_any}
use Rattle.std.proofs.lemmas.Bool.{cases_Bool, eqb-true}
use Rattle.std.proofs.lemmas.List.Sums.{sum_by-cons}
use Rattle.ft_base.specs.declared.three.Three.{Three}
use Rattle.ft_base.specs.declared.three.Three.TheVariants.{No, Maybe, Yes}
use Rattle.ft_base.specs.Three.{can_be, is_no, is_yes, three_all, three_any, three_not}
use Rattle.ft_linear.specs.declared.node.Node.{Node}
use Rattle.ft_linear.specs.declared.node.Node.TheVariants.{And, Or}
use Rattle.ft_linear.specs.laws.Nodes.{Inductive, With, bare, forces-And, forces-At, forces-Not, forces-Or, list_any-map, map-map}
use Rattle.ft_linear.specs.laws.Nodes.{node_induction, value-And, value-At, value-Not, value-Or}
use Rattle.ft_linear.specs.meaning.Forced.{NodeView, and_forces, by_each, by_only, forces, or_forces, node_view, value_of}

-- a value stays, unless it was open
abbrev pub Stays : Three → Three → Type 0
Stays No w = w ≡ No
Stays Maybe w = Unit {0}
Stays Yes w = w ≡ Yes

stays-not : (v w : Three) → Stays v w → Stays (three_not v) (three_not w)
stays-not No w e = ap three_not e
stays-not Maybe w e = tt
stays-not Yes w e = ap three_not e

stays-no : (v w : Three) → Stays v w → is_no v ≡ true → is_no w ≡ true
stays-no No w h e = ap is_no h
stays-no Maybe w h e = cc e
stays-no Yes w h e = cc e

stays-yes : (v w : Three) → Stays v w → is_yes v ≡ true → is_yes w ≡ true
stays-yes No w h e = cc e
stays-yes Maybe w h e = cc e
stays-yes Yes w h e = ap is_yes h

-- what can be as wanted could be so before
could-be : (want : Bool) (v w : Three) → Stays v w → can_be want w ≡ true → can_be want v ≡ true
could-be true No w h e = cc (sym e ∙ ap (can_be true) h)
could-be true Maybe w h e = refl
could-be true Yes w h e = refl
could-be false No w h e = refl
could-be false Maybe w h e = refl
could-be false Yes w h e = cc (sym e ∙ ap (can_be false) h)

not-yes-no : (w : Three) → is_yes w ≡ true → is_no w ≡ false
not-yes-no No e = cc e
not-yes-no Maybe e = cc e
not-yes-no Yes e = refl

module _ {E : Type 0} (v w : E → Three) (h : (e : E) → Stays (v e) (w e)) where
  any-no : (es : List E) → list_any is_no (map v es) ≡ true → list_any is_no (map w es) ≡ true
  any-no [] e = e
  any-no (x ∷ es) e = elim (cases_Bool (is_no (v x))) [
    | inl here ↦ rw (stays-no (v x) (w x) (h x) here) refl
    | inr elsewhere ↦ elim (cases_Bool (is_no (w x))) [
      | inl so ↦ rw so refl
      | inr isnt ↦ rw isnt (any-no es (rw elsewhere at e))
    ]
  ]

  any-yes : (es : List E) → list_any is_yes (map v es) ≡ true → list_any is_yes (map w es) ≡ true
  any-yes [] e = e
  any-yes (x ∷ es) e = elim (cases_Bool (is_yes (v x))) [
    | inl here ↦ rw (stays-yes (v x) (w x) (h x) here) refl
    | inr elsewhere ↦ elim (cases_Bool (is_yes (w x))) [
      | inl so ↦ rw so refl
      | inr isnt ↦ rw isnt (any-yes es (rw elsewhere at e))
    ]
  ]

  all-yes : (es : List E) → list_all is_yes (map v es) ≡ true
      → (list_all is_yes (map w es) ≡ true) × (list_any is_no (map w es) ≡ false)
  all-yes [] e = (refl, refl)
  all-yes (x ∷ es) e = elim (cases_Bool (is_yes (v x))) [
    | inl here ↦
        let so = stays-yes (v x) (w x) (h x) here in
        let rest = all-yes es (rw here at e) in
        (rw so rest.0, rw (not-yes-no (w x) so) rest.1)
    | inr isnt ↦ cc (rw isnt at e)
  ]

  all-no : (es : List E) → list_all is_no (map v es) ≡ true
      → (list_all is_no (map w es) ≡ true) × (list_any is_yes (map w es) ≡ false)
  all-no [] e = (refl, refl)
  all-no (x ∷ es) e = elim (cases_Bool (is_no (v x))) [
    | inl here ↦
        let so = stays-no (v x) (w x) (h x) here in
        let rest = all-no es (rw here at e) in
        (rw so rest.0, rw (other (w x) so) rest.1)
    | inr isnt ↦ cc (rw isnt at e)
  ]
    where
      other : (z : Three) → is_no z ≡ true → is_yes z ≡ false
      other No e = refl
      other Maybe e = cc e
      other Yes e = cc e

  stays-all : (es : List E) → Stays (three_all (map v es)) (three_all (map w es))
  stays-all es = elim (cases_Bool (list_any is_no (map v es))) [
    | inl so ↦ rw (so, any-no es so) refl
    | inr isnt ↦ elim (cases_Bool (list_all is_yes (map v es))) [
      | inl all ↦ let more = all-yes es all in rw (isnt, all, more.1, more.0) refl
      | inr none ↦ rw (isnt, none) tt
    ]
  ]

  stays-any : (es : List E) → Stays (three_any (map v es)) (three_any (map w es))
  stays-any es = elim (cases_Bool (list_any is_yes (map v es))) [
    | inl so ↦ rw (so, any-yes es so) refl
    | inr isnt ↦ elim (cases_Bool (list_all is_no (map v es))) [
      | inl all ↦ let more = all-no es all in rw (isnt, all, more.1, more.0) refl
      | inr none ↦ rw (isnt, none) tt
    ]
  ]

module _ (a b : ℕ → Three) (h : (n : ℕ) → Stays (a n) (b n)) where
  stays-cases : Inductive (λ node. Stays (value_of a node) (value_of b node))
  stays-cases = record {
    at = λ atom. rw (value-At a atom, value-At b atom) (h atom);
    negated = λ inner e. rw (value-Not a inner, value-Not b inner) (stays-not (value_of a inner) (value_of b inner) e);
    all = λ parts. rw (
      value-And a (bare parts),
      value-And b (bare parts),
      map-map (value_of a) (λ e. e.0) parts,
      map-map (value_of b) (λ e. e.0) parts,
    )
        (stays-all (λ e. value_of a e.0) (λ e. value_of b e.0) (λ e. e.1) parts);
    any = λ parts. rw (
      value-Or a (bare parts),
      value-Or b (bare parts),
      map-map (value_of a) (λ e. e.0) parts,
      map-map (value_of b) (λ e. e.0) parts,
    )
        (stays-any (λ e. value_of a e.0) (λ e. value_of b e.0) (λ e. e.1) parts);
  }

  pub value-stays : (node : Node) → Stays (value_of a node) (value_of b node)
  value-stays node = node_induction (λ node. Stays (value_of a node) (value_of b node)) stays-cases node

count-cons : {E : Type 0} (p : E → Bool) (x : E) (xs : List E) → count_by p (x ∷ xs) ≡ cond (p x) 1 0 + count_by p xs
count-cons p x xs = sum_by-cons (λ y. cond (p y) 1 0) x xs

count-yes : {E : Type 0} (p : E → Bool) (x : E) (xs : List E) → p x ≡ true → count_by p (x ∷ xs) ≡ suc (count_by p xs)
count-yes p x xs e = let c = count-cons p x xs in let one : ◌≡◌ {A = ℕ} (cond (p x) 1 0) 1 = rw e refl in omega (arith, c, one)

count-no : {E : Type 0} (p : E → Bool) (x : E) (xs : List E) → p x ≡ false → count_by p (x ∷ xs) ≡ count_by p xs
count-no p x xs e = let c = count-cons p x xs in let none : ◌≡◌ {A = ℕ} (cond (p x) 1 0) 0 = rw e refl in omega (arith, c, none)

count-map : {E F : Type 0} (p : F → Bool) (h : E → F) (xs : List E) → count_by p (map h xs) ≡ count_by (λ x. p (h x)) xs
count-map p h [] = refl
count-map p h (x ∷ xs) = count-cons p (h x) (map h xs) ∙ ap (λ n. cond (p (h x)) 1 0 + n) (count-map p h xs)
    ∙ sym (count-cons (λ y. p (h y)) x xs)

-- each can be as wanted, and one of them forces
each-more : {E : Type 0} (can f g : E → Bool) → ((e : E) → can e ≡ true → f e ≡ true → g e ≡ true) → (es : List E)
    → list_all can es ≡ true → list_any f es ≡ true → list_any g es ≡ true
each-more can f g h [] a e = cc e
each-more can f g h (x ∷ es) a e = elim (cases_Bool (can x)) [
  | inl able ↦ elim (cases_Bool (g x)) [
    | inl so ↦ rw so refl
    | inr isnt ↦ elim (cases_Bool (f x)) [
      | inl was ↦ cc (sym (h x able was) ∙ isnt)
      | inr wasnt ↦ rw isnt (each-more can f g h es (rw able at a) (rw wasnt at e))
    ]
  ]
  | inr unable ↦ cc (rw unable at a)
]

none-any : {E : Type 0} (can now : E → Bool) → ((e : E) → now e ≡ true → can e ≡ true) → (es : List E) → count_by can es ≡ 0
    → (count_by now es ≡ 0) × (list_any now es ≡ false)
none-any can now h [] n = (refl, refl)
none-any can now h (x ∷ es) n = elim (cases_Bool (can x)) [
  | inl able ↦ absurd (omega (arith, n, count-yes can x es able))
  | inr unable ↦ elim (cases_Bool (now x)) [
    | inl so ↦ cc (sym (h x so) ∙ unable)
    | inr isnt ↦
        let rest = none-any can now h es (sym (count-no can x es unable) ∙ n) in
        (count-no now x es isnt ∙ rest.0, rw isnt rest.1)
  ]
]

none-chosen : {E : Type 0} (can f : E → Bool) (es : List E) → count_by can es ≡ 0 → list_any (λ e. can e && f e) es ≡ true → ⊥
none-chosen can f [] n e = cc e
none-chosen can f (x ∷ es) n e = elim (cases_Bool (can x)) [
  | inl able ↦ absurd (omega (arith, n, count-yes can x es able))
  | inr unable ↦ none-chosen can f es (sym (count-no can x es unable) ∙ n) (rw unable at e)
]

-- the only one that could be as wanted still can, and forces
only-more : {E : Type 0} (can now f g : E → Bool) → ((e : E) → now e ≡ true → can e ≡ true)
    → ((e : E) → now e ≡ true → f e ≡ true → g e ≡ true) → (es : List E) → count_by can es ≡ 1 → list_any now es ≡ true
    → list_any (λ e. can e && f e) es ≡ true → (count_by now es ≡ 1) × (list_any (λ e. now e && g e) es ≡ true)
only-more can now f g h k [] n s e = cc e
only-more can now f g h k (x ∷ es) n s e = elim (cases_Bool (can x)) [
  | inl able ↦
      let none : count_by can es ≡ 0 = omega (arith, n, count-yes can x es able) in
      let rest = none-any can now h es none in
      elim (cases_Bool (now x)) [
        | inl so ↦ elim (cases_Bool (f x)) [
          | inl was ↦ (count-yes now x es so ∙ ap suc rest.0, rw (so, k x so was) refl)
          | inr wasnt ↦ absurd (none-chosen can f es none (rw (able, wasnt) at e))
        ]
        | inr isnt ↦ cc (sym rest.1 ∙ (rw isnt at s))
      ]
  | inr unable ↦ elim (cases_Bool (now x)) [
    | inl so ↦ cc (sym (h x so) ∙ unable)
    | inr isnt ↦
        let more = only-more can now f g h k es (sym (count-no can x es unable) ∙ n) (rw isnt at s) (rw unable at e) in
        (count-no now x es isnt ∙ more.0, rw isnt more.1)
  ]
]

guarded : (g b : Bool) → cond g b false ≡ true → (g ≡ true) × (b ≡ true)
guarded true b e = (refl, e)
guarded false b e = cc e

guard : (n : ℕ) (b : Bool) → n ≡ 1 → b ≡ true → cond (nat_eq n 1) b false ≡ true
guard n b one so = ap (λ (m : ℕ). cond (nat_eq m 1) b false) one ∙ so

-- where all of them together can be true, each can; where they can be false, one can
all-can : (vs : List Three) → can_be true (three_all vs) ≡ true → list_all (can_be true) vs ≡ true
all-can vs e = by-test vs (not-any vs e)
  where
    not-any : (vs : List Three) → can_be true (three_all vs) ≡ true → list_any is_no vs ≡ false
    not-any vs e = elim (cases_Bool (list_any is_no vs)) [ inl so ↦ cc (rw so at e) | inr isnt ↦ isnt ]

    by-test : (vs : List Three) → list_any is_no vs ≡ false → list_all (can_be true) vs ≡ true
    by-test [] e = refl
    by-test (No ∷ vs) e = cc e
    by-test (Maybe ∷ vs) e = by-test vs e
    by-test (Yes ∷ vs) e = by-test vs e

some-can-fail : (vs : List Three) → can_be false (three_all vs) ≡ true → list_any (can_be false) vs ≡ true
some-can-fail [] e = cc e
some-can-fail (No ∷ vs) e = refl
some-can-fail (Maybe ∷ vs) e = refl
some-can-fail (Yes ∷ vs) e = some-can-fail vs e

all-can-fail : (vs : List Three) → can_be false (three_any vs) ≡ true → list_all (can_be false) vs ≡ true
all-can-fail vs e = by-test vs (not-any vs e)
  where
    not-any : (vs : List Three) → can_be false (three_any vs) ≡ true → list_any is_yes vs ≡ false
    not-any vs e = elim (cases_Bool (list_any is_yes vs)) [ inl so ↦ cc (rw so at e) | inr isnt ↦ isnt ]

    by-test : (vs : List Three) → list_any is_yes vs ≡ false → list_all (can_be false) vs ≡ true
    by-test [] e = refl
    by-test (No ∷ vs) e = by-test vs e
    by-test (Maybe ∷ vs) e = by-test vs e
    by-test (Yes ∷ vs) e = cc e

some-can : (vs : List Three) → can_be true (three_any vs) ≡ true → list_any (can_be true) vs ≡ true
some-can [] e = cc e
some-can (No ∷ vs) e = some-can vs e
some-can (Maybe ∷ vs) e = refl
some-can (Yes ∷ vs) e = refl

map-any : {X Y : Type 0} (p : Y → Bool) (g : X → Y) (xs : List X) → list_any p (map g xs) ≡ list_any (λ x. p (g x)) xs
map-any p g xs = list_any-map p g xs

map-all : {X Y : Type 0} (p : Y → Bool) (g : X → Y) (xs : List X) → list_all p (map g xs) ≡ list_all (λ x. p (g x)) xs
map-all p g [] = refl
map-all p g (x ∷ xs) = ap (λ (b : Bool). p (g x) && b) (map-all p g xs)

other-way : (want : Bool) (v : Three) → can_be want (three_not v) ≡ true → can_be (not want) v ≡ true
other-way true No e = refl
other-way true Maybe e = refl
other-way true Yes e = cc e
other-way false No e = cc e
other-way false Maybe e = refl
other-way false Yes e = refl

module _ (a b : ℕ → Three) (h : (n : ℕ) → Stays (a n) (b n)) where
  -- a node that can still be as wanted forces what it did
  abbrev Forces : Node → Type 0
  Forces node = (want : Bool) (atom : ℕ) (sign : Bool) → can_be want (value_of b node) ≡ true → forces a node want atom sign ≡ true
      → forces b node want atom sign ≡ true

  module _ (parts : List (With Forces)) (want : Bool) (atom : ℕ) (sign : Bool) where
    abbrev sees : (ℕ → Three) → With Forces → NodeView
    sees v e = node_view v e.0

    values : (v : ℕ → Three) → map (value_of v) (bare parts) ≡ map (λ (e : With Forces). value_of v e.0) parts
    values v = map-map (value_of v) (λ e. e.0) parts

    parts-seen : (v : ℕ → Three) → map (node_view v) (bare parts) ≡ map (sees v) parts
    parts-seen v = map-map (node_view v) (λ e. e.0) parts

    by-each : list_all (can_be want) (map (value_of b) (bare parts)) ≡ true → by_each (map (node_view a) (bare parts)) want atom sign ≡ true
        → by_each (map (node_view b) (bare parts)) want atom sign ≡ true
    by-each can e =
        let able : list_all (λ (x : With Forces). can_be want (value_of b x.0)) parts ≡ true =
        sym (map-all (can_be want) (λ (x : With Forces). value_of b x.0) parts) ∙ ap (list_all (can_be want)) (sym (values b)) ∙ can in
        let was : list_any (λ (x : With Forces). (sees a x).1 want atom sign) parts ≡ true =
        sym (map-any (λ (s : NodeView). s.1 want atom sign) (sees a) parts)
        ∙ ap (λ (ss : List NodeView). list_any (λ (s : NodeView). s.1 want atom sign) ss) (sym (parts-seen a)) ∙ e in
        ap (λ (ss : List NodeView). list_any (λ (s : NodeView). s.1 want atom sign) ss) (parts-seen b)
        ∙ map-any (λ (s : NodeView). s.1 want atom sign) (sees b) parts
        ∙ each-more (λ (x : With Forces). can_be want (value_of b x.0)) (λ (x : With Forces). (sees a x).1 want atom sign)
        (λ (x : With Forces). (sees b x).1 want atom sign) (λ x able was. x.1 want atom sign able was) parts able was

    by-one : list_any (can_be want) (map (value_of b) (bare parts)) ≡ true → by_only (map (node_view a) (bare parts)) want atom sign ≡ true
        → by_only (map (node_view b) (bare parts)) want atom sign ≡ true
    by-one can e =
        let able : list_any (λ (x : With Forces). can_be want (value_of b x.0)) parts ≡ true =
        sym (map-any (can_be want) (λ (x : With Forces). value_of b x.0) parts) ∙ ap (list_any (can_be want)) (sym (values b)) ∙ can in
        let (g, was) = guarded _ _ (ap (λ (ss : List NodeView). by_only ss want atom sign) (sym (parts-seen a)) ∙ e) in
        let one : count_by (λ (x : With Forces). can_be want (value_of a x.0)) parts ≡ 1 =
        sym (count-map (λ (s : NodeView). can_be want s.0) (sees a) parts) ∙ eqb-true _ 1 g in
        let picked : list_any (λ (x : With Forces). can_be want (value_of a x.0) && (sees a x).1 want atom sign) parts ≡ true =
        sym (map-any (λ (s : NodeView). can_be want s.0 && s.1 want atom sign) (sees a) parts) ∙ was in
        let more = only-more (λ (x : With Forces). can_be want (value_of a x.0)) (λ (x : With Forces). can_be want (value_of b x.0))
        (λ (x : With Forces). (sees a x).1 want atom sign) (λ (x : With Forces). (sees b x).1 want atom sign)
        (λ x now. could-be want (value_of a x.0) (value_of b x.0) (value-stays a b h x.0) now) (λ x now was. x.1 want atom sign now was)
        parts one able picked in
        ap (λ (ss : List NodeView). by_only ss want atom sign) (parts-seen b)
        ∙ guard (count_by (λ (s : NodeView). can_be want s.0) (map (sees b) parts))
        (list_any (λ (s : NodeView). can_be want s.0 && s.1 want atom sign) (map (sees b) parts))
        (count-map (λ (s : NodeView). can_be want s.0) (sees b) parts ∙ more.0)
        (map-any (λ (s : NodeView). can_be want s.0 && s.1 want atom sign) (sees b) parts ∙ more.1)

  all-parts : (parts : List (With Forces)) (want : Bool) (atom : ℕ) (sign : Bool) → can_be want (value_of b (And (bare parts))) ≡ true
      → and_forces (map (node_view a) (bare parts)) want atom sign ≡ true → and_forces (map (node_view b) (bare parts)) want atom sign ≡ true
  all-parts parts true atom sign can e =
      by-each parts true atom sign (all-can (map (value_of b) (bare parts)) (ap (can_be true) (sym (value-And b (bare parts))) ∙ can)) e
  all-parts parts false atom sign can e =
      by-one parts false atom sign (some-can-fail (map (value_of b) (bare parts)) (ap (can_be false) (sym (value-And b (bare parts))) ∙ can))
      e

  any-parts : (parts : List (With Forces)) (want : Bool) (atom : ℕ) (sign : Bool) → can_be want (value_of b (Or (bare parts))) ≡ true
      → or_forces (map (node_view a) (bare parts)) want atom sign ≡ true → or_forces (map (node_view b) (bare parts)) want atom sign ≡ true
  any-parts parts true atom sign can e =
      by-one parts true atom sign (some-can (map (value_of b) (bare parts)) (ap (can_be true) (sym (value-Or b (bare parts))) ∙ can)) e
  any-parts parts false atom sign can e =
      by-each parts false atom sign (all-can-fail (map (value_of b) (bare parts)) (ap (can_be false) (sym (value-Or b (bare parts))) ∙ can))
      e

  forces-cases : Inductive Forces
  forces-cases = record {
    at = λ n want atom sign can e. forces-At b want atom sign n ∙ sym (forces-At a want atom sign n) ∙ e;
    negated = λ inner ih want atom sign can e. forces-Not b want atom sign inner
        ∙ ih (not want) atom sign (other-way want (value_of b inner) (ap (can_be want) (sym (value-Not b inner)) ∙ can))
        (sym (forces-Not a want atom sign inner) ∙ e);
    all = λ parts want atom sign can e. forces-And b want atom sign (bare parts)
        ∙ all-parts parts want atom sign can (sym (forces-And a want atom sign (bare parts)) ∙ e);
    any = λ parts want atom sign can e. forces-Or b want atom sign (bare parts)
        ∙ any-parts parts want atom sign can (sym (forces-Or a want atom sign (bare parts)) ∙ e);
  }

  pub forces-stay : (node : Node) (want : Bool) (atom : ℕ) (sign : Bool) → can_be want (value_of b node) ≡ true
      → forces a node want atom sign ≡ true → forces b node want atom sign ≡ true
  forces-stay node = node_induction Forces forces-cases node
