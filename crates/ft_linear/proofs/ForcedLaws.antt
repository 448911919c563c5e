-- What a point says of the values and the forced literals of a formula.
use Rattle.std.proofs.Common.{◌≡◌, ◌∙◌, inl, inr, sym, ap, refl, ℕ, suc, ◌+◌, Bool, true, false, not, cond, List, [], ◌∷◌, ◌&&◌, map, arith}
use Rattle.std.specs.Prelude.{nat_eq, count_by}
use Rattle.std.specs.List.{list_all, list_any}
use Rattle.std.proofs.lemmas.Bool.{cases_Bool, and_parts, eqb-true}
use Rattle.std.proofs.lemmas.List.Folds.{list_all-map}
use Rattle.std.proofs.lemmas.List.Sums.{sum_by-cons}
use Rattle.ft_linear.specs.declared.node.Node.{Node}
use Rattle.ft_linear.specs.declared.node.Node.TheVariants.{And, Or}
use Rattle.ft_base.specs.declared.three.Three.{Three}
use Rattle.ft_base.specs.declared.three.Three.TheVariants.{No, Maybe, Yes}
use Rattle.ft_linear.specs.meaning.Truth.{truth}
use Rattle.ft_linear.specs.meaning.Forced.{NodeView, node_view, value_of, forces, and_forces, or_forces, by_each, by_only, same_bool}
use Rattle.ft_base.specs.Three.{three_all, three_any, three_not, can_be, is_no, is_yes}
use Rattle.ft_linear.specs.laws.Nodes.{With, bare, Inductive, node_induction, list_any-map, map-map, truth-At, truth-Not, truth-And}
use Rattle.ft_linear.specs.laws.Nodes.{truth-Or, value-At, value-Not, value-And, value-Or, forces-At, forces-Not, forces-And, forces-Or}

-- a value that is open says nothing
abbrev pub Agrees : Three → Bool → Type 0
Agrees No b = b ≡ false
Agrees Maybe b = Unit {0}
Agrees Yes b = b ≡ true

-- each atom is as its value says
abbrev pub SoundAtoms : (ℕ → Three) → (ℕ → Bool) → Type 0
SoundAtoms atoms at = (a : ℕ) → Agrees (atoms a) (at a)

not-agrees : (v : Three) (b : Bool) → Agrees v b → Agrees (three_not v) (not b)
not-agrees No b e = ap not e
not-agrees Maybe b e = tt
not-agrees Yes b e = ap not e

pub no-false : (v : Three) (b : Bool) → Agrees v b → is_no v ≡ true → b ≡ false
no-false No b h e = h
no-false Maybe b h e = cc e
no-false Yes b h e = cc e

pub yes-true : (v : Three) (b : Bool) → Agrees v b → is_yes v ≡ true → b ≡ true
yes-true No b h e = cc e
yes-true Maybe b h e = cc e
yes-true Yes b h e = h

-- what is so can be so
so-can : (v : Three) (b want : Bool) → Agrees v b → b ≡ want → can_be want v ≡ true
so-can No b true h e = cc (sym h ∙ e)
so-can No b false h e = refl
so-can Maybe b true h e = refl
so-can Maybe b false h e = refl
so-can Yes b true h e = refl
so-can Yes b false h e = cc (sym h ∙ e)

-- the answer of a test by two tests
two-tests : (p q b : Bool) → (p ≡ true → b ≡ false) → (q ≡ true → b ≡ true) → Agrees (cond p No (cond q Yes Maybe)) b
two-tests true q b h k = h refl
two-tests false true b h k = k refl
two-tests false false b h k = tt

two-tests' : (p q b : Bool) → (p ≡ true → b ≡ true) → (q ≡ true → b ≡ false) → Agrees (cond p Yes (cond q No Maybe)) b
two-tests' true q b h k = h refl
two-tests' false true b h k = k refl
two-tests' false false b h k = tt

module _ {E : Type 0} (v : E → Three) (b : E → Bool) (h : (e : E) → Agrees (v e) (b e)) where
  any-no : (es : List E) → list_any is_no (map v es) ≡ true → list_all b es ≡ false
  any-no [] e = cc e
  any-no (x ∷ es) e = elim (cases_Bool (is_no (v x))) [
    | inl here ↦ rw (no-false (v x) (b x) (h x) here) refl
    | inr elsewhere ↦ elim (cases_Bool (b x)) [
      | inl so ↦ rw so (any-no es (rw elsewhere at e))
      | inr isnt ↦ rw isnt refl
    ]
  ]

  all-yes : (es : List E) → list_all is_yes (map v es) ≡ true → list_all b es ≡ true
  all-yes [] e = refl
  all-yes (x ∷ es) e = elim (cases_Bool (is_yes (v x))) [
    | inl here ↦ rw (yes-true (v x) (b x) (h x) here) (all-yes es (rw here at e))
    | inr isnt ↦ cc (rw isnt at e)
  ]

  any-yes : (es : List E) → list_any is_yes (map v es) ≡ true → list_any b es ≡ true
  any-yes [] e = cc e
  any-yes (x ∷ es) e = elim (cases_Bool (is_yes (v x))) [
    | inl here ↦ rw (yes-true (v x) (b x) (h x) here) refl
    | inr elsewhere ↦ elim (cases_Bool (b x)) [
      | inl so ↦ rw so refl
      | inr isnt ↦ rw isnt (any-yes es (rw elsewhere at e))
    ]
  ]

  all-no : (es : List E) → list_all is_no (map v es) ≡ true → list_any b es ≡ false
  all-no [] e = refl
  all-no (x ∷ es) e = elim (cases_Bool (is_no (v x))) [
    | inl here ↦ rw (no-false (v x) (b x) (h x) here) (all-no es (rw here at e))
    | inr isnt ↦ cc (rw isnt at e)
  ]

  all-agrees : (es : List E) → Agrees (three_all (map v es)) (list_all b es)
  all-agrees es = two-tests _ _ _ (any-no es) (all-yes es)

  any-agrees : (es : List E) → Agrees (three_any (map v es)) (list_any b es)
  any-agrees es = two-tests' _ _ _ (any-yes es) (all-no es)

pub count-cons : {E : Type 0} (p : E → Bool) (x : E) (xs : List E) → count_by p (x ∷ xs) ≡ cond (p x) 1 0 + count_by p xs
count-cons p x xs = sum_by-cons (λ y. cond (p y) 1 0) x xs

pub count-yes : {E : Type 0} (p : E → Bool) (x : E) (xs : List E) → p x ≡ true → count_by p (x ∷ xs) ≡ suc (count_by p xs)
count-yes p x xs e = let c = count-cons p x xs in let one : ◌≡◌ {A = ℕ} (cond (p x) 1 0) 1 = rw e refl in omega (arith, c, one)

pub count-no : {E : Type 0} (p : E → Bool) (x : E) (xs : List E) → p x ≡ false → count_by p (x ∷ xs) ≡ count_by p xs
count-no p x xs e = let c = count-cons p x xs in let none : ◌≡◌ {A = ℕ} (cond (p x) 1 0) 0 = rw e refl in omega (arith, c, none)

pub count-map : {E F : Type 0} (p : F → Bool) (h : E → F) (xs : List E) → count_by p (map h xs) ≡ count_by (λ x. p (h x)) xs
count-map p h [] = refl
count-map p h (x ∷ xs) = count-cons p (h x) (map h xs) ∙ ap (λ n. cond (p (h x)) 1 0 + n) (count-map p h xs)
    ∙ sym (count-cons (λ y. p (h y)) x xs)

-- the only one that can be so is so
one-is : {E : Type 0} (can is f : E → Bool) → ((e : E) → is e ≡ true → can e ≡ true) → (es : List E)
    → count_by can es ≡ 0 → list_any is es ≡ true → ⊥
one-is can is f h [] n e = cc e
one-is can is f h (x ∷ es) n e = elim (cases_Bool (can x)) [
  | inl able ↦ absurd (omega (arith, n, count-yes can x es able))
  | inr unable ↦ elim (cases_Bool (is x)) [
    | inl so ↦ cc (sym (h x so) ∙ unable)
    | inr isnt ↦ one-is can is f h es (sym (count-no can x es unable) ∙ n) (rw isnt at e)
  ]
]

none-can : {E : Type 0} (can f : E → Bool) (es : List E) → count_by can es ≡ 0 → list_any (λ e. can e && f e) es ≡ true → ⊥
none-can can f [] n e = cc e
none-can can f (x ∷ es) n e = elim (cases_Bool (can x)) [
  | inl able ↦ absurd (omega (arith, n, count-yes can x es able))
  | inr unable ↦ none-can can f es (sym (count-no can x es unable) ∙ n) (rw unable at e)
]

only-one : {E : Type 0} (can is f : E → Bool) → ((e : E) → is e ≡ true → can e ≡ true) → (es : List E)
    → count_by can es ≡ 1 → list_any is es ≡ true → list_any (λ e. can e && f e) es ≡ true → (e : E) × (is e ≡ true) × (f e ≡ true)
only-one can is f h [] n e g = cc e
only-one can is f h (x ∷ es) n e g = elim (cases_Bool (can x)) [
  | inl able ↦
      let none : count_by can es ≡ 0 = omega (arith, n, count-yes can x es able) in
      elim (cases_Bool (is x)) [
        | inl so ↦ elim (cases_Bool (f x)) [
          | inl good ↦ (x, so, good)
          | inr bad ↦ absurd (none-can can f es none (rw (able, bad) at g))
        ]
        | inr isnt ↦ absurd (one-is can is f h es none (rw isnt at e))
      ]
  | inr unable ↦ elim (cases_Bool (is x)) [
    | inl so ↦ cc (sym (h x so) ∙ unable)
    | inr isnt ↦ only-one can is f h es (sym (count-no can x es unable) ∙ n) (rw isnt at e) (rw unable at g)
  ]
]

-- each is so, and one of them is chosen
each-one : {E : Type 0} (is f : E → Bool) (es : List E) → list_all is es ≡ true → list_any f es ≡ true → (e : E) × (is e ≡ true)
    × (f e ≡ true)
each-one is f [] a g = cc g
each-one is f (x ∷ es) a g = elim (cases_Bool (is x)) [
  | inl so ↦ elim (cases_Bool (f x)) [
    | inl good ↦ (x, so, good)
    | inr bad ↦ each-one is f es (rw so at a) (rw bad at g)
  ]
  | inr isnt ↦ cc (rw isnt at a)
]

not-any : {E : Type 0} (is : E → Bool) (es : List E) → list_any is es ≡ false → list_all (λ e. not (is e)) es ≡ true
not-any is [] e = refl
not-any is (x ∷ es) e = elim (cases_Bool (is x)) [
  | inl so ↦ cc (rw so at e)
  | inr isnt ↦ rw isnt (not-any is es (rw isnt at e))
]

not-all : {E : Type 0} (is : E → Bool) (es : List E) → list_all is es ≡ false → list_any (λ e. not (is e)) es ≡ true
not-all is [] e = cc e
not-all is (x ∷ es) e = elim (cases_Bool (is x)) [
  | inl so ↦ rw so (not-all is es (rw so at e))
  | inr isnt ↦ rw isnt refl
]

not-so : (b : Bool) → not b ≡ true → b ≡ false
not-so true e = cc e
not-so false e = refl

pub same-bools : (a b : Bool) → same_bool a b ≡ true → a ≡ b
same-bools true b e = sym e
same-bools false b e = sym (not-so b e)

module _ (atoms : ℕ → Three) (at : ℕ → Bool) (sound : SoundAtoms atoms at) where
  valued : Inductive (λ node. Agrees (value_of atoms node) (truth at node))
  valued = record {
    at = λ atom. rw (value-At atoms atom, truth-At at atom) (sound atom);
    negated = λ inner h. rw (value-Not atoms inner, truth-Not at inner) (not-agrees (value_of atoms inner) (truth at inner) h);
    all = λ parts. rw (
      value-And atoms (bare parts),
      truth-And at (bare parts),
      map-map (value_of atoms) (λ e. e.0) parts,
      list_all-map (truth at) (λ e. e.0) parts,
    )
        (all-agrees (λ e. value_of atoms e.0) (λ e. truth at e.0) (λ e. e.1) parts);
    any = λ parts. rw (
      value-Or atoms (bare parts),
      truth-Or at (bare parts),
      map-map (value_of atoms) (λ e. e.0) parts,
      list_any-map (truth at) (λ e. e.0) parts,
    )
        (any-agrees (λ e. value_of atoms e.0) (λ e. truth at e.0) (λ e. e.1) parts);
  }

pub value_agrees : (atoms : ℕ → Three) (at : ℕ → Bool) (node : Node) → SoundAtoms atoms at → Agrees (value_of atoms node) (truth at node)
value_agrees atoms at node sound = node_induction (λ node. Agrees (value_of atoms node) (truth at node)) (valued atoms at sound) node

module _ (atoms : ℕ → Three) (at : ℕ → Bool) (sound : SoundAtoms atoms at) where
  -- a node that is as wanted has its forced literals so
  abbrev Forced : Node → Type 0
  Forced node = (want : Bool) (atom : ℕ) (sign : Bool) → truth at node ≡ want → forces atoms node want atom sign ≡ true → at atom ≡ sign

  at-leaf : (a atom : ℕ) (want sign : Bool) → at a ≡ want → (nat_eq atom a && same_bool want sign) ≡ true → at atom ≡ sign
  at-leaf a atom want sign is e =
      let (same, signs) = and_parts (nat_eq atom a) (same_bool want sign) e in
      ap at (eqb-true atom a same) ∙ is ∙ same-bools want sign signs

  other-way : (b want : Bool) → not b ≡ want → b ≡ not want
  other-way true true e = cc e
  other-way true false e = refl
  other-way false true e = refl
  other-way false false e = cc e

  guarded : (g b : Bool) → cond g b false ≡ true → (g ≡ true) × (b ≡ true)
  guarded true b e = (refl, e)
  guarded false b e = cc e

  module _ (parts : List (With Forced)) (atom : ℕ) (sign : Bool) where
    abbrev views : With Forced → NodeView
    views e = node_view atoms e.0

    same-parts : map (node_view atoms) (bare parts) ≡ map views parts
    same-parts = map-map (node_view atoms) (λ e. e.0) parts

    each-part : (want : Bool) → list_all (λ (e : With Forced). same_bool want (truth at e.0)) parts ≡ true
        → by_each (map (node_view atoms) (bare parts)) want atom sign ≡ true → at atom ≡ sign
    each-part want so e =
        let picked : list_any (λ (x : With Forced). (views x).1 want atom sign) parts ≡ true =
        sym (list_any-map (λ (s : NodeView). s.1 want atom sign) views parts)
        ∙ ap (λ (ss : List NodeView). list_any (λ (s : NodeView). s.1 want atom sign) ss) (sym same-parts) ∙ e in
        let (x, is, f) = each-one (λ (x : With Forced). same_bool want (truth at x.0)) (λ (x : With Forced). (views x).1 want atom sign)
        parts so picked in
        x.1 want atom sign (sym (same-bools want (truth at x.0) is)) f

    only-part : (want : Bool) → list_any (λ (e : With Forced). same_bool want (truth at e.0)) parts ≡ true
        → by_only (map (node_view atoms) (bare parts)) want atom sign ≡ true → at atom ≡ sign
    only-part want so e =
        let (g, f) = guarded _ _ (ap (λ (ss : List NodeView). by_only ss want atom sign) (sym same-parts) ∙ e) in
        let one : count_by (λ (x : With Forced). can_be want (views x).0) parts ≡ 1 =
        sym (count-map (λ (s : NodeView). can_be want s.0) views parts) ∙ eqb-true _ 1 g in
        let picked : list_any (λ (x : With Forced). can_be want (views x).0 && (views x).1 want atom sign) parts ≡ true =
        sym (list_any-map (λ (s : NodeView). can_be want s.0 && s.1 want atom sign) views parts) ∙ f in
        let (x, is, f) = only-one (λ (x : With Forced). can_be want (views x).0) (λ (x : With Forced). same_bool want (truth at x.0))
        (λ (x : With Forced). (views x).1 want atom sign)
        (λ x same. so-can (views x).0 (truth at x.0) want (value_agrees atoms at x.0 sound) (sym (same-bools want (truth at x.0) same)))
        parts one so picked in
        x.1 want atom sign (sym (same-bools want (truth at x.0) is)) f

  all-parts : (parts : List (With Forced)) (want : Bool) (atom : ℕ) (sign : Bool) → truth at (And (bare parts)) ≡ want
      → and_forces (map (node_view atoms) (bare parts)) want atom sign ≡ true → at atom ≡ sign
  all-parts parts true atom sign is e =
      each-part parts atom sign true (sym (list_all-map (truth at) (λ (x : With Forced). x.0) parts) ∙ sym (truth-And at (bare parts)) ∙ is)
      e
  all-parts parts false atom sign is e =
      only-part parts atom sign false (not-all (λ (x : With Forced). truth at x.0) parts
      (sym (list_all-map (truth at) (λ (x : With Forced). x.0) parts) ∙ sym (truth-And at (bare parts)) ∙ is)) e

  any-parts : (parts : List (With Forced)) (want : Bool) (atom : ℕ) (sign : Bool) → truth at (Or (bare parts)) ≡ want
      → or_forces (map (node_view atoms) (bare parts)) want atom sign ≡ true → at atom ≡ sign
  any-parts parts true atom sign is e =
      only-part parts atom sign true (sym (list_any-map (truth at) (λ (x : With Forced). x.0) parts) ∙ sym (truth-Or at (bare parts)) ∙ is)
      e
  any-parts parts false atom sign is e =
      each-part parts atom sign false (not-any (λ (x : With Forced). truth at x.0) parts
      (sym (list_any-map (truth at) (λ (x : With Forced). x.0) parts) ∙ sym (truth-Or at (bare parts)) ∙ is)) e

  forced-all : Inductive Forced
  forced-all = record {
    at = λ a want atom sign is e. at-leaf a atom want sign (sym (truth-At at a) ∙ is) (sym (forces-At atoms want atom sign a) ∙ e);
    negated = λ inner h want atom sign is e. h (not want) atom sign (other-way (truth at inner) want (sym (truth-Not at inner) ∙ is))
        (sym (forces-Not atoms want atom sign inner) ∙ e);
    all = λ parts want atom sign is e. all-parts parts want atom sign is (sym (forces-And atoms want atom sign (bare parts)) ∙ e);
    any = λ parts want atom sign is e. any-parts parts want atom sign is (sym (forces-Or atoms want atom sign (bare parts)) ∙ e);
  }

pub forced_so : (atoms : ℕ → Three) (at : ℕ → Bool) (node : Node) (want : Bool) (atom : ℕ) (sign : Bool) → SoundAtoms atoms at
    → truth at node ≡ want → forces atoms node want atom sign ≡ true → at atom ≡ sign
forced_so atoms at node want atom sign sound = node_induction (Forced atoms at sound) (forced-all atoms at sound) node want atom sign
