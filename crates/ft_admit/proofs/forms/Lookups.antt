-- What a declared name stands for: the card that is found is its item's, and where names differ each card of an item is found.
use Rattle.std.proofs.Common.{◌≡◌, ◌∙◌, sym, ap, subst, refl, inl, inr, ℕ, zero, suc, ◌+◌, ◌<◌, Bool, true, List, [], ◌∷◌}
use Rattle.std.proofs.Common.{◌++◌, length, map, take, slice_get, Option, Some, option_map, bytes_eq, arith}
use Rattle.std.specs.Prelude.{find, ℤ}
use Rattle.std.specs.List.{Contains, enumerate_from, flat_map}
use Rattle.std.proofs.lemmas.List.{map-append}
use Rattle.std.proofs.lemmas.List.Elements.{Contains-append_cases, Contains-append_left, Contains-append_right}
use Rattle.std.proofs.lemmas.Option.{none-some, same_Some, slice_get-map}
use Rattle.std.proofs.lemmas.Slice.Eq.{bytes_eq-Decides}
use Rattle.ft_tree.specs.declared.item.Word.{Word}
use Rattle.ft_tree.specs.declared.item.Bound.{Bound}
use Rattle.ft_tree.specs.declared.item.Kind.{Kind}
use Rattle.ft_tree.specs.declared.item.VarWord.{VarWord}
use Rattle.ft_tree.specs.declared.item.SectionWord.{SectionWord}
use Rattle.ft_tree.specs.declared.item.FactItem.{FactItem}
use Rattle.ft_tree.specs.declared.item.FactItem.TheVariants.{Shows, Goal}
use Rattle.ft_tree.specs.declared.item.Item.{Item}
use Rattle.ft_tree.specs.declared.item.Item.TheVariants as item
use Rattle.ft_core.specs.checked.Distinct.{AreDistinct}
use Rattle.ft_core.specs.laws.Lists.{from_one, mapped}
use Rattle.ft_core.specs.laws.Places.{contained, place-of}
use Rattle.ft_names.specs.declared.card.Card.{Card}
use Rattle.ft_names.specs.declared.card.Card.TheVariants.{Constant, TypeName, Member, Variable, Memory, Block, Invariant}
use Rattle.ft_names.specs.declared.card.Values.{Values}
use Rattle.ft_names.specs.meaning.Cards.{cards_from, cards_of, count_before, declares_block, declares_memory, declares_variable, env_of}
use Rattle.ft_names.specs.meaning.Cards.{fact_cards, item_cards, kind_values, member_card}
use Rattle.ft_names.specs.meaning.Declared.{entries, fact_words, item_words, listing, names_in}
use Rattle.ft_names.specs.meaning.Duplicates.{texts}
use Rattle.ft_admit.proofs.forms.Lists.{before-once, find-place, find-some, first-or, mapped-some, nothing-in, only, same-self, times-is}

abbrev Carded : Type 0
Carded = List (List ℕ × Card)

abbrev names_of : Carded → List (List ℕ)
names_of list = map (λ entry. entry.0) list

-- each name has its card

member-names : (k n : ℕ) (members : List Word) → names_in (entries k members) ≡ names_of (map (member_card k) (enumerate_from n members))
member-names k n [] = refl
member-names k n (w ∷ words) = ap (λ (names : List (List ℕ)). w.text ∷ names) (member-names k (n + 1) words)

fact-names : (k block n : ℕ) (facts : List FactItem)
    → names_in (entries k (flat_map fact_words facts)) ≡ names_of (flat_map (fact_cards block) (enumerate_from n facts))
fact-names k block n [] = refl
fact-names k block n (Shows name cond ∷ facts) = ap (λ (names : List (List ℕ)). name.text ∷ names) (fact-names k block (n + 1) facts)
fact-names k block n (Goal con ∷ facts) = fact-names k block (n + 1) facts

item-names : (all : List Item) (k : ℕ) (it : Item) → names_in (entries k (item_words it)) ≡ names_of (item_cards all k it)
item-names all k (item.Constant name minus value) = refl
item-names all k (item.RangeType name lo hi) = refl
item-names all k (item.EnumType name members) = ap (λ (names : List (List ℕ)). name.text ∷ names) (member-names k 0 members)
item-names all k (item.Variable word name of init) = refl
item-names all k (item.Held side name cond hold) = refl
item-names all k (item.Hyst side name term lo hi start) = refl
item-names all k (item.Normal section target columns rows) = refl
item-names all k (item.Inverted section target headers rows) = refl
item-names all k (item.Vector section columns rows) = refl
item-names all k (item.Nat moment cond) = refl
item-names all k (item.Block name takes uses facts) = ap (λ (names : List (List ℕ)). name.text ∷ names) (fact-names k
    (count_before declares_block all k) 0 facts)

names-carded : (all : List Item) (k : ℕ) (items : List Item) → names_in (listing k items) ≡ names_of (cards_from all k items)
unfolding listing cards_from
names-carded all k [] = refl
names-carded all k (x ∷ xs) =
    map-append (λ (entry : List ℕ × ℕ). entry.0) (entries k (item_words x)) (listing (suc k) xs)
    ∙ ap (λ names. names ++ names_in (listing (suc k) xs)) (item-names all k x)
    ∙ ap (λ names. names_of (item_cards all k x) ++ names) (names-carded all (suc k) xs)
    ∙ sym (map-append (λ (entry : List ℕ × Card). entry.0) (item_cards all k x) (cards_from all (suc k) xs))

-- a card is that of one item

in-cards : (all : List Item) (start : ℕ) (xs : List Item) (e : List ℕ × Card) → Contains (cards_from all start xs) e
    → (k : ℕ) × (it : Item) × (slice_get xs k ≡ Some it) × Contains (item_cards all (start + k) it) e
unfolding cards_from
in-cards all start [] e has = absurd (nothing-in e has)
in-cards all start (x ∷ xs) e has = elim (Contains-append_cases (item_cards all start x) (cards_from all (suc start) xs) e has) [
  | inl here ↦
      let same : start ≡ start + 0 = omega arith in
      (0, x, refl, subst (λ n. Contains (item_cards all n x) e) same here)
  | inr later ↦
      let rest = in-cards all (suc start) xs e later in
      let same : suc start + rest.0 ≡ start + suc rest.0 = omega arith in
      (suc rest.0, rest.1, rest.2, subst (λ n. Contains (item_cards all n rest.1) e) same rest.3)
]

to-cards : (all : List Item) (start : ℕ) (xs : List Item) (k : ℕ) (it : Item) (e : List ℕ × Card) → slice_get xs k ≡ Some it
    → Contains (item_cards all (start + k) it) e → Contains (cards_from all start xs) e
unfolding cards_from
to-cards all start [] k it e at has = absurd (none-some it at)
to-cards all start (x ∷ xs) zero it e at has =
    let same : start + 0 ≡ start = omega arith in
    Contains-append_left (item_cards all start x) (cards_from all (suc start) xs) e
    (subst (λ (y : Item). Contains (item_cards all start y) e) (sym (same_Some x it at))
    (subst (λ n. Contains (item_cards all n it) e) same has))
to-cards all start (x ∷ xs) (suc k) it e at has =
    let same : start + suc k ≡ suc start + k = omega arith in
    Contains-append_right (item_cards all start x) (cards_from all (suc start) xs) e
    (to-cards all (suc start) xs k it e at (subst (λ n. Contains (item_cards all n it) e) same has))

paired : (e : List ℕ × Card) (name : List ℕ) (card : Card) → name ≡ e.0 → e.1 ≡ card → e ≡ (name, card)
paired e name card a b = λ i. (sym a i, b i)

-- the card that is found for a name is one of an item's
pub found : (items : List Item) (name : List ℕ) (card : Card) → env_of items name ≡ Some card
    → (k : ℕ) × (it : Item) × (slice_get items k ≡ Some it) × Contains (item_cards items k it) (name, card)
found items name card is =
    let entry = mapped-some (λ (e : List ℕ × Card). e.1) (find (λ (e : List ℕ × Card). bytes_eq name e.0) (cards_of items)) card is in
    let at = find-place (λ (e : List ℕ × Card). bytes_eq name e.0) (cards_of items) entry.0 entry.1 in
    let has = in-cards items 0 items entry.0 (contained (cards_of items) at.0 entry.0 at.1) in
    let start : 0 + has.0 ≡ has.0 = omega arith in (
      has.0,
      has.1,
      has.2,
      subst (λ e. Contains (item_cards items has.0 has.1) e)
          (paired entry.0 name card ((bytes_eq-Decides name entry.0.0).0 at.2) entry.2)
          (subst (λ n. Contains (item_cards items n has.1) entry.0) start has.3),
    )

-- where no two declarations have the same name, each card of an item is found
pub carded : (items : List Item) → AreDistinct (names_in (listing 0 items)) → (k : ℕ) (it : Item) (name : List ℕ) (card : Card)
    → slice_get items k ≡ Some it → Contains (item_cards items k it) (name, card) → env_of items name ≡ Some card
carded items differ k it name card at has =
    let start : k ≡ 0 + k = omega arith in
    let mine = place-of (cards_of items) (name, card)
    (to-cards items 0 items k it (name, card) at (subst (λ n. Contains (item_cards items n it) (name, card)) start has)) in
    let first = find-some (λ (e : List ℕ × Card). bytes_eq name e.0) (cards_of items) mine.0 (name, card) mine.1
    (same-self name) in
    let there = find-place (λ (e : List ℕ × Card). bytes_eq name e.0) (cards_of items) first.0 first.1 in
    let called = (bytes_eq-Decides name first.0.0).0 there.2 in
    let a = slice_get-map (λ (e : List ℕ × Card). e.0) (cards_of items) mine.0
    ∙ ap (option_map (λ (e : List ℕ × Card). e.0)) mine.1 in
    let b = slice_get-map (λ (e : List ℕ × Card). e.0) (cards_of items) there.0
    ∙ ap (option_map (λ (e : List ℕ × Card). e.0)) there.1 ∙ ap (λ (n : List ℕ). Some n) (sym called) in
    let one = subst AreDistinct (names-carded items 0 items) differ mine.0 there.0 name a b in
    let same = same_Some (name, card) first.0 (sym mine.1 ∙ ap (slice_get (cards_of items)) one ∙ there.1) in
    ap (option_map (λ (e : List ℕ × Card). e.1)) first.1 ∙ ap (λ (e : List ℕ × Card). Some e.1) (sym same)

-- what a card says of the item that declares its name

pub record IsVariable (items : List Item) (name : List ℕ) (place : ℕ) (kind : VarWord) (values : Values) (k : ℕ) (it : Item) : Type 0
  where
    pub word : Word
    pub of : Kind
    pub init : Bound
    pub is : it ≡ item.Variable kind word of init
    pub named : word.text ≡ name
    pub placed : place ≡ count_before declares_variable items k
    pub valued : values ≡ kind_values items of

pub record IsMemory (items : List Item) (name : List ℕ) (place k : ℕ) (it : Item) : Type 0 where
  pub is : declares_memory it ≡ true
  pub named : texts (item_words it) ≡ name ∷ []
  pub placed : place ≡ count_before declares_memory items k

pub record IsMember (number position k : ℕ) (it : Item) : Type 0 where
  pub word : Word
  pub members : List Word
  pub is : it ≡ item.EnumType word members
  pub numbered : number ≡ k
  pub within : position < length members

abbrev Says : List Item → ℕ → Item → List ℕ → Card → Type 0
Says items k it name (Variable place kind values) = IsVariable items name place kind values k it
Says items k it name (Memory place side hold) = IsMemory items name place k it
Says items k it name (Member number position) = IsMember number position k it
Says items k it name (Constant value) = Unit {0}
Says items k it name (TypeName values) = Unit {0}
Says items k it name (Block place) = Unit {0}
Says items k it name (Invariant block fact) = Unit {0}

numbered-below : (n : ℕ) (words : List Word) (p : ℕ) (e : ℕ × Word) → slice_get (enumerate_from n words) p ≡ Some e
    → e.0 < n + length words
numbered-below n [] p e at = absurd (none-some e at)
numbered-below n (w ∷ words) zero e at =
    let same : n ≡ e.0 = ap (λ (x : ℕ × Word). x.0) (same_Some (n, w) e at) in
    omega arith
numbered-below n (w ∷ words) (suc p) e at = let rest = numbered-below (n + 1) words p e at in omega arith

fact-says : (items : List Item) (k : ℕ) (it : Item) (name : List ℕ) (card : Card) (block : ℕ) (e : ℕ × FactItem)
    → Contains (fact_cards block e) (name, card) → Says items k it name card
fact-says items k it name card block (position, Shows word cond) has =
    subst (λ (e : List ℕ × Card). Says items k it e.0 e.1) (only (word.text, Invariant block position) (name, card) has) tt
fact-says items k it name card block (position, Goal con) has = absurd (nothing-in (name, card) has)

says : (items : List Item) (k : ℕ) (it : Item) (name : List ℕ) (card : Card) → Contains (item_cards items k it) (name, card)
    → Says items k it name card
says items k (item.Constant word minus value) name card has =
    subst (λ (e : List ℕ × Card). Says items k (item.Constant word minus value) e.0 e.1) (only _ (name, card) has) tt
says items k (item.RangeType word lo hi) name card has =
    subst (λ (e : List ℕ × Card). Says items k (item.RangeType word lo hi) e.0 e.1) (only _ (name, card) has) tt
says items k (item.EnumType word members) name card has =
    elim (first-or _ (map (member_card k) (enumerate_from 0 members)) (name, card) has) [
      | inl own ↦ subst (λ (e : List ℕ × Card). Says items k (item.EnumType word members) e.0 e.1) own tt
      | inr member ↦
          let at = place-of (map (member_card k) (enumerate_from 0 members)) (name, card) member in
          let one = mapped (member_card k) (enumerate_from 0 members) at.0 (name, card) at.1 in
          let below = numbered-below 0 members at.0 one.0 one.1 in
          subst (λ (e : List ℕ × Card). Says items k (item.EnumType word members) e.0 e.1) one.2
          (record { word = word; members = members; is = refl; numbered = refl; within = omega arith })
    ]
says items k (item.Variable kind word of init) name card has =
    subst (λ (e : List ℕ × Card). Says items k (item.Variable kind word of init) e.0 e.1) (only _ (name, card) has)
    (record { word = word; of = of; init = init; is = refl; named = refl; placed = refl; valued = refl })
says items k (item.Held side word cond hold) name card has =
    subst (λ (e : List ℕ × Card). Says items k (item.Held side word cond hold) e.0 e.1) (only _ (name, card) has)
    (record { is = refl; named = refl; placed = refl })
says items k (item.Hyst side word term lo hi start) name card has =
    subst (λ (e : List ℕ × Card). Says items k (item.Hyst side word term lo hi start) e.0 e.1) (only _ (name, card) has)
    (record { is = refl; named = refl; placed = refl })
says items k (item.Normal section target columns rows) name card has = absurd (nothing-in (name, card) has)
says items k (item.Inverted section target headers rows) name card has = absurd (nothing-in (name, card) has)
says items k (item.Vector section columns rows) name card has = absurd (nothing-in (name, card) has)
says items k (item.Nat moment cond) name card has = absurd (nothing-in (name, card) has)
says items k (item.Block word takes uses facts) name card has =
    elim (first-or _ (flat_map (fact_cards (count_before declares_block items k)) (enumerate_from 0 facts)) (name, card) has) [
      | inl own ↦ subst (λ (e : List ℕ × Card). Says items k (item.Block word takes uses facts) e.0 e.1) own tt
      | inr fact ↦
          let one = from_one (fact_cards (count_before declares_block items k)) (enumerate_from 0 facts) (name, card) fact in
          fact-says items k (item.Block word takes uses facts) name card (count_before declares_block items k) one.1 one.3
    ]

-- a name that stands for a variable is declared by an item that is one
pub variable-of : (items : List Item) (name : List ℕ) (place : ℕ) (kind : VarWord) (values : Values)
    → env_of items name ≡ Some (Variable place kind values)
    → (k : ℕ) × (it : Item) × (slice_get items k ≡ Some it) × IsVariable items name place kind values k it
variable-of items name place kind values is =
    let f = found items name (Variable place kind values) is in
    (f.0, f.1, f.2, says items f.0 f.1 name (Variable place kind values) f.3)

pub memory-of : (items : List Item) (name : List ℕ) (place : ℕ) (side : SectionWord) (hold : Option ℤ)
    → env_of items name ≡ Some (Memory place side hold)
    → (k : ℕ) × (it : Item) × (slice_get items k ≡ Some it) × IsMemory items name place k it
memory-of items name place side hold is =
    let f = found items name (Memory place side hold) is in
    (f.0, f.1, f.2, says items f.0 f.1 name (Memory place side hold) f.3)

pub member-of : (items : List Item) (name : List ℕ) (number position : ℕ) → env_of items name ≡ Some (Member number position)
    → (k : ℕ) × (it : Item) × (slice_get items k ≡ Some it) × IsMember number position k it
member-of items name number position is =
    let f = found items name (Member number position) is in
    (f.0, f.1, f.2, says items f.0 f.1 name (Member number position) f.3)

-- two names of items with one place are one name
one-name : (items : List Item) (test : Item → Bool) (k l : ℕ) (x y : Item) (a b : List ℕ) → slice_get items k ≡ Some x
    → slice_get items l ≡ Some y → test x ≡ true → test y ≡ true → count_before test items k ≡ count_before test items l
    → texts (item_words x) ≡ a ∷ [] → texts (item_words y) ≡ b ∷ [] → a ≡ b
one-name items test k l x y a b at_k at_l p q same names_a names_b =
    let place = before-once test items k l x y at_k at_l p q
    (times-is test (take k items) ∙ same ∙ sym (times-is test (take l items))) in
    let one : x ≡ y = same_Some x y (sym at_k ∙ ap (slice_get items) place ∙ at_l) in
    let both : a ∷ [] ≡ b ∷ [] = sym names_a ∙ ap (λ (it : Item). texts (item_words it)) one ∙ names_b in
    cc

-- names that stand for one variable are one name
pub one-variable : (items : List Item) (a b : List ℕ) (place : ℕ) (v w : VarWord) (of to : Values)
    → env_of items a ≡ Some (Variable place v of) → env_of items b ≡ Some (Variable place w to) → a ≡ b
one-variable items a b place v w of to is_a is_b =
    let x = variable-of items a place v of is_a in
    let y = variable-of items b place w to is_b in
    one-name items declares_variable x.0 y.0 x.1 y.1 a b x.2 y.2 (ap declares_variable x.3.is) (ap declares_variable y.3.is)
    (sym x.3.placed ∙ y.3.placed)
    (ap (λ (it : Item). texts (item_words it)) x.3.is ∙ ap (λ n. n ∷ []) x.3.named)
    (ap (λ (it : Item). texts (item_words it)) y.3.is ∙ ap (λ n. n ∷ []) y.3.named)

-- and so are those of one memory
pub one-memory : (items : List Item) (a b : List ℕ) (place : ℕ) (v w : SectionWord) (of to : Option ℤ)
    → env_of items a ≡ Some (Memory place v of) → env_of items b ≡ Some (Memory place w to) → a ≡ b
one-memory items a b place v w of to is_a is_b =
    let x = memory-of items a place v of is_a in
    let y = memory-of items b place w to is_b in
    one-name items declares_memory x.0 y.0 x.1 y.1 a b x.2 y.2 x.3.is y.3.is (sym x.3.placed ∙ y.3.placed) x.3.named y.3.named
