-- The cards of a set, one item after another.
use Rattle.std.proofs.Common.{◌≡◌, ◌∙◌, sym, ap, refl, inl, inr, ℕ, zero, suc, ◌+◌, ◌≤◌, ◌<◌, ◌^◌, Bool, true, ◌&&◌, List, [], ◌∷◌, ◌++◌}
use Rattle.std.proofs.Common.{length, map, take, sum_by, slice_get, zip, Some, append_assoc, append-nil, cond, arith}
use Rattle.std.specs.Prelude.{slice_index_or}
use Rattle.std.specs.List.{enumerate_from, flat_map}
use Rattle.std.proofs.Math.Seq.{take-length}
use Rattle.std.proofs.lemmas.Bool.{and_parts, cases_Bool}
use Rattle.std.proofs.lemmas.Grind.{flat_map-append}
use Rattle.std.proofs.lemmas.List.{take_more, map-append, length-map, length-take-le}
use Rattle.std.proofs.lemmas.List.FromFn.{get_or-enumerate_from, length-enumerate_from}
use Rattle.std.proofs.lemmas.List.Sums.{count_by-le-length, count_by_more_no, count_by_more_yes, sum_by-cons}
use Rattle.std.proofs.lemmas.Option.{slice_get-get_or}
use Rattle.ft_tree.specs.declared.item.Word.{Word}
use Rattle.ft_tree.specs.declared.item.FactItem.{FactItem}
use Rattle.ft_tree.specs.declared.item.FactItem.TheVariants.{Shows, Goal}
use Rattle.ft_tree.specs.declared.item.Item.{Item}
use Rattle.ft_tree.specs.declared.item.Item.TheVariants.{Constant, RangeType, EnumType, Variable, Held, Hyst, Normal, Inverted, Vector, Nat}
use Rattle.ft_tree.specs.declared.item.Item.TheVariants.{Block}
use Rattle.ft_tree.specs.declared.item.Bound.{Bound}
use Rattle.ft_tree.specs.declared.item.Kind.{Kind}
use Rattle.ft_tree.specs.declared.item.VarWord.{VarWord}
use Rattle.ft_tree.specs.meaning.Limits.{facts_of, is_init, is_item, is_kind, is_word}
use Rattle.ft_names.specs.declared.card.Card.{Card}
use Rattle.ft_names.specs.declared.card.Card.TheVariants.{Member}
use Rattle.ft_names.specs.declared.counts.Counts.{Counts}
use Rattle.ft_names.specs.meaning.Declared.{Listing, entries, fact_words, item_words, listing, names_in}
use Rattle.ft_names.specs.meaning.Cards.{count_before, cards_from, cards_of, fact_cards, declares_block, declares_memory, declares_variable}
use Rattle.ft_names.specs.meaning.Cards.{item_cards, member_card}
use Rattle.ft_names.specs.naming.Counting.{cards_in, counted, counts_before, one_more}
use Rattle.ft_names.specs.laws.Lists.{take_next}
use Rattle.ft_names.proofs.DeclareLemmas.{at-place, names_in-append}
use Rattle.ft_names.proofs.NameLemmas.{zip-parts}

abbrev pub Carded : Type 0
Carded = List (List ℕ × Card)

-- the names beside cards
abbrev pub names_of : Carded → List (List ℕ)
names_of list = map (λ entry. entry.0) list

pub cards_in-append : (xs ys : Carded) → cards_in (xs ++ ys) ≡ cards_in xs ++ cards_in ys
cards_in-append xs ys = map-append (λ (entry : List ℕ × Card). entry.1) xs ys

names_of-append : (xs ys : Carded) → names_of (xs ++ ys) ≡ names_of xs ++ names_of ys
names_of-append xs ys = map-append (λ (entry : List ℕ × Card). entry.0) xs ys

-- a numbered list as a loop comes to an element

numbered-at : {X : Type 0} (xs : List X) (i : ℕ) (d : X) → i < length xs
    → take (i + 1) (enumerate_from 0 xs) ≡ take i (enumerate_from 0 xs) ++ (i, slice_index_or xs i d) ∷ []
numbered-at xs i d within =
    let long = length-enumerate_from 0 xs in
    let start : 0 + i ≡ i = omega arith in
    take_more (enumerate_from 0 xs) i (0, d) (omega arith)
    ∙ ap (λ y. take i (enumerate_from 0 xs) ++ y ∷ []) (get_or-enumerate_from 0 xs i (0, d) within
    ∙ ap (λ n. (n, slice_index_or xs i d)) start)

pub numbered-all : {X : Type 0} (xs : List X) → take (length xs) (enumerate_from 0 xs) ≡ enumerate_from 0 xs
numbered-all xs = ap (λ n. take n (enumerate_from 0 xs)) (sym (length-enumerate_from 0 xs)) ∙ take-length (enumerate_from 0 xs)

abbrev pub member_cards : ℕ → List Word → ℕ → List Card
member_cards item members i = cards_in (map (member_card item) (take i (enumerate_from 0 members)))

pub members-next : (item : ℕ) (members : List Word) (i : ℕ) → i < length members
    → member_cards item members (i + 1) ≡ member_cards item members i ++ Member item i ∷ []
members-next item [] i within = absurd (omega arith)
members-next item (w ∷ words) i within =
    ap (λ l. cards_in (map (member_card item) l)) (numbered-at (w ∷ words) i w within)
    ∙ ap cards_in (map-append (member_card item) (take i (enumerate_from 0 (w ∷ words))) ((i, slice_index_or (w ∷ words) i w) ∷ []))
    ∙ cards_in-append (map (member_card item) (take i (enumerate_from 0 (w ∷ words)))) (member_card item (
      i,
      slice_index_or
          (w ∷ words) i w,
    ) ∷ [])

pub members-all : (item : ℕ) (members : List Word) → member_cards item members (length members)
    ≡ cards_in (map (member_card item) (enumerate_from 0 members))
members-all item members = ap (λ l. cards_in (map (member_card item) l)) (numbered-all members)

abbrev pub invariant_cards : ℕ → List FactItem → ℕ → List Card
invariant_cards block facts i = cards_in (flat_map (fact_cards block) (take i (enumerate_from 0 facts)))

pub facts-next : (block : ℕ) (facts : List FactItem) (i : ℕ) (x : FactItem) → i < length facts → x ≡ slice_index_or facts i x
    → invariant_cards block facts (i + 1) ≡ invariant_cards block facts i ++ cards_in (fact_cards block (i, x))
facts-next block facts i x within is =
    ap (λ l. cards_in (flat_map (fact_cards block) l))
    (numbered-at facts i x within ∙ ap (λ y. take i (enumerate_from 0 facts) ++ (i, y) ∷ []) (sym is))
    ∙ ap cards_in (flat_map-append (fact_cards block) (take i (enumerate_from 0 facts)) ((i, x) ∷ []))
    ∙ cards_in-append (flat_map (fact_cards block) (take i (enumerate_from 0 facts))) (flat_map (fact_cards block) ((i, x) ∷ []))
    ∙ ap (λ l. invariant_cards block facts i ++ cards_in l) (append-nil (fact_cards block (i, x)))

pub facts-all : (block : ℕ) (facts : List FactItem) → invariant_cards block facts (length facts)
    ≡ cards_in (flat_map (fact_cards block) (enumerate_from 0 facts))
facts-all block facts = ap (λ l. cards_in (flat_map (fact_cards block) l)) (numbered-all facts)

-- how many stand before the next item

before-next : (test : Item → Bool) (items : List Item) (i : ℕ) (x : Item) → i < length items → x ≡ slice_index_or items i x
    → one_more (test x) (count_before test items i) ≡ count_before test items (i + 1)
before-next test items i x within is = elim (cases_Bool (test x)) [
  | inl passes ↦ rw passes (sym (count_by_more_yes test items i x within (ap test (sym is) ∙ passes)))
  | inr fails ↦ rw fails (sym (count_by_more_no test items i x within (ap test (sym is) ∙ fails)))
]

counts-next : (items : List Item) (i : ℕ) (x : Item) → i < length items → x ≡ slice_index_or items i x
    → counted (counts_before items i) x ≡ counts_before items (i + 1)
counts-next items i x within is = λ j. record {
  variables = before-next declares_variable items i x within is j;
  memories = before-next declares_memory items i x within is j;
  blocks = before-next declares_block items i x within is j;
}

pub counted-next : (items : List Item) (i : ℕ) (x : Item) (counts next : Counts) → i < length items → x ≡ slice_index_or items i x
    → counts ≡ counts_before items i → next ≡ counted counts x → next ≡ counts_before items (i + 1)
counted-next items i x counts next within is old new = new ∙ ap (λ (c : Counts). counted c x) old ∙ counts-next items i x within is

before-few : (test : Item → Bool) (items : List Item) (i : ℕ) → i < length items → count_before test items i ≤ i
before-few test items i within =
    let few = count_by-le-length test (take i items) in
    let taken : length (take i items) ≡ i = length-take-le i items (omega arith) in
    omega arith

pub counts-few : (items : List Item) (i : ℕ) (counts : Counts) → i < length items → length items < 2 ^ 32 → counts ≡ counts_before items i
    → (counts.variables + 1 < 2 ^ 32) × (counts.memories + 1 < 2 ^ 32) × (counts.blocks + 1 < 2 ^ 32)
counts-few items i counts within few are =
    let variables : counts.variables ≡ count_before declares_variable items i = ap (λ (c : Counts). c.variables) are in
    let memories : counts.memories ≡ count_before declares_memory items i = ap (λ (c : Counts). c.memories) are in
    let blocks : counts.blocks ≡ count_before declares_block items i = ap (λ (c : Counts). c.blocks) are in
    let a = before-few declares_variable items i within in
    let b = before-few declares_memory items i within in
    let c = before-few declares_block items i within in
    (omega arith, omega arith, omega arith)

facts-within : (items : List Item) (i : ℕ) (x : Item) → slice_get items i ≡ Some x → facts_of x ≤ sum_by facts_of items
facts-within [] i x at = cc at
facts-within (y ∷ items) zero x at =
    let same : y ≡ x = cc at in
    let here : facts_of y ≡ facts_of x = ap facts_of same in
    let sum = sum_by-cons facts_of y items in
    omega arith
facts-within (y ∷ items) (suc i) x at =
    let rest = facts-within items i x at in
    let sum = sum_by-cons facts_of y items in
    omega arith

pub facts-few : (items : List Item) (i : ℕ) (x : Item) → i < length items → x ≡ slice_index_or items i x
    → sum_by facts_of items < 2 ^ 32 → facts_of x < 2 ^ 32
facts-few items i x within is few =
    let most = facts-within items i x (slice_get-get_or items i x within ∙ ap (λ (y : Item). Some y) (sym is)) in
    omega arith

-- item after item

cards-append : (all : List Item) (k : ℕ) (xs ys : List Item)
    → cards_from all k (xs ++ ys) ≡ cards_from all k xs ++ cards_from all (k + length xs) ys
unfolding cards_from
cards-append all k [] ys = ap (λ n. cards_from all n ys) (omega arith)
cards-append all k (x ∷ xs) ys =
    ap (λ (list : Carded). item_cards all k x ++ list) (cards-append all (suc k) xs ys
    ∙ ap (λ n. cards_from all (suc k) xs ++ cards_from all n ys) (omega arith))
    ∙ sym (append_assoc (item_cards all k x) (cards_from all (suc k) xs) (cards_from all (k + length (x ∷ xs)) ys))

cards-one : (all : List Item) (k : ℕ) (item : Item) → cards_from all k (item ∷ []) ≡ item_cards all k item
unfolding cards_from
cards-one all k item = append-nil (item_cards all k item)

pub no-cards : (all : List Item) → cards_from all 0 [] ≡ []
unfolding cards_from
no-cards all = refl

pub cards-next : (items : List Item) (i : ℕ) (x : Item) → i < length items → x ≡ slice_index_or items i x
    → cards_in (cards_from items 0 (take (i + 1) items)) ≡ cards_in (cards_from items 0 (take i items)) ++ cards_in (item_cards items i x)
cards-next items i x within is =
    ap cards_in (ap (cards_from items 0) (take_next items i x within is) ∙ cards-append items 0 (take i items) (x ∷ [])
    ∙ ap (λ n. cards_from items 0 (take i items) ++ cards_from items n (x ∷ [])) (at-place i items within)
    ∙ ap (λ (list : Carded). cards_from items 0 (take i items) ++ list) (cards-one items i x))
    ∙ cards_in-append (cards_from items 0 (take i items)) (item_cards items i x)

-- each name has its card

member-names : (k n : ℕ) (members : List Word) → names_in (entries k members) ≡ names_of (map (member_card k) (enumerate_from n members))
member-names k n [] = refl
member-names k n (w ∷ words) = ap (λ (names : List (List ℕ)). w.text ∷ names) (member-names k (n + 1) words)

fact-names : (k block n : ℕ) (facts : List FactItem)
    → names_in (entries k (flat_map fact_words facts)) ≡ names_of (flat_map (fact_cards block) (enumerate_from n facts))
fact-names k block n [] = refl
fact-names k block n (Shows name cond ∷ facts) = ap (λ (names : List (List ℕ)). name.text ∷ names) (fact-names k block (n + 1) facts)
fact-names k block n (Goal con ∷ facts) = fact-names k block (n + 1) facts

item-names : (all : List Item) (k : ℕ) (item : Item) → names_in (entries k (item_words item)) ≡ names_of (item_cards all k item)
item-names all k (Constant name minus value) = refl
item-names all k (RangeType name lo hi) = refl
item-names all k (EnumType name members) = ap (λ (names : List (List ℕ)). name.text ∷ names) (member-names k 0 members)
item-names all k (Variable word name of init) = refl
item-names all k (Held side name cond hold) = refl
item-names all k (Hyst side name term lo hi start) = refl
item-names all k (Normal section target columns rows) = refl
item-names all k (Inverted section target headers rows) = refl
item-names all k (Vector section columns rows) = refl
item-names all k (Nat moment cond) = refl
item-names all k (Block name takes uses facts) = ap (λ (names : List (List ℕ)). name.text ∷ names) (fact-names k
    (count_before declares_block all k) 0 facts)

names-carded : (all : List Item) (k : ℕ) (items : List Item) → names_in (listing k items) ≡ names_of (cards_from all k items)
unfolding listing cards_from
names-carded all k [] = refl
names-carded all k (x ∷ xs) =
    names_in-append (entries k (item_words x)) (listing (suc k) xs)
    ∙ ap (λ names. names ++ names_in (listing (suc k) xs)) (item-names all k x)
    ∙ ap (λ names. names_of (item_cards all k x) ++ names) (names-carded all (suc k) xs)
    ∙ sym (names_of-append (item_cards all k x) (cards_from all (suc k) xs))

pub carded-items : (items : List Item) (names : Listing) (list : List Card) → names ≡ listing 0 items → list ≡ cards_in (cards_of items)
    → zip (names_in names) list ≡ cards_of items
carded-items items names list are made =
    ap (λ (n : Listing). zip (names_in n) list) are ∙ ap (λ n. zip n list) (names-carded items 0 items)
    ∙ ap (λ l. zip (names_of (cards_of items)) l) made ∙ zip-parts (cards_of items)

pub carded-length : (items : List Item) (names : Listing) (list : List Card) → names ≡ listing 0 items → list ≡ cards_in (cards_of items)
    → length list ≡ length names
carded-length items names list are made =
    ap length made ∙ length-map (cards_of items) (λ (entry : List ℕ × Card). entry.1)
    ∙ sym (length-map (cards_of items) (λ (entry : List ℕ × Card). entry.0))
    ∙ sym (ap length (names-carded items 0 items)) ∙ length-map (listing 0 items) (λ (entry : List ℕ × ℕ). entry.0) ∙ sym (ap length are)

-- what holds of a variable's type
pub kind-lawful : (word : VarWord) (name : Word) (of : Kind) (init : Bound) → is_item (Variable word name of init) ≡ true
    → is_kind of ≡ true
kind-lawful word name of init lawful =
    (and_parts (is_word name) (is_kind of) (and_parts (is_word name && is_kind of) (is_init init) lawful).0).1
