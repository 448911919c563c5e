-- Where each name after `uses` is that of an invariant, a block of the set uses invariants of the set, none twice.
use Rattle.std.proofs.Common.{arith, ◌≡◌, ◌∙◌, sym, ap, subst, refl, ◌⊎◌, inl, inr, ⊎_elim, ℕ, zero, suc, ◌+◌, true, false, List, []}
use Rattle.std.proofs.Common.{◌∷◌, ◌++◌, map, take, slice_get, Option, Some, None, option_map, bytes_eq, IsTrue, append-nil, cond, zero-add}
use Rattle.std.specs.List.{Contains, enumerate_from, flat_map}
use Rattle.std.specs.Option.{option_or}
use Rattle.std.proofs.lemmas.Bool.{cases_Bool, true≢false}
use Rattle.std.proofs.lemmas.List.Elements.{Contains-append_cases}
use Rattle.std.proofs.lemmas.List.Sums.{sum_by-cons}
use Rattle.std.proofs.lemmas.Option.{none-some, same_Some, slice_get-map}
use Rattle.std.proofs.lemmas.Slice.Eq.{bytes_eq-Decides}
use Rattle.ft_tree.specs.declared.expr.Expr.{Expr}
use Rattle.ft_tree.specs.declared.item.FactItem.{FactItem}
use Rattle.ft_tree.specs.declared.item.FactItem.TheVariants.{Shows, Goal}
use Rattle.ft_tree.specs.declared.item.Item.{Item}
use Rattle.ft_tree.specs.declared.item.Item.TheVariants as item
use Rattle.ft_tree.specs.declared.item.Word.{Word}
use Rattle.ft_core.specs.declared.tables.Block.{Block}
use Rattle.ft_core.specs.declared.tables.Fact.TheVariants.{Invariant}
use Rattle.ft_core.specs.declared.term.Cond.{Cond}
use Rattle.ft_core.specs.checked.Blocks as fact
use Rattle.ft_core.specs.checked.Blocks.{names_invariant}
use Rattle.ft_core.specs.checked.Distinct.{AreDistinct}
use Rattle.ft_core.specs.laws.Places.{contained, one-at, place-of}
use Rattle.ft_core.specs.laws.Lists.{from_one, mapped}
use Rattle.ft_names.specs.declared.card.Card.{Card}
use Rattle.ft_names.specs.declared.card.Card.TheVariants as card
use Rattle.std.specs.Prelude.{Result}
use Rattle.ft_names.specs.declared.stop.Stop.{Stop}
use Rattle.ft_names.specs.declared.walk.Role.TheVariants.{Taken, Used}
use Rattle.ft_names.specs.laws.First.{first_of-append, first_of-flat_map, first_of-map}
use Rattle.ft_names.specs.laws.Names.{NamesDiffer}
use Rattle.ft_names.specs.meaning.Cards.{Env, cards_from, cards_of, count_before, declares_block, env_of, fact_cards, item_cards}
use Rattle.ft_names.specs.meaning.Cards.{member_card, under}
use Rattle.ft_names.specs.meaning.Declared.{entries, fact_words, item_words, listing, names_in}
use Rattle.ft_names.specs.meaning.Duplicates.{item_namings, namings, repeated, set_namings, texts}
use Rattle.ft_names.specs.meaning.First.{Answers, first_of}
use Rattle.ft_names.specs.meaning.NameFaults.{duplicate, name_fault, no_variable, unknown_name}
use Rattle.ft_names.specs.meaning.Spots.{Spot, fact_spots, item_spots, named, spots}
use Rattle.ft_build.specs.meaning.Blocks.{block_of, build_block, card_use, fact_of, use_of}
use Rattle.ft_build.specs.meaning.Conditions.{cond_of}
use Rattle.ft_admit.specs.meaning.Uses.{first_unknown_invariant, is_invariant, use_fault, use_spot}
use Rattle.ft_admit.specs.stages.Uses.{HaveLawfulUses}
use Rattle.ft_admit.proofs.ChainLemmas.{or-none}

-- what a name stands for stands beside it in the list
beside : {X : Type 0} (list : List (List ℕ × X)) (name : List ℕ) (x : X) → under list name ≡ Some x
    → (p : ℕ) × (slice_get list p ≡ Some (name, x))
beside [] name x is = absurd (none-some x is)
beside ((n, y) ∷ list) name x is = elim (cases_Bool (bytes_eq name n)) [
  | inl here
      ↦ let same : name ≡ n = (bytes_eq-Decides name n).0 here in
      let value : y ≡ x = same_Some y x (rw here at is) in
      (zero, ap Some (λ i. (sym same i, value i)))
  | inr other
      ↦ let more = beside list name x (rw other at is) in (suc more.0, more.1)
]

-- an item of the list's stands at its place among the items
of-item : (all : List Item) (k : ℕ) (items : List Item) (entry : List ℕ × Card) → Contains (cards_from all k items) entry
    → (i : ℕ) × (x : Item) × (slice_get items i ≡ Some x) × Contains (item_cards all (k + i) x) entry
unfolding cards_from
of-item all k [] entry there = absurd (omega (arith, there.1))
of-item all k (x ∷ xs) entry there =
    ⊎_elim
    (λ here. let same : k + 0 ≡ k = omega arith in (0, x, refl, subst (λ (j : ℕ). Contains (item_cards all j x) entry) (sym same) here))
    (λ later. let more = of-item all (suc k) xs entry later in
    let same : suc k + more.0 ≡ k + suc more.0 = omega arith in
    (suc more.0, more.1, more.2, subst (λ (j : ℕ). Contains (item_cards all j more.1) entry) same more.3))
    (Contains-append_cases (item_cards all k x) (cards_from all (suc k) xs) entry there)

alone : {X : Type 0} (x y : X) → Contains (x ∷ []) y → x ≡ y
alone x y (zero, below, is) = is
alone x y (suc k, below, is) = absurd (omega (arith, below))

nothing : {X : Type 0} (y : X) → Contains [] y → ⊥
nothing y there = omega (arith, there.1)

-- a fact at this place shows an invariant of this name
abbrev ShowsAt : List FactItem → ℕ → List ℕ → Type 0
ShowsAt facts f name = (word : Word) × (cond : Expr) × (slice_get facts f ≡ Some (Shows word cond)) × (word.text ≡ name)

abbrev IsFactCard : (block n : ℕ) → List FactItem → List ℕ → (b f : ℕ) → Type 0
IsFactCard block n facts name b f = (b ≡ block) × (i : ℕ) × (f ≡ n + i) × ShowsAt facts i name

fact-card : (block n : ℕ) (facts : List FactItem) (name : List ℕ) (b f : ℕ)
    → Contains (flat_map (fact_cards block) (enumerate_from n facts)) (name, card.Invariant b f) → IsFactCard block n facts name b f
fact-card block n [] name b f there = absurd (nothing (name, card.Invariant b f) there)
fact-card block n (Shows word cond ∷ facts) name b f there = ⊎_elim
    (λ here.
    let same = alone (word.text, card.Invariant block n) (name, card.Invariant b f) here in
    let names : word.text ≡ name = ap (λ (e : List ℕ × Card). e.0) same in
    let cards : card.Invariant block n ≡ card.Invariant b f = ap (λ (e : List ℕ × Card). e.1) same in
    let blocks : b ≡ block = cc in
    let places : f ≡ n = cc in
    (blocks, 0, omega (arith, places), (word, cond, refl, names)))
    (λ later.
    let more = fact-card block (n + 1) facts name b f later in
    let place : f ≡ n + suc more.1 = let e = more.2 in omega (arith, e) in
    (more.0, suc more.1, place, more.3))
    (Contains-append_cases ((word.text, card.Invariant block n) ∷ []) (flat_map (fact_cards block) (enumerate_from (n + 1) facts))
    (name, card.Invariant b f) there)
fact-card block n (Goal con ∷ facts) name b f there =
    let more = fact-card block (n + 1) facts name b f there in
    let place : f ≡ n + suc more.1 = let e = more.2 in omega (arith, e) in
    (more.0, suc more.1, place, more.3)

-- an item that shows an invariant of this name at this place
abbrev ItemShows : Item → ℕ → List ℕ → Type 0
ItemShows (item.Block own takes uses facts) f name = ShowsAt facts f name
ItemShows _ f name = ⊥

abbrev IsItemCard : List Item → ℕ → Item → List ℕ → (b f : ℕ) → Type 0
IsItemCard all k x name b f = (b ≡ count_before declares_block all k) × ItemShows x f name

other-card : (own : List ℕ) (c : Card) (name : List ℕ) (b f : ℕ) → (c ≡ card.Invariant b f → ⊥)
    → Contains {X = List ℕ × Card} ((own, c) ∷ []) (name, card.Invariant b f) → ⊥
other-card own c name b f other there =
    other (ap (λ (e : List ℕ × Card). e.1) (alone (own, c) (name, card.Invariant b f) there))

member-card : (k : ℕ) (members : List (ℕ × Word)) (name : List ℕ) (b f : ℕ)
    → Contains (map (member_card k) members) (name, card.Invariant b f) → ⊥
member-card k members name b f there =
    let at = place-of (map (member_card k) members) (name, card.Invariant b f) there in
    let from = mapped (member_card k) members at.0 (name, card.Invariant b f) at.1 in
    let cards : card.Member k from.0.0 ≡ card.Invariant b f = ap (λ (e : List ℕ × Card). e.1) from.2 in
    cc

item-card : (all : List Item) (k : ℕ) (x : Item) (name : List ℕ) (b f : ℕ)
    → Contains (item_cards all k x) (name, card.Invariant b f) → IsItemCard all k x name b f
item-card all k (item.Constant own minus value) name b f there = absurd (other-card own.text _ name b f (λ e. cc e) there)
item-card all k (item.RangeType own lo hi) name b f there = absurd (other-card own.text _ name b f (λ e. cc e) there)
item-card all k (item.EnumType own members) name b f there = absurd (⊎_elim
    (λ here. other-card own.text _ name b f (λ e. cc e) here)
    (λ later. member-card k (enumerate_from 0 members) name b f later)
    (Contains-append_cases (_ ∷ []) (map (member_card k) (enumerate_from 0 members)) (name, card.Invariant b f) there))
item-card all k (item.Variable word own of init) name b f there = absurd (other-card own.text _ name b f (λ e. cc e) there)
item-card all k (item.Held side own cond hold) name b f there = absurd (other-card own.text _ name b f (λ e. cc e) there)
item-card all k (item.Hyst side own term lo hi start) name b f there = absurd (other-card own.text _ name b f (λ e. cc e) there)
item-card all k (item.Normal section target columns rows) name b f there = absurd (nothing _ there)
item-card all k (item.Inverted section target headers rows) name b f there = absurd (nothing _ there)
item-card all k (item.Vector section columns rows) name b f there = absurd (nothing _ there)
item-card all k (item.Nat moment cond) name b f there = absurd (nothing _ there)
item-card all k (item.Block own takes uses facts) name b f there = ⊎_elim
    (λ here. absurd (other-card own.text _ name b f (λ e. cc e) here))
    (λ later.
    let found = fact-card (count_before declares_block all k) 0 facts name b f later in
    let place : found.1 ≡ f = let e = found.2 in omega (arith, e) in
    (found.0, subst (λ (j : ℕ). ShowsAt facts j name) place found.3))
    (Contains-append_cases (_ ∷ []) (flat_map (fact_cards (count_before declares_block all k)) (enumerate_from 0 facts))
    (name, card.Invariant b f) there)

-- the block that an item is stands at its place among the blocks
abbrev BlockAt : Env → List Item → ℕ → Item → Type 0
BlockAt env items k (item.Block own takes uses facts) =
    slice_get (flat_map (build_block env) items) (count_before declares_block items k) ≡ Some (block_of env own.text takes uses facts)
BlockAt env items k _ = Unit {0}

block-first : (env : Env) (x : Item) (xs : List Item) → BlockAt env (x ∷ xs) zero x
block-first env (item.Block own takes uses facts) xs = refl
block-first env (item.Constant own minus value) xs = tt
block-first env (item.RangeType own lo hi) xs = tt
block-first env (item.EnumType own members) xs = tt
block-first env (item.Variable word own of init) xs = tt
block-first env (item.Held side own cond hold) xs = tt
block-first env (item.Hyst side own term lo hi start) xs = tt
block-first env (item.Normal section target columns rows) xs = tt
block-first env (item.Inverted section target headers rows) xs = tt
block-first env (item.Vector section columns rows) xs = tt
block-first env (item.Nat moment cond) xs = tt

-- the blocks with those of an item before them
moved : (env : Env) (y : Item) (blocks : List Block) (n : ℕ) (block : Block) → slice_get blocks n ≡ Some block
    → slice_get (build_block env y ++ blocks) (cond (declares_block y) 1 0 + n) ≡ Some block
moved env (item.Block own takes uses facts) blocks n block at =
    let next : 1 + n ≡ suc n = omega arith in
    subst (λ (m : ℕ). slice_get (block_of env own.text takes uses facts ∷ blocks) m ≡ Some block) (sym next) at
moved env (item.Constant own minus value) blocks n block at = subst (λ (m : ℕ). slice_get blocks m ≡ Some block) (sym (zero-add n)) at
moved env (item.RangeType own lo hi) blocks n block at = subst (λ (m : ℕ). slice_get blocks m ≡ Some block) (sym (zero-add n)) at
moved env (item.EnumType own members) blocks n block at = subst (λ (m : ℕ). slice_get blocks m ≡ Some block) (sym (zero-add n)) at
moved env (item.Variable word own of init) blocks n block at = subst (λ (m : ℕ). slice_get blocks m ≡ Some block) (sym (zero-add n)) at
moved env (item.Held side own cond hold) blocks n block at = subst (λ (m : ℕ). slice_get blocks m ≡ Some block) (sym (zero-add n)) at
moved env (item.Hyst side own term lo hi start) blocks n block at =
    subst (λ (m : ℕ). slice_get blocks m ≡ Some block) (sym (zero-add n)) at
moved env (item.Normal section target columns rows) blocks n block at =
    subst (λ (m : ℕ). slice_get blocks m ≡ Some block) (sym (zero-add n)) at
moved env (item.Inverted section target headers rows) blocks n block at =
    subst (λ (m : ℕ). slice_get blocks m ≡ Some block) (sym (zero-add n)) at
moved env (item.Vector section columns rows) blocks n block at =
    subst (λ (m : ℕ). slice_get blocks m ≡ Some block) (sym (zero-add n)) at
moved env (item.Nat moment cond) blocks n block at = subst (λ (m : ℕ). slice_get blocks m ≡ Some block) (sym (zero-add n)) at

block-at : (env : Env) (items : List Item) (k : ℕ) (own : Word) (takes uses : List Word) (facts : List FactItem)
    → slice_get items k ≡ Some (item.Block own takes uses facts)
    → slice_get (flat_map (build_block env) items) (count_before declares_block items k) ≡ Some (block_of env own.text takes uses facts)
block-at env [] k own takes uses facts at = absurd (none-some (item.Block own takes uses facts) at)
block-at env (y ∷ ys) zero own takes uses facts at =
    let same : y ≡ item.Block own takes uses facts = same_Some y (item.Block own takes uses facts) at in
    subst (λ (x : Item). slice_get (flat_map (build_block env) (x ∷ ys)) 0 ≡ Some (block_of env own.text takes uses facts)) (sym same) refl
block-at env (y ∷ ys) (suc k) own takes uses facts at =
    let block = block_of env own.text takes uses facts in
    subst (λ (n : ℕ). slice_get (build_block env y ++ flat_map (build_block env) ys) n ≡ Some block)
    (sym (sum_by-cons (λ x. cond (declares_block x) 1 0) y (take k ys)))
    (moved env y (flat_map (build_block env) ys) (count_before declares_block ys k) block (block-at env ys k own takes uses facts at))

-- the invariant that a name stands for is a fact of the set, with this name
abbrev IsShown : List Block → List ℕ → (b f : ℕ) → Type 0
IsShown blocks name b f =
    (block : Block) × (cond : Cond) × (slice_get blocks b ≡ Some block) × (slice_get block.facts f ≡ Some (Invariant name cond))

shown-by : (env : Env) (items : List Item) (k : ℕ) (x : Item) (name : List ℕ) (b f : ℕ) → slice_get items k ≡ Some x
    → b ≡ count_before declares_block items k → ItemShows x f name → IsShown (flat_map (build_block env) items) name b f
shown-by env items k (item.Block own takes uses facts) name b f at is shows =
    let blocks = flat_map (build_block env) items in (
      block_of env own.text takes uses facts,
      cond_of env shows.1,
      subst (λ (n : ℕ). slice_get blocks n ≡ Some (block_of env own.text takes uses facts)) (sym is)
          (block-at env items k own takes uses facts at),
      slice_get-map (fact_of env) facts f ∙ ap (option_map (fact_of env)) shows.2
          ∙ ap (λ (n : List ℕ). Some (Invariant n (cond_of env shows.1))) shows.3,
    )
shown-by env items k _ name b f at is shows = absurd shows

card-shown : (items : List Item) (name : List ℕ) (b f : ℕ) → env_of items name ≡ Some (card.Invariant b f)
    → IsShown (flat_map (build_block (env_of items)) items) name b f
card-shown items name b f is =
    let at = beside (cards_from items 0 items) name (card.Invariant b f) is in
    let from = of-item items 0 items (name, card.Invariant b f) (contained _ at.0 _ at.1) in
    let here : 0 + from.0 ≡ from.0 = zero-add from.0 in
    let entry = subst (λ (j : ℕ). Contains (item_cards items j from.1) (name, card.Invariant b f)) here from.3 in
    let shows = item-card items from.0 from.1 name b f entry in
    shown-by (env_of items) items from.0 from.1 name b f from.2 shows.0 shows.1

is-card : (c : Option Card) → is_invariant c ≡ true → (b f : ℕ) × (c ≡ Some (card.Invariant b f))
is-card (Some (card.Invariant b f)) is = (b, f, refl)
is-card _ is = absurd (true≢false (sym is))

-- a word after `uses` without a fault
abbrev IsUse : Env → List Block → Word → ℕ × ℕ → Type 0
IsUse env blocks word used = (use_of env word ≡ used) × IsShown blocks word.text used.0 used.1

word-use : (items : List Item) (word : Word) (used : ℕ × ℕ) → use_fault (env_of items) word ≡ None → use_of (env_of items) word ≡ used
    → IsShown (flat_map (build_block (env_of items)) items) word.text used.0 used.1
word-use items word used none is = elim (cases_Bool (is_invariant (env_of items word.text))) [
  | inl yes'
      ↦ let found = is-card (env_of items word.text) yes' in
      let same : (found.0, found.1) ≡ used = sym (ap card_use found.2) ∙ is in
      subst (λ (u : ℕ × ℕ). IsShown (flat_map (build_block (env_of items)) items) word.text u.0 u.1) same
      (card-shown items word.text found.0 found.1 found.2)
  | inr no' ↦ absurd (cc (rw no' at none))
]

none-at : {X Y : Type 0} (test : X → Option Y) (xs : List X) (k : ℕ) (x : X) → first_of test xs ≡ None → slice_get xs k ≡ Some x
    → test x ≡ None
none-at test [] k x none at = absurd (none-some x at)
none-at test (y ∷ ys) zero x none at = subst (λ z. test z ≡ None) (same_Some y x at) (or-none (test y) (first_of test ys) none).0
none-at test (y ∷ ys) (suc k) x none at = none-at test ys k x (or-none (test y) (first_of test ys) none).1 at

words-of-block : (items : List Item) (k : ℕ) (own : Word) (takes uses : List Word) (facts : List FactItem)
    → first_unknown_invariant items ≡ None → slice_get items k ≡ Some (item.Block own takes uses facts)
    → first_of (use_fault (env_of items)) uses ≡ None
words-of-block items k own takes uses facts none at =
    let test = use_spot (env_of items) in
    let here = none-at (λ x. first_of test (item_spots x)) items k (item.Block own takes uses facts)
    (sym (first_of-flat_map test item_spots items) ∙ none) at in
    let taken = map (named Taken) takes in
    let used = map (named Used) uses in
    let shown = flat_map fact_spots facts in
    let both = or-none (first_of test (taken ++ used)) (first_of test shown) (sym (first_of-append test (taken ++ used) shown) ∙ here) in
    let one = or-none (first_of test taken) (first_of test used) (sym (first_of-append test taken used) ∙ both.0) in
    sym (first_of-map test (named Used) uses) ∙ one.1

-- the item that a block is
abbrev IsBlockOf : Env → List Item → Block → Type 0
IsBlockOf env items block = (k : ℕ) × (own : Word) × (takes uses : List Word) × (facts : List FactItem)
    × (slice_get items k ≡ Some (item.Block own takes uses facts)) × (block_of env own.text takes uses facts ≡ block)

from-item : (env : Env) (items : List Item) (k : ℕ) (x : Item) (block : Block) → slice_get items k ≡ Some x
    → Contains (build_block env x) block → IsBlockOf env items block
from-item env items k (item.Block own takes uses facts) block at there =
    (k, own, takes, uses, facts, at, alone (block_of env own.text takes uses facts) block there)
from-item env items k _ block at there = absurd (nothing block there)

block-from : (env : Env) (items : List Item) (b : ℕ) (block : Block) → slice_get (flat_map (build_block env) items) b ≡ Some block
    → IsBlockOf env items block
block-from env items b block at =
    let from = from_one (build_block env) items block (contained _ b block at) in
    from-item env items from.0 from.1 block from.2 from.3

-- names after one `uses` differ, as those of an enum type with these members would
uses-of-block : (before : List (List ℕ)) (items : List Item) (k : ℕ) (own : Word) (takes uses : List Word) (facts : List FactItem)
    → first_of repeated (set_namings before items) ≡ None → slice_get items k ≡ Some (item.Block own takes uses facts)
    → first_of repeated (namings [] uses) ≡ None
unfolding set_namings
uses-of-block before [] k own takes uses facts none at = absurd (none-some (item.Block own takes uses facts) at)
uses-of-block before (y ∷ ys) zero own takes uses facts none at =
    let same : y ≡ item.Block own takes uses facts = same_Some y (item.Block own takes uses facts) at in
    let all = or-none (first_of repeated (item_namings before y)) (first_of repeated (set_namings (before ++ texts (item_words y)) ys))
    (sym (first_of-append repeated (item_namings before y) (set_namings (before ++ texts (item_words y)) ys)) ∙ none) in
    let here = subst (λ (x : Item). first_of repeated (item_namings before x) ≡ None) same all.0 in
    let name = namings before (own ∷ []) in
    let shown = namings (before ++ own.text ∷ []) (flat_map fact_words facts) in
    let three = or-none (first_of repeated (name ++ namings [] takes ++ namings [] uses)) (first_of repeated shown)
    (sym (first_of-append repeated (name ++ namings [] takes ++ namings [] uses) shown) ∙ here) in
    let two = or-none (first_of repeated (name ++ namings [] takes)) (first_of repeated (namings [] uses))
    (sym (first_of-append repeated (name ++ namings [] takes) (namings [] uses)) ∙ three.0) in
    two.1
uses-of-block before (y ∷ ys) (suc k) own takes uses facts none at =
    let all = or-none (first_of repeated (item_namings before y)) (first_of repeated (set_namings (before ++ texts (item_words y)) ys))
    (sym (first_of-append repeated (item_namings before y) (set_namings (before ++ texts (item_words y)) ys)) ∙ none) in
    uses-of-block (before ++ texts (item_words y)) ys k own takes uses facts all.1 at

entry-names : (k : ℕ) (words : List Word) → names_in (entries k words ++ []) ≡ texts words
entry-names k [] = refl
entry-names k (w ∷ ws) = ap (λ l. w.text ∷ l) (entry-names k ws)

words-differ : NamesDiffer → (words : List Word) → first_of repeated (namings [] words) ≡ None → AreDistinct (texts words)
unfolding set_namings listing
words-differ law [] none = λ k l name at_k at_l. absurd (none-some name at_k)
words-differ law (w ∷ ws) none = subst (λ (l : List (List ℕ)). AreDistinct l) (entry-names 0 (w ∷ ws))
    (law (item.EnumType w ws ∷ []) (ap (first_of repeated) (append-nil (namings [] (w ∷ ws))) ∙ none))

no-duplicate : (items : List Item) → name_fault items ≡ None → duplicate items ≡ None
no-duplicate items none =
    (or-none (duplicate items) (unknown_name items)
    (or-none (no_variable items) (option_or (duplicate items) (unknown_name items)) none).1).0

names-shown : (blocks : List Block) (used : ℕ × ℕ) (name : List ℕ) → IsShown blocks name used.0 used.1
    → names_invariant blocks used ≡ true
names-shown blocks used name shown =
    ap (λ (o : Option Block). elim o [ None ↦ false | Some block ↦ fact.is_invariant (slice_get block.facts used.1) ]) shown.2
    ∙ ap fact.is_invariant shown.3

pub lawful-uses : NamesDiffer → (items : List Item) → name_fault items ≡ None → first_unknown_invariant items ≡ None
    → HaveLawfulUses (flat_map (build_block (env_of items)) items)
lawful-uses law items names known = record {
  invariants = λ b block used at there. invariant block (block-from env items b block at) used there;
  differ = λ b block at. differ block (block-from env items b block at);
}
  where
    env : Env
    env = env_of items

    shown : (k : ℕ) (own : Word) (takes uses : List Word) (facts : List FactItem)
        → slice_get items k ≡ Some (item.Block own takes uses facts) → (p : ℕ) (used : ℕ × ℕ)
        → slice_get (map (use_of env) uses) p ≡ Some used
        → (word : Word) × (slice_get uses p ≡ Some word) × IsShown (flat_map (build_block env) items) word.text used.0 used.1
    shown k own takes uses facts at p used here =
        let from = mapped (use_of env) uses p used here in
        let none = none-at (use_fault env) uses p from.0 (words-of-block items k own takes uses facts known at) from.1 in
        (from.0, from.1, word-use items from.0 used none from.2)

    invariant : (block : Block) → IsBlockOf env items block → (used : ℕ × ℕ) → Contains block.uses used
        → IsTrue (names_invariant (flat_map (build_block env) items) used)
    invariant block (k, own, takes, uses, facts, at, is) used there =
        let here = subst (λ (b : Block). Contains b.uses used) (sym is) there in
        let place = place-of (map (use_of env) uses) used here in
        let found = shown k own takes uses facts at place.0 used place.1 in
        names-shown (flat_map (build_block env) items) used found.0.text found.2

    same-name : (a b : Block) (c d : Cond) (f : ℕ) (n m : List ℕ) (k : ℕ)
        → slice_get (flat_map (build_block env) items) k ≡ Some a → slice_get (flat_map (build_block env) items) k ≡ Some b
        → slice_get a.facts f ≡ Some (Invariant n c) → slice_get b.facts f ≡ Some (Invariant m d) → n ≡ m
    same-name a b c d f n m k at_a at_b fact_a fact_b =
        let same : a ≡ b = one-at _ k a b at_a at_b in
        let here = subst (λ (x : Block). slice_get x.facts f ≡ Some (Invariant n c)) same fact_a in
        let facts : Invariant n c ≡ Invariant m d = one-at b.facts f (Invariant n c) (Invariant m d) here fact_b in
        cc

    differ : (block : Block) → IsBlockOf env items block → AreDistinct block.uses
    differ block (k, own, takes, uses, facts, at, is) =
        subst (λ (b : Block). AreDistinct b.uses) is (λ p r used at_p at_r.
        let a = shown k own takes uses facts at p used at_p in
        let b = shown k own takes uses facts at r used at_r in
        words-differ law uses (uses-of-block [] items k own takes uses facts (no-duplicate items names) at) p r a.0.text
        (slice_get-map (λ w. w.text) uses p ∙ ap (option_map (λ w. w.text)) a.1)
        (slice_get-map (λ w. w.text) uses r ∙ ap (option_map (λ w. w.text)) b.1
        ∙ ap Some (sym (same-name a.2.0 b.2.0 a.2.1 b.2.1 used.1 a.0.text b.0.text used.0 a.2.2 b.2.2 a.2.3 b.2.3))))

-- a test by the cards of a tree is the test by what its names stand for
pub answers-env : {A F : Type 0} (result : Result A (Stop F)) (test : Env → Spot → Option F) (cards : List (List ℕ × Card))
    (items given : List Item)
    → cards ≡ cards_of items → given ≡ items → Answers result (first_of (test (under cards)) (spots given))
    → Answers result (first_of (test (env_of items)) (spots items))
answers-env result test cards items given are same found =
    subst (λ (c : List (List ℕ × Card)). Answers result (first_of (test (under c)) (spots items))) are
    (subst (λ (is : List Item). Answers result (first_of (test (under cards)) (spots is))) same found)
