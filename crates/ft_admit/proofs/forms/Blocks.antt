-- The blocks of a fault-free set: some fact each, and what they take and have as goals.
use Rattle.std.proofs.Common.{◌≡◌, ◌∙◌, sym, ap, subst, refl, ℕ, zero, suc, ◌≤◌, ◌<◌, true, false, not, ◌&&◌, ◌||◌}
use Rattle.std.proofs.Common.{nat_le, List, [], ◌∷◌, ◌++◌, length, map, take, slice_get, Option, Some, None, option_map, bytes_eq}
use Rattle.std.proofs.Common.{append-nil, append_assoc, arith}
use Rattle.std.specs.List.{Contains, flat_map, list_all}
use Rattle.std.proofs.lemmas.Bool.{and_parts, lt-ltb, leb-true, or_left, or_right}
use Rattle.std.proofs.lemmas.List.{length-map}
use Rattle.std.proofs.lemmas.List.Elements.{Contains-append_left, Contains-append_right}
use Rattle.std.proofs.lemmas.Option.{none-some, same_Some, slice_get-map}
use Rattle.std.proofs.lemmas.Slice.Eq.{bytes_eq-Decides}
use Rattle.ft_tree.specs.declared.item.Word.{Word}
use Rattle.ft_tree.specs.declared.item.VarWord.{VarWord}
use Rattle.ft_tree.specs.declared.item.VarWord.TheVariants as word
use Rattle.ft_tree.specs.declared.item.FactItem.{FactItem}
use Rattle.ft_tree.specs.declared.item.FactItem.TheVariants as fact
use Rattle.ft_tree.specs.declared.item.Item.{Item}
use Rattle.ft_tree.specs.declared.item.Item.TheVariants as item
use Rattle.ft_tree.specs.meaning.Limits.{are_listed, is_fact, is_item, is_word}
use Rattle.ft_core.specs.declared.tables.Block.{Block}
use Rattle.ft_core.specs.declared.tables.Fact.TheVariants.{Goal}
use Rattle.ft_core.specs.declared.tables.Memory.{Memory}
use Rattle.ft_core.specs.declared.tables.Section.TheVariants as core
use Rattle.ft_core.specs.declared.tables.Take.{Take}
use Rattle.ft_core.specs.declared.tables.Var.{Var}
use Rattle.ft_core.specs.declared.tables.VarKind.TheVariants as kind
use Rattle.ft_core.specs.meaning.Kinds.{controlled, defined_kinds, is_of, same_kind}
use Rattle.ft_core.specs.checked.Blocks.{may_take}
use Rattle.ft_core.specs.checked.Distinct.{AreDistinct}
use Rattle.ft_core.specs.laws.Lists.{all_pass, from_one, in_all, mapped}
use Rattle.ft_core.specs.laws.Places.{contained, place-of}
use Rattle.ft_names.specs.declared.card.Card.{Card}
use Rattle.ft_names.specs.declared.card.Card.TheVariants as card
use Rattle.ft_names.specs.declared.walk.Role.TheVariants as role
use Rattle.ft_names.specs.meaning.Cards.{Env, declares_memory, env_of}
use Rattle.ft_names.specs.meaning.Declared.{fact_words, is_among, item_words}
use Rattle.ft_names.specs.meaning.Duplicates.{item_namings, namings, repeated, set_namings, texts}
use Rattle.ft_names.specs.meaning.First.{first_of}
use Rattle.ft_names.specs.meaning.NameFaults.{duplicate}
use Rattle.ft_names.specs.meaning.Spots.{fact_spots, item_spots, named}
use Rattle.ft_names.specs.laws.First.{first_of-append}
use Rattle.ft_types.specs.meaning.Mismatch.{is_controlled, is_variable_or_memory}
use Rattle.ft_types.specs.meaning.PlaceFaults.{first_mismatch, first_wrong_side}
use Rattle.ft_types.specs.meaning.Sides.{is_given}
use Rattle.ft_types.specs.meaning.Sides as sides_of
use Rattle.ft_build.specs.meaning.Blocks.{block_of, build_block, card_take, fact_of, take_of}
use Rattle.ft_build.specs.meaning.Tables.{build_memory, place_in, variable_place}
use Rattle.ft_build.specs.meaning.Variables.{no_places, var_kind, vars_from}
use Rattle.ft_admit.proofs.forms.Counts.{memories-length}
use Rattle.ft_admit.proofs.forms.Lists.{before-less, failed, nothing-in, one-more, one-place, only, or-none, same-self, times, times-is}
use Rattle.ft_admit.proofs.forms.Lookups.{memory-of, one-memory, one-variable}
use Rattle.ft_admit.proofs.forms.Targets.{map-there, used, var-here}
use Rattle.ft_admit.proofs.forms.Variables.{is-of}

-- the item that a block is
pub record IsBlock (env : Env) (it : Item) (block : Block) : Type 0 where
  pub name : Word
  pub taken : List Word
  pub used_words : List Word
  pub facts : List FactItem
  pub is : it ≡ item.Block name taken used_words facts
  pub made : block ≡ block_of env name.text taken used_words facts

block-item : (env : Env) (it : Item) (block : Block) → Contains (build_block env it) block → IsBlock env it block
block-item env (item.Block name taken used_words facts) block has = record {
  name = name;
  taken = taken;
  used_words = used_words;
  facts = facts;
  is = refl;
  made = sym (only (block_of env name.text taken used_words facts) block has);
}
block-item env _ block has = absurd (nothing-in block has)

-- the names after `takes` differ

new-name : (before : List (List ℕ)) (w : Word) → repeated (before, w) ≡ None → is_among before w.text ≡ false
new-name before w none = failed (is_among before w.text) _ none

words-once : (before : List (List ℕ)) (words : List Word) → ((name : List ℕ) → times (bytes_eq name) before ≤ 1)
    → first_of repeated (namings before words) ≡ None → (name : List ℕ) → times (bytes_eq name) (before ++ texts words) ≤ 1
words-once before [] few none name = subst (λ l. times (bytes_eq name) l ≤ 1) (sym (append-nil before)) (few name)
words-once before (w ∷ words) few none name =
    let both = or-none (repeated (before, w)) (first_of repeated (namings (before ++ w.text ∷ []) words)) none in
    subst (λ l. times (bytes_eq name) l ≤ 1) (append_assoc before (w.text ∷ []) (texts words))
    (words-once (before ++ w.text ∷ []) words
    (λ n. one-more bytes_eq (λ x. x) (λ q x. (bytes_eq-Decides q x).0) n before w.text (new-name before w both.0) (few n)) both.1 name)

-- of the first item and of those after it
item-none : (before : List (List ℕ)) (x : Item) (xs : List Item) → first_of repeated (set_namings before (x ∷ xs)) ≡ None
    → (first_of repeated (item_namings before x) ≡ None) × (first_of repeated (set_namings (before ++ texts (item_words x)) xs) ≡ None)
unfolding set_namings
item-none before x xs none =
    or-none (first_of repeated (item_namings before x)) (first_of repeated (set_namings (before ++ texts (item_words x)) xs))
    (sym (first_of-append repeated (item_namings before x) (set_namings (before ++ texts (item_words x)) xs)) ∙ none)

namings-at : (before : List (List ℕ)) (xs : List Item) (k : ℕ) (it : Item) → first_of repeated (set_namings before xs) ≡ None
    → slice_get xs k ≡ Some it → (front : List (List ℕ)) × (first_of repeated (item_namings front it) ≡ None)
namings-at before [] k it none at = absurd (none-some it at)
namings-at before (x ∷ xs) zero it none at =
    (before, subst (λ (y : Item). first_of repeated (item_namings before y) ≡ None) (same_Some x it at) (item-none before x xs none).0)
namings-at before (x ∷ xs) (suc k) it none at =
    namings-at (before ++ texts (item_words x)) xs k it (item-none before x xs none).1 at

taken-once : (front : List (List ℕ)) (name : Word) (taken used_words shown : List Word)
    → first_of repeated (namings front (name ∷ []) ++ namings [] taken ++ namings [] used_words
    ++ namings (front ++ name.text ∷ []) shown) ≡ None
    → (n : List ℕ) → times (bytes_eq n) (texts taken) ≤ 1
taken-once front name taken used_words shown none n =
    let own = namings front (name ∷ []) in
    let a = or-none (first_of repeated (own ++ namings [] taken ++ namings [] used_words))
    (first_of repeated (namings (front ++ name.text ∷ []) shown))
    (sym (first_of-append repeated (own ++ namings [] taken ++ namings [] used_words) (namings (front ++ name.text ∷ []) shown)) ∙ none) in
    let b = or-none (first_of repeated (own ++ namings [] taken)) (first_of repeated (namings [] used_words))
    (sym (first_of-append repeated (own ++ namings [] taken) (namings [] used_words)) ∙ a.0) in
    let c = or-none (first_of repeated own) (first_of repeated (namings [] taken))
    (sym (first_of-append repeated own (namings [] taken)) ∙ b.0) in
    words-once [] taken (λ n. omega arith) c.1 n

-- a variable that is not given is defined by a requirement or a design table
not-given : (vars : List Var) (x : ℕ) (w : VarWord) (v : Var) → slice_get vars x ≡ Some v → v.kind ≡ var_kind w → not (is_given w) ≡ true
    → (is_of vars (defined_kinds core.Req) x || is_of vars (defined_kinds core.Sof) x) ≡ true
not-given vars x word.Con v at e is = or_left (is_of vars (defined_kinds core.Req) x) (is_of vars (defined_kinds core.Sof) x)
    (is-of vars (defined_kinds core.Req) x v at (ap (λ k. same_kind kind.Con k || same_kind kind.ReqInner k) e))
not-given vars x word.ReqVar v at e is = or_left (is_of vars (defined_kinds core.Req) x) (is_of vars (defined_kinds core.Sof) x)
    (is-of vars (defined_kinds core.Req) x v at (ap (λ k. same_kind kind.Con k || same_kind kind.ReqInner k) e))
not-given vars x word.Output v at e is = or_right (is_of vars (defined_kinds core.Req) x) (is_of vars (defined_kinds core.Sof) x)
    (is-of vars (defined_kinds core.Sof) x v at (ap (λ k. same_kind kind.Output k || same_kind kind.SofInner k) e))
not-given vars x word.SofVar v at e is = or_right (is_of vars (defined_kinds core.Req) x) (is_of vars (defined_kinds core.Sof) x)
    (is-of vars (defined_kinds core.Sof) x v at (ap (λ k. same_kind kind.Output k || same_kind kind.SofInner k) e))
not-given vars x word.Mon v at e is = cc
not-given vars x word.Input v at e is = cc

module _ (items : List Item) (all : list_all is_item items ≡ true) (once : duplicate items ≡ None)
    (sides : first_wrong_side items ≡ None) (kinds : first_mismatch items ≡ None)
  where
    abbrev vars : List Var
    vars = vars_from items (env_of items) no_places items

    abbrev memories : List Memory
    memories = flat_map (build_memory items (env_of items)) items

    abbrev blocks : List Block
    blocks = flat_map (build_block (env_of items)) items

    block-from : (b : ℕ) (block : Block) → slice_get blocks b ≡ Some block
        → (k : ℕ) × (it : Item) × (slice_get items k ≡ Some it) × IsBlock (env_of items) it block
    block-from b block at =
        let one = from_one (build_block (env_of items)) items block (contained blocks b block at) in
        (one.0, one.1, one.2, block-item (env_of items) one.1 block one.3)

    pub some-fact : (b : ℕ) (block : Block) → slice_get blocks b ≡ Some block → 0 < length block.facts
    some-fact b block at =
        let f = block-from b block at in
        let lawful = ap is_item (sym f.3.is) ∙ all_pass is_item items all f.1 (contained items f.0 f.1 f.2) in
        let outer = and_parts (is_word f.3.name && are_listed f.3.taken && are_listed f.3.used_words && nat_le 1 (length f.3.facts))
        (list_all is_fact f.3.facts) lawful in
        let inner = and_parts (is_word f.3.name && are_listed f.3.taken && are_listed f.3.used_words)
        (nat_le 1 (length f.3.facts)) outer.0 in
        let some = leb-true 1 (length f.3.facts) inner.1 in
        let long : length block.facts ≡ length f.3.facts =
        ap (λ (x : Block). length x.facts) f.3.made ∙ length-map f.3.facts (fact_of (env_of items)) in
        omega arith

    -- where a word after `takes` stands
    taken-spot : (it : Item) (block : Block) (d : IsBlock (env_of items) it block) (k : ℕ) (w : Word) → slice_get d.taken k ≡ Some w
        → Contains (item_spots it) (named role.Taken w)
    taken-spot it block d k w at =
        subst (λ (x : Item). Contains (item_spots x) (named role.Taken w)) (sym d.is)
        (Contains-append_left (map (named role.Taken) d.taken ++ map (named role.Used) d.used_words) (flat_map fact_spots d.facts)
        (named role.Taken w)
        (Contains-append_left (map (named role.Taken) d.taken) (map (named role.Used) d.used_words) (named role.Taken w)
        (map-there (named role.Taken) d.taken k w at)))

    take-lawful : (name : List ℕ) (o : Option Card) → env_of items name ≡ o → sides_of.may_take o ≡ true → is_variable_or_memory o ≡ true
        → may_take vars memories (card_take o) ≡ true
    take-lawful name (Some (card.Variable place w values)) is side kind =
        let v = var-here items name place w values is in
        not-given vars place w v.0 v.1 v.2 side
    take-lawful name (Some (card.Memory place side hold)) is free kind =
        let m = memory-of items name place side hold is in
        let less = before-less declares_memory items m.0 m.1 m.2 m.3.is in
        let place_is = m.3.placed in
        let counts = times-is declares_memory (take m.0 items) in
        let long = memories-length items (env_of items) in
        lt-ltb place (length memories) (omega arith)
    take-lawful name _ is side kind = cc

    pub takes-right : (b : ℕ) (block : Block) (t : Take) → slice_get blocks b ≡ Some block → Contains block.takes t
        → may_take vars memories t ≡ true
    takes-right b block t at has =
        let f = block-from b block at in
        let in_taken = subst (λ (x : Block). Contains x.takes t) f.3.made has in
        let place = place-of (map (take_of (env_of items)) f.3.taken) t in_taken in
        let w = mapped (take_of (env_of items)) f.3.taken place.0 t place.1 in
        let u = used items sides kinds f.0 f.1 f.2 role.Taken w.0 (taken-spot f.1 block f.3 place.0 w.0 w.1) in
        subst (λ (x : Take). may_take vars memories x ≡ true) w.2 (take-lawful w.0.text (env_of items w.0.text) refl u.0 u.1)

    -- two names that are taken as one variable or memory are one name
    same-take : (a b : List ℕ) (o p : Option Card) → env_of items a ≡ o → env_of items b ≡ p → is_variable_or_memory o ≡ true
        → is_variable_or_memory p ≡ true → card_take o ≡ card_take p → a ≡ b
    same-take a b (Some (card.Variable x v of)) (Some (card.Variable y w to)) is_a is_b k l same =
        let place : x ≡ y = cc in
        one-variable items a b y v w of to (is_a ∙ ap (λ n. Some (card.Variable n v of)) place) is_b
    same-take a b (Some (card.Memory x v of)) (Some (card.Memory y w to)) is_a is_b k l same =
        let place : x ≡ y = cc in
        one-memory items a b y v w of to (is_a ∙ ap (λ n. Some (card.Memory n v of)) place) is_b
    same-take a b (Some (card.Variable x v of)) (Some (card.Memory y w to)) is_a is_b k l same = absurd (cc)
    same-take a b (Some (card.Memory x v of)) (Some (card.Variable y w to)) is_a is_b k l same = absurd (cc)
    same-take a b _ _ is_a is_b k l same = absurd (cc)

    pub takes-differ : (b : ℕ) (block : Block) → slice_get blocks b ≡ Some block → AreDistinct block.takes
    takes-differ b block at =
        let f = block-from b block at in
        subst (λ (x : Block). AreDistinct x.takes) (sym f.3.made) (differ f.0 f.1 f.2 f.3)
      where
        differ : (n : ℕ) (it : Item) → slice_get items n ≡ Some it → (d : IsBlock (env_of items) it block)
            → AreDistinct (map (take_of (env_of items)) d.taken)
        differ n it there d k l t at_k at_l =
            let names = namings-at [] items n it once there in
            let none = ap (λ (x : Item). first_of repeated (item_namings names.0 x)) (sym d.is) ∙ names.1 in
            let few = taken-once names.0 d.name d.taken d.used_words (flat_map fact_words d.facts) none in
            let v = mapped (take_of (env_of items)) d.taken k t at_k in
            let w = mapped (take_of (env_of items)) d.taken l t at_l in
            let x = used items sides kinds n it there role.Taken v.0 (taken-spot it block d k v.0 v.1) in
            let y = used items sides kinds n it there role.Taken w.0 (taken-spot it block d l w.0 w.1) in
            let same = same-take v.0.text w.0.text (env_of items v.0.text) (env_of items w.0.text) refl refl x.1 y.1 (v.2 ∙ sym w.2) in
            let a = slice_get-map (λ (u : Word). u.text) d.taken k ∙ ap (option_map (λ (u : Word). u.text)) v.1 in
            let c = slice_get-map (λ (u : Word). u.text) d.taken l ∙ ap (option_map (λ (u : Word). u.text)) w.1 in
            one-place (bytes_eq v.0.text) (texts d.taken) (few v.0.text) k l v.0.text w.0.text a c
            (same-self v.0.text) ((bytes_eq-Decides v.0.text w.0.text).1 same)

    -- where a goal stands
    goal-spot : (it : Item) (block : Block) (d : IsBlock (env_of items) it block) (k : ℕ) (con : Word)
        → slice_get d.facts k ≡ Some (fact.Goal con) → Contains (item_spots it) (named role.Goal con)
    goal-spot it block d k con at =
        subst (λ (x : Item). Contains (item_spots x) (named role.Goal con)) (sym d.is)
        (Contains-append_right (map (named role.Taken) d.taken ++ map (named role.Used) d.used_words) (flat_map fact_spots d.facts)
        (named role.Goal con)
        (in_all fact_spots d.facts k (fact.Goal con) (named role.Goal con) at
        (contained (named role.Goal con ∷ []) 0 (named role.Goal con) refl)))

    controlled-place : (name : List ℕ) (o : Option Card) → env_of items name ≡ o → is_controlled o ≡ true
        → is_of vars controlled (variable_place o) ≡ true
    controlled-place name (Some (card.Variable place word.Con values)) is passes =
        let v = var-here items name place word.Con values is in
        is-of vars controlled place v.0 v.1 (ap (λ k. same_kind kind.Con k) v.2)
    controlled-place name _ is passes = cc

    goal-right : (k : ℕ) (it : Item) → slice_get items k ≡ Some it → (block : Block) (d : IsBlock (env_of items) it block) (n : ℕ)
        (f : FactItem) (x : ℕ) → slice_get d.facts n ≡ Some f → fact_of (env_of items) f ≡ Goal x → is_of vars controlled x ≡ true
    goal-right k it there block d n (fact.Goal con) x at is =
        let place : place_in (env_of items) con.text ≡ x = cc in
        let u = used items sides kinds k it there role.Goal con (goal-spot it block d n con at) in
        subst (λ y. is_of vars controlled y ≡ true) place (controlled-place con.text (env_of items con.text) refl u.1)
    goal-right k it there block d n (fact.Shows name cond) x at is = absurd (cc)

    pub goals-right : (b f x : ℕ) (block : Block) → slice_get blocks b ≡ Some block → slice_get block.facts f ≡ Some (Goal x)
        → is_of vars controlled x ≡ true
    goals-right b f x block at is =
        let d = block-from b block at in
        let made = ap (λ (y : Block). slice_get y.facts f) (sym d.3.made) ∙ is in
        let one = mapped (fact_of (env_of items)) d.3.facts f (Goal x) made in
        goal-right d.0 d.1 d.2 block d.3 f one.0 x one.1 one.2
