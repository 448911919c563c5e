-- The names of a set: each is a name, no two declarations have the same, and members of enum types are apart from both.
use Rattle.std.proofs.Common.{◌≡◌, ◌∙◌, sym, ap, subst, refl, inl, inr, ℕ, suc, ◌+◌, ◌≤◌, Bool, true, false, not, ◌&&◌, ◌||◌, cond}
use Rattle.std.proofs.Common.{nat_le, List, [], ◌∷◌, ◌++◌, length, map, slice_get, Some, bytes_eq, arith}
use Rattle.std.specs.Prelude.{◌==◌, codes}
use Rattle.std.specs.List.{Contains, flat_map, list_all}
use Rattle.std.proofs.lemmas.Bool.{and_from, and_parts, le-leb, leb-true, or_cases, or_left, or_right, true≢false}
use Rattle.std.proofs.lemmas.List.{map-append}
use Rattle.std.proofs.lemmas.Option.{none-some}
use Rattle.std.proofs.lemmas.Slice.Eq.{bytes_eq-Decides}
use Rattle.ft_base.specs.Digits.{is_digit}
use Rattle.ft_base.specs.Names.{begins_by_letter, is_letter, is_name, is_name_byte, is_reserved_word, reserved_words}
use Rattle.ft_tree.specs.declared.item.Word.{Word}
use Rattle.ft_tree.specs.declared.item.FactItem.{FactItem}
use Rattle.ft_tree.specs.declared.item.FactItem.TheVariants as fact
use Rattle.ft_tree.specs.declared.item.Item.{Item}
use Rattle.ft_tree.specs.declared.item.Item.TheVariants as item
use Rattle.ft_tree.specs.meaning.Limits.{are_listed, is_bound, is_count, is_expr, is_fact, is_hold, is_init, is_item, is_kind}
use Rattle.ft_tree.specs.meaning.Limits.{is_number, is_side, is_word}
use Rattle.ft_core.specs.declared.tables.Var.{Var}
use Rattle.ft_core.specs.declared.tables.Memory.{Memory}
use Rattle.ft_core.specs.declared.tables.Block.{Block}
use Rattle.ft_core.specs.checked.Distinct.{AreDistinct}
use Rattle.ft_core.specs.checked.Names.{AreNamed, declared_names, fact_names, is_lettered, is_mark, is_set_name, is_set_name_byte}
use Rattle.ft_core.specs.checked.Names.{memory_name}
use Rattle.ft_core.specs.laws.Lists.{all_pass, from_one, mapped}
use Rattle.ft_core.specs.laws.Places.{contained, place-of}
use Rattle.ft_names.specs.declared.card.Values.{Values}
use Rattle.ft_names.specs.declared.card.Values.TheVariants.{Numbers, Truths, Members, Untyped}
use Rattle.ft_names.specs.meaning.Cards.{Env}
use Rattle.ft_names.specs.meaning.Declared.{entries, fact_words, item_words, listing, names_in}
use Rattle.ft_names.specs.meaning.Duplicates.{texts}
use Rattle.ft_build.specs.declared.places.Places.{Places}
use Rattle.ft_build.specs.meaning.Blocks.{build_block, fact_of}
use Rattle.ft_build.specs.meaning.Tables.{build_memory}
use Rattle.ft_build.specs.meaning.Variables.{build_var, counted, no_places, value_members, vars_from}
use Rattle.ft_admit.proofs.forms.Lists.{all-pass, distinct-by, few-times, first-or, map-flat, nothing-in, only, same-self, some-times}
use Rattle.ft_admit.proofs.forms.Lists.{term-le, times, times-some, total, total-append, total-flat, total-le, total-plus}
use Rattle.ft_admit.proofs.forms.Values.{Fit, value-members}

abbrev Names : Type 0
Names = List (List ℕ)

-- a name of a text is one of a set

set-byte : (b : ℕ) → is_name_byte b ≡ true → is_set_name_byte b ≡ true
set-byte b is = elim (or_cases (is_letter b || is_digit b) (b == 95) is) [
  | inl front ↦ or_left (is_letter b || is_digit b) (is_mark b) front
  | inr mark ↦ or_right (is_letter b || is_digit b) (is_mark b)
      (or_left ((b == 95) || (b == 46) || (b == 40)) (b == 41) (or_left ((b == 95) || (b == 46)) (b == 40)
      (or_left (b == 95) (b == 46) mark)))
]

all-weaker : {X : Type 0} (p q : X → Bool) → ((x : X) → p x ≡ true → q x ≡ true) → (xs : List X) → list_all p xs ≡ true
    → list_all q xs ≡ true
all-weaker p q weaker [] all = refl
all-weaker p q weaker (x ∷ xs) all =
    let both = and_parts (p x) (list_all p xs) all in
    and_from (q x) (list_all q xs) (weaker x both.0) (all-weaker p q weaker xs both.1)

lettered : (name : List ℕ) → begins_by_letter name ≡ true → list_all is_name_byte name ≡ true → is_lettered name ≡ true
lettered [] begins bytes = begins
lettered (b ∷ rest) begins bytes =
    and_from (is_letter b) (list_all is_set_name_byte rest) begins
    (all-weaker is_name_byte is_set_name_byte set-byte rest (and_parts (is_name_byte b) (list_all is_name_byte rest) bytes).1)

pub set-name : (name : List ℕ) → is_name name ≡ true → is_set_name name ≡ true
set-name name is =
    let outer = and_parts (begins_by_letter name && list_all is_name_byte name && nat_le (length name) 40)
    (not (is_reserved_word name)) is in
    let inner = and_parts (begins_by_letter name && list_all is_name_byte name) (nat_le (length name) 40) outer.0 in
    let bytes = and_parts (begins_by_letter name) (list_all is_name_byte name) inner.0 in
    let short = leb-true (length name) 40 inner.1 in
    and_from (is_lettered name) (nat_le (length name) 50) (lettered name bytes.0 bytes.1) (le-leb (length name) 50 (omega arith))

-- what items declare

abbrev var_texts : Item → Names
var_texts (item.Variable w name of init) = name.text ∷ []
var_texts _ = []

abbrev memory_texts : Item → Names
memory_texts (item.Held side name cond hold) = name.text ∷ []
memory_texts (item.Hyst side name term lo hi start) = name.text ∷ []
memory_texts _ = []

abbrev block_texts : Item → Names
block_texts (item.Block name takes uses facts) = name.text ∷ []
block_texts _ = []

abbrev shown_texts : Item → Names
shown_texts (item.Block name takes uses facts) = texts (flat_map fact_words facts)
shown_texts _ = []

abbrev enum_texts : Item → Names
enum_texts (item.EnumType name members) = texts members
enum_texts _ = []

abbrev item_texts : Item → Names
item_texts it = texts (item_words it)

entry-names : (k : ℕ) (words : List Word) → names_in (entries k words) ≡ texts words
entry-names k [] = refl
entry-names k (w ∷ words) = ap (λ (names : Names). w.text ∷ names) (entry-names k words)

names-listed : (k : ℕ) (items : List Item) → names_in (listing k items) ≡ flat_map item_texts items
unfolding listing
names-listed k [] = refl
names-listed k (x ∷ xs) =
    map-append (λ (entry : List ℕ × ℕ). entry.0) (entries k (item_words x)) (listing (suc k) xs)
    ∙ ap (λ names. names ++ names_in (listing (suc k) xs)) (entry-names k (item_words x))
    ∙ ap (λ names. item_texts x ++ names) (names-listed (suc k) xs)

var-names : (items : List Item) (env : Env) (before : Places) (xs : List Item)
    → map (λ (v : Var). v.name) (vars_from items env before xs) ≡ flat_map var_texts xs
unfolding vars_from
var-names items env before [] = refl
var-names items env before (x ∷ xs) =
    map-append (λ (v : Var). v.name) (build_var items env before x) (vars_from items env (counted before x) xs)
    ∙ ap (λ names. names ++ map (λ (v : Var). v.name) (vars_from items env (counted before x) xs)) (one x)
    ∙ ap (λ names. var_texts x ++ names) (var-names items env (counted before x) xs)
  where
    one : (it : Item) → map (λ (v : Var). v.name) (build_var items env before it) ≡ var_texts it
    one (item.Variable w name of init) = refl
    one _ = refl

memory-names : (items : List Item) (env : Env) (it : Item) → map memory_name (build_memory items env it) ≡ memory_texts it
memory-names items env (item.Held side name cond hold) = refl
memory-names items env (item.Hyst side name term lo hi start) = refl
memory-names items env _ = refl

block-names : (env : Env) (it : Item) → map (λ (b : Block). b.name) (build_block env it) ≡ block_texts it
block-names env (item.Block name takes uses facts) = refl
block-names env _ = refl

fact-texts : (env : Env) (facts : List FactItem) → flat_map fact_names (map (fact_of env) facts) ≡ texts (flat_map fact_words facts)
fact-texts env [] = refl
fact-texts env (fact.Shows name cond ∷ facts) = ap (λ (names : Names). name.text ∷ names) (fact-texts env facts)
fact-texts env (fact.Goal con ∷ facts) = fact-texts env facts

-- how often a name stands in a list
abbrev often : List ℕ → Names → ℕ
often name names = times (bytes_eq name) names

shown-often : (env : Env) (name : List ℕ) (it : Item)
    → often name (flat_map (λ (b : Block). flat_map fact_names b.facts) (build_block env it)) ≡ often name (shown_texts it)
shown-often env name (item.Block word takes uses facts) =
    total-append (λ x. cond (bytes_eq name x) 1 0) (flat_map fact_names (map (fact_of env) facts)) []
    ∙ ap (λ names. often name names + 0) (fact-texts env facts) ∙ omega arith
shown-often env name _ = refl

item-often : (name : List ℕ) (it : Item)
    → often name (var_texts it) + (often name (memory_texts it) + (often name (block_texts it) + (often name (shown_texts it)
    + often name (enum_texts it)))) ≤ often name (item_texts it)
item-often name (item.Constant word minus value) = omega arith
item-often name (item.RangeType word lo hi) = omega arith
item-often name (item.EnumType word members) = omega arith
item-often name (item.Variable w word of init) = omega arith
item-often name (item.Held side word cond hold) = omega arith
item-often name (item.Hyst side word term lo hi start) = omega arith
item-often name (item.Normal section target columns rows) = omega arith
item-often name (item.Inverted section target headers rows) = omega arith
item-often name (item.Vector section columns rows) = omega arith
item-often name (item.Nat moment cond) = omega arith
item-often name (item.Block word takes uses facts) = omega arith

-- each name of an item is one

facts-named : (facts : List FactItem) → list_all is_fact facts ≡ true → list_all is_word (flat_map fact_words facts) ≡ true
facts-named [] all = refl
facts-named (fact.Shows name cond ∷ facts) all =
    let both = and_parts (is_fact (fact.Shows name cond)) (list_all is_fact facts) all in
    and_from (is_word name) (list_all is_word (flat_map fact_words facts)) (and_parts (is_word name) (is_expr cond) both.0).0
    (facts-named facts both.1)
facts-named (fact.Goal con ∷ facts) all = facts-named facts (and_parts (is_fact (fact.Goal con)) (list_all is_fact facts) all).1

one-word : (w : Word) → is_word w ≡ true → list_all is_word (w ∷ []) ≡ true
one-word w is = and_from (is_word w) true is refl

members-named : (word : Word) (members : List Word) → is_item (item.EnumType word members) ≡ true
    → (is_word word ≡ true) × (list_all is_word members ≡ true)
members-named word members lawful =
    let outer = and_parts (is_word word && is_count 64 (length members)) (list_all is_word members) lawful in
    ((and_parts (is_word word) (is_count 64 (length members)) outer.0).0, outer.1)

words-named : (it : Item) → is_item it ≡ true → list_all is_word (item_words it) ≡ true
words-named (item.Constant word minus value) lawful = one-word word (and_parts (is_word word) (is_number value.value) lawful).0
words-named (item.RangeType word lo hi) lawful =
    one-word word (and_parts (is_word word) (is_bound lo) (and_parts (is_word word && is_bound lo) (is_bound hi) lawful).0).0
words-named (item.EnumType word members) lawful =
    let named = members-named word members lawful in
    and_from (is_word word) (list_all is_word members) named.0 named.1
words-named (item.Variable w word of init) lawful =
    one-word word (and_parts (is_word word) (is_kind of) (and_parts (is_word word && is_kind of) (is_init init) lawful).0).0
words-named (item.Held side word cond hold) lawful =
    let outer = and_parts (is_side side && is_word word && is_expr cond) (is_hold hold) lawful in
    let inner = and_parts (is_side side && is_word word) (is_expr cond) outer.0 in
    one-word word (and_parts (is_side side) (is_word word) inner.0).1
words-named (item.Hyst side word term lo hi start) lawful =
    let outer = and_parts (is_side side && is_word word && is_expr term && is_bound lo) (is_bound hi) lawful in
    let inner = and_parts (is_side side && is_word word && is_expr term) (is_bound lo) outer.0 in
    let front = and_parts (is_side side && is_word word) (is_expr term) inner.0 in
    one-word word (and_parts (is_side side) (is_word word) front.0).1
words-named (item.Normal section target columns rows) lawful = refl
words-named (item.Inverted section target headers rows) lawful = refl
words-named (item.Vector section columns rows) lawful = refl
words-named (item.Nat moment cond) lawful = refl
words-named (item.Block word takes uses facts) lawful =
    let outer = and_parts (is_word word && are_listed takes && are_listed uses && nat_le 1 (length facts))
    (list_all is_fact facts) lawful in
    let inner = and_parts (is_word word && are_listed takes && are_listed uses) (nat_le 1 (length facts)) outer.0 in
    let front = and_parts (is_word word && are_listed takes) (are_listed uses) inner.0 in
    and_from (is_word word) (list_all is_word (flat_map fact_words facts)) (and_parts (is_word word) (are_listed takes) front.0).0
    (facts-named facts outer.1)

texts-named : (words : List Word) → list_all is_word words ≡ true → (name : List ℕ) → Contains (texts words) name → is_name name ≡ true
texts-named words all name has =
    let at = place-of (texts words) name has in
    let word = mapped (λ (w : Word). w.text) words at.0 name at.1 in
    subst (λ n. is_name n ≡ true) word.2 (all_pass is_word words all word.0 (contained words at.0 word.0 word.1))

-- truths are no names
no-truth : (name : List ℕ) → Contains (codes "false" ∷ codes "true" ∷ []) name → is_name name ≡ true → ⊥
unfolding is_reserved_word reserved_words
no-truth name has is = elim (first-or (codes "false") (codes "true" ∷ []) name has) [
  | inl same ↦ true≢false (sym is ∙ ap is_name (sym same))
  | inr rest ↦ true≢false (sym is ∙ ap is_name (sym (only (codes "true") name rest)))
]

truths-differ : AreDistinct (codes "false" ∷ codes "true" ∷ [])
truths-differ = distinct-by bytes_eq same-self (codes "false" ∷ codes "true" ∷ []) few
  where
    apart : (name : List ℕ) → bytes_eq name (codes "false") ≡ true → bytes_eq name (codes "true") ≡ true → ⊥
    apart name a b =
        let one = sym ((bytes_eq-Decides name (codes "false")).0 a) ∙ (bytes_eq-Decides name (codes "true")).0 b in
        true≢false (ap (bytes_eq (codes "false")) one)

    few : (name : List ℕ) → often name (codes "false" ∷ codes "true" ∷ []) ≤ 1
    few name = by (bytes_eq name (codes "false")) (bytes_eq name (codes "true")) (apart name)
      where
        by : (a b : Bool) → (a ≡ true → b ≡ true → ⊥) → cond {A = ℕ} a 1 0 + (cond {A = ℕ} b 1 0 + 0) ≤ 1
        by true true never = absurd (never refl refl)
        by true false never = omega arith
        by false true never = omega arith
        by false false never = omega arith

module _ (items : List Item) (env : Env) (all : list_all is_item items ≡ true) (differ : AreDistinct (names_in (listing 0 items)))
  where
    abbrev vars : List Var
    vars = vars_from items env no_places items

    abbrev memories : List Memory
    memories = flat_map (build_memory items env) items

    abbrev blocks : List Block
    blocks = flat_map (build_block env) items

    once : (name : List ℕ) → often name (flat_map item_texts items) ≤ 1
    once name = few-times (bytes_eq name) (flat_map item_texts items)
        (λ k l x y at_k at_l p q. subst AreDistinct (names-listed 0 items) differ k l name
        (at_k ∙ ap (λ (n : List ℕ). Some n) (sym ((bytes_eq-Decides name x).0 p)))
        (at_l ∙ ap (λ (n : List ℕ). Some n) (sym ((bytes_eq-Decides name y).0 q))))

    by-items : (name : List ℕ) (f : Item → Names) → often name (flat_map f items) ≡ total (λ it. often name (f it)) items
    by-items name f = total-flat (λ x. cond (bytes_eq name x) 1 0) f items

    -- as often as a name stands among those of declarations and members, so often it stands in the text
    declared-often : (name : List ℕ) → often name (declared_names vars memories blocks) + total (λ it. often name (enum_texts it)) items
        ≤ often name (flat_map item_texts items)
    declared-often name =
        let v : often name (map (λ (v : Var). v.name) vars) ≡ total (λ it. often name (var_texts it)) items =
        ap (often name) (var-names items env no_places items) ∙ by-items name var_texts in
        let m : often name (map memory_name memories) ≡ total (λ it. often name (memory_texts it)) items =
        ap (often name) (map-flat memory_name (build_memory items env) items)
        ∙ by-items name (λ it. map memory_name (build_memory items env it))
        ∙ ap (λ (f : Item → Names). total (λ it. often name (f it)) items) (λ i it. memory-names items env it i) in
        let b : often name (map (λ (b : Block). b.name) blocks) ≡ total (λ it. often name (block_texts it)) items =
        ap (often name) (map-flat (λ (b : Block). b.name) (build_block env) items)
        ∙ by-items name (λ it. map (λ (b : Block). b.name) (build_block env it))
        ∙ ap (λ (f : Item → Names). total (λ it. often name (f it)) items) (λ i it. block-names env it i) in
        let s : often name (flat_map (λ (b : Block). flat_map fact_names b.facts) blocks)
        ≡ total (λ it. often name (shown_texts it)) items =
        total-flat (λ x. cond (bytes_eq name x) 1 0) (λ (b : Block). flat_map fact_names b.facts) blocks
        ∙ total-flat (λ (b : Block). often name (flat_map fact_names b.facts)) (build_block env) items
        ∙ ap (λ (f : Item → ℕ). total f items)
        (λ i it. (sym (total-flat (λ x. cond (bytes_eq name x) 1 0) (λ (b : Block). flat_map fact_names b.facts) (build_block env it))
        ∙ shown-often env name it) i) in
        let j = total-append (λ x. cond (bytes_eq name x) 1 0) (map (λ (v : Var). v.name) vars) (map memory_name memories) in
        let k = total-append (λ x. cond (bytes_eq name x) 1 0) (map (λ (v : Var). v.name) vars ++ map memory_name memories)
        (map (λ (b : Block). b.name) blocks) in
        let l = total-append (λ x. cond (bytes_eq name x) 1 0) (map (λ (v : Var). v.name) vars ++ map memory_name memories
        ++ map (λ (b : Block). b.name) blocks) (flat_map (λ (b : Block). flat_map fact_names b.facts) blocks) in
        let p = total-plus (λ it. often name (shown_texts it)) (λ it. often name (enum_texts it)) items in
        let q = total-plus (λ it. often name (block_texts it)) (λ it. often name (shown_texts it) + often name (enum_texts it)) items in
        let r = total-plus (λ it. often name (memory_texts it)) (λ it. often name (block_texts it) + (often name (shown_texts it)
        + often name (enum_texts it))) items in
        let t = total-plus (λ it. often name (var_texts it)) (λ it. often name (memory_texts it) + (often name (block_texts it)
        + (often name (shown_texts it) + often name (enum_texts it)))) items in
        let whole = by-items name item_texts in
        let each = total-le (λ it. often name (var_texts it) + (often name (memory_texts it) + (often name (block_texts it)
        + (often name (shown_texts it) + often name (enum_texts it))))) (λ it. often name (item_texts it)) items (item-often name) in
        omega arith

    -- each declared name is a name of the text
    declared-named : (name : List ℕ) → Contains (declared_names vars memories blocks) name → is_name name ≡ true
    declared-named name has =
        let at = place-of (declared_names vars memories blocks) name has in
        let here = some-times (bytes_eq name) (declared_names vars memories blocks) at.0 name at.1 (same-self name) in
        let most = declared-often name in
        let there = times-some (bytes_eq name) (flat_map item_texts items) (omega arith) in
        let one = from_one item_texts items there.1 (contained (flat_map item_texts items) there.0 there.1 there.2) in
        let lawful = all_pass is_item items all one.1 (contained items one.0 one.1 one.2) in
        subst (λ n. is_name n ≡ true) (sym ((bytes_eq-Decides name there.1).0 there.3))
        (texts-named (item_words one.1) (words-named one.1 lawful) there.1 one.3)

    declared-once : (name : List ℕ) → often name (declared_names vars memories blocks) ≤ 1
    declared-once name =
        let most = declared-often name in
        let few = once name in
        omega arith

    -- members of an item's enum type
    members-often : (name : List ℕ) (k : ℕ) (word : Word) (members : List Word) → slice_get items k ≡ Some (item.EnumType word members)
        → often name (texts members) ≤ total (λ it. often name (enum_texts it)) items
    members-often name k word members at = term-le (λ it. often name (enum_texts it)) items k (item.EnumType word members) at

    members-lawful : (k : ℕ) (word : Word) (members : List Word) → slice_get items k ≡ Some (item.EnumType word members)
        → list_all is_word members ≡ true
    members-lawful k word members at =
        (members-named word members (all_pass is_item items all (item.EnumType word members)
        (contained items k (item.EnumType word members) at))).1

    member-sets : (values : Values) → Fit items values → list_all is_set_name (value_members items values) ≡ true
    member-sets (Numbers lo hi) fit = refl
    member-sets Truths fit = refl
    member-sets (Members k count) fit =
        subst (λ names. list_all is_set_name names ≡ true) (sym (value-members items k count fit))
        (all-pass is_set_name (texts fit.members) (λ n has. set-name n
        (texts-named fit.members (members-lawful k fit.word fit.members fit.at) n has)))
    member-sets Untyped fit = refl

    nothing-differs : AreDistinct {A = List ℕ} []
    nothing-differs k l name at_k at_l = absurd (none-some name at_k)

    members-once : (k : ℕ) (word : Word) (members : List Word) → slice_get items k ≡ Some (item.EnumType word members) → (name : List ℕ)
        → often name (texts members) ≤ 1
    members-once k word members at name =
        let part = members-often name k word members at in
        let most = declared-often name in
        let few = once name in
        omega arith

    member-differ : (values : Values) → Fit items values → AreDistinct (value_members items values)
    member-differ (Numbers lo hi) fit = nothing-differs
    member-differ Truths fit = truths-differ
    member-differ (Members k count) fit =
        subst AreDistinct (sym (value-members items k count fit))
        (distinct-by bytes_eq same-self (texts fit.members) (members-once k fit.word fit.members fit.at))
    member-differ Untyped fit = nothing-differs

    member-apart : (values : Values) → Fit items values → (name : List ℕ) → Contains (value_members items values) name
        → Contains (declared_names vars memories blocks) name → ⊥
    member-apart (Numbers lo hi) fit name has declared = nothing-in name has
    member-apart Truths fit name has declared = no-truth name has (declared-named name declared)
    member-apart (Members k count) fit name has declared =
        let at = place-of (texts fit.members) name (subst (λ names. Contains names name) (value-members items k count fit) has) in
        let of = place-of (declared_names vars memories blocks) name declared in
        let a = some-times (bytes_eq name) (texts fit.members) at.0 name at.1 (same-self name) in
        let b = some-times (bytes_eq name) (declared_names vars memories blocks) of.0 name of.1 (same-self name) in
        let part = members-often name k fit.word fit.members fit.at in
        let most = declared-often name in
        let few = once name in
        absurd (omega arith)
    member-apart Untyped fit name has declared = nothing-in name has

    pub names-lawful : (name : List ℕ) → is_name name ≡ true
        → ((x : ℕ) (v : Var) → slice_get vars x ≡ Some v → (values : Values) × (v.members ≡ value_members items values) × Fit items values)
        → AreNamed name vars memories blocks
    names-lawful name named fits = record {
      set = set-name name named;
      declared = all-pass is_set_name (declared_names vars memories blocks) (λ n has. set-name n (declared-named n has));
      differ = distinct-by bytes_eq same-self (declared_names vars memories blocks) declared-once;
      members = λ x v at.
          let f = fits x v at in subst (λ names. list_all is_set_name names ≡ true) (sym f.1) (member-sets f.0 f.2);
      members_differ = λ x v at. let f = fits x v at in subst AreDistinct (sym f.1) (member-differ f.0 f.2);
      members_apart = λ x v member at has.
          let f = fits x v at in member-apart f.0 f.2 member (subst (λ names. Contains names member) f.1 has);
    }
