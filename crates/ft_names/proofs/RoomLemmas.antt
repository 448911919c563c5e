-- A tree within the limits of sets has fewer than 2 ^ 32 items and names.
use Rattle.std.proofs.Common.{◌≡◌, refl, ℕ, suc, ◌+◌, ◌*◌, ◌≤◌, ◌<◌, ◌^◌, ◌&&◌, true, nat_le, List, [], ◌∷◌, length, length-append}
use Rattle.std.proofs.Common.{count_by, sum_by, cond, arith}
use Rattle.std.specs.List.{flat_map, list_all}
use Rattle.std.proofs.lemmas.Bool.{and_parts, leb-true}
use Rattle.std.proofs.lemmas.List.{length-map}
use Rattle.std.proofs.lemmas.List.Sums.{sum_by-cons}
use Rattle.ft_tree.specs.declared.item.Word.{Word}
use Rattle.ft_tree.specs.declared.item.FactItem.{FactItem}
use Rattle.ft_tree.specs.declared.item.FactItem.TheVariants.{Shows, Goal}
use Rattle.ft_tree.specs.declared.item.Item.{Item}
use Rattle.ft_tree.specs.declared.item.Item.TheVariants.{Constant, RangeType, EnumType, Variable, Held, Hyst, Normal, Inverted, Vector, Nat}
use Rattle.ft_tree.specs.declared.item.Item.TheVariants.{Block}
use Rattle.ft_tree.specs.declared.tree.Tree.{Tree}
use Rattle.ft_tree.specs.meaning.Limits.{Sort, constants, types, variables, memories, tables, clauses, blocks, facts_of, is_count, is_item}
use Rattle.ft_tree.specs.meaning.Limits.{is_same_sort, is_word, sort_of}
use Rattle.ft_names.specs.meaning.Declared.{entries, fact_words, item_words, listing}

shown-few : (facts : List FactItem) → length (flat_map fact_words facts) ≤ length facts
shown-few [] = omega arith
shown-few (Shows name cond ∷ facts) = let rest = shown-few facts in omega arith
shown-few (Goal con ∷ facts) = let rest = shown-few facts in omega arith

-- an item declares at most a name with 64 members, or one with its facts
words-few : (item : Item) → is_item item ≡ true → length (item_words item) ≤ 65 + facts_of item
words-few (Constant name sign value) lawful = omega arith
words-few (RangeType name lo hi) lawful = omega arith
words-few (EnumType name members) lawful =
    let outer = and_parts (is_word name && is_count 64 (length members)) (list_all is_word members) lawful in
    let inner = and_parts (is_word name) (is_count 64 (length members)) outer.0 in
    let few = leb-true (length members) 64 (and_parts (nat_le 1 (length members)) (nat_le (length members) 64) inner.1).1 in
    omega arith
words-few (Variable word name of init) lawful = omega arith
words-few (Held side name cond hold) lawful = omega arith
words-few (Hyst side name term lo hi start) lawful = omega arith
words-few (Normal section target columns rows) lawful = omega arith
words-few (Inverted section target headers rows) lawful = omega arith
words-few (Vector section columns rows) lawful = omega arith
words-few (Nat moment cond) lawful = omega arith
words-few (Block name takes uses facts) lawful = let few = shown-few facts in omega arith

names-few : (number : ℕ) (items : List Item) → list_all is_item items ≡ true
    → length (listing number items) ≤ 65 * length items + sum_by facts_of items
unfolding listing
names-few number [] lawful = omega arith
names-few number (x ∷ xs) lawful =
    let parts = and_parts (is_item x) (list_all is_item xs) lawful in
    let here = words-few x parts.0 in
    let rest = names-few (suc number) xs parts.1 in
    let long = length-append (entries number (item_words x)) (listing (suc number) xs) in
    let one : length (entries number (item_words x)) ≡ length (item_words x) = length-map (item_words x) (λ (w : Word).
    (w.text, number)) in
    let sum = sum_by-cons facts_of x xs in
    omega arith

abbrev of_sort : Sort → List Item → ℕ
of_sort sort items = count_by (λ item. is_same_sort sort (sort_of item)) items

-- one for an item of this sort
abbrev pub one_of : Sort → Sort → ℕ
one_of sort other = cond (is_same_sort sort other) 1 0

-- an item is of one sort
one-sort : (s : Sort) → one_of constants s + one_of types s + one_of variables s + one_of memories s + one_of tables s + one_of clauses s
    + one_of blocks s ≡ 1
one-sort constants = refl
one-sort types = refl
one-sort variables = refl
one-sort memories = refl
one-sort tables = refl
one-sort clauses = refl
one-sort blocks = refl

of_sort-cons : (sort : Sort) (x : Item) (xs : List Item) → of_sort sort (x ∷ xs) ≡ one_of sort (sort_of x) + of_sort sort xs
of_sort-cons sort x xs = sum_by-cons (λ (item : Item). cond (is_same_sort sort (sort_of item)) 1 0) x xs

by-sorts : (items : List Item) → length items ≡ of_sort constants items + of_sort types items + of_sort variables items + of_sort
    memories items
    + of_sort tables items + of_sort clauses items + of_sort blocks items
by-sorts [] = refl
by-sorts (x ∷ xs) =
    let rest = by-sorts xs in
    let one = one-sort (sort_of x) in
    let a = of_sort-cons constants x xs in
    let b = of_sort-cons types x xs in
    let c = of_sort-cons variables x xs in
    let d = of_sort-cons memories x xs in
    let e = of_sort-cons tables x xs in
    let f = of_sort-cons clauses x xs in
    let g = of_sort-cons blocks x xs in
    omega arith

pub items-few : (tree : Tree) → length tree.items ≤ 1800
items-few tree =
    let counts = tree.lawful.counts in
    let a = counts constants in
    let b = counts types in
    let c = counts variables in
    let d = counts memories in
    let e = counts tables in
    let f = counts clauses in
    let g = counts blocks in
    let all = by-sorts tree.items in
    omega arith

pub few-items : (tree : Tree) → length tree.items < 2 ^ 32
few-items tree = let few = items-few tree in omega arith

pub few-names : (tree : Tree) → length (listing 0 tree.items) < 2 ^ 32
few-names tree =
    let items = items-few tree in
    let names = names-few 0 tree.items tree.lawful.parts in
    let facts = tree.lawful.facts in
    omega arith

pub few-facts : (tree : Tree) → sum_by facts_of tree.items < 2 ^ 32
few-facts tree = let facts = tree.lawful.facts in omega arith
