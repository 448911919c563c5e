-- How many parts of each sort the set of a lawful tree has.
use Rattle.std.proofs.Common.{◌≡◌, ◌∙◌, sym, ap, subst, refl, ℕ, ◌+◌, ◌≤◌, Bool, true, false, cond, List, [], ◌∷◌, ◌++◌, length, arith}
use Rattle.std.proofs.Common.{length-append}
use Rattle.std.specs.Prelude.{count_by, sum_by, if◌then◌else◌}
use Rattle.std.specs.List.{flat_map}
use Rattle.std.proofs.lemmas.List.{length-map}
use Rattle.ft_tree.specs.declared.item.NatWord.{NatWord}
use Rattle.ft_tree.specs.declared.item.NatWord.TheVariants.{First, Always, Step}
use Rattle.ft_tree.specs.declared.item.Item.{Item}
use Rattle.ft_tree.specs.declared.item.Item.TheVariants as item
use Rattle.ft_tree.specs.meaning.Limits.{Sort, blocks, clauses, facts_of, is_same_sort, limit_of, memories, sort_of, tables, variables}
use Rattle.ft_core.specs.declared.tables.Block.{Block}
use Rattle.ft_core.specs.declared.term.Cond.{Cond}
use Rattle.ft_names.specs.meaning.Cards.{Env, declares_memory, declares_variable}
use Rattle.ft_build.specs.meaning.Blocks.{build_block, fact_of}
use Rattle.ft_build.specs.meaning.Conditions.{cond_of}
use Rattle.ft_build.specs.meaning.Tables.{build_clause, build_memory, build_table, is_moment}
use Rattle.ft_build.specs.meaning.Variables.{no_places, vars_from}
use Rattle.ft_admit.proofs.forms.Lists.{length-flat, times, times-is, total, total-flat, total-is, total-le}
use Rattle.ft_admit.proofs.forms.Variables.{vars-length}

abbrev one_of : Sort → Item → ℕ
one_of sort it = cond (is_same_sort sort (sort_of it)) 1 0

variable-sort : (it : Item) → cond {A = ℕ} (declares_variable it) 1 0 ≤ one_of variables it
variable-sort (item.Variable w name of init) = omega arith
variable-sort _ = omega arith

-- an item declares a memory or none
pub memory-length : (items : List Item) (env : Env) (it : Item) → length (build_memory items env it) ≡ cond (declares_memory it) 1 0
memory-length items env (item.Held side name cond hold) = refl
memory-length items env (item.Hyst side name term lo hi start) = refl
memory-length items env _ = refl

memory-sort : (items : List Item) (env : Env) (it : Item) → length (build_memory items env it) ≤ one_of memories it
memory-sort items env (item.Held side name cond hold) = omega arith
memory-sort items env (item.Hyst side name term lo hi start) = omega arith
memory-sort items env _ = omega arith

table-sort : (env : Env) (it : Item) → length (build_table env it) ≤ one_of tables it
table-sort env (item.Normal section target columns rows) = omega arith
table-sort env (item.Inverted section target headers rows) = omega arith
table-sort env (item.Vector section columns rows) = omega arith
table-sort env _ = omega arith

at-most-one : (b : Bool) (c : Cond) → length (if b then c ∷ [] else []) ≤ 1
at-most-one true c = omega arith
at-most-one false c = omega arith

clause-sort : (m : NatWord) (env : Env) (it : Item) → length (build_clause m env it) ≤ one_of clauses it
clause-sort m env (item.Nat n cond) = at-most-one (is_moment m n) (cond_of env cond)
clause-sort m env _ = omega arith

block-sort : (env : Env) (it : Item) → length (build_block env it) ≤ one_of blocks it
block-sort env (item.Block name takes uses facts) = omega arith
block-sort env _ = omega arith

block-facts : (env : Env) (it : Item) → total (λ (b : Block). length b.facts) (build_block env it) ≤ facts_of it
block-facts env (item.Block name takes uses facts) = let long = length-map facts (fact_of env) in omega arith
block-facts env _ = omega arith

-- as many memories as items that declare one
pub memories-length : (items : List Item) (env : Env) → length (flat_map (build_memory items env) items) ≡ times declares_memory items
memories-length items env = length-flat (build_memory items env) items ∙ each items
  where
    each : (xs : List Item) → total (λ it. length (build_memory items env it)) xs ≡ times declares_memory xs
    each [] = refl
    each (x ∷ xs) = ap (λ n. n + total (λ it. length (build_memory items env it)) xs) (memory-length items env x)
        ∙ ap (λ n. cond (declares_memory x) 1 0 + n) (each xs)

module _ (items : List Item) (env : Env) (counts : (sort : Sort) → count_by (λ it. is_same_sort sort (sort_of it)) items ≤ limit_of sort)
  where
    limited : (sort : Sort) → total (one_of sort) items ≤ limit_of sort
    limited sort = subst (λ n. n ≤ limit_of sort) (sym (times-is (λ it. is_same_sort sort (sort_of it)) items)) (counts sort)

    pub few-vars : length (vars_from items env no_places items) ≤ 500
    few-vars =
        let long = vars-length items env no_places items in
        let fewer = total-le (λ it. cond (declares_variable it) 1 0) (one_of variables) items variable-sort in
        let few = limited variables in
        omega arith

    pub few-memories : length (flat_map (build_memory items env) items) ≤ 200
    few-memories =
        let long = length-flat (build_memory items env) items in
        let fewer = total-le (λ it. length (build_memory items env it)) (one_of memories) items (memory-sort items env) in
        let few = limited memories in
        omega arith

    pub few-tables : length (flat_map (build_table env) items) ≤ 300
    few-tables =
        let long = length-flat (build_table env) items in
        let fewer = total-le (λ it. length (build_table env it)) (one_of tables) items (table-sort env) in
        let few = limited tables in
        omega arith

    few-of : (m : NatWord) → length (flat_map (build_clause m env) items) ≤ 100
    few-of m =
        let long = length-flat (build_clause m env) items in
        let fewer = total-le (λ it. length (build_clause m env it)) (one_of clauses) items (clause-sort m env) in
        let few = limited clauses in
        omega arith

    pub few-clauses : length (flat_map (build_clause First env) items ++ flat_map (build_clause Always env) items
        ++ flat_map (build_clause Step env) items) ≤ 300
    few-clauses =
        let a = few-of First in
        let b = few-of Always in
        let c = few-of Step in
        let front = length-append (flat_map (build_clause First env) items) (flat_map (build_clause Always env) items) in
        let whole = length-append (flat_map (build_clause First env) items ++ flat_map (build_clause Always env) items)
        (flat_map (build_clause Step env) items) in
        omega arith

    pub few-blocks : length (flat_map (build_block env) items) ≤ 300
    few-blocks =
        let long = length-flat (build_block env) items in
        let fewer = total-le (λ it. length (build_block env it)) (one_of blocks) items (block-sort env) in
        let few = limited blocks in
        omega arith

    pub few-facts : sum_by facts_of items ≤ 300 → sum_by (λ (b : Block). length b.facts) (flat_map (build_block env) items) ≤ 300
    few-facts few =
        let whole = total-is (λ (b : Block). length b.facts) (flat_map (build_block env) items) in
        let each = total-flat (λ (b : Block). length b.facts) (build_block env) items in
        let fewer = total-le (λ it. total (λ (b : Block). length b.facts) (build_block env it)) facts_of items (block-facts env) in
        let all = total-is facts_of items in
        omega arith
