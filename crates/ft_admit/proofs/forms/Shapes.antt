-- The shapes of a fault-free set's tables.
use Rattle.std.proofs.Common.{◌≡◌, ◌∙◌, sym, ap, subst, ℕ, ◌≤◌, true, ◌&&◌}
use Rattle.std.proofs.Common.{nat_le, nat_lt, List, length, map, None, arith}
use Rattle.std.specs.Prelude.{◌==◌}
use Rattle.std.specs.List.{Contains, flat_map, list_all}
use Rattle.std.proofs.lemmas.Bool.{and_from, and_parts, eq-eqb, eqb-true, lt-ltb, leb-true}
use Rattle.std.proofs.lemmas.List.{length-map}
use Rattle.ft_tree.specs.declared.expr.Expr.{Expr}
use Rattle.ft_tree.specs.declared.item.Row.{Row}
use Rattle.ft_tree.specs.declared.item.VRow.{VRow}
use Rattle.ft_tree.specs.declared.item.SectionWord.{SectionWord}
use Rattle.ft_tree.specs.declared.item.Item.{Item}
use Rattle.ft_tree.specs.declared.item.Item.TheVariants as item
use Rattle.ft_tree.specs.meaning.Limits.{are_entries, is_count, is_expr, is_item, is_row, is_vrow, is_word}
use Rattle.ft_core.specs.declared.tables.Table.{Table}
use Rattle.ft_core.specs.meaning.Grids.{is_full, is_shaped}
use Rattle.ft_core.specs.laws.Lists.{all_pass, from_one, mapped}
use Rattle.ft_core.specs.laws.Places.{contained, place-of}
use Rattle.ft_names.specs.meaning.Cards.{Env}
use Rattle.ft_names.specs.meaning.First.{first_of}
use Rattle.ft_types.specs.meaning.Shapes.{first_target, item_shape, row_fault, vector_row_fault}
use Rattle.ft_build.specs.meaning.Conditions.{cond_of}
use Rattle.ft_build.specs.meaning.Tables.{build_table, head_of, inverted_grid, normal_grid, row_conds, row_target, row_terms}
use Rattle.ft_build.specs.meaning.Tables.{table_of, vector_grid, vector_terms}
use Rattle.ft_build.specs.meaning.Terms.{term_of}
use Rattle.ft_admit.proofs.forms.Lists.{all-pass, no-fault, nothing-in, only, passed}

as-wide : {R X : Type 0} (build : R → List X) (rows : List R) (wide : ℕ) → ((row : R) → Contains rows row → length (build row) ≡ wide)
    → (built : List X) → Contains (map build rows) built → (length built == wide) ≡ true
as-wide build rows wide each built has =
    let at = place-of (map build rows) built has in
    let row = mapped build rows at.0 built at.1 in
    eq-eqb (length built) wide (sym (ap length row.2) ∙ each row.0 (contained rows at.0 row.0 row.1))

full : {R X : Type 0} (build : R → List X) (rows : List R) (high wide : ℕ) → high ≡ length rows → 1 ≤ high → 1 ≤ wide
    → ((row : R) → Contains rows row → length (build row) ≡ wide) → is_full high wide (map build rows) ≡ true
full build rows high wide same some_row some_column each =
    and_from (nat_lt 0 high && nat_lt 0 wide && (length (map build rows) == high)) (list_all (λ row. length row == wide) (map build rows))
    (and_from (nat_lt 0 high && nat_lt 0 wide) (length (map build rows) == high)
    (and_from (nat_lt 0 high) (nat_lt 0 wide) (lt-ltb 0 high (omega arith)) (lt-ltb 0 wide (omega arith)))
    (eq-eqb (length (map build rows)) high (length-map rows build ∙ sym same)))
    (all-pass (λ row. length row == wide) (map build rows) (as-wide build rows wide each))

counted-some : (most n : ℕ) → is_count most n ≡ true → 1 ≤ n
counted-some most n is = leb-true 1 n (and_parts (nat_le 1 n) (nat_le n most) is).0

entries-some : (entries : List Expr) → are_entries entries ≡ true → 1 ≤ length entries
entries-some entries is =
    counted-some 32 (length entries) (and_parts (is_count 32 (length entries)) (list_all is_expr entries) is).0

-- of the rows of a table for one variable
rows-wide : {X : Type 0} (s : SectionWord) (target : List ℕ) (build : Expr → X) (rows : List Row) (columns wide : ℕ) → wide ≡ columns
    → first_of (row_fault s target columns) rows ≡ None → (row : Row) → Contains rows row → length (map build row.entries) ≡ wide
rows-wide s target build rows columns wide same none row has =
    length-map row.entries build
    ∙ eqb-true (length row.entries) columns
    (passed (length row.entries == columns) _ (no-fault (row_fault s target columns) rows none row has))
    ∙ sym same

vector-wide : {X : Type 0} (s : SectionWord) (target : List ℕ) (build : Expr → X) (rows : List VRow) (columns wide : ℕ) → wide ≡ columns
    → first_of (vector_row_fault s target columns) rows ≡ None → (row : VRow) → Contains rows row → length (map build row.entries) ≡ wide
vector-wide s target build rows columns wide same none row has =
    length-map row.entries build
    ∙ eqb-true (length row.entries) columns
    (passed (length row.entries == columns) _ (no-fault (vector_row_fault s target columns) rows none row has))
    ∙ sym same

shaped-item : (env : Env) (it : Item) → is_item it ≡ true → item_shape it ≡ None → (table : Table) → Contains (build_table env it) table
    → is_shaped table.grid ≡ true
shaped-item env (item.Normal s target columns rows) lawful none table has =
    let outer = and_parts (is_word target && are_entries columns && is_count 32 (length rows)) (list_all is_row rows) lawful in
    let inner = and_parts (is_word target && are_entries columns) (is_count 32 (length rows)) outer.0 in
    let some_column = entries-some columns (and_parts (is_word target) (are_entries columns) inner.0).1 in
    let some_row = counted-some 32 (length rows) inner.1 in
    let high = length-map rows (head_of env) in
    let wide = length-map columns (cond_of env) in
    subst (λ (t : Table). is_shaped t.grid ≡ true) (only (table_of s (normal_grid env target.text columns rows)) table has)
    (full (row_terms env) rows (length (map (head_of env) rows)) (length (map (cond_of env) columns)) high (omega arith) (omega arith)
    (rows-wide s target.text (term_of env) rows (length columns) (length (map (cond_of env) columns)) wide none))
shaped-item env (item.Inverted s target headers rows) lawful none table has =
    let outer = and_parts (is_word target && are_entries headers && is_count 32 (length rows)) (list_all is_row rows) lawful in
    let inner = and_parts (is_word target && are_entries headers) (is_count 32 (length rows)) outer.0 in
    let some_column = entries-some headers (and_parts (is_word target) (are_entries headers) inner.0).1 in
    let some_row = counted-some 32 (length rows) inner.1 in
    let high = length-map rows (head_of env) in
    let wide = length-map headers (term_of env) in
    subst (λ (t : Table). is_shaped t.grid ≡ true) (only (table_of s (inverted_grid env target.text headers rows)) table has)
    (full (row_conds env) rows (length (map (head_of env) rows)) (length (map (term_of env) headers)) high (omega arith) (omega arith)
    (rows-wide s target.text (cond_of env) rows (length headers) (length (map (term_of env) headers)) wide none))
shaped-item env (item.Vector s columns rows) lawful none table has =
    let outer = and_parts (are_entries columns && is_count 32 (length rows)) (list_all is_vrow rows) lawful in
    let inner = and_parts (are_entries columns) (is_count 32 (length rows)) outer.0 in
    let some_column = entries-some columns inner.0 in
    let some_row = counted-some 32 (length rows) inner.1 in
    let high = length-map rows (row_target env) in
    let wide = length-map columns (cond_of env) in
    subst (λ (t : Table). is_shaped t.grid ≡ true) (only (table_of s (vector_grid env columns rows)) table has)
    (full (vector_terms env) rows (length (map (row_target env) rows)) (length (map (cond_of env) columns)) high (omega arith) (omega arith)
    (vector-wide s (first_target rows) (term_of env) rows (length columns) (length (map (cond_of env) columns)) wide none))
shaped-item env _ lawful none table has = absurd (nothing-in table has)

pub shaped : (items : List Item) (env : Env) → list_all is_item items ≡ true → first_of item_shape items ≡ None
    → list_all (λ table. is_shaped table.grid) (flat_map (build_table env) items) ≡ true
shaped items env all none = all-pass (λ table. is_shaped table.grid) (flat_map (build_table env) items) (λ table has.
    let one = from_one (build_table env) items table has in
    let there = contained items one.0 one.1 one.2 in
    shaped-item env one.1 (all_pass is_item items all one.1 there) (no-fault item_shape items none one.1 there) table one.3)
