-- Reading a set and its items from left to right.
use Rattle.std.specs.Prelude.{◌||◌, ℕ, Bool, true, false, List, [], ◌∷◌, ◌++◌, codes, length, nat_le, Option, Some, None}
use Rattle.ft_base.specs.declared.place.Place.{Place}
use Rattle.ft_tree.specs.declared.expr.Expr.{Expr}
use Rattle.ft_tree.specs.declared.item.Word.{Word}
use Rattle.ft_tree.specs.declared.item.Number.{Number}
use Rattle.ft_tree.specs.declared.item.VarWord.{VarWord}
use Rattle.ft_tree.specs.declared.item.SectionWord.{SectionWord}
use Rattle.ft_tree.specs.declared.item.Row.{Row}
use Rattle.ft_tree.specs.declared.item.VRow.{VRow}
use Rattle.ft_tree.specs.declared.item.FactItem.{FactItem}
use Rattle.ft_tree.specs.declared.item.Item.{Item}
use Rattle.ft_tree.specs.meaning.Limits.{Sort, constants, types, variables, memories, tables, clauses, blocks}
use Rattle.ft_tree.specs.declared.item.Item.TheVariants as item
use Rattle.ft_tree.specs.declared.item.FactItem.TheVariants as fact
use Rattle.ft_read.specs.meaning.Lexeme.{Lexeme, as_end, as_name, as_sign, as_word, or_else}
use Rattle.ft_read.specs.meaning.Limit.{no_pass, counted, counted_at}
use Rattle.ft_read.specs.parsers.Combinators.{Parser, can, alternative_by, give, read_token, ◌▶◌}
use Rattle.ft_read.specs.meaning.Choices.{as_map, as_moment, as_side, as_start, as_var_word}
use Rattle.ft_read.specs.declared.parts.SectionAt.{SectionAt}
use Rattle.ft_read.specs.declared.stop.LimitWord.{LimitWord}
use Rattle.ft_read.specs.parsers.Parts.{sign_by, name_by, word_by, value_by, kind_part_by, plain_bound_by, bound_by, number_by, upper_by}
use Rattle.ft_read.specs.declared.stop.LimitWord.TheVariants as limit
use Rattle.ft_parse.specs.parsers.Repetition.{many}
use Rattle.ft_parse.specs.parsers.Expressions.{expression_by}
use Rattle.ft_parse.specs.meaning.Items.{inner_variable}
use Rattle.ft_parse.specs.meaning.Room.{is_full, no_more_facts}
use Rattle.ft_parse.specs.declared.parts.Parts.{Parts}

-- the words that facts begin with
abbrev pub as_fact_word : Lexeme → Option Place
as_fact_word lexeme = or_else (as_word (codes "shows") lexeme) (as_word (codes "goal") lexeme)

-- whether an item begins so
abbrev pub is_item_start : Lexeme → Bool
is_item_start lexeme =
    can (as_word (codes "const")) lexeme || can (as_word (codes "type")) lexeme || can as_var_word lexeme || can as_side lexeme
    || can as_map lexeme
    || can (as_word (codes "nat")) lexeme || can (as_word (codes "block")) lexeme

unfoldable pub declared_by : Sort → LimitWord → List Item → Parser Word
declared_by sort which before = read_token as_name (counted (is_full sort before) which)

unfoldable pub more_entries_by : List Expr → Parser (List Expr)
more_entries_by entries = sign_by (codes ",") ▶ λ _. expression_by (nat_le 32 (length entries)) ▶ λ e. give (entries ++ e ∷ [])

unfoldable pub entries_by : Parser (List Expr)
entries_by = expression_by false ▶ λ e. many (can (as_sign (codes ","))) more_entries_by (e ∷ [])

unfoldable pub more_names_by : (most : ℕ) → LimitWord → List Word → Parser (List Word)
more_names_by most which names =
    sign_by (codes ",") ▶ λ _. read_token as_name (counted (nat_le most (length names)) which) ▶ λ w. give (names ++ w ∷ [])

unfoldable pub names_by : (most : ℕ) → LimitWord → Parser (List Word)
names_by most which = name_by ▶ λ w. many (can (as_sign (codes ","))) (more_names_by most which) (w ∷ [])

unfoldable pub row_word_by : ℕ → Parser Place
row_word_by before = read_token (as_word (codes "row")) (counted (nat_le 32 before) limit.Rows)

unfoldable pub row_by : ℕ → Parser Row
row_by before =
    row_word_by before ▶ λ place. expression_by false ▶ λ head. sign_by (codes ":") ▶ λ _. entries_by ▶ λ cells. sign_by (codes ";") ▶ λ _.
    give (record { place = place; head = head; entries = cells })

unfoldable pub vrow_by : ℕ → Parser VRow
vrow_by before =
    row_word_by before ▶ λ place. name_by ▶ λ target. sign_by (codes ":") ▶ λ _. entries_by ▶ λ cells. sign_by (codes ";") ▶ λ _.
    give (record { place = place; target = target; entries = cells })

unfoldable pub several_by : {A : Type 0} → (Lexeme → Bool) → (ℕ → Parser A) → Parser (List A)
several_by test part = part 0 ▶ λ a. many test (λ before. part (length before) ▶ λ b. give (before ++ b ∷ [])) (a ∷ [])

unfoldable pub header_by : List ℕ → Parser (List Expr)
header_by text = word_by text ▶ λ _. entries_by ▶ λ cells. sign_by (codes ";") ▶ λ _. give cells

unfoldable pub grid_by : List Item → List ℕ → (Word → List Expr → List Row → Item) → Parser Item
grid_by before text make =
    declared_by tables limit.Tables before ▶ λ target. sign_by (codes "{") ▶ λ _. header_by text ▶ λ cells. several_by
    (can (as_word (codes "row"))) row_by ▶ λ rows.
    sign_by (codes "}") ▶ λ _. give (make target cells rows)

unfoldable pub vector_grid_by : SectionWord → Parser Item
vector_grid_by s =
    sign_by (codes "{") ▶ λ _. header_by (codes "columns") ▶ λ cells. several_by (can (as_word (codes "row"))) vrow_by ▶ λ rows.
    sign_by (codes "}") ▶ λ _. give (item.Vector s cells rows)

unfoldable pub table_by : List Item → SectionAt → Parser Item
table_by before s =
    alternative_by (can (as_word (codes "normal"))) (word_by (codes "normal") ▶ λ _. grid_by before (codes "columns") (item.Normal s.word))
    (alternative_by (can (as_word (codes "inverted"))) (word_by (codes "inverted") ▶ λ _. grid_by before (codes "terms")
    (item.Inverted s.word))
    (read_token (as_word (codes "vector")) (counted_at (is_full tables before) limit.Tables s.place) ▶ λ _. vector_grid_by s.word))

unfoldable pub variable_by : List Item → VarWord → Parser Item
variable_by before words =
    declared_by variables limit.Variables before ▶ λ w. sign_by (codes ":") ▶ λ _. kind_part_by ▶ λ of. word_by (codes "init") ▶ λ _.
    value_by ▶ λ init.
    sign_by (codes ";") ▶ λ _. give (item.Variable words w of init)

unfoldable pub held_by : List Item → SectionWord → Parser Item
held_by before side =
    declared_by memories limit.Memories before ▶ λ w. sign_by (codes "(") ▶ λ _. expression_by false ▶ λ cond. sign_by (codes ",") ▶ λ _.
    plain_bound_by ▶ λ hold. word_by (codes "ms") ▶ λ _. sign_by (codes ")") ▶ λ _. sign_by (codes ";") ▶ λ _. give
    (item.Held side w cond hold)

unfoldable pub hyst_by : List Item → SectionWord → Parser Item
hyst_by before side =
    declared_by memories limit.Memories before ▶ λ w. sign_by (codes "(") ▶ λ _. expression_by false ▶ λ term. sign_by (codes ",") ▶ λ _.
    bound_by ▶ λ lo. sign_by (codes ",") ▶ λ _. bound_by ▶ λ hi. sign_by (codes ",") ▶ λ _. read_token as_start no_pass ▶ λ start.
    sign_by (codes ")") ▶ λ _. sign_by (codes ";") ▶ λ _. give (item.Hyst side w term lo hi start)

unfoldable pub sided_by : List Item → SectionAt → Parser Item
sided_by before s =
    alternative_by (can (as_word (codes "var"))) (word_by (codes "var") ▶ λ _. variable_by before (inner_variable s.word))
    (alternative_by (can (as_word (codes "held"))) (word_by (codes "held") ▶ λ _. held_by before s.word)
    (alternative_by (can (as_word (codes "hyst"))) (word_by (codes "hyst") ▶ λ _. hyst_by before s.word)
    (table_by before s)))

unfoldable pub signed_number_by : Parser (Bool × Number)
signed_number_by =
    alternative_by (can (as_sign (codes "-"))) (sign_by (codes "-") ▶ λ _. number_by ▶ λ n. give (true, n))
    (number_by ▶ λ n. give (false, n))

unfoldable pub constant_by : List Item → Parser Item
constant_by before =
    word_by (codes "const") ▶ λ _. declared_by constants limit.Constants before ▶ λ w. sign_by (codes "=") ▶ λ _. signed_number_by ▶ λ n.
    sign_by (codes ";") ▶ λ _. give (item.Constant w n.0 n.1)

unfoldable pub members_by : Word → Parser Item
members_by w =
    sign_by (codes "{") ▶ λ _. names_by 64 limit.Members ▶ λ ms. sign_by (codes "}") ▶ λ _. give (item.EnumType w ms)

unfoldable pub range_type_by : Word → Parser Item
range_type_by w = bound_by ▶ λ lo. upper_by ▶ λ hi. give (item.RangeType w lo hi)

unfoldable pub type_item_by : List Item → Parser Item
type_item_by before =
    word_by (codes "type") ▶ λ _. declared_by types limit.Types before ▶ λ w. sign_by (codes "=") ▶ λ _.
    alternative_by (can (as_sign (codes "{"))) (members_by w) (range_type_by w) ▶ λ made.
    sign_by (codes ";") ▶ λ _. give made

unfoldable pub clause_by : List Item → Parser Item
clause_by before =
    read_token (as_word (codes "nat")) (counted (is_full clauses before) limit.Nat) ▶ λ _. read_token as_moment no_pass ▶ λ moment.
    expression_by false ▶ λ cond.
    sign_by (codes ";") ▶ λ _. give (item.Nat moment cond)

unfoldable pub listed_by : List ℕ → Parser (List Word)
listed_by text = alternative_by (can (as_word text))
    (word_by text ▶ λ _. names_by 300 limit.List ▶ λ ws. sign_by (codes ";") ▶ λ _. give ws) (give [])

unfoldable pub fact_name_by : List Item → ℕ → Parser Word
fact_name_by before facts = read_token as_name (counted (no_more_facts before facts) limit.Facts)

unfoldable pub fact_part_by : List Item → ℕ → Parser FactItem
fact_part_by before facts =
    alternative_by (can (as_word (codes "shows")))
    (word_by (codes "shows") ▶ λ _. fact_name_by before facts ▶ λ w. sign_by (codes ":") ▶ λ _. expression_by false ▶ λ cond.
    sign_by (codes ";") ▶ λ _. give (fact.Shows w cond))
    (word_by (codes "goal") ▶ λ _. fact_name_by before facts ▶ λ w. sign_by (codes ";") ▶ λ _. give (fact.Goal w))

unfoldable pub block_by : List Item → Parser Item
block_by before =
    word_by (codes "block") ▶ λ _. declared_by blocks limit.Blocks before ▶ λ w. sign_by (codes "{") ▶ λ _. listed_by (codes "takes") ▶ λ
    takes.
    listed_by (codes "uses") ▶ λ uses. several_by (can as_fact_word) (fact_part_by before) ▶ λ facts. sign_by (codes "}") ▶ λ _.
    give (item.Block w takes uses facts)

unfoldable pub item_part_by : List Item → Parser Item
item_part_by before =
    alternative_by (can (as_word (codes "const"))) (constant_by before)
    (alternative_by (can (as_word (codes "type"))) (type_item_by before)
    (alternative_by (can as_var_word) (read_token as_var_word no_pass ▶ variable_by before)
    (alternative_by (can as_side) (read_token as_side no_pass ▶ sided_by before)
    (alternative_by (can as_map) (read_token as_map no_pass ▶ table_by before)
    (alternative_by (can (as_word (codes "nat"))) (clause_by before)
    (block_by before))))))

unfoldable pub more_items_by : List Item → Parser (List Item)
more_items_by before = item_part_by before ▶ λ made. give (before ++ made ∷ [])

unfoldable pub setting_by : List ℕ → Parser (Option Number)
setting_by text = alternative_by (can (as_word text)) (word_by text ▶ λ _. number_by ▶ λ n. sign_by (codes ";") ▶ λ _. give (Some n))
    (give None)

unfoldable pub set_by : Parser Parts
set_by =
    word_by (codes "set") ▶ λ _. name_by ▶ λ w. sign_by (codes ";") ▶ λ _. word_by (codes "period") ▶ λ _. number_by ▶ λ period. word_by
    (codes "ms") ▶ λ _.
    sign_by (codes ";") ▶ λ _. setting_by (codes "splits") ▶ λ splits. setting_by (codes "depth") ▶ λ depth. many is_item_start
    more_items_by [] ▶ λ items.
    read_token as_end no_pass ▶ λ _. give (record { name = w.text; period = period; splits = splits; depth = depth; items = items })
