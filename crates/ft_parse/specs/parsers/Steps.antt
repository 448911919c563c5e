-- Steps of parsers that are named here alone.
use Rattle.std.specs.Prelude.{ℕ, Bool, false, List, [], ◌∷◌, ◌++◌, codes, length}
use Rattle.ft_tree.specs.declared.expr.Expr.{Expr}
use Rattle.ft_tree.specs.declared.item.Bound.{Bound}
use Rattle.ft_tree.specs.declared.item.Item.{Item}
use Rattle.ft_tree.specs.declared.item.Number.{Number}
use Rattle.ft_tree.specs.declared.item.Word.{Word}
use Rattle.ft_tree.specs.meaning.Limits.{memories, tables}
use Rattle.ft_read.specs.meaning.Lexeme.{as_word}
use Rattle.ft_read.specs.meaning.Limit.{counted_at, no_pass}
use Rattle.ft_read.specs.meaning.Choices.{as_map, as_side, as_start, as_var_word}
use Rattle.ft_read.specs.parsers.Parts.{bound_by, name_by, number_by, sign_by, word_by}
use Rattle.ft_read.specs.parsers.Combinators.{Parser, can, alternative_by, give, read_token, ◌▶◌}
use Rattle.ft_read.specs.declared.parts.SectionAt.{SectionAt}
use Rattle.ft_read.specs.declared.stop.LimitWord.TheVariants as limit
use Rattle.ft_parse.specs.meaning.Room.{is_full}
use Rattle.ft_parse.specs.parsers.Expressions.{expression_by}
use Rattle.ft_parse.specs.parsers.Items.{block_by, clause_by, declared_by, sided_by, table_by, variable_by, vector_grid_by}

-- one part more, by the number of those before it
abbrev pub one_more : {A : Type 0} → (ℕ → Parser A) → List A → Parser (List A)
one_more part before = part (length before) ▶ λ b. give (before ++ b ∷ [])

-- a vector table after its section
abbrev pub vector_by : List Item → SectionAt → Parser Item
vector_by before s = read_token (as_word (codes "vector")) (counted_at (is_full tables before) limit.Tables s.place) ▶ λ _. vector_grid_by
    s.word

-- a memory's name and its condition or term, with the comma after it
abbrev pub condition_by : List Item → Parser (Word × Expr)
condition_by before =
    declared_by memories limit.Memories before ▶ λ w. sign_by (codes "(") ▶ λ _. expression_by false ▶ λ e. sign_by (codes ",") ▶ λ _. give
    (w, e)

-- the end of a memory
abbrev pub close_by : Parser (Unit {0})
close_by = sign_by (codes ")") ▶ λ _. sign_by (codes ";") ▶ λ _. give tt

-- the lower and the upper bound of a band, and its start
abbrev pub limits_by : Parser (Bound × Bound × Bool)
limits_by = bound_by ▶ λ lo. sign_by (codes ",") ▶ λ _. bound_by ▶ λ hi. sign_by (codes ",") ▶ λ _. read_token as_start no_pass ▶ λ start.
    give (lo, hi, start)

-- an item that begins with words for a variable, a side or a map, a clause, or a block
abbrev pub worded_by : List Item → Parser Item
worded_by before =
    alternative_by (can as_var_word) (read_token as_var_word no_pass ▶ variable_by before)
    (alternative_by (can as_side) (read_token as_side no_pass ▶ sided_by before)
    (alternative_by (can as_map) (read_token as_map no_pass ▶ table_by before)
    (alternative_by (can (as_word (codes "nat"))) (clause_by before)
    (block_by before))))

-- a set's name and its period
abbrev pub start_by : Parser (List ℕ × Number)
start_by =
    word_by (codes "set") ▶ λ _. name_by ▶ λ w. sign_by (codes ";") ▶ λ _. word_by (codes "period") ▶ λ _. number_by ▶ λ period. word_by
    (codes "ms") ▶ λ _.
    sign_by (codes ";") ▶ λ _. give (w.text, period)
