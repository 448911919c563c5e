-- Reading expressions from left to right.
use Rattle.std.specs.Prelude.{ℕ, zero, suc, Bool, List, [], ◌∷◌, codes, Option, Err}
use Rattle.ft_base.specs.declared.place.Place.{Place}
use Rattle.ft_tree.specs.declared.expr.Expr.{Expr}
use Rattle.ft_tree.specs.declared.expr.Expr.TheVariants as expr
use Rattle.ft_read.specs.meaning.Lexeme.{Lexeme, as_name, as_sign, as_word}
use Rattle.ft_read.specs.meaning.Limit.{opening, within}
use Rattle.ft_read.specs.declared.parts.Site.{Site}
use Rattle.ft_read.specs.declared.parts.Operator.{Operator}
use Rattle.ft_parse.specs.meaning.Expressions.{Nest, negated, signed, whole}
use Rattle.ft_read.specs.meaning.Operators.{as_and, as_or, as_product, as_relation, as_simple, as_sum, two}
use Rattle.ft_read.specs.parsers.Combinators.{Outcome, Parser, can, alternative_by, give, read_token, state, ◌▶◌}
use Rattle.ft_parse.specs.parsers.Repetition.{many}
use Rattle.ft_read.specs.declared.stop.Stop.TheVariants.{Syntax}

unfoldable pub right_by : Site → (Lexeme → Option Operator) → Parser Expr → Expr → Parser Expr
right_by site ops operand left = read_token ops (within site) ▶ λ o. operand ▶ λ right. give (two o left right)

abbrev pub chain_by : Site → (Lexeme → Option Operator) → Parser Expr → Parser Expr
chain_by site ops operand = operand ▶ many (can ops) (right_by site ops operand)

unfoldable pub history_by : Site → (room : ℕ) → List ℕ → (List ℕ → Place → Expr) → Parser Expr
history_by site room word make =
    read_token (as_word word) (within site) ▶ λ place. read_token (as_sign (codes "(")) (opening site room) ▶ λ _.
    read_token as_name (within site) ▶ λ name. read_token (as_sign (codes ")")) (within site) ▶ λ _. give (make name.text place)

unfoldable pub group_by : Site → (Nest → Parser Expr) → (room : ℕ) → Parser Expr
group_by site inner room =
    read_token (as_sign (codes "(")) (opening site room) ▶ λ _. inner whole ▶ λ e.
    read_token (as_sign (codes ")")) (within site) ▶ λ _. give e

unfoldable pub atom_by : Site → (Nest → Parser Expr) → (room : ℕ) → Parser Expr
atom_by site inner room =
    alternative_by (can as_simple) (read_token as_simple (within site))
    (alternative_by (can (as_word (codes "prev"))) (history_by site room (codes "prev") expr.Prev)
    (alternative_by (can (as_word (codes "age"))) (history_by site room (codes "age") expr.Age)
    (group_by site inner room)))

unfoldable pub prefixed_by : Site → (room : ℕ) → (Lexeme → Option Place) → Parser Expr → (Expr → Place → Expr) → Parser Expr
prefixed_by site room read operand make = read_token read (opening site room) ▶ λ place. operand ▶ λ e. give (make e place)

unfoldable pub unary_by : Site → (Nest → Parser Expr) → (room : ℕ) → Parser Expr
unary_by site inner room =
    alternative_by (can (as_sign (codes "-"))) (prefixed_by site room (as_sign (codes "-")) (inner signed) expr.Neg)
    (atom_by site inner room)

unfoldable pub product_by : Site → (Nest → Parser Expr) → (room : ℕ) → Parser Expr
product_by site inner room = chain_by site as_product (unary_by site inner room)

unfoldable pub sum_by : Site → (Nest → Parser Expr) → (room : ℕ) → Parser Expr
sum_by site inner room = chain_by site as_sum (product_by site inner room)

unfoldable pub comparison_by : Site → (Nest → Parser Expr) → (room : ℕ) → Parser Expr
comparison_by site inner room =
    sum_by site inner room ▶ λ left. alternative_by (can as_relation) (right_by site as_relation (sum_by site inner room) left)
    (give left)

unfoldable pub negation_by : Site → (Nest → Parser Expr) → (room : ℕ) → Parser Expr
negation_by site inner room =
    alternative_by (can (as_word (codes "not"))) (prefixed_by site room (as_word (codes "not")) (inner negated) expr.Not)
    (comparison_by site inner room)

unfoldable pub conjunction_by : Site → (Nest → Parser Expr) → (room : ℕ) → Parser Expr
conjunction_by site inner room = chain_by site as_and (negation_by site inner room)

unfoldable pub disjunction_by : Site → (Nest → Parser Expr) → (room : ℕ) → Parser Expr
disjunction_by site inner room = chain_by site as_or (conjunction_by site inner room)

abbrev pub layer_by : Site → (Nest → Parser Expr) → (room : ℕ) → Nest → Parser Expr
layer_by site inner room whole = disjunction_by site inner room
layer_by site inner room negated = negation_by site inner room
layer_by site inner room signed = unary_by site inner room

-- nothing is read where no more may open
abbrev pub refuse : Nest → Parser Expr
refuse nest s = (Err Syntax, s)

unfoldable pub nested_by : (room : ℕ) → Site → Nest → Parser Expr
nested_by zero site nest s = layer_by site refuse zero nest s
nested_by (suc room) site nest s = layer_by site (nested_by room site) (suc room) nest s

abbrev pub expression_from : (is_beyond : Bool) → ℕ → List Lexeme → Outcome Expr
expression_from is_beyond at [] = (Err Syntax, state at [])
expression_from is_beyond at (l ∷ rest) =
    nested_by 64 (record { before = at; start = l.place; is_beyond = is_beyond }) whole (state at (l ∷ rest))

unfoldable pub expression_by : (is_beyond : Bool) → Parser Expr
expression_by is_beyond s = expression_from is_beyond s.at s.rest
