-- The grammar of expressions.
use Rattle.std.specs.Prelude.{ℕ, zero, suc, ◌-◌, ◌≡◌, Bool, List, ◌∷◌, codes, Option}
use Rattle.ft_base.specs.declared.place.Place.{Place}
use Rattle.ft_tree.specs.declared.expr.Expr.{Expr}
use Rattle.ft_tree.specs.declared.expr.Expr.TheVariants as expr
use Rattle.ft_read.specs.meaning.Lexeme.{Lexeme, as_name, as_sign, as_word}
use Rattle.ft_read.specs.meaning.Limit.{opening, within}
use Rattle.ft_read.specs.declared.parts.Site.{Site}
use Rattle.ft_read.specs.declared.parts.Operator.{Operator}
use Rattle.ft_read.specs.meaning.Operators.{two, as_simple, as_product, as_sum, as_relation, as_and, as_or}
use Rattle.ft_parse.specs.meaning.Language.{Language, Step, alternative, nothing, repeated, ◌▷◌, token}

-- an operator and its right operand
abbrev pub right_of : Site → (Lexeme → Option Operator) → Language Expr → Expr → Language Expr
right_of site ops operand left = token ops (within site) ▷ λ o. operand ▷ λ right. nothing (two o left right)

-- operands with operators of one level between them: they group to the left
abbrev pub chain : Site → (Lexeme → Option Operator) → Language Expr → Language Expr
chain site ops operand = operand ▷ repeated (right_of site ops operand)

-- what stands within an opened construct: any expression after `(`, what `not` takes, and what a `-` takes
pub data Nest : Type 0 where
  whole : Nest
  negated : Nest
  signed : Nest

-- `prev` or `age`: its word, "(" name ")"
abbrev pub history : Site → (room : ℕ) → List ℕ → (List ℕ → Place → Expr) → Language Expr
history site room word make =
    token (as_word word) (within site) ▷ λ place. token (as_sign (codes "(")) (opening site room) ▷ λ _.
    token as_name (within site) ▷ λ name. token (as_sign (codes ")")) (within site) ▷ λ _. nothing (make name.text place)

-- "(" expr ")"
abbrev pub group : Site → (Nest → Language Expr) → (room : ℕ) → Language Expr
group site inner room =
    token (as_sign (codes "(")) (opening site room) ▷ λ _. inner whole ▷ λ e. token (as_sign (codes ")")) (within site) ▷ λ _. nothing e

-- number | name | "true" | "false" | "prev" "(" name ")" | "age" "(" name ")" | "(" expr ")"
abbrev pub atom : Site → (Nest → Language Expr) → (room : ℕ) → Language Expr
atom site inner room =
    alternative (token as_simple (within site))
    (alternative (history site room (codes "prev") expr.Prev)
    (alternative (history site room (codes "age") expr.Age)
    (group site inner room)))

-- a word or sign that opens, and its operand
abbrev pub prefixed : Site → (room : ℕ) → (Lexeme → Option Place) → Language Expr → (Expr → Place → Expr) → Language Expr
prefixed site room read operand make = token read (opening site room) ▷ λ place. operand ▷ λ e. nothing (make e place)

-- "-" unary | atom
abbrev pub unary : Site → (Nest → Language Expr) → (room : ℕ) → Language Expr
unary site inner room = alternative (prefixed site room (as_sign (codes "-")) (inner signed) expr.Neg) (atom site inner room)

-- unary { ( "*" | "div" ) unary }
abbrev pub product : Site → (Nest → Language Expr) → (room : ℕ) → Language Expr
product site inner room = chain site as_product (unary site inner room)

-- product { ( "+" | "-" ) product }
abbrev pub sum : Site → (Nest → Language Expr) → (room : ℕ) → Language Expr
sum site inner room = chain site as_sum (product site inner room)

-- sum [ ( "=" | "<>" | "<" | "<=" | ">" | ">=" ) sum ]
abbrev pub comparison : Site → (Nest → Language Expr) → (room : ℕ) → Language Expr
comparison site inner room =
    sum site inner room ▷ λ left. alternative (right_of site as_relation (sum site inner room) left) (nothing left)

-- "not" negation | comparison
abbrev pub negation : Site → (Nest → Language Expr) → (room : ℕ) → Language Expr
negation site inner room =
    alternative (prefixed site room (as_word (codes "not")) (inner negated) expr.Not) (comparison site inner room)

-- negation { "and" negation }
abbrev pub conjunction : Site → (Nest → Language Expr) → (room : ℕ) → Language Expr
conjunction site inner room = chain site as_and (negation site inner room)

-- conjunction { "or" conjunction }
abbrev pub disjunction : Site → (Nest → Language Expr) → (room : ℕ) → Language Expr
disjunction site inner room = chain site as_or (conjunction site inner room)

-- where `inner` is what may stand within, and `room` more may open
abbrev pub layer : Site → (Nest → Language Expr) → (room : ℕ) → Nest → Language Expr
layer site inner room whole = disjunction site inner room
layer site inner room negated = negation site inner room
layer site inner room signed = unary site inner room

-- with at most n open at once
unfoldable pub nested : ℕ → Site → (room : ℕ) → Nest → Language Expr
nested zero site room nest at steps e = ⊥
nested (suc n) site room nest at steps e = layer site (nested n site (room - 1)) room nest at steps e

-- an expression, which may be an entry too many
abbrev pub expression : (is_beyond : Bool) → Language Expr
expression is_beyond at steps e =
    (first : Step) × (more : List Step) × (n : ℕ) × (steps ≡ first ∷ more)
    × nested n (record { before = at; start = first.lexeme.place; is_beyond = is_beyond }) 64 whole at steps e
