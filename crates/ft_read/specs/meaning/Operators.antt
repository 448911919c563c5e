-- What tokens are read as in expressions: operators, and expressions of one token.
use Rattle.std.specs.Prelude.{true, false, codes, Option, Some, None}
use Rattle.ft_base.specs.declared.place.Place.{Place}
use Rattle.ft_tree.specs.declared.expr.Op.{Op}
use Rattle.ft_tree.specs.declared.expr.Op.TheVariants.{Or, And, Eq, Ne, Lt, Le, Gt, Ge, Add, Sub, Mul, Div}
use Rattle.ft_tree.specs.declared.expr.Expr.{Expr}
use Rattle.ft_tree.specs.declared.expr.Expr.TheVariants as expr
use Rattle.ft_read.specs.meaning.Lexeme.{Lexeme, as_name, as_number, as_sign, as_word, or_else}
use Rattle.ft_read.specs.declared.parts.Operator.{Operator}

abbrev pub operator : Op → Option Place → Option Operator
operator op None = None
operator op (Some place) = Some (record { op = op; place = place })

abbrev pub as_or : Lexeme → Option Operator
as_or lexeme = operator Or (as_word (codes "or") lexeme)

abbrev pub as_and : Lexeme → Option Operator
as_and lexeme = operator And (as_word (codes "and") lexeme)

abbrev pub as_relation : Lexeme → Option Operator
as_relation lexeme =
    or_else (operator Eq (as_sign (codes "=") lexeme)) (or_else (operator Ne (as_sign (codes "<>") lexeme))
    (or_else (operator Lt (as_sign (codes "<") lexeme))
    (or_else (operator Le (as_sign (codes "<=") lexeme)) (or_else (operator Gt (as_sign (codes ">") lexeme))
    (operator Ge (as_sign (codes ">=") lexeme))))))

abbrev pub as_sum : Lexeme → Option Operator
as_sum lexeme = or_else (operator Add (as_sign (codes "+") lexeme)) (operator Sub (as_sign (codes "-") lexeme))

abbrev pub as_product : Lexeme → Option Operator
as_product lexeme = or_else (operator Mul (as_sign (codes "*") lexeme)) (operator Div (as_word (codes "div") lexeme))

abbrev pub two : Operator → Expr → Expr → Expr
two o left right = expr.Two o.op left right o.place

-- number | name | "true" | "false"
abbrev pub as_simple : Lexeme → Option Expr
as_simple lexeme =
    or_else (elim (as_number lexeme) [ None ↦ None | Some n ↦ Some (expr.Num n.value n.place) ])
    (or_else (elim (as_name lexeme) [ None ↦ None | Some word ↦ Some (expr.Name word.text word.place) ])
    (or_else (elim (as_word (codes "true") lexeme) [ None ↦ None | Some place ↦ Some (expr.Truth true place) ])
    (elim (as_word (codes "false") lexeme) [ None ↦ None | Some place ↦ Some (expr.Truth false place) ])))
