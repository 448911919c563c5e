-- What the reader of expressions takes a token for.
use Rattle.std.specs.Prelude.{Option, false, codes, true, Some, None}
use Rattle.ft_tree.specs.declared.expr.Expr.{Expr}
use Rattle.ft_tree.specs.declared.expr.Expr.TheVariants as expr
use Rattle.ft_read.specs.meaning.Lexeme.{Lexeme, as_word, or_else}
use Rattle.ft_read.specs.meaning.Operators.{as_and, as_or, as_product, as_relation, as_sum}
use Rattle.ft_read.specs.declared.parts.Operator.{Operator}
use Rattle.ft_read.specs.declared.operators.Precedence.{Precedence}
use Rattle.ft_read.specs.declared.operators.Precedence.TheVariants.{Disjunction, Conjunction, Comparison, Sum, Product}

abbrev pub ops_of : Precedence → Lexeme → Option Operator
ops_of Disjunction = as_or
ops_of Conjunction = as_and
ops_of Comparison = as_relation
ops_of Sum = as_sum
ops_of Product = as_product

-- "true" | "false" as an expression
abbrev pub as_truth_of : Lexeme → Option Expr
as_truth_of lexeme =
    or_else (elim (as_word (codes "true") lexeme) [ None ↦ None | Some place ↦ Some (expr.Truth true place) ])
    (elim (as_word (codes "false") lexeme) [ None ↦ None | Some place ↦ Some (expr.Truth false place) ])
