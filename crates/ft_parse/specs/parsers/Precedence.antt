-- The parsers by the precedence of operators, and what may stand within an opened construct where so many more may open.
use Rattle.std.specs.Prelude.{ℕ, zero, suc}
use Rattle.ft_tree.specs.declared.expr.Expr.{Expr}
use Rattle.ft_read.specs.parsers.Combinators.{Parser}
use Rattle.ft_read.specs.declared.parts.Site.{Site}
use Rattle.ft_read.specs.declared.operators.Precedence.{Precedence}
use Rattle.ft_read.specs.declared.operators.Precedence.TheVariants.{Disjunction, Conjunction, Comparison, Sum, Product}
use Rattle.ft_read.specs.parsers.Tokens.{ops_of}
use Rattle.ft_parse.specs.meaning.Expressions.{Nest}
use Rattle.ft_parse.specs.parsers.Expressions.{chain_by, conjunction_by, negation_by, nested_by, product_by, refuse, sum_by, unary_by}

abbrev pub operand_by : Precedence → Site → (Nest → Parser Expr) → (room : ℕ) → Parser Expr
operand_by Disjunction = conjunction_by
operand_by Conjunction = negation_by
operand_by Comparison = sum_by
operand_by Sum = product_by
operand_by Product = unary_by

-- what may stand within where so many more may open
abbrev pub inner_by : (room : ℕ) → Site → Nest → Parser Expr
inner_by zero site = refuse
inner_by (suc room) site = nested_by room site

-- operands of a precedence with its operators between them
abbrev pub precedence_by : Precedence → Site → (room : ℕ) → Parser Expr
precedence_by precedence site room = chain_by site (ops_of precedence) (operand_by precedence site (inner_by room site) room)
