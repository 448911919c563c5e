-- The parts of an expression in the order of its text, each with what its place asks of it.
use Rattle.std.specs.Prelude.{List, [], ◌∷◌, ◌++◌, Option}
use Rattle.ft_tree.specs.declared.expr.Op.{Op}
use Rattle.ft_tree.specs.declared.expr.Op.TheVariants as op
use Rattle.ft_tree.specs.declared.expr.Expr.{Expr, Expr-F, para-Expr}
use Rattle.ft_tree.specs.declared.expr.Expr.TheOpen as layer
use Rattle.ft_tree.specs.declared.expr.Expr.TheVariants as expr
use Rattle.ft_names.specs.declared.asked.Asked.{Asked}
use Rattle.ft_names.specs.declared.asked.Asked.TheVariants.{Condition, Term, Anything}
use Rattle.ft_names.specs.declared.asked.ExprKind.TheVariants.{Number}
use Rattle.ft_names.specs.meaning.First.{first_of}

-- what the operands of an operator have to be
abbrev pub operands : Op → Asked
operands op.Or = Condition
operands op.And = Condition
operands op.Eq = Anything
operands op.Ne = Anything
operands op.Lt = Anything
operands op.Le = Anything
operands op.Gt = Anything
operands op.Ge = Anything
operands op.Add = Term Number
operands op.Sub = Term Number
operands op.Mul = Term Number
operands op.Div = Term Number

-- the parts of an expression whose place asks something of it
abbrev pub PartsAsked : Type 0
PartsAsked = Asked → List (Asked × Expr)

abbrev pub alone : Expr → PartsAsked
alone e asked = (asked, e) ∷ []

-- the parts of one layer, of which each operand comes as that expression with its own parts
abbrev pub parts_layer : Expr-F (Expr × PartsAsked) → PartsAsked
parts_layer (layer.Num value place) asked = alone (expr.Num value place) asked
parts_layer (layer.Name name place) asked = alone (expr.Name name place) asked
parts_layer (layer.Truth value place) asked = alone (expr.Truth value place) asked
parts_layer (layer.Prev name place) asked = alone (expr.Prev name place) asked
parts_layer (layer.Age name place) asked = alone (expr.Age name place) asked
parts_layer (layer.Not of place) asked = (asked, expr.Not of.0 place) ∷ of.1 Condition
parts_layer (layer.Neg of place) asked = (asked, expr.Neg of.0 place) ∷ of.1 (Term Number)
parts_layer (layer.Two op left right place) asked =
    left.1 (operands op) ++ (asked, expr.Two op left.0 right.0 place) ∷ right.1 (operands op)

-- the expression itself and all its parts: a left operand before its operator, and that before the right operand
unfoldable pub parts : Expr → PartsAsked
parts = para-Expr PartsAsked parts_layer

-- the first fault of the parts
unfoldable pub first_part : {Y : Type 0} → (Asked → Expr → Option Y) → Asked → Expr → Option Y
first_part test asked e = first_of (λ part. test part.0 part.1) (parts e asked)
