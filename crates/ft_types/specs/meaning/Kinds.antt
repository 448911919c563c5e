-- What an expression is by its outermost form, what its place asks of it, and what may be compared.
use Rattle.std.specs.Prelude.{◌==◌, Bool, true, false, ◌||◌, ◌&&◌}
use Rattle.ft_tree.specs.declared.expr.Op.{Op}
use Rattle.ft_tree.specs.declared.expr.Op.TheVariants as op
use Rattle.ft_names.specs.declared.asked.Asked.{Asked}
use Rattle.ft_names.specs.declared.asked.Asked.TheVariants as asked
use Rattle.ft_names.specs.declared.asked.ExprKind.{ExprKind}
use Rattle.ft_names.specs.declared.asked.ExprKind.TheVariants.{Number, Truth, Members, Condition, Nothing}

abbrev pub is_kind : ExprKind → ExprKind → Bool
is_kind Number Number = true
is_kind Truth Truth = true
is_kind (Members a) (Members b) = a == b
is_kind Condition Condition = true
is_kind Nothing Nothing = true
is_kind _ _ = false

-- a condition: a truth, or what is no term
abbrev pub is_condition : ExprKind → Bool
is_condition kind = is_kind kind Condition || is_kind kind Truth

-- an expression of this kind is what is asked
abbrev pub is_met : Asked → ExprKind → Bool
is_met asked.Condition kind = is_condition kind
is_met (asked.Term needed) kind = is_kind kind needed
is_met asked.Anything kind = true

-- numbers, truths, or members of one type
abbrev pub are_alike : ExprKind → ExprKind → Bool
are_alike Number b = is_kind Number b
are_alike Truth b = is_kind Truth b
are_alike (Members t) b = is_kind (Members t) b
are_alike Condition b = false
are_alike Nothing b = false

-- an operator may stand between expressions of these kinds, as far as it compares them: numbers in any way, members and truths
-- of one type by `=` and `<>` alone
abbrev pub is_comparable : Op → ExprKind → ExprKind → Bool
is_comparable op.Eq a b = are_alike a b
is_comparable op.Ne a b = are_alike a b
is_comparable op.Lt a b = is_kind a Number && is_kind b Number
is_comparable op.Le a b = is_kind a Number && is_kind b Number
is_comparable op.Gt a b = is_kind a Number && is_kind b Number
is_comparable op.Ge a b = is_kind a Number && is_kind b Number
is_comparable op.Or a b = true
is_comparable op.And a b = true
is_comparable op.Add a b = true
is_comparable op.Sub a b = true
is_comparable op.Mul a b = true
is_comparable op.Div a b = true

-- what an operator makes
abbrev pub op_kind : Op → ExprKind
op_kind op.Add = Number
op_kind op.Sub = Number
op_kind op.Mul = Number
op_kind op.Div = Number
op_kind op.Or = Condition
op_kind op.And = Condition
op_kind op.Eq = Condition
op_kind op.Ne = Condition
op_kind op.Lt = Condition
op_kind op.Le = Condition
op_kind op.Gt = Condition
op_kind op.Ge = Condition
