-- The terms that expressions spell. Each expression has one: a part that spells none counts as the number 0.
use Rattle.std.specs.Prelude.{nat_le, ℤ, pos, neg_ℤ, ◌+ℤ◌, ◌-ℤ◌, ◌*ℤ◌, int_le, unsigned_abs, Bool, true, false, Option, Some, None}
use Rattle.std.specs.Prelude.{if◌then◌else◌}
use Rattle.ft_base.specs.Division.{floor_of}
use Rattle.ft_tree.specs.declared.expr.Op.{Op}
use Rattle.ft_tree.specs.declared.expr.Op.TheVariants as op
use Rattle.ft_tree.specs.declared.expr.Expr.{Expr, Expr-F, fold-Expr, para-Expr}
use Rattle.ft_tree.specs.declared.expr.Expr.TheOpen as layer
use Rattle.ft_core.specs.declared.term.Term.{Term}
use Rattle.ft_core.specs.declared.term.Term.TheVariants.{Num, Now, Prev, Age, Neg, Add, Sub, Times, Div}
use Rattle.ft_names.specs.declared.card.Card.{Card}
use Rattle.ft_names.specs.declared.card.Card.TheVariants as card
use Rattle.ft_names.specs.meaning.Cards.{Env}

-- a value of a constant expression is known up to the greatest size of a term
abbrev pub kept : ℤ → Option ℤ
kept z = if nat_le (unsigned_abs z) 1000000000000000 then Some z else None

abbrev pub name_value : Option Card → Option ℤ
name_value (Some (card.Constant value)) = kept value
name_value _ = None

abbrev pub negated : Option ℤ → Option ℤ
negated None = None
negated (Some a) = kept (neg_ℤ a)

-- a quotient rounded down; the divisor is above 0
abbrev pub quotient : (a k : ℤ) → Option ℤ
quotient a k = if int_le (pos 1) k then kept (floor_of a k) else None

abbrev pub both_value : Op → (a b : ℤ) → Option ℤ
both_value op.Add a b = kept (a +ℤ b)
both_value op.Sub a b = kept (a -ℤ b)
both_value op.Mul a b = kept (a *ℤ b)
both_value op.Div a b = quotient a b
both_value op.Or a b = None
both_value op.And a b = None
both_value op.Eq a b = None
both_value op.Ne a b = None
both_value op.Lt a b = None
both_value op.Le a b = None
both_value op.Gt a b = None
both_value op.Ge a b = None

abbrev pub operator_value : Op → Option ℤ → Option ℤ → Option ℤ
operator_value o (Some a) (Some b) = both_value o a b
operator_value o _ _ = None

abbrev pub value_layer : Env → Expr-F (Option ℤ) → Option ℤ
value_layer env (layer.Num value place) = kept (pos value)
value_layer env (layer.Name name place) = name_value (env name)
value_layer env (layer.Truth value place) = None
value_layer env (layer.Prev name place) = None
value_layer env (layer.Age name place) = None
value_layer env (layer.Not of place) = None
value_layer env (layer.Neg of place) = negated of
value_layer env (layer.Two o left right place) = operator_value o left right

-- the value of an expression of numbers and constants, where it and those of its parts are known
unfoldable pub value_of : Env → Expr → Option ℤ
value_of env = fold-Expr (Option ℤ) (value_layer env)

-- a constant term is its value
abbrev pub folded : Option ℤ → Term → Term
folded None e = e
folded (Some value) e = Num value

abbrev pub name_term : Option Card → Term
name_term (Some (card.Constant value)) = Num value
name_term (Some (card.Member item position)) = Num (pos position)
name_term (Some (card.Variable place word values)) = Now place
name_term _ = Num (pos 0)

abbrev pub prev_term : Option Card → Term
prev_term (Some (card.Variable place word values)) = Prev place
prev_term _ = Num (pos 0)

abbrev pub age_term : Option Card → Term
age_term (Some (card.Memory place side hold)) = Age place
age_term _ = Num (pos 0)

abbrev pub truth_value : Bool → ℤ
truth_value true = pos 1
truth_value false = pos 0

-- a product has its constant side as its factor, the left one where both are
abbrev pub product_term : (left right : Option ℤ) → (a b : Term) → Term
product_term (Some factor) right a b = Times factor b
product_term None (Some factor) a b = Times factor a
product_term None None a b = Num (pos 0)

abbrev pub quotient_term : (divisor : Option ℤ) → Term → Term
quotient_term (Some divisor) a = Div a divisor
quotient_term None a = Num (pos 0)

abbrev pub operator_term : Op → (left right : Option ℤ) → (a b : Term) → Term
operator_term op.Add left right a b = Add a b
operator_term op.Sub left right a b = Sub a b
operator_term op.Mul left right a b = product_term left right a b
operator_term op.Div left right a b = quotient_term right a
operator_term op.Or left right a b = Num (pos 0)
operator_term op.And left right a b = Num (pos 0)
operator_term op.Eq left right a b = Num (pos 0)
operator_term op.Ne left right a b = Num (pos 0)
operator_term op.Lt left right a b = Num (pos 0)
operator_term op.Le left right a b = Num (pos 0)
operator_term op.Gt left right a b = Num (pos 0)
operator_term op.Ge left right a b = Num (pos 0)

-- each operand comes with its own term
abbrev pub term_layer : Env → Expr-F (Expr × Term) → Term
term_layer env (layer.Num value place) = folded (kept (pos value)) (Num (pos 0))
term_layer env (layer.Name name place) = name_term (env name)
term_layer env (layer.Truth value place) = Num (truth_value value)
term_layer env (layer.Prev name place) = prev_term (env name)
term_layer env (layer.Age name place) = age_term (env name)
term_layer env (layer.Not of place) = Num (pos 0)
term_layer env (layer.Neg of place) = folded (negated (value_of env of.0)) (Neg of.1)
term_layer env (layer.Two o left right place) =
    folded (operator_value o (value_of env left.0) (value_of env right.0))
    (operator_term o (value_of env left.0) (value_of env right.0) left.1 right.1)

unfoldable pub term_of : Env → Expr → Term
term_of env = para-Expr Term (term_layer env)
