-- What is wrong with a term at one place: a product, a factor, a divisor, a size.
use Rattle.std.specs.Prelude.{ℕ, nat_lt, ℤ, pos, int_le, Bool, false, ◌&&◌, Option, Some, None, if◌then◌else◌}
use Rattle.ft_base.specs.declared.place.Place.{Place}
use Rattle.ft_tree.specs.declared.expr.Op.{Op}
use Rattle.ft_tree.specs.declared.expr.Op.TheVariants as op
use Rattle.ft_tree.specs.declared.expr.Expr.{Expr, Expr-F, map-Expr, out-Expr}
use Rattle.ft_tree.specs.declared.expr.Expr.TheOpen as layer
use Rattle.ft_names.specs.meaning.Cards.{Env}
use Rattle.ft_measure.specs.declared.measure.Measure.{Measure}
use Rattle.ft_measure.specs.declared.slope.Slope.{Slope}
use Rattle.ft_measure.specs.declared.slope.Why.{Why}
use Rattle.ft_measure.specs.declared.slope.Why.TheVariants.{Product, Factor, Divisor, Size}
use Rattle.ft_measure.specs.meaning.Measures.{is_above, magnitude, measure, of_age, of_constant, of_name, of_negation, of_operator, of_prev}

-- beyond 1,000,000
abbrev pub is_beyond : Option ℕ → Bool
is_beyond None = false
is_beyond (Some size) = nat_lt 1000000 size

-- a constant of 1 to 1,000,000
abbrev pub is_divisor : Option ℤ → Bool
is_divisor None = false
is_divisor (Some k) = int_le (pos 1) k && int_le k (pos 1000000)

abbrev pub factor_fault : Measure → Option Why
factor_fault c = if is_beyond (magnitude c) then Some Factor else None

-- of both constant sides the left one counts as the factor
abbrev pub product_fault : Measure → Measure → Option Why
product_fault a b = if a.constant then factor_fault a else (if b.constant then factor_fault b else Some Product)

-- what is wrong with an operator between terms of these measures, but for the size of the whole
abbrev pub operator_fault : Op → Measure → Measure → Option Why
operator_fault op.Mul a b = product_fault a b
operator_fault op.Div a b = if is_divisor b.value then None else Some Divisor
operator_fault op.Add a b = None
operator_fault op.Sub a b = None
operator_fault op.Or a b = None
operator_fault op.And a b = None
operator_fault op.Eq a b = None
operator_fault op.Ne a b = None
operator_fault op.Lt a b = None
operator_fault op.Le a b = None
operator_fault op.Gt a b = None
operator_fault op.Ge a b = None

-- what is wrong at one place: with the operator, or else with the size of the whole
abbrev pub slope_at : Place → Option Why → (size : Option ℕ) → Option Slope
slope_at place (Some why) size = Some (record { why = why; place = place })
slope_at place None size = if is_above size then Some (record { why = Size; place = place }) else None

-- the place of an operator expression is that of its operator, and of any other that of its first token
abbrev pub slope_layer : Env → Expr-F Measure → Option Slope
slope_layer env (layer.Num value place) = slope_at place None (of_constant (pos value)).size
slope_layer env (layer.Name name place) = slope_at place None (of_name (env name)).size
slope_layer env (layer.Truth value place) = None
slope_layer env (layer.Prev name place) = slope_at place None (of_prev (env name)).size
slope_layer env (layer.Age name place) = slope_at place None (of_age (env name)).size
slope_layer env (layer.Not of place) = None
slope_layer env (layer.Neg of place) = slope_at place None (of_negation of).size
slope_layer env (layer.Two op left right place) = slope_at place (operator_fault op left right) (of_operator op left right).size

-- where, and why, a part of an expression isn't linear, by its outermost form
unfoldable pub slope : Env → Expr → Option Slope
slope env e = slope_layer env (map-Expr Expr Measure (measure env) (out-Expr e))
