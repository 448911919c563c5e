-- The measure of an expression: whether it is constant, its value, and its size.
use Rattle.std.specs.Prelude.{ℕ, ◌+◌, ◌*◌, max, min, nat_lt, ℤ, pos, neg_ℤ, ◌+ℤ◌, ◌-ℤ◌, ◌*ℤ◌, int_le, unsigned_abs}
use Rattle.std.specs.Prelude.{Bool, true, false, ◌||◌, ◌&&◌, Option, Some, None, if◌then◌else◌, option_map}
use Rattle.std.specs.Int.{int_div_euclid}
use Rattle.ft_tree.specs.declared.expr.Op.{Op}
use Rattle.ft_tree.specs.declared.expr.Op.TheVariants as op
use Rattle.ft_tree.specs.declared.expr.Expr.{Expr, Expr-F, fold-Expr}
use Rattle.ft_tree.specs.declared.expr.Expr.TheOpen as layer
use Rattle.ft_names.specs.declared.card.Card.{Card}
use Rattle.ft_names.specs.declared.card.Card.TheVariants.{Constant, Variable, Memory}
use Rattle.ft_names.specs.declared.card.Values.{Values}
use Rattle.ft_names.specs.declared.card.Values.TheVariants.{Numbers}
use Rattle.ft_names.specs.meaning.Cards.{Env}
use Rattle.ft_measure.specs.declared.measure.Measure.{Measure}

-- the greatest size of a term; every size above it counts as one more
abbrev pub limit : ℕ
limit = 1000000000000000

abbrev pub capped : ℕ → ℕ
capped size = min size (limit + 1)

-- a size is there and above the limit
abbrev pub is_above : Option ℕ → Bool
is_above None = false
is_above (Some size) = nat_lt limit size

-- A term of such parts, with the value that it has where they have theirs. It keeps the value only where no part of it is large, nor the
-- whole: what counts as beyond every bound needs none.
abbrev pub joined : (constant large : Bool) → Option ℤ → Option ℕ → Measure
joined constant large value size = record {
  constant = constant;
  large = large || is_above size;
  value = if large || is_above size then None else value;
  size = size;
}

-- what is no number term: it has neither value nor size
abbrev pub unmeasured : Measure
unmeasured = record { constant = false; large = false; value = None; size = None }

-- a constant term of this value
abbrev pub of_constant : ℤ → Measure
of_constant value = joined true false (Some value) (Some (capped (unsigned_abs value)))

-- a variable or an age of these bounds
abbrev pub of_bounds : (lo hi : ℤ) → Measure
of_bounds lo hi = joined false false None (Some (capped (max 1 (max (unsigned_abs lo) (unsigned_abs hi)))))

abbrev pub of_values : Values → Measure
of_values (Numbers lo hi) = of_bounds lo hi
of_values _ = unmeasured

abbrev pub of_name : Option Card → Measure
of_name (Some (Constant value)) = of_constant value
of_name (Some (Variable place word values)) = of_values values
of_name _ = unmeasured

abbrev pub of_prev : Option Card → Measure
of_prev (Some (Variable place word values)) = of_values values
of_prev _ = unmeasured

-- the age of a timer is -1 or up to its hold
abbrev pub of_age : Option Card → Measure
of_age (Some (Memory place side (Some hold))) = of_bounds (neg_ℤ (pos 1)) hold
of_age _ = unmeasured

abbrev pub both_sizes : Option ℕ → Option ℕ → Option ℕ
both_sizes (Some a) (Some b) = Some (capped (a + b))
both_sizes _ _ = None

abbrev pub both_values : (ℤ → ℤ → ℤ) → Option ℤ → Option ℤ → Option ℤ
both_values f (Some a) (Some b) = Some (f a b)
both_values f _ _ = None

-- a sum or a difference
abbrev pub of_sum : (ℤ → ℤ → ℤ) → Measure → Measure → Measure
of_sum f a b = joined (a.constant && b.constant) (a.large || b.large) (both_values f a.value b.value) (both_sizes a.size b.size)

abbrev pub of_negation : Measure → Measure
of_negation e = joined e.constant e.large (option_map neg_ℤ e.value) e.size

-- How large a constant is, where it has a value. One with a part of size above the limit counts as beyond every bound.
abbrev pub magnitude : Measure → Option ℕ
magnitude c = if c.large then Some (limit + 1) else option_map unsigned_abs c.value

abbrev pub product_sizes : Option ℕ → Option ℕ → Option ℕ
product_sizes (Some a) (Some b) = Some (capped (a * b))
product_sizes _ _ = None

-- the size of a product of a constant side and the other
abbrev pub sides_size : (constant other : Measure) → Option ℕ
sides_size c e = product_sizes (magnitude c) e.size

-- the constant side of a product is the left one where both are
abbrev pub product_size : Measure → Measure → Option ℕ
product_size a b = if a.constant then sides_size a b else (if b.constant then sides_size b a else None)

abbrev pub of_product : Measure → Measure → Measure
of_product a b = joined (a.constant && b.constant) (a.large || b.large) (both_values ◌*ℤ◌ a.value b.value) (product_size a b)

-- the quotient, rounded down, by a divisor above 0
abbrev pub quotient : Option ℤ → Option ℤ → Option ℤ
quotient (Some a) (Some k) = if int_le (pos 1) k then Some (int_div_euclid a k) else None
quotient _ _ = None

abbrev pub of_quotient : Measure → Measure → Measure
of_quotient a k = joined (a.constant && k.constant) (a.large || k.large) (quotient a.value k.value) a.size

abbrev pub of_operator : Op → Measure → Measure → Measure
of_operator op.Add a b = of_sum ◌+ℤ◌ a b
of_operator op.Sub a b = of_sum ◌-ℤ◌ a b
of_operator op.Mul a b = of_product a b
of_operator op.Div a b = of_quotient a b
of_operator op.Or a b = unmeasured
of_operator op.And a b = unmeasured
of_operator op.Eq a b = unmeasured
of_operator op.Ne a b = unmeasured
of_operator op.Lt a b = unmeasured
of_operator op.Le a b = unmeasured
of_operator op.Gt a b = unmeasured
of_operator op.Ge a b = unmeasured

abbrev pub measure_layer : Env → Expr-F Measure → Measure
measure_layer env (layer.Num value place) = of_constant (pos value)
measure_layer env (layer.Name name place) = of_name (env name)
measure_layer env (layer.Truth value place) = unmeasured
measure_layer env (layer.Prev name place) = of_prev (env name)
measure_layer env (layer.Age name place) = of_age (env name)
measure_layer env (layer.Not of place) = unmeasured
measure_layer env (layer.Neg of place) = of_negation of
measure_layer env (layer.Two op left right place) = of_operator op left right

unfoldable pub measure : Env → Expr → Measure
measure env = fold-Expr Measure (measure_layer env)
