-- The bare form of each kind of expression, and how deep each nests.
use Rattle.std.proofs.Common.{◌≡◌, ◌∙◌, sym, ap, ℕ, suc, max, Bool, List}
use Rattle.ft_base.specs.declared.place.Place.{Place}
use Rattle.ft_tree.specs.declared.expr.Op.{Op}
use Rattle.ft_tree.specs.declared.expr.Expr.{Expr, Expr-F, map-Expr, roll-Expr, fold-roll-Expr}
use Rattle.ft_tree.specs.declared.expr.Expr.TheOpen as layer
use Rattle.ft_tree.specs.declared.expr.Expr.TheVariants.{Num, Name, Truth, Prev, Age, Not, Neg, Two, rolls-Num, rolls-Name, rolls-Truth}
use Rattle.ft_tree.specs.declared.expr.Expr.TheVariants.{rolls-Prev, rolls-Age, rolls-Not, rolls-Neg, rolls-Two}
use Rattle.ft_tree.specs.declared.level.Level.TheVariants.{Negation, Unary, Atom}
use Rattle.ft_tree.specs.meaning.Level.{left_level, op_level, right_level}
use Rattle.ft_tree.specs.meaning.Limits.{Nested, nested, nested_layer, nests, operand_depth}
use Rattle.ft_tree.specs.meaning.Bare.{bare_expr, bare_layer, start}

of_bare : (expr : Expr) (a_layer : Expr-F Expr) → roll-Expr a_layer ≡ expr
    → bare_expr expr ≡ bare_layer (map-Expr Expr Expr bare_expr a_layer)
unfolding bare_expr
of_bare expr a_layer rolled = ap bare_expr (sym rolled) ∙ fold-roll-Expr Expr bare_layer a_layer

pub bare-Num : (value : ℕ) (place : Place) → bare_expr (Num value place) ≡ Num value start
bare-Num value place = of_bare _ (layer.Num value place) (rolls-Num value place)

pub bare-Name : (name : List ℕ) (place : Place) → bare_expr (Name name place) ≡ Name name start
bare-Name name place = of_bare _ (layer.Name name place) (rolls-Name name place)

pub bare-Truth : (value : Bool) (place : Place) → bare_expr (Truth value place) ≡ Truth value start
bare-Truth value place = of_bare _ (layer.Truth value place) (rolls-Truth value place)

pub bare-Prev : (name : List ℕ) (place : Place) → bare_expr (Prev name place) ≡ Prev name start
bare-Prev name place = of_bare _ (layer.Prev name place) (rolls-Prev name place)

pub bare-Age : (name : List ℕ) (place : Place) → bare_expr (Age name place) ≡ Age name start
bare-Age name place = of_bare _ (layer.Age name place) (rolls-Age name place)

pub bare-Not : (part : Expr) (place : Place) → bare_expr (Not part place) ≡ Not (bare_expr part) start
bare-Not part place = of_bare _ (layer.Not part place) (rolls-Not part place)

pub bare-Neg : (part : Expr) (place : Place) → bare_expr (Neg part place) ≡ Neg (bare_expr part) start
bare-Neg part place = of_bare _ (layer.Neg part place) (rolls-Neg part place)

pub bare-Two : (op : Op) (left right : Expr) (place : Place) → bare_expr (Two op left right place)
    ≡ Two op (bare_expr left) (bare_expr right) start
bare-Two op left right place = of_bare _ (layer.Two op left right place) (rolls-Two op left right place)

of_nested : (expr : Expr) (a_layer : Expr-F Expr) → roll-Expr a_layer ≡ expr
    → nested expr ≡ nested_layer (map-Expr Expr Nested nested a_layer)
unfolding nested
of_nested expr a_layer rolled = ap nested (sym rolled) ∙ fold-roll-Expr Nested nested_layer a_layer

pub nested-Num : (value : ℕ) (place : Place) → nested (Num value place) ≡ nests Atom 0
nested-Num value place = of_nested _ (layer.Num value place) (rolls-Num value place)

pub nested-Name : (name : List ℕ) (place : Place) → nested (Name name place) ≡ nests Atom 0
nested-Name name place = of_nested _ (layer.Name name place) (rolls-Name name place)

pub nested-Truth : (value : Bool) (place : Place) → nested (Truth value place) ≡ nests Atom 0
nested-Truth value place = of_nested _ (layer.Truth value place) (rolls-Truth value place)

pub nested-Prev : (name : List ℕ) (place : Place) → nested (Prev name place) ≡ nests Atom 1
nested-Prev name place = of_nested _ (layer.Prev name place) (rolls-Prev name place)

pub nested-Age : (name : List ℕ) (place : Place) → nested (Age name place) ≡ nests Atom 1
nested-Age name place = of_nested _ (layer.Age name place) (rolls-Age name place)

pub nested-Not : (part : Expr) (place : Place) → nested (Not part place)
    ≡ nests Negation (suc (operand_depth Negation (nested part)))
nested-Not part place = of_nested _ (layer.Not part place) (rolls-Not part place)

pub nested-Neg : (part : Expr) (place : Place) → nested (Neg part place) ≡ nests Unary (suc (operand_depth Unary (nested part)))
nested-Neg part place = of_nested _ (layer.Neg part place) (rolls-Neg part place)

pub nested-Two : (op : Op) (left right : Expr) (place : Place) → nested (Two op left right place)
    ≡ nests (op_level op) (max (operand_depth (left_level op) (nested left)) (operand_depth (right_level op) (nested right)))
nested-Two op left right place = of_nested _ (layer.Two op left right place) (rolls-Two op left right place)
