-- Expressions by their parts: induction, what makes each lawful, and the tokens of each.
use Rattle.std.proofs.Common.{◌≡◌, ◌∙◌, sym, ap, subst, ℕ, ◌&&◌, Bool, List, [], ◌∷◌, ◌++◌, codes, decimal}
use Rattle.ft_base.specs.declared.place.Place.{Place}
use Rattle.ft_tree.specs.declared.expr.Op.{Op}
use Rattle.ft_tree.specs.declared.expr.Expr.{Expr, Expr-F, map-Expr, roll-Expr, fold-roll-Expr, ind-Expr}
use Rattle.ft_tree.specs.declared.expr.Expr.TheOpen as layer
use Rattle.ft_tree.specs.declared.expr.Expr.TheVariants.{Num, Name, Truth, Prev, Age, Not, Neg, Two, rolls-Num, rolls-Name, rolls-Truth}
use Rattle.ft_tree.specs.declared.expr.Expr.TheVariants.{rolls-Prev, rolls-Age, rolls-Not, rolls-Neg, rolls-Two}
use Rattle.ft_base.specs.Names.{is_name}
use Rattle.ft_tree.specs.meaning.Limits.{is_lawful, is_number, lawful_layer}
use Rattle.ft_tree.specs.declared.level.Level.TheVariants.{Negation, Unary, Atom}
use Rattle.ft_tree.specs.meaning.Expression.{Spelled, history, operand, spelled, spelled_layer, spells, truth_word}
use Rattle.ft_tree.specs.meaning.Level.{left_level, op_level, op_sign, right_level}
use Rattle.ft_tree.specs.meaning.Line.{token, minus}

-- what holds of each kind of expression where it holds of its parts
pub record ExprInductive (P : Expr → Type 0) : Type 0 where
  pub number : (value : ℕ) (place : Place) → P (Num value place)
  pub name : (name : List ℕ) (place : Place) → P (Name name place)
  pub truth : (value : Bool) (place : Place) → P (Truth value place)
  pub prev : (name : List ℕ) (place : Place) → P (Prev name place)
  pub aged : (name : List ℕ) (place : Place) → P (Age name place)
  pub denied : (part : Expr) (place : Place) → P part → P (Not part place)
  pub negated : (part : Expr) (place : Place) → P part → P (Neg part place)
  pub two : (op : Op) (left right : Expr) (place : Place) → P left → P right → P (Two op left right place)

of_parts : (P : Expr → Type 0) → ExprInductive P → (y : Expr-F ((e : Expr) × P e))
    → P (roll-Expr (map-Expr ((e : Expr) × P e) Expr (λ e. e.0) y))
of_parts P h (layer.Num value place) = subst P (sym (rolls-Num value place)) (h.number value place)
of_parts P h (layer.Name name place) = subst P (sym (rolls-Name name place)) (h.name name place)
of_parts P h (layer.Truth value place) = subst P (sym (rolls-Truth value place)) (h.truth value place)
of_parts P h (layer.Prev name place) = subst P (sym (rolls-Prev name place)) (h.prev name place)
of_parts P h (layer.Age name place) = subst P (sym (rolls-Age name place)) (h.aged name place)
of_parts P h (layer.Not part place) = subst P (sym (rolls-Not part.0 place)) (h.denied part.0 place part.1)
of_parts P h (layer.Neg part place) = subst P (sym (rolls-Neg part.0 place)) (h.negated part.0 place part.1)
of_parts P h (layer.Two op left right place) =
    subst P (sym (rolls-Two op left.0 right.0 place)) (h.two op left.0 right.0 place left.1 right.1)

pub expr_induction : (P : Expr → Type 0) → ExprInductive P → (e : Expr) → P e
expr_induction P h = ind-Expr P (λ x y is. subst (λ z. P (roll-Expr z)) is (of_parts P h y))

of_lawful : (expr : Expr) (a_layer : Expr-F Expr) → roll-Expr a_layer ≡ expr
    → is_lawful expr ≡ lawful_layer (map-Expr Expr Bool is_lawful a_layer)
unfolding is_lawful
of_lawful expr a_layer rolled = ap is_lawful (sym rolled) ∙ fold-roll-Expr Bool lawful_layer a_layer

pub lawful-Num : (value : ℕ) (place : Place) → is_lawful (Num value place) ≡ is_number value
lawful-Num value place = of_lawful _ (layer.Num value place) (rolls-Num value place)

pub lawful-Name : (name : List ℕ) (place : Place) → is_lawful (Name name place) ≡ is_name name
lawful-Name name place = of_lawful _ (layer.Name name place) (rolls-Name name place)

pub lawful-Prev : (name : List ℕ) (place : Place) → is_lawful (Prev name place) ≡ is_name name
lawful-Prev name place = of_lawful _ (layer.Prev name place) (rolls-Prev name place)

pub lawful-Age : (name : List ℕ) (place : Place) → is_lawful (Age name place) ≡ is_name name
lawful-Age name place = of_lawful _ (layer.Age name place) (rolls-Age name place)

pub lawful-Not : (part : Expr) (place : Place) → is_lawful (Not part place) ≡ is_lawful part
lawful-Not part place = of_lawful _ (layer.Not part place) (rolls-Not part place)

pub lawful-Neg : (part : Expr) (place : Place) → is_lawful (Neg part place) ≡ is_lawful part
lawful-Neg part place = of_lawful _ (layer.Neg part place) (rolls-Neg part place)

pub lawful-Two : (op : Op) (left right : Expr) (place : Place)
    → is_lawful (Two op left right place) ≡ (is_lawful left && is_lawful right)
lawful-Two op left right place = of_lawful _ (layer.Two op left right place) (rolls-Two op left right place)

of_layer : (expr : Expr) (a_layer : Expr-F Expr) → roll-Expr a_layer ≡ expr → spelled expr
    ≡ spelled_layer (map-Expr Expr Spelled spelled a_layer)
unfolding spelled
of_layer expr a_layer rolled = ap spelled (sym rolled) ∙ fold-roll-Expr Spelled spelled_layer a_layer

pub spelled-Num : (value : ℕ) (place : Place) → spelled (Num value place) ≡ spells Atom (token (decimal value) ∷ [])
spelled-Num value place = of_layer _ (layer.Num value place) (rolls-Num value place)

pub spelled-Name : (name : List ℕ) (place : Place) → spelled (Name name place) ≡ spells Atom (token name ∷ [])
spelled-Name name place = of_layer _ (layer.Name name place) (rolls-Name name place)

pub spelled-Truth : (value : Bool) (place : Place) → spelled (Truth value place) ≡ spells Atom (token (truth_word value) ∷ [])
spelled-Truth value place = of_layer _ (layer.Truth value place) (rolls-Truth value place)

pub spelled-Prev : (name : List ℕ) (place : Place) → spelled (Prev name place) ≡ spells Atom (history (codes "prev") name)
spelled-Prev name place = of_layer _ (layer.Prev name place) (rolls-Prev name place)

pub spelled-Age : (name : List ℕ) (place : Place) → spelled (Age name place) ≡ spells Atom (history (codes "age") name)
spelled-Age name place = of_layer _ (layer.Age name place) (rolls-Age name place)

pub spelled-Not : (part : Expr) (place : Place) → spelled (Not part place)
    ≡ spells Negation (token (codes "not") ∷ operand Negation (spelled part))
spelled-Not part place = of_layer _ (layer.Not part place) (rolls-Not part place)

pub spelled-Neg : (part : Expr) (place : Place) → spelled (Neg part place) ≡ spells Unary (minus ∷ operand Unary (spelled part))
spelled-Neg part place = of_layer _ (layer.Neg part place) (rolls-Neg part place)

pub spelled-Two : (op : Op) (left right : Expr) (place : Place) → spelled (Two op left right place)
    ≡ spells (op_level op) (operand (left_level op) (spelled left) ++ token (op_sign op) ∷ operand (right_level op) (spelled right))
spelled-Two op left right place = of_layer _ (layer.Two op left right place) (rolls-Two op left right place)
