-- The outermost form of an expression, and the first fault of an expression by those of its parts.
use Rattle.std.proofs.Common.{◌≡◌, ◌∙◌, sym, ap, ℕ, Bool, List, ◌∷◌, Option}
use Rattle.ft_base.specs.declared.place.Place.{Place}
use Rattle.ft_tree.specs.declared.expr.Op.{Op}
use Rattle.ft_tree.specs.declared.expr.Expr.{Expr, Expr-F, map-Expr, out-Expr, roll-Expr, out-roll-Expr, para-roll-Expr}
use Rattle.ft_tree.specs.declared.expr.Expr.TheOpen as layer
use Rattle.ft_tree.specs.declared.expr.Expr.TheVariants.{Num, Name, Truth, Prev, Age, Not, Neg, Two, rolls-Num, rolls-Name, rolls-Truth}
use Rattle.ft_tree.specs.declared.expr.Expr.TheVariants.{rolls-Prev, rolls-Age, rolls-Not, rolls-Neg, rolls-Two}
use Rattle.ft_names.specs.declared.asked.Asked.{Asked}
use Rattle.ft_names.specs.declared.asked.Asked.TheVariants.{Condition, Term}
use Rattle.ft_names.specs.declared.asked.ExprKind.TheVariants.{Number}
use Rattle.ft_names.specs.meaning.First.{first_of}
use Rattle.std.specs.Option.{option_or}
use Rattle.ft_names.specs.meaning.Parts.{PartsAsked, first_part, operands, parts, parts_layer}
use Rattle.ft_names.specs.laws.First.{first_of-append, option_or-None}

opened : (e : Expr) (a_layer : Expr-F Expr) → roll-Expr a_layer ≡ e → out-Expr e ≡ a_layer
opened e a_layer rolled = ap out-Expr (sym rolled) ∙ out-roll-Expr a_layer

pub out-Num : (value : ℕ) (place : Place) → out-Expr (Num value place) ≡ layer.Num value place
out-Num value place = opened _ (layer.Num value place) (rolls-Num value place)

pub out-Name : (name : List ℕ) (place : Place) → out-Expr (Name name place) ≡ layer.Name name place
out-Name name place = opened _ (layer.Name name place) (rolls-Name name place)

pub out-Truth : (value : Bool) (place : Place) → out-Expr (Truth value place) ≡ layer.Truth value place
out-Truth value place = opened _ (layer.Truth value place) (rolls-Truth value place)

pub out-Prev : (name : List ℕ) (place : Place) → out-Expr (Prev name place) ≡ layer.Prev name place
out-Prev name place = opened _ (layer.Prev name place) (rolls-Prev name place)

pub out-Age : (name : List ℕ) (place : Place) → out-Expr (Age name place) ≡ layer.Age name place
out-Age name place = opened _ (layer.Age name place) (rolls-Age name place)

pub out-Not : (of : Expr) (place : Place) → out-Expr (Not of place) ≡ layer.Not of place
out-Not of place = opened _ (layer.Not of place) (rolls-Not of place)

pub out-Neg : (of : Expr) (place : Place) → out-Expr (Neg of place) ≡ layer.Neg of place
out-Neg of place = opened _ (layer.Neg of place) (rolls-Neg of place)

pub out-Two : (op : Op) (left right : Expr) (place : Place) → out-Expr (Two op left right place) ≡ layer.Two op left right place
out-Two op left right place = opened _ (layer.Two op left right place) (rolls-Two op left right place)

pub ruleset opens = (out-Num, out-Name, out-Truth, out-Prev, out-Age, out-Not, out-Neg, out-Two)

of_layer : (e : Expr) (a_layer : Expr-F Expr) → roll-Expr a_layer ≡ e
    → parts e ≡ parts_layer (map-Expr Expr (Expr × PartsAsked) (λ part. (part, parts part)) a_layer)
unfolding parts
of_layer e a_layer rolled = ap parts (sym rolled) ∙ para-roll-Expr PartsAsked parts_layer a_layer

abbrev Test : Type 0 → Type 0
Test Y = Asked → Expr → Option Y

abbrev at_part : {Y : Type 0} → Test Y → Asked × Expr → Option Y
at_part test part = test part.0 part.1

by_layer : {Y : Type 0} (test : Test Y) (asked : Asked) (e : Expr) (a_layer : Expr-F Expr) → roll-Expr a_layer ≡ e
    → first_part test asked e ≡ first_of (at_part test) (parts_layer (map-Expr Expr (Expr × PartsAsked) (λ part.
    (part, parts part)) a_layer) asked)
unfolding first_part
by_layer test asked e a_layer rolled = ap (λ (l : PartsAsked). first_of (at_part test) (l asked)) (of_layer e a_layer rolled)

pub first-Num : {Y : Type 0} (test : Test Y) (asked : Asked) (value : ℕ) (place : Place)
    → first_part test asked (Num value place) ≡ test asked (Num value place)
first-Num test asked value place = by_layer test asked _ (layer.Num value place) (rolls-Num value place)
    ∙ option_or-None (test asked (Num value place))

pub first-Name : {Y : Type 0} (test : Test Y) (asked : Asked) (name : List ℕ) (place : Place)
    → first_part test asked (Name name place) ≡ test asked (Name name place)
first-Name test asked name place = by_layer test asked _ (layer.Name name place) (rolls-Name name place)
    ∙ option_or-None (test asked (Name name place))

pub first-Truth : {Y : Type 0} (test : Test Y) (asked : Asked) (value : Bool) (place : Place)
    → first_part test asked (Truth value place) ≡ test asked (Truth value place)
first-Truth test asked value place = by_layer test asked _ (layer.Truth value place) (rolls-Truth value place)
    ∙ option_or-None (test asked (Truth value place))

pub first-Prev : {Y : Type 0} (test : Test Y) (asked : Asked) (name : List ℕ) (place : Place)
    → first_part test asked (Prev name place) ≡ test asked (Prev name place)
first-Prev test asked name place = by_layer test asked _ (layer.Prev name place) (rolls-Prev name place)
    ∙ option_or-None (test asked (Prev name place))

pub first-Age : {Y : Type 0} (test : Test Y) (asked : Asked) (name : List ℕ) (place : Place)
    → first_part test asked (Age name place) ≡ test asked (Age name place)
first-Age test asked name place = by_layer test asked _ (layer.Age name place) (rolls-Age name place)
    ∙ option_or-None (test asked (Age name place))

pub first-Not : {Y : Type 0} (test : Test Y) (asked : Asked) (of : Expr) (place : Place)
    → first_part test asked (Not of place) ≡ option_or (test asked (Not of place)) (first_part test Condition of)
unfolding first_part
first-Not test asked of place = by_layer test asked _ (layer.Not of place) (rolls-Not of place)

pub first-Neg : {Y : Type 0} (test : Test Y) (asked : Asked) (of : Expr) (place : Place)
    → first_part test asked (Neg of place) ≡ option_or (test asked (Neg of place)) (first_part test (Term Number) of)
unfolding first_part
first-Neg test asked of place = by_layer test asked _ (layer.Neg of place) (rolls-Neg of place)

pub first-Two : {Y : Type 0} (test : Test Y) (asked : Asked) (op : Op) (left right : Expr) (place : Place)
    → first_part test asked (Two op left right place)
    ≡ option_or (first_part test (operands op) left) (option_or (test asked (Two op left right place)) (first_part test
    (operands op) right))
unfolding first_part
first-Two test asked op left right place =
    by_layer test asked _ (layer.Two op left right place) (rolls-Two op left right place)
    ∙ first_of-append (at_part test) (parts left (operands op)) ((asked, Two op left right place) ∷ parts right (operands op))

pub ruleset first_parts = (first-Num, first-Name, first-Truth, first-Prev, first-Age, first-Not, first-Neg, first-Two)
