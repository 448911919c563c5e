-- The measure of an expression by those of its operands, and what is wrong at its own place.
use Rattle.std.proofs.Common.{◌≡◌, ◌∙◌, sym, ap, ℕ, pos, Bool, List, None}
use Rattle.ft_base.specs.declared.place.Place.{Place}
use Rattle.ft_tree.specs.declared.expr.Op.{Op}
use Rattle.ft_tree.specs.declared.expr.Expr.{Expr, Expr-F, map-Expr, out-Expr, roll-Expr, fold-roll-Expr}
use Rattle.ft_tree.specs.declared.expr.Expr.TheOpen as layer
use Rattle.ft_tree.specs.declared.expr.Expr.TheVariants.{Num, Name, Truth, Prev, Age, Not, Neg, Two, rolls-Num, rolls-Name, rolls-Truth}
use Rattle.ft_tree.specs.declared.expr.Expr.TheVariants.{rolls-Prev, rolls-Age, rolls-Not, rolls-Neg, rolls-Two}
use Rattle.ft_names.specs.meaning.Cards.{Env}
use Rattle.ft_names.specs.laws.Parts.{out-Num, out-Name, out-Truth, out-Prev, out-Age, out-Not, out-Neg, out-Two}
use Rattle.ft_measure.specs.declared.measure.Measure.{Measure}
use Rattle.ft_measure.specs.meaning.Measures.{measure, measure_layer, of_age, of_constant, of_name, of_negation, of_operator, of_prev}
use Rattle.ft_measure.specs.meaning.Measures.{unmeasured}
use Rattle.ft_measure.specs.meaning.Slopes.{operator_fault, slope, slope_at, slope_layer}

of_layer : (env : Env) (e : Expr) (a_layer : Expr-F Expr) → roll-Expr a_layer ≡ e
    → measure env e ≡ measure_layer env (map-Expr Expr Measure (measure env) a_layer)
unfolding measure
of_layer env e a_layer rolled = ap (measure env) (sym rolled) ∙ fold-roll-Expr Measure (measure_layer env) a_layer

pub measure-Num : (env : Env) (value : ℕ) (place : Place) → measure env (Num value place) ≡ of_constant (pos value)
measure-Num env value place = of_layer env _ (layer.Num value place) (rolls-Num value place)

pub measure-Name : (env : Env) (name : List ℕ) (place : Place) → measure env (Name name place) ≡ of_name (env name)
measure-Name env name place = of_layer env _ (layer.Name name place) (rolls-Name name place)

pub measure-Truth : (env : Env) (value : Bool) (place : Place) → measure env (Truth value place) ≡ unmeasured
measure-Truth env value place = of_layer env _ (layer.Truth value place) (rolls-Truth value place)

pub measure-Prev : (env : Env) (name : List ℕ) (place : Place) → measure env (Prev name place) ≡ of_prev (env name)
measure-Prev env name place = of_layer env _ (layer.Prev name place) (rolls-Prev name place)

pub measure-Age : (env : Env) (name : List ℕ) (place : Place) → measure env (Age name place) ≡ of_age (env name)
measure-Age env name place = of_layer env _ (layer.Age name place) (rolls-Age name place)

pub measure-Not : (env : Env) (of : Expr) (place : Place) → measure env (Not of place) ≡ unmeasured
measure-Not env of place = of_layer env _ (layer.Not of place) (rolls-Not of place)

pub measure-Neg : (env : Env) (of : Expr) (place : Place) → measure env (Neg of place) ≡ of_negation (measure env of)
measure-Neg env of place = of_layer env _ (layer.Neg of place) (rolls-Neg of place)

pub measure-Two : (env : Env) (o : Op) (left right : Expr) (place : Place)
    → measure env (Two o left right place) ≡ of_operator o (measure env left) (measure env right)
measure-Two env o left right place = of_layer env _ (layer.Two o left right place) (rolls-Two o left right place)

pub ruleset measures = (measure-Num, measure-Name, measure-Truth, measure-Prev, measure-Age, measure-Not, measure-Neg, measure-Two)

by_form : (env : Env) (e : Expr) (a_layer : Expr-F Expr) → out-Expr e ≡ a_layer
    → slope env e ≡ slope_layer env (map-Expr Expr Measure (measure env) a_layer)
unfolding slope
by_form env e a_layer opened = ap (λ (l : Expr-F Expr). slope_layer env (map-Expr Expr Measure (measure env) l)) opened

pub slope-Num : (env : Env) (value : ℕ) (place : Place)
    → slope env (Num value place) ≡ slope_at place None (measure env (Num value place)).size
slope-Num env value place = by_form env _ (layer.Num value place) (out-Num value place)
    ∙ ap (λ (m : Measure). slope_at place None m.size) (sym (measure-Num env value place))

pub slope-Name : (env : Env) (name : List ℕ) (place : Place)
    → slope env (Name name place) ≡ slope_at place None (measure env (Name name place)).size
slope-Name env name place = by_form env _ (layer.Name name place) (out-Name name place)
    ∙ ap (λ (m : Measure). slope_at place None m.size) (sym (measure-Name env name place))

pub slope-Truth : (env : Env) (value : Bool) (place : Place) → slope env (Truth value place) ≡ None
slope-Truth env value place = by_form env _ (layer.Truth value place) (out-Truth value place)

pub slope-Prev : (env : Env) (name : List ℕ) (place : Place)
    → slope env (Prev name place) ≡ slope_at place None (measure env (Prev name place)).size
slope-Prev env name place = by_form env _ (layer.Prev name place) (out-Prev name place)
    ∙ ap (λ (m : Measure). slope_at place None m.size) (sym (measure-Prev env name place))

pub slope-Age : (env : Env) (name : List ℕ) (place : Place)
    → slope env (Age name place) ≡ slope_at place None (measure env (Age name place)).size
slope-Age env name place = by_form env _ (layer.Age name place) (out-Age name place)
    ∙ ap (λ (m : Measure). slope_at place None m.size) (sym (measure-Age env name place))

pub slope-Not : (env : Env) (of : Expr) (place : Place) → slope env (Not of place) ≡ None
slope-Not env of place = by_form env _ (layer.Not of place) (out-Not of place)

pub slope-Neg : (env : Env) (of : Expr) (place : Place)
    → slope env (Neg of place) ≡ slope_at place None (of_negation (measure env of)).size
slope-Neg env of place = by_form env _ (layer.Neg of place) (out-Neg of place)

pub slope-Two : (env : Env) (o : Op) (left right : Expr) (place : Place) → slope env (Two o left right place)
    ≡ slope_at place (operator_fault o (measure env left) (measure env right)) (of_operator o (measure env left) (measure env right)).size
slope-Two env o left right place = by_form env _ (layer.Two o left right place) (out-Two o left right place)

pub ruleset slopes = (slope-Num, slope-Name, slope-Truth, slope-Prev, slope-Age, slope-Not, slope-Neg, slope-Two)
