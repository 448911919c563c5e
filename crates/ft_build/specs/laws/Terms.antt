-- The value, the term and the condition of an expression by those of its parts.
use Rattle.std.proofs.Common.{◌≡◌, ◌∙◌, sym, ap, ℕ, ℤ, pos, Bool, List, Option, None}
use Rattle.ft_base.specs.declared.place.Place.{Place}
use Rattle.ft_tree.specs.declared.expr.Op.{Op}
use Rattle.ft_tree.specs.declared.expr.Expr.{Expr, Expr-F, map-Expr, roll-Expr, fold-roll-Expr, para-roll-Expr}
use Rattle.ft_tree.specs.declared.expr.Expr.TheOpen as layer
use Rattle.ft_tree.specs.declared.expr.Expr.TheVariants.{Num, Name, Truth, Prev, Age, Not, Neg, Two, rolls-Num, rolls-Name, rolls-Truth}
use Rattle.ft_tree.specs.declared.expr.Expr.TheVariants.{rolls-Prev, rolls-Age, rolls-Not, rolls-Neg, rolls-Two}
use Rattle.ft_core.specs.declared.term.Term.{Term}
use Rattle.ft_core.specs.declared.term.Term.TheVariants as term
use Rattle.ft_core.specs.declared.term.Cond.{Cond}
use Rattle.ft_core.specs.declared.term.Cond.TheVariants as cond
use Rattle.ft_names.specs.meaning.Cards.{Env}
use Rattle.ft_build.specs.meaning.Terms.{age_term, folded, kept, name_term, name_value, negated, operator_term, operator_value, prev_term}
use Rattle.ft_build.specs.meaning.Terms.{term_layer, term_of, truth_value, value_layer, value_of}
use Rattle.ft_build.specs.meaning.Conditions.{cond_layer, cond_of, is_one, name_cond, operator_cond, truth_cond}

value_by : (env : Env) (e : Expr) (a_layer : Expr-F Expr) → roll-Expr a_layer ≡ e
    → value_of env e ≡ value_layer env (map-Expr Expr (Option ℤ) (value_of env) a_layer)
unfolding value_of
value_by env e a_layer rolled = ap (value_of env) (sym rolled) ∙ fold-roll-Expr (Option ℤ) (value_layer env) a_layer

pub value-Num : (env : Env) (value : ℕ) (place : Place) → value_of env (Num value place) ≡ kept (pos value)
value-Num env value place = value_by env _ (layer.Num value place) (rolls-Num value place)

pub value-Name : (env : Env) (name : List ℕ) (place : Place) → value_of env (Name name place) ≡ name_value (env name)
value-Name env name place = value_by env _ (layer.Name name place) (rolls-Name name place)

pub value-Truth : (env : Env) (value : Bool) (place : Place) → value_of env (Truth value place) ≡ None
value-Truth env value place = value_by env _ (layer.Truth value place) (rolls-Truth value place)

pub value-Prev : (env : Env) (name : List ℕ) (place : Place) → value_of env (Prev name place) ≡ None
value-Prev env name place = value_by env _ (layer.Prev name place) (rolls-Prev name place)

pub value-Age : (env : Env) (name : List ℕ) (place : Place) → value_of env (Age name place) ≡ None
value-Age env name place = value_by env _ (layer.Age name place) (rolls-Age name place)

pub value-Not : (env : Env) (of : Expr) (place : Place) → value_of env (Not of place) ≡ None
value-Not env of place = value_by env _ (layer.Not of place) (rolls-Not of place)

pub value-Neg : (env : Env) (of : Expr) (place : Place) → value_of env (Neg of place) ≡ negated (value_of env of)
value-Neg env of place = value_by env _ (layer.Neg of place) (rolls-Neg of place)

pub value-Two : (env : Env) (o : Op) (left right : Expr) (place : Place)
    → value_of env (Two o left right place) ≡ operator_value o (value_of env left) (value_of env right)
value-Two env o left right place = value_by env _ (layer.Two o left right place) (rolls-Two o left right place)

pub ruleset values = (value-Num, value-Name, value-Truth, value-Prev, value-Age, value-Not, value-Neg, value-Two)

term_by : (env : Env) (e : Expr) (a_layer : Expr-F Expr) → roll-Expr a_layer ≡ e
    → term_of env e ≡ term_layer env (map-Expr Expr (Expr × Term) (λ part. (part, term_of env part)) a_layer)
unfolding term_of
term_by env e a_layer rolled = ap (term_of env) (sym rolled) ∙ para-roll-Expr Term (term_layer env) a_layer

pub term-Num : (env : Env) (value : ℕ) (place : Place) → term_of env (Num value place) ≡ folded (kept (pos value)) (term.Num (pos 0))
term-Num env value place = term_by env _ (layer.Num value place) (rolls-Num value place)

pub term-Name : (env : Env) (name : List ℕ) (place : Place) → term_of env (Name name place) ≡ name_term (env name)
term-Name env name place = term_by env _ (layer.Name name place) (rolls-Name name place)

pub term-Truth : (env : Env) (value : Bool) (place : Place) → term_of env (Truth value place) ≡ term.Num (truth_value value)
term-Truth env value place = term_by env _ (layer.Truth value place) (rolls-Truth value place)

pub term-Prev : (env : Env) (name : List ℕ) (place : Place) → term_of env (Prev name place) ≡ prev_term (env name)
term-Prev env name place = term_by env _ (layer.Prev name place) (rolls-Prev name place)

pub term-Age : (env : Env) (name : List ℕ) (place : Place) → term_of env (Age name place) ≡ age_term (env name)
term-Age env name place = term_by env _ (layer.Age name place) (rolls-Age name place)

pub term-Not : (env : Env) (of : Expr) (place : Place) → term_of env (Not of place) ≡ term.Num (pos 0)
term-Not env of place = term_by env _ (layer.Not of place) (rolls-Not of place)

pub term-Neg : (env : Env) (of : Expr) (place : Place)
    → term_of env (Neg of place) ≡ folded (negated (value_of env of)) (term.Neg (term_of env of))
term-Neg env of place = term_by env _ (layer.Neg of place) (rolls-Neg of place)

pub term-Two : (env : Env) (o : Op) (left right : Expr) (place : Place) → term_of env (Two o left right place)
    ≡ folded (operator_value o (value_of env left) (value_of env right))
    (operator_term o (value_of env left) (value_of env right) (term_of env left) (term_of env right))
term-Two env o left right place = term_by env _ (layer.Two o left right place) (rolls-Two o left right place)

pub ruleset terms = (values, term-Num, term-Name, term-Truth, term-Prev, term-Age, term-Not, term-Neg, term-Two)

cond_by : (env : Env) (e : Expr) (a_layer : Expr-F Expr) → roll-Expr a_layer ≡ e
    → cond_of env e ≡ cond_layer env (map-Expr Expr (Expr × Cond) (λ part. (part, cond_of env part)) a_layer)
unfolding cond_of
cond_by env e a_layer rolled = ap (cond_of env) (sym rolled) ∙ para-roll-Expr Cond (cond_layer env) a_layer

pub cond-Num : (env : Env) (value : ℕ) (place : Place) → cond_of env (Num value place) ≡ cond.No
cond-Num env value place = cond_by env _ (layer.Num value place) (rolls-Num value place)

pub cond-Name : (env : Env) (name : List ℕ) (place : Place) → cond_of env (Name name place) ≡ name_cond (env name)
cond-Name env name place = cond_by env _ (layer.Name name place) (rolls-Name name place)

pub cond-Truth : (env : Env) (value : Bool) (place : Place) → cond_of env (Truth value place) ≡ truth_cond value
cond-Truth env value place = cond_by env _ (layer.Truth value place) (rolls-Truth value place)

pub cond-Prev : (env : Env) (name : List ℕ) (place : Place) → cond_of env (Prev name place) ≡ is_one (prev_term (env name))
cond-Prev env name place = cond_by env _ (layer.Prev name place) (rolls-Prev name place)

pub cond-Age : (env : Env) (name : List ℕ) (place : Place) → cond_of env (Age name place) ≡ cond.No
cond-Age env name place = cond_by env _ (layer.Age name place) (rolls-Age name place)

pub cond-Not : (env : Env) (of : Expr) (place : Place) → cond_of env (Not of place) ≡ cond.Not (cond_of env of)
cond-Not env of place = cond_by env _ (layer.Not of place) (rolls-Not of place)

pub cond-Neg : (env : Env) (of : Expr) (place : Place) → cond_of env (Neg of place) ≡ cond.No
cond-Neg env of place = cond_by env _ (layer.Neg of place) (rolls-Neg of place)

pub cond-Two : (env : Env) (o : Op) (left right : Expr) (place : Place) → cond_of env (Two o left right place)
    ≡ operator_cond o (cond_of env left) (cond_of env right) (term_of env left) (term_of env right)
cond-Two env o left right place = cond_by env _ (layer.Two o left right place) (rolls-Two o left right place)

pub ruleset conds = (cond-Num, cond-Name, cond-Truth, cond-Prev, cond-Age, cond-Not, cond-Neg, cond-Two)
