-- Expressions and names of the wrong kind.
use Rattle.std.specs.Prelude.{ℕ, Bool, true, false, ◌||◌, ◌&&◌, not, Option, Some, None, ◌==◌, if◌then◌else◌}
use Rattle.ft_base.specs.declared.place.Place.{Place}
use Rattle.ft_names.specs.declared.card.Card.{Card}
use Rattle.ft_names.specs.declared.card.Card.TheVariants.{Constant, TypeName, Member, Variable, Memory, Block, Invariant}
use Rattle.ft_names.specs.declared.card.Values.{Values}
use Rattle.ft_names.specs.declared.card.Values.TheVariants.{Numbers, Truths, Members, Untyped}
use Rattle.ft_tree.specs.declared.expr.Expr.{Expr, Expr-F, out-Expr}
use Rattle.ft_tree.specs.declared.expr.Expr.TheOpen as layer
use Rattle.ft_types.specs.declared.fault.ItemFault.{ItemFault}
use Rattle.ft_types.specs.declared.fault.ItemFault.TheVariants.{TypeMismatch}
use Rattle.ft_names.specs.declared.asked.Asked.{Asked}
use Rattle.ft_names.specs.declared.asked.ExprKind.{ExprKind}
use Rattle.ft_names.specs.declared.asked.ExprKind.TheVariants as kind
use Rattle.ft_tree.specs.declared.item.Bound.{Bound}
use Rattle.ft_tree.specs.declared.item.Kind.{Kind}
use Rattle.ft_tree.specs.declared.item.Kind.TheVariants as kinds
use Rattle.ft_tree.specs.declared.item.Plain.{Plain}
use Rattle.ft_tree.specs.declared.item.Plain.TheVariants as plain
use Rattle.ft_tree.specs.declared.item.VarWord.TheVariants as word
use Rattle.ft_names.specs.declared.asked.Asked.TheVariants as asked
use Rattle.ft_types.specs.meaning.Kinds.{is_comparable, is_met, op_kind}
use Rattle.ft_names.specs.meaning.Parts.{first_part}
use Rattle.ft_names.specs.meaning.Cards.{Env}
use Rattle.ft_names.specs.declared.walk.Role.{Role}
use Rattle.ft_names.specs.declared.walk.Role.TheVariants as role
use Rattle.ft_names.specs.meaning.Spots.{Spot, named, bound, initial, condition, number, term_for}

abbrev pub values_kind : Values → ExprKind
values_kind (Numbers lo hi) = kind.Number
values_kind Truths = kind.Truth
values_kind (Members item count) = kind.Members item
values_kind Untyped = kind.Nothing

-- the kind of a name as an expression
abbrev pub card_kind : Option Card → ExprKind
card_kind None = kind.Nothing
card_kind (Some (Constant value)) = kind.Number
card_kind (Some (TypeName values)) = kind.Nothing
card_kind (Some (Member item position)) = kind.Members item
card_kind (Some (Variable place word values)) = values_kind values
card_kind (Some (Memory place side hold)) = kind.Condition
card_kind (Some (Block place)) = kind.Nothing
card_kind (Some (Invariant block fact)) = kind.Nothing

abbrev pub is_variable : Option Card → Bool
is_variable (Some (Variable place word values)) = true
is_variable _ = false

-- the memory of a `held`
abbrev pub is_timer : Option Card → Bool
is_timer (Some (Memory place side (Some hold))) = true
is_timer _ = false

-- a type, a block or an invariant, which no expression may name
abbrev pub is_unreadable : Option Card → Bool
is_unreadable (Some (TypeName values)) = true
is_unreadable (Some (Block place)) = true
is_unreadable (Some (Invariant block fact)) = true
is_unreadable _ = false

abbrev pub layer_place : {X : Type 0} → Expr-F X → Place
layer_place (layer.Num value place) = place
layer_place (layer.Name name place) = place
layer_place (layer.Truth value place) = place
layer_place (layer.Prev name place) = place
layer_place (layer.Age name place) = place
layer_place (layer.Not of place) = place
layer_place (layer.Neg of place) = place
layer_place (layer.Two op left right place) = place

-- the place of an operator expression is that of its operator, and of any other that of its first token
unfoldable pub place_of : Expr → Place
place_of e = layer_place (out-Expr e)

abbrev pub layer_kind : {X : Type 0} → Env → Expr-F X → ExprKind
layer_kind env (layer.Num value place) = kind.Number
layer_kind env (layer.Name name place) = card_kind (env name)
layer_kind env (layer.Truth value place) = kind.Truth
layer_kind env (layer.Prev name place) = if is_variable (env name) then card_kind (env name) else kind.Nothing
layer_kind env (layer.Age name place) = if is_timer (env name) then kind.Number else kind.Nothing
layer_kind env (layer.Not of place) = kind.Condition
layer_kind env (layer.Neg of place) = kind.Number
layer_kind env (layer.Two op left right place) = op_kind op

-- what an expression is by its outermost form
unfoldable pub kind_of : Env → Expr → ExprKind
kind_of env e = layer_kind env (out-Expr e)

-- a name that may not stand there, `prev` of what is no variable, `age` of what is no timer, or a comparison of what isn't alike
abbrev pub layer_wrong : Env → Expr-F Expr → Bool
layer_wrong env (layer.Num value place) = false
layer_wrong env (layer.Name name place) = is_unreadable (env name)
layer_wrong env (layer.Truth value place) = false
layer_wrong env (layer.Prev name place) = not (is_variable (env name))
layer_wrong env (layer.Age name place) = not (is_timer (env name))
layer_wrong env (layer.Not of place) = false
layer_wrong env (layer.Neg of place) = false
layer_wrong env (layer.Two op left right place) = not (is_comparable op (kind_of env left) (kind_of env right))

unfoldable pub is_wrong : Env → Expr → Bool
is_wrong env e = layer_wrong env (out-Expr e)

-- the fault of a part of an expression: it is wrong itself, or isn't what its place asks
unfoldable pub mismatch : Env → Asked → Expr → Option ItemFault
mismatch env asked e = if is_wrong env e || not (is_met asked (kind_of env e)) then Some (TypeMismatch (place_of e)) else None

abbrev pub is_type : Option Card → Bool
is_type (Some (TypeName values)) = true
is_type _ = false

abbrev pub is_constant : Option Card → Bool
is_constant (Some (Constant value)) = true
is_constant _ = false

abbrev pub is_controlled : Option Card → Bool
is_controlled (Some (Variable place word.Con values)) = true
is_controlled _ = false

-- a variable or a memory
abbrev pub is_variable_or_memory : Option Card → Bool
is_variable_or_memory (Some (Variable place kind values)) = true
is_variable_or_memory (Some (Memory place side hold)) = true
is_variable_or_memory _ = false

-- a name may be used so: a type's after `:`, a variable's as what a table defines, a variable's or memory's after `takes`, a controlled
-- variable's as a goal. What `uses` names is asked for later, as an invariant
abbrev pub fits : Role → Option Card → Bool
fits role.TypeName card = is_type card
fits (role.Target section) card = is_variable card
fits role.Taken card = is_variable_or_memory card
fits role.Used card = true
fits role.Goal card = is_controlled card

abbrev pub is_member_of : ℕ → Option Card → Bool
is_member_of type (Some (Member item position)) = item == type
is_member_of type _ = false

-- the values of a declared type; a name that is no type has none
abbrev pub named_values : Option Card → Values
named_values (Some (TypeName values)) = values
named_values _ = Untyped

-- what kind of values a variable of this type has
abbrev pub type_kind : Env → Kind → ExprKind
type_kind env (kinds.Range lo hi) = kind.Number
type_kind env (kinds.Named word) = values_kind (named_values (env word.text))
type_kind env kinds.Bool = kind.Truth

-- a number, or the name of a constant
abbrev pub is_whole : Env → Plain → Bool
is_whole env (plain.Number value) = true
is_whole env (plain.Name name) = is_constant (env name)
is_whole env (plain.Truth value) = false

abbrev pub is_truth : Plain → Bool
is_truth (plain.Truth value) = true
is_truth _ = false

abbrev pub is_member_name : Env → ℕ → Plain → Bool
is_member_name env type (plain.Name name) = is_member_of type (env name)
is_member_name env type (plain.Number value) = false
is_member_name env type (plain.Truth value) = false

-- an `init` is a value of its kind; where its type's name is no type, it isn't judged
abbrev pub is_value_of : Env → ExprKind → Bound → Bool
is_value_of env kind.Number init = is_whole env init.value
is_value_of env kind.Truth init = is_truth init.value
is_value_of env (kind.Members type) init = not init.minus && is_member_name env type init.value
is_value_of env kind.Condition init = true
is_value_of env kind.Nothing init = true

-- what a term for a variable has to be
abbrev pub asked_of_kind : ExprKind → Asked
asked_of_kind kind.Nothing = asked.Anything
asked_of_kind kind.Condition = asked.Anything
asked_of_kind kind.Number = asked.Term kind.Number
asked_of_kind kind.Truth = asked.Term kind.Truth
asked_of_kind (kind.Members type) = asked.Term (kind.Members type)

abbrev pub asked_for : Option Card → Asked
asked_for (Some (Variable place word values)) = asked_of_kind (values_kind values)
asked_for _ = asked.Anything

abbrev pub mismatch_at : Place → (right : Bool) → Option ItemFault
mismatch_at place right = if right then None else Some (TypeMismatch place)

-- the first fault of the wrong kind at a place of the text
abbrev pub mismatch_spot : Env → Spot → Option ItemFault
mismatch_spot env (named r word) = mismatch_at word.place (fits r (env word.text))
mismatch_spot env (bound b) = mismatch_at b.place (is_whole env b.value)
mismatch_spot env (initial of b) = mismatch_at b.place (is_value_of env (type_kind env of) b)
mismatch_spot env (condition site e) = first_part (mismatch env) asked.Condition e
mismatch_spot env (number site e) = first_part (mismatch env) (asked.Term kind.Number) e
mismatch_spot env (term_for site word e) = first_part (mismatch env) (asked_for (env word.text)) e
