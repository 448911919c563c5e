-- The variables of a set, in order of declaration.
use Rattle.std.specs.Prelude.{ℕ, ◌+◌, ◌-◌, nat_le, ℤ, pos, int_le, unsigned_abs, Bool, ◌&&◌, List, [], ◌∷◌, ◌++◌, map, slice_get, codes}
use Rattle.std.specs.Prelude.{Option, Some, if◌then◌else◌}
use Rattle.ft_tree.specs.declared.item.Plain.{Plain}
use Rattle.ft_tree.specs.declared.item.Plain.TheVariants as plain
use Rattle.ft_tree.specs.declared.item.Bound.{Bound}
use Rattle.ft_tree.specs.declared.item.VarWord.{VarWord}
use Rattle.ft_tree.specs.declared.item.VarWord.TheVariants as word
use Rattle.ft_tree.specs.declared.item.Item.{Item}
use Rattle.ft_tree.specs.declared.item.Item.TheVariants.{EnumType, Variable}
use Rattle.ft_core.specs.declared.tables.Var.{Var}
use Rattle.ft_core.specs.declared.tables.VarKind.{VarKind}
use Rattle.ft_core.specs.declared.tables.VarKind.TheVariants as kind
use Rattle.ft_names.specs.declared.card.Card.{Card}
use Rattle.ft_names.specs.declared.card.Card.TheVariants as card
use Rattle.ft_names.specs.declared.card.Values.{Values}
use Rattle.ft_names.specs.declared.card.Values.TheVariants.{Numbers, Truths, Members, Untyped}
use Rattle.ft_names.specs.meaning.Cards.{Env, bound_value, kind_values}
use Rattle.ft_build.specs.declared.places.Places.{Places}
use Rattle.ft_build.specs.meaning.Terms.{truth_value}

abbrev pub var_kind : VarWord → VarKind
var_kind word.Mon = kind.Mon
var_kind word.Con = kind.Con
var_kind word.Input = kind.Input
var_kind word.Output = kind.Output
var_kind word.ReqVar = kind.ReqInner
var_kind word.SofVar = kind.SofInner

-- how many variables of a kind stand before
abbrev pub place_among : VarWord → Places → ℕ
place_among word.Mon places = places.monitored
place_among word.Con places = places.controlled
place_among word.Input places = places.inputs
place_among word.Output places = places.outputs
place_among word.ReqVar places = places.requirement
place_among word.SofVar places = places.design

abbrev pub no_places : Places
no_places = record { monitored = 0; controlled = 0; inputs = 0; outputs = 0; requirement = 0; design = 0 }

abbrev pub one_more : VarWord → Places → Places
one_more word.Mon places = record places { monitored = places.monitored + 1 }
one_more word.Con places = record places { controlled = places.controlled + 1 }
one_more word.Input places = record places { inputs = places.inputs + 1 }
one_more word.Output places = record places { outputs = places.outputs + 1 }
one_more word.ReqVar places = record places { requirement = places.requirement + 1 }
one_more word.SofVar places = record places { design = places.design + 1 }

-- how many stand before the next item
abbrev pub counted : Places → Item → Places
counted places (Variable w name of init) = one_more w places
counted places _ = places

-- bounds that a range can have
abbrev pub is_range : (lo hi : ℤ) → Bool
is_range lo hi = int_le lo hi && (nat_le (unsigned_abs lo) 1000000000 && nat_le (unsigned_abs hi) 1000000000)

-- the range of these bounds, and 0 alone where there is none
abbrev pub ranged : (lo hi : ℤ) → ℤ × ℤ
ranged lo hi = if is_range lo hi then (lo, hi) else (pos 0, pos 0)

-- the values of an enum type are its members' positions
abbrev pub values_range : Values → ℤ × ℤ
values_range (Numbers lo hi) = ranged lo hi
values_range Truths = ranged (pos 0) (pos 1)
values_range (Members k count) = ranged (pos 0) (pos (count - 1))
values_range Untyped = ranged (pos 0) (pos 0)

-- the members of the enum type that an item declares
abbrev pub member_names : Option Item → List (List ℕ)
member_names (Some (EnumType name members)) = map (λ member. member.text) members
member_names _ = []

-- `bool` is the enum type of `false` and `true`
abbrev pub value_members : List Item → Values → List (List ℕ)
value_members items (Members k count) = member_names (slice_get items k)
value_members items Truths = codes "false" ∷ codes "true" ∷ []
value_members items (Numbers lo hi) = []
value_members items Untyped = []

abbrev pub position_of : Option Card → ℕ
position_of (Some (card.Member item position)) = position
position_of _ = 0

abbrev pub named_position : Env → Plain → ℕ
named_position env (plain.Name name) = position_of (env name)
named_position env (plain.Number value) = 0
named_position env (plain.Truth value) = 0

abbrev pub truth_position : Plain → ℤ
truth_position (plain.Truth value) = truth_value value
truth_position (plain.Name name) = pos 0
truth_position (plain.Number value) = pos 0

-- the value of an `init`: a number, a truth, or a member's position
abbrev pub init_value : List Item → Env → Values → Bound → ℤ
init_value items env (Numbers lo hi) init = bound_value items init
init_value items env Truths init = truth_position init.value
init_value items env (Members k count) init = pos (named_position env init.value)
init_value items env Untyped init = pos 0

-- the variable of this name and kind, with these values
abbrev pub var_of : List Item → (name : List ℕ) → VarWord → (place : ℕ) → Values → (init : ℤ) → Var
var_of items name w place values init = record {
  name = name;
  kind = var_kind w;
  place = place;
  range = values_range values;
  members = value_members items values;
  init = init;
}

-- the variable that an item declares, where it does, after so many
abbrev pub build_var : List Item → Env → Places → Item → List Var
build_var items env places (Variable w name of init) =
    var_of items name.text w (place_among w places) (kind_values items of) (init_value items env (kind_values items of) init) ∷ []
build_var items env places _ = []

-- the variables that the last items declare, after so many
unfoldable pub vars_from : List Item → Env → Places → List Item → List Var
vars_from items env places [] = []
vars_from items env places (x ∷ xs) = build_var items env places x ++ vars_from items env (counted places x) xs
