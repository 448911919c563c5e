-- The rows of one scan, and the places in them.
use Rattle.std.specs.Prelude.{ℕ, ◌≡◌, ◌<◌, ℤ, List, length, IsTrue}
use Rattle.ft_core.specs.declared.tables.Tables.{Tables}
use Rattle.ft_core.specs.declared.tables.Var.{Var}
use Rattle.ft_core.specs.declared.tables.Side.TheVariants as side
use Rattle.ft_core.specs.meaning.Kinds.{Kinds, controlled, inputs, outputs, count_of, of_kind, side_kinds}
use Rattle.ft_replay.specs.declared.rows.Class.{Class}
use Rattle.ft_replay.specs.declared.rows.Class.TheVariants as class
use Rattle.ft_replay.specs.declared.rows.Rows.{Rows}

-- the variables of a class
abbrev pub class_of : Class → Kinds
class_of (class.Kind kind) = of_kind kind
class_of (class.Side s) = side_kinds s

-- where a variable is of a kind, a row has a value at this place and another one at the place of the variable among its kind
abbrev pub HasPlaces : Kinds → Var → ℕ → (row other : List ℤ) → Type 0
HasPlaces kinds v at row other = IsTrue (kinds 0 v) → (at < length row) × (v.place < length other)

-- each row has room for its variables
pub record HasRooms (S : Tables) (rows : Rows) : Type 0 where
  pub inputs_room : length rows.inputs.items ≡ count_of inputs S.vars
  pub required_room : length rows.required.items ≡ count_of (side_kinds side.Req) S.vars
  pub design_room : length rows.design.items ≡ count_of (side_kinds side.Sof) S.vars
  pub outputs_room : length rows.outputs.items ≡ count_of outputs S.vars
  pub controlled_room : length rows.controlled.items ≡ count_of controlled S.vars
