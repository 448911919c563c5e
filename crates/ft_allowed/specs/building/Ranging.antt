-- Tests of a row, variable by variable.
use Rattle.std.specs.Prelude.{ℤ, Bool, false, not, ◌&&◌, ◌||◌, int_le, List, slice_get, Some, None}
use Rattle.ft_core.specs.declared.tables.Var.{Var}
use Rattle.ft_core.specs.declared.tables.VarKind.TheVariants as kind
use Rattle.ft_core.specs.meaning.Kinds.{same_kind}

abbrev pub is_monitored : Var → Bool
is_monitored v = same_kind kind.Mon v.kind

-- a value in range stands at the variable's place
abbrev pub has_value : List ℤ → Var → Bool
has_value row v = elim (slice_get row v.place) [ None ↦ false | Some z ↦ int_le v.range.0 z && int_le z v.range.1 ]

abbrev pub is_served : List ℤ → Var → Bool
is_served row v = not (is_monitored v) || has_value row v
