-- What a variable is before the first scan.
use Rattle.std.specs.Prelude.{ℕ, ℤ, pos, List, slice_get, None, Some}
use Rattle.ft_core.specs.declared.tables.Var.{Var}

-- the `init` of the variable at this place, and 0 where none is there
abbrev pub init_of : List Var → ℕ → ℤ
init_of vars x = elim (slice_get vars x) [ None ↦ pos 0 | Some v ↦ v.init ]
