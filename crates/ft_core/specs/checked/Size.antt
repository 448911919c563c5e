-- The size of a term: no value that is computed for it is beyond its size, where variables and ages are in their ranges.
use Rattle.std.specs.Prelude.{ℕ, ◌+◌, ◌*◌, max, nat_le, pos, unsigned_abs, int_le, Bool, true, ◌&&◌, List, Option, Some, None, slice_get}
use Rattle.std.specs.List.{list_all}
use Rattle.ft_core.specs.declared.term.Term.{Term, Term-F, fold-Term}
use Rattle.ft_core.specs.declared.term.Term.TheOpen as term
use Rattle.ft_core.specs.declared.term.Cond.{Cond, Cond-F, fold-Cond}
use Rattle.ft_core.specs.declared.term.Cond.TheOpen as cond
use Rattle.ft_core.specs.declared.tables.Var.{Var}
use Rattle.ft_core.specs.declared.tables.Memory.{Memory}
use Rattle.ft_core.specs.declared.tables.Memory.TheVariants.{Held, Hyst}
use Rattle.ft_core.specs.declared.tables.Grid.{Grid}
use Rattle.ft_core.specs.declared.tables.Grid.TheVariants.{Normal, Inverted, Vector}

-- the size of a term, and whether neither it nor any part of it has a size above 10^15 or a divisor outside 1 to 1,000,000
pub record Measure : Type 0 where
  pub size : ℕ
  pub small : Bool

-- of this size, where its parts are small or not
abbrev pub measured : ℕ → (parts_small : Bool) → Measure
measured size parts_small = record { size = size; small = parts_small && nat_le size 1000000000000000 }

-- the greatest of 1 and the bounds of a variable's range
abbrev pub var_size : Option Var → ℕ
var_size None = 1
var_size (Some v) = max 1 (max (unsigned_abs v.range.0) (unsigned_abs v.range.1))

-- the greatest of 1 and a timer's hold
abbrev pub age_size : Option Memory → ℕ
age_size (Some (Held name side c hold)) = max 1 (unsigned_abs hold)
age_size _ = 1

abbrev pub layer_measure : List Var → List Memory → Term-F Measure → Measure
layer_measure vars memories (term.Num n) = measured (unsigned_abs n) true
layer_measure vars memories (term.Now x) = measured (var_size (slice_get vars x)) true
layer_measure vars memories (term.Prev x) = measured (var_size (slice_get vars x)) true
layer_measure vars memories (term.Age m) = measured (age_size (slice_get memories m)) true
layer_measure vars memories (term.Neg e) = measured e.size e.small
layer_measure vars memories (term.Add a b) = measured (a.size + b.size) (a.small && b.small)
layer_measure vars memories (term.Sub a b) = measured (a.size + b.size) (a.small && b.small)
layer_measure vars memories (term.Times c e) = measured (unsigned_abs c * e.size) e.small
layer_measure vars memories (term.Div e k) = measured e.size (e.small && int_le (pos 1) k && int_le k (pos 1000000))

unfoldable pub measure : List Var → List Memory → Term → Measure
measure vars memories = fold-Term Measure (layer_measure vars memories)

abbrev pub size_of : List Var → List Memory → Term → ℕ
size_of vars memories e = (measure vars memories e).size

abbrev pub is_sized_term : List Var → List Memory → Term → Bool
is_sized_term vars memories e = (measure vars memories e).small

-- each term of a condition is small
abbrev pub layer_sized : List Var → List Memory → Cond-F Bool → Bool
layer_sized vars memories (cond.Compare r a b) = is_sized_term vars memories a && is_sized_term vars memories b
layer_sized vars memories (cond.Not a) = a
layer_sized vars memories (cond.And a b) = a && b
layer_sized vars memories (cond.Or a b) = a && b
layer_sized vars memories _ = true

unfoldable pub is_sized : List Var → List Memory → Cond → Bool
is_sized vars memories = fold-Cond Bool (layer_sized vars memories)

abbrev pub is_sized_memory : List Var → List Memory → Memory → Bool
is_sized_memory vars memories (Held name side c hold) = is_sized vars memories c
is_sized_memory vars memories (Hyst name side e lo hi start) = is_sized_term vars memories e

abbrev pub is_sized_grid : List Var → List Memory → Grid → Bool
is_sized_grid vars memories (Normal target columns rows terms) =
    list_all (is_sized vars memories) columns && list_all (is_sized vars memories) rows
    && list_all (list_all (is_sized_term vars memories)) terms
is_sized_grid vars memories (Inverted target terms rows grid) =
    list_all (is_sized_term vars memories) terms && list_all (is_sized vars memories) rows
    && list_all (list_all (is_sized vars memories)) grid
is_sized_grid vars memories (Vector columns targets terms) =
    list_all (is_sized vars memories) columns && list_all (list_all (is_sized_term vars memories)) terms
