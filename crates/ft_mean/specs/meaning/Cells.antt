-- The value that a table gives a variable. One definition serves IN, REQ, SOF and OUT.
use Rattle.std.specs.Prelude.{ℕ, ℤ, Bool, List, [], filter, IsTrue, if◌then◌else◌}
use Rattle.std.specs.List.{list_any, list_all, flat_map}
use Rattle.std.specs.Ordering.{int_eq}
use Rattle.ft_core.specs.declared.tables.Tables.{Tables}
use Rattle.ft_core.specs.declared.tables.Var.{Var}
use Rattle.ft_core.specs.declared.tables.Section.{Section}
use Rattle.ft_core.specs.meaning.Kinds.{defined_kinds}
use Rattle.ft_core.specs.meaning.Grids.{Cell, cells_for, is_section}
use Rattle.ft_mean.specs.meaning.Reading.{IsVar}
use Rattle.ft_mean.specs.meaning.Value.{View, value, truth}

-- a cell holds where its conditions do
abbrev pub cell_holds : View → Cell → Bool
cell_holds V cell = list_all (truth V) cell.conds

-- those of the cells that hold
abbrev pub holding : View → List Cell → List Cell
holding V cells = filter (cell_holds V) cells

-- the cells for variable x of the tables of a section
abbrev pub cells_of : Tables → Section → ℕ → List Cell
cells_of S section x = flat_map (λ table. if is_section table.section section then cells_for x table.grid else []) S.tables

-- z is the value of the term of some cell for x that holds
abbrev pub defined : Tables → Section → View → ℕ → ℤ → Bool
defined S section V x z = list_any (λ cell. int_eq z (value V cell.term)) (holding V (cells_of S section x))

-- each variable that the section defines has such a value
abbrev pub Follows : Tables → Section → View → (ℕ → ℤ) → Type 0
Follows S section V values = (x : ℕ) (v : Var) → IsVar S (defined_kinds section) x v → IsTrue (defined S section V x (values x))
