-- What is found among the cells of a table.
use Rattle.std.specs.Prelude.{ℕ, ◌≡◌, ◌<◌, ℤ, List, [], slice_get, Option, Some, None, IsTrue, IsFalse}
use Rattle.std.specs.List.{list_any}
use Rattle.std.specs.Ordering.{int_eq}
use Rattle.ft_core.specs.declared.term.Cond.{Cond}
use Rattle.ft_core.specs.declared.term.Term.{Term}
use Rattle.ft_core.specs.declared.tables.Grid.{Grid}
use Rattle.ft_core.specs.declared.tables.Grid.TheVariants.{Vector}
use Rattle.ft_core.specs.declared.tables.Table.{Table}
use Rattle.ft_core.specs.declared.tables.Section.{Section}
use Rattle.ft_core.specs.meaning.Grids.{Cell, is_for}
use Rattle.ft_mean.specs.meaning.Value.{View, value, truth}
use Rattle.ft_mean.specs.meaning.Cells.{holding}

-- in a row of cells with these conditions and terms: the value of the term of one whose condition holds, or none holds
abbrev pub IsInRow : View → List Cond → List Term → Option ℤ → Type 0
IsInRow V conds terms None = (j : ℕ) (c : Cond) (e : Term) → slice_get conds j ≡ Some c → slice_get terms j ≡ Some e → IsFalse (truth V c)
IsInRow V conds terms (Some z) =
    (j : ℕ) × (c : Cond) × (e : Term) × (slice_get conds j ≡ Some c) × (slice_get terms j ≡ Some e) × IsTrue (truth V c) × (z ≡ value V e)

-- the value of the term of a cell that holds, or no cell holds
abbrev pub IsFound : View → List Cell → Option ℤ → Type 0
IsFound V cells None = holding V cells ≡ []
IsFound V cells (Some z) = IsTrue (list_any (λ cell. int_eq z (value V cell.term)) (holding V cells))

-- the condition at this place holds
abbrev pub IsTrueAt : View → List Cond → ℕ → Type 0
IsTrueAt V conds at = (c : Cond) × (slice_get conds at ≡ Some c) × IsTrue (truth V c)

-- and none before it does
abbrev pub IsFirstTrue : View → List Cond → ℕ → Type 0
IsFirstTrue V conds at = IsTrueAt V conds at × ((j : ℕ) → j < at → IsTrueAt V conds j → ⊥)

-- the column of a vector table at this place holds
abbrev pub IsOpenColumn : View → Grid → ℕ → Type 0
IsOpenColumn V (Vector columns targets terms) at = IsTrueAt V columns at
IsOpenColumn V _ at = ⊥

-- the table is normal or inverted
abbrev pub IsWhole : Grid → Type 0
IsWhole (Vector columns targets terms) = ⊥
IsWhole _ = Unit {0}

-- the table at this place is of the section and defines variable x
pub record IsTableFor (tables : List Table) (section : Section) (x at : ℕ) : Type 0 where
  pub table : Table
  pub there : slice_get tables at ≡ Some table
  pub is_for_it : IsTrue (is_for section x table)
