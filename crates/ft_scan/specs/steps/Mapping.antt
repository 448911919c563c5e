-- What the tables of a section put into a row of the variables that it defines.
use Rattle.std.specs.Prelude.{ℕ, ◌≡◌, ℤ, Bool, List, length, slice_get, Some, IsTrue, IsFalse}
use Rattle.ft_core.specs.declared.tables.Tables.{Tables}
use Rattle.ft_core.specs.declared.tables.Table.{Table}
use Rattle.ft_core.specs.declared.tables.Var.{Var}
use Rattle.ft_core.specs.declared.tables.Section.{Section}
use Rattle.ft_core.specs.declared.tables.Grid.TheVariants.{Vector}
use Rattle.ft_core.specs.declared.term.Term.{Term}
use Rattle.ft_core.specs.declared.term.Cond.{Cond}
use Rattle.ft_core.specs.meaning.Grids.{is_section}
use Rattle.ft_core.specs.meaning.Kinds.{defined_kinds, makes_image}
use Rattle.ft_mean.specs.meaning.Cells.{defined}
use Rattle.ft_mean.specs.meaning.Reading.{IsVar}
use Rattle.ft_mean.specs.meaning.Value.{View}
use Rattle.ft_scan.specs.steps.Rows.{HasValues, row_value}
use Rattle.ft_mean.specs.judge.Safe.{KeepsSizes}

-- a section that makes an image, at a view that keeps the sizes of the set and where some cell holds for each variable that it defines
pub record CanMap (S : Tables) (section : Section) (V : View) : Type 0 where
  pub image : IsTrue (makes_image section)
  pub keeps : KeepsSizes S.vars S.memories V
  pub some : HasValues S section V

-- a table of the section
abbrev pub IsTableOf : Tables → Section → Table → Type 0
IsTableOf S section table = (at : ℕ) × (slice_get S.tables at ≡ Some table) × IsTrue (is_section table.section section)

-- a vector table with these targets
abbrev pub HasTargets : Table → List ℕ → Type 0
HasTargets table targets = (columns : List Cond) × (terms : List (List Term)) × (table.grid ≡ Vector columns targets terms)

-- each variable of the section that passes the test was given its value in the row, and each other one has what it had
pub record IsFilled (S : Tables) (section : Section) (V : View) (test : ℕ → Bool) (old new : List ℤ) : Type 0 where
  pub width : length new ≡ length old
  pub filled : (x : ℕ) (v : Var) → IsVar S (defined_kinds section) x v → IsTrue (test x)
      → IsTrue (defined S section V x (row_value S section new x))
  pub rest : (x : ℕ) (v : Var) → IsVar S (defined_kinds section) x v → IsFalse (test x) → row_value S section new x
      ≡ row_value S section old x
