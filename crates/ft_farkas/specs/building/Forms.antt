-- The numbers of forms, column by column.
use Rattle.std.specs.Prelude.{ℕ, zero, suc, ℤ, pos, neg_ℤ, ◌≤ℤ◌, ◌<ℤ◌, ◌<◌, Bool, List, length, if◌then◌else◌}
use Rattle.ft_linear.specs.declared.lines.Line.{Line}
use Rattle.ft_linear.specs.meaning.Form.{LinView}
use Rattle.ft_linear.specs.meaning.Formula.{FormulaView}
use Rattle.ft_linear.specs.meaning.Part.{PartView}
use Rattle.ft_linear.specs.meaning.Rules.{factor_of}
use Rattle.ft_farkas.specs.meaning.Rows.{Row, constant, sources, IsSum, IsPositive}
use Rattle.ft_farkas.specs.meaning.Kept.{IsNarrow, row_in}
use Rattle.ft_farkas.specs.meaning.Fractions.{IsBelow}

-- the constant of a form, then its factors
abbrev pub entry_of : LinView → ℕ → ℤ
entry_of l zero = l.constant
entry_of l (suc u) = factor_of u l.factors

abbrev pub turned_by : Bool → ℤ → ℤ
turned_by value z = if value then z else neg_ℤ z

-- a row that is a sum of lines and bounds, and has no unknown and a positive constant
pub record ShowsSum (f : FormulaView) (p : PartView) (lines : List Line) (r : Row) : Type 0 where
  pub narrow : (c : ℕ) → IsNarrow (r c)
  pub sum : IsSum f p (sources p lines) r
  pub positive : IsPositive (length p.spans) r
  pub none : IsBelow (length p.spans) 0 r
  pub above : pos 0 <ℤ constant r

-- no row without unknowns has a positive constant
abbrev pub NoneContradict : ℕ → List (List ℤ) → ℕ → Type 0
NoneContradict unknowns kept count = (k : ℕ) → k < count → IsBelow unknowns 0 (row_in kept k) → constant (row_in kept k) ≤ℤ pos 0
