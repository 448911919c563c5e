-- What each answer of the elimination says.
use Rattle.std.specs.Prelude.{◌≡◌, ℕ, ℤ, pos, ◌*ℤ◌, ◌≤ℤ◌, ◌<◌, ◌≤◌, true, List, length, All, is_some, unsigned_abs, ◌⊎◌}
use Rattle.ft_linear.specs.declared.lines.Line.{Line}
use Rattle.ft_linear.specs.declared.lines.Line.TheVariants.{Atom, Upper, Lower}
use Rattle.ft_linear.specs.meaning.Formula.{FormulaView}
use Rattle.ft_linear.specs.meaning.Part.{PartView}
use Rattle.ft_linear.specs.meaning.Rules.{line_form}
use Rattle.ft_farkas.specs.meaning.Rows.{Row, constant, sources, IsSum, IsPositive, width}
use Rattle.ft_farkas.specs.meaning.Kept.{AreKept, Combines, IsNarrow, row_in}
use Rattle.ft_farkas.specs.meaning.Fractions.{AreGiven, IsBelow}

abbrev pub IsLiteral : Line → Type 0
IsLiteral (Atom number value times) = times ≡ 1
IsLiteral (Upper unknown times) = ⊥
IsLiteral (Lower unknown times) = ⊥

-- at most 256 lines, each of a forced literal, taken once
pub record AreLiterals (f : FormulaView) (p : PartView) (lines : List Line) : Type 0 where
  pub few : length lines ≤ 256
  pub once : All IsLiteral lines
  pub forced : All (λ l. is_some (line_form f p l) ≡ true) lines

abbrev pub IsFarNumber : ℤ → Type 0
IsFarNumber z = 9007199254740992 < unsigned_abs z

-- fractions of some unknowns with a numerator or a least common denominator above 2^53
pub record HasFar (unknowns : ℕ) (kept : List (List ℤ)) : Type 0 where
  pub given : ℕ
  pub within : given ≤ unknowns
  pub numerators : ℕ → ℤ
  pub denominator : ℤ
  pub fractions : AreGiven unknowns kept numerators denominator given
  pub far : IsFarNumber denominator ⊎ ((u : ℕ) × (u < given) × IsFarNumber (numerators u))

-- no kept row says that a positive constant is at most 0, and the fractions that the kept rows give are too far away
pub record IsFar (f : FormulaView) (p : PartView) (lines : List Line) (kept : List (List ℤ)) : Type 0 where
  pub rows : AreKept f p lines kept
  pub none : (k : ℕ) → k < length kept → IsBelow (length p.spans) 0 (row_in kept k) → constant (row_in kept k) ≤ℤ pos 0
  pub point : HasFar (length p.spans) kept

-- two rows that are the same but for a positive factor
pub record AreSame (unknowns : ℕ) (r s : Row) : Type 0 where
  pub times_first : ℕ
  pub times_second : ℕ
  pub positive_first : 0 < times_first
  pub positive_second : 0 < times_second
  pub same : (c : ℕ) → c ≤ unknowns → pos times_first *ℤ r c ≡ pos times_second *ℤ s c

-- derived rows, none the same as a kept row before it, each a sum of lines and bounds by its own multipliers
pub record AreDifferent (f : FormulaView) (p : PartView) (lines : List Line) (kept : List (List ℤ)) : Type 0 where
  pub rows : AreKept f p lines kept
  pub sums : (k : ℕ) → k < length kept → IsSum f p (sources p lines) (row_in kept k)
  pub positive : (k : ℕ) → k < length kept → IsPositive (length p.spans) (row_in kept k)
  pub apart : (i j : ℕ) → i < j → length (sources p lines) ≤ j → j < length kept → AreSame (length p.spans) (row_in kept j) (row_in kept i) → ⊥

-- two kept rows whose combination has a number above 2^62 either way
pub record IsTooWide (unknowns : ℕ) (kept : List (List ℤ)) (first second : ℕ) : Type 0 where
  pub first_kept : first < length kept
  pub second_kept : second < length kept
  pub unknown : ℕ
  pub within : unknown < unknowns
  pub combined : Row
  pub made : Combines (width unknowns) unknown (row_in kept first) (row_in kept second) combined
  pub column : ℕ
  pub in_row : column < width unknowns
  pub wide : IsNarrow (combined column) → ⊥

pub record IsWide (f : FormulaView) (p : PartView) (lines : List Line) (kept : List (List ℤ)) (first second : ℕ) : Type 0 where
  pub rows : AreKept f p lines kept
  pub combination : IsTooWide (length p.spans) kept first second

-- what the room of an elimination holds
pub record Findings : Type 0 where
  pub unknowns : ℕ
  pub kept : List (List ℤ)
  pub lines : List Line
  pub point : List ℤ
