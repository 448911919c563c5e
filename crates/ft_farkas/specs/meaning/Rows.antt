-- Rows of numbers: a column for the constant, one for each unknown, one for the multiplier of each line. Sums of rows and values.
use Rattle.std.specs.Prelude.{◌≡◌, ℕ, zero, suc, ℤ, pos, ◌+◌, ◌≤◌, ◌<◌, ◌+ℤ◌, ◌*ℤ◌, ◌≤ℤ◌, nat_lt, nat_eq, List, [], ◌∷◌, ◌++◌, length, Option, Some, None, slice_get, slice_index_or, unsigned_abs, if◌then◌else◌}
use Rattle.ft_linear.specs.declared.lines.Line.{Line}
use Rattle.ft_linear.specs.declared.lines.Line.TheVariants.{Atom, Upper, Lower}
use Rattle.ft_linear.specs.meaning.Formula.{FormulaView}
use Rattle.ft_linear.specs.meaning.Part.{PartView}
use Rattle.ft_linear.specs.meaning.Rules.{line_form, factors_in, constant_in, factor_of}

-- a row: column 0 is the constant, column u + 1 the factor of unknown u, and the multipliers come after the unknowns
abbrev pub Row : Type 0
Row = ℕ → ℤ

abbrev pub row_of : List ℤ → Row
row_of numbers column = slice_index_or numbers column (pos 0)

abbrev pub constant : Row → ℤ
constant r = r 0

abbrev pub factor : ℕ → Row → ℤ
factor u r = r (suc u)

-- the multiplier of a line, in rows of so many unknowns
abbrev pub multiplier : ℕ → ℕ → Row → ℤ
multiplier unknowns line r = r (suc unknowns + line)

-- both bounds of each unknown
abbrev pub bounds : ℕ → List Line
bounds zero = []
bounds (suc u) = bounds u ++ Upper u 1 ∷ Lower u 1 ∷ []

-- the lines that rows are sums of: those that are given, and all bounds
abbrev pub sources : PartView → List Line → List Line
sources p lines = lines ++ bounds (length p.spans)

abbrev pub line_entry : FormulaView → PartView → ℕ → Line → ℤ
line_entry f p zero l = constant_in (line_form f p l)
line_entry f p (suc u) l = factor_of u (factors_in (line_form f p l))

abbrev pub entry_in : FormulaView → PartView → ℕ → Option Line → ℤ
entry_in f p column None = pos 0
entry_in f p column (Some l) = line_entry f p column l

-- a line as a row: its numbers, and the multiplier 1 of itself
abbrev pub source_row : FormulaView → PartView → List Line → ℕ → Row
source_row f p lines line column =
    if nat_lt (length p.spans) column then (if nat_eq column (suc (length p.spans) + line) then pos 1 else pos 0)
    else entry_in f p column (slice_get (sources p lines) line)

-- the sum of the lines, each times its multiplier: these stand from this column on
abbrev pub weighted : FormulaView → PartView → Row → ℕ → ℕ → List Line → ℤ
weighted f p r from column [] = pos 0
weighted f p r from column (l ∷ ls) = (r from *ℤ line_entry f p column l) +ℤ weighted f p r (suc from) column ls

-- the constant and the factors are the sum of the lines by the row's own multipliers
abbrev pub IsSum : FormulaView → PartView → List Line → Row → Type 0
IsSum f p ls r = (column : ℕ) → column ≤ length p.spans → r column ≡ weighted f p r (suc (length p.spans)) column ls

-- how many columns a row of so many unknowns has: its constant, its factors, and multipliers of as many as 256 lines and of both bounds of each unknown
abbrev pub width : ℕ → ℕ
width unknowns = suc unknowns + (256 + (unknowns + unknowns))

-- no multiplier is negative
abbrev pub IsPositive : ℕ → Row → Type 0
IsPositive unknowns r = (line : ℕ) → suc unknowns + line < width unknowns → pos 0 ≤ℤ multiplier unknowns line r

abbrev pub with_times : ℕ → Line → Line
with_times t (Atom number value times) = Atom number value t
with_times t (Upper unknown times) = Upper unknown t
with_times t (Lower unknown times) = Lower unknown t

-- the lines that a row is the sum of, each with its multiplier, but for those with the multiplier 0
abbrev pub chosen : Row → ℕ → List Line → List Line
chosen r from [] = []
chosen r from (l ∷ ls) =
    if nat_eq (unsigned_abs (r from)) 0 then chosen r (suc from) ls
    else with_times (unsigned_abs (r from)) l ∷ chosen r (suc from) ls
