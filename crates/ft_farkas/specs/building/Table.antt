-- The table of kept rows.
use Rattle.std.specs.Prelude.{◌≡◌, ℕ, zero, suc, ℤ, ◌<◌, ◌*◌, List, [], ◌∷◌, length, take, drop, slice_index_or, All}
use Rattle.ft_farkas.specs.meaning.Rows.{width}
use Rattle.ft_farkas.specs.meaning.Kept.{row_in, IsNarrow}
use Rattle.ft_farkas.specs.building.Points.{IsTop}

-- how many unknowns its rows have, how many rows there is room for, and the rows that are kept
pub record KeptView : Type 0 where
  pub unknowns : ℕ
  pub room : ℕ
  pub rows : List (List ℤ)

-- a row of numbers no greater than 2^62 either way
abbrev pub IsRow : ℕ → List ℤ → Type 0
IsRow unknowns numbers = (length numbers ≡ width unknowns) × All IsNarrow numbers

-- the tops stand beside the rows
abbrev pub HaveTops : ℕ → List (List ℤ) → List ℕ → ℕ → Type 0
HaveTops unknowns rows tops count = (k : ℕ) → k < count → IsTop unknowns (row_in rows k) (slice_index_or tops k 0)

-- the rows of so many columns that lie one after another in a list of numbers
abbrev pub rows_of : ℕ → ℕ → List ℤ → List (List ℤ)
rows_of columns zero numbers = []
rows_of columns (suc count) numbers = take columns numbers ∷ rows_of columns count (drop columns numbers)

-- the numbers of rows, one row after another, and a top for each
abbrev pub IsTable : ℕ → ℕ → List ℤ → List ℕ → Type 0
IsTable unknowns columns numbers tops = (columns ≡ width unknowns) × (length numbers ≡ length tops * columns) × All IsNarrow numbers
    × HaveTops unknowns (rows_of columns (length tops) numbers) tops (length tops)
