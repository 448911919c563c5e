-- The cells of a table, by rows. Source: Parnas's tabular expressions, in their normal, inverted and vector form.
use Rattle.std.specs.Prelude.{ℕ, Bool, true, false, nat_lt, ◌&&◌, ◌==◌, List, [], ◌∷◌, length, map, filter}
use Rattle.std.specs.Prelude.{Option, slice_get, slice_index_or}
use Rattle.std.specs.List.{list_all, list_any, flat_map, zip, enumerate_from}
use Rattle.ft_core.specs.declared.tables.Table.{Table}
use Rattle.ft_core.specs.declared.tables.Section.{Section}
use Rattle.ft_core.specs.declared.tables.Section.TheVariants as section
use Rattle.ft_core.specs.declared.tables.Grid.{Grid}
use Rattle.ft_core.specs.declared.tables.Grid.TheVariants.{Normal, Inverted, Vector}
use Rattle.ft_core.specs.declared.term.Term.{Term}
use Rattle.ft_core.specs.declared.term.Cond.{Cond}

-- where a cell stands, the variable that it is for, the conditions under which it holds, and its term
pub record Cell : Type 0 where
  pub row : ℕ
  pub column : ℕ
  pub target : ℕ
  pub conds : List Cond
  pub term : Term

-- each item with its place, from 0
abbrev pub numbered : {X : Type 0} → List X → List (ℕ × X)
numbered xs = enumerate_from 0 xs

-- the cells of a row, from what stands in each of its columns: the conditions and the term
abbrev pub row_cells : (row target : ℕ) → List (List Cond × Term) → List Cell
row_cells row target columns = map (λ c. record { row = row; column = c.0; target = target; conds = c.1.0; term = c.1.1 })
    (numbered columns)

abbrev pub cells : Grid → List Cell
cells (Normal target columns rows terms) =
    flat_map (λ r. row_cells r.0 target (zip (map (λ column. r.1.0 ∷ column ∷ []) columns) r.1.1)) (numbered (zip rows terms))
cells (Inverted target terms rows grid) =
    flat_map (λ r. row_cells r.0 target (zip (map (λ entry. r.1.0 ∷ entry ∷ []) r.1.1) terms)) (numbered (zip rows grid))
cells (Vector columns targets terms) =
    flat_map (λ r. row_cells r.0 r.1.0 (zip (map (λ column. column ∷ []) columns) r.1.1)) (numbered (zip targets terms))

-- the cells that are for variable x
abbrev pub cells_for : ℕ → Grid → List Cell
cells_for x grid = filter (λ cell. cell.target == x) (cells grid)

-- the term in a row and a column
abbrev pub term_at : Grid → (row column : ℕ) → Option Term
term_at (Normal target columns rows terms) row column = slice_get (slice_index_or terms row []) column
term_at (Inverted target terms rows grid) row column = slice_get terms column
term_at (Vector columns targets terms) row column = slice_get (slice_index_or terms row []) column

-- whether a table defines variable x
abbrev pub defines : Grid → ℕ → Bool
defines (Normal target columns rows terms) x = target == x
defines (Inverted target terms rows grid) x = target == x
defines (Vector columns targets terms) x = list_any (λ target. target == x) targets

abbrev pub is_section : Section → Section → Bool
is_section section.In section.In = true
is_section section.Req section.Req = true
is_section section.Sof section.Sof = true
is_section section.Out section.Out = true
is_section _ _ = false

-- a table of the section that defines variable x
abbrev pub is_for : Section → ℕ → Table → Bool
is_for section x table = is_section table.section section && defines table.grid x

-- some rows and columns, and an entry for each of them
abbrev pub is_full : {X : Type 0} → (rows columns : ℕ) → List (List X) → Bool
is_full rows columns grid = nat_lt 0 rows && nat_lt 0 columns && length grid == rows && list_all (λ row. length row == columns) grid

-- each row has as many entries as the header
abbrev pub is_shaped : Grid → Bool
is_shaped (Normal target columns rows terms) = is_full (length rows) (length columns) terms
is_shaped (Inverted target terms rows grid) = is_full (length rows) (length terms) grid
is_shaped (Vector columns targets terms) = is_full (length targets) (length columns) terms
