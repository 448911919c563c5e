-- The places of the cells of a table that hold and are asked for, row by row.
use Rattle.std.specs.Prelude.{ℕ, ◌+◌, Bool, true, ◌&&◌, List, [], ◌∷◌, map, filter, slice_get, if◌then◌else◌}
use Rattle.std.specs.List.{flat_map, zip}
use Rattle.ft_core.specs.declared.tables.Var.{Var}
use Rattle.ft_core.specs.declared.term.Term.{Term}
use Rattle.ft_core.specs.declared.term.Cond.{Cond}
use Rattle.ft_core.specs.meaning.Grids.{Cell, cells, numbered}
use Rattle.ft_mean.specs.meaning.Cells.{cell_holds}
use Rattle.ft_mean.specs.meaning.Value.{View, truth}
use Rattle.ft_claims.specs.laws.CellLaws.{is_out_of}
use Rattle.ft_cover.specs.declared.placing.Wanted.{Wanted}
use Rattle.ft_cover.specs.declared.placing.Wanted.TheVariants.{Holding, Outside}
use Rattle.ft_cover.specs.meaning.Covered.{place_of}

-- whether a cell for this variable with this term is asked for, where it holds
abbrev pub is_wanted : List Var → View → Wanted → (target : ℕ) → Term → Bool
is_wanted vars V Holding target e = true
is_wanted vars V Outside target e = is_out_of V (slice_get vars target) e

abbrev pub is_sought : List Var → View → Wanted → Cell → Bool
is_sought vars V wanted cell = cell_holds V cell && is_wanted vars V wanted cell.target cell.term

abbrev pub places_in : List Var → View → Wanted → List Cell → List (ℕ × ℕ)
places_in vars V wanted cells = map place_of (filter (is_sought vars V wanted) cells)

-- of a condition and a term in a column
abbrev pub column_places : List Var → View → Wanted → (target row : ℕ) → ℕ × (Cond × Term) → List (ℕ × ℕ)
column_places vars V wanted target row c =
    if truth V c.1.0 && is_wanted vars V wanted target c.1.1 then (row + 1, c.0 + 1) ∷ [] else []

-- of a row whose cells have the conditions of their columns alone
abbrev pub row_places : List Var → View → Wanted → (target row : ℕ) → List Cond → List Term → List (ℕ × ℕ)
row_places vars V wanted target row conds terms = flat_map (column_places vars V wanted target row) (numbered (zip conds terms))

-- of a row whose cells have its condition too
abbrev pub headed_places : List Var → View → Wanted → (target row : ℕ) → Cond → List Cond → List Term → List (ℕ × ℕ)
headed_places vars V wanted target row head conds terms =
    if truth V head then row_places vars V wanted target row conds terms else []

-- of a row of a table of each kind
abbrev pub normal_row : List Var → View → Wanted → (target : ℕ) → (columns : List Cond) → ℕ × (Cond × List Term) → List (ℕ × ℕ)
normal_row vars V wanted target columns r = headed_places vars V wanted target r.0 r.1.0 columns r.1.1

abbrev pub inverted_row : List Var → View → Wanted → (target : ℕ) → List Term → ℕ × (Cond × List Cond) → List (ℕ × ℕ)
inverted_row vars V wanted target terms r = headed_places vars V wanted target r.0 r.1.0 r.1.1 terms

abbrev pub vector_row : List Var → View → Wanted → (columns : List Cond) → ℕ × (ℕ × List Term) → List (ℕ × ℕ)
vector_row vars V wanted columns r = row_places vars V wanted r.1.0 r.0 columns r.1.1
