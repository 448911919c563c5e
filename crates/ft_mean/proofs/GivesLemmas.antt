-- The cells of a table that hold and have a value, by its rows and columns.
use Rattle.std.proofs.Common.{◌≡◌, ◌∙◌, ap, refl, ℕ, ◌+◌, ℤ, Bool, true, false, cond, ◌&&◌, ◌||◌, List, [], ◌∷◌, ◌++◌, map}
use Rattle.std.specs.Prelude.{filter, ◌==◌}
use Rattle.std.specs.List.{list_any, list_all, flat_map, zip, enumerate_from}
use Rattle.std.specs.Ordering.{int_eq}
use Rattle.std.proofs.lemmas.List.Folds.{list_any-append}
use Rattle.ft_core.specs.declared.tables.Tables.{Tables}
use Rattle.ft_core.specs.declared.tables.Table.{Table}
use Rattle.ft_core.specs.declared.tables.Section.{Section}
use Rattle.ft_core.specs.declared.tables.Grid.{Grid}
use Rattle.ft_core.specs.declared.tables.Grid.TheVariants.{Normal, Inverted, Vector}
use Rattle.ft_core.specs.declared.term.Term.{Term}
use Rattle.ft_core.specs.declared.term.Cond.{Cond}
use Rattle.ft_core.specs.meaning.Grids.{Cell, row_cells, cells, cells_for, is_section}
use Rattle.ft_mean.specs.meaning.Value.{View, value, truth}
use Rattle.ft_mean.specs.meaning.Cells.{cell_holds, cells_of, defined}
use Rattle.ft_mean.specs.judge.Seen.{gives_in, row_gives, grid_gives}

-- what passes a test among those that pass another
any_filter : {A : Type 0} (p q : A → Bool) (xs : List A) → list_any p (filter q xs) ≡ list_any (λ a. q a && p a) xs
any_filter p q [] = refl
any_filter p q (x ∷ xs) = by_test (q x) (any_filter p q xs)
  where
    by_test : (b : Bool) → list_any p (filter q xs) ≡ list_any (λ a. q a && p a) xs
        → list_any p (cond b (x ∷ filter q xs) (filter q xs)) ≡ ((b && p x) || list_any (λ a. q a && p a) xs)
    by_test true h = λ i. p x || h i
    by_test false h = h

module _ (V : View) (x : ℕ) (z : ℤ) where
  -- a cell for x that holds and has the value
  abbrev gives : Cell → Bool
  gives cell = (cell.target == x) && (cell_holds V cell && int_eq z (value V cell.term))

  spread : (b p rest : Bool) → ((b && p) || (b && rest)) ≡ (b && (p || rest))
  spread true p rest = refl
  spread false p rest = refl

  nothing : (b : Bool) → false ≡ (b && false)
  nothing true = refl
  nothing false = refl

  abbrev entry : List Cond × Term → Bool
  entry c = list_all (truth V) c.0 && int_eq z (value V c.1)

  row-gives : (n i target : ℕ) (columns : List (List Cond × Term))
      → list_any gives (map (λ c. record { row = i; column = c.0; target = target; conds = c.1.0; term = c.1.1 })
      (enumerate_from n columns))
      ≡ ((target == x) && list_any entry columns)
  row-gives n i target [] = nothing (target == x)
  row-gives n i target (c ∷ cs) = ap (λ b. gives (record { row = i; column = n; target = target; conds = c.0; term = c.1 }) || b)
      (row-gives (n + 1) i target cs)
      ∙ spread (target == x) (entry c) (list_any entry cs)

  -- under a row condition
  under : (r : Cond) (columns : List Cond) (es : List Term) → list_any entry (zip (map (λ column. r ∷ column ∷ []) columns) es)
      ≡ row_gives V z r columns es
  under r [] es = nothing (truth V r)
  under r (c ∷ cs) [] = nothing (truth V r)
  under r (c ∷ cs) (e ∷ es) = by_row (truth V r) (truth V c) (int_eq z (value V e)) (gives_in V z cs es) (under r cs es)
    where
      by_row : (a b q more : Bool) {rest : Bool} → rest ≡ (a && more) → (((a && (b && true)) && q) || rest) ≡ (a && ((b && q) || more))
      by_row true true q more h = λ i. q || h i
      by_row true false q more h = h
      by_row false b q more h = h

  -- and under column conditions alone
  along : (columns : List Cond) (es : List Term) → list_any entry (zip (map (λ column. column ∷ []) columns) es) ≡ gives_in V z columns es
  along [] es = refl
  along (c ∷ cs) [] = refl
  along (c ∷ cs) (e ∷ es) = by_column (truth V c) (int_eq z (value V e)) (along cs es)
    where
      by_column : (b q : Bool) {rest more : Bool} → rest ≡ more → (((b && true) && q) || rest) ≡ ((b && q) || more)
      by_column true q h = λ i. q || h i
      by_column false q h = h

  joined : (p : Bool) (xs ys : List Cell) (a b : Bool) → list_any gives xs ≡ (p && a) → list_any gives ys ≡ (p && b)
      → list_any gives (xs ++ ys) ≡ (p && (a || b))
  joined p xs ys a b h k = list_any-append gives xs ys ∙ (λ i. h i || k i) ∙ spread p a b

  normal-gives : (n target : ℕ) (columns rows : List Cond) (terms : List (List Term))
      → list_any gives (flat_map (λ r. row_cells r.0 target (zip (map (λ column. r.1.0 ∷ column ∷ []) columns) r.1.1))
      (enumerate_from n (zip rows terms)))
      ≡ ((target == x) && list_any (λ r. row_gives V z r.0 columns r.1) (zip rows terms))
  normal-gives n target columns [] terms = nothing (target == x)
  normal-gives n target columns (r ∷ rows) [] = nothing (target == x)
  normal-gives n target columns (r ∷ rows) (es ∷ terms) = joined (target == x)
      (row_cells n target (zip (map (λ column. r ∷ column ∷ []) columns) es)) _ (row_gives V z r columns es)
      (list_any (λ r. row_gives V z r.0 columns r.1) (zip rows terms))
      (row-gives 0 n target (zip (map (λ column. r ∷ column ∷ []) columns) es) ∙ ap (λ b. (target == x) && b) (under r columns es))
      (normal-gives (n + 1) target columns rows terms)

  inverted-gives : (n target : ℕ) (terms : List Term) (rows : List Cond) (grid : List (List Cond))
      → list_any gives (flat_map (λ r. row_cells r.0 target (zip (map (λ entry. r.1.0 ∷ entry ∷ []) r.1.1) terms))
      (enumerate_from n (zip rows grid)))
      ≡ ((target == x) && list_any (λ r. row_gives V z r.0 r.1 terms) (zip rows grid))
  inverted-gives n target terms [] grid = nothing (target == x)
  inverted-gives n target terms (r ∷ rows) [] = nothing (target == x)
  inverted-gives n target terms (r ∷ rows) (cs ∷ grid) = joined (target == x)
      (row_cells n target (zip (map (λ entry. r ∷ entry ∷ []) cs) terms)) _ (row_gives V z r cs terms)
      (list_any (λ r. row_gives V z r.0 r.1 terms) (zip rows grid))
      (row-gives 0 n target (zip (map (λ entry. r ∷ entry ∷ []) cs) terms) ∙ ap (λ b. (target == x) && b) (under r cs terms))
      (inverted-gives (n + 1) target terms rows grid)

  vector-gives : (n : ℕ) (columns : List Cond) (targets : List ℕ) (terms : List (List Term))
      → list_any gives (flat_map (λ r. row_cells r.0 r.1.0 (zip (map (λ column. column ∷ []) columns) r.1.1))
      (enumerate_from n (zip targets terms)))
      ≡ list_any (λ r. (r.0 == x) && gives_in V z columns r.1) (zip targets terms)
  vector-gives n columns [] terms = refl
  vector-gives n columns (t ∷ targets) [] = refl
  vector-gives n columns (t ∷ targets) (es ∷ terms) =
      list_any-append gives (row_cells n t (zip (map (λ column. column ∷ []) columns) es)) _
      ∙ (λ i. (row-gives 0 n t (zip (map (λ column. column ∷ []) columns) es) ∙ ap (λ b. (t == x) && b) (along columns es)) i
      || vector-gives (n + 1) columns targets terms i)

  grid-gives : (g : Grid) → list_any gives (cells g) ≡ grid_gives V x z g
  grid-gives (Normal target columns rows terms) = normal-gives 0 target columns rows terms
  grid-gives (Inverted target terms rows grid) = inverted-gives 0 target terms rows grid
  grid-gives (Vector columns targets terms) = vector-gives 0 columns targets terms

  -- of all tables of a section
  pub defined-gives : (S : Tables) (section : Section) → defined S section V x z
      ≡ list_any (λ t. is_section t.section section && grid_gives V x z t.grid) S.tables
  defined-gives S section = any_filter (λ c. int_eq z (value V c.term)) (cell_holds V) (cells_of S section x) ∙ by_tables S.tables
    where
      by_table : (b : Bool) (t : Table) → list_any (λ c. cell_holds V c && int_eq z (value V c.term)) (cond b (cells_for x t.grid) [])
          ≡ (b && grid_gives V x z t.grid)
      by_table true t = any_filter (λ c. cell_holds V c && int_eq z (value V c.term)) (λ c. c.target == x) (cells t.grid)
          ∙ grid-gives t.grid
      by_table false t = refl

      by_tables : (tables : List Table) → list_any (λ c. cell_holds V c && int_eq z (value V c.term))
          (flat_map (λ t. cond (is_section t.section section) (cells_for x t.grid) []) tables)
          ≡ list_any (λ t. is_section t.section section && grid_gives V x z t.grid) tables
      by_tables [] = refl
      by_tables (t ∷ ts) =
          list_any-append (λ c. cell_holds V c && int_eq z (value V c.term)) (cond (is_section t.section section) (cells_for x t.grid) []) _
          ∙ (λ i. by_table (is_section t.section section) t i || by_tables ts i)
