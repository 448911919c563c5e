-- Where of the cells for each variable of each table one holds alone, the tables are proper.
use Rattle.std.proofs.Common.{◌≡◌, ◌∙◌, sym, ap, subst, refl, ℕ, zero, suc, ℤ, pos, Bool, true, false, not, List, [], ◌∷◌, map, length}
use Rattle.std.proofs.Common.{slice_get, Some, None, arith, true≢false}
use Rattle.std.specs.Prelude.{◌==◌}
use Rattle.std.specs.List.{All, list_all, list_any}
use Rattle.std.proofs.lemmas.Bool.{and_parts, cond-true, cond-false, or_cases}
use Rattle.std.proofs.lemmas.Bool.Decides.{Decides-eqb}
use Rattle.std.proofs.lemmas.Option.{none-some, same_Some}
use Rattle.std.proofs.Common.{⊎_elim}
use Rattle.ft_base.specs.Interval.{IsWithin}
use Rattle.ft_core.specs.declared.tables.Tables.{Tables}
use Rattle.ft_core.specs.declared.tables.Table.{Table}
use Rattle.ft_core.specs.declared.tables.Var.{Var}
use Rattle.ft_core.specs.declared.tables.Grid.{Grid}
use Rattle.ft_core.specs.declared.tables.Grid.TheVariants.{Normal, Inverted, Vector}
use Rattle.ft_core.specs.meaning.Grids.{Cell, cells_for, defines}
use Rattle.ft_mean.specs.meaning.Cells.{holding, cell_holds}
use Rattle.ft_mean.specs.meaning.Proper.{HasOneCell, AllProper}
use Rattle.ft_mean.specs.meaning.Value.{View, value}

-- whether exactly one of these is true
abbrev pub one_of : List Bool → Bool
one_of [] = false
one_of (true ∷ bs) = list_all not bs
one_of (false ∷ bs) = one_of bs

-- the term of each cell that holds is in range
abbrev pub CellsFit : View → ℤ × ℤ → List Cell → Type 0
CellsFit V range [] = Unit
CellsFit V range (cell ∷ cells) = (cell_holds V cell ≡ true → IsWithin range (value V cell.term)) × CellsFit V range cells

-- exactly one cell holds, and its term is in range
pub record OneCell (V : View) (range : ℤ × ℤ) (cells : List Cell) : Type 0 where
  pub one : one_of (map (cell_holds V) cells) ≡ true
  pub fits : CellsFit V range cells

module _ (V : View) (range : ℤ × ℤ) where
  none_holds : (cells : List Cell) → list_all not (map (cell_holds V) cells) ≡ true → holding V cells ≡ []
  none_holds [] h = refl
  none_holds (cell ∷ cells) h =
      let both = and_parts (not (cell_holds V cell)) (list_all not (map (cell_holds V) cells)) h in
      cond-false (cell_holds V cell) _ _ (untrue (cell_holds V cell) both.0) ∙ none_holds cells both.1
    where
      untrue : (b : Bool) → not b ≡ true → b ≡ false
      untrue true e = sym e
      untrue false e = refl

  abbrev Fits : List Cell → Type 0
  Fits cells = All (λ (c : Cell). IsWithin range (value V c.term)) cells

  -- by the truth of the first cell
  from_first : (cell : Cell) (cells : List Cell) (b : Bool) → cell_holds V cell ≡ b → (b ≡ true → IsWithin range (value V cell.term))
      → one_of (b ∷ map (cell_holds V) cells) ≡ true → (one_of (map (cell_holds V) cells) ≡ true → HasOneCell V cells range)
      → HasOneCell V (cell ∷ cells) range
  from_first cell cells true holds fits none later =
      let held : holding V (cell ∷ cells) ≡ cell ∷ [] = cond-true (cell_holds V cell) _ _ holds
      ∙ ap (λ cs. cell ∷ cs) (none_holds cells none) in
      record { one = ap length held; in_range = subst Fits (sym held) alone }
    where
      alone : Fits (cell ∷ [])
      alone zero c below = fits refl
      alone (suc k) c below = absurd (omega (arith, below))
  from_first cell cells false unheld fits one later =
      let rest = later one in
      let held : holding V (cell ∷ cells) ≡ holding V cells = cond-false (cell_holds V cell) _ _ unheld in
      record { one = ap length held ∙ rest.one; in_range = subst Fits (sym held) rest.in_range }

  one_holds : (cells : List Cell) → one_of (map (cell_holds V) cells) ≡ true → CellsFit V range cells → HasOneCell V cells range
  one_holds [] one fits = absurd (true≢false (sym one))
  one_holds (cell ∷ cells) one fits = from_first cell cells (cell_holds V cell) refl fits.0 one (λ e. one_holds cells e fits.1)

-- every variable in range, now and before
pub record InRanges (vars : List Var) (V : View) : Type 0 where
  pub now : (x : ℕ) (v : Var) → slice_get vars x ≡ Some v → IsWithin v.range (V.now x)
  pub before : (x : ℕ) (v : Var) → slice_get vars x ≡ Some v → IsWithin v.range (V.before x)

-- the range of the variable at this place
abbrev pub range_at : List Var → ℕ → ℤ × ℤ
range_at vars x = elim (slice_get vars x) [ None ↦ (pos 0, pos 0) | Some v ↦ v.range ]

abbrev pub targets_of : Grid → List ℕ
targets_of (Normal target columns rows terms) = target ∷ []
targets_of (Inverted target terms rows grid) = target ∷ []
targets_of (Vector columns targets terms) = targets

-- for each of these variables exactly one cell holds
abbrev pub OneFor : List Var → View → Grid → List ℕ → Type 0
OneFor vars V grid [] = Unit
OneFor vars V grid (x ∷ xs) = OneCell V (range_at vars x) (cells_for x grid) × OneFor vars V grid xs

-- in each of these tables, for each variable that it defines
abbrev pub AllOneCell : List Var → View → List Table → Type 0
AllOneCell vars V [] = Unit
AllOneCell vars V (table ∷ tables) = OneFor vars V table.grid (targets_of table.grid) × AllOneCell vars V tables

module _ (vars : List Var) (V : View) where
  among : (grid : Grid) (xs : List ℕ) → OneFor vars V grid xs → (x : ℕ) → list_any (λ target. target == x) xs ≡ true
      → OneCell V (range_at vars x) (cells_for x grid)
  among grid [] all x e = absurd (true≢false (sym e))
  among grid (y ∷ ys) all x e = ⊎_elim
      (λ here. subst (λ z. OneCell V (range_at vars z) (cells_for z grid)) ((Decides-eqb y x).0 here) all.0)
      (λ there. among grid ys all.1 x there)
      (or_cases (y == x) (list_any (λ target. target == x) ys) e)

  for_target : (grid : Grid) → OneFor vars V grid (targets_of grid) → (x : ℕ) → defines grid x ≡ true
      → OneCell V (range_at vars x) (cells_for x grid)
  for_target (Normal target columns rows terms) all x e =
      subst (λ z. OneCell V (range_at vars z) (cells_for z (Normal target columns rows terms))) ((Decides-eqb target x).0 e) all.0
  for_target (Inverted target terms rows grid) all x e =
      subst (λ z. OneCell V (range_at vars z) (cells_for z (Inverted target terms rows grid))) ((Decides-eqb target x).0 e) all.0
  for_target (Vector columns targets terms) all x e = among (Vector columns targets terms) targets all x e

  in_table : (tables : List Table) → AllOneCell vars V tables → (k : ℕ) (t : Table) → slice_get tables k ≡ Some t
      → OneFor vars V t.grid (targets_of t.grid)
  in_table [] all k t e = absurd (none-some t e)
  in_table (u ∷ tables) all zero t e = subst (λ (w : Table). OneFor vars V w.grid (targets_of w.grid)) (same_Some u t e) all.0
  in_table (u ∷ tables) all (suc k) t e = in_table tables all.1 k t e

pub proper_by_cells : (S : Tables) → ((V : View) → InRanges S.vars V → AllOneCell S.vars V S.tables) → AllProper S
proper_by_cells S one k t there V local x v declared defines_it =
    let cell = for_target S.vars V t.grid (in_table S.vars V S.tables
    (one V (record { now = local.now; before = local.before })) k t there) x defines_it in
    let range : range_at S.vars x ≡ v.range = ap (λ found. elim found [ None ↦ (pos 0, pos 0) | Some w ↦ w.range ]) declared in
    subst (HasOneCell V (cells_for x t.grid)) range (one_holds V (range_at S.vars x) (cells_for x t.grid) cell.one cell.fits)
