-- The first two cells of an overlap are for one variable.
use Rattle.std.proofs.Common.{◌≡◌, ◌∙◌, sym, ap, subst, ℕ, zero, suc, ◌+◌, ◌<◌, ◌≤◌, ℤ, true, List, [], ◌∷◌, ◌++◌, map, length, Some}
use Rattle.std.proofs.Common.{slice_get, arith}
use Rattle.std.specs.Prelude.{◌==◌, nat_le}
use Rattle.std.specs.List.{list_all, flat_map, zip, enumerate_from}
use Rattle.std.proofs.lemmas.Bool.{and_parts, eqb-true}
use Rattle.std.proofs.lemmas.List.Elements.{filter-append}
use Rattle.std.proofs.lemmas.Option.{none-some}
use Rattle.ft_core.specs.declared.tables.Tables.{Tables}
use Rattle.ft_core.specs.declared.tables.Table.{Table}
use Rattle.ft_core.specs.declared.tables.Grid.{Grid}
use Rattle.ft_core.specs.declared.tables.Grid.TheVariants.{Normal, Inverted, Vector}
use Rattle.ft_core.specs.laws.Places.{on-left, one-at, some-at}
use Rattle.ft_core.specs.meaning.Grids.{Cell, cells, row_cells, is_shaped}
use Rattle.ft_mean.specs.meaning.Cells.{cell_holds, holding}
use Rattle.ft_mean.specs.meaning.Value.{View, truth}
use Rattle.ft_claims.specs.laws.CellLaws.{OverlapIsOfOne}
use Rattle.ft_claims.specs.laws.Laws.{Laws}
use Rattle.ft_claims.specs.meaning.Claims.{claim_true}
use Rattle.ft_claims.specs.meaning.Coverage.{overlap, cover_frame, overlap_node}
use Rattle.ft_claims.specs.meaning.Names.{Frame, view}
use Rattle.ft_claims.specs.meaning.Numbers.{cover_numbers}
use Rattle.ft_claims.specs.meaning.Shown.{Shows}
use Rattle.ft_claims.proofs.CellAlikeLemmas.{holding_again}
use Rattle.ft_claims.proofs.CoverageLemmas.{count, vector-count, two-claims}
use Rattle.ft_claims.proofs.Lists.{at_place, of-filtered}
use Rattle.ft_claims.proofs.LocalLemmas.{cover_same}
use Rattle.ft_claims.proofs.ObligedLemmas.{is-itself}
use Rattle.ft_claims.proofs.ReadsThere.{table_ageless}
use Rattle.ft_claims.proofs.ShapeLemmas.{shaped, full-parts}
use Rattle.ft_claims.proofs.ShownLemmas.{nodes_say, shown_again, two_of}
use Rattle.ft_claims.proofs.TableLemmas.{row-for, normal-for, inverted-for}

module _ (W : View) where
  -- each cell that holds has the target that all have
  of_target : (t : ℕ) (xs : List Cell) → list_all (λ (c : Cell). c.target == t) xs ≡ true → (i : ℕ) (c : Cell)
      → slice_get (holding W xs) i ≡ Some c → c.target ≡ t
  of_target t xs all i c at =
      let from = of-filtered (cell_holds W) xs i c at in
      eqb-true c.target t (at_place (λ (c : Cell). c.target == t) xs all from.0 c from.1)

  abbrev AreOfOne : List Cell → Type 0
  AreOfOne cs = (c d : Cell) → slice_get (holding W cs) 0 ≡ Some c → slice_get (holding W cs) 1 ≡ Some d → c.target ≡ d.target

  one_target : (t : ℕ) (xs : List Cell) → list_all (λ (c : Cell). c.target == t) xs ≡ true → AreOfOne xs
  one_target t xs all c d first second = of_target t xs all 0 c first ∙ sym (of_target t xs all 1 d second)

  front : (xs ys : List Cell) (i : ℕ) (c : Cell) → i < length (holding W xs) → slice_get (holding W (xs ++ ys)) i ≡ Some c
      → slice_get (holding W xs) i ≡ Some c
  front xs ys i c l at =
      let here = some-at (holding W xs) i l in
      let there = on-left (holding W xs) (holding W ys) i here.0 here.1 in
      let same = one-at (holding W xs ++ holding W ys) i here.0 c there
      (sym (ap (λ cs. slice_get cs i) (filter-append (cell_holds W) xs ys)) ∙ at) in
      here.1 ∙ ap Some same

  first_target : (t : ℕ) (xs ys : List Cell) → list_all (λ (c : Cell). c.target == t) xs ≡ true → 2 ≤ length (holding W xs)
      → AreOfOne (xs ++ ys)
  first_target t xs ys all two c d first second = one_target t xs all c d (front xs ys 0 c (omega (arith, two)) first)
      (front xs ys 1 d (omega (arith, two)) second)

module _ (S : Tables) (frame : Frame) (σ : ℕ → ℤ) where
  abbrev W : View
  W = view S frame σ

  grid_one : (grid : Grid) → is_shaped grid ≡ true → claim_true σ (overlap_node S frame grid) ≡ true → AreOfOne W (cells grid)
  grid_one (Normal target columns rows terms) shape shown = one_target W target (cells (Normal target columns rows terms))
      (normal-for (λ y. y == target) 0 target columns rows terms (is-itself target))
  grid_one (Inverted target terms rows grid) shape shown = one_target W target (cells (Inverted target terms rows grid))
      (inverted-for (λ y. y == target) 0 target terms rows grid (is-itself target))
  grid_one (Vector columns [] terms) shape shown = λ c d first second. absurd (none-some c first)
  grid_one (Vector columns (t ∷ targets) []) shape shown = λ c d first second. absurd (none-some c first)
  grid_one (Vector columns (t ∷ targets) (es ∷ terms)) shape shown =
      let full = full-parts (length (t ∷ targets)) (length columns) (es ∷ terms) shape in
      let long = eqb-true (length es) (length columns) (and_parts (length es == length columns) _ full.1).0 in
      let same = vector-count S frame σ 0 0 t columns es (sym long) in
      let two = two_of (count (truth W) columns) (sym (two-claims S frame σ columns) ∙ shown) in
      first_target W t (row_cells 0 t (zip (map (λ column. column ∷ []) columns) es))
      (flat_map (λ r. row_cells r.0 r.1.0 (zip (map (λ column. column ∷ []) columns) r.1.1)) (enumerate_from (0 + 1) (zip targets terms)))
      (row-for (λ y. y == t) 0 0 t (zip (map (λ column. column ∷ []) columns) es) (is-itself t)) (omega (arith, same, two))

pub of_one : Laws → OverlapIsOfOne
of_one laws S k table there V shown c d first second =
    let told = shown_again laws S k table there (view S (cover_frame S) (cover_numbers S V)) V
    (λ r is. cover_same S V r (table_ageless S k table there r is)) overlap shown in
    let claimed = (nodes_say S k table there (cover_frame S) (cover_numbers S V) overlap).1 told in
    let again = holding_again laws S k table there V in
    grid_one S (cover_frame S) (cover_numbers S V) table.grid (shaped S k table there) claimed c d
    (ap (λ cs. slice_get cs 0) again ∙ first) (ap (λ cs. slice_get cs 1) again ∙ second)
