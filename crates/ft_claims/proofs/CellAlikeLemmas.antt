-- The cells of a table at the views that have the values of a point.
use Rattle.std.proofs.Common.{◌≡◌, ◌∙◌, sym, ap, subst, refl, ℕ, zero, suc, ◌+◌, ◌-◌, ◌<◌, ◌≤◌, ℤ, pos, Bool, true, false, not, ◌&&◌, ◌||◌}
use Rattle.std.proofs.Common.{◌==◌, cond, List, [], ◌∷◌, ◌++◌, map, filter, length, Option, Some, None, slice_get, arith, ⊎_elim}
use Rattle.std.proofs.Common.{true≢false}
use Rattle.std.specs.Prelude.{IsTrue, int_lt}
use Rattle.std.specs.List.{list_all, zip}
use Rattle.std.proofs.lemmas.Bool.{cases_Bool, cases_lt, cond-true, cond-false, and_parts, and_from}
use Rattle.std.proofs.lemmas.Option.{none-some, same_Some, slice_get_within}
use Rattle.ft_core.specs.declared.tables.Tables.{Tables}
use Rattle.ft_core.specs.declared.tables.Table.{Table}
use Rattle.ft_core.specs.declared.tables.Var.{Var}
use Rattle.ft_core.specs.declared.tables.Grid.{Grid}
use Rattle.ft_core.specs.declared.tables.Grid.TheVariants.{Normal, Inverted, Vector}
use Rattle.ft_core.specs.declared.term.Cond.{Cond}
use Rattle.ft_core.specs.declared.term.Term.{Term}
use Rattle.ft_core.specs.meaning.Grids.{Cell, cells, is_shaped}
use Rattle.ft_core.specs.meaning.Reads.{grid_reads}
use Rattle.ft_mean.specs.meaning.Cells.{cell_holds, holding}
use Rattle.ft_mean.specs.meaning.Value.{View, value, truth}
use Rattle.ft_claims.specs.declared.claim.Claim.{Claim}
use Rattle.ft_claims.specs.declared.claim.Claim.TheVariants.{And, Or}
use Rattle.ft_claims.specs.laws.CellLaws.{IsWithinOne, one, of_and, of_or, is_out_of, is_beyond, OverlapsAlike, RangesAlike}
use Rattle.ft_claims.specs.laws.CellLaws.{OverlapHasTwo}
use Rattle.ft_claims.specs.laws.CellLaws.{RangeHasOne}
use Rattle.ft_claims.specs.laws.Equations.{true-And, true-Or}
use Rattle.ft_claims.specs.laws.Laws.{Laws}
use Rattle.ft_claims.specs.laws.PointLaws.{cover_obliged, HasValues}
use Rattle.ft_claims.specs.meaning.Areas.{is_used}
use Rattle.ft_claims.specs.meaning.Claims.{claim_true}
use Rattle.ft_claims.specs.meaning.Coverage.{Fault, overlap, range, pairs, two, cover_frame, cover_parts, claims_of, row_some, row_two}
use Rattle.ft_claims.specs.meaning.Coverage.{overlap_node, outside}
use Rattle.ft_claims.specs.meaning.Names.{Frame, width, memo, view, claim_of}
use Rattle.ft_claims.specs.meaning.Numbers.{cover_numbers}
use Rattle.ft_claims.specs.meaning.Points.{IsPointOf}
use Rattle.ft_claims.specs.meaning.Shown.{AreReadMemories}
use Rattle.ft_claims.specs.meaning.Spans.{cover_spans}
use Rattle.ft_claims.proofs.CellTests.{CellOk, normal-ok, inverted-ok, vector-ok}
use Rattle.ft_claims.proofs.CoverGood.{parts_good}
use Rattle.ft_claims.proofs.CoverPoints.{points_show}
use Rattle.ft_claims.proofs.CoverageLemmas.{count-cons, is_outside, outside-says}
use Rattle.ft_claims.proofs.ReadLemmas.{claim_tells}
use Rattle.ft_claims.proofs.Lists.{every, at_place, mapped-at, of_filter, of-filtered, in-filtered}
use Rattle.ft_claims.proofs.LocalLemmas.{cover_same}
use Rattle.ft_claims.proofs.NumberLemmas.{number_kept_past}
use Rattle.ft_claims.proofs.PartAlikeLemmas.{parts_alike}
use Rattle.ft_claims.proofs.ReadsThere.{table_ageless}
use Rattle.ft_claims.proofs.ShapeLemmas.{shaped, full-parts}
use Rattle.ft_claims.proofs.ShownLemmas.{nodes_say, shown_again, out_by}

-- tests that agree on each element
same-filter : {A : Type 0} (p q : A → Bool) (xs : List A) → ((k : ℕ) (x : A) → slice_get xs k ≡ Some x → p x ≡ q x)
    → filter p xs ≡ filter q xs
same-filter p q [] h = refl
same-filter p q (x ∷ xs) h = let more = same-filter p q xs (λ k y e. h (suc k) y e) in λ i. cond (h zero x refl i) (x ∷ more i) (more i)

-- whether two truths are the same
abbrev same_bool : Bool → Bool → Bool
same_bool true b = b
same_bool false b = not b

bools-same : (a b : Bool) → same_bool a b ≡ true → a ≡ b
bools-same true true h = refl
bools-same true false h = absurd (true≢false (sym h))
bools-same false true h = absurd (true≢false (sym h))
bools-same false false h = refl

same-bools : (a b : Bool) → a ≡ b → same_bool a b ≡ true
same-bools true b e = sym e
same-bools false b e = ap not (sym e)

-- conditions of one truth
conds-same : (V W : View) (cs : List Cond) → list_all (λ c. same_bool (truth V c) (truth W c)) cs ≡ true → list_all (truth V) cs
    ≡ list_all (truth W) cs
conds-same V W [] h = refl
conds-same V W (c ∷ cs) h =
    let both = and_parts (same_bool (truth V c) (truth W c)) _ h in
    let here = bools-same (truth V c) (truth W c) both.0 in let more = conds-same V W cs both.1 in λ i. here i && more i

-- each claim of a list of two at least stands within the claim that two hold
in-two : (cs ds : List Claim) → IsWithinOne cs (two ds) → 2 ≤ length ds → (k : ℕ) (d : Claim) → slice_get ds k ≡ Some d → IsWithinOne cs d
in-two cs [] within long k d at = absurd (none-some d at)
in-two cs (a ∷ []) within long k d at = absurd (omega (arith, long))
in-two cs (a ∷ b ∷ ds) within long zero d at =
    of_and zero (a ∷ b ∷ []) (of_or zero (pairs (a ∷ b ∷ ds)) within refl) at
in-two cs (a ∷ b ∷ ds) within long (suc k) d at =
    of_and (suc zero) (a ∷ d ∷ []) (of_or k (pairs (a ∷ b ∷ ds)) within
    (on-left-of (map (λ e. And (a ∷ e ∷ [])) (b ∷ ds)) (pairs (b ∷ ds)) k (And (a ∷ d ∷ []))
    (mapped-at (λ e. And (a ∷ e ∷ [])) (b ∷ ds) k d at))) refl
  where
    on-left-of : (xs ys : List Claim) (k : ℕ) (x : Claim) → slice_get xs k ≡ Some x → slice_get (xs ++ ys) k ≡ Some x
    on-left-of [] ys k x e = absurd (none-some x e)
    on-left-of (y ∷ xs) ys zero x e = e
    on-left-of (y ∷ xs) ys (suc k) x e = on-left-of xs ys k x e

-- a table shorter than two columns, or than two cells, shows no overlap
lone-vector : (S : Tables) (σ : ℕ → ℤ) (c : Cond) (targets : List ℕ) (terms : List (List Term))
    → claim_true σ (overlap_node S (cover_frame S) (Vector (c ∷ []) targets terms)) ≡ true → ⊥
lone-vector S σ c targets terms h = true≢false (sym h ∙ true-Or σ [])

lone-inverted : (S : Tables) (σ : ℕ → ℤ) (target : ℕ) (terms : List Term) (r e : Cond)
    → claim_true σ (overlap_node S (cover_frame S) (Inverted target terms (r ∷ []) ((e ∷ []) ∷ []))) ≡ true → ⊥
lone-inverted S σ target terms r e h = true≢false (sym h
    ∙ true-Or σ (two (row_some S (cover_frame S) (r, e ∷ []) ∷ []) ∷ Or (row_two S (cover_frame S) (r, e ∷ []) ∷ []) ∷ [])
    ∙ (λ i. true-Or σ [] i || (inner i || false)))
  where
    and_none : (b : Bool) → (b && (false && true)) ≡ false
    and_none true = refl
    and_none false = refl

    inner : claim_true σ (Or (row_two S (cover_frame S) (r, e ∷ []) ∷ [])) ≡ false
    inner = true-Or σ (row_two S (cover_frame S) (r, e ∷ []) ∷ [])
        ∙ (λ i. (true-And σ (claim_of S (cover_frame S) r ∷ two (claims_of S (cover_frame S) (e ∷ [])) ∷ [])
        ∙ (λ j. claim_true σ (claim_of S (cover_frame S) r) && (true-Or σ [] j && true))
        ∙ and_none (claim_true σ (claim_of S (cover_frame S) r))) i || false)

-- where an element of one list has a partner in another
partner : {A B : Type 0} (xs : List A) (ys : List B) (k : ℕ) (y : B) → slice_get ys k ≡ Some y → length ys ≡ length xs → (x : A)
    × (slice_get (zip xs ys) k ≡ Some (x, y))
partner [] [] k y at long = absurd (none-some y at)
partner [] (b ∷ ys) k y at long = absurd (omega (arith, long))
partner (x ∷ xs) [] k y at long = absurd (none-some y at)
partner (x ∷ xs) (b ∷ ys) zero y at long = (x, ap (λ o. Some (x, o)) (same_Some b y at))
partner (x ∷ xs) (b ∷ ys) (suc k) y at long = partner xs ys k y at (omega (arith, long))

left-partner : {A B : Type 0} (xs : List A) (ys : List B) (k : ℕ) (x : A) → slice_get xs k ≡ Some x → length ys ≡ length xs → (y : B)
    × (slice_get (zip xs ys) k ≡ Some (x, y))
left-partner [] ys k x at long = absurd (none-some x at)
left-partner (a ∷ xs) [] k x at long = absurd (omega (arith, long))
left-partner (a ∷ xs) (y ∷ ys) zero x at long = (y, ap (λ o. Some (o, y)) (same_Some a x at))
left-partner (a ∷ xs) (y ∷ ys) (suc k) x at long = left-partner xs ys k x at (omega (arith, long))

module _ (S : Tables) (σ τ : ℕ → ℤ) where
  abbrev frame : Frame
  frame = cover_frame S

  abbrev V : View
  V = view S frame σ

  abbrev W : View
  W = view S frame τ

  abbrev test : Cond → Bool
  test c = same_bool (truth V c) (truth W c)

  abbrev Alike : List Claim → Type 0
  Alike parts = (c : Claim) → IsWithinOne parts c → claim_true σ c ≡ claim_true τ c

  told : (parts : List Claim) → Alike parts → (c : Cond) → IsWithinOne parts (claim_of S frame c) → test c ≡ true
  told parts alike c within = same-bools (truth V c) (truth W c)
      (sym (claim_tells S frame σ c) ∙ alike (claim_of S frame c) within ∙ claim_tells S frame τ c)

  all_told : (parts : List Claim) → Alike parts → (cs : List Cond) → IsWithinOne parts (Or (claims_of S frame cs)) → list_all test cs ≡ true
  all_told parts alike cs within = every test cs (λ k c at. told parts alike c (of_or k (claims_of S frame cs) within
      (mapped-at (claim_of S frame) cs k c at)))

  each : (pt : Term → Bool) → ((e : Term) → pt e ≡ true) → (rows : List (List Term)) → list_all (list_all pt) rows ≡ true
  each pt all rows = every (list_all pt) rows (λ k es at. every pt es (λ j e is. all e))

  module _ (parts : List Claim) (alike : Alike parts) (target : ℕ) (terms : List Term) where
    rows_told : (rows : List Cond) (grid : List (List Cond)) → length grid ≡ length rows
        → IsWithinOne parts (overlap_node S frame (Inverted target terms rows grid)) → list_all test rows ≡ true
    rows_told rows grid long node = every test rows (λ k r is.
        let z = left-partner rows grid k r is long in
        told parts alike r (of_and zero _ (of_or k (map (row_two S frame) (zip rows grid)) (of_or (suc zero) _ node refl)
        (mapped-at (row_two S frame) (zip rows grid) k (r, z.0) z.1)) refl))

    lone_told : (r : Cond) (es : List Cond) → IsWithinOne parts (overlap_node S frame (Inverted target terms (r ∷ []) (es ∷ [])))
        → claim_true σ (overlap_node S frame (Inverted target terms (r ∷ []) (es ∷ []))) ≡ true → list_all test es ≡ true
    lone_told r [] node shown = refl
    lone_told r (e ∷ []) node shown = absurd (lone-inverted S σ target terms r e shown)
    lone_told r (e ∷ f ∷ es) node shown =
        every test (e ∷ f ∷ es) (λ k b is. told parts alike b (in-two parts (claims_of S frame (e ∷ f ∷ es))
        (of_and (suc zero) _ (of_or zero (row_two S frame (r, e ∷ f ∷ es) ∷ []) (of_or (suc zero) _ node refl) refl) refl)
        (omega arith) k (claim_of S frame b) (mapped-at (claim_of S frame) (e ∷ f ∷ es) k b is)))

    entries_told : (rows : List Cond) (grid : List (List Cond)) → length grid ≡ length rows
        → IsWithinOne parts (overlap_node S frame (Inverted target terms rows grid))
        → claim_true σ (overlap_node S frame (Inverted target terms rows grid)) ≡ true → list_all (list_all test) grid ≡ true
    entries_told [] [] long node shown = refl
    entries_told [] (es ∷ grid) long node shown = absurd (omega (arith, long))
    entries_told (r ∷ rows) [] long node shown = refl
    entries_told (r ∷ []) (es ∷ []) long node shown = and_from _ _ (lone_told r es node shown) refl
    entries_told (r ∷ []) (es ∷ fs ∷ grid) long node shown = absurd (omega (arith, long))
    entries_told (r ∷ s ∷ rows) (es ∷ []) long node shown = absurd (omega (arith, long))
    entries_told (r ∷ s ∷ rows) (es ∷ fs ∷ grid) long node shown =
        let pairs_of = zip (r ∷ s ∷ rows) (es ∷ fs ∷ grid) in
        every (list_all test) (es ∷ fs ∷ grid) (λ i gs is. every test gs (λ j e on.
        let z = partner (r ∷ s ∷ rows) (es ∷ fs ∷ grid) i gs is long in
        let row = in-two parts (map (row_some S frame) pairs_of) (of_or zero _ node refl) (omega arith) i (row_some S frame (z.0, gs))
        (mapped-at (row_some S frame) pairs_of i (z.0, gs) z.1) in
        told parts alike e (of_or j (claims_of S frame gs) (of_and (suc zero) _ row refl) (mapped-at (claim_of S frame) gs j e on))))

  -- the conditions of cells where the claim of an overlap stands
  grid_told : (grid : Grid) (parts : List Claim) → is_shaped grid ≡ true → slice_get parts 0 ≡ Some (overlap_node S frame grid)
      → Alike parts → claim_true σ (overlap_node S frame grid) ≡ true → list_all (CellOk test (λ e. true)) (cells grid) ≡ true
  grid_told (Normal target columns rows terms) parts shape at alike shown =
      let node : IsWithinOne parts (overlap_node S frame (Normal target columns rows terms)) = one zero at in
      let first = of_or zero _ node refl in let second = of_or (suc zero) _ node refl in
      normal-ok test (λ e. true) 0 target columns rows terms
      (all_told parts alike columns (of_and (suc zero) _ first refl)) (all_told parts alike rows (of_and zero _ second refl))
      (each (λ e. true) (λ e. refl) terms)
  grid_told (Vector (c ∷ []) targets terms) parts shape at alike shown = absurd (lone-vector S σ c targets terms shown)
  grid_told (Vector [] targets terms) parts shape at alike shown = vector-ok test (λ e. true) 0 [] targets terms refl
      (each (λ e. true) (λ e. refl) terms)
  grid_told (Vector (c ∷ d ∷ columns) targets terms) parts shape at alike shown =
      vector-ok test (λ e. true) 0 (c ∷ d ∷ columns) targets terms
      (every test (c ∷ d ∷ columns) (λ k b is. told parts alike b (in-two parts (claims_of S frame (c ∷ d ∷ columns)) (one zero at)
      (omega arith) k (claim_of S frame b) (mapped-at (claim_of S frame) (c ∷ d ∷ columns) k b is))))
      (each (λ e. true) (λ e. refl) terms)
  grid_told (Inverted target terms rows grid) parts shape at alike shown =
      let full = full-parts (length rows) (length terms) grid shape in
      inverted-ok test (λ e. true) 0 target terms rows grid (every (λ e. true) terms (λ k e is. refl))
      (rows_told parts alike target terms rows grid full.0 (one zero at))
      (entries_told parts alike target terms rows grid full.0 (one zero at) shown)

-- of two views
cells-same : (V W : View) (cell : Cell) → CellOk (λ c. same_bool (truth V c) (truth W c)) (λ e. true) cell ≡ true → cell_holds V cell
    ≡ cell_holds W cell
cells-same V W cell h = conds-same V W cell.conds (and_parts (list_all (λ c. same_bool (truth V c) (truth W c)) cell.conds) true h).0

beyond-same : (V W : View) (o : Option Var) (cell : Cell) → cell_holds V cell ≡ cell_holds W cell → value V cell.term ≡ value W cell.term
    → (cell_holds V cell && is_out_of V o cell.term) ≡ (cell_holds W cell && is_out_of W o cell.term)
beyond-same V W None cell h v = λ i. h i && false
beyond-same V W (Some r) cell h v = λ i. h i && (int_lt (v i) r.range.0 || int_lt r.range.1 (v i))

beyond-outside : (S : Tables) (σ : ℕ → ℤ) (o : Option Var) (cell : Cell)
    → (cell_holds (view S (cover_frame S) σ) cell && is_out_of (view S (cover_frame S) σ) o cell.term)
    ≡ is_outside S (cover_frame S) σ o cell
beyond-outside S σ None cell = and_none (cell_holds (view S (cover_frame S) σ) cell)
  where
    and_none : (b : Bool) → (b && false) ≡ false
    and_none true = refl
    and_none false = refl
beyond-outside S σ (Some v) cell = refl

-- the view that the numbers of a view tell
abbrev told_view : Tables → View → View
told_view S V = view S (cover_frame S) (cover_numbers S V)

module _ (laws : Laws) (S : Tables) (k : ℕ) (table : Table) (there : slice_get S.tables k ≡ Some table) where
  -- a cell at a view and at the view that its numbers tell
  cell_again : (V : View) (j : ℕ) (cell : Cell) → slice_get (cells table.grid) j ≡ Some cell
      → (cell_holds (told_view S V) cell ≡ cell_holds V cell) × (value (told_view S V) cell.term ≡ value V cell.term)
  cell_again V j cell at = laws.same_cell (told_view S V) V cell (λ r c. cover_same S V r (table_ageless S k table there r
      (laws.cells_read table.grid j cell r at c)))

module _ (laws : Laws) (S : Tables) (k : ℕ) (table : Table) (there : slice_get S.tables k ≡ Some table) (ms : List ℕ)
    (are : AreReadMemories S (grid_reads table.grid) ms) where
  module _ (fault : Fault) (p : List ℤ) (V W : View) (has : HasValues S fault table.grid ms p V) (get : HasValues S fault table.grid ms p W)
    where
      agree : (u : ℕ) → u < length (cover_spans S) → IsTrue (is_used (length (cover_spans S)) (cover_parts S fault table.grid ms) u)
          → cover_numbers S V u ≡ cover_numbers S W u
      agree u l is = ⊎_elim
          (λ early. sym (has u early is) ∙ get u early is)
          (λ late.
          let m = u - (width S + length S.vars) in
          let e : memo S (width S) m ≡ u = omega (arith, late) in
          subst (λ n. cover_numbers S V n ≡ cover_numbers S W n) e
          (number_kept_past S V.now (λ m. cond (V.memory m) (pos 1) (pos 0)) V.before (λ m. pos 0) m
          ∙ sym (number_kept_past S W.now (λ m. cond (W.memory m) (pos 1) (pos 0)) W.before (λ m. pos 0) m)))
          (cases_lt u (width S + length S.vars))

      alike : (c : Claim) → IsWithinOne (cover_parts S fault table.grid ms) c → claim_true (cover_numbers S V) c
          ≡ claim_true (cover_numbers S W) c
      alike = parts_alike (cover_spans S) (cover_parts S fault table.grid ms) (parts_good laws S k table there ms are fault)
          (cover_numbers S V) (cover_numbers S W) agree

  overlaps : (p : List ℤ) → IsPointOf (cover_obliged S overlap table.grid ms) p → (V W : View) → HasValues S overlap table.grid ms p V
      → HasValues S overlap table.grid ms p W → holding V (cells table.grid) ≡ holding W (cells table.grid)
  overlaps p point V W has get =
      let shown = points_show laws S k table there ms are overlap p point V has in
      let told = shown_again laws S k table there (told_view S V) V (λ r c. cover_same S V r (table_ageless S k table there r c)) overlap
      shown in
      let claimed = (nodes_say S k table there (cover_frame S) (cover_numbers S V) overlap).1 told in
      let ok = grid_told S (cover_numbers S V) (cover_numbers S W) table.grid (cover_parts S overlap table.grid ms)
      (shaped S k table there) refl
      (alike overlap p V W has get) claimed in
      same-filter (cell_holds V) (cell_holds W) (cells table.grid) (λ j cell at.
      sym (cell_again laws S k table there V j cell at).0
      ∙ cells-same (told_view S V) (told_view S W) cell
      (at_place (CellOk (λ c. same_bool (truth (told_view S V) c) (truth (told_view S W) c)) (λ e. true)) (cells table.grid) ok j cell at)
      ∙ (cell_again laws S k table there W j cell at).0)

  ranges : (p : List ℤ) (V W : View) → HasValues S range table.grid ms p V → HasValues S range table.grid ms p W
      → filter (is_beyond S V) (cells table.grid) ≡ filter (is_beyond S W) (cells table.grid)
  ranges p V W has get = same-filter (is_beyond S V) (is_beyond S W) (cells table.grid) (λ j cell at.
      let o = slice_get S.vars cell.target in
      let v = cell_again laws S k table there V j cell at in let w = cell_again laws S k table there W j cell at in
      let same = alike range p V W has get (outside S (cover_frame S) o cell)
      (of_or j (map (λ (cell : Cell). outside S (cover_frame S) (slice_get S.vars cell.target) cell) (cells table.grid)) (one zero refl)
      (mapped-at (λ (cell : Cell). outside S (cover_frame S) (slice_get S.vars cell.target) cell) (cells table.grid) j cell at)) in
      beyond-same V (told_view S V) o cell (sym v.0) (sym v.1) ∙ beyond-outside S (cover_numbers S V) o cell
      ∙ sym (outside-says S (cover_frame S) (cover_numbers S V) o cell) ∙ same
      ∙ outside-says S (cover_frame S) (cover_numbers S W) o cell ∙ sym (beyond-outside S (cover_numbers S W) o cell)
      ∙ beyond-same (told_view S W) W o cell w.0 w.1)

-- the same cells hold at a view and at the one that its numbers tell
pub holding_again : (laws : Laws) (S : Tables) (k : ℕ) (table : Table) → slice_get S.tables k ≡ Some table → (V : View)
    → holding (view S (cover_frame S) (cover_numbers S V)) (cells table.grid) ≡ holding V (cells table.grid)
holding_again laws S k table there V = same-filter (cell_holds (view S (cover_frame S) (cover_numbers S V))) (cell_holds V)
    (cells table.grid) (λ j cell at. (cell_again laws S k table there V j cell at).0)

pub overlaps_alike : Laws → OverlapsAlike
overlaps_alike laws S k table there ms are = overlaps laws S k table there ms are

pub ranges_alike : Laws → RangesAlike
ranges_alike laws S k table there ms are = ranges laws S k table there ms are

-- fewer pass two tests than one
fewer : {A : Type 0} (p q : A → Bool) (xs : List A) → length (filter p (filter q xs)) ≤ length (filter p xs)
fewer p q [] = omega arith
fewer {A = A} p q (x ∷ xs) = ⊎_elim
    (λ in_it. subst (λ (ys : List A). length (filter p ys) ≤ length (filter p (x ∷ xs)))
    (sym (cond-true (q x) (x ∷ filter q xs) (filter q xs) in_it))
    (let a = count-cons p x (filter q xs) in let b = count-cons p x xs in let more = fewer p q xs in omega (arith, a, b, more)))
    (λ out_of_it. subst (λ (ys : List A). length (filter p ys) ≤ length (filter p (x ∷ xs)))
    (sym (cond-false (q x) (x ∷ filter q xs) (filter q xs) out_of_it))
    (let b = count-cons p x xs in let more = fewer p q xs in omega (arith, b, more)))
    (cases_Bool (q x))

pub has_two : OverlapHasTwo
has_two S grid V shown =
    let less = fewer (cell_holds V) (λ (cell : Cell). cell.target == shown.0) (cells grid) in let two_hold = shown.2 in
    omega (arith, less, two_hold)

pub has_one : RangeHasOne
has_one S grid V shown =
    let at = of-filtered (cell_holds V) (cells grid) shown.place shown.cell shown.holds in
    let holds = of_filter (cell_holds V) (cells grid) shown.place shown.cell shown.holds in
    let beyond = and_from _ _ holds (ap (λ (o : Option Var). is_out_of V o shown.cell.term) shown.its
    ∙ out_by shown.variable.range (value V shown.cell.term) shown.outside) in
    let in_it = in-filtered (is_beyond S V) (cells grid) at.0 shown.cell at.1 beyond in
    let l = slice_get_within (filter (is_beyond S V) (cells grid)) in_it.0 shown.cell in_it.1 in omega (arith, l)
