-- The parts of coverage have names of two scans, and positive divisors.
use Rattle.std.proofs.Common.{◌≡◌, ◌∙◌, ap, ℕ, ◌+◌, ◌≤◌, pos, Bool, true, ◌&&◌, refl, List, [], ◌∷◌, ◌++◌, map, Option, Some, None}
use Rattle.std.proofs.Common.{slice_get, length, arith}
use Rattle.std.specs.List.{Contains, list_all, flat_map, zip}
use Rattle.std.proofs.lemmas.Bool.{and_parts, and_from}
use Rattle.std.proofs.lemmas.List.Elements.{Contains-append_left, Contains-append_right}
use Rattle.std.proofs.lemmas.List.Folds.{list_all-map}
use Rattle.std.proofs.lemmas.Option.{slice_get_within}
use Rattle.ft_core.specs.declared.tables.Tables.{Tables}
use Rattle.ft_core.specs.declared.tables.Table.{Table}
use Rattle.ft_core.specs.declared.tables.Var.{Var}
use Rattle.ft_core.specs.declared.tables.Memory.{Memory}
use Rattle.ft_core.specs.declared.tables.Memory.TheVariants.{Held, Hyst}
use Rattle.ft_core.specs.declared.tables.Grid.{Grid}
use Rattle.ft_core.specs.declared.tables.Grid.TheVariants.{Normal, Inverted, Vector}
use Rattle.ft_core.specs.declared.term.Cond.{Cond}
use Rattle.ft_core.specs.meaning.Grids.{Cell, cells}
use Rattle.ft_core.specs.meaning.Reads.{Read, at_now, at_before, of_memory, of_age, term_reads, cond_reads, cell_reads, grid_reads}
use Rattle.ft_core.specs.checked.Size.{is_sized_term, is_sized, is_sized_memory, is_sized_grid}
use Rattle.ft_core.specs.laws.Places.{some-at}
use Rattle.ft_claims.specs.declared.claim.Claim.{Claim}
use Rattle.ft_claims.specs.declared.claim.Claim.TheVariants.{And}
use Rattle.ft_claims.specs.declared.claim.Sym.TheVariants.{Num, Slot}
use Rattle.ft_claims.specs.laws.FormulaLaws.{AreGood}
use Rattle.ft_claims.specs.laws.GoodLaws.{IsThere}
use Rattle.ft_claims.specs.laws.Laws.{Laws}
use Rattle.ft_claims.specs.meaning.Names.{Frame, width, memo, sym_of, claim_of}
use Rattle.ft_claims.specs.meaning.Parts.{cell_claim, link_of}
use Rattle.ft_claims.specs.meaning.Coverage.{pairs, cover_frame, claims_of, gap_node, row_some, row_two, overlap_node, outside, range_node}
use Rattle.ft_claims.specs.meaning.Coverage.{links, Fault, gap, overlap, range, fault_node, cover_parts}
use Rattle.ft_claims.specs.meaning.Forms.{gathered}
use Rattle.ft_claims.specs.meaning.Formulas.{Collected, collected}
use Rattle.ft_claims.specs.meaning.Shown.{AreReadMemories}
use Rattle.ft_claims.specs.meaning.Spans.{cover_spans}
use Rattle.ft_claims.proofs.CellTests.{CellOk, sized_cells}
use Rattle.ft_claims.proofs.CoverSpans.{cover_long}
use Rattle.ft_claims.proofs.GoodLemmas.{memo-good, equal-good, num-good, not-good, and-good, or-good, lt-good, le-good, two-good}
use Rattle.ft_claims.proofs.GoodLemmas.{joined-good, term_good, cond_good}
use Rattle.ft_claims.proofs.Lists.{at_place, every_image, both_lists, in_all, zip-at}
use Rattle.ft_claims.proofs.ReadsThere.{IsAgeless, table_ageless, memory_ageless}

there : (S : Tables) (r : Read) → IsAgeless S r → IsThere S r
there S (at_now x) on = on
there S (at_before x) on = on
there S (of_memory m) on = on
there S (of_age m) on = absurd on

module _ (laws : Laws) (S : Tables) (base : ℕ) (room : width S + width S ≤ base) where
  abbrev frame : Frame
  frame = cover_frame S

  abbrev good : Claim → Bool
  good c = (collected base c).good

  this_low : 0 + width S ≤ base
  this_low = omega (arith, room)

  abbrev Reads : List Read → Type 0
  Reads zs = (r : Read) → Contains zs r → IsThere S r

  one_good : (c : Cond) → Reads (cond_reads c) → is_sized S.vars S.memories c ≡ true → good (claim_of S frame c) ≡ true
  one_good = cond_good S frame base this_low room

  conds_good : (conds : List Cond) → Reads (flat_map cond_reads conds) → list_all (is_sized S.vars S.memories) conds ≡ true
      → list_all good (claims_of S frame conds) ≡ true
  conds_good conds reads sized = every_image good (claim_of S frame) conds (λ k c at.
      one_good c (λ r here. reads r (in_all cond_reads conds k c r at here)) (at_place (is_sized S.vars S.memories) conds sized k c at))

  pairs_good : (cs : List Claim) → list_all good cs ≡ true → list_all good (pairs cs) ≡ true
  pairs_good [] h = refl
  pairs_good (c ∷ cs) h =
      let both = and_parts (good c) (list_all good cs) h in
      both_lists good (map (λ d. And (c ∷ d ∷ [])) cs) (pairs cs)
      (every_image good (λ d. And (c ∷ d ∷ [])) cs (λ k d at. and-good base (c ∷ d ∷ [])
      (two-good base c d both.0 (at_place good cs both.1 k d at))))
      (pairs_good cs both.1)

  module _ (g : Grid) (reads : Reads (grid_reads g)) (sized : is_sized_grid S.vars S.memories g ≡ true) where
    cell_good : (k : ℕ) (cell : Cell) → slice_get (cells g) k ≡ Some cell → (good (cell_claim S frame cell) ≡ true)
        × ((collected base (outside S frame (slice_get S.vars cell.target) cell)).good ≡ true)
    cell_good k cell at =
        let read : Reads (cell_reads cell) = λ r c. reads r (laws.cells_read g k cell r at c) in
        let small = and_parts (list_all (is_sized S.vars S.memories) cell.conds) (is_sized_term S.vars S.memories cell.term)
        (at_place (CellOk (is_sized S.vars S.memories) (is_sized_term S.vars S.memories)) (cells g) (sized_cells S.vars S.memories g sized)
        k cell at) in
        let conds = joined-good base (map (claim_of S frame) cell.conds)
        (conds_good cell.conds (first-of (flat_map cond_reads cell.conds) (term_reads cell.term) read) small.0) in
        let term = term_good S frame base this_low room cell.term (second-of (flat_map cond_reads cell.conds) (term_reads cell.term) read)
        small.1 in
        (conds, out_good cell conds term (slice_get S.vars cell.target))
      where
        first-of : (xs ys : List Read) → Reads (xs ++ ys) → Reads xs
        first-of xs ys h r c = h r (Contains-append_left xs ys r c)

        second-of : (xs ys : List Read) → Reads (xs ++ ys) → Reads ys
        second-of xs ys h r c = h r (Contains-append_right xs ys r c)

        out_good : (cell : Cell) → good (cell_claim S frame cell) ≡ true → (gathered base (sym_of S frame cell.term)).good ≡ true
            → (o : Option Var) → good (outside S frame o cell) ≡ true
        out_good cell c t None = or-good base [] refl
        out_good cell c t (Some v) = and-good base _ (two-good base _ _ c (or-good base _ (two-good base _ _
            (lt-good base (sym_of S frame cell.term) (Num v.range.0) t (num-good base v.range.0))
            (not-good base _ (le-good base (sym_of S frame cell.term) (Num v.range.1) t (num-good base v.range.1))))))

    all_cells : list_all good (map (cell_claim S frame) (cells g)) ≡ true
    all_cells = every_image good (cell_claim S frame) (cells g) (λ k cell at. (cell_good k cell at).0)

    range_good : good (range_node S frame (cells g)) ≡ true
    range_good = or-good base _ (every_image good (λ cell. outside S frame (slice_get S.vars cell.target) cell) (cells g)
        (λ k cell at. (cell_good k cell at).1))

  gap_good : (g : Grid) → Reads (grid_reads g) → is_sized_grid S.vars S.memories g ≡ true → good (gap_node S frame g) ≡ true
  gap_good (Normal target columns rows terms) reads sized = not-good base _
      (or-good base _ (all_cells (Normal target columns rows terms) reads sized))
  gap_good (Inverted target terms rows grid) reads sized = not-good base _
      (or-good base _ (all_cells (Inverted target terms rows grid) reads sized))
  gap_good (Vector columns targets terms) reads sized =
      not-good base _ (or-good base _ (conds_good columns (λ r c. reads r
      (Contains-append_left (flat_map cond_reads columns) (flat_map (flat_map term_reads) terms) r c))
      (and_parts (list_all (is_sized S.vars S.memories) columns) _ sized).0))

  overlap_good : (g : Grid) → Reads (grid_reads g) → is_sized_grid S.vars S.memories g ≡ true → good (overlap_node S frame g) ≡ true
  overlap_good (Normal target columns rows terms) reads sized =
      let a = and_parts (list_all (is_sized S.vars S.memories) columns && list_all (is_sized S.vars S.memories) rows) _ sized in
      let b = and_parts (list_all (is_sized S.vars S.memories) columns) (list_all (is_sized S.vars S.memories) rows) a.0 in
      let heads : Reads (flat_map cond_reads columns ++ flat_map cond_reads rows) =
      λ r c. reads r (Contains-append_left (flat_map cond_reads columns ++ flat_map cond_reads rows)
      (flat_map (flat_map term_reads) terms) r c) in
      let cs = conds_good columns (λ r c. heads r (Contains-append_left (flat_map cond_reads columns) (flat_map cond_reads rows) r c)) b.0
      in
      let rs = conds_good rows (λ r c. heads r (Contains-append_right (flat_map cond_reads columns) (flat_map cond_reads rows) r c)) b.1 in
      or-good base _ (two-good base _ _
      (and-good base _ (two-good base _ _ (or-good base (pairs (claims_of S frame rows)) (pairs_good (claims_of S frame rows) rs))
      (or-good base (claims_of S frame columns) cs)))
      (and-good base _ (two-good base _ _ (or-good base (claims_of S frame rows) rs)
      (or-good base (pairs (claims_of S frame columns)) (pairs_good (claims_of S frame columns) cs)))))
  overlap_good (Inverted target terms rows grid) reads sized =
      let a = and_parts (list_all (is_sized_term S.vars S.memories) terms && list_all (is_sized S.vars S.memories) rows)
      (list_all (list_all (is_sized S.vars S.memories)) grid) sized in
      let b = and_parts (list_all (is_sized_term S.vars S.memories) terms) (list_all (is_sized S.vars S.memories) rows) a.0 in
      let heads : Reads (flat_map term_reads terms ++ flat_map cond_reads rows) =
      λ r c. reads r (Contains-append_left (flat_map term_reads terms ++ flat_map cond_reads rows) (flat_map (flat_map cond_reads) grid)
      r c) in
      let row : (k : ℕ) (r : Cond × List Cond) → slice_get (zip rows grid) k ≡ Some r → (good (claim_of S frame r.0) ≡ true)
      × (list_all good (claims_of S frame r.1) ≡ true) = λ k r at.
      let places = zip-at rows grid k r at in (
        one_good r.0 (λ q c. heads q (Contains-append_right (flat_map term_reads terms) (flat_map cond_reads rows) q
            (in_all cond_reads rows k r.0 q places.0 c))) (at_place (is_sized S.vars S.memories) rows b.1 k r.0 places.0),
        conds_good r.1 (λ q c. reads q (Contains-append_right (flat_map term_reads terms ++ flat_map cond_reads rows)
            (flat_map (flat_map cond_reads) grid) q (in_all (flat_map cond_reads) grid k r.1 q places.1 c)))
            (at_place (list_all (is_sized S.vars S.memories)) grid a.1 k r.1 places.1),
      ) in
      or-good base _ (two-good base _ _
      (or-good base (pairs (map (row_some S frame) (zip rows grid))) (pairs_good (map (row_some S frame) (zip rows grid))
      (every_image good (row_some S frame) (zip rows grid)
      (λ k r at. and-good base _ (two-good base _ _ (row k r at).0 (or-good base (claims_of S frame r.1) (row k r at).1))))))
      (or-good base (map (row_two S frame) (zip rows grid)) (every_image good (row_two S frame) (zip rows grid)
      (λ k r at. and-good base _ (two-good base _ _ (row k r at).0 (or-good base (pairs (claims_of S frame r.1))
      (pairs_good (claims_of S frame r.1) (row k r at).1)))))))
  overlap_good (Vector columns targets terms) reads sized =
      or-good base (pairs (claims_of S frame columns)) (pairs_good (claims_of S frame columns)
      (conds_good columns (λ r c. reads r (Contains-append_left (flat_map cond_reads columns) (flat_map (flat_map term_reads) terms) r
      c))
      (and_parts (list_all (is_sized S.vars S.memories) columns) _ sized).0))

  link_good : (m : ℕ) (memory : Memory) → slice_get S.memories m ≡ Some memory → good (link_of S frame m (Some memory)) ≡ true
  link_good m (Held name s c hold) is =
      let bit = equal-good base (Slot (memo S frame.this m)) (Num (pos 1))
      (memo-good S frame base this_low room m (slice_get_within S.memories m _ is)) (num-good base (pos 1)) in
      or-good base _ (two-good base _ _ (not-good base _ bit)
      (one_good c (λ r k. there S r (memory_ageless S m _ is r k)) (at_place (is_sized_memory S.vars S.memories) S.memories
      S.sound.sized_memories m _ is)))
  link_good m (Hyst name s e lo hi start) is =
      let bit = equal-good base (Slot (memo S frame.this m)) (Num (pos 1))
      (memo-good S frame base this_low room m (slice_get_within S.memories m _ is)) (num-good base (pos 1)) in
      let term = term_good S frame base this_low room e (λ r k. there S r (memory_ageless S m _ is r k))
      (at_place (is_sized_memory S.vars S.memories) S.memories S.sound.sized_memories m _ is) in
      and-good base _ (two-good base _ _
      (or-good base _ (two-good base _ _ (lt-good base (sym_of S frame e) (Num hi) term (num-good base hi)) bit))
      (or-good base _ (two-good base _ _ (not-good base _ (le-good base (sym_of S frame e) (Num lo) term (num-good base lo)))
      (not-good base _ bit))))

-- so are those of a table of the set
pub parts_good : Laws → (S : Tables) (k : ℕ) (table : Table) → slice_get S.tables k ≡ Some table → (ms : List ℕ)
    → AreReadMemories S (grid_reads table.grid) ms → (fault : Fault) → AreGood (cover_spans S) (cover_parts S fault table.grid ms)
parts_good laws S k table is ms are fault =
    list_all-map (λ (c : Collected). c.good) (collected (length (cover_spans S))) (cover_parts S fault table.grid ms)
    ∙ and_from _ _ (node fault) links_good
  where
    room : width S + width S ≤ length (cover_spans S)
    room = omega (arith, cover_long S)

    reads : (r : Read) → Contains (grid_reads table.grid) r → IsThere S r
    reads r c = there S r (table_ageless S k table is r c)

    sized : is_sized_grid S.vars S.memories table.grid ≡ true
    sized = at_place (λ t. is_sized_grid S.vars S.memories t.grid) S.tables S.sound.sized_tables k table is

    node : (fault : Fault) → (collected (length (cover_spans S)) (fault_node S (cover_frame S) fault table.grid)).good ≡ true
    node gap = gap_good laws S (length (cover_spans S)) room table.grid reads sized
    node overlap = overlap_good laws S (length (cover_spans S)) room table.grid reads sized
    node range = range_good laws S (length (cover_spans S)) room table.grid reads sized

    links_good : list_all (λ c. (collected (length (cover_spans S)) c).good) (links S (cover_frame S) ms) ≡ true
    links_good = every_image (λ c. (collected (length (cover_spans S)) c).good) (λ m. link_of S (cover_frame S) m (slice_get S.memories m))
        ms (λ j m at.
        let it = some-at S.memories m (are.there j m at) in
        ap (λ o. (collected (length (cover_spans S)) (link_of S (cover_frame S) m o)).good) it.1
        ∙ link_good laws S (length (cover_spans S)) room m it.0 it.1)
