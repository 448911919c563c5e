-- Definitions and moves have names of the scans that they are about, and positive divisors.
use Rattle.std.proofs.Common.{◌≡◌, ◌∙◌, ap, refl, ℕ, ◌+◌, ◌<◌, pos, Bool, true, false, cond, ◌==◌, List, [], ◌∷◌}
use Rattle.std.proofs.Common.{filter, map, length, Some, slice_get, arith, ⊎_elim}
use Rattle.std.specs.List.{Contains, list_all, flat_map}
use Rattle.std.proofs.lemmas.Bool.{and_parts, and_from, cases_Bool, cond-true, cond-false}
use Rattle.std.proofs.lemmas.List.Elements.{Contains-append_left, Contains-append_right}
use Rattle.std.proofs.lemmas.Option.{slice_get_within}
use Rattle.ft_core.specs.declared.tables.Tables.{Tables}
use Rattle.ft_core.specs.declared.tables.Var.{Var}
use Rattle.ft_core.specs.declared.tables.Memory as tables
use Rattle.ft_core.specs.declared.tables.Memory.TheVariants.{Held, Hyst}
use Rattle.ft_core.specs.declared.tables.Section.{Section}
use Rattle.ft_core.specs.meaning.Grids.{Cell, cells}
use Rattle.ft_core.specs.meaning.Kinds.{defined_kinds}
use Rattle.ft_core.specs.meaning.Reads.{Read, at_now, at_before, of_memory, of_age, cond_reads, term_reads, cell_reads}
use Rattle.ft_core.specs.checked.Size.{is_sized_term, is_sized, is_sized_memory, is_sized_grid}
use Rattle.ft_mean.specs.laws.TableLaws.{HasTable, CellsMayRead}
use Rattle.ft_mean.specs.meaning.Cells.{cells_of}
use Rattle.ft_mean.specs.meaning.Reading.{IsVar}
use Rattle.ft_claims.specs.declared.claim.Claim.{Claim}
use Rattle.ft_claims.specs.declared.claim.Claim.TheVariants.{And}
use Rattle.ft_claims.specs.declared.claim.Sym.TheVariants.{Num, Slot}
use Rattle.ft_claims.specs.laws.GoodLaws.{IsThere, IsBelow, ConditionsGood, CellsGood, DefinitionsGood, MovesGood}
use Rattle.ft_claims.specs.meaning.Claims.{equal}
use Rattle.ft_claims.specs.meaning.Formulas.{collected}
use Rattle.ft_claims.specs.meaning.Names.{Frame, memo, sym_of, claim_of}
use Rattle.ft_claims.specs.meaning.Parts.{cell_claim, definition, elapsed_sym, move_of}
use Rattle.ft_claims.proofs.CellTests.{CellOk, sized_cells}
use Rattle.ft_claims.proofs.GoodLemmas.{SymGood, num-good, slot-good, equal-good, and-good, or-good, two-good, joined-good, held-good}
use Rattle.ft_claims.proofs.GoodLemmas.{hyst-good, memo-good, prior-good, term_good, cond_good}
use Rattle.ft_claims.proofs.Lists.{at_place, every_image, in_all}
use Rattle.ft_claims.proofs.ReadsThere.{IsAgeless, may-ageless, memory_ageless}

there : (S : Tables) (r : Read) → IsAgeless S r → IsThere S r
there S (at_now x) on = on
there S (at_before x) on = on
there S (of_memory m) on = on
there S (of_age m) on = absurd on

-- what all pass, those pass that a filter keeps
still_pass : {A : Type 0} (p q : A → Bool) (xs : List A) → list_all q xs ≡ true → list_all q (filter p xs) ≡ true
still_pass p q [] h = refl
still_pass p q (x ∷ xs) h =
    let both = and_parts (q x) (list_all q xs) h in
    ⊎_elim
    (λ e. ap (list_all q) (cond-true (p x) (x ∷ filter p xs) (filter p xs) e) ∙ and_from _ _ both.0 (still_pass p q xs both.1))
    (λ e. ap (list_all q) (cond-false (p x) (x ∷ filter p xs) (filter p xs) e) ∙ still_pass p q xs both.1)
    (cases_Bool (p x))

module _ (S : Tables) (frame : Frame) (base : ℕ) (below : IsBelow S frame base) where
  abbrev good : Claim → Bool
  good c = (collected base c).good

  abbrev CellSized : Cell → Bool
  CellSized = CellOk (is_sized S.vars S.memories) (is_sized_term S.vars S.memories)

  -- the cells of a section for a variable are sized
  own_sized : HasTable → (section : Section) (x : ℕ) (v : Var) → IsVar S (defined_kinds section) x v
      → list_all CellSized (cells_of S section x) ≡ true
  own_sized has_table section x v is =
      let o = has_table S section x v is in
      let all = sized_cells S.vars S.memories o.table.grid
      (at_place (λ t. is_sized_grid S.vars S.memories t.grid) S.tables S.sound.sized_tables o.place o.table o.there) in
      ap (list_all CellSized) o.cells_are ∙ still_pass (λ (c : Cell). c.target == x) CellSized (cells o.table.grid) all

  module _ (has_table : HasTable) (may_read : CellsMayRead) (section : Section) (x : ℕ) (v : Var)
      (is : IsVar S (defined_kinds section) x v) where
    parts_sized : (k : ℕ) (cell : Cell) → slice_get (cells_of S section x) k ≡ Some cell
        → (list_all (is_sized S.vars S.memories) cell.conds ≡ true) × (is_sized_term S.vars S.memories cell.term ≡ true)
    parts_sized k cell at = and_parts (list_all (is_sized S.vars S.memories) cell.conds) (is_sized_term S.vars S.memories cell.term)
        (at_place CellSized (cells_of S section x) (own_sized has_table section x v is) k cell at)

    reads : (k : ℕ) (cell : Cell) → slice_get (cells_of S section x) k ≡ Some cell → (r : Read) → Contains (cell_reads cell) r → IsThere S r
    reads k cell at r c = there S r (may-ageless S section r
        (may_read S section x r (in_all cell_reads (cells_of S section x) k cell r at c)))

    pub cell_good : (k : ℕ) (cell : Cell) → slice_get (cells_of S section x) k ≡ Some cell → good (cell_claim S frame cell) ≡ true
    cell_good k cell at = joined-good base (map (claim_of S frame) cell.conds) (every_image good (claim_of S frame) cell.conds (λ j c here.
        cond_good S frame base below.this below.prior c
        (λ r in_it. reads k cell at r (Contains-append_left (flat_map cond_reads cell.conds) (term_reads cell.term) r
        (in_all cond_reads cell.conds j c r here in_it)))
        (at_place (is_sized S.vars S.memories) cell.conds (parts_sized k cell at).0 j c here)))

    entry_good : (k : ℕ) (cell : Cell) → slice_get (cells_of S section x) k ≡ Some cell
        → good (And (cell_claim S frame cell ∷ equal (Slot (frame.this + x)) (sym_of S frame cell.term) ∷ [])) ≡ true
    entry_good k cell at =
        let term = term_good S frame base below.this below.prior cell.term
        (λ r in_it. reads k cell at r (Contains-append_right (flat_map cond_reads cell.conds) (term_reads cell.term) r in_it))
        (parts_sized k cell at).1 in
        let name = slice_get_within S.vars x v is.0 in
        let low = below.this in
        and-good base _ (two-good base _ _ (cell_good k cell at) (equal-good base (Slot (frame.this + x)) (sym_of S frame cell.term)
        (slot-good base (frame.this + x) (omega (arith, name, low))) term))

    pub definition_good : good (definition S section frame x) ≡ true
    definition_good = or-good base _
        (every_image good (λ cell. And (cell_claim S frame cell ∷ equal (Slot (frame.this + x)) (sym_of S frame cell.term) ∷ []))
        (cells_of S section x) (λ k cell at. entry_good k cell at))

  started : (anew start : Bool) (m : ℕ) → m < length S.memories
      → SymGood base (cond anew (Num (cond start (pos 1) (pos 0))) (Slot (memo S frame.prior m)))
  started true start m l = num-good base (cond start (pos 1) (pos 0))
  started false start m l = prior-good S frame base below.this below.prior m l

  pub move_good : (m : ℕ) (memory : tables.Memory) → slice_get S.memories m ≡ Some memory → good (move_of S frame m (Some memory)) ≡ true
  move_good m (Held name side c hold) is =
      let l = slice_get_within S.memories m _ is in
      held-good base frame.anew (elapsed_sym S frame) (Num hold) (claim_of S frame c) (Slot (memo S frame.prior m))
      (Slot (memo S frame.this m)) (num-good base S.period) (num-good base hold)
      (cond_good S frame base below.this below.prior c (λ r k. there S r (memory_ageless S m _ is r k))
      (at_place (is_sized_memory S.vars S.memories) S.memories S.sound.sized_memories m _ is))
      (prior-good S frame base below.this below.prior m l) (memo-good S frame base below.this below.prior m l)
  move_good m (Hyst name side e lo hi start) is =
      let l = slice_get_within S.memories m _ is in
      hyst-good base (Num lo) (Num hi) (sym_of S frame e) (cond frame.anew (Num (cond start (pos 1) (pos 0))) (Slot (memo S frame.prior m)))
      (Slot (memo S frame.this m)) (num-good base lo) (num-good base hi)
      (term_good S frame base below.this below.prior e (λ r k. there S r (memory_ageless S m _ is r k))
      (at_place (is_sized_memory S.vars S.memories) S.memories S.sound.sized_memories m _ is))
      (started frame.anew start m l) (memo-good S frame base below.this below.prior m l)

pub conditions_good : ConditionsGood
conditions_good S frame base below = cond_good S frame base below.this below.prior

pub cells_good : HasTable → CellsMayRead → CellsGood
cells_good has_table may_read S frame base below section x v is = cell_good S frame base below has_table may_read section x v is

pub definitions_good : HasTable → CellsMayRead → DefinitionsGood
definitions_good has_table may_read S frame base below = definition_good S frame base below has_table may_read

pub moves_good : MovesGood
moves_good S frame base below = move_good S frame base below
