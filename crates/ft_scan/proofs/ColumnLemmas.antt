-- What the columns of a full vector table read, each variable of its rows reads by its own cells.
use Rattle.std.proofs.Common.{◌≡◌, ◌∙◌, ap, refl, ℕ, zero, suc, ◌+◌, ◌<◌, Bool, true, false, cond, ◌&&◌, List, [], ◌∷◌, map, length}
use Rattle.std.proofs.Common.{slice_get, Some, arith}
use Rattle.std.specs.Prelude.{IsTrue, nat_lt, filter, ◌==◌}
use Rattle.std.specs.List.{Contains, list_all, flat_map, zip, enumerate_from}
use Rattle.std.proofs.lemmas.Bool.{and_parts, cond-true, eq-eqb, eqb-true}
use Rattle.std.proofs.lemmas.List.Elements.{Contains-append_left}
use Rattle.std.proofs.lemmas.Option.{none-some, same_Some, slice_get_within}
use Rattle.ft_core.specs.declared.tables.Grid.TheVariants.{Vector}
use Rattle.ft_core.specs.declared.term.Term.{Term}
use Rattle.ft_core.specs.declared.term.Cond.{Cond}
use Rattle.ft_core.specs.meaning.Grids.{Cell, cells, cells_for, row_cells, is_shaped}
use Rattle.ft_core.specs.meaning.Reads.{Read, cond_reads, cell_reads, term_reads}
use Rattle.ft_core.specs.laws.Places.{contained, place-of, some-at}
use Rattle.ft_core.specs.laws.Lists.{from_one, in_all}
use Rattle.ft_scan.proofs.FoundLemmas.{zip_there, mapped_there}
use Rattle.ft_scan.proofs.TableLemmas.{all_at}

in-kept : {A : Type 0} (test : A → Bool) (xs : List A) (k : ℕ) (a : A) → slice_get xs k ≡ Some a → test a ≡ true → (j : ℕ)
    × (slice_get (filter test xs) j ≡ Some a)
in-kept test [] k a e t = absurd (none-some a e)
in-kept test (x ∷ xs) zero a e t =
    (0, ap (λ ys. slice_get ys 0) (cond-true (test x) (x ∷ filter test xs) (filter test xs) (ap test (same_Some x a e) ∙ t)) ∙ e)
in-kept test (x ∷ xs) (suc k) a e t =
    let at = in-kept test xs k a e t in
    elim (test x) as (λ b. (j : ℕ) × (slice_get (cond b (x ∷ filter test xs) (filter test xs)) j ≡ Some a)) [
      | true ↦ (suc at.0, at.1)
      | false ↦ at
    ]

with-place : {A : Type 0} (n : ℕ) (xs : List A) (k : ℕ) (a : A) → slice_get xs k ≡ Some a → (m : ℕ)
    × (slice_get (enumerate_from n xs) k ≡ Some (m, a))
with-place n [] k a e = absurd (none-some a e)
with-place n (x ∷ xs) zero a e = (n, ap (λ y. Some (n, y)) (same_Some x a e))
with-place n (x ∷ xs) (suc k) a e = with-place (n + 1) xs k a e

module _ (columns : List Cond) (targets : List ℕ) (terms : List (List Term)) (shaped : IsTrue (is_shaped (Vector columns targets terms)))
  where
    has-rows : length terms ≡ length targets
    has-rows = eqb-true (length terms) (length targets)
        (and_parts (nat_lt 0 (length targets) && nat_lt 0 (length columns)) (length terms == length targets)
        (and_parts (nat_lt 0 (length targets) && nat_lt 0 (length columns) && length terms == length targets)
        (list_all (λ row. length row == length columns) terms) shaped).0).1

    has-columns : (row : ℕ) (entries : List Term) → slice_get terms row ≡ Some entries → length entries ≡ length columns
    has-columns row entries there = eqb-true (length entries) (length columns)
        (all_at (λ (es : List Term). length es == length columns) terms row entries
        (and_parts (nat_lt 0 (length targets) && nat_lt 0 (length columns) && length terms == length targets)
        (list_all (λ row. length row == length columns) terms) shaped).1 there)

    pub column-reads : (row x : ℕ) (r : Read) → slice_get targets row ≡ Some x → Contains (flat_map cond_reads columns) r
        → Contains (flat_map cell_reads (cells_for x (Vector columns targets terms))) r
    column-reads row x r target c =
        let column = from_one cond_reads columns r c in
        let row_within : row < length terms = let within = slice_get_within targets row x target in omega (arith, within, has-rows) in
        let entries = some-at terms row row_within in
        let column_within : column.0 < length entries.0 =
        let within = slice_get_within columns column.0 column.1 column.2 in let long = has-columns row entries.0 entries.1 in
        omega (arith, within, long) in
        let entry = some-at entries.0 column.0 column_within in
        let row_at = with-place 0 (zip targets terms) row (x, entries.0) (zip_there targets terms row x entries.0 target entries.1) in
        let its = zip (map (λ (column : Cond). column ∷ []) columns) entries.0 in
        let at = with-place 0 its column.0 (column.1 ∷ [], entry.0)
        (zip_there (map (λ (column : Cond). column ∷ []) columns) entries.0 column.0 (column.1 ∷ []) entry.0
        (mapped_there (λ (column : Cond). column ∷ []) columns column.0 column.1 column.2) entry.1) in
        let cell : Cell = record { row = row_at.0; column = at.0; target = x; conds = column.1 ∷ []; term = entry.0 } in
        let in_row : slice_get (row_cells row_at.0 x its) column.0 ≡ Some cell =
        mapped_there (λ (c : ℕ × (List Cond × Term)). record { row = row_at.0; column = c.0; target = x; conds = c.1.0; term = c.1.1 })
        (enumerate_from 0 its) column.0
        (at.0, (column.1 ∷ [], entry.0)) at.1 in
        let in_cells = place-of (cells (Vector columns targets terms)) cell
        (in_all (λ (q : ℕ × (ℕ × List Term)). row_cells q.0 q.1.0 (zip (map (λ (column : Cond). column ∷ []) columns) q.1.1))
        (enumerate_from 0 (zip targets terms)) row
        (row_at.0, (x, entries.0)) cell row_at.1 (contained (row_cells row_at.0 x its) column.0 cell in_row)) in
        let in_own = in-kept (λ (c : Cell). c.target == x) (cells (Vector columns targets terms)) in_cells.0 cell in_cells.1 (eq-eqb x x refl)
        in
        in_all cell_reads (cells_for x (Vector columns targets terms)) in_own.0 cell r in_own.1
        (Contains-append_left (flat_map cond_reads cell.conds) (term_reads cell.term) r
        (Contains-append_left (cond_reads column.1) [] r column.3))
