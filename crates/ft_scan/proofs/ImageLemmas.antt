-- What a table of a section finds is what the section gives its variables.
use Rattle.std.proofs.Common.{◌≡◌, sym, subst, refl, ℕ, ℤ, List, slice_get, Some, None}
use Rattle.std.specs.Prelude.{IsTrue, ◌==◌}
use Rattle.std.specs.List.{list_any}
use Rattle.std.proofs.lemmas.Bool.{and_from, eq-eqb, eqb-true}
use Rattle.std.proofs.lemmas.Option.{slice_get_within}
use Rattle.ft_core.specs.declared.tables.Tables.{Tables}
use Rattle.ft_core.specs.declared.tables.Table.{Table}
use Rattle.ft_core.specs.declared.tables.Section.{Section}
use Rattle.ft_core.specs.declared.term.Term.{Term}
use Rattle.ft_core.specs.meaning.Grids.{cells_for, defines, is_section, is_for, is_shaped, term_at}
use Rattle.ft_mean.specs.meaning.Cells.{defined}
use Rattle.ft_mean.specs.meaning.Value.{View, value}
use Rattle.ft_scan.specs.steps.Found.{IsFound, IsTrueAt, IsOpenColumn}
use Rattle.ft_scan.specs.steps.Mapping.{CanMap, IsTableOf, HasTargets, IsFilled}
use Rattle.ft_scan.proofs.FillLemmas.{nothing}
use Rattle.ft_scan.proofs.FoundLemmas.{fails, vector_none, vector_gives}
use Rattle.ft_scan.proofs.TableLemmas.{grid_shaped, found_defined, found_none}
use Rattle.ft_scan.proofs.VectorLemmas.{defines_target, entry_there}
use Rattle.ft_scan.specs.laws.Laws.{Laws}

module _ (L : Laws) (S : Tables) (section : Section) (V : View) (can : CanMap S section V) (table : Table) (is : IsTableOf S section table)
  where
    its : (x : ℕ) → IsTrue (defines table.grid x) → IsTrue (is_for section x table)
    its x mine = and_from (is_section table.section section) (defines table.grid x) is.2 mine

    -- what it finds is a value of the variable
    pub finds : (x : ℕ) → IsTrue (defines table.grid x) → (z : ℤ) → IsFound V (cells_for x table.grid) (Some z)
        → IsTrue (defined S section V x z)
    finds x mine z found = (found_defined L) S section x is.0 table is.1 (its x mine) V z found

    -- where none of its cells for a target holds, the section doesn't define the target
    pub finds_none : (x : ℕ) → IsTrue (defines table.grid x) → IsFound V (cells_for x table.grid) None → (row : List ℤ)
        → IsFilled S section V (λ y. x == y) row row
    finds_none x mine none row = (nothing L) S section V (λ y. x == y) row (λ y v there same.
        let some = can.some y v there in
        (found_none L) S section x is.0 table is.1 (its x mine) V some.0 none
        (subst (λ k. IsTrue (defined S section V k some.0)) (sym (eqb-true x y same)) some.1))

    module _ (targets : List ℕ) (has : HasTargets table targets) where
      -- a row of a vector table has an entry in a column that holds, and it gives the value of the row's target
      pub row_finds : (row x column : ℕ) → slice_get targets row ≡ Some x → IsOpenColumn V table.grid column
          → (e : Term) × (term_at table.grid row column ≡ Some e) × IsTrue (defined S section V x (value V e))
      row_finds row x column target open_at =
          let held : IsTrueAt V has.0 column = subst (λ g. IsOpenColumn V g column) has.2 open_at in
          let entry = entry_there has.0 targets has.1 (subst (λ g. IsTrue (is_shaped g)) has.2 (grid_shaped S is.0 table is.1)) row x target
          column
          (slice_get_within has.0 column held.0 held.1) in (
            entry.0,
            subst (λ g. term_at g row column ≡ Some entry.0) (sym has.2) entry.1,
            finds x (subst (λ g. IsTrue (defines g x)) (sym has.2) (defines_target targets row x target)) (value V entry.0)
                (subst (λ g. IsFound V (cells_for x g) (Some (value V entry.0))) (sym has.2)
                (vector_gives V x has.0 targets has.1 row x (value V entry.0) target (eq-eqb x x refl)
                (column, held.0, entry.0, held.1, entry.1, held.2, refl))),
          )

      -- where no column of it holds, the section defines none of its targets
      pub rows_none : ((column : ℕ) → IsOpenColumn V table.grid column → ⊥) → (row : List ℤ)
          → IsFilled S section V (λ x. list_any (λ target. target == x) targets) row row
      rows_none none row = (nothing L) S section V (λ x. list_any (λ target. target == x) targets) row (λ x v there mine.
          let some = can.some x v there in
          (found_none L) S section x is.0 table is.1 (its x (subst (λ g. IsTrue (defines g x)) (sym has.2) mine)) V some.0
          (subst (λ g. IsFound V (cells_for x g) None) (sym has.2) (vector_none V x has.0 targets has.1
          (λ i below t at same j c e cell term. fails V has.0 j (λ held. none j (subst (λ g. IsOpenColumn V g j) (sym has.2) held)) c
          cell))) some.1)
