-- The table of a section for a variable: what its cells read, and its one value.
use Rattle.std.proofs.Common.{◌≡◌, ◌∙◌, sym, ap, subst, refl, ℕ, zero, suc, Bool, true, false, cond, List, [], ◌∷◌, slice_get, Some}
use Rattle.std.specs.Prelude.{IsTrue, ◌==◌}
use Rattle.std.specs.List.{flat_map}
use Rattle.ft_core.specs.declared.tables.Tables.{Tables}
use Rattle.ft_core.specs.declared.tables.Table.{Table}
use Rattle.ft_core.specs.declared.tables.Section.{Section}
use Rattle.ft_core.specs.meaning.Grids.{Cell, cells, cells_for, is_section}
use Rattle.ft_core.specs.meaning.Reads.{Read, cell_reads}
use Rattle.ft_core.specs.checked.Sound.{may_read}
use Rattle.ft_mean.specs.meaning.Cells.{cells_of}
use Rattle.ft_mean.specs.laws.TableLaws.{HasTable, CellsAreOfTable, CellsMayRead, SameDefined, SectionsAreTold, HasOneValue}
use Rattle.ft_mean.proofs.CellLemmas.{Each, OfCell, each-append, each-filter, reads_each, cells_read, cells_of-is, cells_alike}
use Rattle.ft_mean.proofs.CellLemmas.{same_defined}
use Rattle.ft_mean.proofs.OneScan.{table_of, answer}
use Rattle.ft_core.specs.laws.Sections.{is_for_from, same_section, section_self}
use Rattle.ft_mean.proofs.WellFormed.{opened}

each-flat : {A B : Type 0} (P : B → Type 0) (f : A → List B) (xs : List A) → ((k : ℕ) (a : A) → slice_get xs k ≡ Some a → Each P (f a))
    → Each P (flat_map f xs)
each-flat P f [] h = tt
each-flat P f (x ∷ xs) h = each-append P (f x) (flat_map f xs) (h zero x refl) (each-flat P f xs (λ k a e. h (suc k) a e))

module _ (S : Tables) (section : Section) (x : ℕ) where
  -- what the section may read
  abbrev May : Read → Type 0
  May r = IsTrue (may_read S.vars S.memories section r)

  of_table : (k : ℕ) (table : Table) → slice_get S.tables k ≡ Some table → (b : Bool) → is_section table.section section ≡ b
      → Each (OfCell May) (cond b (cells_for x table.grid) [])
  of_table k table there true its = each-filter (OfCell May) (λ (c : Cell). c.target == x) (cells table.grid)
      (cells_read May table.grid (λ r c. subst (λ s. IsTrue (may_read S.vars S.memories s r)) (same_section table.section section its)
      (S.sound.tables_read k table r there c)))
  of_table k table there false its = tt

  all_may : Each (OfCell May) (cells_of S section x)
  all_may = each-flat (OfCell May) (λ (table : Table). cond (is_section table.section section) (cells_for x table.grid) []) S.tables
      (λ k table there. of_table k table there (is_section table.section section) refl)

pub cells_may_read : CellsMayRead
cells_may_read S section x = reads_each (May S section x) cell_reads (cells_of S section x) (all_may S section x)

pub defined_alike : SameDefined
defined_alike S section V W x z same = same_defined V W z (cells_of S section x) (cells_alike V W (cells_of S section x) same)

pub cells_are : CellsAreOfTable
cells_are S section x k table there its = cells_of-is S section x k table there its
    (λ l a at for_it. S.sound.one_table section x l k a table at there for_it its)

pub has_table : HasTable
has_table S section x v is =
    let o = table_of S (opened S) section x v is in
    record { place = o.place; table = o.table; there = o.is.0; section_is = o.is.1; defines_it = o.defines_it; cells_are = o.cells_are }

pub sections_told : SectionsAreTold
sections_told a b = (same_section a b, λ is. ap (is_section a) (sym is) ∙ section_self a)

pub one_value : HasOneValue
one_value S proper section V x v is local =
    let one = answer S (opened S) proper section V x v is (λ o. local o.place o.table o.is.0
    (is_for_from section x o.table o.is.1 o.defines_it)) in
    record { z = one.z; in_range = one.in_range; is = one.is; only = one.only }
