-- What is found in the one table for a variable is the value that the section's tables give.
use Rattle.std.proofs.Common.{◌≡◌, ◌∙◌, sym, ap, subst, ℕ, zero, suc, ℤ, Bool, true, List, [], ◌∷◌, slice_get, Some, None, true≢false}
use Rattle.std.specs.Prelude.{IsTrue}
use Rattle.std.specs.List.{list_any, list_all}
use Rattle.std.specs.Ordering.{int_eq}
use Rattle.std.proofs.lemmas.Bool.{and_parts}
use Rattle.std.proofs.lemmas.Option.{none-some, same_Some}
use Rattle.ft_core.specs.declared.tables.Tables.{Tables}
use Rattle.ft_core.specs.declared.tables.Table.{Table}
use Rattle.ft_core.specs.declared.tables.Section.{Section}
use Rattle.ft_core.specs.meaning.Grids.{cells_for, is_for, is_shaped}
use Rattle.ft_core.specs.checked.Size.{is_sized_grid}
use Rattle.ft_mean.specs.meaning.Value.{View, value}
use Rattle.ft_mean.specs.meaning.Cells.{holding, cells_of, defined}
use Rattle.ft_scan.specs.steps.Found.{IsFound, IsTableFor}
use Rattle.ft_mean.specs.judge.Safe.{KeepsSizes, IsSafeGrid}
use Rattle.ft_scan.specs.laws.Laws.{Laws}

pub all_at : {A : Type 0} (test : A → Bool) (xs : List A) (k : ℕ) (x : A) → list_all test xs ≡ true → slice_get xs k ≡ Some x → test x
    ≡ true
all_at test [] k x h e = absurd (none-some x e)
all_at test (y ∷ xs) zero x h e = subst (λ z. test z ≡ true) (same_Some y x e) (and_parts (test y) (list_all test xs) h).0
all_at test (y ∷ xs) (suc k) x h e = all_at test xs k x (and_parts (test y) (list_all test xs) h).1 e

pub for_it : (tables : List Table) (section : Section) (x place : ℕ) → IsTableFor tables section x place → (t : Table)
    → slice_get tables place ≡ Some t → IsTrue (is_for section x t)
for_it tables section x place at t there = subst (λ u. IsTrue (is_for section x u)) (same_Some at.table t (sym at.there ∙ there))
    at.is_for_it

module _ (S : Tables) (place : ℕ) (table : Table) (there : slice_get S.tables place ≡ Some table) where
  pub grid_shaped : IsTrue (is_shaped table.grid)
  grid_shaped = all_at (λ table. is_shaped table.grid) S.tables place table S.sound.shapes there

  pub grid_safe : (V : View) → KeepsSizes S.vars S.memories V → IsSafeGrid V table.grid
  grid_safe V keeps = record {
    vars = S.vars;
    memories = S.memories;
    keeps = keeps;
    small = all_at (λ table. is_sized_grid S.vars S.memories table.grid) S.tables place table S.sound.sized_tables there;
  }

module _ (L : Laws) (S : Tables) (section : Section) (x place : ℕ) (table : Table) (there : slice_get S.tables place ≡ Some table)
    (mine : IsTrue (is_for section x table)) where
  cells_are : cells_of S section x ≡ cells_for x table.grid
  cells_are = L.cells_are S section x place table there mine

  pub found_defined : (V : View) (z : ℤ) → IsFound V (cells_for x table.grid) (Some z) → IsTrue (defined S section V x z)
  found_defined V z found = ap (λ cs. list_any (λ cell. int_eq z (value V cell.term)) (holding V cs)) cells_are ∙ found

  pub found_none : (V : View) (z : ℤ) → IsFound V (cells_for x table.grid) None → IsTrue (defined S section V x z) → ⊥
  found_none V z none some = true≢false (sym some ∙ ap (λ cs. list_any (λ cell. int_eq z (value V cell.term)) (holding V cs)) cells_are
      ∙ ap (list_any (λ cell. int_eq z (value V cell.term))) none)
