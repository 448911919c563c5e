-- Vector tables: the one at a place, a variable of it, its columns that hold, and its entries.
use Rattle.std.proofs.Common.{◌≡◌, ◌∙◌, sym, ap, subst, refl, ℕ, zero, suc, ◌<◌, false, List, [], ◌∷◌, length, slice_get, slice_index_or}
use Rattle.std.proofs.Common.{Option, Some, None, arith, ◌⊎◌, inl, inr, ⊎_elim}
use Rattle.std.specs.Prelude.{IsTrue, MatchOption, ◌==◌, ◌&&◌, nat_lt}
use Rattle.std.specs.List.{list_all, list_any}
use Rattle.std.proofs.lemmas.Bool.{and_parts, cases_Bool, eq-eqb, eqb-true}
use Rattle.std.proofs.lemmas.List.Folds.{list_any_at}
use Rattle.std.proofs.lemmas.Option.{none-some, same_Some, slice_get_within, get_or_from_slice_get}
use Rattle.ft_core.specs.declared.tables.Tables.{Tables}
use Rattle.ft_core.specs.declared.tables.Table.{Table}
use Rattle.ft_core.specs.declared.tables.Side.{Side}
use Rattle.ft_core.specs.declared.tables.Grid.{Grid}
use Rattle.ft_core.specs.declared.tables.Grid.TheVariants.{Vector}
use Rattle.ft_core.specs.declared.term.Cond.{Cond}
use Rattle.ft_core.specs.declared.term.Term.{Term}
use Rattle.ft_core.specs.meaning.Grids.{is_for, is_shaped}
use Rattle.ft_core.specs.meaning.Kinds.{section_of}
use Rattle.ft_core.specs.laws.Places.{some-at}
use Rattle.ft_mean.specs.meaning.Value.{View, truth}
use Rattle.ft_core.specs.laws.Sections.{is_for_from}
use Rattle.ft_scan.specs.steps.Found.{IsFirstTrue, IsTrueAt, IsOpenColumn}
use Rattle.ft_scan.specs.steps.Plan.{IsVector}
use Rattle.ft_scan.proofs.TableLemmas.{all_at}

abbrev columns_of : Grid → List Cond
columns_of (Vector columns targets terms) = columns
columns_of _ = []

abbrev targets_of : Grid → List ℕ
targets_of (Vector columns targets terms) = targets
targets_of _ = []

-- a table defines the target of each of its rows
pub defines_target : (targets : List ℕ) (row x : ℕ) → slice_get targets row ≡ Some x → IsTrue (list_any (λ target. target == x) targets)
defines_target targets row x target = list_any_at (λ t. t == x) targets row x (slice_get_within targets row x target)
    (ap (λ t. t == x) (get_or_from_slice_get targets row x x target) ∙ eq-eqb x x refl)

module _ (S : Tables) (s : Side) (place : ℕ) where
  -- at one place stands one table
  pub same_columns : (cs ds : List Cond) (ts us : List ℕ) (es fs : List (List Term)) → IsVector S s place cs ts es
      → IsVector S s place ds us fs → cs ≡ ds
  same_columns cs ds ts us es fs one other = ap (λ (t : Table). columns_of t.grid) (same_Some _ _ (sym one ∙ other))

  pub same_targets : (cs ds : List Cond) (ts us : List ℕ) (es fs : List (List Term)) → IsVector S s place cs ts es
      → IsVector S s place ds us fs → ts ≡ us
  same_targets cs ds ts us es fs one other = ap (λ (t : Table). targets_of t.grid) (same_Some _ _ (sym one ∙ other))

  pub is_for_target : (columns : List Cond) (targets : List ℕ) (terms : List (List Term)) → IsVector S s place columns targets terms
      → (row x : ℕ) → slice_get targets row ≡ Some x → IsTrue (is_for (section_of s) x
      (record { section = section_of s; grid = Vector columns targets terms }))
  is_for_target columns targets terms there row x target =
      is_for_from (section_of s) x (record { section = section_of s; grid = Vector columns targets terms }) refl
      (defines_target targets row x target)

-- its row has an entry in each column
pub entry_there : (columns : List Cond) (targets : List ℕ) (terms : List (List Term)) → IsTrue (is_shaped (Vector columns targets terms))
    → (row x : ℕ) → slice_get targets row ≡ Some x → (column : ℕ) → column < length columns → (term : Term)
    × (slice_get (slice_index_or terms row []) column ≡ Some term)
entry_there columns targets terms shaped row x target column inside =
    let full = and_parts (nat_lt 0 (length targets) && nat_lt 0 (length columns) && length terms == length targets)
    (list_all (λ entries. length entries == length columns) terms) shaped in
    let rows = eqb-true (length terms) (length targets) (and_parts (nat_lt 0 (length targets) && nat_lt 0 (length columns))
    (length terms == length targets) full.0).1 in
    let below = slice_get_within targets row x target in
    let entries = some-at terms row (omega (arith, rows, below)) in
    let width = eqb-true (length entries.0) (length columns) (all_at (λ es. length es == length columns) terms row entries.0 full.1
    entries.1) in
    let term = some-at entries.0 column (omega (arith, width, inside)) in
    (term.0, ap (λ es. slice_get es column) (get_or_from_slice_get terms row entries.0 [] entries.1) ∙ term.1)

none_more : (V : View) (c : Cond) (conds : List Cond) → truth V c ≡ false
    → ((k : ℕ) (d : Cond) → slice_get conds k ≡ Some d → truth V d ≡ false)
    → (k : ℕ) (d : Cond) → slice_get (c ∷ conds) k ≡ Some d → truth V d ≡ false
none_more V c conds shut none zero d e = ap (truth V) (sym (same_Some c d e)) ∙ shut
none_more V c conds shut none (suc k) d e = none k d e

-- some condition holds or none does
pub some_or_none : (V : View) (conds : List Cond) → ((k : ℕ) × IsTrueAt V conds k)
    ⊎ ((k : ℕ) (c : Cond) → slice_get conds k ≡ Some c → truth V c ≡ false)
some_or_none V [] = inr (λ k c e. absurd (none-some c e))
some_or_none V (c ∷ conds) = ⊎_elim
    (λ holds. inl (zero, (c, refl, holds)))
    (λ shut. ⊎_elim
    (λ at. inl (suc at.0, at.1))
    (λ none. inr (none_more V c conds shut none))
    (some_or_none V conds))
    (cases_Bool (truth V c))

-- the open column of a vector table is the first of its conditions that holds
pub opened_at : (V : View) (grid : Grid) (columns : List Cond) (targets : List ℕ) (terms : List (List Term)) → grid
    ≡ Vector columns targets terms
    → (conds : List Cond) → conds ≡ columns → (found : Option ℕ) → MatchOption found ((at : ℕ) → IsTrueAt V conds at → ⊥)
    (IsFirstTrue V conds)
    → MatchOption found ((at : ℕ) → IsOpenColumn V grid at → ⊥) (IsOpenColumn V grid)
opened_at V grid columns targets terms vector conds same found is =
    subst (λ g. MatchOption found ((at : ℕ) → IsOpenColumn V g at → ⊥) (IsOpenColumn V g)) (sym vector)
    (subst (λ cs. MatchOption found ((at : ℕ) → IsTrueAt V cs at → ⊥) (IsTrueAt V cs)) same (one found is))
  where
    one : (o : Option ℕ) → MatchOption o ((at : ℕ) → IsTrueAt V conds at → ⊥) (IsFirstTrue V conds)
        → MatchOption o ((at : ℕ) → IsTrueAt V conds at → ⊥) (IsTrueAt V conds)
    one None none = none
    one (Some at) first = first.0
