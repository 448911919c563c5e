-- Each step of a plan finds what it looks for.
use Rattle.std.proofs.Common.{◌≡◌, ◌∙◌, sym, subst, refl, ℕ, Bool, true, false, List, slice_get, slice_index_or, Option, Some, None, arith}
use Rattle.std.proofs.Common.{⊎_elim, true≢false}
use Rattle.std.specs.Prelude.{IsTrue}
use Rattle.std.proofs.lemmas.Option.{slice_get_within}
use Rattle.ft_core.specs.declared.tables.Tables.{Tables}
use Rattle.ft_core.specs.declared.tables.Side.{Side}
use Rattle.ft_core.specs.declared.tables.Memory.{Memory}
use Rattle.ft_core.specs.declared.tables.Grid.TheVariants.{Vector}
use Rattle.ft_core.specs.meaning.Kinds.{defined_kinds, section_of}
use Rattle.ft_core.specs.checked.Sound.{side_of, is_side, is_memory_of}
use Rattle.ft_mean.specs.meaning.Memory.{look}
use Rattle.ft_mean.specs.meaning.Proper.{AllProper}
use Rattle.ft_mean.specs.meaning.Reading.{Reading}
use Rattle.ft_mean.specs.meaning.Value.{View}
use Rattle.ft_scan.specs.declared.plan.Step.{Step}
use Rattle.ft_scan.specs.declared.plan.Step.TheVariants as step
use Rattle.ft_scan.specs.declared.frame.Frame.{Frame}
use Rattle.ft_scan.specs.steps.Frame.{view_of, HasColumn, HasCell, HasEntry, CanTake}
use Rattle.ft_scan.specs.steps.Plan.{CanFindColumn, CanFindCell, CanFindEntry, CanFollow, IsPlan}
use Rattle.ft_scan.specs.steps.Told.{IsScan, IsTold}
use Rattle.ft_scan.proofs.FoundLemmas.{vector_none}
use Rattle.ft_scan.proofs.FrameLemmas.{of_kinds}
use Rattle.ft_scan.proofs.ItemLemmas.{has_value}
use Rattle.ft_scan.proofs.KnownLemmas.{truth_known, cells_known}
use Rattle.ft_scan.proofs.TableLemmas.{grid_shaped, found_none}
use Rattle.ft_scan.proofs.VectorLemmas.{same_columns, is_for_target, entry_there, some_or_none}
use Rattle.ft_scan.specs.laws.Laws.{Laws}

pub memory_there : (memories : List Memory) (s : Side) (m : ℕ) → IsTrue (is_memory_of memories s m) → (memory : Memory)
    × (slice_get memories m ≡ Some memory)
memory_there memories s m = of (slice_get memories m) refl
  where
    of : (o : Option Memory) → slice_get memories m ≡ o → elim o as (λ z. Bool) [ None ↦ false | Some memory ↦ is_side (side_of memory) s ]
        ≡ true
        → (memory : Memory) × (slice_get memories m ≡ Some memory)
    of None e t = absurd (true≢false (sym t))
    of (Some memory) e t = (memory, e)

module _ (L : Laws) (S : Tables) (proper : AllProper S) (s : Side) (steps : List Step) (plan : IsPlan S s steps) (a : Reading) (n : ℕ)
    (scan : IsScan S s a n)
    (p : ℕ) (frame : Frame) (told : IsTold S s steps a n p frame) where
  abbrev V : View
  V = view_of frame

  abbrev W : View
  W = look S a n

  has_column : (table : ℕ) → CanFindColumn S s steps p table → HasColumn S s table frame
  has_column table can =
      let v = of_kinds S.vars (defined_kinds (section_of s)) can.variable can.defined in
      ⊎_elim
      (λ at. record {
        columns = can.columns;
        targets = can.targets;
        terms = can.terms;
        there = can.there;
        column = at.0;
        condition = at.1.0;
        at = at.1.1;
        holds = (truth_known L) S s steps a n p frame told p (omega arith) can.columns can.known at.0 at.1.0 at.1.1 ∙ at.1.2;
      })
      (λ none. absurd ((found_none L) S (section_of s) can.variable table
      (record { section = section_of s; grid = Vector can.columns can.targets can.terms }) can.there
      (is_for_target S s table can.columns can.targets can.terms can.there can.row can.variable can.target) W (a n can.variable)
      (vector_none W can.variable can.columns can.targets can.terms (λ i below t at mine j c e there term. none j c there))
      (scan.follows can.variable v.0 (v.1, v.2))))
      (some_or_none W can.columns)

  has_cell : (x table : ℕ) → CanFindCell S s steps p x table → HasCell S s x table frame
  has_cell x table can =
      let v = of_kinds S.vars (defined_kinds (section_of s)) x can.defined in
      let some = (has_value L) S proper s a n scan.in_range scan.follows V x v.0 (v.1, v.2)
      ((cells_known L) S s steps a n p frame told x table can.there.table can.there.there can.there.is_for_it can.known) in
      record { there = can.there; of_side = can.defined; z = some.0; is = some.1 }

  has_entry : (x table row : ℕ) → CanFindEntry S s steps p x table row → HasEntry S s table row frame
  has_entry x table row can =
      let found = told.found can.found.0 (step.Column table) can.found.1 can.found.2 in
      let there = subst (λ cs. slice_get cs (slice_index_or frame.columns table 0) ≡ Some found.condition)
      (same_columns S s table found.columns can.columns found.targets can.targets found.terms can.terms found.there can.there) found.at in
      let entry = entry_there can.columns can.targets can.terms
      (grid_shaped S table (record { section = section_of s; grid = Vector can.columns can.targets can.terms }) can.there) row x can.target
      (slice_index_or frame.columns table 0)
      (slice_get_within can.columns (slice_index_or frame.columns table 0) found.condition there) in
      record { columns = can.columns; targets = can.targets; terms = can.terms; there = can.there; term = entry.0; at = entry.1 }

  takes : (one : Step) → CanFollow S s steps p one → CanTake S s one frame
  takes (step.Column table) can = has_column table can
  takes (step.Cell x table) can = has_cell x table can
  takes (step.Entry x table row) can =
      let v = of_kinds S.vars (defined_kinds (section_of s)) x can.defined in (slice_get_within S.vars x v.0 v.1, has_entry x table row can)
  takes (step.Memory m) can = let memory = memory_there S.memories s m can.there in slice_get_within S.memories m memory.0 memory.1

  pub can_take : (one : Step) → slice_get steps p ≡ Some one → CanTake S s one frame
  can_take one at = takes one (plan.follows p one at)
