-- What is known of a scan under way is as at the scan of a reading, and so is what a step computes from it.
use Rattle.std.proofs.Common.{◌≡◌, ◌∙◌, sym, ap, subst, ℕ, ◌≤◌, pos, Bool, true, false, List, slice_get, slice_index_or, Some, arith, inl}
use Rattle.std.proofs.Common.{inr, true≢false}
use Rattle.std.specs.Prelude.{IsTrue}
use Rattle.std.specs.List.{Contains, flat_map}
use Rattle.std.proofs.lemmas.Option.{same_Some}
use Rattle.ft_core.specs.declared.tables.Tables.{Tables}
use Rattle.ft_core.specs.declared.tables.Table.{Table}
use Rattle.ft_core.specs.declared.tables.Side.{Side}
use Rattle.ft_core.specs.meaning.Grids.{cells_for, is_for}
use Rattle.ft_core.specs.meaning.Kinds.{given_kinds, side_kinds, section_of}
use Rattle.ft_core.specs.declared.term.Cond.{Cond}
use Rattle.ft_core.specs.meaning.Reads.{Read, at_now, at_before, of_memory, of_age, cell_reads, cond_reads}
use Rattle.ft_mean.specs.meaning.Memory.{at_scan, memory_at, look}
use Rattle.ft_mean.specs.meaning.Reading.{Reading}
use Rattle.ft_mean.specs.meaning.Value.{truth}
use Rattle.ft_mean.specs.laws.EvaluationLaws.{Same, AllSame}
use Rattle.ft_mean.specs.laws.TableLaws.{TableOf}
use Rattle.ft_core.specs.laws.Lists.{in_all}
use Rattle.ft_core.specs.laws.Sections.{is_for_from}
use Rattle.ft_scan.specs.declared.plan.Step.{Step}
use Rattle.ft_scan.specs.declared.plan.Step.TheVariants as step
use Rattle.ft_scan.specs.declared.frame.Frame.{Frame}
use Rattle.ft_scan.specs.steps.Frame.{view_of}
use Rattle.ft_scan.specs.steps.Plan.{Makes, IsKnown, AreKnown}
use Rattle.ft_scan.specs.steps.Told.{IsTold, IsRight}
use Rattle.ft_scan.proofs.FrameLemmas.{of_kinds}
use Rattle.ft_scan.specs.laws.Laws.{Laws}

-- the variable or memory of a read, and whether it is a variable at this scan
abbrev number_of : Read → ℕ
number_of (at_now x) = x
number_of (at_before x) = x
number_of (of_memory m) = m
number_of (of_age m) = m

abbrev is_now : Read → Bool
is_now (at_now x) = true
is_now (at_before x) = false
is_now (of_memory m) = false
is_now (of_age m) = false

module _ (L : Laws) (S : Tables) (s : Side) (steps : List Step) (a : Reading) (n p : ℕ) (frame : Frame)
    (told : IsTold S s steps a n p frame) where
  made_now : (x : ℕ) (one : Step) → Makes one (at_now x) → IsRight S s a n one frame → slice_index_or frame.now x (pos 0) ≡ a n x
  made_now x (step.Column table) makes right = absurd makes
  made_now x (step.Cell y table) makes right = subst (λ z. slice_index_or frame.now z (pos 0) ≡ a n z) (sym (ap number_of makes)) right
  made_now x (step.Entry y table row) makes right = subst (λ z. slice_index_or frame.now z (pos 0) ≡ a n z) (sym (ap number_of makes)) right
  made_now x (step.Memory m) makes right = absurd (true≢false (ap is_now makes))

  made_memory : (m : ℕ) (one : Step) → Makes one (of_memory m) → IsRight S s a n one frame → slice_index_or frame.truths m false
      ≡ memory_at S a m n
  made_memory m (step.Column table) makes right = absurd makes
  made_memory m (step.Cell y table) makes right = absurd (true≢false (sym (ap is_now makes)))
  made_memory m (step.Entry y table row) makes right = absurd (true≢false (sym (ap is_now makes)))
  made_memory m (step.Memory k) makes right = subst (λ z. slice_index_or frame.truths z false ≡ memory_at S a z n)
      (sym (ap number_of makes)) right.0

  -- what is known after these steps is as in the reading
  known_same : (q : ℕ) → q ≤ p → (r : Read) → IsKnown S s steps q r → Same (view_of frame) (look S a n) r
  known_same q low (at_now x) (inl given) = let at = of_kinds S.vars (given_kinds s) x given in told.given x at.0 (at.1, at.2)
  known_same q low (at_now x) (inr (k, one, below, there, makes)) = made_now x one makes
      (told.found k one (omega (arith, below, low)) there)
  known_same q low (at_before x) own = let at = of_kinds S.vars (side_kinds s) x own in told.past x at.0 (at.1, at.2)
  known_same q low (of_memory m) (k, one, below, there, makes) = made_memory m one makes
      (told.found k one (omega (arith, below, low)) there)
  known_same q low (of_age m) never = absurd never

  -- a condition of a list of them whose reads are known, or a variable's cells, are seen alike
  pub truth_known : (q : ℕ) → q ≤ p → (conds : List Cond) → AreKnown S s steps q (flat_map cond_reads conds) → (k : ℕ) (c : Cond)
      → slice_get conds k ≡ Some c
      → truth (view_of frame) c ≡ truth (look S a n) c
  truth_known q low conds known k c at = L.same_truth (view_of frame) (look S a n) c
      (λ r reads. known_same q low r (known r (in_all cond_reads conds k c r at reads)))

  pub cells_known : (x place : ℕ) (table : Table) → slice_get S.tables place ≡ Some table → IsTrue (is_for (section_of s) x table)
      → AreKnown S s steps p (flat_map cell_reads (cells_for x table.grid)) → (o : TableOf S (section_of s) x)
      → AllSame (view_of frame) (look S a n) (flat_map cell_reads (cells_for x o.table.grid))
  cells_known x place table there mine known o r reads =
      let own : IsTrue (is_for (section_of s) x o.table) = is_for_from (section_of s) x o.table o.section_is o.defines_it in
      let place_is : o.place ≡ place = S.sound.one_table (section_of s) x o.place place o.table table o.there there own mine in
      let is : o.table ≡ table = same_Some o.table table (sym o.there ∙ ap (slice_get S.tables) place_is ∙ there) in
      known_same p (omega arith) r (known r (subst (λ (t : Table). Contains (flat_map cell_reads (cells_for x t.grid)) r) is reads))

  here_same : (r : Read) → IsKnown S s steps p r → Same (view_of frame) (at_scan S a (memory_at S a) n) r
  here_same (at_now x) known = known_same p (omega arith) (at_now x) known
  here_same (at_before x) known = known_same p (omega arith) (at_before x) known
  here_same (of_memory m) known = known_same p (omega arith) (of_memory m) known
  here_same (of_age m) known = absurd known

  -- the same at the scan as memories see it
  pub all_here : (reads : List Read) → AreKnown S s steps p reads → AllSame (view_of frame) (at_scan S a (memory_at S a) n) reads
  all_here reads known r c = here_same r (known r c)
