-- What a step of a plan leaves is what the next one begins with.
use Rattle.std.proofs.Common.{◌≡◌, ◌∙◌, sym, ap, subst, refl, ℕ, suc, ◌-◌, ◌<◌, ◌≤◌, ℤ, pos, Bool, false, List, [], ◌∷◌, ◌++◌, length}
use Rattle.std.proofs.Common.{slice_get, slice_index_or, slice_set, Some, arith, ⊎_elim}
use Rattle.std.specs.List.{flat_map}
use Rattle.std.proofs.lemmas.Bool.{cases_eq, cases_lt, eq-eqb}
use Rattle.std.proofs.lemmas.List.{length-set, length_push, get_or-set_same, get_or-set_other, get_or_push, get_or_append_left}
use Rattle.std.proofs.lemmas.Option.{same_Some, slice_get_within}
use Rattle.ft_base.specs.Interval.{IsWithin}
use Rattle.ft_core.specs.declared.tables.Tables.{Tables}
use Rattle.ft_core.specs.declared.tables.Var.{Var}
use Rattle.ft_core.specs.declared.tables.Side.{Side}
use Rattle.ft_core.specs.declared.tables.Memory.{Memory}
use Rattle.ft_core.specs.declared.tables.Memory.TheVariants.{Held, Hyst}
use Rattle.ft_core.specs.declared.tables.Grid.TheVariants.{Vector}
use Rattle.ft_core.specs.meaning.Kinds.{defined_kinds, section_of}
use Rattle.ft_core.specs.meaning.Reads.{memory_reads, cond_reads}
use Rattle.ft_core.specs.laws.Places.{set-here, set-there}
use Rattle.ft_mean.specs.meaning.Memory.{at_scan, memory_at, look}
use Rattle.ft_mean.specs.meaning.Proper.{AllProper}
use Rattle.ft_mean.specs.meaning.Reading.{Reading, begun}
use Rattle.ft_mean.specs.meaning.Value.{View, truth, value}
use Rattle.ft_mean.specs.laws.EvaluationLaws.{AllSame}
use Rattle.ft_memo.specs.Timer.{held_after}
use Rattle.ft_memo.specs.Band.{hyst_after}
use Rattle.ft_scan.specs.declared.plan.Step.{Step}
use Rattle.ft_scan.specs.declared.plan.Step.TheVariants as step
use Rattle.ft_scan.specs.declared.frame.Frame.{Frame}
use Rattle.ft_scan.specs.declared.frame.Running.{Running}
use Rattle.ft_scan.specs.declared.frame.Running.TheVariants.{Timer, Band}
use Rattle.ft_scan.specs.steps.Frame.{view_of, IsFrameOf, IsRunOf, Advances, FindsColumn, FindsCell, FindsEntry, AdvancesMemory, Leaves}
use Rattle.ft_scan.specs.steps.Plan.{CanFindColumn, CanFindCell, CanFindEntry, CanAdvanceMemory, CanFollow, IsPlan, AreKnown}
use Rattle.ft_scan.specs.steps.Told.{IsScan, IsTold, IsRight, WasTold, WasToldSince, RunsFor}
use Rattle.ft_scan.proofs.FoundLemmas.{vector_gives}
use Rattle.ft_scan.proofs.FrameLemmas.{of_kinds}
use Rattle.ft_scan.proofs.ItemLemmas.{is_value, timer_is, band_is}
use Rattle.ft_scan.proofs.KnownLemmas.{truth_known, cells_known, all_here}
use Rattle.ft_scan.proofs.SinceLemmas.{begun_stays}
use Rattle.ft_scan.proofs.TableLemmas.{found_defined}
use Rattle.ft_scan.proofs.VectorLemmas.{same_columns, same_targets, is_for_target}
use Rattle.ft_scan.specs.laws.Laws.{Laws}

-- a list of what the scans from `from` on told has one more after a scan
one_more_told : {X : Type 0} (xs ys : List X) (x d : X) (from n : ℕ) (f : ℕ → X) → ys ≡ xs ++ x ∷ [] → from ≤ n → length xs ≡ n - from
    → ((j : ℕ) → from ≤ j → j < n → slice_index_or xs (j - from) d ≡ f j) → x ≡ f n
    → (length ys ≡ suc n - from) × ((j : ℕ) → from ≤ j → j < suc n → slice_index_or ys (j - from) d ≡ f j)
one_more_told xs ys x d from n f more low long told last =
    let longer = length_push xs x in
    let whole = ap length more in (
      omega (arith, longer, whole, long, low),
      λ j begun below. ap (λ zs. slice_index_or zs (j - from) d) more ∙ ⊎_elim
          (λ less. get_or_append_left xs (x ∷ []) d (j - from) (omega (arith, less, long, begun)) ∙ told j begun less)
          (λ most. let is : n ≡ j = omega (arith, below, most) in
          get_or_push xs x d (j - from) (long ∙ ap (λ k. k - from) is) ∙ last ∙ ap f is)
          (cases_lt j n),
    )

module _ (L : Laws) where
  -- a memory that goes on is told one more scan, and says what it says in the reading
  advanced : (S : Tables) (a : Reading) (n m : ℕ) (V : View) (memory : Memory) (run next : Running) (says : Bool) → slice_get S.memories m
      ≡ Some memory
      → AllSame V (at_scan S a (memory_at S a) n) (memory_reads (Some memory)) → IsRunOf S.period memory run
      → WasToldSince S a (begun S a n) n memory run
      → Advances V memory run next says
      → IsRunOf S.period memory next × WasToldSince S a (begun S a n) (suc n) memory next × (says ≡ memory_at S a m n)
  advanced S a n m V (Held name s c hold) (Timer t) (Timer u) says there same is was goes =
      let hold_is = goes.0 ∙ is.0 in
      let period_is = goes.1 ∙ is.1 in
      let told = one_more_told t.truths u.truths (truth V c) false (begun S a n) n (λ j. truth (at_scan S a (memory_at S a) j) c) goes.2
      (L.begun_low S a n)
      was.0 was.1 (L.same_truth V (at_scan S a (memory_at S a) n) c same) in (
        (hold_is, period_is),
        told,
        goes.3 ∙ (λ i. held_after (hold_is i) (period_is i) u.truths) ∙ (timer_is L) S a n m name s c hold there u.truths told.0 told.1,
      )
  advanced S a n m V (Hyst name s e lo hi start) (Band b) (Band u) says there same is was goes =
      let lo_is = goes.0 ∙ is.0 in
      let hi_is = goes.1 ∙ is.1 in
      let start_is = goes.2 ∙ is.2 in
      let told = one_more_told b.numbers u.numbers (value V e) (pos 0) (begun S a n) n (λ j. value (at_scan S a (memory_at S a) j) e) goes.3
      (L.begun_low S a n)
      was.0 was.1 (L.same_value V (at_scan S a (memory_at S a) n) e same) in (
        (lo_is, hi_is, start_is),
        told,
        goes.4 ∙ (λ i. hyst_after (lo_is i) (hi_is i) (start_is i) u.numbers)
            ∙ (band_is L) S a n m name s e lo hi start there u.numbers told.0 told.1,
      )
  advanced S a n m V (Held name s c hold) (Timer t) (Band u) says there same is was goes = absurd goes
  advanced S a n m V (Held name s c hold) (Band t) next says there same is was goes = absurd is
  advanced S a n m V (Hyst name s e lo hi start) (Band t) (Timer u) says there same is was goes = absurd goes
  advanced S a n m V (Hyst name s e lo hi start) (Timer t) next says there same is was goes = absurd is

module _ (L : Laws) (S : Tables) (proper : AllProper S) (s : Side) (steps : List Step) (plan : IsPlan S s steps) (a : Reading) (n : ℕ)
    (scan : IsScan S s a n)
    (p : ℕ) (frame : Frame) (told : IsTold S s steps a n p frame) where
  abbrev V : View
  V = view_of frame

  abbrev W : View
  W = look S a n

  -- a step leaves what others have found as it was, and its own is right
  record Keeps (one : Step) (next : Frame) : Type 0 where
    is_frame : IsFrameOf S next
    past : next.past ≡ frame.past
    now : (x : ℕ) → slice_index_or frame.now x (pos 0) ≡ a n x → slice_index_or next.now x (pos 0) ≡ a n x
    columns : (table : ℕ) → (step.Column table ≡ one → ⊥) → slice_index_or next.columns table 0 ≡ slice_index_or frame.columns table 0
    truths : (m : ℕ) → (step.Memory m ≡ one → ⊥) → slice_index_or next.truths m false ≡ slice_index_or frame.truths m false
    runs : (m : ℕ) → (step.Memory m ≡ one → ⊥) → slice_get next.runs.items m ≡ slice_get frame.runs.items m
    right : IsRight S s a n one next

  still_runs : (one : Step) (next : Frame) → Keeps one next → (k m : ℕ) → (step.Memory m ≡ one → ⊥) → RunsFor S a k m frame
      → RunsFor S a k m next
  still_runs one next keeps k m other runs memory there = let ran = runs memory there in (ran.0, keeps.runs m other ∙ ran.1, ran.2, ran.3)

  still_right : (one : Step) (next : Frame) → Keeps one next → (two : Step) → (two ≡ one → ⊥) → IsRight S s a n two frame
      → IsRight S s a n two next
  still_right one next keeps (step.Column table) other found = record {
    columns = found.columns;
    targets = found.targets;
    terms = found.terms;
    there = found.there;
    condition = found.condition;
    at = ap (slice_get found.columns) (keeps.columns table other) ∙ found.at;
    holds = found.holds;
  }
  still_right one next keeps (step.Cell x table) other is = keeps.now x is
  still_right one next keeps (step.Entry x table row) other is = keeps.now x is
  still_right one next keeps (step.Memory m) other is = (keeps.truths m other ∙ is.0, still_runs one next keeps (suc n) m other is.1)

  -- each step stands once
  differs : (one two : Step) (q : ℕ) → slice_get steps p ≡ Some one → slice_get steps q ≡ Some two → (q ≡ p → ⊥) → two ≡ one → ⊥
  differs one two q at there elsewhere same = elsewhere (plan.once two q p there (at ∙ ap Some (sym same)))

  next_told : (one : Step) (next : Frame) → slice_get steps p ≡ Some one → Keeps one next → IsTold S s steps a n (suc p) next
  next_told one next at keeps = record {
    is_frame = keeps.is_frame;
    past = λ x v is. ap (λ xs. slice_index_or xs x (pos 0)) keeps.past ∙ told.past x v is;
    given = λ x v is. keeps.now x (told.given x v is);
    found = λ q two below there. ⊎_elim
        (λ less. still_right one next keeps two (differs one two q at there (λ e. omega (arith, e, less))) (told.found q two less there))
        (λ most. let is : q ≡ p = omega (arith, below, most) in
        subst (λ r. IsRight S s a n r next) (same_Some one two (sym at ∙ ap (slice_get steps) (sym is) ∙ there)) keeps.right)
        (cases_lt q p);
    waits = λ m q past there.
        still_runs one next keeps n m (differs one (step.Memory m) q at there (λ e. omega (arith, e, past)))
        (told.waits m q (omega (arith, past)) there);
  }

  -- a column
  column_keeps : (table : ℕ) → CanFindColumn S s steps p table → (next : Frame) → FindsColumn S s table frame next
      → Keeps (step.Column table) next
  column_keeps table can next finds =
      let at = slice_get_within S.tables table (record { section = section_of s; grid = Vector finds.columns finds.targets finds.terms })
      finds.there in
      subst (Keeps (step.Column table)) (sym finds.leaves) (record {
        is_frame = record {
          now = told.is_frame.now;
          past = told.is_frame.past;
          truths = told.is_frame.truths;
          columns = length-set frame.columns table finds.column ∙ told.is_frame.columns;
          runs = told.is_frame.runs;
          now_in_range = told.is_frame.now_in_range;
          past_in_range = told.is_frame.past_in_range;
        };
        past = refl;
        now = λ x is. is;
        columns = λ other elsewhere. get_or-set_other frame.columns table other finds.column 0 (λ e. elsewhere (ap (λ t. step.Column t) e));
        truths = λ m other. refl;
        runs = λ m other. refl;
        right = record {
          columns = finds.columns;
          targets = finds.targets;
          terms = finds.terms;
          there = finds.there;
          condition = finds.condition;
          at = ap (slice_get finds.columns) (get_or-set_same frame.columns table finds.column 0 (omega (arith, at, told.is_frame.columns)))
              ∙ finds.at;
          holds = sym ((truth_known L) S s steps a n p frame told p (omega arith) finds.columns
              (subst (λ cs. AreKnown S s steps p (flat_map cond_reads cs))
              (same_columns S s table can.columns finds.columns can.targets finds.targets can.terms finds.terms can.there finds.there)
              can.known)
              finds.column finds.condition finds.at)
              ∙ finds.holds;
        };
      })

  -- a variable that gets its value of the reading
  module _ (x : ℕ) (v : Var) (there : slice_get S.vars x ≡ Some v) (z : ℤ) (is : z ≡ a n x) where
    set_here : slice_index_or (slice_set frame.now x z) x (pos 0) ≡ a n x
    set_here = let at = slice_get_within S.vars x v there in get_or-set_same frame.now x z (pos 0) (omega (arith, at, told.is_frame.now))
        ∙ is

    abbrev with_value : Frame
    with_value = record {
      now = slice_set frame.now x z;
      past = frame.past;
      truths = frame.truths;
      columns = frame.columns;
      runs =
          frame.runs;
    }

    value_keeps : (one : Step) → IsRight S s a n one with_value → Keeps one with_value
    value_keeps one right = record {
      is_frame = record {
        now = length-set frame.now x z ∙ told.is_frame.now;
        past = told.is_frame.past;
        truths = told.is_frame.truths;
        columns = told.is_frame.columns;
        runs = told.is_frame.runs;
        now_in_range = λ y u at. ⊎_elim
            (λ same. subst (λ i. IsWithin u.range (slice_index_or (slice_set frame.now x z) i (pos 0))) (sym same)
            (subst (λ k. IsWithin u.range k) (sym set_here) (scan.in_range n x u (omega arith) (ap (slice_get S.vars) (sym same) ∙ at))))
            (λ other. subst (λ k. IsWithin u.range k) (sym (get_or-set_other frame.now x y z (pos 0) other))
            (told.is_frame.now_in_range y u at))
            (cases_eq y x);
        past_in_range = told.is_frame.past_in_range;
      };
      past = refl;
      now = λ y before. ⊎_elim
          (λ same. subst (λ i. slice_index_or (slice_set frame.now x z) i (pos 0) ≡ a n i) (sym same) set_here)
          (λ other. get_or-set_other frame.now x y z (pos 0) other ∙ before)
          (cases_eq y x);
      columns = λ table other. refl;
      truths = λ m other. refl;
      runs = λ m other. refl;
      right = right;
    }

  cell_keeps : (x table : ℕ) → CanFindCell S s steps p x table → (next : Frame) → FindsCell S s x frame next
      → Keeps (step.Cell x table) next
  cell_keeps x table can next finds =
      let v = of_kinds S.vars (defined_kinds (section_of s)) x can.defined in
      let is = (is_value L) S proper s a n scan.in_range scan.follows V x v.0 (v.1, v.2)
      ((cells_known L) S s steps a n p frame told x table can.there.table can.there.there can.there.is_for_it can.known) finds.z
      finds.is in
      subst (Keeps (step.Cell x table)) (sym finds.leaves) (value_keeps x v.0 v.1 finds.z is (step.Cell x table)
      (set_here x v.0 v.1 finds.z is))

  -- an entry in the column that was found is that of the cell that holds
  entry_is : (x table row : ℕ) → CanFindEntry S s steps p x table row → (next : Frame) → (finds : FindsEntry S s x table row frame next)
      → value V finds.term ≡ a n x
  entry_is x table row can next finds =
      let v = of_kinds S.vars (defined_kinds (section_of s)) x can.defined in
      let before = can.found in
      let found = told.found before.0 (step.Column table) before.1 before.2 in
      let first : CanFindColumn S s steps before.0 table = plan.follows before.0 (step.Column table) before.2 in
      let at = subst (λ cs. slice_get cs (slice_index_or frame.columns table 0) ≡ Some found.condition)
      (same_columns S s table found.columns finds.columns found.targets finds.targets found.terms finds.terms found.there finds.there)
      found.at in
      let known = subst (λ cs. AreKnown S s steps before.0 (flat_map cond_reads cs))
      (same_columns S s table first.columns finds.columns first.targets finds.targets first.terms finds.terms first.there finds.there)
      first.known in
      let target = subst (λ ts. slice_get ts row ≡ Some x)
      (same_targets S s table can.columns finds.columns can.targets finds.targets can.terms finds.terms can.there finds.there) can.target in
      let holds = (truth_known L) S s steps a n p frame told before.0 (omega (arith, before.1)) finds.columns known
      (slice_index_or frame.columns table 0) found.condition at ∙ found.holds in
      (is_value L) S proper s a n scan.in_range scan.follows V x v.0 (v.1, v.2) ((cells_known L) S s steps a n p frame told x table
      (record { section = section_of s; grid = Vector can.columns can.targets can.terms }) can.there
      (is_for_target S s table can.columns can.targets can.terms can.there row x can.target) can.known) (value V finds.term)
      ((found_defined L) S (section_of s) x table (record { section = section_of s; grid = Vector finds.columns finds.targets finds.terms })
      finds.there
      (is_for_target S s table finds.columns finds.targets finds.terms finds.there row x target) V (value V finds.term)
      (vector_gives V x finds.columns finds.targets finds.terms row x (value V finds.term) target (eq-eqb x x refl)
      (slice_index_or frame.columns table 0, found.condition, finds.term, at, finds.at, holds, refl)))

  entry_keeps : (x table row : ℕ) → CanFindEntry S s steps p x table row → (next : Frame) → FindsEntry S s x table row frame next
      → Keeps (step.Entry x table row) next
  entry_keeps x table row can next finds =
      let v = of_kinds S.vars (defined_kinds (section_of s)) x can.defined in
      let is = entry_is x table row can next finds in
      subst (Keeps (step.Entry x table row)) (sym finds.leaves)
      (value_keeps x v.0 v.1 (value V finds.term) is (step.Entry x table row) (set_here x v.0 v.1 (value V finds.term) is))

  -- a memory goes on from what it was told
  module _ (m : ℕ) (can : CanAdvanceMemory S s steps p m) (at : slice_get steps p ≡ Some (step.Memory m)) (next : Frame)
      (goes : AdvancesMemory S m frame next) where
    goes_right : IsRunOf S.period goes.memory goes.next × WasTold S a (suc n) goes.memory goes.next × (goes.says ≡ memory_at S a m n)
    goes_right =
        let ran = told.waits m p (omega arith) at goes.memory goes.there in
        let is = same_Some ran.0 goes.run (sym ran.1 ∙ goes.ran) in
        let went = (advanced L) S a n m V goes.memory goes.run goes.next goes.says goes.there
        ((all_here L) S s steps a n p frame told (memory_reads (Some goes.memory))
        (subst (λ o. AreKnown S s steps p (memory_reads o)) goes.there can.known))
        (subst (IsRunOf S.period goes.memory) is ran.2)
        (subst (λ from. WasToldSince S a from n goes.memory goes.run) ((begun_stays L) S a n) (subst (WasTold S a n goes.memory) is ran.3))
        goes.advances in (
          went.0,
          subst (λ k. WasToldSince S a (begun S a k) (suc n) goes.memory goes.next) (sym (L.scan_before n)) went.1,
          went.2,
        )

    next_run : slice_get next.runs.items m ≡ Some goes.next
    next_run = ap (λ xs. slice_get xs m) goes.runs ∙ set-here frame.runs.items m goes.next
        (slice_get_within frame.runs.items m goes.run goes.ran)

    other_run : (k : ℕ) → (k ≡ m → ⊥) → slice_get next.runs.items k ≡ slice_get frame.runs.items k
    other_run k other = ap (λ xs. slice_get xs k) goes.runs ∙ set-there frame.runs.items m goes.next k other

    memory_same : (k : ℕ) (memory : Memory) → k ≡ m → slice_get S.memories k ≡ Some memory → goes.memory ≡ memory
    memory_same k memory same there = same_Some goes.memory memory (sym goes.there ∙ ap (slice_get S.memories) (sym same) ∙ there)

    memory_keeps : Keeps (step.Memory m) next
    memory_keeps =
        let inside = slice_get_within S.memories m goes.memory goes.there in
        record {
          is_frame = record {
            now = ap length goes.now ∙ told.is_frame.now;
            past = ap length goes.past ∙ told.is_frame.past;
            truths = ap length goes.truths ∙ length-set frame.truths m goes.says ∙ told.is_frame.truths;
            columns = ap length goes.columns ∙ told.is_frame.columns;
            runs = λ k memory there. ⊎_elim
                (λ same. (
                  goes.next,
                  ap (slice_get next.runs.items) same ∙ next_run,
                  subst (λ y. IsRunOf S.period y goes.next) (memory_same k memory same there) goes_right.0,
                ))
                (λ other. let ran = told.is_frame.runs k memory there in (ran.0, other_run k other ∙ ran.1, ran.2))
                (cases_eq k m);
            now_in_range = λ x v there. subst (λ xs. IsWithin v.range (slice_index_or xs x (pos 0))) (sym goes.now)
                (told.is_frame.now_in_range x v there);
            past_in_range = λ x v there. subst (λ xs. IsWithin v.range (slice_index_or xs x (pos 0))) (sym goes.past)
                (told.is_frame.past_in_range x v there);
          };
          past = goes.past;
          now = λ x is. ap (λ xs. slice_index_or xs x (pos 0)) goes.now ∙ is;
          columns = λ table other. ap (λ xs. slice_index_or xs table 0) goes.columns;
          truths = λ k other. ap (λ xs. slice_index_or xs k false) goes.truths
              ∙ get_or-set_other frame.truths m k goes.says false (λ e. other (ap (λ i. step.Memory i) e));
          runs = λ k other. other_run k (λ e. other (ap (λ i. step.Memory i) e));
          right = (
            ap (λ xs. slice_index_or xs m false) goes.truths
                ∙ get_or-set_same frame.truths m goes.says false (omega (arith, inside, told.is_frame.truths)) ∙ goes_right.2,
            λ memory there. let is = memory_same m memory refl there in (
              goes.next,
              next_run,
              subst (λ y. IsRunOf S.period y goes.next) is goes_right.0,
              subst (λ y. WasTold S a (suc n) y goes.next) is goes_right.1,
            ),
          );
        }

  step_keeps : (one : Step) → slice_get steps p ≡ Some one → CanFollow S s steps p one → (next : Frame) → Leaves S s one frame next
      → Keeps one next
  step_keeps (step.Column table) at can next leaves = column_keeps table can next leaves
  step_keeps (step.Cell x table) at can next leaves = cell_keeps x table can next leaves
  step_keeps (step.Entry x table row) at can next leaves = entry_keeps x table row can next leaves
  step_keeps (step.Memory m) at can next leaves = memory_keeps m can at next leaves

  pub goes_on : (one : Step) → slice_get steps p ≡ Some one → (next : Frame) → Leaves S s one frame next → IsTold S s steps a n (suc p) next
  goes_on one at next leaves = next_told one next at (step_keeps one at (plan.follows p one at) next leaves)
