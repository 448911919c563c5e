-- What an outcome of `replay` with status 0 is, and that every set and trace that can be replayed has its answer.
use Rattle.std.proofs.Common.{◌≡◌, inl, inr, ◌∙◌, ap, sym, subst, ℕ, zero}
use Rattle.std.proofs.Common.{suc, ◌+◌, ◌*◌, ◌<◌, List, [], ◌∷◌, ◌++◌, length, take, drop}
use Rattle.std.proofs.Common.{Option, None, Some, slice_index_or, arith, ℤ}
use Rattle.std.specs.List.{Contains}
use Rattle.std.proofs.lemmas.List.{get_or_append_left, length-append, length-take-le, take-append-drop}
use Rattle.std.proofs.lemmas.Option.{same_Some}
use Rattle.ft_base.specs.Interval.{IsWithin}
use Rattle.ft_core.specs.declared.tables.Tables.{Tables}
use Rattle.ft_core.specs.meaning.Kinds.{monitored}
use Rattle.ft_mean.specs.laws.Laws.{AllowedByScan}
use Rattle.ft_mean.specs.laws.RowLaws.{ReadInFront}
use Rattle.ft_mean.specs.meaning.Allowed.{Allowed, nat_at}
use Rattle.ft_mean.specs.meaning.Proper.{AllProper}
use Rattle.ft_mean.specs.meaning.Reading.{Scans, reading_of}
use Rattle.ft_mean.specs.meaning.Refines.{FirstDiffers}
use Rattle.ft_claims.specs.laws.CoverLaws.{ProperShowsNone}
use Rattle.ft_claims.specs.meaning.Coverage.{gap, overlap, range}
use Rattle.ft_cover.specs.meaning.Covered.{AreFirstTwo, IsFirstBeyond, IsSpentAt, NoCell}
use Rattle.ft_port.specs.Causes.{Rose}
use Rattle.ft_port.specs.Fetching.{IsTooLong}
use Rattle.ft_build.specs.declared.parts.Parts.{Parts}
use Rattle.ft_blocks.specs.meaning.Faults.{HasNoBlockFault}
use Rattle.ft_admit.specs.laws.OneSet.{OneSet}
use Rattle.ft_admit.specs.meaning.SetFaults.{IsSetOfText}
use Rattle.ft_trace.specs.meaning.Spelling.{SpellsHistory}
use Rattle.ft_stream.specs.meaning.Mark.{after_mark}
use Rattle.ft_report.specs.meaning.Report.{status_of, text_of}
use Rattle.ft_report.specs.declared.report.Report.{Report}
use Rattle.ft_report.specs.declared.report.Report.TheVariants as report
use Rattle.ft_report.specs.declared.report.Which.{Which}
use Rattle.ft_report.specs.declared.short.Subject.TheVariants.{NatList, Obligation}
use Rattle.ft_report.specs.declared.report.Which.TheVariants.{Set, Trace}
use Rattle.ft_cli.specs.declared.ended.Ended.{Ended}
use Rattle.ft_cli.specs.meaning.Judgement.{IsJudgement}
use Rattle.ft_cli.specs.meaning.Replay.{IsEarly, IsRun}
use Rattle.ft_cli.specs.Top.{Command, replay, file_for, limit_of, Use, IsRead, IsOutcome, IsReplay, stopped, ran, HasProperSet, HasStatus}
use Rattle.ft_cli.specs.Top.{HasAgreement, CanBeReplayed, IsReplayAt, IsReplayOn, ReplaysAll, ReplaysRefuted}
use Rattle.ft_cli.specs.stages.Laws.{Laws}
use Rattle.ft_cli.proofs.DifferenceLemmas.{one-first}
use Rattle.ft_cli.proofs.MarkLemmas.{text-spells}
use Rattle.ft_cli.proofs.TopLemmas.{content-below, content-or-none, not-long, own, read-is}
use Rattle.ft_cli.proofs.TopLemmas.{gap-shown, overlap-shown, range-shown, spent-at, shows-no-fault}

-- no report that comes early has status 0
early-status : (r : Report) → IsEarly r → status_of r ≡ 0 → ⊥
early-status report.Usage early zero_is = early
early-status report.ReadFault early zero_is = early
early-status (report.TooLong which) early zero_is = early
early-status report.NoMemory early zero_is = omega (arith, zero_is)
early-status (report.Refused fault) early zero_is = omega (arith, zero_is)
early-status (report.Printed tree) early zero_is = early
early-status (report.NatStops n) early zero_is = early
early-status (report.Fails S n req out state short) early zero_is = early
early-status (report.Gap S k state) early zero_is = omega (arith, zero_is)
early-status (report.Overlap S k first second state) early zero_is = omega (arith, zero_is)
early-status (report.OutOfRange S k cell state) early zero_is = omega (arith, zero_is)
early-status (report.Spent S subject tree short) early zero_is = omega (arith, zero_is)
early-status (report.Verified S list) early zero_is = early
early-status (report.Refuted S list scan) early zero_is = early
early-status (report.Demo n S list) early zero_is = early
early-status (report.Agree scans) early zero_is = early
early-status (report.Differ scan) early zero_is = early
early-status (report.TraceRefused fault) early zero_is = early
early-status (report.NatRefuses scan) early zero_is = early

-- of a run only that the sides agree has status 0
agreed : (set_use trace_use : Use) (S : Tables) (text : List ℕ) → HasProperSet set_use S → IsRead trace_use (limit_of Trace) text
    → (r : Report) → IsRun S (after_mark text) r → status_of r ≡ 0 → HasAgreement set_use trace_use r
agreed set_use trace_use S text proper read (report.Agree scans) run zero_is = record {
  set = S;
  list = run.h;
  text = text;
  agree = ap report.Agree run.count;
  proper = proper;
  file = read;
  spelled = run.spelled;
  allowed = run.allowed;
  nowhere = run.nowhere;
}
agreed set_use trace_use S text proper read (report.Differ scan) run zero_is = absurd (omega (arith, zero_is))
agreed set_use trace_use S text proper read (report.NatRefuses scan) run zero_is = absurd (omega (arith, zero_is))
agreed set_use trace_use S text proper read (report.TraceRefused fault) run zero_is = absurd (omega (arith, zero_is))
agreed set_use trace_use S text proper read report.NoMemory run zero_is = absurd (omega (arith, zero_is))
agreed set_use trace_use S text proper read report.Usage run zero_is = absurd run
agreed set_use trace_use S text proper read report.ReadFault run zero_is = absurd run
agreed set_use trace_use S text proper read (report.TooLong which) run zero_is = absurd run
agreed set_use trace_use S text proper read (report.Refused fault) run zero_is = absurd run
agreed set_use trace_use S text proper read (report.Printed tree) run zero_is = absurd run
agreed set_use trace_use S text proper read (report.NatStops n) run zero_is = absurd run
agreed set_use trace_use S text proper read (report.Fails T n req out state shown) run zero_is = absurd run
agreed set_use trace_use S text proper read (report.Gap T k state) run zero_is = absurd run
agreed set_use trace_use S text proper read (report.Overlap T k first second state) run zero_is = absurd run
agreed set_use trace_use S text proper read (report.OutOfRange T k cell state) run zero_is = absurd run
agreed set_use trace_use S text proper read (report.Spent T subject tree short) run zero_is = absurd run
agreed set_use trace_use S text proper read (report.Verified T list) run zero_is = absurd run
agreed set_use trace_use S text proper read (report.Refuted T list scan) run zero_is = absurd run
agreed set_use trace_use S text proper read (report.Demo n T list) run zero_is = absurd run

replay-agrees : (set_use trace_use : Use) (r : Report) → IsReplay set_use trace_use r → status_of r ≡ 0 → HasAgreement set_use trace_use r
replay-agrees set_use trace_use r means zero_is = elim means [
  | stopped bytes read early judged ↦ absurd (early-status r early zero_is)
  | ran S proper text read run ↦ agreed set_use trace_use S text proper read r run zero_is
]

pub agreement : (sink_before sink_now : ℕ) (ended : Ended) → HasStatus sink_before sink_now ended → (command : Option Command)
    (uses : List ℕ → Use) → IsOutcome command uses ended.report → (file trace : List ℕ) → command ≡ Some (replay file trace)
    → ended.status ≡ 0 → HasAgreement (uses file) (uses trace) ended.report
agreement sink_before sink_now ended status command uses outcome file trace named zero_is =
    let zero_told = own sink_before sink_now ended status command uses outcome 0 zero_is (λ e. omega (arith, e)) in
    replay-agrees (uses file) (uses trace) ended.report
    (content-below command uses ended.report outcome 0 (omega arith) zero_told (replay file trace) named) zero_told

module _ (by_scan : AllowedByScan) (in_front_law : ReadInFront) (S : Tables) where
  -- what comes after changes no clause
  clause-in-front : (h rest : Scans) (t : ℕ) → t < length h
      → nat_at S (reading_of S monitored (h ++ rest)) t ≡ nat_at S (reading_of S monitored h) t
  clause-in-front h rest zero less =
      (by_scan S (h ++ rest)).0
      ∙ ap (λ (row : List ℤ). nat_at S (reading_of S monitored (row ∷ [])) 0) (get_or_append_left h rest [] 0 less)
      ∙ sym (by_scan S h).0
  clause-in-front h rest (suc t) less =
      (by_scan S (h ++ rest)).1 t
      ∙ ap (λ (row : List ℤ). nat_at S (reading_of S monitored (row ∷ slice_index_or (h ++ rest) (suc t) [] ∷ [])) 1)
      (get_or_append_left h rest [] t (omega (arith, less)))
      ∙ ap (λ (row : List ℤ). nat_at S (reading_of S monitored (slice_index_or h t [] ∷ row ∷ [])) 1)
      (get_or_append_left h rest [] (suc t) less)
      ∙ sym ((by_scan S h).1 t)

  -- the first scans of an allowed list are allowed
  pub front-allowed : (h rest : Scans) → 0 < length h → Allowed S (h ++ rest) → Allowed S h
  front-allowed h rest some allowed = record {
    monitored_list = record {
      nonempty = λ e. absurd (let none = ap length e in omega (arith, some, none));
      values = record {
        widths = λ t less.
            ap length (sym (get_or_append_left h rest [] t less)) ∙ allowed.monitored_list.values.widths t (longer t less);
        ranges = λ t x v less is. subst (λ n. IsWithin v.range n) (in_front_law S monitored h rest t x less)
            (allowed.monitored_list.values.ranges t x v (longer t less) is);
      };
    };
    clauses = λ t less. sym (clause-in-front h rest t less) ∙ allowed.clauses t (longer t less);
  }
    where
      longer : (t : ℕ) → t < length h → t < length (h ++ rest)
      longer t less = omega (arith, less, length-append h rest)

  first-allowed : (list : Scans) (scan : ℕ) → scan < length list → Allowed S list → Allowed S (take (scan + 1) list)
  first-allowed list scan less allowed =
      front-allowed (take (scan + 1) list) (drop (scan + 1) list)
      (omega (arith, less, length-take-le (scan + 1) list (omega (arith, less))))
      (subst (Allowed S) (sym (take-append-drop (scan + 1) list)) allowed)

  -- what a run says, it says of the allowed list that the bytes spell
  run-decided : ((bytes : List ℕ) (h k : Scans) → SpellsHistory S bytes h → SpellsHistory S bytes k → h ≡ k) → (bytes : List ℕ)
      (list : Scans) → SpellsHistory S bytes list → Allowed S list → (r : Report) → IsRun S bytes r → IsReplayOn S list r
  run-decided one bytes list spelled allowed (report.Agree scans) run =
      let same = one bytes run.h list run.spelled spelled in
      (run.count ∙ ap length same, λ scan differs. run.nowhere scan (subst (λ h. FirstDiffers S h scan) (sym same) differs))
  run-decided one bytes list spelled allowed (report.Differ scan) run =
      subst (λ h. FirstDiffers S h scan) (one bytes run.h list run.spelled spelled) run.first
  run-decided one bytes list spelled allowed (report.NatRefuses scan) run =
      run.forbidden (first-allowed run.h scan run.in_list (subst (Allowed S) (one bytes list run.h spelled run.spelled) allowed))
  run-decided one bytes list spelled allowed (report.TraceRefused fault) run = run.none list spelled
  run-decided one bytes list spelled allowed report.NoMemory run = tt
  run-decided one bytes list spelled allowed report.Usage run = run
  run-decided one bytes list spelled allowed report.ReadFault run = run
  run-decided one bytes list spelled allowed (report.TooLong which) run = run
  run-decided one bytes list spelled allowed (report.Refused fault) run = run
  run-decided one bytes list spelled allowed (report.Printed tree) run = run
  run-decided one bytes list spelled allowed (report.NatStops n) run = run
  run-decided one bytes list spelled allowed (report.Fails T n req out state shown) run = run
  run-decided one bytes list spelled allowed (report.Gap T k state) run = run
  run-decided one bytes list spelled allowed (report.Overlap T k first second state) run = run
  run-decided one bytes list spelled allowed (report.OutOfRange T k cell state) run = run
  run-decided one bytes list spelled allowed (report.Spent T subject tree short) run = absurd run
  run-decided one bytes list spelled allowed (report.Verified T list2) run = run
  run-decided one bytes list spelled allowed (report.Refuted T list2 scan) run = run
  run-decided one bytes list spelled allowed (report.Demo n T list2) run = run

-- of a set without a fault, with proper tables, only a spent search comes early
early-decided : ProperShowsNone → OneSet → (bytes : List ℕ) (S : Tables) (list : Scans) → IsSetOfText bytes S
    → HasNoBlockFault S.vars S.blocks → AllProper S → (r : Report) → IsEarly r → IsJudgement bytes r → IsReplayOn S list r
early-decided shows one_set bytes S list spelled blocks proper report.Usage early means = means
early-decided shows one_set bytes S list spelled blocks proper report.ReadFault early means = means
early-decided shows one_set bytes S list spelled blocks proper (report.TooLong which) early means = means
early-decided shows one_set bytes S list spelled blocks proper (report.Refused fault) early means =
    means.none spelled.tree spelled.spelled spelled.no_fault
    (subst (λ (parts : Parts). HasNoBlockFault parts.vars parts.blocks) spelled.same blocks)
early-decided shows one_set bytes S list spelled blocks proper (report.Printed tree) early means = means
early-decided shows one_set bytes S list spelled blocks proper report.NoMemory early means = tt
early-decided shows one_set bytes S list spelled blocks proper (report.NatStops n) early means = early
early-decided shows one_set bytes S list spelled blocks proper (report.Fails T n req out state shown) early means = early
early-decided shows one_set bytes S list spelled blocks proper (report.Verified T other) early means = early
early-decided shows one_set bytes S list spelled blocks proper (report.Refuted T other scan) early means = early
early-decided shows one_set bytes S list spelled blocks proper (report.Gap T k state) early means =
    shows-no-fault shows one_set bytes S spelled proper T means.0 (3 * k + 1) k gap NoCell state.values state.labels
    (gap-shown T k state.values state.labels means.1)
early-decided shows one_set bytes S list spelled blocks proper (report.Overlap T k first second state) early means =
    shows-no-fault shows one_set bytes S spelled proper T means.0 (3 * k + 2) k overlap (AreFirstTwo first second) state.values state.labels
    (overlap-shown T k first second state.values state.labels means.1)
early-decided shows one_set bytes S list spelled blocks proper (report.OutOfRange T k cell state) early means =
    shows-no-fault shows one_set bytes S spelled proper T means.0 (3 * k + 3) k range (IsFirstBeyond T cell) state.values state.labels
    (range-shown T k cell state.values state.labels means.1)
early-decided shows one_set bytes S list spelled blocks proper (report.Spent T (NatList n) tree None) early means = early
early-decided shows one_set bytes S list spelled blocks proper (report.Spent T (NatList n) tree (Some found)) early means = early
early-decided shows one_set bytes S list spelled blocks proper (report.Spent T (Obligation n) tree (Some found)) early means = early
early-decided shows one_set bytes S list spelled blocks proper (report.Spent T (Obligation n) tree None) early means =
    let same = one_set bytes T S means.0 spelled in
    (same, subst (λ (U : Tables). IsSpentAt U n tree) same (spent-at T n tree means.1))
early-decided shows one_set bytes S list spelled blocks proper (report.Demo n T other) early means = early
early-decided shows one_set bytes S list spelled blocks proper (report.Agree scans) early means = absurd means
early-decided shows one_set bytes S list spelled blocks proper (report.Differ scan) early means = absurd means
early-decided shows one_set bytes S list spelled blocks proper (report.TraceRefused fault) early means = means
early-decided shows one_set bytes S list spelled blocks proper (report.NatRefuses scan) early means = means

replay-decided : Laws → (set_use trace_use : Use) (S : Tables) (list : Scans)
    → CanBeReplayed set_use trace_use S list → (r : Report) → IsReplay set_use trace_use r → IsReplayOn S list r
replay-decided laws set_use trace_use S list can r means = elim means [
  | stopped bytes read early judged ↦
      early-decided laws.shows_none laws.one_set can.bytes S list can.spelled can.blocks can.proper r early
      (subst (λ text. IsJudgement text r) (sym (read-is set_use (limit_of Set) can.bytes bytes can.file read)) judged)
  | ran T proper text read run ↦
      let same_set : T ≡ S = laws.one_set can.bytes T S (subst (λ bytes. IsSetOfText bytes T)
      (sym (read-is set_use (limit_of Set) can.bytes proper.bytes can.file proper.file)) proper.spelled) can.spelled in
      let same_text = sym (read-is trace_use (limit_of Trace) can.text text can.trace read) in
      run-decided laws.by_scan laws.in_front S (laws.one_history S) (after_mark can.text) list can.given can.allowed r
      (subst (λ bytes. IsRun S (after_mark bytes) r) same_text (subst (λ (U : Tables). IsRun U (after_mark text) r) same_set run))
]

pub replays-all : Laws → (command : Option Command)
    (uses : List ℕ → Use) (r : Report) → IsOutcome command uses r → ReplaysAll command uses r
replays-all laws command uses r outcome file trace S list named can set_still trace_still =
    elim (content-or-none command uses r outcome (replay file trace) named short quiet) [
      | inl means ↦ replay-decided laws (uses file) (uses trace) S list can r means
      | inr none ↦ subst (IsReplayOn S list) (sym none) tt
    ]
  where
    short : (which : Which) (other : List ℕ) → file_for (replay file trace) which ≡ Some other
        → IsTooLong (uses other).content (uses other).reads (limit_of which) (uses other).reach → ⊥
    short Set other is long =
        not-long (uses file) (limit_of Set) can.bytes can.file
        (subst (λ f. IsTooLong (uses f).content (uses f).reads (limit_of Set) (uses f).reach) (sym (same_Some file other is)) long)
    short Trace other is long =
        not-long (uses trace) (limit_of Trace) can.text can.trace
        (subst (λ f. IsTooLong (uses f).content (uses f).reads (limit_of Trace) (uses f).reach) (sym (same_Some trace other is)) long)

    quiet : (other : List ℕ) → Contains (file ∷ trace ∷ []) other → Rose (uses other).faults_before (uses other).faults_now → ⊥
    quiet other (zero, less, is) rose =
        set_still (subst (λ f. Rose (uses f).faults_before (uses f).faults_now) (sym is) rose)
    quiet other (suc zero, less, is) rose =
        trace_still (subst (λ f. Rose (uses f).faults_before (uses f).faults_now) (sym is) rose)
    quiet other (suc (suc k), less, is) rose = omega (arith, less)

-- a list on which the two sides first differ at this scan is told as one that differs there
at-scan : (S : Tables) (list : Scans) (scan : ℕ) → FirstDiffers S list scan → (r : Report) → IsReplayOn S list r → IsReplayAt S scan r
at-scan S list scan differs (report.Agree scans) on = on.1 scan differs
at-scan S list scan differs (report.Differ at) on = one-first S list at scan on differs
at-scan S list scan differs (report.Spent T (Obligation n) tree None) on = on
at-scan S list scan differs (report.Spent T (Obligation n) tree (Some short)) on = on
at-scan S list scan differs (report.Spent T (NatList n) tree None) on = on
at-scan S list scan differs (report.Spent T (NatList n) tree (Some short)) on = on
at-scan S list scan differs report.NoMemory on = tt
at-scan S list scan differs report.Usage on = on
at-scan S list scan differs report.ReadFault on = on
at-scan S list scan differs (report.TooLong which) on = on
at-scan S list scan differs (report.Refused fault) on = on
at-scan S list scan differs (report.Printed tree) on = on
at-scan S list scan differs (report.NatStops n) on = on
at-scan S list scan differs (report.Fails T n req out state short) on = on
at-scan S list scan differs (report.Gap T k state) on = on
at-scan S list scan differs (report.Overlap T k first second state) on = on
at-scan S list scan differs (report.OutOfRange T k cell state) on = on
at-scan S list scan differs (report.Verified T other) on = on
at-scan S list scan differs (report.Refuted T other place) on = on
at-scan S list scan differs (report.Demo n T other) on = on
at-scan S list scan differs (report.TraceRefused fault) on = on
at-scan S list scan differs (report.NatRefuses place) on = on

pub replays-refuted : Laws → (command : Option Command) (uses : List ℕ → Use) (r : Report) → IsOutcome command uses r
    → ReplaysRefuted command uses r
replays-refuted laws command uses r outcome file trace bytes S list scan named can refuted text set_still trace_still =
    at-scan S list scan refuted.shortest.differs r
    (replays-all laws command uses r outcome file trace S list named (record {
      bytes = can.bytes;
      file = can.file;
      spelled = can.spelled;
      blocks = can.blocks;
      proper = refuted.tried.proper;
      text = text_of (report.Refuted S list scan);
      trace = text;
      given = text-spells laws S list scan refuted.shortest;
      allowed = refuted.shortest.differs.runs.allowed;
    }) set_still trace_still)
