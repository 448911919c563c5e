-- What comes of `replay` is an outcome, and what an outcome of it with status 0 is.
use Rattle.std.proofs.Common.{◌≡◌, ◌∙◌, sym, refl, subst, ℕ}
use Rattle.std.proofs.Common.{List, [], ◌∷◌}
use Rattle.std.proofs.Common.{Bool, true, false, true≢false, Option, Some, arith}
use Rattle.std.specs.Str.{bytes_eq}
use Rattle.std.proofs.lemmas.Slice.Eq.{bytes_eq-Decides}
use Rattle.std.specs.List.{Contains}
use Rattle.ft_core.specs.declared.tables.Tables.{Tables}
use Rattle.ft_mean.specs.meaning.Proper.{AllProper}
use Rattle.ft_mean.specs.meaning.Reading.{Scans}
use Rattle.ft_port.specs.Fetching.{IsFile}
use Rattle.ft_port.specs.Reads.{Read}
use Rattle.ft_port.specs.Shelf.{OthersStay}
use Rattle.ft_blocks.specs.meaning.Faults.{HasNoBlockFault}
use Rattle.ft_admit.specs.meaning.SetFaults.{IsSetOfText}
use Rattle.ft_trace.specs.declared.fault.TraceFault.{TraceFault}
use Rattle.ft_trace.specs.declared.fault.TraceFault.TheVariants as fault
use Rattle.ft_trace.specs.meaning.Spelling.{IsFirstFault, SpellsHistory}
use Rattle.ft_stream.specs.declared.streaming.Streamed.{Streamed}
use Rattle.ft_stream.specs.declared.streaming.Streamed.TheVariants as streamed
use Rattle.ft_stream.specs.meaning.Mark.{after_mark}
use Rattle.ft_stream.specs.meaning.Streamed.{IsStreamed}
use Rattle.ft_report.specs.declared.report.Report.{Report}
use Rattle.ft_report.specs.declared.report.Which.TheVariants.{Set, Trace}
use Rattle.ft_cli.specs.meaning.Judgement.{IsJudgement}
use Rattle.ft_cli.specs.meaning.Replay.{IsEarly, IsRun, IsTraceRefused}
use Rattle.ft_cli.specs.Top.{replay, limit_of, use_of, Use, IsRead, NoOthers, IsOutcome, content, stopped, ran}
use Rattle.ft_cli.specs.stages.Command.{IsTraceOutcome, IsUnfetched, report_on_streamed, report_on_trace}
use Rattle.ft_cli.specs.stages.Command as stages
use Rattle.ft_cli.proofs.TopLemmas.{first-of, second-of, unfetched-outcome}

-- what the two sides did is told by its report
pub streamed-ran : (S : Tables) (bytes : List ℕ) (found : Streamed) → IsStreamed S bytes found → IsRun S bytes (report_on_streamed found)
streamed-ran S bytes (streamed.Agree scans) is = is
streamed-ran S bytes (streamed.Differ scan) is = is
streamed-ran S bytes (streamed.Forbidden scan) is = is

-- a fault that is none of memory is told where no list is spelled
refused-by : (S : Tables) (bytes : List ℕ) (found : TraceFault) → (found ≡ fault.NoMemory → ⊥) → IsFirstFault S bytes found
    → ((list : Scans) → SpellsHistory S bytes list → found ≡ fault.NoMemory) → IsTraceRefused S bytes found
refused-by S bytes found some cause memory = record { cause = cause; some = some; none = λ list spelled. some (memory list spelled) }

pub refused-ran : (S : Tables) (bytes : List ℕ) (found : TraceFault) → IsFirstFault S bytes found
    → ((list : Scans) → SpellsHistory S bytes list → found ≡ fault.NoMemory) → IsRun S bytes (report_on_trace found)
refused-ran S bytes fault.Head cause memory = refused-by S bytes fault.Head (λ e. cc) cause memory
refused-ran S bytes (fault.Width scan) cause memory = refused-by S bytes (fault.Width scan) (λ e. cc) cause memory
refused-ran S bytes (fault.Value scan column) cause memory = refused-by S bytes (fault.Value scan column) (λ e. cc) cause memory
refused-ran S bytes (fault.OutOfRange scan column) cause memory = refused-by S bytes (fault.OutOfRange scan column) (λ e. cc) cause memory
refused-ran S bytes fault.ManyScans cause memory = refused-by S bytes fault.ManyScans (λ e. cc) cause memory
refused-ran S bytes fault.Empty cause memory = refused-by S bytes fault.Empty (λ e. cc) cause memory
refused-ran S bytes fault.NoMemory cause memory = tt

-- a file within the limit of a set is within that of a trace
as-trace : (u : Use) (bytes : List ℕ) → IsRead u (limit_of Set) bytes → IsRead u (limit_of Trace) bytes
as-trace u bytes read = let short = read.short in record {
  given = read.given;
  ended = read.ended;
  short = omega (arith, short);
  whole = read.whole;
}

module _ (file trace : List ℕ) where
  -- the file of the set wasn't fetched
  pub set-unfetched : (uses : List ℕ → Use) (r : Report) → IsUnfetched (uses file) Set r → IsOutcome (Some (replay file trace)) uses r
  set-unfetched uses r found = unfetched-outcome (replay file trace) Set file (first-of file (trace ∷ [])) refl uses r found

  -- the set stops it
  pub set-stopped : (uses : List ℕ → Use) (bytes : List ℕ) (r : Report) → IsRead (uses file) (limit_of Set) bytes → IsEarly r
      → IsJudgement bytes r → IsOutcome (Some (replay file trace)) uses r
  set-stopped uses bytes r read early means = content (replay file trace) refl (stopped bytes read early means)

  -- the set in its file is proper, and something came of the trace's file
  pub trace-outcome : (uses : List ℕ → Use) (S : Tables) (r : Report) (bytes : List ℕ) → IsRead (uses file) (limit_of Set) bytes
      → IsSetOfText bytes S → HasNoBlockFault S.vars S.blocks → AllProper S → IsTraceOutcome (uses trace) S r
      → IsOutcome (Some (replay file trace)) uses r
  trace-outcome uses S r bytes read spelled blocks proper (stages.unfetched why) =
      unfetched-outcome (replay file trace) Trace trace (second-of file trace) refl uses r why
  trace-outcome uses S r bytes read spelled blocks proper (stages.ran text given run) =
      content (replay file trace) refl
      (ran S (record { bytes = bytes; file = read; spelled = spelled; blocks = blocks; proper = proper }) text given run)

  -- both files are one
  pub one-file : (uses : List ℕ → Use) (S : Tables) (r : Report) (bytes : List ℕ) → trace ≡ file → IsRead (uses file) (limit_of Set) bytes
      → IsSetOfText bytes S → HasNoBlockFault S.vars S.blocks → AllProper S → IsRun S (after_mark bytes) r
      → IsOutcome (Some (replay file trace)) uses r
  one-file uses S r bytes same read spelled blocks proper run =
      trace-outcome uses S r bytes read spelled blocks proper
      (stages.ran bytes (subst (λ f. IsRead (uses f) (limit_of Trace) bytes) (sym same) (as-trace (uses file) bytes read)) run)

  -- where the set's file alone was read, no other was
  pub set-alone : (reach_before reach_now faults_before faults_now : List ℕ → ℕ) (reads_before reads_now : List ℕ → List Read)
      → OthersStay file reach_before reach_now faults_before faults_now reads_before reads_now
      → NoOthers (Some (replay file trace)) reach_before reach_now faults_before faults_now reads_before reads_now
  set-alone reach_before reach_now faults_before faults_now reads_before reads_now stay = record {
    reach = λ other not. stay.reach other (λ same. not (named other same));
    faults = λ other not. stay.faults other (λ same. not (named other same));
    reads = λ other not. stay.reads other (λ same. not (named other same));
  }
    where
      named : (other : List ℕ) → other ≡ file → Contains (file ∷ trace ∷ []) other
      named other same = (0, omega arith, sym same)

  -- the two files are two, and were read one after the other
  module _ (two : trace ≡ file → ⊥) (told told_between : List ℕ → Option (List ℕ))
      (reach reach_between reach_now faults faults_between faults_now : List ℕ → ℕ)
      (reads reads_between reads_now : List ℕ → List Read) (same_told : told_between ≡ told)
      (first : OthersStay file reach reach_between faults faults_between reads reads_between)
      (second : OthersStay trace reach_between reach_now faults_between faults_now reads_between reads_now) where
    pub two-alone : NoOthers (Some (replay file trace)) reach reach_now faults faults_now reads reads_now
    two-alone = record {
      reach = λ other not. second.reach other (not-trace other not) ∙ first.reach other (not-file other not);
      faults = λ other not. second.faults other (not-trace other not) ∙ first.faults other (not-file other not);
      reads = λ other not. second.reads other (not-trace other not) ∙ first.reads other (not-file other not);
    }
      where
        not-file : (other : List ℕ) → (Contains (file ∷ trace ∷ []) other → ⊥) → other ≡ file → ⊥
        not-file other not same = not (0, omega arith, sym same)

        not-trace : (other : List ℕ) → (Contains (file ∷ trace ∷ []) other → ⊥) → other ≡ trace → ⊥
        not-trace other not same = not (1, omega arith, sym same)

    -- the set's file stays as it was read
    kept : (bytes : List ℕ) → IsFile (told file) (reads_between file) (limit_of Set) bytes
        → IsFile (told file) (reads_now file) (limit_of Set) bytes
    kept bytes read =
        subst (λ rs. IsFile (told file) rs (limit_of Set) bytes) (sym (second.reads file (λ same. two (sym same)))) read

    pub two-files : (S : Tables) (r : Report) (bytes : List ℕ) → IsFile (told file) (reads_between file) (limit_of Set) bytes
        → IsSetOfText bytes S → HasNoBlockFault S.vars S.blocks → AllProper S
        → IsTraceOutcome (use_of told_between reads_now faults_between faults_now reach_now trace) S r
        → IsOutcome (Some (replay file trace)) (use_of told reads_now faults faults_now reach_now) r
    two-files S r bytes read spelled blocks proper found =
        trace-outcome (use_of told reads_now faults faults_now reach_now) S r bytes (kept bytes read) spelled blocks proper
        (subst (λ (n : ℕ). IsTraceOutcome (record {
          content = told trace;
          reads = reads_now trace;
          faults_before = n;
          faults_now = faults_now trace;
          reach = reach_now trace;
        }) S r) (first.faults trace two)
        (subst (λ (t : List ℕ → Option (List ℕ)). IsTraceOutcome (use_of t reads_now faults_between faults_now reach_now trace) S r)
        same_told found))

-- texts that compare as the same are
pub texts-same : (a b : List ℕ) (r : Bool) → r ≡ bytes_eq a b → r ≡ true → a ≡ b
texts-same a b r is same = (bytes_eq-Decides a b).0 (sym is ∙ same)

-- and others are two
pub texts-two : (a b : List ℕ) (r : Bool) → r ≡ bytes_eq a b → r ≡ false → a ≡ b → ⊥
texts-two a b r is other same = absurd (true≢false (sym ((bytes_eq-Decides a b).1 same) ∙ sym is ∙ other))
