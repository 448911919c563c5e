-- Each outcome has a report that fits its set.
use Rattle.std.proofs.Common.{sym, subst, ℕ, ◌*◌, ◌≤◌, List, length, Option, Some, None, arith}
use Rattle.ft_core.specs.declared.tables.Tables.{Tables}
use Rattle.ft_cert.specs.meaning.Tree as cert
use Rattle.ft_compose.specs.meaning.Decided.{IsOfFact}
use Rattle.ft_report.specs.meaning.Fitting.{IsFitting, IsNumber, IsSubjectOf}
use Rattle.ft_report.specs.declared.report.Report.{Report}
use Rattle.ft_report.specs.declared.report.Report.TheVariants as report
use Rattle.ft_report.specs.declared.short.Short.{Short}
use Rattle.ft_report.specs.declared.short.Subject.{Subject}
use Rattle.ft_report.specs.declared.short.Subject.TheVariants.{Obligation, NatList}
use Rattle.ft_gen.specs.meaning.Generated.{generated}
use Rattle.ft_cli.specs.meaning.Generation.{IsDemo, IsGenerated}
use Rattle.ft_cli.specs.meaning.Judgement.{IsJudgement, IsPrint, IsSpentOn}
use Rattle.ft_cli.specs.meaning.Replay.{IsRun}
use Rattle.ft_cli.specs.Top.{Command, verify, print, replay, gen, demo, Use, Means, IsReplay, stopped, ran}
use Rattle.ft_cli.specs.Top.{IsOutcome, usage, read_fault, too_long, no_memory, content}

-- an obligation of a table or of a fact is one of all
of-table : (S : Tables) (n : ℕ) → 1 ≤ n → n ≤ 3 * length S.tables → IsNumber S n
of-table S n some last = (omega (arith, some), omega (arith, last))

of-fact : (S : Tables) (n : ℕ) → IsOfFact S n → IsNumber S n
of-fact S n is = let above = is.0 in (omega (arith, above), is.1)

-- what a search that was spent looked for
spent-fits : (bytes : List ℕ) (S : Tables) (subject : Subject) (tree : cert.Tree) (short : Option Short)
    → IsSpentOn bytes S subject tree short → IsSubjectOf S subject
spent-fits bytes S (Obligation n) tree None (spelled, (found, before)) =
    let (same, some, last, spent) = found in of-table S n some last
spent-fits bytes S (Obligation n) tree (Some short) means =
    let (same, is, spent) = means.found.0 in of-fact S n is
spent-fits bytes S (NatList n) tree short means = tt

-- so of all that is judged
judged-fits : (bytes : List ℕ) (r : Report) → IsJudgement bytes r → IsFitting r
judged-fits bytes report.Usage means = tt
judged-fits bytes report.ReadFault means = tt
judged-fits bytes (report.TooLong which) means = tt
judged-fits bytes report.NoMemory means = tt
judged-fits bytes (report.Refused fault) means = tt
judged-fits bytes (report.Printed tree) means = tt
judged-fits bytes (report.Gap S k state) means = tt
judged-fits bytes (report.Overlap S k first second state) means = tt
judged-fits bytes (report.OutOfRange S k cell state) means = tt
judged-fits bytes (report.NatStops n) means = tt
judged-fits bytes (report.Fails S n req out state short) means = let (same, is, failing) = means.found.0 in is
judged-fits bytes (report.Spent S subject tree short) means = spent-fits bytes S subject tree short means
judged-fits bytes (report.Verified S list) means = means.allowed.monitored_list.values
judged-fits bytes (report.Refuted S list scan) means = means.shortest.differs.runs.allowed.monitored_list.values
judged-fits bytes (report.Demo n S list) means = absurd means
judged-fits bytes (report.Agree scans) means = tt
judged-fits bytes (report.Differ scan) means = tt
judged-fits bytes (report.TraceRefused fault) means = tt
judged-fits bytes (report.NatRefuses scan) means = tt

-- a report on a tree tells nothing of a set
printed-fits : (bytes : List ℕ) (r : Report) → IsPrint bytes r → IsFitting r
printed-fits bytes report.Usage means = tt
printed-fits bytes report.ReadFault means = tt
printed-fits bytes (report.TooLong which) means = tt
printed-fits bytes report.NoMemory means = tt
printed-fits bytes (report.Refused fault) means = tt
printed-fits bytes (report.Printed tree) means = tt
printed-fits bytes (report.Gap S k state) means = tt
printed-fits bytes (report.Overlap S k first second state) means = tt
printed-fits bytes (report.OutOfRange S k cell state) means = tt
printed-fits bytes (report.NatStops n) means = tt
printed-fits bytes (report.Fails S n req out state short) means = absurd means
printed-fits bytes (report.Spent S subject tree short) means = absurd means
printed-fits bytes (report.Verified S list) means = absurd means
printed-fits bytes (report.Refuted S list scan) means = absurd means
printed-fits bytes (report.Demo n S list) means = absurd means
printed-fits bytes (report.Agree scans) means = tt
printed-fits bytes (report.Differ scan) means = tt
printed-fits bytes (report.TraceRefused fault) means = tt
printed-fits bytes (report.NatRefuses scan) means = tt

-- nor does one on a trace
run-fits : (S : Tables) (bytes : List ℕ) (r : Report) → IsRun S bytes r → IsFitting r
run-fits S bytes report.Usage means = tt
run-fits S bytes report.ReadFault means = tt
run-fits S bytes (report.TooLong which) means = tt
run-fits S bytes report.NoMemory means = tt
run-fits S bytes (report.Refused fault) means = tt
run-fits S bytes (report.Printed tree) means = tt
run-fits S bytes (report.Gap T k state) means = tt
run-fits S bytes (report.Overlap T k first second state) means = tt
run-fits S bytes (report.OutOfRange T k cell state) means = tt
run-fits S bytes (report.NatStops n) means = tt
run-fits S bytes (report.Fails T n req out state short) means = absurd means
run-fits S bytes (report.Spent T subject tree short) means = absurd means
run-fits S bytes (report.Verified T list) means = absurd means
run-fits S bytes (report.Refuted T list scan) means = absurd means
run-fits S bytes (report.Demo n T list) means = absurd means
run-fits S bytes (report.Agree scans) means = tt
run-fits S bytes (report.Differ scan) means = tt
run-fits S bytes (report.TraceRefused fault) means = tt
run-fits S bytes (report.NatRefuses scan) means = tt

replay-fits : (set trace : Use) (r : Report) → IsReplay set trace r → IsFitting r
replay-fits set trace r (stopped bytes read early means) = judged-fits bytes r means
replay-fits set trace r (ran S has text read run) = run-fits S _ r run

-- a generated set that is printed tells nothing of a set
generated-fits : (n : ℕ) (r : Report) → IsGenerated n r → IsFitting r
generated-fits n report.Usage means = tt
generated-fits n report.ReadFault means = tt
generated-fits n (report.TooLong which) means = tt
generated-fits n report.NoMemory means = tt
generated-fits n (report.Refused fault) means = tt
generated-fits n (report.Printed tree) means = tt
generated-fits n (report.Gap S k state) means = tt
generated-fits n (report.Overlap S k first second state) means = tt
generated-fits n (report.OutOfRange S k cell state) means = tt
generated-fits n (report.NatStops k) means = tt
generated-fits n (report.Fails S k req out state short) means = absurd means
generated-fits n (report.Spent S subject tree short) means = absurd means
generated-fits n (report.Verified S list) means = absurd means
generated-fits n (report.Demo k S list) means = absurd means
generated-fits n (report.Refuted S list scan) means = absurd means
generated-fits n (report.Agree scans) means = tt
generated-fits n (report.Differ scan) means = tt
generated-fits n (report.TraceRefused fault) means = tt
generated-fits n (report.NatRefuses scan) means = tt

-- and one that is judged fits as the set of a text does
demo-fits : (n : ℕ) (r : Report) → IsDemo n r → IsFitting r
demo-fits n report.Usage means = tt
demo-fits n report.ReadFault means = tt
demo-fits n (report.TooLong which) means = tt
demo-fits n report.NoMemory means = tt
demo-fits n (report.Refused fault) means = tt
demo-fits n (report.Printed tree) means = tt
demo-fits n (report.Gap S k state) means = tt
demo-fits n (report.Overlap S k first second state) means = tt
demo-fits n (report.OutOfRange S k cell state) means = tt
demo-fits n (report.NatStops k) means = tt
demo-fits n (report.Fails S k req out state short) means =
    judged-fits (generated n) (report.Fails S k req out state short) means
demo-fits n (report.Spent S subject tree short) means = spent-fits (generated n) S subject tree short means
demo-fits n (report.Verified S list) means = absurd means
demo-fits n (report.Demo k S list) (same, means) = means.allowed.monitored_list.values
demo-fits n (report.Refuted S list scan) means = means.shortest.differs.runs.allowed.monitored_list.values
demo-fits n (report.Agree scans) means = tt
demo-fits n (report.Differ scan) means = tt
demo-fits n (report.TraceRefused fault) means = tt
demo-fits n (report.NatRefuses scan) means = tt

means-fits : (uses : List ℕ → Use) (asked : Command) (r : Report) → Means uses asked r → IsFitting r
means-fits uses (verify file) r (bytes, read, means) = judged-fits bytes r means
means-fits uses (print file) r (bytes, read, means) = printed-fits bytes r means
means-fits uses (replay file trace) r means = replay-fits (uses file) (uses trace) r means
means-fits uses (gen n) r means = generated-fits n r means
means-fits uses (demo n) r means = demo-fits n r means

pub outcome-fits : (command : Option Command) (uses : List ℕ → Use) (r : Report) → IsOutcome command uses r → IsFitting r
outcome-fits command uses r outcome = elim outcome [
  | usage none is ↦ subst IsFitting (sym is) tt
  | read_fault file names cause is ↦ subst IsFitting (sym is) tt
  | too_long other same which file kind cause is ↦ subst IsFitting (sym is) tt
  | no_memory is ↦ subst IsFitting (sym is) tt
  | content asked same means ↦ means-fits uses asked r means
]
