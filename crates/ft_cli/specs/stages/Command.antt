-- The command that a value of the enum stands for, and the reports on a file that wasn't fetched, on one that was, and on a text that
-- wasn't read.
use Rattle.std.specs.Prelude.{◌≡◌, ◌≤◌, ℕ, List}
use Rattle.ft_core.specs.declared.tables.Tables.{Tables}
use Rattle.ft_port.specs.Fetching.{HasReadFault, IsTooLong}
use Rattle.ft_port.specs.declared.fetching.FetchError.{FetchError}
use Rattle.ft_port.specs.declared.fetching.FetchError.TheVariants as fetching
use Rattle.ft_parse.specs.declared.fault.ParseFault.{ParseFault}
use Rattle.ft_admit.specs.declared.set_fault.SetFault.{SetFault}
use Rattle.ft_admit.specs.declared.set_fault.SetFault.TheVariants as fault
use Rattle.ft_admit.specs.meaning.SetFaults.{of_parse}
use Rattle.ft_trace.specs.declared.fault.TraceFault.{TraceFault}
use Rattle.ft_trace.specs.declared.fault.TraceFault.TheVariants as trace_fault
use Rattle.ft_stream.specs.declared.streaming.Streamed.{Streamed}
use Rattle.ft_stream.specs.declared.streaming.Streamed.TheVariants as streamed
use Rattle.ft_stream.specs.meaning.Mark.{after_mark}
use Rattle.ft_cli.specs.Top as top
use Rattle.ft_cli.specs.meaning.Replay.{IsRun}
use Rattle.ft_cli.specs.declared.command.Command.{Command}
use Rattle.ft_cli.specs.declared.command.Command.TheVariants.{Verify, Print, Replay, Gen, Demo}
use Rattle.ft_report.specs.declared.report.Which.{Which}
use Rattle.ft_report.specs.declared.report.Which.TheVariants.{Trace}
use Rattle.ft_report.specs.declared.report.Report.{Report}
use Rattle.ft_report.specs.declared.report.Report.TheVariants as report

abbrev pub asked_by : Command → top.Command
asked_by (Verify file) = top.verify file.now
asked_by (Print file) = top.print file.now
asked_by (Replay file trace) = top.replay file.now trace.now
asked_by (Gen number) = top.gen number
asked_by (Demo number) = top.demo number

-- the number of a command on a number is that of a generated set
abbrev pub HasNumber : top.Command → Type 0
HasNumber (top.gen n) = (1 ≤ n) × (n ≤ 60)
HasNumber (top.demo n) = (1 ≤ n) × (n ≤ 60)
HasNumber command = Unit {0}

abbrev pub report_on_error : FetchError → Which → Report
report_on_error fetching.Failed which = report.ReadFault
report_on_error fetching.TooLong which = report.TooLong which
report_on_error fetching.NoMemory which = report.NoMemory

-- why a file of this kind wasn't fetched
pub data IsUnfetched (u : top.Use) (which : Which) (r : Report) : Type 0 where
  failed : HasReadFault u.reads u.faults_before u.faults_now → r ≡ report.ReadFault → IsUnfetched u which r
  too_long : IsTooLong u.content u.reads (top.limit_of which) u.reach → r ≡ report.TooLong which → IsUnfetched u which r
  no_memory : r ≡ report.NoMemory → IsUnfetched u which r

-- why `replay` reports what it does of its trace, on this set: the file wasn't fetched, or both sides were run over what it holds
pub data IsTraceOutcome (u : top.Use) (S : Tables) (r : Report) : Type 0 where
  unfetched : IsUnfetched u Trace r → IsTraceOutcome u S r
  ran : (text : List ℕ) → top.IsRead u (top.limit_of Trace) text → IsRun S (after_mark text) r → IsTraceOutcome u S r

-- a generated set that is verified is told with its number
abbrev pub report_on_generated : ℕ → Report → Report
report_on_generated n (report.Verified S list) = report.Demo n S list
report_on_generated n found = found

-- want of memory stands apart from the faults of a text
abbrev pub report_on_fault : SetFault → Report
report_on_fault fault.NoMemory = report.NoMemory
report_on_fault fault = report.Refused fault

abbrev pub report_on_unread : ParseFault → Report
report_on_unread found = report_on_fault (of_parse found)

-- want of memory stands apart from the faults of a trace
abbrev pub report_on_trace : TraceFault → Report
report_on_trace trace_fault.NoMemory = report.NoMemory
report_on_trace found = report.TraceRefused found

abbrev pub report_on_streamed : Streamed → Report
report_on_streamed (streamed.Agree scans) = report.Agree scans
report_on_streamed (streamed.Differ scan) = report.Differ scan
report_on_streamed (streamed.Forbidden scan) = report.NatRefuses scan
