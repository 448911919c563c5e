-- When a report fits its set: its lists are lists of the set's monitored values, and its numbers those of the set's obligations.
use Rattle.std.specs.Prelude.{ℕ, ◌*◌, ◌<◌, ◌≤◌, length}
use Rattle.ft_core.specs.declared.tables.Tables.{Tables}
use Rattle.ft_core.specs.meaning.Kinds.{monitored}
use Rattle.ft_mean.specs.meaning.Reading.{IsListOf}
use Rattle.ft_oblige.specs.meaning.Obligations.{obligation_count}
use Rattle.ft_report.specs.declared.report.Report.{Report}
use Rattle.ft_report.specs.declared.report.Report.TheVariants as report
use Rattle.ft_report.specs.declared.short.Subject.{Subject}
use Rattle.ft_report.specs.declared.short.Subject.TheVariants.{Obligation, NatList}

-- the number of an obligation
abbrev pub IsNumber : Tables → ℕ → Type 0
IsNumber S n = (0 < n) × (n ≤ obligation_count S)

-- the number of an obligation of a fact
abbrev pub IsNumberOfFact : Tables → ℕ → Type 0
IsNumberOfFact S n = (3 * length S.tables < n) × (n ≤ obligation_count S)

abbrev pub IsSubjectOf : Tables → Subject → Type 0
IsSubjectOf S (Obligation n) = IsNumber S n
IsSubjectOf S (NatList k) = Unit {0}

abbrev pub IsFitting : Report → Type 0
IsFitting (report.Verified S list) = IsListOf S monitored list
IsFitting (report.Demo n S list) = IsListOf S monitored list
IsFitting (report.Refuted S list scan) = IsListOf S monitored list
IsFitting (report.Fails S n req out state short) = IsNumberOfFact S n
IsFitting (report.Spent S subject tree short) = IsSubjectOf S subject
IsFitting _ = Unit {0}
