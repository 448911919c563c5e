-- The text of a report, line by line, and its status.
use Rattle.std.specs.Prelude.{ℕ, ◌-◌, List, [], ◌++◌, length, codes, Option, Some, None, slice_get}
use Rattle.std.specs.Fmt.{decimal}
use Rattle.ft_core.specs.declared.tables.Tables.{Tables}
use Rattle.ft_core.specs.declared.tables.Fact.{Fact}
use Rattle.ft_core.specs.declared.tables.Fact.TheVariants.{Invariant, Goal}
use Rattle.ft_tree.specs.meaning.Canonical.{canonical}
use Rattle.ft_trace.specs.meaning.Writing.{trace_text}
use Rattle.ft_oblige.specs.meaning.Obligations.{obligation_count, subjects}
use Rattle.ft_report.specs.meaning.FaultText.{fault_text, trace_fault_text}
use Rattle.ft_report.specs.meaning.States.{state_text}
use Rattle.ft_report.specs.meaning.Titles.{fact_about, obligation_name, title_of}
use Rattle.ft_report.specs.meaning.Words.{at_scan, line, named}
use Rattle.ft_report.specs.declared.report.Which.{Which}
use Rattle.ft_report.specs.declared.report.Which.TheVariants.{Set, Trace}
use Rattle.ft_report.specs.declared.short.Short.{Short}
use Rattle.ft_report.specs.declared.short.Short.TheVariants.{Safe, SpentAt}
use Rattle.ft_report.specs.declared.short.Subject.{Subject}
use Rattle.ft_report.specs.declared.short.Subject.TheVariants.{Obligation, NatList}
use Rattle.ft_report.specs.declared.report.Report.{Report}
use Rattle.ft_report.specs.declared.report.Report.TheVariants as report

-- ` variables V tables T blocks B obligations O`
abbrev pub counts_words : Tables → List ℕ
counts_words S = codes " variables " ++ decimal (length S.vars) ++ codes " tables " ++ decimal (length S.tables) ++ codes " blocks "
    ++ decimal (length S.blocks) ++ codes " obligations " ++ decimal (obligation_count S)

-- `set NAME variables V tables T blocks B obligations O`
abbrev pub set_line : Tables → List ℕ
set_line S = line (codes "set " ++ S.name ++ counts_words S)

-- `demo N: variables V tables T blocks B obligations O verified`
abbrev pub demo_line : (number : ℕ) → Tables → List ℕ
demo_line n S = line (codes "demo " ++ decimal n ++ codes ":" ++ counts_words S ++ codes " verified")

abbrev pub which_word : Which → List ℕ
which_word Set = codes "set"
which_word Trace = codes "trace"

-- a row and a column
abbrev pub cell_text : ℕ × ℕ → List ℕ
cell_text cell = decimal cell.0 ++ codes "," ++ decimal cell.1

-- the fault that a table shows
abbrev pub gap_words : Tables → (table : ℕ) → List ℕ
gap_words S k = named (codes "Gap") (title_of S k)

abbrev pub overlap_words : Tables → (table : ℕ) → (first second : ℕ × ℕ) → List ℕ
overlap_words S k first second = named (codes "Overlap") (title_of S k) ++ codes " cells " ++ cell_text first ++ codes " " ++ cell_text second

abbrev pub range_words : Tables → (table : ℕ) → ℕ × ℕ → List ℕ
range_words S k cell = named (codes "OutOfRange") (title_of S k) ++ codes " cell " ++ cell_text cell

-- no list of so many scans is allowed
abbrev pub stops_words : ℕ → List ℕ
stops_words length = codes "NatStops " ++ decimal length

-- what a search that was spent looked for
abbrev pub subject_text : Tables → Subject → List ℕ
subject_text S (Obligation n) = obligation_name S n
subject_text S (NatList k) = codes "nat list of " ++ decimal k ++ codes " scans"

-- `OBLIGATION after N splits`, or `nat list of K scans after N splits`
abbrev pub spent_words : Tables → Subject → List ℕ
spent_words S subject = subject_text S subject ++ codes " after " ++ decimal S.splits ++ codes " splits"

abbrev pub spent_line : Tables → Subject → List ℕ
spent_line S subject = line (codes "spent: " ++ spent_words S subject)

-- what is known of short lists
abbrev pub short_words : Tables → Short → List ℕ
short_words S (Safe length) = codes "none differ to length " ++ decimal length
short_words S (SpentAt length tree) = codes "spent at length " ++ decimal length ++ codes " after " ++ decimal S.splits ++ codes " splits"

abbrev pub short_line : Tables → Short → List ℕ
short_line S short = line (codes "short: " ++ short_words S short)

abbrev pub short_lines : Tables → Option Short → List ℕ
short_lines S None = []
short_lines S (Some short) = short_line S short

-- a row and a column, or `-`
abbrev pub place_words : Option (ℕ × ℕ) → List ℕ
place_words None = codes "-"
place_words (Some cell) = cell_text cell

-- `none` for an invariant, and else `req I,J out I,J`
abbrev pub cells_words : Option Fact → (req out : Option (ℕ × ℕ)) → List ℕ
cells_words (Some (Invariant name c)) req out = codes "none"
cells_words (Some (Goal x)) req out = codes "req " ++ place_words req ++ codes " out " ++ place_words out
cells_words None req out = []

-- the cells of the fact that the obligation with this number is about
abbrev pub cells_line : Tables → (obligation : ℕ) → (req out : Option (ℕ × ℕ)) → List ℕ
cells_line S n req out = line (codes "cells: " ++ cells_words (fact_about S (slice_get (subjects S) (n - 1))) req out)

abbrev pub text_of : Report → List ℕ
text_of report.Usage = line (codes "usage: ftv verify F, verify-json F, replay F T, print F, gen N, demo N")
text_of report.ReadFault = line (codes "read fault")
text_of (report.TooLong which) = line (codes "too long: " ++ which_word which)
text_of report.NoMemory = line (codes "no memory")
text_of (report.Refused fault) = line (codes "refused") ++ line (fault_text fault)
text_of (report.Printed tree) = canonical tree
text_of (report.Verified S list) = line (codes "verified") ++ set_line S ++ line (codes "nat list:") ++ trace_text S list
text_of (report.Demo n S list) = demo_line n S
text_of (report.Refuted S list scan) =
    line (codes "refuted") ++ line (codes "set " ++ S.name ++ codes " first difference at scan " ++ decimal scan)
    ++ line (codes "replay: ftv replay <set file> <this report>") ++ line (codes "trace:") ++ trace_text S list
text_of (report.Gap S k state) = line (codes "refused") ++ line (gap_words S k) ++ state_text state
text_of (report.Overlap S k first second state) = line (codes "refused") ++ line (overlap_words S k first second) ++ state_text state
text_of (report.OutOfRange S k cell state) = line (codes "refused") ++ line (range_words S k cell) ++ state_text state
text_of (report.NatStops length) = line (codes "refused") ++ line (stops_words length)
text_of (report.Fails S n req out state short) =
    line (codes "open") ++ line (codes "fails: " ++ obligation_name S n) ++ cells_line S n req out
    ++ line (codes "state:") ++ state_text state ++ short_line S short
text_of (report.Spent S subject tree short) = line (codes "open") ++ spent_line S subject ++ short_lines S short
text_of (report.Agree scans) = line (codes "agree over " ++ decimal scans ++ codes " scans")
text_of (report.Differ scan) = line (at_scan (codes "differ") scan)
text_of (report.TraceRefused fault) = line (codes "trace refused") ++ line (trace_fault_text fault)
text_of (report.NatRefuses scan) = line (codes "trace refused") ++ line (at_scan (codes "Nat") scan)

-- the exit status that belongs to a report
abbrev pub status_of : Report → ℕ
status_of (report.Verified S list) = 0
status_of (report.Demo n S list) = 0
status_of (report.Refuted S list scan) = 1
status_of (report.Printed tree) = 0
status_of (report.Agree scans) = 0
status_of (report.Differ scan) = 1
status_of (report.Fails S n req out state short) = 2
status_of (report.Spent S subject tree short) = 2
status_of (report.Refused fault) = 3
status_of (report.Gap S k state) = 3
status_of (report.Overlap S k first second state) = 3
status_of (report.OutOfRange S k cell state) = 3
status_of (report.NatStops length) = 3
status_of report.Usage = 4
status_of report.ReadFault = 5
status_of report.NoMemory = 7
status_of (report.TraceRefused fault) = 8
status_of (report.NatRefuses scan) = 8
status_of (report.TooLong which) = 10
