-- A report as one line of JSON.
use Rattle.std.specs.Prelude.{ℕ, ◌==◌, List, [], ◌∷◌, ◌++◌, length, codes, not, Option, Some, None}
use Rattle.std.specs.List.{take_while}
use Rattle.serde_json.specs.Data.{Data}
use Rattle.serde_json.specs.Written.{compact_text}
use Rattle.ft_core.specs.declared.label.State.{State}
use Rattle.ft_core.specs.declared.tables.Tables.{Tables}
use Rattle.ft_oblige.specs.meaning.Obligations.{obligation_count}
use Rattle.ft_report.specs.meaning.FaultText.{fault_text}
use Rattle.ft_report.specs.meaning.Report.{gap_words, overlap_words, range_words, short_words, spent_words, status_of, stops_words, text_of}
use Rattle.ft_report.specs.meaning.Titles.{obligation_name}
use Rattle.ft_report.specs.meaning.Words.{line}
use Rattle.ft_report.specs.declared.report.Report.{Report}
use Rattle.ft_report.specs.declared.report.Report.TheVariants as report
use Rattle.ft_report.specs.declared.short.Short.{Short}
use Rattle.ft_json.specs.meaning.Values.{Entry, count_data, list_data, object_of, state_data, text_data}

-- what stands before the first LF
abbrev pub first_line : List ℕ → List ℕ
first_line text = take_while (λ byte. not (byte == 10)) text

-- what every report has: its exit status, and the first line of its text
abbrev pub ends : (status : ℕ) → (verdict : List ℕ) → List Entry
ends status verdict = (codes "status", count_data status) ∷ (codes "verdict", text_data verdict) ∷ []

-- what is known of short lists, where they were searched
abbrev pub short_entries : Tables → Option Short → List Entry
short_entries S None = []
short_entries S (Some short) = (codes "short", text_data (short_words S short)) ∷ []

-- the fault that a table shows, and the state at which it does
abbrev pub shown : (fault : List ℕ) → State → List Entry → List Entry
shown fault state rest = (codes "fault", text_data fault) ∷ (codes "state", state_data state) ∷ rest

-- what a report tells, in byte order of the keys
abbrev pub entries : (status : ℕ) → (verdict : List ℕ) → Report → List Entry
entries status verdict (report.Verified S list) =
    (codes "blocks", count_data (length S.blocks)) ∷ (codes "list", list_data S list)
    ∷ (codes "obligations", count_data (obligation_count S)) ∷ (codes "set", text_data S.name)
    ∷ (codes "status", count_data status) ∷ (codes "tables", count_data (length S.tables))
    ∷ (codes "variables", count_data (length S.vars)) ∷ (codes "verdict", text_data verdict) ∷ []
entries status verdict (report.Refuted S list scan) =
    (codes "list", list_data S list) ∷ (codes "scan", count_data scan) ∷ (codes "set", text_data S.name) ∷ ends status verdict
entries status verdict (report.Fails S n req out state short) =
    (codes "fails", text_data (obligation_name S n)) ∷ (codes "set", text_data S.name)
    ∷ (codes "short", text_data (short_words S short)) ∷ (codes "state", state_data state) ∷ ends status verdict
entries status verdict (report.Spent S subject tree short) =
    (codes "set", text_data S.name)
    ∷ (short_entries S short ++ ((codes "spent", text_data (spent_words S subject)) ∷ ends status verdict))
entries status verdict (report.Refused fault) = (codes "fault", text_data (fault_text fault)) ∷ ends status verdict
entries status verdict (report.Gap S k state) = shown (gap_words S k) state (ends status verdict)
entries status verdict (report.Overlap S k first second state) = shown (overlap_words S k first second) state (ends status verdict)
entries status verdict (report.OutOfRange S k cell state) = shown (range_words S k cell) state (ends status verdict)
entries status verdict (report.NatStops length) = (codes "fault", text_data (stops_words length)) ∷ ends status verdict
entries status verdict _ = ends status verdict

abbrev pub json_of : Report → Data
json_of r = object_of (entries (status_of r) (first_line (text_of r)) r)

-- in compact form, as a line
abbrev pub json_text : Report → List ℕ
json_text r = line (compact_text (json_of r))
