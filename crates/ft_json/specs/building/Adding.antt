-- What is put beside the status and the verdict.
use Rattle.std.specs.Prelude.{ℕ, ◌≡◌, List, length, codes, Option, Some, None}
use Rattle.serde_json.specs.Data.{Members, put}
use Rattle.ft_core.specs.declared.label.State.{State}
use Rattle.ft_core.specs.declared.tables.Tables.{Tables}
use Rattle.ft_mean.specs.meaning.Reading.{Scans}
use Rattle.ft_oblige.specs.meaning.Obligations.{obligation_count}
use Rattle.ft_report.specs.meaning.Report.{short_words, spent_words}
use Rattle.ft_report.specs.meaning.Titles.{obligation_name}
use Rattle.ft_report.specs.declared.report.Report.{Report}
use Rattle.ft_report.specs.declared.short.Short.{Short}
use Rattle.ft_report.specs.declared.short.Subject.{Subject}
use Rattle.ft_json.specs.meaning.Json.{ends, entries}
use Rattle.ft_json.specs.meaning.Values.{count_data, list_data, members_of, state_data, text_data}

-- members that are a status and a verdict go on to be those of the report
abbrev pub Adds : Report → (old new : Members) → Type 0
Adds r old new = (status : ℕ) (verdict : List ℕ) → old ≡ members_of (ends status verdict) → new ≡ members_of (entries status verdict r)

abbrev pub with_counts : Tables → Members → Members
with_counts S members =
    put (codes "variables") (count_data (length S.vars)) (put (codes "tables") (count_data (length S.tables))
    (put (codes "obligations") (count_data (obligation_count S)) (put (codes "blocks") (count_data (length S.blocks)) members)))

abbrev pub with_set : Tables → Members → Members
with_set S members = put (codes "set") (text_data S.name) members

abbrev pub with_list : Tables → Scans → Members → Members
with_list S list members = put (codes "list") (list_data S list) (with_set S members)

abbrev pub with_fault : (fault : List ℕ) → Members → Members
with_fault fault members = put (codes "fault") (text_data fault) members

abbrev pub with_state : State → Members → Members
with_state state members = put (codes "state") (state_data state) members

abbrev pub with_short : Tables → Short → Members → Members
with_short S short members = put (codes "short") (text_data (short_words S short)) members

abbrev pub with_shorts : Tables → Option Short → Members → Members
with_shorts S None members = members
with_shorts S (Some short) members = with_short S short members

abbrev pub with_fails : Tables → (obligation : ℕ) → Members → Members
with_fails S n members = put (codes "fails") (text_data (obligation_name S n)) (with_set S members)

abbrev pub with_spent : Tables → Subject → Members → Members
with_spent S subject members = put (codes "spent") (text_data (spent_words S subject)) (with_set S members)
