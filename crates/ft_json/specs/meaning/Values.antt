-- Texts, numbers, lists and states as JSON.
use Rattle.std.specs.Prelude.{ℕ, ◌==◌, ℤ, pos, List, [], ◌∷◌, length, map, slice_index_or, if◌then◌else◌}
use Rattle.std.specs.List.{filter, fold, zip}
use Rattle.std.specs.Str.Lossy.{utf8_lossy}
use Rattle.serde_json.specs.Data.{Data, Members, array, member, no_members, number, object, put, string, unsigned}
use Rattle.serde_json.specs.Find.{of_integer}
use Rattle.serde_json.specs.View.{items_of}
use Rattle.ft_core.specs.declared.label.Label.{Label}
use Rattle.ft_core.specs.declared.label.State.{State}
use Rattle.ft_core.specs.declared.tables.Tables.{Tables}
use Rattle.ft_core.specs.declared.tables.Var.{Var}
use Rattle.ft_mean.specs.meaning.Reading.{Scans}
use Rattle.ft_trace.specs.rows.Row.{is_monitored}
use Rattle.ft_report.specs.meaning.States.{member_at}

-- a key with its value
abbrev pub Entry : Type 0
Entry = List ℕ × Data

abbrev pub members_of : List Entry → Members
members_of [] = no_members
members_of (entry ∷ entries) = member entry.0 entry.1 (members_of entries)

-- an object of these entries, which are given in byte order of their keys
abbrev pub object_of : List Entry → Data
object_of entries = object (members_of entries)

abbrev pub array_of : List Data → Data
array_of values = array (items_of values)

-- a text; JSON has none but of Unicode, so U+FFFD stands for bytes that aren't UTF-8
abbrev pub text_data : List ℕ → Data
text_data text = string (utf8_lossy text)

abbrev pub count_data : ℕ → Data
count_data n = number (unsigned n)

-- the whole number, or where there are members the one at this position as a text
abbrev pub value_data : (members : List (List ℕ)) → ℤ → Data
value_data members value = if length members == 0 then number (of_integer value) else text_data (member_at members value)

-- the value that a scan has of a variable
abbrev pub variable_data : List ℤ → Var → Data
variable_data scan v = value_data v.members (slice_index_or scan v.place (pos 0))

-- a value for each monitored variable, in order of declaration
abbrev pub scan_data : List Var → List ℤ → Data
scan_data vars scan = array_of (map (variable_data scan) (filter is_monitored vars))

abbrev pub list_data : Tables → Scans → Data
list_data S list = array_of (map (scan_data S.vars) list)

-- a state's members with those of one label more
abbrev pub with_label : Members → Label × ℤ → Members
with_label members entry = put (utf8_lossy entry.0.name) (value_data entry.0.members entry.1) members

-- a value for each label, in byte order of the labels
abbrev pub state_data : State → Data
state_data state = object (fold with_label no_members (zip state.labels state.values))
