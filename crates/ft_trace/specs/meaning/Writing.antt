-- The text that is written of a history.
use Rattle.std.specs.Prelude.{ℕ, ◌==◌, ℤ, pos, negsuc, List, [], ◌∷◌, ◌++◌, length, map, slice_index_or, if◌then◌else◌}
use Rattle.std.specs.List.{filter, flat_map, join_with_byte}
use Rattle.std.specs.Fmt.{signed_decimal}
use Rattle.ft_core.specs.declared.tables.Tables.{Tables}
use Rattle.ft_core.specs.declared.tables.Var.{Var}
use Rattle.ft_mean.specs.meaning.Reading.{Scans}
use Rattle.ft_trace.specs.rows.Row.{is_monitored}

-- the name of the member at this place
abbrev pub member_name : Var → ℤ → List ℕ
member_name v (pos k) = slice_index_or v.members k []
member_name v (negsuc k) = []

-- a member's name, or a number in decimal without leading zeros
abbrev pub field_of : Var → ℤ → List ℕ
field_of v x = if length v.members == 0 then signed_decimal x else member_name v x

-- one field for each monitored variable, in order of declaration
abbrev pub fields_by : (Var → List ℕ) → List Var → List (List ℕ)
fields_by field vars = map field (filter is_monitored vars)

abbrev pub name_of : Var → List ℕ
name_of v = v.name

-- the field of the value that a scan has of a variable
abbrev pub scan_field : List ℤ → Var → List ℕ
scan_field scan v = field_of v (slice_index_or scan v.place (pos 0))

-- fields joined by `,`, and a line feed
abbrev pub line_of : List (List ℕ) → List ℕ
line_of fields = join_with_byte 44 fields ++ 10 ∷ []

-- a line of names, and a line for each scan
abbrev pub trace_text : Tables → Scans → List ℕ
trace_text S h = line_of (fields_by name_of S.vars) ++ flat_map (λ scan. line_of (fields_by (scan_field scan) S.vars)) h
