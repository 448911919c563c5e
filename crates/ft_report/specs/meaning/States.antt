-- The lines of a state.
use Rattle.std.specs.Prelude.{ℕ, ◌==◌, ℤ, pos, negsuc, List, [], ◌++◌, length, codes, slice_index_or, if◌then◌else◌}
use Rattle.std.specs.List.{flat_map, zip}
use Rattle.std.specs.Fmt.{signed_decimal}
use Rattle.ft_core.specs.declared.label.Label.{Label}
use Rattle.ft_core.specs.declared.label.State.{State}
use Rattle.ft_report.specs.meaning.Words.{line}

-- the member at this position, and nothing where there is none
abbrev pub member_at : List (List ℕ) → ℤ → List ℕ
member_at members (pos k) = slice_index_or members k []
member_at members (negsuc k) = []

-- the number, or where there are members the one at this position
abbrev pub value_text : (members : List (List ℕ)) → ℤ → List ℕ
value_text members value = if length members == 0 then signed_decimal value else member_at members value

-- two spaces, the label's name, `=` and the value
abbrev pub value_line : Label → ℤ → List ℕ
value_line label value = line (codes "  " ++ label.name ++ codes "=" ++ value_text label.members value)

-- a line for each label
abbrev pub state_text : State → List ℕ
state_text state = flat_map (λ entry. value_line entry.0 entry.1) (zip state.labels state.values)
