-- What a field of a trace spells.
use Rattle.std.specs.Prelude.{ℕ, ◌≡◌, ◌==◌, ℤ, pos, List, length, Option, Some, if◌then◌else◌, option_map}
use Rattle.std.specs.List.{position}
use Rattle.std.specs.Str.{bytes_eq}
use Rattle.ft_base.specs.Interval.{IsWithin}
use Rattle.ft_core.specs.declared.tables.Var.{Var}
use Rattle.ft_trace.specs.meaning.Decimal.{number_of}

-- a number in decimal, or the place of a member's name
abbrev pub field_value : Var → List ℕ → Option ℤ
field_value v field = if length v.members == 0 then number_of field else option_map (λ k. pos k)
    (position (λ m. bytes_eq m field) v.members)

-- the field spells this value of the variable
abbrev pub Spells : Var → List ℕ → ℤ → Type 0
Spells v field x = (field_value v field ≡ Some x) × IsWithin v.range x
