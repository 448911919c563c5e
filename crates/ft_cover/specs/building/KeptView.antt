-- The view of a scan that has the values of some slots.
use Rattle.std.specs.Prelude.{ℕ, ℤ, pos, Bool, true, false, ◌&&◌, ◌==◌, List, Option, None, slice_get, if◌then◌else◌}
use Rattle.std.specs.List.{position_or_len}
use Rattle.ft_core.specs.declared.tables.Memory as tables
use Rattle.ft_core.specs.declared.tables.Tables.{Tables}
use Rattle.ft_linear.specs.meaning.Form.{values_at}
use Rattle.ft_mean.specs.meaning.Reading.{init_of}
use Rattle.ft_mean.specs.meaning.Value.{View}
use Rattle.ft_claims.specs.meaning.Names.{kept_true}
use Rattle.ft_oblige.specs.declared.labelling.Slot.{Slot}
use Rattle.ft_oblige.specs.declared.labelling.Slot.TheVariants.{Variable, Memory}

abbrev pub same_slot : (wanted slot : Slot) → Bool
same_slot (Variable p s) (Variable place scan) = (p == place) && (s == scan)
same_slot (Variable p s) (Memory place scan) = false
same_slot (Memory p s) (Variable place scan) = false
same_slot (Memory p s) (Memory place scan) = (p == place) && (s == scan)

-- the value in the place of the first such slot, and 0 where there is none
abbrev pub kept_value : List Slot → List ℤ → Slot → ℤ
kept_value slots values wanted = values_at values (position_or_len (same_slot wanted) slots)

-- the memory that a slot is kept for, where not every memory is a bit
abbrev pub kept_for : Tables → (bits : Bool) → ℕ → Option tables.Memory
kept_for S bits m = if bits then None else slice_get S.memories m

-- with the ages of timers, where not every memory is a bit; at a scan that begins each variable was at its `init` before
abbrev pub kept_view : Tables → (bits anew : Bool) → List Slot → List ℤ → View
kept_view S bits anew slots values = record {
  now = λ x. kept_value slots values (Variable x 0);
  before = λ x. if anew then init_of S x else kept_value slots values (Variable x 1);
  age = λ m. if bits then pos 0 else kept_value slots values (Memory m 0);
  memory = λ m. kept_true (kept_for S bits m) (kept_value slots values (Memory m 0));
}

-- where every memory is a bit, at a scan that follows another one
abbrev pub table_view : Tables → List Slot → List ℤ → View
table_view S = kept_view S true false
