-- How one field of a scan's record is read into a row of values.
use Rattle.std.specs.Prelude.{ℕ, ◌+◌, ◌≡◌, ◌<◌, ℤ, List, length, slice_get, slice_set, Option, Some, None, MatchBool, IsTrue, Bool, false}
use Rattle.std.specs.Prelude.{not, ◌||◌}
use Rattle.std.specs.Str.{bytes_eq}
use Rattle.csv.specs.Records.{field_at}
use Rattle.ft_core.specs.declared.tables.Var.{Var}
use Rattle.ft_core.specs.declared.tables.VarKind.TheVariants as kind
use Rattle.ft_core.specs.meaning.Kinds.{same_kind}
use Rattle.ft_trace.specs.meaning.Field.{Spells}
use Rattle.ft_trace.specs.meaning.Spelling.{IsNoValue, IsOutside, Row}
use Rattle.ft_trace.specs.declared.fault.TraceFault.{TraceFault}
use Rattle.ft_trace.specs.declared.fault.TraceFault.TheVariants.{Value, OutOfRange}

abbrev pub is_monitored : Var → Bool
is_monitored v = same_kind kind.Mon v.kind

-- what is wrong with a field of the scan
abbrev pub FieldFault : Var → List ℕ → ℕ → TraceFault → Type 0
FieldFault v field k (Value scan column) = (scan ≡ k) × (column ≡ v.place + 1) × IsNoValue v field
FieldFault v field k (OutOfRange scan column) = (scan ≡ k) × (column ≡ v.place + 1) × IsOutside v field
FieldFault v field k _ = ⊥

-- the place of a monitored variable is in the row
abbrev pub HasPlace : {A : Type 0} → Var → List A → Type 0
HasPlace v row = IsTrue (is_monitored v) → v.place < length row

-- the field at its place is read
pub record IsRead (v : Var) (row : Row) (old new : List ℤ) : Type 0 where
  pub field : List ℕ
  pub value : ℤ
  pub in_row : slice_get row v.place ≡ Some field
  pub spells : Spells v field value
  pub put : new ≡ slice_set old v.place value

-- a monitored variable is read, and any other is passed over
abbrev pub ReadsField : Var → Row → (old new : List ℤ) → Type 0
ReadsField v row old new = MatchBool (is_monitored v) (IsRead v row old new) (new ≡ old)

pub record StopsAt (v : Var) (row : Row) (k : ℕ) (fault : TraceFault) : Type 0 where
  pub is : IsTrue (is_monitored v)
  pub field : List ℕ
  pub in_row : slice_get row v.place ≡ Some field
  pub refused : FieldFault v field k fault

abbrev pub is_field : Option (List ℕ) → List ℕ → Bool
is_field None name = false
is_field (Some field) name = bytes_eq field name

-- a monitored variable has its name at its place
abbrev pub is_named : Row → Var → Bool
is_named row v = not (is_monitored v) || is_field (field_at row v.place) v.name
