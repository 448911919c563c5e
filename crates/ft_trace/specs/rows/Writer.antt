-- What was written so far, and what a value needs to be written.
use Rattle.std.specs.Prelude.{ℕ, ◌≡◌, ◌<◌, ℤ, pos, false, List, [], ◌∷◌, ◌++◌, length, slice_index_or, vec_items, if◌then◌else◌}
use Rattle.std.specs.declared.vec.Vec.{Vec}
use Rattle.csv.specs.Writing.{default_writer, fields_written, has_written, writer_pending, writer_setup, writer_under}
use Rattle.csv.specs.declared.writer.Writer.{Writer}
use Rattle.ft_core.specs.declared.tables.Var.{Var}
use Rattle.ft_trace.specs.rows.Row.{is_monitored}

-- the records that were written are whole
pub record IsWhole {W : Type 0} (w : Writer W) : Type 0 where
  pub setup : writer_setup w ≡ default_writer
  pub fields : fields_written w ≡ 0
  pub clean : has_written w ≡ false

-- the bytes that were written
abbrev pub written : {A : Type 0} → Writer (Vec ℕ A) → List ℕ
written w = vec_items (writer_under w) ++ writer_pending w

-- where it is an enum, the value is the place of a member
abbrev pub IsMember : Var → ℤ → Type 0
IsMember v x = 0 < length v.members → (k : ℕ) × (x ≡ pos k) × (k < length v.members)

-- the scan has a value of it that can be written
abbrev pub HasValue : List ℤ → Var → Type 0
HasValue scan v = (v.place < length scan) × IsMember v (slice_index_or scan v.place (pos 0))

-- the field of a variable, where it is monitored
abbrev pub field_if : (Var → List ℕ) → Var → List (List ℕ)
field_if field v = if is_monitored v then field v ∷ [] else []
