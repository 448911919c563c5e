-- The reads of a name, the last first, and what they gave together.
use Rattle.std.specs.Prelude.{◌≡◌, ℕ, ◌<◌, nat_lt, List, [], ◌∷◌, ◌++◌, length, take, Option, None, Some, Result, Ok, Err, if◌then◌else◌}

-- a read: its place, the number of bytes that it was to fill, and those that it gave; None where it failed
pub record Read : Type 0 where
  pub place : ℕ
  pub room : ℕ
  pub gave : Option (List ℕ)

-- what a read's answer and the bytes that it left come to
abbrev pub gave_of : {E : Type 0} → Result ℕ E → List ℕ → Option (List ℕ)
gave_of (Ok n) into = Some (take n into)
gave_of (Err e) into = None

abbrev pub read_of : {E : Type 0} → (place : ℕ) → Result ℕ E → (into : List ℕ) → Read
read_of place result into = record { place = place; room = length into; gave = gave_of result into }

-- bytes that are known from byte 0 on without a gap, after one more read: from its place on its bytes take the place of the earlier
-- ones. A read that failed, or that began past their end, adds nothing
abbrev pub joined : (known : List ℕ) → (place : ℕ) → Option (List ℕ) → List ℕ
joined known place None = known
joined known place (Some bytes) = if nat_lt (length known) place then known else take place known ++ bytes

-- the bytes that the reads gave, from byte 0 on without a gap
abbrev pub given : List Read → List ℕ
given [] = []
given (read ∷ before) = joined (given before) read.place read.gave

-- the last read had room, began at the end of what was given, and gave nothing
abbrev pub HasEnded : List Read → Type 0
HasEnded [] = ⊥
HasEnded (read ∷ before) = (0 < read.room) × (read.place ≡ length (given (read ∷ before))) × (read.gave ≡ Some [])

-- the last read failed
abbrev pub HasFailed : List Read → Type 0
HasFailed [] = ⊥
HasFailed (read ∷ before) = read.gave ≡ None
