-- Where a trace of the requirement and a list of controlled values differ.
use Rattle.std.specs.Prelude.{ℕ, ◌≡◌, ◌<◌, ℤ, pos, Bool, true, false, List, Option, Some, None, IsTrue, slice_index_or}
use Rattle.ft_core.specs.declared.tables.Tables.{Tables}
use Rattle.ft_core.specs.declared.tables.Var.{Var}
use Rattle.ft_core.specs.declared.tables.Side.TheVariants as side
use Rattle.ft_core.specs.meaning.Kinds.{controlled}
use Rattle.ft_mean.specs.meaning.Fits.{side_reading}
use Rattle.ft_mean.specs.meaning.Reading.{IsVar, Scans, reading_of}
use Rattle.ft_mean.specs.meaning.Refines.{SameAt}

-- at scan t some controlled value differs
pub record DiffersAt (S : Tables) (r c : Scans) (t : ℕ) : Type 0 where
  pub variable : ℕ
  pub declared : Var
  pub is_controlled : IsVar S controlled variable declared
  pub differs : side_reading S side.Req r t variable ≡ reading_of S controlled c t variable → ⊥

-- the first of n scans at which they differ, or none
abbrev pub IsFirst : Tables → (r c : Scans) → ℕ → Option ℕ → Type 0
IsFirst S r c n None = (t : ℕ) → t < n → SameAt S r c t
IsFirst S r c n (Some k) = (k < n) × ((t : ℕ) → t < k → SameAt S r c t) × DiffersAt S r c k

-- the first that differs, after a scan at which they are alike or not
abbrev pub first_with : Option ℕ → (scan : ℕ) → (alike : Bool) → Option ℕ
first_with (Some k) scan alike = Some k
first_with None scan true = None
first_with None scan false = Some scan

-- a variable that is controlled has at this place of a row the value at its own place of a controlled row
abbrev pub IsAlike : Var → ℕ → (row controlled_row : List ℤ) → Type 0
IsAlike v at row controlled_row = IsTrue (controlled 0 v) → slice_index_or row at (pos 0) ≡ slice_index_or controlled_row v.place (pos 0)

-- a variable is controlled, and has there another value
abbrev pub IsDifferent : Var → ℕ → (row controlled_row : List ℤ) → Type 0
IsDifferent v at row controlled_row =
    IsTrue (controlled 0 v) × (slice_index_or row at (pos 0) ≡ slice_index_or controlled_row v.place (pos 0) → ⊥)
