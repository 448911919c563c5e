-- Intervals of whole numbers.
use Rattle.std.specs.Prelude.{ℕ, ◌≤◌, ℤ, ◌≤ℤ◌, unsigned_abs}

-- lo..hi is a nonempty interval whose bounds are at most the limit either way
abbrev pub IsBounded : (limit : ℕ) → (lo hi : ℤ) → Type 0
IsBounded limit lo hi = (lo ≤ℤ hi) × (unsigned_abs lo ≤ limit) × (unsigned_abs hi ≤ limit)

-- the number lies in the interval of these bounds
abbrev pub IsWithin : ℤ × ℤ → ℤ → Type 0
IsWithin bounds z = (bounds.0 ≤ℤ z) × (z ≤ℤ bounds.1)
