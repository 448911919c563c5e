-- Values at places of a row: those that are put there, and those that are told of them.
use Rattle.std.specs.Prelude.{ℕ, ◌≡◌, ◌<◌, ℤ, pos, List, length, slice_get, slice_index_or, Some}

-- each place lies in a row of this length
abbrev pub ArePlacesIn : List ℕ → ℕ → Type 0
ArePlacesIn places n = (k p : ℕ) → slice_get places k ≡ Some p → p < n

-- no place stands twice
abbrev pub AreOnce : List ℕ → Type 0
AreOnce places = (k l p : ℕ) → slice_get places k ≡ Some p → slice_get places l ≡ Some p → k ≡ l

-- the first n values were put at their places of a row, and nothing else was changed
pub record ArePut (places : List ℕ) (values : List ℤ) (n : ℕ) (old new : List ℤ) : Type 0 where
  pub width : length new ≡ length old
  pub put : (k p : ℕ) → k < n → slice_get places k ≡ Some p → slice_index_or new p (pos 0) ≡ slice_index_or values k (pos 0)
  pub rest : (p : ℕ) → ((k : ℕ) → k < n → slice_get places k ≡ Some p → ⊥) → slice_index_or new p (pos 0) ≡ slice_index_or old p (pos 0)

-- the first n values are those at their places of a row
abbrev pub AreTold : List ℕ → List ℤ → ℕ → List ℤ → Type 0
AreTold places row n values = (k p : ℕ) → k < n → slice_get places k ≡ Some p → slice_index_or values k (pos 0)
    ≡ slice_index_or row p (pos 0)
