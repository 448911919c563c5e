-- What the spans and the names of an obligation are computed with.
use Rattle.std.specs.Prelude.{◌≡◌, ℕ, ◌+◌, ◌<◌, pos, ◌<ℤ◌, Bool, true, false, List, ◌++◌, filter, length, slice_get, slice_index_or, Some}
use Rattle.std.specs.Prelude.{replicate}
use Rattle.std.specs.List.{range_with_len}
use Rattle.ft_linear.specs.meaning.Form.{HasUnknowns}
use Rattle.ft_claims.specs.meaning.Forms.{Entry, Entries}

-- the places that are marked, in order
abbrev pub marked_places : List Bool → List ℕ
marked_places marks = filter (λ u. slice_index_or marks u false) (range_with_len 0 (length marks))

-- no name is marked, and each unknown of a pair is
abbrev pub first_marks : (names pairs : ℕ) → List Bool
first_marks names pairs = replicate names false ++ replicate pairs true

-- the forms of pairs have names and unknowns of the pairs before them alone, and the divisors are positive
abbrev pub AreOver : (base : ℕ) → Entries → Type 0
AreOver base T = (d : ℕ) (e : Entry) → slice_get T d ≡ Some e → HasUnknowns (base + d) e.0.factors × (pos 0 <ℤ e.1)

-- these are the places that are marked, each once and in order
pub record ArePlaces (marks : List Bool) (places : List ℕ) : Type 0 where
  pub marked : (j m : ℕ) → slice_get places j ≡ Some m → slice_get marks m ≡ Some true
  pub each : (m : ℕ) → slice_get marks m ≡ Some true → (j : ℕ) × (slice_get places j ≡ Some m)
  pub rising : (i j m k : ℕ) → slice_get places i ≡ Some m → slice_get places j ≡ Some k → i < j → m < k
