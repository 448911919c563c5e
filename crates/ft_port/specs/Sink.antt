-- What a write leaves in a sink.
use Rattle.std.specs.Prelude.{◌≡◌, ℕ, List, take, ◌++◌, Option, Some, Result, OnOk, OnErr}

-- a sink that tells goes on telling: it took all bytes, or failed after the first of them
pub record Takes {T E : Type 0} (before now : Option (List ℕ)) (bytes : List ℕ) (result : Result T E) : Type 0 where
  pub all : (old : List ℕ) → before ≡ Some old → OnOk result (now ≡ Some (old ++ bytes))
  pub part : (old : List ℕ) → before ≡ Some old → OnErr result ((n : ℕ) × (now ≡ Some (old ++ take n bytes)))
