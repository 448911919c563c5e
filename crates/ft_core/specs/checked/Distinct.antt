-- Lists in which nothing stands twice.
use Rattle.std.specs.Prelude.{ℕ, ◌≡◌, List, slice_get, Some}

-- no element stands at two places
abbrev pub AreDistinct : {A : Type 0} → List A → Type 0
AreDistinct {A} xs = (k l : ℕ) (x : A) → slice_get xs k ≡ Some x → slice_get xs l ≡ Some x → k ≡ l
