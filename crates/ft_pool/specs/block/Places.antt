-- How the values of a region lie in its places.
use Rattle.std.specs.Prelude.{ℕ, zero, suc, List, [], ◌∷◌}

module _ {X : Type 0} where
  -- the list with x in the i-th place, or at its end where it has no such place
  abbrev pub put_at : List X → ℕ → X → List X
  put_at [] i x = x ∷ []
  put_at (y ∷ ys) zero x = x ∷ ys
  put_at (y ∷ ys) (suc i) x = y ∷ put_at ys i x
