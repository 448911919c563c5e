-- The first byte of a text with which none of its kind goes on.
use Rattle.std.specs.Prelude.{ℕ, ◌≡◌, List, [], ◌∷◌, ◌++◌}

-- a kind of texts
abbrev pub Texts : Type 1
Texts = List ℕ → Type 0

-- some text of the kind begins so
abbrev pub Begins : Texts → List ℕ → Type 0
Begins texts front = (more : List ℕ) × texts (front ++ more)

-- with the next byte no text of the kind goes on; where there is none, none ends here
abbrev pub Stops : Texts → (front rest : List ℕ) → Type 0
Stops texts front [] = texts front → ⊥
Stops texts front (b ∷ rest) = Begins texts (front ++ b ∷ []) → ⊥

-- the fault stands after these bytes
pub record FaultAfter (texts : Texts) (bytes front : List ℕ) : Type 0 where
  pub rest : List ℕ
  pub parts : bytes ≡ front ++ rest
  pub begins : Begins texts front
  pub stops : Stops texts front rest
