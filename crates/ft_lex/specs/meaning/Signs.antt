-- The signs.
use Rattle.std.specs.Prelude.{ℕ, List, [], ◌∷◌, codes}

-- the signs, the longer ones first
unfoldable pub signs : List (List ℕ)
signs =
    codes "<>" ∷ codes "<=" ∷ codes ">=" ∷ codes ".." ∷ codes "{" ∷ codes "}" ∷ codes "(" ∷ codes ")" ∷ codes ","
    ∷ codes ":" ∷ codes ";" ∷ codes "=" ∷ codes "<" ∷ codes ">" ∷ codes "+" ∷ codes "-" ∷ codes "*" ∷ []
