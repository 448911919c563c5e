-- Decimal digits and their value.
use Rattle.std.proofs.Common.{sym}
use Rattle.std.specs.Prelude.{ℕ, ◌≡◌, ◌+◌, ◌*◌, ◌-◌, Bool, true, false, List, [], ◌∷◌, ◌++◌, fold}
use Rattle.std.specs.Char.{is_ascii_digit}
use Rattle.std.proofs.lemmas.Bool.{true≢false}

abbrev pub is_digit : ℕ → Bool
is_digit b = is_ascii_digit b

abbrev pub begins_by_digit : List ℕ → Bool
begins_by_digit [] = false
begins_by_digit (b ∷ _) = is_digit b

pub begins-push : (bytes : List ℕ) (b : ℕ) → begins_by_digit bytes ≡ true → begins_by_digit (bytes ++ b ∷ []) ≡ true
begins-push [] b h = absurd (true≢false (sym h))
begins-push (c ∷ more) b h = h

-- the value of decimal digits
abbrev pub decimal_value : List ℕ → ℕ
decimal_value digits = fold (λ value digit. value * 10 + (digit - 48)) 0 digits
