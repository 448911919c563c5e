-- Single tokens.
use Rattle.std.proofs.Common.{◌≡◌, subst, ◌≤◌, ◌+◌, ◌*◌, ◌-◌, ◌<◌, ℕ, zero, suc, List, [], ◌∷◌, take, fold, min, arith}
use Rattle.std.specs.List.{All}
use Rattle.ft_lex.specs.declared.token.Token.{Token}
use Rattle.ft_lex.specs.meaning.Tokens.{LiesIn}
use Rattle.ft_base.specs.Digits.{decimal_value}

-- the tokens after the first lie in the text too
pub rest-lies : (text : List ℕ) (tokens : List Token) (token : Token) (rest : List Token) → tokens ≡ token ∷ rest → All (LiesIn text) tokens
    → All (LiesIn text) rest
rest-lies text tokens token rest first all =
    let here : All (LiesIn text) (token ∷ rest) = subst (All (LiesIn text)) first all in
    λ k d below. here (suc k) d (omega arith)

pub first-lies : (text : List ℕ) (tokens : List Token) (token : Token) (rest : List Token) → tokens ≡ token ∷ rest
    → All (LiesIn text) tokens → LiesIn text token
first-lies text tokens token rest first all = (subst (All (LiesIn text)) first all) zero token (omega arith)

abbrev step : ℕ → ℕ → ℕ
step value digit = value * 10 + (digit - 48)

-- digits that are put after others make no number less
grows : (digits : List ℕ) (value : ℕ) → value ≤ fold step value digits
grows [] value = omega arith
grows (d ∷ ds) value = let more = grows ds (step value d) in omega (arith, more)

grows-from : (digits : List ℕ) (count value : ℕ) → fold step value (take count digits) ≤ fold step value digits
grows-from digits zero value = grows digits value
grows-from [] (suc count) value = omega arith
grows-from (d ∷ ds) (suc count) value = grows-from ds count (step value d)

pub is-greater : (digits : List ℕ) (count value : ℕ) → value ≡ decimal_value (take count digits) → 1000000000 < value
    → min (decimal_value digits) 1000000001 ≡ 1000000001
is-greater digits count value is more =
    let less = grows-from digits count 0 in
    grind (arith, less)
