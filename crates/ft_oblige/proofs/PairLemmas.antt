-- The pairs of some claims, from left to right.
use Rattle.std.proofs.Common.{◌≡◌, ◌∙◌, sym, ap, ℕ, suc, ◌+◌, ◌-◌, ◌<◌, ◌≤◌, List, [], ◌∷◌, ◌++◌, map, length, take, drop, get_or}
use Rattle.std.proofs.Common.{arith, append_assoc}
use Rattle.std.specs.Prelude.{slice_index_or}
use Rattle.std.proofs.lemmas.List.{append-nil, take_rest}
use Rattle.std.proofs.Math.Seq.{drop-cons}
use Rattle.std.proofs.Math.ListN.{drop_of_length-le}
use Rattle.ft_claims.specs.declared.claim.Claim.{Claim}
use Rattle.ft_claims.specs.declared.claim.Claim.TheVariants.{And}
use Rattle.ft_claims.specs.meaning.Coverage.{pairs}

pub pairs-turn : (claims list new : List Claim) (i : ℕ) (c : Claim) → i < length claims → c ≡ slice_index_or claims i c
    → new ≡ list ++ map (λ d. And (c ∷ d ∷ [])) (take (length claims - (i + 1)) (drop (i + 1) claims))
    → list ++ pairs (drop i claims) ≡ pairs claims → new ++ pairs (drop (i + 1) claims) ≡ pairs claims
pairs-turn claims list new i c within is made before =
    let after : i + 1 ≡ suc i = omega arith in
    ap (λ l. l ++ pairs (drop (i + 1) claims)) (made ∙ ap (λ ds. list ++ map (λ d. And (c ∷ d ∷ [])) ds) (take_rest claims (i + 1)))
    ∙ (λ j. (list ++ map (λ d. And (is j ∷ d ∷ [])) (drop (after j) claims)) ++ pairs (drop (after j) claims))
    ∙ append_assoc list (map (λ d. And (get_or claims i c ∷ d ∷ [])) (drop (suc i) claims)) (pairs (drop (suc i) claims))
    ∙ ap (λ ds. list ++ pairs ds) (sym (drop-cons claims i c within)) ∙ before

pub pairs-end : (claims list : List Claim) (i : ℕ) → length claims ≤ i → list ++ pairs (drop i claims) ≡ pairs claims → list ≡ pairs claims
pairs-end claims list i past before = sym (append-nil list) ∙ ap (λ ds. list ++ pairs ds) (sym (drop_of_length-le claims past)) ∙ before
