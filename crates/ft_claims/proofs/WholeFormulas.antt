-- The conjuncts of one pair more.
use Rattle.std.proofs.Common.{◌≡◌, ◌∙◌, sym, ap, ℕ, suc, ◌+◌, ◌<◌, List, [], ◌∷◌, ◌++◌, length, map, take, arith}
use Rattle.std.specs.Prelude.{slice_index_or}
use Rattle.std.proofs.lemmas.List.{take_more, length-take-le}
use Rattle.ft_settle.specs.declared.raw.Raw.{Raw}
use Rattle.ft_settle.specs.declared.raw.Raw.TheVariants as raw
use Rattle.ft_claims.specs.declared.claim.Claim.{Claim}
use Rattle.ft_claims.specs.meaning.Forms.{Entry, Entries}
use Rattle.ft_claims.specs.meaning.Formulas.{chain, collected, CollectsAll, at_least, at_most, conjuncts, formula_of, entries_of, parts_of}
use Rattle.ft_claims.proofs.GatherLemmas.{append-assoc}

conjuncts-append : (q : ℕ) (T : Entries) (e : Entry) → conjuncts q (T ++ e ∷ []) ≡ conjuncts q T ++ at_most (q + length T) e
    ∷ at_least (q + length T) e ∷ []
conjuncts-append q [] e = let none : q ≡ q + 0 = omega arith in λ i. at_most (none i) e ∷ at_least (none i) e ∷ []
conjuncts-append q (d ∷ T) e =
    let next : suc q + length T ≡ q + suc (length T) = omega arith in
    ap (λ rs. at_most q d ∷ at_least q d ∷ rs)
    (conjuncts-append (suc q) T e ∙ (λ i. conjuncts (suc q) T ++ at_most (next i) e ∷ at_least (next i) e ∷ []))

pub conjuncts-more : (q i : ℕ) (T : Entries) (e : Entry) (old mid new : List Raw) → i < length T → e ≡ slice_index_or T i e
    → mid ≡ old ++ conjuncts q (take i T) → new ≡ mid ++ at_most (q + i) e ∷ at_least (q + i) e ∷ [] → new ≡ old
    ++ conjuncts q (take (i + 1) T)
conjuncts-more q i T e old mid new within is before made =
    let long : length (take i T) ≡ i = length-take-le i T (omega (arith, within)) in
    let longer : take (i + 1) T ≡ take i T ++ e ∷ [] = take_more T i e within ∙ ap (λ (d : Entry). take i T ++ d ∷ []) (sym is) in
    made ∙ ap (λ rs. rs ++ at_most (q + i) e ∷ at_least (q + i) e ∷ []) before
    ∙ append-assoc old (conjuncts q (take i T)) (at_most (q + i) e ∷ at_least (q + i) e ∷ [])
    ∙ ap (λ rs. old ++ rs) ((λ j. conjuncts q (take i T) ++ at_most (q + sym long j) e ∷ at_least (q + sym long j) e ∷ [])
    ∙ sym (conjuncts-append q (take i T) e) ∙ ap (conjuncts q) (sym longer))

pub whole-is : (base : ℕ) (parts : List Claim) (T U : Entries) (rs list : List Raw) → T ≡ [] → CollectsAll base parts T U rs → list ≡ rs
    ++ conjuncts base U
    → (raw.And list ≡ formula_of base parts) × (U ≡ entries_of base parts)
whole-is base parts T U rs list none m made =
    let table : U ≡ entries_of base parts = m.entries ∙ ap (chain (map (collected base) parts)) none in
    (ap raw.And (made ∙ (λ i. (m.formulas ∙ ap (λ V. parts_of base V parts) table) i ++ conjuncts base (table i))), table)
