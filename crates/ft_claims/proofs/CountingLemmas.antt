-- How many marks stand before a place is its number among the marked places.
use Rattle.std.proofs.Common.{◌≡◌, ◌∙◌, sym, ap, refl, ℕ, zero, suc, ◌+◌, ◌<◌, ◌≤◌, true, false, Bool, not, cond, List, [], ◌∷◌, ◌++◌}
use Rattle.std.proofs.Common.{length, filter, drop, get_or, arith, if◌then◌else◌}
use Rattle.std.specs.Prelude.{slice_index_or, ◌==◌}
use Rattle.std.specs.List.{range_with_len}
use Rattle.std.proofs.lemmas.Bool.{cond-true, cond-false}
use Rattle.std.proofs.lemmas.Bool.Decides.{Decides-eqb}
use Rattle.std.proofs.lemmas.List.{append-nil}
use Rattle.std.proofs.Math.Seq.{drop-cons}
use Rattle.std.proofs.Math.ListN.{drop_of_length-le}
use Rattle.ft_claims.specs.meaning.Areas.{counts, place_in}
use Rattle.ft_claims.proofs.GatherLemmas.{append-assoc}

counts-step : (k : ℕ) (b : Bool) (ms : List Bool) → counts k (b ∷ ms) ≡ k ∷ counts (if b then k + 1 else k) ms
counts-step k true ms = refl
counts-step k false ms = refl

pub counts-turn : (marks : List Bool) (list new : List ℕ) (i next more : ℕ) (d : Bool) → i < length marks → list
    ++ counts next (drop i marks) ≡ counts 0 marks
    → new ≡ list ++ next ∷ [] → more ≡ (if get_or marks i d then next + 1 else next) → new ++ counts more (drop (i + 1) marks)
    ≡ counts 0 marks
counts-turn marks list new i next more d within before made is =
    let after : i + 1 ≡ suc i = omega arith in
    (λ j. made j ++ counts (is j) (drop (after j) marks))
    ∙ append-assoc list (next ∷ []) (counts (if get_or marks i d then next + 1 else next) (drop (suc i) marks))
    ∙ ap (λ r. list ++ r) (sym (counts-step next (get_or marks i d) (drop (suc i) marks)))
    ∙ ap (λ ms. list ++ counts next ms) (sym (drop-cons marks i d within)) ∙ before

pub counts-end : (marks : List Bool) (list : List ℕ) (i next : ℕ) → length marks ≤ i → list ++ counts next (drop i marks) ≡ counts 0 marks
    → list ≡ counts 0 marks
counts-end marks list i next past before = sym (append-nil list) ∙ ap (λ ms. list ++ counts next ms) (sym (drop_of_length-le marks past))
    ∙ before

other : (s j : ℕ) → (s == (s + suc j)) ≡ false
other s j = grind arith

-- with a test that is true where a mark is
pub count-place : (p : ℕ → Bool) (ms : List Bool) (s k j : ℕ) → ((i : ℕ) → i < length ms → p (s + i) ≡ slice_index_or ms i false)
    → j < length ms → p (s + j) ≡ true
    → slice_index_or (counts k ms) j 0 ≡ k + place_in (filter p (range_with_len s (length ms))) (s + j)
count-place p [] s k j same within is = absurd (omega (arith, within))
count-place p (b ∷ ms) s k zero same within is =
    let none : s + 0 ≡ s = omega arith in
    let here : p s ≡ true = ap p (sym none) ∙ is in
    ap (λ (ns : List ℕ). slice_index_or ns 0 0) (counts-step k b ms) ∙ (let e : k ≡ k + 0 = omega arith in e)
    ∙ ap (λ n. k + n) (sym (ap (λ c. cond (not c) (1 + place_in (filter p (range_with_len (s + 1) (length ms))) (s + 0)) 0)
    ((Decides-eqb s (s + 0)).1 (sym none))))
    ∙ ap (λ (us : List ℕ). k + place_in us (s + 0)) (sym (cond-true (p s) (s ∷ filter p (range_with_len (s + 1) (length ms)))
    (filter p (range_with_len (s + 1) (length ms))) here))
count-place p (b ∷ ms) s k (suc j) same within is =
    let none : s + 0 ≡ s = omega arith in
    let here : p s ≡ b = ap p (sym none) ∙ same 0 (omega arith) in
    let next : (i : ℕ) → (s + 1) + i ≡ s + suc i = λ i. omega arith in
    let more : (m : ℕ) → slice_index_or (counts m ms) j 0 ≡ m + place_in (filter p (range_with_len (s + 1) (length ms))) ((s + 1) + j) =
    λ m. count-place p ms (s + 1) m j (λ i l. ap p (next i) ∙ same (suc i) (omega (arith, l))) (omega (arith, within)) (ap p (next j) ∙ is)
    in
    by-mark b here more (next j)
  where
    by-mark : (c : Bool) → p s ≡ c → ((m : ℕ) → slice_index_or (counts m ms) j 0
        ≡ m + place_in (filter p (range_with_len (s + 1) (length ms))) ((s + 1) + j))
        → (s + 1) + j ≡ s + suc j → slice_index_or (counts k (c ∷ ms)) (suc j) 0
        ≡ k + place_in (filter p (range_with_len s (suc (length ms)))) (s + suc j)
    by-mark true here more next =
        let rest = filter p (range_with_len (s + 1) (length ms)) in
        let far : place_in (s ∷ rest) (s + suc j) ≡ 1 + place_in rest (s + suc j) =
        ap (λ c. cond (not c) (1 + place_in rest (s + suc j)) 0) (other s j) in
        let m = more (k + 1) in
        let same : place_in rest ((s + 1) + j) ≡ place_in rest (s + suc j) = ap (place_in rest) next in
        let whole : slice_index_or (counts (k + 1) ms) j 0 ≡ k + place_in (s ∷ rest) (s + suc j) = omega (arith, m, same, far) in
        whole ∙ ap (λ (us : List ℕ). k + place_in us (s + suc j)) (sym (cond-true (p s) (s ∷ rest) rest here))
    by-mark false here more next =
        let rest = filter p (range_with_len (s + 1) (length ms)) in
        more k ∙ ap (λ u. k + place_in rest u) next ∙ ap (λ (us : List ℕ). k + place_in us (s + suc j))
        (sym (cond-false (p s) (s ∷ rest) rest here))
