-- What the definitions of an order and of a circle say together.
use Rattle.std.proofs.Common.{arith, ◌≡◌, sym, ap, refl, inl, inr, ℕ, zero, suc, ◌<◌, ◌≤◌, true, false, cond, eqb, List, [], ◌∷◌, length}
use Rattle.std.proofs.Common.{slice_get, Some}
use Rattle.std.proofs.lemmas.Bool.{eq-eqb, ne_eqb, eqb-true, cases_Bool}
use Rattle.std.proofs.lemmas.Option.{slice_get_within, same_Some}
use Rattle.std.specs.List.{IsDistinct, AllByRecursion, list_any}
use Rattle.std.proofs.lemmas.Map.Steps.{length-le_from_distinct_below}
use Rattle.ft_core.specs.meaning.Order.{IsOrder, IsCircle, HasRank, OrderGivesRank, RankExcludesCircles}
use Rattle.ft_core.specs.walk.Circles.{Leads, one, more}
use Rattle.ft_core.proofs.CircleLemmas.{first-back, reader-is-item}

-- along a way the rank falls
falls-along : (reads : List (List ℕ)) (rank : ℕ → ℕ) → HasRank reads rank → (k q : ℕ) → Leads reads k q → rank q < rank k
falls-along reads rank has k q (one r) = has.falls k q (reader-is-item reads k q r) r
falls-along reads rank has k q (more {m} w r) =
    let far = falls-along reads rank has k m w in
    let near = has.falls m q (reader-is-item reads m q r) r in
    omega (arith, far, near)

pub excludes : RankExcludesCircles
excludes reads rank has items circle = let way = first-back reads items circle in let less = falls-along reads rank has way.0 way.0 way.1 in
    absurd (omega (arith, less))

-- the first place of an item
abbrev place : List ℕ → ℕ → ℕ
place [] k = 0
place (x ∷ xs) k = cond (eqb x k) 0 (suc (place xs k))

place-has : (xs : List ℕ) (k p : ℕ) → slice_get xs p ≡ Some k → slice_get xs (place xs k) ≡ Some k
place-has [] k p is = is
place-has (x ∷ xs) k zero is = let same : x ≡ k = same_Some x k is in rw (eq-eqb x k same) is
place-has (x ∷ xs) k (suc p) is = elim (cases_Bool (eqb x k)) [
  | inl e ↦ rw e (ap Some (eqb-true x k e))
  | inr e ↦ rw e (place-has xs k p is)
]

abbrev StandsOnce : List ℕ → Type 0
StandsOnce xs = (k p r : ℕ) → slice_get xs p ≡ Some k → slice_get xs r ≡ Some k → p ≡ r

others : (x : ℕ) (xs : List ℕ) → ((p : ℕ) → slice_get xs p ≡ Some x → ⊥) → AllByRecursion (λ y. eqb x y ≡ false) xs
others x [] none = tt
others x (y ∷ xs) none = (ne_eqb x y (λ e. none 0 (ap Some (sym e))), others x xs (λ p is. none (suc p) is))

distinct : (xs : List ℕ) → StandsOnce xs → IsDistinct eqb xs
unfolding IsDistinct
distinct [] once = tt
distinct (x ∷ xs) once = (
  others x xs (λ p is. let e = once x 0 (suc p) refl is in absurd (omega (arith, e))),
  distinct xs (λ k p r a b. let e = once k (suc p) (suc r) a b in omega (arith, e)),
)

stands : (q : ℕ) (xs : List ℕ) → list_any (eqb q) xs ≡ true → (p : ℕ) × (slice_get xs p ≡ Some q)
stands q [] is = absurd (cc)
stands q (x ∷ xs) is = elim (cases_Bool (eqb q x)) [
  | inl e ↦ (0, ap Some (sym (eqb-true q x e)))
  | inr e ↦ let h = stands q xs (rw e at is) in (suc h.0, h.1)
]

-- an order has no more items than there are
short : (reads : List (List ℕ)) (order : List ℕ) → IsOrder reads order → length order ≤ length reads
short reads order is = length-le_from_distinct_below order (length reads) (distinct order is.once)
    (λ q has. let h = stands q order has in is.items q h.0 h.1)

pub gives-rank : OrderGivesRank
gives-rank reads order is = (
  place order,
  record {
    bounded = λ k item.
        let p = is.each k item in
        let within = slice_get_within order (place order k) k (place-has order k p.0 p.1) in
        let few = short reads order is in
        omega (arith, within, few);
    falls = λ k q item r.
        let p = is.each k item in
        let here = place-has order k p.0 p.1 in
        let b = is.before k q (place order k) here r in
        let e = is.once q (place order q) b.0 (place-has order q b.0 b.2) b.2 in
        omega (arith, e, b.1);
  },
)

-- items in an order do not read each other in a circle
pub ordered-acyclic : (reads : List (List ℕ)) (order : List ℕ) → IsOrder reads order → (items : List ℕ) → IsCircle reads items → ⊥
ordered-acyclic reads order is = let r = gives-rank reads order is in excludes reads r.0 r.1
