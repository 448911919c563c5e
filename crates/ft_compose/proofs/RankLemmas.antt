-- Items that read each other in no circle have a rank: the length of the longest way on from an item.
use Rattle.std.proofs.Common.{arith, ◌≡◌, sym, ap, subst, refl, inl, inr, ℕ, zero, suc, ◌+◌, ◌-◌, ◌<◌, ◌≤◌, Bool, true, cond, eqb}
use Rattle.std.proofs.Common.{List, [], ◌∷◌, length, take, slice_get, slice_index_or, get_or, Some}
use Rattle.std.specs.List.{list_any}
use Rattle.std.proofs.lemmas.Bool.{ne_eqb, eqb-true, cases_Bool, cases_lt}
use Rattle.std.proofs.lemmas.List.{length-take-le}
use Rattle.std.proofs.lemmas.List.Folds.{list_any_at}
use Rattle.std.proofs.lemmas.Map.Keys.{IsDistinct-from_apart}
use Rattle.std.proofs.lemmas.Map.Steps.{length-le_from_distinct_below}
use Rattle.std.proofs.lemmas.Option.{same_Some, slice_get_within, slice_get-get_or}
use Rattle.ft_core.specs.meaning.Order.{ReadsItem, AreItems, IsCircle, HasRank}
use Rattle.ft_core.specs.laws.Places.{none-at, contained, some-at}

-- whether a way of so many reads goes on from an item
abbrev walks : List (List ℕ) → ℕ → ℕ → Bool
walks reads zero k = true
walks reads (suc n) k = list_any (walks reads n) (slice_index_or reads k [])

-- each item of a way reads the next
abbrev IsWay : List (List ℕ) → List ℕ → Type 0
IsWay reads items = (k q p : ℕ) → slice_get items p ≡ Some k → slice_get items (suc p) ≡ Some q → ReadsItem reads k q

abbrev StandOnce : List ℕ → Type 0
StandOnce items = (k p r : ℕ) → slice_get items p ≡ Some k → slice_get items r ≡ Some k → p ≡ r

passing : {A : Type 0} (test : A → Bool) (xs : List A) → list_any test xs ≡ true → (i : ℕ) × (x : A) × (slice_get xs i ≡ Some x)
    × (test x ≡ true)
passing test [] is = absurd (cc)
passing test (x ∷ xs) is = elim (cases_Bool (test x)) [
  | inl e ↦ (0, x, refl, e)
  | inr e ↦ let h = passing test xs (rw e at is) in (suc h.0, h.1, h.2, h.3)
]

of-take : {X : Type 0} (n : ℕ) (xs : List X) (i : ℕ) (x : X) → slice_get (take n xs) i ≡ Some x → (i < n) × (slice_get xs i ≡ Some x)
of-take zero xs i x is = absurd (none-at i x is)
of-take (suc n) [] i x is = absurd (none-at i x is)
of-take (suc n) (a ∷ xs) zero x is = (omega arith, is)
of-take (suc n) (a ∷ xs) (suc i) x is = let h = of-take n xs i x is in (omega (arith, h.0), h.1)

one-before : (reads : List (List ℕ)) (k q : ℕ) (items : List ℕ) → ReadsItem reads k q → IsWay reads (q ∷ items) → IsWay reads (k ∷ q ∷ items)
one-before reads k q items r way a b zero first second = subst (λ (x : ℕ). ReadsItem reads x b) (same_Some k a first)
    (subst (λ (x : ℕ). ReadsItem reads k x) (same_Some q b second) r)
one-before reads k q items r way a b (suc p) first second = way a b p first second

-- the items of such a way
way-of : (reads : List (List ℕ)) (n k : ℕ) → walks reads n k ≡ true → (items : List ℕ) × (length items ≡ n) × IsWay reads (k ∷ items)
way-of reads zero k is = ([], refl, λ a q p first second. absurd (none-at p q second))
way-of reads (suc n) k is =
    let on = passing (walks reads n) (slice_index_or reads k []) is in
    let rest = way-of reads n on.1 on.3 in (
      on.1 ∷ rest.0,
      ap suc rest.1,
      one-before reads k on.1 rest.0 (contained (slice_index_or reads k []) on.0 on.1 on.2) rest.2,
    )

-- a way that comes back to its start, where nothing after the start stands twice
module _ (reads : List (List ℕ)) (x : ℕ) (rest : List ℕ) (way : IsWay reads (x ∷ rest)) (once : StandOnce rest) (p : ℕ)
    (back : slice_get rest p ≡ Some x) where
  abbrev round : List ℕ
  round = take (suc p) (x ∷ rest)

  long : length round ≡ suc p
  long = let inside = slice_get_within rest p x back in length-take-le (suc p) (x ∷ rest) (omega (arith, inside))

  round-once : (k i j : ℕ) → slice_get round i ≡ Some k → slice_get round j ≡ Some k → i ≡ j
  round-once k zero zero a b = refl
  round-once k zero (suc j) a b =
      let at = of-take (suc p) (x ∷ rest) (suc j) k b in
      let same : j ≡ p = once k j p at.1 (subst (λ (y : ℕ). slice_get rest p ≡ Some y) (same_Some x k a) back) in
      absurd (omega (arith, same, at.0))
  round-once k (suc i) zero a b =
      let at = of-take (suc p) (x ∷ rest) (suc i) k a in
      let same : i ≡ p = once k i p at.1 (subst (λ (y : ℕ). slice_get rest p ≡ Some y) (same_Some x k b) back) in
      absurd (omega (arith, same, at.0))
  round-once k (suc i) (suc j) a b =
      ap suc (once k i j (of-take (suc p) (x ∷ rest) (suc i) k a).1 (of-take (suc p) (x ∷ rest) (suc j) k b).1)

  circle : IsCircle reads round
  circle = record {
    some = omega (arith, long);
    next = λ k q i a b.
        let after : i + 1 ≡ suc i = omega arith in
        way k q i (of-take (suc p) (x ∷ rest) i k a).1
        (of-take (suc p) (x ∷ rest) (suc i) q (subst (λ (j : ℕ). slice_get round j ≡ Some q) after b)).1;
    closes = λ k q a b.
        let last : length round - 1 ≡ p = omega (arith, long) in
        let end : slice_get (x ∷ rest) p ≡ Some k = (of-take (suc p) (x ∷ rest) p k
        (subst (λ (j : ℕ). slice_get round j ≡ Some k) last a)).1 in
        subst (λ (y : ℕ). ReadsItem reads k y) (same_Some x q b) (way k x p end back);
    once = round-once;
  }

module _ (reads : List (List ℕ)) (items : AreItems reads) (none : (places : List ℕ) → IsCircle reads places → ⊥) where
  -- so no item stands twice on a way
  way-once : (places : List ℕ) → IsWay reads places → StandOnce places
  way-once [] way = λ k i j a b. absurd (none-at i k a)
  way-once (x ∷ rest) way = on (way-once rest (λ k q p a b. way k q (suc p) a b))
    where
      on : StandOnce rest → StandOnce (x ∷ rest)
      on once k zero zero a b = refl
      on once k zero (suc j) a b = absurd (none _ (circle reads x rest way once j
          (subst (λ (y : ℕ). slice_get rest j ≡ Some y) (sym (same_Some x k a)) b)))
      on once k (suc i) zero a b = absurd (none _ (circle reads x rest way once i
          (subst (λ (y : ℕ). slice_get rest i ≡ Some y) (sym (same_Some x k b)) a)))
      on once k (suc i) (suc j) a b = ap suc (once k i j a b)

  way-inside : (k : ℕ) (rest : List ℕ) → k < length reads → IsWay reads (k ∷ rest) → (q p : ℕ) → slice_get (k ∷ rest) p ≡ Some q
      → q < length reads
  way-inside k rest inside way q zero at = subst (λ (y : ℕ). y < length reads) (same_Some k q at) inside
  way-inside k rest inside way q (suc p) at =
      let within = slice_get_within (k ∷ rest) (suc p) q at in
      let before = some-at (k ∷ rest) p (omega (arith, within)) in
      items before.0 q (way before.0 q p before.1 at)

  -- and a way has fewer reads than there are items
  none-as-long : (k : ℕ) → k < length reads → walks reads (length reads) k ≡ true → ⊥
  none-as-long k inside is =
      let way = way-of reads (length reads) k is in
      let once = way-once (k ∷ way.0) way.2 in
      let few : length (k ∷ way.0) ≤ length reads = length-le_from_distinct_below (k ∷ way.0) (length reads)
      (IsDistinct-from_apart eqb (k ∷ way.0) (λ i j d less within.
      ne_eqb (get_or (k ∷ way.0) i d) (get_or (k ∷ way.0) j d) (λ same.
      let one = once (get_or (k ∷ way.0) j d) i j
      (subst (λ (y : ℕ). slice_get (k ∷ way.0) i ≡ Some y) same (slice_get-get_or (k ∷ way.0) i d (omega (arith, less, within))))
      (slice_get-get_or (k ∷ way.0) j d within) in
      absurd (omega (arith, less, one)))))
      (λ q has.
      let at = passing (eqb q) (k ∷ way.0) has in
      let same : q ≡ at.1 = eqb-true q at.1 at.3 in
      subst (λ (y : ℕ). y < length reads) (sym same) (way-inside k way.0 inside way.2 at.1 at.0 at.2)) in
      let many = way.1 in
      omega (arith, few, many)

-- the length of the longest way from an item, up to so many reads
abbrev longest : List (List ℕ) → ℕ → ℕ → ℕ
longest reads zero k = zero
longest reads (suc n) k = cond (walks reads (suc n) k) (suc n) (longest reads n k)

longest-within : (reads : List (List ℕ)) (n k : ℕ) → longest reads n k ≤ n
longest-within reads zero k = omega arith
longest-within reads (suc n) k = elim (cases_Bool (walks reads (suc n) k)) [
  | inl e ↦ rw e (omega arith)
  | inr e ↦ let less = longest-within reads n k in rw e (omega (arith, less))
]

longest-walks : (reads : List (List ℕ)) (n k : ℕ) → walks reads (longest reads n k) k ≡ true
longest-walks reads zero k = refl
longest-walks reads (suc n) k = elim (cases_Bool (walks reads (suc n) k)) [
  | inl e ↦ rw e e
  | inr e ↦ rw e (longest-walks reads n k)
]

longest-most : (reads : List (List ℕ)) (n k m : ℕ) → m ≤ n → walks reads m k ≡ true → m ≤ longest reads n k
longest-most reads zero k m low is = low
longest-most reads (suc n) k m low is = elim (cases_Bool (walks reads (suc n) k)) [
  | inl e ↦ rw e low
  | inr e ↦ elim (cases_lt m (suc n)) [
    | inl less ↦ let had = longest-most reads n k m (omega (arith, less)) is in rw e had
    | inr past ↦ let same : m ≡ suc n = omega (arith, low, past) in absurd (cc)
  ]
]

pub has-rank : (reads : List (List ℕ)) → AreItems reads → ((places : List ℕ) → IsCircle reads places → ⊥)
    → (rank : ℕ → ℕ) × HasRank reads rank
has-rank reads items none = (longest reads (length reads), record { bounded = bounded; falls = falls })
  where
    bounded : (k : ℕ) → k < length reads → longest reads (length reads) k < length reads
    bounded k inside = elim (cases_lt (longest reads (length reads) k) (length reads)) [
      | inl less ↦ less
      | inr past ↦
          let within = longest-within reads (length reads) k in
          let all : longest reads (length reads) k ≡ length reads = omega (arith, within, past) in
          absurd (none-as-long reads items none k inside
          (subst (λ (n : ℕ). walks reads n k ≡ true) all (longest-walks reads (length reads) k)))
    ]

    falls : (k q : ℕ) → k < length reads → ReadsItem reads k q → longest reads (length reads) q < longest reads (length reads) k
    falls k q inside r =
        let low = bounded q (items k q r) in
        let on : walks reads (suc (longest reads (length reads) q)) k ≡ true =
        list_any_at (walks reads (longest reads (length reads) q)) (slice_index_or reads k []) r.0 q r.1
        (subst (λ (y : ℕ). walks reads (longest reads (length reads) q) y ≡ true) (sym r.2) (longest-walks reads (length reads) q)) in
        let most = longest-most reads (length reads) k (suc (longest reads (length reads) q)) (omega (arith, low)) on in
        omega (arith, most)
