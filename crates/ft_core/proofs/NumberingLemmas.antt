-- What items read by other numbers is what they read by their own.
use Rattle.std.proofs.Common.{arith, ◌≡◌, ◌∙◌, sym, ap, subst, refl, ◌⊎◌, inl, inr, ⊎_elim, ℕ, zero, suc, ◌+◌, ◌<◌, ◌≤◌, List, [], ◌∷◌, map}
use Rattle.std.proofs.Common.{replicate, length, slice_get, slice_set, Some, Contains}
use Rattle.std.specs.Prelude.{slice_index_or}
use Rattle.std.proofs.lemmas.List.{length-set, length-replicate, get_or-map, length-map}
use Rattle.std.proofs.lemmas.Option.{slice_get_within, slice_get-get_or, get_or_from_slice_get, same_Some}
use Rattle.ft_core.specs.declared.tables.Memory.{Memory}
use Rattle.ft_core.specs.declared.tables.Table.{Table}
use Rattle.ft_core.specs.walk.Gathering.{AreRenumbered}
use Rattle.ft_core.specs.meaning.Items.{ArePlainReads, AreReads, IsNumbering, ReadsByNumber}
use Rattle.ft_core.specs.meaning.Order.{AreItems, ReadsItem}
use Rattle.ft_core.proofs.ItemLemmas.{are-items}
use Rattle.ft_core.specs.laws.Places.{set-here, set-there, some-at, place-of, contained}

-- the numbers of what an item reads
abbrev list_of : List ℕ → List (List ℕ) → ℕ → List ℕ
list_of numbers reads k = map (λ q. slice_index_or numbers q 0) (slice_index_or reads k [])

-- the lists of the first items are at their places
pub record AreMoved (numbers : List ℕ) (reads : List (List ℕ)) (done : ℕ) (lists : List (List ℕ)) : Type 0 where
  pub long : length lists ≡ length reads
  pub each : (k n : ℕ) → k < done → slice_get numbers k ≡ Some n → slice_get lists n ≡ Some (list_of numbers reads k)

pub none-moved : (numbers : List ℕ) (reads lists : List (List ℕ)) (count : ℕ) → count ≡ length reads → lists ≡ replicate count []
    → AreMoved numbers reads 0 lists
none-moved numbers reads lists count same are = record {
  long = ap length are ∙ length-replicate count [] ∙ same;
  each = λ k n less is. absurd (omega (arith, less));
}

pub one-moved : (numbers : List ℕ) (reads lists new : List (List ℕ)) (done n : ℕ) → IsNumbering (length reads) numbers
    → slice_get numbers done ≡ Some n
    → AreMoved numbers reads done lists → new ≡ slice_set lists n (list_of numbers reads done) → AreMoved numbers reads (done + 1) new
one-moved numbers reads lists new done n numbering is moved set = record {
  long = ap length set ∙ length-set lists n _ ∙ moved.long;
  each = λ k m less at. subst (λ (l : List (List ℕ)). slice_get l m ≡ Some (list_of numbers reads k)) (sym set) (one k m less at);
}
  where
    here : (k m : ℕ) → k ≡ done → slice_get numbers k ≡ Some m → slice_get (slice_set lists n (list_of numbers reads done)) m
        ≡ Some (list_of numbers reads k)
    here k m same at =
        let number : n ≡ m = same_Some n m (sym is ∙ ap (slice_get numbers) (sym same) ∙ at) in
        let below = numbering.below done n is in
        let long = moved.long in
        subst (λ (j : ℕ). slice_get (slice_set lists n (list_of numbers reads done)) j ≡ Some (list_of numbers reads k)) number
        (subst (λ (j : ℕ). slice_get (slice_set lists n (list_of numbers reads done)) n ≡ Some (list_of numbers reads j)) (sym same)
        (set-here lists n (list_of numbers reads done) (omega (arith, below, long))))

    there : (k m : ℕ) → k < done → slice_get numbers k ≡ Some m → slice_get (slice_set lists n (list_of numbers reads done)) m
        ≡ Some (list_of numbers reads k)
    there k m less at =
        set-there lists n (list_of numbers reads done) m
        (λ same. let e = numbering.once k done n (at ∙ ap Some same) is in omega (arith, e, less))
        ∙ moved.each k m less at

    one : (k m : ℕ) → k < done + 1 → slice_get numbers k ≡ Some m → slice_get (slice_set lists n (list_of numbers reads done)) m
        ≡ Some (list_of numbers reads k)
    one k m less at = ⊎_elim (λ below. there k m below at) (λ same. here k m same at) (split k done less)
      where
        split : (k done : ℕ) → k < done + 1 → (k < done) ⊎ (k ≡ done)
        split k zero less = inr (omega (arith, less))
        split zero (suc done) less = inl (omega arith)
        split (suc k) (suc done) less = ⊎_elim (λ below. inl (omega (arith, below))) (λ same. inr (ap suc same))
            (split k done (omega (arith, less)))

pub all-moved : (numbers : List ℕ) (reads lists : List (List ℕ)) (done : ℕ) → IsNumbering (length reads) numbers → length reads ≤ done
    → AreMoved numbers reads done lists → AreRenumbered numbers reads lists
all-moved numbers reads lists done numbering past moved = record {
  long = moved.long;
  each = λ k n is. let within = slice_get_within numbers k n is in let long = numbering.long in
      moved.each k n (omega (arith, within, long, past)) is;
}

-- what an item reads has a number
pub is-item : (numbers : List ℕ) (reads : List (List ℕ)) (k : ℕ) (items : List ℕ) → IsNumbering (length reads) numbers → AreItems reads
    → items ≡ slice_index_or reads k []
    → (q : ℕ) → Contains items q → q < length numbers
is-item numbers reads k items numbering are is q has =
    let below = are k q (subst (λ (l : List ℕ). Contains l q) is has) in let long = numbering.long in omega (arith, below, long)

-- the number of an item is that of a place
pub number-below : (numbers : List ℕ) (reads lists : List (List ℕ)) (k : ℕ) → IsNumbering (length reads) numbers
    → AreMoved numbers reads k lists → k < length reads
    → slice_index_or numbers k 0 < length lists
number-below numbers reads lists k numbering moved within =
    let long = numbering.long in
    let below = numbering.below k (slice_index_or numbers k 0) (slice_get-get_or numbers k 0 (omega (arith, within, long))) in
    let listed = moved.long in
    omega (arith, below, listed)

-- an item of a list has its number among the numbers of the list, and each number there is of one
mapped-in : (f : ℕ → ℕ) (items : List ℕ) (q m : ℕ) → Contains items q → f q ≡ m → Contains (map f items) m
mapped-in f items q m has is =
    (has.0, omega (arith, has.1, length-map items f), get_or-map f items has.0 q m has.1 ∙ ap f has.2 ∙ is)

mapped-out : (f : ℕ → ℕ) (items : List ℕ) (m : ℕ) → Contains (map f items) m → (q : ℕ) × Contains items q × (f q ≡ m)
mapped-out f items m has =
    let within : has.0 < length items = omega (arith, has.1, length-map items f) in
    let found = some-at items has.0 within in (
      found.0,
      contained items has.0 found.0 found.1,
      ap f (sym (get_or_from_slice_get items has.0 found.0 found.0 found.1)) ∙ sym (get_or-map f items has.0 found.0 m within) ∙ has.2,
    )

-- the lists by the caller's numbers
module _ (vars : ℕ) (memories : List Memory) (tables : List Table) (numbers : List ℕ) (reads lists : List (List ℕ))
    (numbering : IsNumbering (vars + length memories) numbers) (plain : ArePlainReads vars memories tables reads)
    (moved : AreRenumbered numbers reads lists) where
  list-at : (k n : ℕ) → slice_get numbers k ≡ Some n → slice_index_or lists n [] ≡ list_of numbers reads k
  list-at k n is = get_or_from_slice_get lists n _ [] (moved.each k n is)

  read-in : (n m : ℕ) → ReadsByNumber vars memories tables numbers n m → ReadsItem lists n m
  read-in n m (k, q, at, to, within) =
      let inside = slice_get_within numbers k n at in
      let long = numbering.long in
      subst (λ (l : List ℕ). Contains l m) (sym (list-at k n at))
      (mapped-in (λ q. slice_index_or numbers q 0) (slice_index_or reads k []) q m (plain.each k q (omega (arith, inside, long)) within)
      (get_or_from_slice_get numbers q m 0 to))

  -- a list that is not there has no number
  inside : (n m : ℕ) → ReadsItem lists n m → n < length lists
  inside n m has = by_place n lists has
    where
      by_place : (n : ℕ) (lists : List (List ℕ)) → Contains (slice_index_or lists n []) m → n < length lists
      by_place n [] has = absurd (omega (arith, has.1))
      by_place zero (l ∷ lists) has = omega arith
      by_place (suc n) (l ∷ lists) has = let less = by_place n lists has in omega (arith, less)

  read-out : (n m : ℕ) → ReadsItem lists n m → ReadsByNumber vars memories tables numbers n m
  read-out n m has =
      let within = inside n m has in
      let listed = moved.long in
      let long = plain.long in
      let from = numbering.each n (omega (arith, within, listed, long)) in
      let item = mapped-out (λ q. slice_index_or numbers q 0) (slice_index_or reads from.0 []) m
      (subst (λ (l : List ℕ). Contains l m) (list-at from.0 n from.1) has) in
      let below = are-items vars memories tables reads plain from.0 item.0 item.1 in
      let count = numbering.long in (
        from.0,
        item.0,
        from.1,
        slice_get-get_or numbers item.0 0 (omega (arith, below, long, count)) ∙ ap Some item.2,
        plain.only from.0 item.0 item.1,
      )

  pub are-reads-by : AreReads vars memories tables numbers lists
  are-reads-by = record { long = moved.long ∙ plain.long; each = read-in; only = read-out }

  pub are-numbered-items : AreItems lists
  are-numbered-items n m has =
      let by = read-out n m has in
      let below = numbering.below by.1 m by.3 in
      let listed = moved.long in
      let long = plain.long in
      omega (arith, below, listed, long)
