-- Lists of parts that grow: by those of one scan, by one part, by one place that is chosen.
use Rattle.std.proofs.Common.{◌≡◌, ◌∙◌, sym, ap, ℕ, ◌+◌, ◌≤◌, Bool, true, false, cond, List, [], ◌∷◌, ◌++◌, map}
use Rattle.std.proofs.Common.{filter, length, take, slice_get, slice_index_or, None, Some, ◌<◌, arith}
use Rattle.std.specs.List.{range_with_len}
use Rattle.std.proofs.Math.Numerals.{add-one}
use Rattle.std.proofs.lemmas.Bool.{cond-true, cond-false}
use Rattle.std.proofs.lemmas.List.{append_assoc, append-nil, map-id, map_push, take_more}
use Rattle.std.proofs.lemmas.List.FromFn.{map-range_with_len_more, filter_of_map_range_with_len_more}
use Rattle.ft_core.specs.declared.tables.Var.{Var}
use Rattle.ft_core.specs.meaning.Kinds.{Kinds, is_of}
use Rattle.ft_oblige.specs.meaning.Lists.{by_scan}

module _ {A : Type 0} where
  -- by those of one scan
  pub scan-more : (f : ℕ → List A) (n : ℕ) (initial now new : List A) → now ≡ initial ++ by_scan f n → new ≡ now ++ f n
      → new ≡ initial ++ by_scan f (n + 1)
  scan-more f n initial now new is one =
      one ∙ ap (λ xs. xs ++ f n) is ∙ append_assoc initial (by_scan f n) (f n) ∙ ap (λ k. initial ++ by_scan f k) (sym (add-one n))

  pub scan-end : (f : ℕ → List A) (i n : ℕ) (initial now : List A) → n ≤ i → i ≤ n → now ≡ initial ++ by_scan f i
      → now ≡ initial ++ by_scan f n
  scan-end f i n initial now past within is =
      let same : i ≡ n = omega (arith, past, within) in is ∙ ap (λ k. initial ++ by_scan f k) same

  -- by what there is for one more number
  pub place-more : (f : ℕ → A) (n : ℕ) (initial now new : List A) → now ≡ initial ++ map f (range_with_len 0 n) → new ≡ now ++ f n ∷ []
      → new ≡ initial ++ map f (range_with_len 0 (n + 1))
  place-more f n initial now new is one =
      one ∙ ap (λ xs. xs ++ f n ∷ []) is ∙ append_assoc initial (map f (range_with_len 0 n)) (f n ∷ [])
      ∙ ap (λ xs. initial ++ xs) (sym (map-range_with_len_more f 0 n n (omega arith)))

  pub place-end : (f : ℕ → A) (i n : ℕ) (initial now : List A) → n ≤ i → i ≤ n → now ≡ initial ++ map f (range_with_len 0 i)
      → now ≡ initial ++ map f (range_with_len 0 n)
  place-end f i n initial now past within is =
      let same : i ≡ n = omega (arith, past, within) in is ∙ ap (λ k. initial ++ map f (range_with_len 0 k)) same

  -- four lists, each added in turn
  pub four-in-turn : (a b c d initial first second third last : List A) → first ≡ initial ++ a → second ≡ first ++ b → third ≡ second ++ c
      → last ≡ third ++ d → last ≡ initial ++ (a ++ b ++ c ++ d)
  four-in-turn a b c d initial first second third last with_a with_b with_c with_d =
      with_d ∙ ap (λ xs. xs ++ d) (with_c ∙ ap (λ xs. xs ++ c) (with_b ∙ ap (λ xs. xs ++ b) with_a ∙ append_assoc initial a b)
      ∙ append_assoc initial (a ++ b) c) ∙ append_assoc initial (a ++ b ++ c) d

-- by the image of one more item
pub item-more : {A B : Type 0} (f : A → B) (d : A) (xs : List A) (i : ℕ) (initial now new : List B) → i < length xs
    → now ≡ initial ++ map f (take i xs) → new ≡ now ++ f (slice_index_or xs i d) ∷ [] → new ≡ initial ++ map f (take (i + 1) xs)
item-more f d xs i initial now new l is one =
    one ∙ ap (λ ys. ys ++ f (slice_index_or xs i d) ∷ []) is ∙ append_assoc initial (map f (take i xs)) (f (slice_index_or xs i d) ∷ [])
    ∙ ap (λ ys. initial ++ ys) (sym (ap (map f) (take_more xs i d l) ∙ map_push f (take i xs) (slice_index_or xs i d)))

module _ (p : ℕ → Bool) (n : ℕ) where
  range-more : filter p (range_with_len 0 (n + 1)) ≡ filter p (range_with_len 0 n) ++ cond (p n) (n ∷ []) []
  range-more = ap (filter p) (sym (map-id (range_with_len 0 (n + 1)))) ∙ filter_of_map_range_with_len_more p (λ k. k) 0 n n (omega arith)
      ∙ ap (λ xs. filter p xs ++ cond (p n) (n ∷ []) []) (map-id (range_with_len 0 n))

  module _ (now new : List ℕ) (is : now ≡ filter p (range_with_len 0 n)) where
    pub chosen-more : p n ≡ true → new ≡ now ++ n ∷ [] → new ≡ filter p (range_with_len 0 (n + 1))
    chosen-more passes one = one ∙ ap (λ xs. xs ++ n ∷ []) is
        ∙ ap (λ xs. filter p (range_with_len 0 n) ++ xs) (sym (cond-true (p n) (n ∷ []) [] passes)) ∙ sym range-more

    pub passed-over : p n ≡ false → new ≡ now → new ≡ filter p (range_with_len 0 (n + 1))
    passed-over fails same = same ∙ is ∙ sym (append-nil (filter p (range_with_len 0 n)))
        ∙ ap (λ xs. filter p (range_with_len 0 n) ++ xs) (sym (cond-false (p n) (n ∷ []) [] fails)) ∙ sym range-more

-- whether a variable that is there is of some kinds
pub is-of-there : (vars : List Var) (kinds : Kinds) (x : ℕ) (v : Var) → slice_get vars x ≡ Some v → is_of vars kinds x ≡ kinds x v
is-of-there vars kinds x v there = ap (λ o. elim o [ None ↦ false | Some w ↦ kinds x w ]) there
