-- Values are put at places of a row, one after another.
use Rattle.std.proofs.Common.{◌≡◌, ◌∙◌, sym, ap, subst, ℕ, ◌+◌, ◌<◌, ℤ, pos, List, length, slice_get, slice_set, slice_index_or, Some}
use Rattle.std.proofs.Common.{arith, ⊎_elim, length-set}
use Rattle.std.proofs.lemmas.Bool.{cases_lt}
use Rattle.std.proofs.lemmas.List.{get_or-set_other, get_or-set_same}
use Rattle.std.proofs.lemmas.Option.{same_Some}
use Rattle.ft_scan.specs.steps.Put.{ArePut, AreOnce}

pub put_more : (places : List ℕ) (values old : List ℤ) → AreOnce places → (n p : ℕ) (row : List ℤ) (z : ℤ) → slice_get places n ≡ Some p
    → p < length row
    → z ≡ slice_index_or values n (pos 0) → ArePut places values n old row → ArePut places values (n + 1) old (slice_set row p z)
put_more places values old once n p row z there inside value so_far = record {
  width = length-set row p z ∙ so_far.width;
  put = λ k q l e. ⊎_elim
      (λ less. get_or-set_other row p q z (pos 0) (λ same. let is = once k n p (e ∙ ap Some same) there in omega (arith, less, is))
      ∙ so_far.put k q less e)
      (λ most. let is : n ≡ k = omega (arith, l, most) in
      let same : p ≡ q = same_Some p q (sym there ∙ ap (slice_get places) is ∙ e) in
      subst (λ r. slice_index_or (slice_set row p z) r (pos 0) ≡ slice_index_or values k (pos 0)) same
      (get_or-set_same row p z (pos 0) inside ∙ value ∙ ap (λ i. slice_index_or values i (pos 0)) is))
      (cases_lt k n);
  rest = λ q h. get_or-set_other row p q z (pos 0) (λ same. h n (omega arith) (there ∙ ap Some (sym same)))
      ∙ so_far.rest q (λ k l e. h k (omega (arith, l)) e);
}
