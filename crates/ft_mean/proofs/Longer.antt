-- A trace that fits goes on by one scan.
use Rattle.std.proofs.Common.{◌≡◌, ◌∙◌, sym, ap, subst, ℕ, zero, suc, ◌+◌, ◌<◌, ◌≤◌, ℤ, pos, List, [], ◌∷◌, ◌++◌, length, slice_index_or}
use Rattle.std.proofs.Common.{arith, ⊎_elim, ext_get_or, cond}
use Rattle.std.proofs.lemmas.Bool.{cases_lt}
use Rattle.std.proofs.lemmas.List.{length_push, get_or_push, get_or_append_left}
use Rattle.ft_core.specs.declared.tables.Tables.{Tables}
use Rattle.ft_core.specs.declared.tables.Var.{Var}
use Rattle.ft_core.specs.declared.tables.Side.{Side}
use Rattle.ft_core.specs.meaning.Kinds.{Kinds, place_of, is_of, given_kinds, side_kinds}
use Rattle.ft_mean.specs.meaning.Reading.{Scans, reading_of, init_of, IsVar, IsListOf}
use Rattle.ft_mean.specs.meaning.Proper.{AllProper}
use Rattle.ft_mean.specs.meaning.Fits.{Fits, side_reading}
use Rattle.ft_mean.proofs.Rows.{same_rows}
use Rattle.ft_mean.proofs.Traces.{one_trace, same_scan, reading_at, reading_range}
use Rattle.ft_mean.proofs.WellFormed.{IsOf, opened}

-- the scans before the last tell the same
pub reading-push : (S : Tables) (kinds : Kinds) (h : Scans) (g : List ℤ) (t x : ℕ) → t < length h
    → reading_of S kinds (h ++ g ∷ []) t x ≡ reading_of S kinds h t x
reading-push S kinds h g t x l =
    ap (λ row. cond (is_of S.vars kinds x) (slice_index_or row (place_of kinds S.vars x) (pos 0)) (init_of S x))
    (get_or_append_left h (g ∷ []) [] t l)

module _ (S : Tables) (proper : AllProper S) (s : Side) (h k r q : Scans) (fr : Fits S s h r) (fq : Fits S s k q)
    (n : ℕ) (in_r : n ≤ length r) (in_q : n ≤ length q)
    (given : (j x : ℕ) (v : Var) → j < n → IsVar S (given_kinds s) x v → reading_of S (given_kinds s) h j x
    ≡ reading_of S (given_kinds s) k j x) where
  agree : (m : ℕ) → m ≤ n → (j x : ℕ) → j < m → IsOf S (side_kinds s) x → side_reading S s r j x ≡ side_reading S s q j x
  agree zero below j x l on = absurd (omega (arith, l))
  agree (suc m) below j x l on = ⊎_elim
      (λ less. agree m (omega (arith, below)) j x less on)
      (λ most. let eq : m ≡ j = omega (arith, l, most) in
      subst (λ i. side_reading S s r i x ≡ side_reading S s q i x) eq
      (same_scan S (opened S) proper s (side_reading S s r) (side_reading S s q) m
      (λ i y less. agree m (omega (arith, below)) i y less)
      (λ i y v m' is. reading_range S (opened S) (side_kinds s) r fr.values i y v (omega (arith, m', below, in_r)) is)
      (λ y v is. fr.same_given m y v (omega (arith, below, in_r)) is ∙ given m y v (omega (arith, below)) is
      ∙ sym (fq.same_given m y v (omega (arith, below, in_q)) is))
      (fr.follows m (omega (arith, below, in_r)))
      (fq.follows m (omega (arith, below, in_q)))
      x on))
      (cases_lt j m)

  -- traces over lists with the same first n scans have the same first n scans
  pub same_front : (i : ℕ) → i < n → slice_index_or r i [] ≡ slice_index_or q i []
  same_front i l = same_rows (side_kinds s) S.vars _ _ (fr.values.widths i (omega (arith, l, in_r)))
      (fq.values.widths i (omega (arith, l, in_q)))
      (λ x v is on. sym (reading_at S (side_kinds s) r i x v (is, on)) ∙ agree n (omega arith) i x l (v, (is, on))
      ∙ reading_at S (side_kinds s) q i x v (is, on))

-- the one trace over a longer list goes on from the one over the list
pub fits_longer : (S : Tables) → AllProper S → (s : Side) (h r : Scans) (g : List ℤ) → IsListOf S (given_kinds s) (h ++ g ∷ [])
    → Fits S s h r
    → (row : List ℤ) × Fits S s (h ++ g ∷ []) (r ++ row ∷ [])
fits_longer S proper s h r g in_range fr =
    let one = one_trace S proper s (h ++ g ∷ []) in_range in
    let q : Scans = one.0 in
    let fq : Fits S s (h ++ g ∷ []) q = one.1.is in
    let long : length q ≡ length r + 1 = fq.lengths ∙ length_push h g ∙ ap (λ n. n + 1) (sym fr.lengths) in
    let row : List ℤ = slice_index_or q (length r) [] in
    let same : r ++ row ∷ [] ≡ q = ext_get_or [] (r ++ row ∷ []) q (length_push r row ∙ sym long) (λ i l. ⊎_elim
    (λ less. get_or_append_left r (row ∷ []) [] i less
    ∙ same_front S proper s h (h ++ g ∷ []) r q fr fq (length r) (omega arith) (omega (arith, long))
    (λ j x v b is. sym (reading-push S (given_kinds s) h g j x (omega (arith, b, fr.lengths)))) i less)
    (λ most. let eq : length r ≡ i = omega (arith, l, length_push r row, most) in
    get_or_push r row [] i eq ∙ ap (λ j. slice_index_or q j []) eq)
    (cases_lt i (length r))) in
    (row, subst (Fits S s (h ++ g ∷ [])) (sym same) fq)
