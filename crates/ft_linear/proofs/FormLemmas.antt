-- Factors of a form by place, and sums of one factor more.
use Rattle.std.proofs.Common.{◌≡◌, ◌∙◌, sym, ap, subst, ℕ, zero, suc, ◌+◌, ◌<◌, ℤ, ◌+ℤ◌, ◌*ℤ◌, List, [], ◌∷◌, ◌++◌, length, take, w64}
use Rattle.std.proofs.Common.{arith}
use Rattle.std.specs.Prelude.{slice_index_or}
use Rattle.std.proofs.lemmas.Int.{ints, to_z-of_z, fits_signed_from_abs}
use mir.Val.{to_z, of_z}
use Rattle.std.proofs.lemmas.List.{take_more}
use Rattle.ft_linear.specs.meaning.Form.{Factor, IsSmall, AreRising, sum_at, most, least, high_end, low_end, span_at}

pub small-at : (from : ℕ) (fs : List Factor) (i : ℕ) (d : Factor) → AreRising from fs → i < length fs → IsSmall (slice_index_or fs i d).1
small-at from [] i d h below = absurd (omega (arith, below))
small-at from (f ∷ fs) zero d h below = h.2
small-at from (f ∷ fs) (suc i) d h below = small-at (f.0 + 1) fs i d h.3 (omega (arith, below))

sum-push : (x : ℕ → ℤ) (fs : List Factor) (f : Factor) → sum_at x (fs ++ f ∷ []) ≡ sum_at x fs +ℤ (f.1 *ℤ x f.0)
sum-push x [] f = omega (arith, ints)
sum-push x (g ∷ fs) f = let r = sum-push x fs f in omega (arith, ints, r)

most-push : (spans : List (ℤ × ℤ)) (fs : List Factor) (f : Factor) → most spans (fs ++ f ∷ []) ≡ most spans fs
    +ℤ high_end f.1 (span_at spans f.0)
most-push spans [] f = omega (arith, ints)
most-push spans (g ∷ fs) f = let r = most-push spans fs f in omega (arith, ints, r)

least-push : (spans : List (ℤ × ℤ)) (fs : List Factor) (f : Factor) → least spans (fs ++ f ∷ []) ≡ least spans fs
    +ℤ low_end f.1 (span_at spans f.0)
least-push spans [] f = omega (arith, ints)
least-push spans (g ∷ fs) f = let r = least-push spans fs f in omega (arith, ints, r)

module _ (fs : List Factor) (i : ℕ) (d : Factor) (within : i < length fs) where
  pub sum-more : (x : ℕ → ℤ) → sum_at x (take (i + 1) fs) ≡ sum_at x (take i fs)
      +ℤ ((slice_index_or fs i d).1 *ℤ x (slice_index_or fs i d).0)
  sum-more x = ap (sum_at x) (take_more fs i d within) ∙ sum-push x (take i fs) (slice_index_or fs i d)

  pub most-more : (spans : List (ℤ × ℤ)) → most spans (take (i + 1) fs) ≡ most spans (take i fs)
      +ℤ high_end (slice_index_or fs i d).1 (span_at spans (slice_index_or fs i d).0)
  most-more spans = ap (most spans) (take_more fs i d within) ∙ most-push spans (take i fs) (slice_index_or fs i d)

  pub least-more : (spans : List (ℤ × ℤ)) → least spans (take (i + 1) fs) ≡ least spans (take i fs)
      +ℤ low_end (slice_index_or fs i d).1 (span_at spans (slice_index_or fs i d).0)
  least-more spans = ap (least spans) (take_more fs i d within) ∙ least-push spans (take i fs) (slice_index_or fs i d)

-- a small number is the same after it is read
pub small-same : (z : ℤ) → IsSmall z → to_z w64 (of_z w64 z) ≡ z
small-same z h = to_z-of_z w64 z (fits_signed_from_abs w64 z (omega (arith, h)))

pub small-read : (z : ℤ) → IsSmall z → IsSmall (to_z w64 (of_z w64 z))
small-read z h = subst IsSmall (sym (small-same z h)) h
