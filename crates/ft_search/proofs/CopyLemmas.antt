-- Lists that are copied place by place.
use Rattle.std.proofs.Common.{◌≡◌, sym, refl, ℕ, zero, suc, ◌+◌, ◌<◌, ◌≤◌, ℤ, ◌≤ℤ◌, List, [], ◌∷◌, length, Some, slice_get, arith}
use Rattle.std.specs.Prelude.{slice_set}
use Rattle.std.proofs.lemmas.Int.{ints}
use Rattle.ft_linear.specs.meaning.Form.{span_at}
use Rattle.std.proofs.lemmas.Option.{slice_get_within}

pub set-get : {X : Type 0} (xs ys : List X) (i : ℕ) (x : X) → length xs ≡ length ys → slice_get ys i ≡ Some x
    → ((u : ℕ) → u < i → slice_get xs u ≡ slice_get ys u) → (u : ℕ) → u < i + 1 → slice_get (slice_set xs i x) u ≡ slice_get ys u
set-get [] ys i x long got all u below = let within = slice_get_within ys i x got in absurd (omega (arith, long, within))
set-get (y ∷ xs) [] i x long got all u below = absurd (omega (arith, long))
set-get (y ∷ xs) (z ∷ ys) zero x long got all zero below = sym got
set-get (y ∷ xs) (z ∷ ys) zero x long got all (suc u) below = absurd (omega (arith, below))
set-get (y ∷ xs) (z ∷ ys) (suc i) x long got all zero below = all 0 (omega arith)
set-get (y ∷ xs) (z ∷ ys) (suc i) x long got all (suc u) below =
    set-get xs ys i x (omega (arith, long)) got (λ w less. all (suc w) (omega (arith, less))) u (omega (arith, below))

pub same-lists : {X : Type 0} (xs ys : List X) → length xs ≡ length ys → ((u : ℕ) → u < length xs → slice_get xs u ≡ slice_get ys u)
    → xs ≡ ys
same-lists [] [] long all = refl
same-lists [] (y ∷ ys) long all = absurd (omega (arith, long))
same-lists (x ∷ xs) [] long all = absurd (omega (arith, long))
same-lists (x ∷ xs) (y ∷ ys) long all =
    let here : x ≡ y = cc (all 0 (omega arith)) in
    let rest = same-lists xs ys (omega (arith, long)) (λ u below. all (suc u) (omega (arith, below))) in
    λ i. here i ∷ rest i

pub full-past : (spans : List (ℤ × ℤ)) (u : ℕ) → length spans ≤ u → (span_at spans u).0 ≤ℤ (span_at spans u).1
full-past [] u past = omega (arith, ints)
full-past (s ∷ spans) zero past = absurd (omega (arith, past))
full-past (s ∷ spans) (suc u) past = full-past spans u (omega (arith, past))
