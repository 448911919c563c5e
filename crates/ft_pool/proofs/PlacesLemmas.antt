-- A list with one value put into a place, and without its last.
use Rattle.std.proofs.Common.{◌≡◌, ℕ, zero, suc, ◌+◌, ◌-◌, ◌<◌, ◌≤◌, List, [], ◌∷◌, ◌++◌, length, take, refl, sym, ap, subst, ◌∙◌, Some}
use Rattle.std.proofs.Common.{slice_get, arith}
use Rattle.std.specs.Prelude.{slice_index_or, slice_set}
use Rattle.std.proofs.lemmas.List.{get_or-take, length-take-le, take_more}
use Rattle.std.proofs.lemmas.Option.{get_or_from_slice_get, slice_get_within}
use Rattle.ft_pool.specs.block.Places.{put_at}

one_more : (n : ℕ) → n + 1 ≡ suc n
one_more n = omega arith

module _ {X : Type 0} where
  -- it has no more values than there are places
  pub put_at-fits : (xs : List X) (i n : ℕ) (x : X) → length xs ≤ n → i < n → length (put_at xs i x) ≤ n
  put_at-fits [] i n x fits inside = let one : 1 ≤ n = omega arith in one
  put_at-fits (y ∷ ys) zero n x fits inside = fits
  put_at-fits (y ∷ ys) (suc i) zero x fits inside = absurd (omega arith)
  put_at-fits (y ∷ ys) (suc i) (suc n) x fits inside =
      let less : suc (length ys) ≤ suc n = fits in let rest : length (put_at ys i x) ≤ n =
      put_at-fits ys i n x (omega arith) (omega arith) in
      let all : suc (length (put_at ys i x)) ≤ suc n = omega arith in all

  pub put_at-keeps : (xs : List X) (i : ℕ) (x : X) → length xs ≤ length (put_at xs i x)
  put_at-keeps [] i x = omega arith
  put_at-keeps (y ∷ ys) zero x = omega arith
  put_at-keeps (y ∷ ys) (suc i) x = let rest = put_at-keeps ys i x in let all : suc (length ys) ≤ suc (length (put_at ys i x)) =
      omega arith in all

  pub put_at-reaches : (xs : List X) (n : ℕ) (x : X) → n ≤ length xs → n + 1 ≤ length (put_at xs n x)
  put_at-reaches [] zero x near = omega arith
  put_at-reaches [] (suc n) x near = absurd (let above : suc n ≤ 0 = near in omega arith)
  put_at-reaches (y ∷ ys) zero x near = let one : 0 + 1 ≤ suc (length ys) = omega arith in one
  put_at-reaches (y ∷ ys) (suc n) x near =
      let below : suc n ≤ suc (length ys) = near in let rest = put_at-reaches ys n x (omega arith) in
      let all : suc n + 1 ≤ suc (length (put_at ys n x)) = omega arith in all

  ends : (xs : List X) (n : ℕ) (x : X) → n ≤ length xs → take (suc n) (put_at xs n x) ≡ take n xs ++ x ∷ []
  ends [] zero x near = refl
  ends [] (suc n) x near = absurd (let above : suc n ≤ 0 = near in omega arith)
  ends (y ∷ ys) zero x near = refl
  ends (y ∷ ys) (suc n) x near = ap (λ zs. y ∷ zs) (ends ys n x (let below : suc n ≤ suc (length ys) = near in omega arith))

  -- behind the first n values, it is the next one
  pub put_at-adds : (xs : List X) (n : ℕ) (x : X) → n ≤ length xs → take (n + 1) (put_at xs n x) ≡ take n xs ++ x ∷ []
  put_at-adds xs n x near = ap (λ m. take m (put_at xs n x)) (one_more n) ∙ ends xs n x near

  -- among the first n values, it changes one alone
  pub put_at-sets : (xs : List X) (i n : ℕ) (x : X) → i < length (take n xs) → take n (put_at xs i x) ≡ slice_set (take n xs) i x
  put_at-sets xs i zero x inside = absurd (omega arith)
  put_at-sets [] i (suc n) x inside = absurd (omega arith)
  put_at-sets (y ∷ ys) zero (suc n) x inside = refl
  put_at-sets (y ∷ ys) (suc i) (suc n) x inside =
      ap (λ zs. y ∷ zs) (put_at-sets ys i n x (let less : suc i < suc (length (take n ys)) = inside in omega arith))

  -- so the numbers of values are known
  pub put_at-counts : (xs : List X) (i n : ℕ) (x : X) → n ≤ length xs → length (take n (put_at xs i x)) ≡ n
  put_at-counts xs i n x near = length-take-le n (put_at xs i x) (let keeps = put_at-keeps xs i x in omega arith)

  pub put_at-counts_on : (xs : List X) (n : ℕ) (x : X) → n ≤ length xs → length (take (n + 1) (put_at xs n x)) ≡ n + 1
  put_at-counts_on xs n x near = length-take-le (n + 1) (put_at xs n x) (put_at-reaches xs n x near)

pub ruleset puts = (put_at-keeps, put_at-reaches, put_at-adds, put_at-sets, put_at-counts, put_at-counts_on, length-take-le)

-- the last value, and those before it
pub split_last : {X : Type 0} (xs items : List X) (n : ℕ) (x : X) → n ≤ length xs → items ≡ take n xs → slice_get items (length items - 1)
    ≡ Some x → items ≡ take (n - 1) xs ++ x ∷ []
split_last {X = X} xs items n x small is got =
    let long : length items ≡ n = ap length is ∙ length-take-le n xs small in
    let some = slice_get_within items (length items - 1) x got in
    let more : n - 1 + 1 ≡ n = omega (arith, long, some) in
    let at : slice_get items (n - 1) ≡ Some x = subst (λ (k : ℕ). slice_get items (k - 1) ≡ Some x) long got in
    let value : slice_index_or xs (n - 1) x ≡ x =
    sym (get_or-take n xs (n - 1) x (omega (arith, more))) ∙ ap (λ (l : List X). slice_index_or l (n - 1) x) (sym is)
    ∙ get_or_from_slice_get items (n - 1) x x at in
    is ∙ ap (λ (k : ℕ). take k xs) (sym more) ∙ take_more xs (n - 1) x (omega (arith, more, small))
    ∙ ap (λ (y : X). take (n - 1) xs ++ y ∷ []) value
