-- Looking back over scans, one at a time.
use Rattle.std.proofs.Common.{◌≡◌, ◌∙◌, sym, ap, subst, refl, ℕ, zero, suc, ◌+◌, ◌-◌, ◌<◌, ◌≤◌, ℤ, pos, Bool, true, false, cond, ◌&&◌, ◌||◌}
use Rattle.std.proofs.Common.{List, [], ◌∷◌, ◌++◌, map, take, length, min, slice_index_or, arith, ⊎_elim, true≢false}
use Rattle.std.specs.Prelude.{int_le, unsigned_abs, slice_get, reverse}
use Rattle.std.specs.List.{Contains, list_all, list_any, zip, range_with_len}
use Rattle.ft_core.specs.declared.tables.Tables.{Tables}
use Rattle.ft_core.specs.declared.tables.Var.{Var}
use Rattle.ft_core.specs.declared.tables.Memory.{Memory}
use Rattle.ft_core.specs.checked.Size.{var_size}
use Rattle.ft_mean.specs.declared.seen.Seen.{Seen}
use Rattle.ft_mean.specs.meaning.Reading.{Reading}
use Rattle.ft_mean.specs.judge.Safe.{IsSafeBy}
use Rattle.ft_mean.specs.judge.Seen.{view_at, recalled_at, after_rounds}
use Rattle.std.proofs.lemmas.List.{map-append}
use Rattle.std.proofs.lemmas.Bool.{cases_lt, or_left, or_right}
use Rattle.std.proofs.lemmas.List.Folds.{list_all-append, list_any-append}
use Rattle.ft_mean.proofs.PastLemmas.{range_more, band, band_next}

module _ (p : ℕ → Bool) where
  -- one more scan at which it is true
  pub all_next : (a k : ℕ) → a ≤ k → list_all p (range_with_len a (k - a)) ≡ true → p k ≡ true → list_all p (range_with_len a (k + 1 - a))
      ≡ true
  all_next a k low h here =
      let more : k + 1 - a ≡ suc (k - a) = omega (arith, low) in
      let last : a + (k - a) ≡ k = omega (arith, low) in
      ap (λ n. list_all p (range_with_len a n)) more ∙ ap (list_all p) (range_more a (k - a))
      ∙ list_all-append p (range_with_len a (k - a)) ((a + (k - a)) ∷ [])
      ∙ (λ i. h i && ((ap p last ∙ here) i && true))

  -- one scan at which it is false
  pub all_not : (a n k : ℕ) → a ≤ k → k < a + n → p k ≡ false → list_all p (range_with_len a n) ≡ false
  all_not a zero k low high h = absurd (omega (arith, low, high))
  all_not a (suc n) k low high h = ⊎_elim
      (λ less. dropped (p a) (all_not (a + 1) n k (omega (arith, less)) (omega (arith, high)) h))
      (λ most. let is : a ≡ k = omega (arith, low, most) in λ i. (ap p is ∙ h) i && list_all p (range_with_len (a + 1) n))
      (cases_lt a k)
    where
      dropped : (b : Bool) {c : Bool} → c ≡ false → (b && c) ≡ false
      dropped true e = e
      dropped false e = refl

  pub through_next : (k : ℕ) → list_all p (range_with_len 0 k) ≡ true → p k ≡ true → list_all p (range_with_len 0 (k + 1)) ≡ true
  through_next k h here =
      let now : k - 0 ≡ k = omega arith in
      let more : k + 1 - 0 ≡ k + 1 = omega arith in
      sym (ap (λ n. list_all p (range_with_len 0 n)) more) ∙ all_next 0 k (omega arith) (ap (λ n. list_all p (range_with_len 0 n)) now ∙ h)
      here

  pub none_next : (a k : ℕ) → a ≤ k → list_any p (range_with_len a (k - a)) ≡ false → p k ≡ false
      → list_any p (range_with_len a (k + 1 - a)) ≡ false
  none_next a k low h here =
      let more : k + 1 - a ≡ suc (k - a) = omega (arith, low) in
      let last : a + (k - a) ≡ k = omega (arith, low) in
      ap (λ n. list_any p (range_with_len a n)) more ∙ ap (list_any p) (range_more a (k - a))
      ∙ list_any-append p (range_with_len a (k - a)) ((a + (k - a)) ∷ [])
      ∙ (λ i. h i || ((ap p last ∙ here) i || false))

  pub some_at : (a n k : ℕ) → a ≤ k → k < a + n → p k ≡ true → list_any p (range_with_len a n) ≡ true
  some_at a zero k low high h = absurd (omega (arith, low, high))
  some_at a (suc n) k low high h = ⊎_elim
      (λ less. or_right (p a) (list_any p (range_with_len (a + 1) n)) (some_at (a + 1) n k (omega (arith, less)) (omega (arith, high)) h))
      (λ most. let is : a ≡ k = omega (arith, low, most) in or_left (p a) (list_any p (range_with_len (a + 1) n)) (ap p is ∙ h))
      (cases_lt a k)

module _ (lo hi : ℤ) (start : Bool) (e : ℕ → ℤ) (from k back : ℕ) (below : back < suc k - from) where
  -- what those that are left without the last say
  abbrev rest : Bool
  rest = band lo hi start e (reverse (range_with_len from (suc k - from - (back + 1))))

  -- the last scan of those that are left
  pub band_last : band lo hi start e (reverse (range_with_len from (suc k - from - back)))
      ≡ cond (int_le hi (e (k - back)) || int_le (e (k - back)) lo) (int_le hi (e (k - back))) rest
  band_last =
      let whole : suc k - from - back ≡ suc (suc k - from - (back + 1)) = omega (arith, below) in
      let last : from + (suc k - from - (back + 1)) ≡ k - back = omega (arith, below) in
      ap (λ n. band lo hi start e (reverse (range_with_len from n))) whole ∙ band_next lo hi start e from (suc k - from - (back + 1))
      ∙ (λ i. cond (int_le hi (e (last i)) || int_le (e (last i)) lo) (int_le hi (e (last i))) rest)

  pub band_up : int_le hi (e (k - back)) ≡ true → band lo hi start e (reverse (range_with_len from (suc k - from - back))) ≡ true
  band_up up = band_last ∙ (λ i. cond (up i || int_le (e (k - back)) lo) (up i) rest)

  pub band_down : int_le hi (e (k - back)) ≡ false → int_le (e (k - back)) lo ≡ true
      → band lo hi start e (reverse (range_with_len from (suc k - from - back))) ≡ false
  band_down up down = band_last ∙ (λ i. cond (up i || down i) (up i) rest)

  pub band_between : int_le hi (e (k - back)) ≡ false → int_le (e (k - back)) lo ≡ false
      → band lo hi start e (reverse (range_with_len from (suc k - from - back))) ≡ rest
  band_between up down = band_last ∙ (λ i. cond (up i || down i) (up i) rest)

-- a list of what is made for each number goes on by one
pub made_next : {A : Type 0} (f : ℕ → A) (made longer : List A) (k : ℕ) (item : A) → made ≡ map f (range_with_len 0 k) → item ≡ f k → longer
    ≡ made ++ item ∷ []
    → longer ≡ map f (range_with_len 0 (k + 1))
made_next f made longer k item is here goes_on =
    let more : k + 1 ≡ suc k = omega arith in
    let last : 0 + k ≡ k = omega arith in
    goes_on ∙ (λ i. is i ++ here i ∷ []) ∙ sym (ap (λ n. map f (range_with_len 0 n)) more ∙ ap (map f) (range_more 0 k)
    ∙ map-append f (range_with_len 0 k) ((0 + k) ∷ []) ∙ ap (λ n. map f (range_with_len 0 k) ++ f n ∷ []) last)

-- one more round
pub round_next : (S : Tables) (ρ : Reading) (start seen : Seen) (k : ℕ) (bits : List (List Bool)) → seen ≡ after_rounds S ρ k start
    → bits ≡ map (recalled_at S ρ seen) (range_with_len 0 (length seen.rows)) → record { rows = seen.rows; past = seen.past; bits = bits }
    ≡ after_rounds S ρ (k + 1) start
round_next S ρ start seen k bits is here =
    let more : k + 1 ≡ suc k = omega arith in
    (λ i. record { rows = seen.rows; past = seen.past; bits = here i })
    ∙ (λ i. record { rows = (is i).rows; past = (is i).past; bits = map (recalled_at S ρ (is i)) (range_with_len 0 (length (is i).rows)) })
    ∙ sym (ap (λ n. after_rounds S ρ n start) more)

-- what is safe at a scan is safe whatever the truths of the memories are
pub safe_again : (before after : Seen) {test : List Var → List Memory → Bool} → ((t : ℕ) → IsSafeBy (view_at before t) test)
    → after.rows ≡ before.rows → after.past ≡ before.past → (t : ℕ) → IsSafeBy (view_at after t) test
safe_again before after safe rows past t = let s = safe t in record {
  vars = s.vars;
  memories = s.memories;
  keeps = record {
    now = λ x. subst (λ scans. unsigned_abs (slice_index_or (slice_index_or scans t []) x (pos 0)) ≤ var_size (slice_get s.vars x))
        (sym rows) (s.keeps.now x);
    before = λ x. subst (λ scans. unsigned_abs (slice_index_or (slice_index_or scans t []) x (pos 0)) ≤ var_size (slice_get s.vars x))
        (sym past) (s.keeps.before x);
    age = s.keeps.age;
  };
  small = s.small;
}

module _ (S : Tables) (ρ : Reading) (start : Seen) where
  -- rounds change the truths of memories alone
  pub rows_kept : (k : ℕ) → (after_rounds S ρ k start).rows ≡ start.rows
  rows_kept zero = refl
  rows_kept (suc k) = rows_kept k

  pub past_kept : (k : ℕ) → (after_rounds S ρ k start).past ≡ start.past
  past_kept zero = refl
  past_kept (suc k) = past_kept k

  pub safe_after : {test : List Var → List Memory → Bool} (k : ℕ) → ((t : ℕ) → IsSafeBy (view_at start t) test) → (t : ℕ)
      → IsSafeBy (view_at (after_rounds S ρ k start) t) test
  safe_after k h = safe_again start (after_rounds S ρ k start) h (rows_kept k) (past_kept k)

  pub rounds_join : (m n : ℕ) → after_rounds S ρ m (after_rounds S ρ n start) ≡ after_rounds S ρ (m + n) start
  rounds_join zero n = let none : n ≡ 0 + n = omega arith in ap (λ k. after_rounds S ρ k start) none
  rounds_join (suc m) n =
      let more : suc (m + n) ≡ suc m + n = omega arith in
      ap (λ (p : Seen). record { rows = p.rows; past = p.past; bits = map (recalled_at S ρ p) (range_with_len 0 (length p.rows)) })
      (rounds_join m n)
      ∙ ap (λ k. after_rounds S ρ k start) more

-- two lists, side by side
module _ {A B : Type 0} (p : A × B → Bool) where
  pub pair_next : (xs : List A) (ys : List B) (k : ℕ) (x : A) (y : B) → k < length xs → k < length ys → slice_index_or xs k x ≡ x
      → slice_index_or ys k y ≡ y
      → list_any p (take k (zip xs ys)) ≡ false → false ≡ p (x, y) → list_any p (take (suc k) (zip xs ys)) ≡ false
  pair_next [] ys k x y lx ly ex ey past here = refl
  pair_next (a ∷ xs) [] k x y lx ly ex ey past here = refl
  pair_next (a ∷ xs) (b ∷ ys) zero x y lx ly ex ey past here = (λ i. p (ex i, ey i) || false) ∙ ap (λ z. z || false) (sym here)
  pair_next (a ∷ xs) (b ∷ ys) (suc k) x y lx ly ex ey past here =
      let both = or_parts (p (a, b)) past in
      (λ i. both.0 i || pair_next xs ys k x y (omega (arith, lx)) (omega (arith, ly)) ex ey both.1 here i)
    where
      or_parts : (b : Bool) {c : Bool} → (b || c) ≡ false → (b ≡ false) × (c ≡ false)
      or_parts true e = absurd (true≢false e)
      or_parts false e = (refl, e)

  pub pair_at : (xs : List A) (ys : List B) (k : ℕ) (x : A) (y : B) → k < length xs → k < length ys → slice_index_or xs k x ≡ x
      → slice_index_or ys k y ≡ y
      → true ≡ p (x, y) → list_any p (zip xs ys) ≡ true
  pair_at [] ys k x y lx ly ex ey here = absurd (omega (arith, lx))
  pair_at (a ∷ xs) [] k x y lx ly ex ey here = absurd (omega (arith, ly))
  pair_at (a ∷ xs) (b ∷ ys) zero x y lx ly ex ey here = or_left (p (a, b)) (list_any p (zip xs ys)) ((λ i. p (ex i, ey i)) ∙ sym here)
  pair_at (a ∷ xs) (b ∷ ys) (suc k) x y lx ly ex ey here =
      or_right (p (a, b)) (list_any p (zip xs ys)) (pair_at xs ys k x y (omega (arith, lx)) (omega (arith, ly)) ex ey here)

  pub pair_end : (xs : List A) (ys : List B) (k : ℕ) → min (length xs) (length ys) ≤ k → list_any p (take k (zip xs ys)) ≡ false
      → list_any p (zip xs ys) ≡ false
  pair_end [] ys k low h = refl
  pair_end (a ∷ xs) [] k low h = refl
  pair_end (a ∷ xs) (b ∷ ys) zero low h = absurd (omega (arith, low))
  pair_end (a ∷ xs) (b ∷ ys) (suc k) low h = or_again (p (a, b)) h (λ rest. pair_end xs ys k (omega (arith, low)) rest)
    where
      or_again : (b : Bool) {c d : Bool} → (b || c) ≡ false → (c ≡ false → d ≡ false) → (b || d) ≡ false
      or_again true e f = e
      or_again false e f = f e

-- a test over a list, at an item and at its end
module _ {A : Type 0} (p : A → Bool) where
  pub any_in : (xs : List A) (a : A) → Contains xs a → true ≡ p a → list_any p xs ≡ true
  any_in [] a c h = absurd (omega (arith, c.1))
  any_in (x ∷ xs) a (zero, low, is) h = or_left (p x) (list_any p xs) (ap p is ∙ sym h)
  any_in (x ∷ xs) a (suc k, low, is) h = or_right (p x) (list_any p xs) (any_in xs a (k, omega (arith, low), is) h)

  pub any_end : (xs : List A) (k : ℕ) → length xs ≤ k → list_any p (take k xs) ≡ false → list_any p xs ≡ false
  any_end [] k low h = refl
  any_end (x ∷ xs) zero low h = absurd (omega (arith, low))
  any_end (x ∷ xs) (suc k) low h = or_again (p x) h (λ rest. any_end xs k (omega (arith, low)) rest)
    where
      or_again : (b : Bool) {c d : Bool} → (b || c) ≡ false → (c ≡ false → d ≡ false) → (b || d) ≡ false
      or_again true e f = e
      or_again false e f = f e
