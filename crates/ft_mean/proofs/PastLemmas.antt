-- Timers and bands: they see the scans up to this one, and are linked to what they remember.
use Rattle.std.proofs.Common.{◌≡◌, ◌∙◌, sym, ap, refl, ℕ, zero, suc, ◌+◌, ◌-◌, ◌<◌, ◌≤◌, ℤ, ◌<ℤ◌, Bool, true, false, cond, ◌&&◌, ◌||◌, List}
use Rattle.std.proofs.Common.{[], ◌∷◌, ◌++◌, Some, None, arith, add-zero, ⊎_elim, true≢false}
use Rattle.std.specs.Prelude.{int_le, reverse}
use Rattle.std.specs.List.{list_any, list_all, find, range_with_len}
use Rattle.std.proofs.lemmas.Int.{ints}
use Rattle.std.proofs.lemmas.Bool.{and_parts, or_cases, cases_eq, cases_lt}
use Rattle.std.proofs.lemmas.List.{reverse-append}
use Rattle.ft_mean.specs.meaning.Past.{scans, held, hyst}
pub use Rattle.ft_mean.specs.laws.PastLaws.{next_bit}

module _ (p q : ℕ → Bool) where
  pub same_any : (a n : ℕ) → ((j : ℕ) → a ≤ j → j < a + n → p j ≡ q j) → list_any p (range_with_len a n) ≡ list_any q (range_with_len a n)
  same_any a zero h = refl
  same_any a (suc n) h =
      let here = h a (omega arith) (omega arith) in
      let more = same_any (a + 1) n (λ j low high. h j (omega arith) (omega arith)) in
      λ i. here i || more i

  pub same_all : (a n : ℕ) → ((j : ℕ) → a ≤ j → j < a + n → p j ≡ q j) → list_all p (range_with_len a n) ≡ list_all q (range_with_len a n)
  same_all a zero h = refl
  same_all a (suc n) h =
      let here = h a (omega arith) (omega arith) in
      let more = same_all (a + 1) n (λ j low high. h j (omega arith) (omega arith)) in
      λ i. here i && more i

-- a timer sees the scans up to this one
pub same_held : (from : ℕ) (ago : ℕ → ℤ) (hold : ℤ) (p q : ℕ → Bool) (t : ℕ) → ((j : ℕ) → j ≤ t → p j ≡ q j)
    → held from ago hold p t ≡ held from ago hold q t
same_held from ago hold p q t h = same_any _ _ from (suc t - from) (λ j low high. ap (λ b. int_le hold (ago j) && b)
    (same_all p q j (suc t - j) (λ k below above. h k (omega arith))))

-- and how long ago these are
pub same_ago : (from : ℕ) (ago its : ℕ → ℤ) (hold : ℤ) (p : ℕ → Bool) (t : ℕ) → ((j : ℕ) → j ≤ t → ago j ≡ its j)
    → held from ago hold p t ≡ held from its hold p t
same_ago from ago its hold p t h = same_any _ _ from (suc t - from) (λ j low high.
    ap (λ z. int_le hold z && list_all p (scans j t)) (h j (omega (arith, low, high))))

-- the last scan is put at the end
pub range_more : (a n : ℕ) → range_with_len a (suc n) ≡ range_with_len a n ++ (a + n) ∷ []
range_more a zero = ap (λ x. x ∷ []) (sym (add-zero a))
range_more a (suc n) =
    let last : a + 1 + n ≡ a + suc n = omega arith in
    ap (λ xs. a ∷ xs) (range_more (a + 1) n) ∙ ap (λ x. a ∷ (range_with_len (a + 1) n ++ x ∷ [])) last

-- a band over the n scans from a on
abbrev pub band : (lo hi : ℤ) (start : Bool) (e : ℕ → ℤ) (scans : List ℕ) → Bool
band lo hi start e js = elim (find (λ j. int_le hi (e j) || int_le (e j) lo) js) [ None ↦ start | Some j ↦ int_le hi (e j) ]

band_step : (lo hi : ℤ) (start : Bool) (e : ℕ → ℤ) (j : ℕ) (js : List ℕ)
    → band lo hi start e (j ∷ js) ≡ cond (int_le hi (e j) || int_le (e j) lo) (int_le hi (e j)) (band lo hi start e js)
band_step lo hi start e j js = elim (int_le hi (e j) || int_le (e j) lo)
    as (λ b. elim (cond b (Some j) (find (λ k. int_le hi (e k) || int_le (e k) lo) js)) as (λ o. Bool)
    [ None ↦ start | Some k ↦ int_le hi (e k) ]
    ≡ cond b (int_le hi (e j)) (band lo hi start e js)) [ true ↦ refl | false ↦ refl ]

-- it goes back one scan at a time
pub band_next : (lo hi : ℤ) (start : Bool) (e : ℕ → ℤ) (a n : ℕ)
    → band lo hi start e (reverse (range_with_len a (suc n)))
    ≡ cond (int_le hi (e (a + n)) || int_le (e (a + n)) lo) (int_le hi (e (a + n))) (band lo hi start e (reverse (range_with_len a n)))
band_next lo hi start e a n =
    ap (λ js. band lo hi start e (reverse js)) (range_more a n)
    ∙ ap (band lo hi start e) (reverse-append (range_with_len a n) ((a + n) ∷ []))
    ∙ band_step lo hi start e (a + n) (reverse (range_with_len a n))

same_band : (lo hi : ℤ) (start : Bool) (p q : ℕ → ℤ) (a n : ℕ) → ((j : ℕ) → a ≤ j → j < a + n → p j ≡ q j)
    → band lo hi start p (reverse (range_with_len a n)) ≡ band lo hi start q (reverse (range_with_len a n))
same_band lo hi start p q a zero h = refl
same_band lo hi start p q a (suc n) h =
    let here = h (a + n) (omega arith) (omega arith) in
    let more = same_band lo hi start p q a n (λ j low high. h j low (omega arith)) in
    band_next lo hi start p a n ∙ (λ i. cond (int_le hi (here i) || int_le (here i) lo) (int_le hi (here i)) (more i))
    ∙ sym (band_next lo hi start q a n)

-- a band sees the scans up to this one
pub same_hyst : (from : ℕ) (lo hi : ℤ) (start : Bool) (p q : ℕ → ℤ) (t : ℕ) → ((j : ℕ) → j ≤ t → p j ≡ q j)
    → hyst from lo hi start p t ≡ hyst from lo hi start q t
same_hyst from lo hi start p q t h = same_band lo hi start p q from (suc t - from) (λ j low high. h j (omega arith))

-- where some scan passes, one of those scans does
any_true : (p : ℕ → Bool) (a n : ℕ) → list_any p (range_with_len a n) ≡ true → (j : ℕ) × (a ≤ j) × (j < a + n) × (p j ≡ true)
any_true p a zero e = absurd (true≢false (sym e))
any_true p a (suc n) e = ⊎_elim
    (λ here. (a, omega arith, omega arith, here))
    (λ past. let at = any_true p (a + 1) n past in (at.0, omega (arith, at.1), omega (arith, at.2), at.3))
    (or_cases (p a) (list_any p (range_with_len (a + 1) n)) e)

all_true : (p : ℕ → Bool) (a n j : ℕ) → list_all p (range_with_len a n) ≡ true → a ≤ j → j < a + n → p j ≡ true
all_true p a zero j e low high = absurd (omega arith)
all_true p a (suc n) j e low high =
    let both = and_parts (p a) (list_all p (range_with_len (a + 1) n)) e in
    ⊎_elim (λ same. ap p (sym same) ∙ both.0) (λ differs. all_true p (a + 1) n j both.1 (above a j low differs) (omega arith))
    (cases_eq a j)
  where
    above : (a j : ℕ) → a ≤ j → (a ≡ j → ⊥) → a + 1 ≤ j
    above a j low differs = ⊎_elim (λ less. omega (arith, less)) (λ most. absurd (differs (omega (arith, most)))) (cases_lt a j)

-- a true timer has its condition true
pub held_now : (from : ℕ) (ago : ℕ → ℤ) (hold : ℤ) (b : ℕ → Bool) (t : ℕ) → held from ago hold b t ≡ true → b t ≡ true
held_now from ago hold b t e =
    let at = any_true (λ j. int_le hold (ago j) && list_all b (scans j t)) from (suc t - from) e in
    let both = and_parts (int_le hold (ago at.0)) (list_all b (scans at.0 t)) at.3 in
    all_true b at.0 (suc t - at.0) t both.1 (omega (arith, at.1, at.2)) (omega (arith, at.1, at.2))

-- where the scans go back to `from`, the last of them is t
scans_end : (from t : ℕ) → from ≤ t → (n : ℕ) × (suc t - from ≡ suc n) × (from + n ≡ t)
scans_end from t low = (t - from, omega arith, omega arith)

hyst_end : (from : ℕ) (lo hi : ℤ) (start : Bool) (e : ℕ → ℤ) (t : ℕ) → from ≤ t
    → (rest : Bool) × (hyst from lo hi start e t ≡ cond (int_le hi (e t) || int_le (e t) lo) (int_le hi (e t)) rest)
hyst_end from lo hi start e t low =
    let end = scans_end from t low in (
      band lo hi start e (reverse (range_with_len from end.0)),
      ap (λ k. band lo hi start e (reverse (range_with_len from k))) end.1 ∙ band_next lo hi start e from end.0
          ∙ ap (λ k. cond (int_le hi (e k) || int_le (e k) lo) (int_le hi (e k)) (band lo hi start e (reverse (range_with_len from end.0))))
          end.2,
    )

-- a band is true at its upper bound and false at its lower one
pub hyst_up : (from : ℕ) (lo hi : ℤ) (start : Bool) (e : ℕ → ℤ) (t : ℕ) → from ≤ t → int_le hi (e t) ≡ true → hyst from lo hi start e t
    ≡ true
hyst_up from lo hi start e t low up =
    let end = hyst_end from lo hi start e t low in end.1 ∙ (λ i. cond (up i || int_le (e t) lo) (up i) end.0)

not_up : (lo hi x : ℤ) → lo <ℤ hi → int_le x lo ≡ true → int_le hi x ≡ false
not_up lo hi x below down = grind (arith, ints)

pub hyst_down : (from : ℕ) (lo hi : ℤ) (start : Bool) (e : ℕ → ℤ) (t : ℕ) → from ≤ t → lo <ℤ hi → int_le (e t) lo ≡ true
    → hyst from lo hi start e t ≡ false
hyst_down from lo hi start e t low below down =
    let other = not_up lo hi (e t) below down in
    let end = hyst_end from lo hi start e t low in end.1 ∙ (λ i. cond (other i || down i) (other i) end.0)

module _ (lo hi : ℤ) (start : Bool) (e : ℕ → ℤ) where
  -- a band goes on by one scan
  pub hyst_next : (from t : ℕ) → from ≤ suc t → hyst from lo hi start e (suc t) ≡ next_bit lo hi (hyst from lo hi start e t) (e (suc t))
  hyst_next from t low =
      let more : suc (suc t) - from ≡ suc (suc t - from) = omega (arith, low) in
      let last : from + (suc t - from) ≡ suc t = omega (arith, low) in
      ap (λ k. band lo hi start e (reverse (range_with_len from k))) more ∙ band_next lo hi start e from (suc t - from)
      ∙ ap (λ k. next_bit lo hi (hyst from lo hi start e t) (e k)) last

  -- it begins after its start
  pub hyst_first : (t : ℕ) → hyst t lo hi start e t ≡ next_bit lo hi start (e t)
  hyst_first t =
      let one : suc t - t ≡ 1 = omega arith in
      let last : t + 0 ≡ t = omega arith in
      ap (λ k. band lo hi start e (reverse (range_with_len t k))) one ∙ band_next lo hi start e t 0
      ∙ ap (λ k. next_bit lo hi start (e k)) last
