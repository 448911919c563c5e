-- Scans counted from the last that begins: what a timer and a band say of them, and where a running memory would be reset.
use Rattle.std.proofs.Common.{◌≡◌, ◌∙◌, sym, ap, refl, ℕ, zero, suc, ◌+◌, ◌-◌, ◌≤◌, ℤ, pos, ◌*ℤ◌, Bool, ◌&&◌, ◌||◌, List, [], ◌∷◌}
use Rattle.std.proofs.Common.{map, arith}
use Rattle.std.specs.Prelude.{int_le}
use Rattle.std.specs.List.{list_any, list_all, range_with_len}
use Rattle.std.proofs.lemmas.List.Folds.{list_all-map}
use Rattle.ft_core.specs.declared.tables.Tables.{Tables}
use Rattle.ft_mean.specs.meaning.Past.{scans, held, hyst}
use Rattle.ft_mean.specs.laws.PastLaws.{next_bit}
use Rattle.ft_mean.specs.meaning.Reading.{Reading, begun, since, scan_before}
use Rattle.ft_memo.specs.Timer.{ago}
use Rattle.ft_scan.specs.laws.Laws.{Laws}

any_mapped : {A B : Type 0} (p : B → Bool) (f : A → B) (xs : List A) → list_any p (map f xs) ≡ list_any (λ x. p (f x)) xs
any_mapped p f [] = refl
any_mapped p f (x ∷ xs) = ap (λ b. p (f x) || b) (any_mapped p f xs)

range_moved : (from j k : ℕ) → range_with_len (from + j) k ≡ map (λ i. from + i) (range_with_len j k)
range_moved from j zero = refl
range_moved from j (suc k) =
    let next : (from + j) + 1 ≡ from + (j + 1) = omega arith in
    ap (λ rest. (from + j) ∷ rest) (ap (λ i. range_with_len i k) next ∙ range_moved from (j + 1) k)

scans_moved : (from j n : ℕ) → from ≤ n → scans (from + j) n ≡ map (λ i. from + i) (scans j (n - from))
scans_moved from j n low =
    let count : suc n - (from + j) ≡ suc (n - from) - j = omega (arith, low) in
    ap (range_with_len (from + j)) count ∙ range_moved from j (suc (n - from) - j)

-- a timer says of the scans from `from` on what it says of them counted from 0
pub held_moved : (from n : ℕ) → from ≤ n → (counted past : ℕ → ℤ) → ((j : ℕ) → counted j ≡ past (from + j)) → (hold : ℤ) (c : ℕ → Bool)
    → held 0 counted hold (λ j. c (from + j)) (n - from) ≡ held from past hold c n
held_moved from n low counted past same hold c =
    let inner : (j : ℕ) → list_all (λ i. c (from + i)) (scans j (n - from)) ≡ list_all c (scans (from + j) n)
    = λ j. sym (ap (list_all c) (scans_moved from j n low) ∙ list_all-map c (λ i. from + i) (scans j (n - from))) in
    let at : from + 0 ≡ from = omega arith in
    (λ i. list_any (λ j. int_le hold (same j i) && inner j i) (scans 0 (n - from)))
    ∙ sym (any_mapped (λ j. int_le hold (past j) && list_all c (scans j n)) (λ i. from + i) (scans 0 (n - from)))
    ∙ ap (list_any (λ j. int_le hold (past j) && list_all c (scans j n))) (sym (scans_moved from 0 n low) ∙ ap (λ k. scans k n) at)

module _ (L : Laws) where
  -- the milliseconds from a scan are those counted from `from`
  pub ago_moved : (S : Tables) (a : Reading) (from n j : ℕ) → ago S.period (n - from) j ≡ since S a (from + j) n
  ago_moved S a from n j = let back : (n - from) - j ≡ n - (from + j) = omega arith in
      ap (λ k. pos k *ℤ S.period) back ∙ sym (L.since_periods S a (from + j) n)

  -- a band says of the scans from `from` on what it says of them counted from 0
  hyst_on : (from t : ℕ) (lo hi : ℤ) (start : Bool) (e : ℕ → ℤ) → hyst 0 lo hi start (λ j. e (from + j)) t
      ≡ hyst from lo hi start e (from + t)
  hyst_on from zero lo hi start e =
      let at : from + 0 ≡ from = omega arith in
      L.hyst_begins lo hi start (λ j. e (from + j)) 0 ∙ ap (λ k. next_bit lo hi start (e k)) at ∙ sym (L.hyst_begins lo hi start e from)
      ∙ ap (λ k. hyst from lo hi start e k) (sym at)
  hyst_on from (suc t) lo hi start e =
      let next : suc (from + t) ≡ from + suc t = omega arith in
      let so_far = hyst_on from t lo hi start e in
      L.hyst_goes_on lo hi start (λ j. e (from + j)) 0 t (omega arith)
      ∙ (λ i. next_bit lo hi (so_far i) (e (sym next i)))
      ∙ sym (L.hyst_goes_on lo hi start e from (from + t) (omega arith))
      ∙ ap (λ k. hyst from lo hi start e k) next

  pub hyst_moved : (from n : ℕ) → from ≤ n → (lo hi : ℤ) (start : Bool) (e : ℕ → ℤ)
      → hyst 0 lo hi start (λ j. e (from + j)) (n - from) ≡ hyst from lo hi start e n
  hyst_moved from n low lo hi start e =
      let whole : from + (n - from) ≡ n = omega (arith, low) in
      hyst_on from (n - from) lo hi start e ∙ ap (λ k. hyst from lo hi start e k) whole

  -- neither a running memory nor the values before are ever reset: the last scan that begins is that of the scan before
  pub begun_stays : (S : Tables) (a : Reading) (n : ℕ) → begun S a (scan_before n) ≡ begun S a n
  begun_stays S a n = L.begun_first S a (scan_before n) ∙ sym (L.begun_first S a n)

  -- and the same for every reading
  pub begun_alike : (S : Tables) (a b : Reading) (n : ℕ) → begun S a n ≡ begun S b n
  begun_alike S a b n = L.begun_first S a n ∙ sym (L.begun_first S b n)
