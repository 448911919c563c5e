-- The age of a timer: it sees the scans up to this one, goes on by one scan at a time, and is full where the condition is held.
use Rattle.std.proofs.Common.{◌≡◌, ◌∙◌, sym, ap, refl, ℕ, zero, suc, ◌+◌, ◌-◌, ◌<◌, ◌≤◌, ℤ, pos, negsuc, ◌+ℤ◌, ◌≤ℤ◌, Bool, true, false}
use Rattle.std.proofs.Common.{cond, ◌&&◌, ◌||◌, List, [], ◌∷◌, ◌++◌, Option, Some, None, arith, ⊎_elim, true≢false}
use Rattle.std.specs.Prelude.{int_le, ⊤}
use Rattle.std.specs.List.{list_all, list_any, find, range_with_len}
use Rattle.std.specs.Option.{option_or}
use Rattle.std.specs.Int.{int_min}
use Rattle.std.proofs.lemmas.Int.{ints}
use Rattle.std.proofs.lemmas.Bool.{and_parts, or_cases}
use Rattle.std.proofs.lemmas.List.Folds.{list_all-append, find-append}
use Rattle.ft_mean.specs.meaning.Past.{scans, held, age}
use Rattle.ft_mean.specs.laws.Laws.{HeldIsFullAge}
pub use Rattle.ft_mean.specs.laws.PastLaws.{next_age}
use Rattle.ft_mean.proofs.PastLemmas.{range_more, same_all}

-- one more scan is put at the end
scans_more : (from t : ℕ) → from ≤ suc t → scans from (suc t) ≡ scans from t ++ suc t ∷ []
scans_more from t low =
    let more : suc (suc t) - from ≡ suc (suc t - from) = omega (arith, low) in
    let last : from + (suc t - from) ≡ suc t = omega (arith, low) in
    ap (range_with_len from) more ∙ range_more from (suc t - from) ∙ ap (λ k. range_with_len from (suc t - from) ++ k ∷ []) last

scans_one : (t : ℕ) → scans t t ≡ t ∷ []
scans_one t = let one : suc t - t ≡ 1 = omega arith in ap (range_with_len t) one

scans_none : (t : ℕ) → scans (suc t) t ≡ []
scans_none t = let none : suc t - suc t ≡ zero = omega arith in ap (range_with_len (suc t)) none

same_find : (p q : ℕ → Bool) (a n : ℕ) → ((j : ℕ) → a ≤ j → j < a + n → p j ≡ q j) → find p (range_with_len a n)
    ≡ find q (range_with_len a n)
same_find p q a zero h = refl
same_find p q a (suc n) h =
    let here = h a (omega arith) (omega arith) in
    let more = same_find p q (a + 1) n (λ j low high. h j (omega (arith, low)) (omega (arith, high))) in
    λ i. cond (here i) (Some a) (more i)

and_true : (b : Bool) → (b && true) ≡ b
and_true true = refl
and_true false = refl

and_false : (b : Bool) → (b && false) ≡ false
and_false true = refl
and_false false = refl

find_and : (p : ℕ → Bool) (b : Bool) (xs : List ℕ) → find (λ j. p j && b) xs ≡ cond b (find p xs) None
find_and p true [] = refl
find_and p true (x ∷ xs) = let here = and_true (p x) in let more = find_and p true xs in λ i. cond (here i) (Some x) (more i)
find_and p false [] = refl
find_and p false (x ∷ xs) = let here = and_false (p x) in let more = find_and p false xs in λ i. cond (here i) (Some x) (more i)

-- what is found is not after t
abbrev UpTo : ℕ → Option ℕ → Type 0
UpTo t None = ⊤
UpTo t (Some j) = j ≤ t

found_low : (p : ℕ → Bool) (a n t : ℕ) → a + n ≤ suc t → UpTo t (find p (range_with_len a n))
found_low p a zero t h = tt
found_low p a (suc n) t h = elim (p a) as (λ b. UpTo t (cond b (Some a) (find p (range_with_len (a + 1) n)))) [
  | true ↦ omega (arith, h)
  | false ↦ found_low p (a + 1) n t (omega (arith, h))
]

min_none : (hold : ℤ) → pos 0 ≤ℤ hold → int_min hold (pos 0) ≡ pos 0
min_none hold h = grind (arith, ints)

min_next : (hold e p : ℤ) → pos 0 ≤ℤ hold → pos 0 ≤ℤ p → pos 0 ≤ℤ e → int_min hold (e +ℤ p) ≡ next_age hold p (int_min hold e) true
min_next hold e p low up there = grind (arith, ints)

module _ (from : ℕ) where
  -- the first scan of the run of true scans that ends at t
  abbrev run_start : (ℕ → Bool) → ℕ → Option ℕ
  run_start c t = find (λ j. list_all c (scans j t)) (scans from t)

  -- the age of a run that began there
  abbrev aged : (ago : ℕ → ℤ) (hold : ℤ) → Option ℕ → ℤ
  aged ago hold o = elim o [ None ↦ negsuc 0 | Some j ↦ int_min hold (ago j) ]

  run_low : (c : ℕ → Bool) (t : ℕ) → from ≤ suc t → UpTo t (run_start c t)
  run_low c t low = found_low (λ j. list_all c (scans j t)) from (suc t - from) t (omega (arith, low))

  -- an age sees the scans up to this one
  pub same_age : (ago : ℕ → ℤ) (hold : ℤ) (c d : ℕ → Bool) (t : ℕ) → ((j : ℕ) → j ≤ t → c j ≡ d j) → age from ago hold c t
      ≡ age from ago hold d t
  same_age ago hold c d t h = ap (aged ago hold) (same_find (λ j. list_all c (scans j t)) (λ j. list_all d (scans j t)) from (suc t - from)
      (λ j low high. same_all c d j (suc t - j) (λ k below above. h k (omega (arith, below, above)))))

  run_longer : (c : ℕ → Bool) (t j : ℕ) → j ≤ suc t → list_all c (scans j (suc t)) ≡ (list_all c (scans j t) && c (suc t))
  run_longer c t j low =
      let last = and_true (c (suc t)) in
      ap (list_all c) (scans_more j t low) ∙ list_all-append c (scans j t) (suc t ∷ []) ∙ ap (λ b. list_all c (scans j t) && b) last

  run_next : (c : ℕ → Bool) (t : ℕ) → from ≤ suc t → run_start c (suc t) ≡ cond (c (suc t)) (option_or (run_start c t) (Some (suc t))) None
  run_next c t low =
      let p : ℕ → Bool = λ j. list_all c (scans j t) in
      let last : find p (suc t ∷ []) ≡ Some (suc t) = ap (λ js. cond (list_all c js) (Some (suc t)) None) (scans_none t) in
      same_find (λ j. list_all c (scans j (suc t))) (λ j. p j && c (suc t)) from (suc (suc t) - from)
      (λ j below above. run_longer c t j (omega (arith, above, low)))
      ∙ find_and p (c (suc t)) (scans from (suc t))
      ∙ ap (λ o. cond (c (suc t)) o None) (ap (find p) (scans_more from t low) ∙ find-append p (scans from t) (suc t ∷ [])
      ∙ ap (option_or (run_start c t)) last)

  module _ (hold elapsed : ℤ) (low : pos 0 ≤ℤ hold) (up : pos 0 ≤ℤ elapsed) (past now : ℕ → ℤ) (t : ℕ) (start : from ≤ t)
      (there : (j : ℕ) → j ≤ t → pos 0 ≤ℤ past j) (later : (j : ℕ) → j ≤ t → now j ≡ past j +ℤ elapsed) (none : now (suc t) ≡ pos 0) where
    aged_next : (b : Bool) (o : Option ℕ) → UpTo t o → aged now hold (cond b (option_or o (Some (suc t))) None)
        ≡ next_age hold elapsed (aged past hold o) b
    aged_next false o h = refl
    aged_next true None h = ap (int_min hold) none ∙ min_none hold low
    aged_next true (Some j) h = ap (int_min hold) (later j h) ∙ min_next hold (past j) elapsed low up (there j h)

    -- it goes on by one scan
    pub age_next : (c : ℕ → Bool) → age from now hold c (suc t) ≡ next_age hold elapsed (age from past hold c t) (c (suc t))
    age_next c = ap (aged now hold) (run_next c t (omega (arith, start)))
        ∙ aged_next (c (suc t)) (run_start c t) (run_low c t (omega (arith, start)))

  span_by : (ago : ℕ → ℤ) (hold : ℤ) (t : ℕ) (o : Option ℕ) → pos 0 ≤ℤ hold → ((j : ℕ) → j ≤ t → pos 0 ≤ℤ ago j) → UpTo t o
      → (negsuc 0 ≤ℤ aged ago hold o) × (aged ago hold o ≤ℤ hold)
  span_by ago hold t None low there h = (omega (arith, ints), omega (arith, ints, low))
  span_by ago hold t (Some j) low there h = let up = there j h in (grind (arith, ints), grind (arith, ints))

  -- it is -1 to the hold
  pub age_span : (ago : ℕ → ℤ) (hold : ℤ) (c : ℕ → Bool) (t : ℕ) → from ≤ t → pos 0 ≤ℤ hold → ((j : ℕ) → j ≤ t → pos 0 ≤ℤ ago j)
      → (negsuc 0 ≤ℤ age from ago hold c t) × (age from ago hold c t ≤ℤ hold)
  age_span ago hold c t start low there = span_by ago hold t (run_start c t) low there (run_low c t (omega (arith, start)))

-- it begins at 0
pub age_first : (t : ℕ) (ago : ℕ → ℤ) (hold : ℤ) (c : ℕ → Bool) → ago t ≡ pos 0 → pos 0 ≤ℤ hold → age t ago hold c t
    ≡ cond (c t) (pos 0) (negsuc 0)
age_first t ago hold c none low =
    ap (λ js. aged t ago hold (find (λ j. list_all c (scans j t)) js)) (scans_one t)
    ∙ ap (λ js. aged t ago hold (cond (list_all c js) (Some t) None)) (scans_one t)
    ∙ first_by (c t)
  where
    first_by : (b : Bool) → aged t ago hold (cond (b && true) (Some t) None) ≡ cond b (pos 0) (negsuc 0)
    first_by true = ap (int_min hold) none ∙ min_none hold low
    first_by false = refl

module _ (p q : ℕ → Bool) (falls : (j k : ℕ) → j ≤ k → q k ≡ true → q j ≡ true) where
  any_falls : (a n j : ℕ) → j ≤ a → list_any (λ k. q k && p k) (range_with_len a n) ≡ true → q j ≡ true
  any_falls a zero j low e = absurd (true≢false (sym e))
  any_falls a (suc n) j low e = ⊎_elim
      (λ here. falls j a low (and_parts (q a) (p a) here).0)
      (λ past. any_falls (a + 1) n j (omega (arith, low)) past)
      (or_cases (q a && p a) (list_any (λ k. q k && p k) (range_with_len (a + 1) n)) e)

  absorbed : (b rest : Bool) → (rest ≡ true → b ≡ true) → ((b && true) || rest) ≡ b
  absorbed true rest h = refl
  absorbed false true h = sym (h refl)
  absorbed false false h = refl

  dropped : (b rest : Bool) → ((b && false) || rest) ≡ rest
  dropped true rest = refl
  dropped false rest = refl

  first_by : (a : ℕ) (here rest : Bool) (o : Option ℕ) → (rest ≡ true → q a ≡ true) → rest ≡ elim o [ None ↦ false | Some j ↦ q j ]
      → ((q a && here) || rest) ≡ elim (cond here (Some a) o) [ None ↦ false | Some j ↦ q j ]
  first_by a true rest o h e = absorbed (q a) rest h
  first_by a false rest o h e = dropped (q a) rest ∙ e

  -- where a test that falls and another are met together at some place, the first place of the other does
  any_is_first : (a n : ℕ) → list_any (λ j. q j && p j) (range_with_len a n)
      ≡ elim (find p (range_with_len a n)) [ None ↦ false | Some j ↦ q j ]
  any_is_first a zero = refl
  any_is_first a (suc n) = first_by a (p a) (list_any (λ j. q j && p j) (range_with_len (a + 1) n)) (find p (range_with_len (a + 1) n))
      (any_falls (a + 1) n a (omega arith)) (any_is_first (a + 1) n)

le_true : (a b c : ℤ) → int_le c a ≡ true → a ≤ℤ b → int_le c b ≡ true
le_true a b c h l = grind (arith, ints)

full : (hold e : ℤ) → int_le hold e ≡ int_le hold (int_min hold e)
full hold e = grind (arith, ints)

never : (hold : ℤ) → pos 0 ≤ℤ hold → false ≡ int_le hold (negsuc 0)
never hold h = grind (arith, ints)

full_by : (hold : ℤ) (ago : ℕ → ℤ) (o : Option ℕ) → pos 0 ≤ℤ hold
    → elim o [ None ↦ false | Some j ↦ int_le hold (ago j) ] ≡ int_le hold (elim o [ None ↦ negsuc 0 | Some j ↦ int_min hold (ago j) ])
full_by hold ago None low = never hold low
full_by hold ago (Some j) low = full hold (ago j)

-- a condition is held exactly where its age has come to the hold
pub held_is : (from : ℕ) (ago : ℕ → ℤ) (hold : ℤ) (condition : ℕ → Bool) (t : ℕ) → ((j k : ℕ) → j ≤ k → ago k ≤ℤ ago j) → pos 0 ≤ℤ hold
    → held from ago hold condition t ≡ int_le hold (age from ago hold condition t)
held_is from ago hold condition t falls low =
    any_is_first (λ j. list_all condition (scans j t)) (λ j. int_le hold (ago j)) (λ j k l e. le_true (ago k) (ago j) hold e (falls j k l))
    from (suc t - from)
    ∙ full_by hold ago (find (λ j. list_all condition (scans j t)) (scans from t)) low

age_most : (hold : ℤ) (ago : ℕ → ℤ) (o : Option ℕ) → pos 0 ≤ℤ hold → elim o [ None ↦ negsuc 0 | Some j ↦ int_min hold (ago j) ] ≤ℤ hold
age_most hold ago None low = grind (arith, ints)
age_most hold ago (Some j) low = grind (arith, ints)

most_is : (hold a : ℤ) → a ≤ℤ hold → int_le hold a ≡ true → a ≡ hold
most_is hold a most least = grind (arith, ints)

same_le : (hold a : ℤ) → a ≡ hold → int_le hold a ≡ true
same_le hold a e = grind (arith, ints)

pub held_is_full_age : HeldIsFullAge
held_is_full_age from ago hold condition t falls low =
    let is = held_is from ago hold condition t falls low in
    let most = age_most hold ago (find (λ j. list_all condition (scans j t)) (scans from t)) low in
    (λ h. most_is hold _ most (sym is ∙ h), λ e. is ∙ same_le hold _ e)
