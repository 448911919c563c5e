-- A timer's running age goes on by one scan at a time, and tells whether the truth has lasted for the hold.
use Rattle.std.proofs.Common.{◌≡◌, ◌∙◌, sym, ap, suc, ◌-◌, ℤ, pos, ◌≤ℤ◌, Bool, false, List, [], ◌∷◌, ◌++◌, length, arith}
use Rattle.std.specs.Prelude.{int_le}
use Rattle.std.proofs.lemmas.List.{get_or_push, get_or_append_left, length_push}
use Rattle.ft_mean.specs.meaning.Past.{held, age}
use Rattle.ft_mean.specs.laws.PastLaws.{next_age, AgeBegins, AgeGoesOn, SameAge, HeldByAge}
use Rattle.ft_memo.specs.Timer.{ago, truth_at, held_after, age_after}
use Rattle.ft_memo.proofs.AgoLemmas.{ago_none, ago_next, ago_up, ago_falls}

module _ (begins : AgeBegins) (goes_on_by : AgeGoesOn) (same_age : SameAge) (held_is : HeldByAge) (hold period : ℤ) (low : pos 0 ≤ℤ hold)
    (up : pos 0 ≤ℤ period) where
  age_push : (truths : List Bool) (now : Bool) → age_after hold period (truths ++ now ∷ [])
      ≡ next_age hold period (age_after hold period truths) now
  age_push [] now = begins 0 (ago period 0) hold (truth_at (now ∷ [])) (ago_none period 0) low
  age_push (first ∷ rest) now =
      let t = length rest in
      let c = truth_at (first ∷ rest ++ now ∷ []) in
      let count : length (rest ++ now ∷ []) ≡ suc t = length_push rest now ∙ omega arith in
      let last : c (suc t) ≡ now = get_or_push (first ∷ rest) now false (suc t) (omega arith) in
      let past : age 0 (ago period t) hold c t ≡ age 0 (ago period t) hold (truth_at (first ∷ rest)) t =
      same_age 0 (ago period t) hold c (truth_at (first ∷ rest)) t (λ j l. get_or_append_left (first ∷ rest) (now ∷ []) false j
      (omega (arith, l))) in
      ap (λ k. age 0 (ago period k) hold c k) count
      ∙ goes_on_by 0 hold period low up (ago period t) (ago period (suc t)) t (omega arith) (λ j l. ago_up period t j up)
      (λ j l. ago_next period t j l)
      (ago_none period (suc t)) c
      ∙ (λ i. next_age hold period (past i) (last i))

  held_last : (first : Bool) (rest : List Bool) → held_after hold period (first ∷ rest) ≡ int_le hold (age_after hold period (first ∷ rest))
  held_last first rest =
      let t = length rest in
      let less : suc t - 1 ≡ t = omega arith in
      ap (λ k. held 0 (ago period k) hold (truth_at (first ∷ rest)) k) less
      ∙ held_is 0 (ago period t) hold (truth_at (first ∷ rest)) t (λ j k l. ago_falls period t j k up l) low

  held_push : (truths : List Bool) (now : Bool) → held_after hold period (truths ++ now ∷ [])
      ≡ int_le hold (age_after hold period (truths ++ now ∷ []))
  held_push [] now = held_last now []
  held_push (first ∷ rest) now = held_last first (rest ++ now ∷ [])

  -- an age that goes on stands for the longer list
  pub age_goes_on : (truths longer : List Bool) (now : Bool) (before after : ℤ) → before ≡ age_after hold period truths → after
      ≡ next_age hold period before now
      → longer ≡ truths ++ now ∷ [] → after ≡ age_after hold period longer
  age_goes_on truths longer now before after is_age goes_on is_longer =
      goes_on ∙ ap (λ a. next_age hold period a now) is_age ∙ sym (age_push truths now) ∙ ap (age_after hold period) (sym is_longer)

  -- and it tells whether the truth has lasted for the hold
  pub age_tells : (truths longer : List Bool) (now : Bool) (after : ℤ) → longer ≡ truths ++ now ∷ [] → after ≡ age_after hold period longer
      → int_le hold after ≡ held_after hold period longer
  age_tells truths longer now after is_longer is_age =
      ap (int_le hold) (is_age ∙ ap (age_after hold period) is_longer) ∙ sym (held_push truths now)
      ∙ ap (held_after hold period) (sym is_longer)
