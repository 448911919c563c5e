-- A band's bit goes on by one scan at a time.
use Rattle.std.proofs.Common.{◌≡◌, ◌∙◌, sym, ap, suc, ℤ, pos, Bool, List, [], ◌∷◌, ◌++◌, length, arith}
use Rattle.std.proofs.lemmas.List.{get_or_push, get_or_append_left, length_push}
use Rattle.ft_mean.specs.meaning.Past.{hyst}
use Rattle.ft_mean.specs.laws.PastLaws.{next_bit, HystBegins, HystGoesOn, SameHyst}
use Rattle.ft_memo.specs.Band.{number_at, hyst_after}

module _ (begins : HystBegins) (goes_on_by : HystGoesOn) (same_hyst : SameHyst) (lo hi : ℤ) (start : Bool) where
  side_push : (numbers : List ℤ) (now : ℤ) → hyst_after lo hi start (numbers ++ now ∷ [])
      ≡ next_bit lo hi (hyst_after lo hi start numbers) now
  side_push [] now = begins lo hi start (number_at (now ∷ [])) 0
  side_push (first ∷ rest) now =
      let t = length rest in
      let e = number_at (first ∷ rest ++ now ∷ []) in
      let count : length (rest ++ now ∷ []) ≡ suc t = length_push rest now ∙ omega arith in
      let last : e (suc t) ≡ now = get_or_push (first ∷ rest) now (pos 0) (suc t) (omega arith) in
      let past : hyst 0 lo hi start e t ≡ hyst 0 lo hi start (number_at (first ∷ rest)) t =
      same_hyst 0 lo hi start e (number_at (first ∷ rest)) t (λ j l. get_or_append_left (first ∷ rest) (now ∷ []) (pos 0) j
      (omega (arith, l))) in
      ap (hyst 0 lo hi start e) count ∙ goes_on_by lo hi start e 0 t (omega arith) ∙ (λ i. next_bit lo hi (past i) (last i))

  -- a bit that goes on stands for the longer list
  pub side_goes_on : (numbers longer : List ℤ) (now : ℤ) (before after : Bool)
      → before ≡ hyst_after lo hi start numbers → after ≡ next_bit lo hi before now → longer ≡ numbers ++ now ∷ [] → after
      ≡ hyst_after lo hi start longer
  side_goes_on numbers longer now before after is_side goes_on is_longer =
      goes_on ∙ ap (λ b. next_bit lo hi b now) is_side ∙ sym (side_push numbers now) ∙ ap (hyst_after lo hi start) (sym is_longer)
