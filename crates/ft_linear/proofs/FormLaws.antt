-- What forms keep when they are negated or divided.
use Rattle.std.proofs.Common.{◌≡◌, ◌∙◌, inl, inr, sym, ap, refl, ◌↔◌, ℤ, pos, neg_ℤ, ◌+ℤ◌, ◌-ℤ◌, ◌≤ℤ◌, true, false, not, arith}
use Rattle.std.specs.Prelude.{int_le}
use Rattle.std.proofs.lemmas.Bool.{cases_Bool}
use Rattle.std.proofs.lemmas.Int.{ints}
use Rattle.ft_linear.specs.meaning.Form.{sum_at}
use Rattle.ft_linear.specs.laws.Forms.{LiteralsHold, DividedHolds, QuotientIsExact}
use Rattle.ft_linear.proofs.UnknownLemmas.{sum-scaled, sum-negated}
use Rattle.ft_linear.proofs.Whole.{divided-form, quotient-is}

pub literals-hold : LiteralsHold
literals-hold x true l = refl
literals-hold x false l =
    ap (λ (s : ℤ). int_le (s +ℤ (pos 1 -ℤ l.constant)) (pos 0)) (sum-negated x l.factors) ∙ opposite (sum_at x l.factors) l.constant
  where
    opposite : (s c : ℤ) → int_le (neg_ℤ s +ℤ (pos 1 -ℤ c)) (pos 0) ≡ not (int_le (s +ℤ c) (pos 0))
    opposite s c = elim (cases_Bool (int_le (s +ℤ c) (pos 0))) [
      | inl so ↦ rw so (grind (arith, ints))
      | inr isnt ↦ rw isnt (grind (arith, ints))
    ]

same-test : (a b : ℤ) → (a ≤ℤ pos 0) ↔ (b ≤ℤ pos 0) → int_le a (pos 0) ≡ int_le b (pos 0)
same-test a b (to, from) = elim (cases_Bool (int_le a (pos 0))) [
  | inl so ↦ so ∙ sym (is-so b (to (so-is a so)))
  | inr isnt ↦ elim (cases_Bool (int_le b (pos 0))) [
    | inl so ↦ cc (sym isnt ∙ is-so a (from (so-is b so)))
    | inr neither ↦ isnt ∙ sym neither
  ]
]
  where
    so-is : (z : ℤ) → int_le z (pos 0) ≡ true → z ≤ℤ pos 0
    so-is z e = grind (arith, ints)

    is-so : (z : ℤ) → z ≤ℤ pos 0 → int_le z (pos 0) ≡ true
    is-so z h = grind (arith, ints)

pub divided-holds : DividedHolds
divided-holds x g fs c h = ap (λ (s : ℤ). int_le (s +ℤ c) (pos 0)) (sum-scaled x g fs) ∙ same-test _ _ (divided-form (sum_at x fs) c g h)

pub quotient-exact : QuotientIsExact
quotient-exact q g h = quotient-is _ q g h refl
