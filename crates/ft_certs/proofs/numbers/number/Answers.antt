use Rattle.std.proofs.Common.{◌≡◌, ◌∙◌, sym, ap, ℕ, List, ◌++◌, ◌∷◌, [], arith}
use Rattle.std.proofs.Common.{append_assoc, true, false}
use Rattle.std.proofs.lemmas.Bool.{true≢false}
use Rattle.std.specs.Fmt.{decimal}
use Rattle.ft_base.specs.Digits.{is_digit}
use Rattle.std.proofs.lemmas.List.{nil_from_length}
use Rattle.ft_certs.proofs.NumberLemmas.{decimal-first, decimal-more, digit-back, stuck-at_start, stuck-empty, stuck-end, stuck-later}
use Rattle.ft_certs.proofs.numbers.number.Goals as goal

pub returns-in_default-clause-stopped : goal.returns-in_default-clause-stopped
returns-in_default-clause-stopped c =
    stuck-empty c.args.least c.args.most c.args.ends.now c.requires.least c.requires.most (omega (arith, c.ranges.most.fits)) c.requires.ends
    c.args.bytes.now (nil_from_length c.args.bytes.now c.in_default.ensures.cases)

pub returns-in_default-first_digit-clause-stopped :
    goal.returns-in_default-first_digit-clause-stopped
returns-in_default-first_digit-clause-stopped c =
    stuck-at_start c.args.least c.args.most c.args.ends.now c.requires.least c.requires.most (omega (arith, c.ranges.most.fits)) c.requires.ends
    c.args.bytes.now c.in-Some.first.now c.in-Some.more.now c.in-Some.ensures.cases.0 c.in_default-first_digit.ensures

pub digits-init : goal.digits-init
digits-init c = let k = c.in-Some-first_digit.ensures in
    (c.in-Some.ensures.cases.0 ∙ ap (λ (l : List ℕ). l ++ c.in-Some.more.now) (sym (ap decimal k.0 ∙ decimal-first c.in-Some.first.now k.2)), k.1, omega (arith, k.0, (digit-back c.in-Some.first.now k.2).1, c.requires.most))

pub returns-then-not-is_end-clause-stopped : goal.returns-then-not-is_end-clause-stopped
returns-then-not-is_end-clause-stopped c =
    let other : is_digit c.in-Some-split_first.byte.now ≡ false = sym c.if-not-is_ascii_digit.ensures.value in
    stuck-later c.args.least c.args.most c.args.ends.now c.requires.least c.requires.most (omega (arith, c.ranges.most.fits)) c.requires.ends
    c.args.bytes.now c.digits.rest.now c.digits.value c.in-Some-split_first.byte.now c.in-Some-split_first.more.now c.in-Some-split_first.ensures.cases.0
    c.digits.invariant.0 c.digits.invariant.1 c.digits.invariant.2 (λ digit. absurd (true≢false (sym digit ∙ other)))
    (λ _. sym c.if-not-is_end.ensures)

pub returns-in_default-with_digit-clause-stopped :
    goal.returns-in_default-with_digit-clause-stopped
returns-in_default-with_digit-clause-stopped c =
    let digit : is_digit c.in-Some-split_first.byte.now ≡ true = sym c.if-not-is_ascii_digit.ensures.value in
    stuck-later c.args.least c.args.most c.args.ends.now c.requires.least c.requires.most (omega (arith, c.ranges.most.fits)) c.requires.ends
    c.args.bytes.now c.digits.rest.now c.digits.value c.in-Some-split_first.byte.now c.in-Some-split_first.more.now c.in-Some-split_first.ensures.cases.0
    c.digits.invariant.0 c.digits.invariant.1 c.digits.invariant.2 (λ _. c.in_default-with_digit.ensures)
    (λ other. absurd (true≢false (sym digit ∙ other)))

pub digits-preserved : goal.digits-preserved
digits-preserved c =
    let digit : is_digit c.in-Some-split_first.byte.now ≡ true = sym c.if-not-is_ascii_digit.ensures.value in
    let k = c.in-Some-with_digit.ensures in
    let more : decimal c.in-Some-with_digit.longer ≡ decimal c.digits.value ++ c.in-Some-split_first.byte.now ∷ [] =
    ap decimal k.0 ∙ decimal-more c.digits.value c.in-Some-split_first.byte.now k.1 digit (omega (arith, k.0, k.2, c.ranges.most.fits)) in (
      c.digits.invariant.0 ∙ ap (λ (l : List ℕ). decimal c.digits.value ++ l) c.in-Some-split_first.ensures.cases.0
          ∙ sym (append_assoc (decimal c.digits.value) (c.in-Some-split_first.byte.now ∷ []) c.in-Some-split_first.more.now)
          ∙ ap (λ (l : List ℕ). l ++ c.in-Some-split_first.more.now) (sym more),
      omega (arith, k.0, k.1, c.digits.invariant.1),
      k.2,
    )

pub returns-clause-stopped : goal.returns-clause-stopped
returns-clause-stopped c =
    stuck-end c.args.least c.args.most c.args.ends.now c.requires.least c.requires.most (omega (arith, c.ranges.most.fits)) c.requires.ends
    c.args.bytes.now c.digits.rest.now c.digits.value (nil_from_length c.digits.rest.now c.in_default-split_first.ensures.cases) c.digits.invariant.0 c.digits.invariant.1 c.digits.invariant.2
