use Rattle.std.proofs.Common.{rules, arith, ◌≡◌, ◌∙◌, ◌<ℤ◌, ◌≤ℤ◌, ℤ, pos, ap, subst, sym, slice_set, w64}
use Rattle.std.proofs.lemmas.Int.{ints, to_z-of_z}
use Rattle.std.proofs.lemmas.List.{get_or_default}
use Rattle.ft_linear.specs.meaning.Form.{InArea, span_at}
use Rattle.ft_diff.specs.narrowing.Outcome.{Narrows, highs}
use Rattle.ft_diff.proofs.NarrowingLemmas.{lowered, lowered-high, barred}
use mir.Val.{SFits}
use Rattle.ft_diff.proofs.narrowing.tighten_upper_bound.Goals as goal

span-is : (c : goal.In-Some) → c.index-spans-unknown.result ≡ span_at c.args.spans.now c.args.unknown
span-is c = c.index-spans-unknown.is ∙ get_or_default c.args.spans.now c.args.unknown c.index-spans-unknown.result (pos 0, pos 0)
    c.requires.within

bound-fits : (c : goal.In-Some) → SFits w64 c.args.bound
bound-fits c = search rules

low : (c : goal.In-Some) → (span_at c.args.spans.now c.args.unknown).0 ≤ℤ c.args.bound
low c =
    let first = ap (λ (s : ℤ × ℤ). s.0) (span-is c) in
    let is = to_z-of_z w64 c.args.bound (bound-fits c) in
    omega (arith, ints, first, is, c.in-Some.ensures.some)

less : (c : goal.In-Some) → c.args.bound <ℤ (span_at c.args.spans.now c.args.unknown).1
less c =
    let last = ap (λ (s : ℤ × ℤ). s.1) (span-is c) in
    let f : SFits w64 c.hi.result = search rules in
    grind (arith, ints, f, last, (bound-fits c), c.hi.ensures.value, c.if-hi-bound.false)

part-is : (c : goal.In-Some) → c.in-Some.part ≡ ((span_at c.args.spans.now c.args.unknown).0, c.args.bound)
part-is c = c.in-Some.ensures.some.1 ∙ ap (λ (z : ℤ). (c.index-spans-unknown.result.0, z)) (to_z-of_z w64 c.args.bound (bound-fits c))
    ∙ ap (λ (s : ℤ × ℤ). (s.0, c.args.bound)) (span-is c)

pub returns-in-Some-clause-outcome : goal.returns-in-Some-clause-outcome
returns-in-Some-clause-outcome c =
    subst (λ (p : ℤ × ℤ). Narrows (λ x. x c.args.unknown ≤ℤ c.args.bound) c.args.spans.now (slice_set c.args.spans.now c.args.unknown p))
    (sym (part-is c))
    (lowered c.args.spans.now c.args.unknown c.args.bound c.requires.within (low c) (less c))

pub returns-in-Some-clause-high : goal.returns-in-Some-clause-high
returns-in-Some-clause-high c =
    subst (λ (p : ℤ × ℤ). InArea (slice_set c.args.spans.now c.args.unknown p) (highs (slice_set c.args.spans.now c.args.unknown p)))
    (sym (part-is c))
    (lowered-high c.args.spans.now c.args.unknown c.args.bound c.requires.within (low c) c.requires.high)

pub returns-in-None-clause-outcome : goal.returns-in-None-clause-outcome
returns-in-None-clause-outcome c =
    let same : c.index-spans-unknown.result ≡ span_at c.args.spans.now c.args.unknown = c.index-spans-unknown.is
    ∙ get_or_default c.args.spans.now c.args.unknown c.index-spans-unknown.result (pos 0, pos 0) c.requires.within in
    let first = ap (λ (s : ℤ × ℤ). s.0) same in
    let f : SFits w64 c.args.bound = search rules in
    let is = to_z-of_z w64 c.args.bound f in
    barred c.args.spans.now c.args.unknown c.args.bound c.requires.within (omega (arith, ints, first, is, c.in-None.ensures.none))
