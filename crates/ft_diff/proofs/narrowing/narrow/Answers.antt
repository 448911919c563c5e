use Rattle.std.proofs.Common.{rules, arith, ◌≡◌, ◌+ℤ◌, ◌≤ℤ◌, ℤ, subst, w64}
use Rattle.std.proofs.lemmas.Int.{ints, to_z-of_z}
use Rattle.ft_diff.specs.meaning.Differences.{number_at}
use Rattle.ft_diff.specs.narrowing.Outcome.{HasOutcome, highs}
use Rattle.ft_diff.proofs.NarrowingLemmas.{below-bound, zero-barred}
use mir.Val.{SFits}
use Rattle.ft_diff.proofs.narrowing.narrow.Goals as goal

pub returns-in-Some-clause-outcome : goal.returns-in-Some-clause-outcome
returns-in-Some-clause-outcome c =
    let fh : SFits w64 c.highest.result = search rules in
    let fc : SFits w64 c.args.line.c = search rules in
    let is : c.reach-bound.result ≡ number_at (highs c.args.spans.now) c.args.line.y +ℤ c.args.line.c =
    omega (arith, ints, fh, fc, c.highest.ensures.value, c.reach-bound.ensures) in
    let fb : SFits w64 c.reach-bound.result = search rules in
    below-bound c.args.spans.now c.args.line c.reach-bound.result c.requires.over is c.in-Some.unknown c.tighten_upper_bound.new.spans
    c.tighten_upper_bound.result c.in-Some.is
    (subst (λ (b : ℤ). HasOutcome (λ x. x c.in-Some.unknown ≤ℤ b) c.args.spans.now c.tighten_upper_bound.new.spans
    c.tighten_upper_bound.result) (to_z-of_z w64 c.reach-bound.result fb) c.tighten_upper_bound.ensures.outcome)

pub returns-in-None-clause-outcome : goal.returns-in-None-clause-outcome
returns-in-None-clause-outcome c =
    let fh : SFits w64 c.highest.result = search rules in
    let fc : SFits w64 c.args.line.c = search rules in
    let is : c.reach-bound.result ≡ number_at (highs c.args.spans.now) c.args.line.y +ℤ c.args.line.c =
    omega (arith, ints, fh, fc, c.highest.ensures.value, c.reach-bound.ensures) in
    zero-barred c.args.spans.now c.args.line c.reach-bound.result c.requires.over is c.in-None.is (grind (arith, ints, c.if-bound-lt0.true))
