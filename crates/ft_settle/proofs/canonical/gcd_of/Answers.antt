use Rattle.std.proofs.Common.{◌∙◌, ap, arith, pos, slice_index_or, w64}
use Rattle.std.specs.Prelude.{unsigned_abs}
use Rattle.std.proofs.lemmas.Int.{to_z-of_z, fits_signed_from_abs}
use Rattle.ft_linear.specs.meaning.Form.{Factor, IsSmall}
use Rattle.ft_settle.proofs.CanonicalLemmas.{divisor-none, divisor-more, divisor-all, gcd-is}
use Rattle.ft_settle.proofs.canonical.gcd_of.Goals as goal

pub loop-factor-init : goal.loop-factor-init
loop-factor-init c = divisor-none

pub loop-factor-preserved : goal.loop-factor-preserved
loop-factor-preserved c =
    let fs = c.args.factors.now in
    let i = c.loop-factor.factor-index in
    let d : Factor = (0, pos 0) in
    let factor = (slice_index_or fs i d).1 in
    let small : IsSmall factor = c.form_laws.ensures.small 0 fs i d c.requires.rising c.loop-factor-test.true in
    divisor-more c.loop-factor.divisor c.gcd-divisor.result fs i d c.unsigned_abs.result c.loop-factor-test.true
    (c.unsigned_abs.ensures.value ∙ ap unsigned_abs (to_z-of_z w64 factor (fits_signed_from_abs w64 factor (omega (arith, small)))))
    c.gcd-divisor.ensures c.loop-factor.invariant

pub returns-clause-value : goal.returns-clause-value
returns-clause-value c = (gcd-is c.loop-factor.divisor c.args.factors.now c.requires.some c.requires.rising
    (divisor-all c.loop-factor.divisor c.args.factors.now c.loop-factor.factor-index (omega arith) c.loop-factor.invariant)).0

pub returns-clause-positive : goal.returns-clause-positive
returns-clause-positive c = (gcd-is c.loop-factor.divisor c.args.factors.now c.requires.some c.requires.rising
    (divisor-all c.loop-factor.divisor c.args.factors.now c.loop-factor.factor-index (omega arith) c.loop-factor.invariant)).1

pub returns-clause-small : goal.returns-clause-small
returns-clause-small c = (gcd-is c.loop-factor.divisor c.args.factors.now c.requires.some c.requires.rising
    (divisor-all c.loop-factor.divisor c.args.factors.now c.loop-factor.factor-index (omega arith) c.loop-factor.invariant)).2
