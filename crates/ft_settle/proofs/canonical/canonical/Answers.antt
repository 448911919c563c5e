use Rattle.std.proofs.Common.{rules, ◌≤◌, ◌∙◌, sym, ap, subst, arith, neg_ℤ, pos, ◌-ℤ◌, cond, map, length, w64}
use Rattle.std.specs.Prelude.{unsigned_abs}
use Rattle.std.proofs.lemmas.Int.{to_z-of_z}
use Rattle.std.proofs.lemmas.List.{length-map}
use Rattle.ft_base.specs.Division.{floor_of}
use Rattle.ft_linear.specs.meaning.Bounds.{value_most}
use Rattle.ft_linear.specs.meaning.Form.{AreRising, IsSmall}
use Rattle.ft_settle.specs.meaning.Canonical.{gcd_of, is_positive}
use Rattle.ft_settle.specs.settling.Factors.{quotient_of}
use Rattle.ft_settle.proofs.CanonicalLemmas.{begins-well, gcd-divides, quotients-rise, quotients-are}
use mir.Val.{SFits}
use Rattle.ft_settle.proofs.canonical.canonical.Goals as goal

pub of_proper-requires : goal.of_proper-requires
of_proper-requires c =
    let fs = c.args.form.now.factors in
    let sign = c.is_positive-positive.ensures ∙ ap is_positive c.factors-2.ensures.value in
    let divisor = c.gcd_of-divisor.ensures.value ∙ ap gcd_of c.factors.ensures.value in
    let factors = c.in_ok-factors.ensures ∙ (λ i. map (quotient_of (sign i) (divisor i)) (c.factors-3.ensures.value i)) in
    let long = ap length factors ∙ length-map fs (quotient_of (is_positive fs) (gcd_of fs)) in
    let proper = c.factors.ensures.proper in
    let divides = gcd-divides fs c.requires.some (begins-well fs 0 proper.rising) in
    let fits : SFits w64 c.literal_constant-constant.result = search rules in
    let fits_up : SFits w64 c.rounded_up.result = search rules in
    let step = rw (to_z-of_z w64 c.rounded_up.result fits_up) at c.literal_constant-constant.ensures.small in
    let up = c.rounded_up.ensures.small in
    let small : unsigned_abs c.literal_constant-constant.result ≤ value_most = omega (arith, step, up) in
    record {
      few = let few = proper.few in omega (arith, long, few);
      rising = subst (AreRising 0) (sym factors) (quotients-rise c.form_laws.ensures.quotient (is_positive fs) (gcd_of fs) 0 fs divides.1
          divides.0 proper.rising);
      small = subst IsSmall (sym (to_z-of_z w64 c.literal_constant-constant.result fits)) small;
    }

pub returns : goal.returns
returns c =
    let fs = c.args.form.now.factors in
    let sign = c.is_positive-positive.ensures ∙ ap is_positive c.factors-2.ensures.value in
    let divisor = c.gcd_of-divisor.ensures.value ∙ ap gcd_of c.factors.ensures.value in
    let factors = c.in_ok-factors.ensures ∙ (λ i. map (quotient_of (sign i) (divisor i)) (c.factors-3.ensures.value i)) in
    let fits : SFits w64 c.literal_constant-constant.result = search rules in
    let fits_up : SFits w64 c.rounded_up.result = search rules in
    let fits_constant : SFits w64 c.constant.result = search rules in
    let constant_read = to_z-of_z w64 c.constant.result fits_constant ∙ c.constant.ensures.value in
    let up = to_z-of_z w64 c.rounded_up.result fits_up ∙ c.rounded_up.ensures.value
    ∙ (λ i. neg_ℤ (floor_of (neg_ℤ (constant_read i)) (pos (divisor i)))) in
    let constant = to_z-of_z w64 c.literal_constant-constant.result fits ∙ c.literal_constant-constant.ensures.value
    ∙ (λ i. cond (sign i) (up i) (pos 1 -ℤ up i)) in
    c.of_proper.ensures ∙ (λ i. record { factors = factors i; constant = constant i })
    ∙ sym (quotients-are (is_positive fs) (gcd_of fs) c.args.form.now)
