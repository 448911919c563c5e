use Rattle.std.proofs.Common.{rules, ◌∙◌, sym, ap, neg_ℤ, pos, ◌<ℤ◌, arith}
use Rattle.std.specs.Int.{w128}
use Rattle.std.proofs.lemmas.Int.{ints, to_z-of_z}
use Rattle.ft_base.specs.Division.{floor_of}
use Rattle.ft_linear.specs.meaning.Rules.{up_to, down_to}
use Rattle.ft_linear.proofs.RuleLemmas.{narrowed-up, narrowed-down}
use mir.Val.{SFits}
use Rattle.ft_linear.proofs.rules.narrowed.Goals as goal

pub returns-then-g-gt0 : goal.returns-then-g-gt0
returns-then-g-gt0 c =
    let fits_g : SFits w128 c.args.g = search rules in
    let fits_c : SFits w128 c.args.c = search rules in
    let fits : SFits w128 c.floor.result = search rules in
    let fits_most : SFits w128 c.opposite-most.result = search rules in
    let g = to_z-of_z w128 c.args.g fits_g in
    let most = to_z-of_z w128 c.opposite-most.result fits_most ∙ c.opposite-most.ensures.value
    ∙ ap neg_ℤ (to_z-of_z w128 c.args.c fits_c) in
    let above : pos 0 <ℤ c.args.g = rw (sym g) (grind (arith, ints)) in
    c.up_to.ensures ∙ ap (up_to c.args.span) (to_z-of_z w128 c.floor.result fits ∙ c.floor.ensures.value ∙ (λ i. floor_of (most i) (g i)))
    ∙ sym (narrowed-up c.args.g c.args.c c.args.span above)

pub returns-then-g-lt0 : goal.returns-then-g-lt0
returns-then-g-lt0 c =
    let fits_g : SFits w128 c.args.g = search rules in
    let fits_c : SFits w128 c.args.c = search rules in
    let fits : SFits w128 c.floor-then-g-lt0.result = search rules in
    let fits_most : SFits w128 c.opposite-most.result = search rules in
    let fits_divisor : SFits w128 c.opposite.result = search rules in
    let fits_least : SFits w128 c.opposite-then-g-lt0.result = search rules in
    let g = to_z-of_z w128 c.args.g fits_g in
    let most = to_z-of_z w128 c.opposite-most.result fits_most ∙ c.opposite-most.ensures.value
    ∙ ap neg_ℤ (to_z-of_z w128 c.args.c fits_c) in
    let divisor = to_z-of_z w128 c.opposite.result fits_divisor ∙ c.opposite.ensures.value ∙ ap neg_ℤ g in
    let quotient = to_z-of_z w128 c.floor-then-g-lt0.result fits ∙ c.floor-then-g-lt0.ensures.value
    ∙ (λ i. floor_of (most i) (divisor i)) in
    let below : c.args.g <ℤ pos 0 = rw (sym g) (grind (arith, ints)) in
    c.down_to.ensures ∙ ap (down_to c.args.span) (to_z-of_z w128 c.opposite-then-g-lt0.result fits_least
    ∙ c.opposite-then-g-lt0.ensures.value ∙ ap neg_ℤ quotient) ∙ sym (narrowed-down c.args.g c.args.c c.args.span below)
