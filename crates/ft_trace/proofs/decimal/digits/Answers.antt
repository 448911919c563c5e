use Rattle.std.proofs.Common.{◌∙◌, sym, refl, arith}
use Rattle.std.proofs.lemmas.List.{drop_all}
use Rattle.ft_trace.specs.meaning.Decimal.{digits_after}
use Rattle.ft_trace.proofs.Digits.{below-limit, below-power, digits-step, grows, small-at}
use Rattle.ft_trace.proofs.decimal.digits.Goals as goal

pub returns-in_default-clause-value : goal.returns-in_default-clause-value
returns-in_default-clause-value c =
    let step = digits-step c.args.field.now c.loop-b.b-index c.loop-b.value (omega arith) in
    sym (c.loop-b.invariant.rest ∙ step ∙ rw (← c.in_default.ensures.value) refl)

pub overflow_mul-value : goal.overflow_mul-value
overflow_mul-value c =
    let small = below-limit c.loop-b.b-index c.loop-b.value (omega arith) c.loop-b.invariant.small in omega arith

pub overflow_add-value : goal.overflow_add-value
overflow_add-value c =
    let small = below-limit c.loop-b.b-index c.loop-b.value (omega arith) c.loop-b.invariant.small in omega (arith, c.in-Some.ensures.small)

pub loop-b-preserved : goal.loop-b-preserved
loop-b-preserved c =
    let step = digits-step c.args.field.now c.loop-b.b-index c.loop-b.value (omega arith) in
    record {
      within = omega (arith, c.loop-b-test.true);
      small = rw c.from.ensures (grows _ _ _ c.loop-b.invariant.small c.in-Some.ensures.small);
      rest = c.loop-b.invariant.rest ∙ step ∙ rw (← c.in-Some.ensures.value, c.from.ensures) refl;
    }

pub returns-clause-value : goal.returns-clause-value
unfolding digits_after
returns-clause-value c = sym (c.loop-b.invariant.rest ∙ rw (drop_all c.loop-b.b-index c.args.field.now c.loop-b-test.false) refl)

pub returns-clause-small : goal.returns-clause-small
returns-clause-small c = let most = small-at c.args.field.now c.loop-b.b-index c.requires c.loop-b.invariant.within in
    below-power c.loop-b.b-index c.loop-b.value most c.loop-b.invariant.small
