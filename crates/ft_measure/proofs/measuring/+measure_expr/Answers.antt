use Rattle.ft_names.specs.meaning.Cards.{under}
use Rattle.ft_measure.proofs.SlopeLemmas.{first-in-Not, first-in-Neg, first-in-Two}
use Rattle.ft_measure.proofs.measuring.+measure_expr.Goals as goal

pub returns-in-Not-clause-first : goal.returns-in-Not-clause-first
returns-in-Not-clause-first t c = λ asked.
    first-in-Not (under c.args.cards.now) asked c.args.expr.now c.in-Not.of c.get.result.now c.in-Not.place
    c.measure_expr-inner.result.first
    c.in-Not.is c.get.ensures c.measure_expr-inner.ensures.first

pub returns-in-Neg-clause-first : goal.returns-in-Neg-clause-first
returns-in-Neg-clause-first t c = λ asked.
    first-in-Neg (under c.args.cards.now) asked c.args.expr.now c.in-Neg.of c.get-in-Neg.result.now c.in-Neg.place
    c.measure_expr-inner-in-Neg.result.first c.slope_at.result c.first_of_three.result c.measure_expr-inner-in-Neg.result.measure
    c.of_negation-measure.result c.in-Neg.is c.get-in-Neg.ensures c.measure_expr-inner-in-Neg.ensures.first
    c.measure_expr-inner-in-Neg.ensures.measured c.of_negation-measure.ensures c.slope_at.ensures c.first_of_three.ensures

pub returns-in-Two-clause-first : goal.returns-in-Two-clause-first
returns-in-Two-clause-first t c = λ asked.
    first-in-Two (under c.args.cards.now) asked c.args.expr.now c.in-Two.left c.in-Two.right c.get-in-Two.result.now
    c.get-in-Two-2.result.now
    c.in-Two.op c.in-Two.place c.measure_expr-left.result.first c.slope_at-in-Two.result c.measure_expr-right.result.first
    c.first_of_three-in-Two.result c.measure_expr-left.result.measure c.measure_expr-right.result.measure c.of_operator-measure.result
    c.operator_fault-why.result c.in-Two.is c.get-in-Two.ensures c.get-in-Two-2.ensures c.measure_expr-left.ensures.first
    c.measure_expr-right.ensures.first c.measure_expr-left.ensures.measured c.measure_expr-right.ensures.measured
    c.of_operator-measure.ensures
    c.operator_fault-why.ensures c.slope_at-in-Two.ensures c.first_of_three-in-Two.ensures
