use Rattle.std.proofs.Common.{◌∙◌, ap, ◌++◌}
use Rattle.ft_claims.specs.meaning.Formulas.{conjuncts}
use Rattle.ft_claims.proofs.WholeFormulas.{whole-is}
use Rattle.ft_claims.proofs.wholes.whole_of.Goals as goal

pub returns-clause-formula : goal.returns-clause-formula
returns-clause-formula c =
    (whole-is c.args.base c.args.parts.now c.new-pairs.result c.formulas_of.new.pairs c.in_ok-list.list c.conjuncts_of.new.list
    c.new-pairs.ensures c.in_ok-list.ensures
    (c.in_ok-conjuncts_of.ensures ∙ ap (λ T. c.in_ok-list.list ++ conjuncts c.args.base T) c.as_slice.ensures)).0

pub returns-clause-pairs : goal.returns-clause-pairs
returns-clause-pairs c =
    (whole-is c.args.base c.args.parts.now c.new-pairs.result c.formulas_of.new.pairs c.in_ok-list.list c.conjuncts_of.new.list
    c.new-pairs.ensures c.in_ok-list.ensures
    (c.in_ok-conjuncts_of.ensures ∙ ap (λ T. c.in_ok-list.list ++ conjuncts c.args.base T) c.as_slice.ensures)).1
