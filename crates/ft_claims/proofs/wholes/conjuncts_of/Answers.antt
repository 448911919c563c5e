use Rattle.std.proofs.Common.{◌∙◌, ap, ◌++◌, [], ◌∷◌}
use Rattle.ft_claims.specs.meaning.Formulas.{at_least, at_most}
use Rattle.ft_claims.proofs.WholeFormulas.{conjuncts-more}
use Rattle.ft_claims.proofs.wholes.conjuncts_of.Goals as goal

pub loop-at-preserved : goal.loop-at-preserved
loop-at-preserved c =
    conjuncts-more c.args.base c.loop-at.at c.args.pairs.now c.index-pairs-at.result c.args.list.now c.loop-at.list c.add_conjuncts.new.list
    c.loop-at-test.true c.index-pairs-at.is c.loop-at.invariant
    (c.in_ok-add_conjuncts.ensures ∙ ap (λ n. c.loop-at.list ++ at_most n c.index-pairs-at.result ∷ at_least n c.index-pairs-at.result ∷ [])
    c.in_ok-number.ensures)
