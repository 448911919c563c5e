use Rattle.std.proofs.Common.{rules, FitsSigned, w64, to_z-of_z}
use Rattle.ft_search.proofs.PointLemmas.{small-in}
use Rattle.ft_search.proofs.solution.solved.Goals as goal

pub returns-clause-small : goal.returns-clause-small
returns-clause-small c =
    let fits : FitsSigned w64 c.value.result = search rules in
    rw (to_z-of_z fits)
    (small-in c.args.spans.now c.args.numbers.now c.args.unknown c.index-spans-unknown.result c.value.result c.requires.inside
    c.requires.unknown c.index-spans-unknown.is c.lo-least.ensures.bounded c.value.ensures)
