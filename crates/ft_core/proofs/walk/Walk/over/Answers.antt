use Rattle.std.proofs.Common.{arith}
use Rattle.ft_core.proofs.WalkSteps.{all-in}
use Rattle.ft_core.proofs.walk.Walk.over.Goals as goal

pub returns-clause-all : goal.returns-clause-all
returns-clause-all c = λ k item.
    all-in c.args.reads.now c.roots.walk c.roots.invariant.walk c.roots.invariant.empty k item
    (c.roots.invariant.met k (omega (arith, item, c.roots-test.false, c.len-root-end.ensures, c.requires.count)))
