use Rattle.std.proofs.Common.{subst, false}
use Rattle.ft_cover.specs.meaning.Covered.{IsCover}
use Rattle.ft_cli.proofs.judging.covered.Goals as goal

pub returns-in-Proper-clause-proper : goal.returns-in-Proper-clause-proper
returns-in-Proper-clause-proper c = (subst (IsCover c.args.tables false) c.in-Proper.is c.in_ok-found.ensures.answer).0

pub returns-in-Gap-clause-stopped : goal.returns-in-Gap-clause-stopped
returns-in-Gap-clause-stopped c = λ bytes spelled. (spelled, subst (IsCover c.args.tables false) c.in-Gap.is c.in_ok-found.ensures.answer)

pub returns-in-Overlap-clause-stopped : goal.returns-in-Overlap-clause-stopped
returns-in-Overlap-clause-stopped c = λ bytes spelled.
    (spelled, subst (IsCover c.args.tables false) c.in-Overlap.is c.in_ok-found.ensures.answer)

pub returns-in-OutOfRange-clause-stopped : goal.returns-in-OutOfRange-clause-stopped
returns-in-OutOfRange-clause-stopped c = λ bytes spelled.
    (spelled, subst (IsCover c.args.tables false) c.in-OutOfRange.is c.in_ok-found.ensures.answer)

pub returns-clause-stopped : goal.returns-clause-stopped
returns-clause-stopped c = λ bytes spelled.
    (spelled, subst (IsCover c.args.tables false) c.in-Spent.is c.in_ok-found.ensures.answer)
