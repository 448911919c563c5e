use Rattle.ft_farkas.proofs.SourceRowLemmas.{upper-at, lower-at}
use Rattle.ft_farkas.proofs.sources.bound_at.Goals as goal

pub returns-then-bound-eq0 : goal.returns-then-bound-eq0
returns-then-bound-eq0 c n below = upper-at n c.args.bound c.if-bound-eq0.true below

pub returns-else-bound-eq0 : goal.returns-else-bound-eq0
returns-else-bound-eq0 c n below = lower-at n c.args.bound c.if-bound-eq0.false below
