use Rattle.ft_blocks.specs.meaning.Goals.{HaveGoals}
use Rattle.ft_blocks.proofs.goals.missing_goal.Given as goal

abbrev pub invariant-loop-place : goal.invariant-loop-place
invariant-loop-place l = HaveGoals l.vars l.goals l.place
