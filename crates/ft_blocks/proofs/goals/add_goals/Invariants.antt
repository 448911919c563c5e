use Rattle.std.proofs.Common.{◌≡◌, ◌++◌, take}
use Rattle.std.specs.List.{flat_map}
use Rattle.ft_blocks.specs.meaning.Goals.{fact_goals}
use Rattle.ft_blocks.proofs.goals.add_goals.Given as goal

abbrev pub invariant-loop-fact : goal.invariant-loop-fact
invariant-loop-fact l = l.goals ≡ l.initial.goals ++ flat_map fact_goals (take l.fact-index l.facts)
