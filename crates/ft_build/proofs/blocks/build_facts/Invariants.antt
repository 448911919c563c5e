use Rattle.std.proofs.Common.{◌≡◌, take, map}
use Rattle.ft_names.specs.meaning.Cards.{under}
use Rattle.ft_build.specs.meaning.Blocks.{fact_of}
use Rattle.ft_build.proofs.blocks.build_facts.Given as goal

abbrev pub invariant-loop-fact : goal.invariant-loop-fact
invariant-loop-fact l = l.list ≡ map (fact_of (under l.cards)) (take l.fact-index l.facts)
