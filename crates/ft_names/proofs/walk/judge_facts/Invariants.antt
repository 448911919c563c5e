use Rattle.std.proofs.Common.{◌≡◌, take, None}
use Rattle.ft_names.specs.meaning.First.{first_of}
use Rattle.ft_names.specs.meaning.Spots.{fact_spots}
use Rattle.ft_names.proofs.walk.judge_facts.Given as goal

abbrev pub invariant-loop-fact : goal.invariant-loop-fact
invariant-loop-fact g l = first_of (λ x. first_of (g.J.Judge.test l.judge) (fact_spots x)) (take l.fact-index l.facts) ≡ None
