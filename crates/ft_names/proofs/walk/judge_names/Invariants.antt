use Rattle.std.proofs.Common.{◌≡◌, take, None}
use Rattle.ft_names.specs.meaning.First.{first_of}
use Rattle.ft_names.specs.meaning.Spots.{named}
use Rattle.ft_names.proofs.walk.judge_names.Given as goal

abbrev pub invariant-loop-word : goal.invariant-loop-word
invariant-loop-word g l = first_of (λ x. g.J.Judge.test l.judge (named l.role x)) (take l.word-index l.words) ≡ None
