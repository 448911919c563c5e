use Rattle.std.proofs.Common.{◌≡◌, take, None}
use Rattle.ft_names.specs.meaning.First.{first_of}
use Rattle.ft_names.specs.meaning.Spots.{term_for}
use Rattle.ft_names.proofs.walk.judge_terms.Given as goal

abbrev pub invariant-loop-expr : goal.invariant-loop-expr
invariant-loop-expr g l = first_of (λ x. g.J.Judge.test l.judge (term_for l.site l.word x)) (take l.expr-index l.exprs) ≡ None
