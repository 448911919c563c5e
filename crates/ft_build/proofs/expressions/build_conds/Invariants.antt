use Rattle.std.proofs.Common.{◌≡◌, take, map}
use Rattle.ft_names.specs.meaning.Cards.{under}
use Rattle.ft_build.specs.meaning.Conditions.{cond_of}
use Rattle.ft_build.proofs.expressions.build_conds.Given as goal

abbrev pub invariant-loop-expr : goal.invariant-loop-expr
invariant-loop-expr l = l.list ≡ map (cond_of (under l.cards)) (take l.expr-index l.exprs)
