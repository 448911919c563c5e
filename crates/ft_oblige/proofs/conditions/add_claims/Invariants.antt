use Rattle.std.proofs.Common.{◌≡◌, ◌++◌, map, take}
use Rattle.ft_claims.specs.meaning.Names.{claim_of}
use Rattle.ft_oblige.proofs.conditions.add_claims.Given as goal

abbrev pub invariant-loop-cond : goal.invariant-loop-cond
invariant-loop-cond l = l.parts ≡ l.initial.parts ++ map (claim_of l.tables l.frame) (take l.cond-index l.conds)
