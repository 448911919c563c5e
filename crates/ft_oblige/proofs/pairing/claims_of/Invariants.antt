use Rattle.std.proofs.Common.{◌≡◌, map, take}
use Rattle.ft_claims.specs.meaning.Names.{claim_of}
use Rattle.ft_oblige.proofs.pairing.claims_of.Given as goal

abbrev pub invariant-loop-cond : goal.invariant-loop-cond
invariant-loop-cond l = l.list ≡ map (claim_of l.tables l.frame) (take l.cond-index l.conds)
