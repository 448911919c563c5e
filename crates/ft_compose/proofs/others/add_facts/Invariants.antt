use Rattle.std.proofs.Common.{◌≡◌, ◌++◌, map, take}
use Rattle.std.specs.List.{flat_map}
use Rattle.ft_claims.specs.meaning.Names.{claim_of}
use Rattle.ft_oblige.specs.meaning.Blocks.{invariant_of}
use Rattle.ft_compose.proofs.others.add_facts.Given as goal

abbrev pub invariant-loop-fact : goal.invariant-loop-fact
invariant-loop-fact l = l.claims ≡ l.initial.claims ++ map (claim_of l.tables l.frame) (flat_map invariant_of (take l.fact-index l.facts))
