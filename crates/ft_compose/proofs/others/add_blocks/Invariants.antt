use Rattle.std.proofs.Common.{◌≡◌, ◌++◌, map, take}
use Rattle.std.specs.List.{flat_map}
use Rattle.ft_core.specs.declared.tables.Block.{Block}
use Rattle.ft_claims.specs.meaning.Names.{claim_of}
use Rattle.ft_oblige.specs.meaning.Blocks.{invariant_of}
use Rattle.ft_compose.proofs.others.add_blocks.Given as goal

abbrev pub invariant-loop-block : goal.invariant-loop-block
invariant-loop-block l = l.claims ≡ l.initial.claims
    ++ map (claim_of l.tables l.frame) (flat_map (λ (block : Block). flat_map invariant_of block.facts) (take l.block-index l.blocks))
