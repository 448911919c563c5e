use Rattle.std.proofs.Common.{◌∙◌, ◌++◌, ap, map}
use Rattle.std.specs.List.{flat_map}
use Rattle.ft_core.specs.declared.tables.Block.{Block}
use Rattle.ft_claims.specs.meaning.Names.{claim_of}
use Rattle.ft_oblige.specs.meaning.Blocks.{invariant_of}
use Rattle.ft_compose.proofs.GrowLemmas.{mapped-more}
use Rattle.ft_compose.proofs.others.add_blocks.Goals as goal

pub loop-block-preserved : goal.loop-block-preserved
loop-block-preserved c =
    mapped-more (claim_of c.args.tables.now c.args.frame.now) (λ (block : Block). flat_map invariant_of block.facts) c.args.claims.now
    c.loop-block.claims c.add_facts.new.claims c.args.blocks.now c.loop-block.block-index c.block-item.result c.loop-block-test.true
    c.block-item.is c.loop-block.invariant
    (c.in_ok-add_facts.ensures ∙ ap (λ facts. c.loop-block.claims ++ map (claim_of c.args.tables.now c.args.frame.now)
    (flat_map invariant_of facts)) c.as_slice.ensures)
