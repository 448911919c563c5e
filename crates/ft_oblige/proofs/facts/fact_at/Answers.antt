use Rattle.std.proofs.Common.{◌-◌, ◌*◌, ◌≤◌, ◌<◌, subst, sym, length, List}
use Rattle.std.specs.List.{sum_by}
use Rattle.ft_core.specs.declared.tables.Block.{Block}
use Rattle.ft_oblige.specs.laws.ReadsThere.{blocks_of}
use Rattle.ft_oblige.specs.building.NthFact.{IsHalved, IsNthFact}
use Rattle.ft_oblige.proofs.NthLemmas.{half-low, fact-numbered}
use Rattle.ft_oblige.proofs.facts.fact_at.Goals as goal

pub nth_fact-block-requires-clause-few : goal.nth_fact-block-requires-clause-few
nth_fact-block-requires-clause-few c =
    subst (λ (blocks : List Block). length blocks ≤ 400) (sym c.as_slice.ensures) (blocks_of c.args.tables.now).few

pub nth_fact-block-requires-clause-facts : goal.nth_fact-block-requires-clause-facts
nth_fact-block-requires-clause-facts c =
    subst (λ (blocks : List Block). sum_by (λ (block : Block). length block.facts) blocks ≤ 400) (sym c.as_slice.ensures)
    (blocks_of c.args.tables.now).few_facts

pub nth_fact-block-requires-clause-there : goal.nth_fact-block-requires-clause-there
nth_fact-block-requires-clause-there c =
    let S = c.args.tables.now in
    subst (λ (blocks : List Block). c.halved-nth.result.0 < sum_by (λ (block : Block). length block.facts) blocks) (sym c.as_slice.ensures)
    (half-low S c.args.number c.halved-nth.result.0 c.halved-nth.result.1 c.requires.above c.requires.below
    (subst (λ n. IsHalved (c.args.number - 1 - 3 * n) c.halved-nth.result.0 c.halved-nth.result.1) c.len.ensures c.halved-nth.ensures))

pub returns : goal.returns
returns c =
    let S = c.args.tables.now in
    fact-numbered S c.args.number c.halved-nth.result.0 c.halved-nth.result.1 c.requires.above c.nth_fact-block.result.0
    c.nth_fact-block.result.1
    (subst (λ n. IsHalved (c.args.number - 1 - 3 * n) c.halved-nth.result.0 c.halved-nth.result.1) c.len.ensures c.halved-nth.ensures)
    (subst (λ blocks. IsNthFact blocks c.halved-nth.result.0 c.nth_fact-block.result.0 c.nth_fact-block.result.1) c.as_slice.ensures
    c.nth_fact-block.ensures)
