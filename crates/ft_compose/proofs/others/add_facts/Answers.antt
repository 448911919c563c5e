use Rattle.ft_claims.specs.meaning.Names.{claim_of}
use Rattle.ft_oblige.specs.meaning.Blocks.{invariant_of}
use Rattle.ft_compose.proofs.GrowLemmas.{mapped-more}
use Rattle.ft_compose.proofs.others.add_facts.Goals as goal

pub loop-fact-preserved : goal.loop-fact-preserved
loop-fact-preserved c =
    mapped-more (claim_of c.args.tables.now c.args.frame.now) invariant_of c.args.claims.now c.loop-fact.claims c.add_invariant.new.claims
    c.args.facts.now c.loop-fact.fact-index c.fact-item.result c.loop-fact-test.true c.fact-item.is c.loop-fact.invariant
    c.in_ok-add_invariant.ensures
