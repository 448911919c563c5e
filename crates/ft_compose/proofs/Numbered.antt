-- The law of composition by the numbers of obligations.
use Rattle.std.proofs.Common.{refl, length}
use Rattle.ft_claims.specs.meaning.Claims.{claim_true}
use Rattle.ft_oblige.specs.laws.Marked.{marked_hold}
use Rattle.ft_oblige.specs.laws.Tests.{both_lists}
use Rattle.ft_oblige.specs.meaning.Blocks.{own, others, block_parts}
use Rattle.ft_oblige.specs.meaning.Linked.{marked}
use Rattle.ft_oblige.specs.meaning.Obligations.{of_fact}
use Rattle.ft_oblige.specs.meaning.States.{slot_spans}
use Rattle.ft_compose.specs.laws.CompositionLaws.{ClosedBlocksCompose}
use Rattle.ft_compose.specs.laws.Laws.{Laws}
use Rattle.ft_compose.proofs.Composition.{compose}
use Rattle.ft_compose.proofs.MarksLemmas.{some_settled}

pub closed_compose : Laws → ClosedBlocksCompose
closed_compose laws S proper goals rank order closes = compose laws S proper goals rank order
    (λ b f block fact anew is σ spans own_true others_true.
    let number = laws.facts_have_numbers S b f block fact is anew in
    some_settled (length (slot_spans S)) (own S anew block fact) (others S anew) (λ ms settled.
    closes number.n number.above number.below _ (of_fact b f block fact anew ms number.is is settled refl) _
    (laws.numbers_make_points (slot_spans S) (block_parts S anew block fact ms) (laws.parts_good S b f block fact is anew ms) σ
    ((laws.slots_are_spans S σ).0 spans)
    (both_lists (claim_true σ) (own S anew block fact) (marked ms (others S anew)) own_true
    (marked_hold (claim_true σ) ms (others S anew) others_true)))))
