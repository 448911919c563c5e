use Rattle.std.proofs.Common.{◌∙◌, ◌≤◌, sym, ap, subst, length, List, ℕ, refl}
use Rattle.ft_core.specs.declared.ordering.OrderFault.{OrderFault}
use Rattle.ft_core.specs.meaning.Order.{AreItems, IsCause}
use Rattle.ft_blocks.specs.meaning.Cycles.{block_reads}
use Rattle.ft_blocks.specs.steps.Faults as step
use Rattle.ft_blocks.proofs.OrderLemmas.{are-blocks, few-blocks, lent-there, named-blocks, uses-blocks}
use Rattle.ft_blocks.proofs.linking.block_order.Goals as goal

pub order-requires-clause-count : goal.order-requires-clause-count
order-requires-clause-count c = subst (λ (reads : List (List ℕ)). length reads ≤ 10000)
    (sym (c.in_ok-reads.ensures ∙ ap block_reads c.as_slice-blocks.ensures))
    (few-blocks c.args.tables.now.vars c.args.tables.now.memories c.args.tables.now.blocks (are-blocks c.args.tables.now))

pub order-requires-clause-bounded : goal.order-requires-clause-bounded
order-requires-clause-bounded c = subst (λ (reads : List (List ℕ)). AreItems reads)
    (sym (c.in_ok-reads.ensures ∙ ap block_reads c.as_slice-blocks.ensures))
    (uses-blocks c.args.tables.now.vars c.args.tables.now.memories c.args.tables.now.blocks (are-blocks c.args.tables.now))

pub names_at-requires : goal.names_at-requires
names_at-requires c = lent-there c.as_slice-blocks.result.now c.in_ok-reads.reads c.in-Err-Cycle.items c.as_slice.result.now
    c.in_ok-reads.ensures c.as_slice.ensures
    (subst (λ (fault : OrderFault). IsCause c.in_ok-reads.reads fault) c.in-Err-Cycle.field-0-is c.in-Err-Cycle.ensures.circle).circle

pub returns-clause-cycle : goal.returns-clause-cycle
returns-clause-cycle c = step.cycle c.in_ok-names-in-Err-Cycle.names refl
    (named-blocks c.args.tables.now.blocks c.as_slice-blocks.result.now c.in_ok-reads.reads c.in-Err-Cycle.items c.as_slice.result.now
    c.in_ok-names-in-Err-Cycle.names c.as_slice-blocks.ensures c.in_ok-reads.ensures c.as_slice.ensures
    (subst (λ (fault : OrderFault). IsCause c.in_ok-reads.reads fault) c.in-Err-Cycle.field-0-is c.in-Err-Cycle.ensures.circle)
    c.in_ok-names-in-Err-Cycle.ensures)
