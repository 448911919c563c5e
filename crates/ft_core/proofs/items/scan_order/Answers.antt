use Rattle.std.proofs.Common.{length, subst}
use Rattle.ft_core.specs.declared.ordering.OrderFault.{OrderFault}
use Rattle.ft_core.specs.meaning.Order.{IsCause}
use Rattle.ft_core.proofs.ItemLemmas.{are-items, no-circle, of-lent, scan-order}
use Rattle.ft_core.proofs.items.scan_order.Goals as goal

pub order-requires-clause-bounded : goal.order-requires-clause-bounded
order-requires-clause-bounded c = are-items c.len.result c.as_slice.result.now c.as_slice-2.result.now c.in_ok-reads.reads
    c.in_ok-reads.ensures

pub returns-in-Ok : goal.returns-in-Ok
returns-in-Ok c = scan-order (length c.args.tables.now.vars) c.args.tables.now.memories c.args.tables.now.tables c.in_ok-reads.reads
    (of-lent (length c.args.tables.now.vars) c.len.result c.args.tables.now.memories c.as_slice.result.now c.args.tables.now.tables
    c.as_slice-2.result.now c.in_ok-reads.reads
    c.len.ensures c.as_slice.ensures c.as_slice-2.ensures c.in_ok-reads.ensures)
    c.in-Ok.items c.in-Ok.ensures.ordered

pub unreachable-requires : goal.unreachable-requires
unreachable-requires c = no-circle c.args.tables.now.vars c.args.tables.now.memories c.args.tables.now.tables c.in_ok-reads.reads
    c.args.tables.now.sound.order
    (of-lent (length c.args.tables.now.vars) c.len.result c.args.tables.now.memories c.as_slice.result.now c.args.tables.now.tables
    c.as_slice-2.result.now c.in_ok-reads.reads
    c.len.ensures c.as_slice.ensures c.as_slice-2.ensures c.in_ok-reads.ensures)
    c.in-Err-Cycle.field-0-0 (subst (λ (fault : OrderFault). IsCause c.in_ok-reads.reads fault) c.in-Err-Cycle.field-0-is
    c.in-Err-Cycle.ensures.circle).circle
