use Rattle.std.proofs.Common.{arith, ◌∙◌, ap, refl}
use Rattle.ft_admit.specs.meaning.Cycles.{numbering, scan_names}
use Rattle.ft_admit.specs.stages.Circles as stage
use Rattle.ft_admit.proofs.CycleLemmas.{first-circle, lent-name, lent-names, named-cycle, no-cycle, reads-there, tree-numbering}
use Rattle.ft_admit.proofs.SetLemmas.{few-items, form-of, terms-of}
use Rattle.ft_admit.proofs.cycles.judge_cycles.Goals as goal

pub order-requires-clause-count : goal.order-requires-clause-count
order-requires-clause-count c =
    let long = c.in_ok-reads.ensures.reads.long in
    let few = few-items c.args.parts.now
    (form-of c.lawful_form.ensures c.args.tree.now c.args.parts.now c.requires.set c.requires.before) in
    omega (arith, long, few)

pub returns-in-Ok-clause-order : goal.returns-in-Ok-clause-order
returns-in-Ok-clause-order c = c.order_gives_set_order.ensures c.args.parts.now.vars c.args.parts.now.memories c.args.parts.now.tables
    (numbering c.args.tree.now.items) c.in_ok-reads.reads c.in-Ok.field-0
    (reads-there c.args.parts.now
    (terms-of c.lawful_terms.ensures c.args.tree.now c.args.parts.now c.requires.set c.requires.before)
    (form-of c.lawful_form.ensures c.args.tree.now c.args.parts.now c.requires.set c.requires.before))
    (tree-numbering c.args.tree.now c.args.parts.now c.requires.set) c.in_ok-reads.ensures.reads c.in-Ok.ensures.ordered

pub returns-in-Ok-clause-none : goal.returns-in-Ok-clause-none
returns-in-Ok-clause-none c = no-cycle c.args.tree.now c.args.parts.now c.requires.set c.in_ok-reads.reads
    c.in_ok-reads.ensures.reads c.in-Ok.ensures.acyclic

pub names_at-requires : goal.names_at-requires
names_at-requires c = lent-name c.args.tree.now c.args.parts.now c.requires.set c.in_ok-reads.reads c.in_ok-reads.ensures.reads
    c.in-Err-Cycle.items
    (first-circle c.in_ok-reads.reads c.in-Err-Cycle.field-0 c.in-Err-Cycle.items c.in-Err-Cycle.field-0-is
    c.in-Err-Cycle.ensures.circle).circle
    c.as_slice-in-Err-Cycle-2.result.now c.as_slice-in-Err-Cycle.result.now c.as_slice-in-Err-Cycle-2.ensures
    (c.as_slice-in-Err-Cycle.ensures ∙ c.in_ok-names-in-Err-Cycle.ensures ∙ ap scan_names c.as_slice.ensures)

pub returns-clause-cycle : goal.returns-clause-cycle
returns-clause-cycle c = stage.cycle c.in_ok-names-in-Err-Cycle-2.names refl
    (named-cycle c.args.tree.now c.args.parts.now c.requires.set c.in_ok-reads.reads c.in_ok-reads.ensures.reads c.in-Err-Cycle.items
    (first-circle c.in_ok-reads.reads c.in-Err-Cycle.field-0 c.in-Err-Cycle.items c.in-Err-Cycle.field-0-is
    c.in-Err-Cycle.ensures.circle)
    c.in_ok-names-in-Err-Cycle-2.names
    (lent-names c.as_slice-in-Err-Cycle-2.result.now c.in-Err-Cycle.items c.as_slice-in-Err-Cycle.result.now
    (scan_names c.args.tree.now.items) c.in_ok-names-in-Err-Cycle-2.names c.as_slice-in-Err-Cycle-2.ensures
    (c.as_slice-in-Err-Cycle.ensures ∙ c.in_ok-names-in-Err-Cycle.ensures ∙ ap scan_names c.as_slice.ensures)
    c.in_ok-names-in-Err-Cycle-2.ensures))
