use Rattle.std.proofs.Common.{◌≡◌, ◌∙◌, ap, arith, false, replicate, length, slice_index_or, subst}
use Rattle.std.proofs.lemmas.Option.{slice_get-get_or}
use Rattle.ft_scan.specs.steps.Planning.{IsSoFar}
use Rattle.ft_scan.proofs.PlanLemmas.{item-made, none-made, all-made}
use Rattle.ft_scan.proofs.plan.plan.Goals as goal

pub items-init : goal.items-init
items-init c = (none-made c.laws.ensures) c.args.tables.now c.args.side c.args.order.now c.in_ok-planned.planned
    c.in_ok-planned.ensures.steps
    (c.in_ok-planned.ensures.columns ∙ ap (λ n. replicate n false) c.len-2.ensures)

pub add_item-requires-clause-columns : goal.add_item-requires-clause-columns
add_item-requires-clause-columns c = c.items.invariant.0.long

pub items-preserved : goal.items-preserved
items-preserved c = (item-made c.laws.ensures) c.args.tables.now c.args.side c.args.order.now c.requires c.items.item-index
    (slice_index_or c.args.order.now c.items.item-index 0)
    (slice_get-get_or c.args.order.now c.items.item-index 0 c.items-test.true)
    c.items.planned c.add_item.new.self c.items.invariant.0 c.items.invariant.1 c.in_ok-add_item.ensures

pub returns : goal.returns
returns c =
    let all : c.items.item-index ≡ length c.args.order.now = omega (arith, c.items-test.false, c.items.auto.item-index-end) in
    (all-made c.laws.ensures) c.args.tables.now c.args.side c.args.order.now c.requires c.items.planned
    (subst (λ n. IsSoFar c.args.tables.now c.args.side c.args.order.now n c.items.planned) all c.items.invariant)
