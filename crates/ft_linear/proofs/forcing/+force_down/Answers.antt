use Rattle.std.proofs.Common.{rules, ◌≡◌, ◌∙◌, sym, ap, refl}
use Rattle.ft_linear.specs.declared.node.Node.{the_lemmas}
use Rattle.ft_linear.specs.declared.node.Node.TheVariants.{Not, And, Or}
use Rattle.ft_linear.specs.judging.Slots.{value_at}
use Rattle.ft_linear.proofs.ForcingLemmas.{some-slots, inner-Not, inner-And, inner-Or, root-And, root-Or, slots-left, value-here, size-fits}
use Rattle.ft_linear.proofs.ForcingLemmas.{starts-next, adds-step, adds-At, adds-Not, adds-And, adds-Or, nothing-And, nothing-Or}
use Rattle.ft_linear.proofs.forcing.+force_down.Goals as goal

pub force_down-slots_after-requires : goal.force_down-slots_after-requires
force_down-slots_after-requires t c = some-slots (value_at c.args.values.now) c.args.node.now c.args.slots.now c.requires

pub force_down-root_slot-root-requires : goal.force_down-root_slot-root-requires
force_down-root_slot-root-requires t c = some-slots (value_at c.args.values.now) c.args.node.now c.args.slots.now c.requires

pub force_down-root_slot-root-requires-in-Or : goal.force_down-root_slot-root-requires-in-Or
force_down-root_slot-root-requires-in-Or t c = some-slots (value_at c.args.values.now) c.args.node.now c.args.slots.now c.requires

pub force_down-force_down-requires : goal.force_down-force_down-requires
force_down-force_down-requires t c = (
  search (rules, the_lemmas),
  inner-Not (value_at c.args.values.now) c.get.result.now c.args.node.now c.args.slots.now c.slots_after.result.now
      (c.in-Not.is ∙ ap Not (sym c.get.ensures)) c.requires c.slots_after.ensures,
)

pub force_down-force_parts-requires : goal.force_down-force_parts-requires
force_down-force_parts-requires t c = (
  search (rules, the_lemmas),
  inner-And (value_at c.args.values.now) c.as_slice.result.now c.args.node.now c.args.slots.now c.slots_after-then-is_asked.result.now
      (c.in-And.is ∙ ap And (sym c.as_slice.ensures)) c.requires c.slots_after-then-is_asked.ensures,
)

pub force_down-force_parts-requires-then-is_asked-2 : goal.force_down-force_parts-requires-then-is_asked-2
force_down-force_parts-requires-then-is_asked-2 t c = (
  search (rules, the_lemmas),
  inner-Or (value_at c.args.values.now) c.as_slice-then-is_asked-2.result.now c.args.node.now c.args.slots.now
      c.slots_after-then-is_asked-2.result.now (c.in-Or.is ∙ ap Or (sym c.as_slice-then-is_asked-2.ensures)) c.requires
      c.slots_after-then-is_asked-2.ensures,
)

pub force_down-returns-in-At : goal.force_down-returns-in-At
force_down-returns-in-At t c = adds-At (value_at c.args.values.now) c.args.node.now c.args.want c.args.signs.now c.mark.new.signs
    c.in-At.atom c.in-At.is c.mark.ensures

pub force_down-returns-in-Not : goal.force_down-returns-in-Not
force_down-returns-in-Not t c = adds-Not (value_at c.args.values.now) c.args.node.now c.args.want c.args.signs.now c.force_down.new.signs
    c.get.result.now (c.in-Not.is ∙ ap Not (sym c.get.ensures)) c.force_down.ensures

pub force_down-returns-then-is_asked : goal.force_down-returns-then-is_asked
force_down-returns-then-is_asked t c = let is : c.args.node.now ≡ And c.as_slice.result.now = c.in-And.is
    ∙ ap And (sym c.as_slice.ensures) in
    adds-And (value_at c.args.values.now) c.args.node.now c.args.want c.args.signs.now c.force_parts.new.signs c.as_slice.result.now
    c.root_slot-root.result.only c.is_asked.result
    is (root-And (value_at c.args.values.now) c.as_slice.result.now c.args.node.now c.args.slots.now c.root_slot-root.result is c.requires
    c.root_slot-root.ensures) c.is_asked.ensures c.if-is_asked.true c.force_parts.ensures

pub force_down-returns-else-is_asked : goal.force_down-returns-else-is_asked
force_down-returns-else-is_asked t c = nothing-And (value_at c.args.values.now) c.args.node.now c.args.want c.args.signs.now
    c.args.signs.now c.in-And.parts c.root_slot-root.result.only c.is_asked.result
    c.in-And.is (root-And (value_at c.args.values.now) c.in-And.parts c.args.node.now c.args.slots.now c.root_slot-root.result c.in-And.is
    c.requires c.root_slot-root.ensures) c.is_asked.ensures c.if-is_asked.false refl

pub force_down-returns-then-is_asked-2 : goal.force_down-returns-then-is_asked-2
force_down-returns-then-is_asked-2 t c = let is : c.args.node.now ≡ Or c.as_slice-then-is_asked-2.result.now = c.in-Or.is
    ∙ ap Or (sym c.as_slice-then-is_asked-2.ensures) in
    adds-Or (value_at c.args.values.now) c.args.node.now c.args.want c.args.signs.now c.force_parts-then-is_asked-2.new.signs
    c.as_slice-then-is_asked-2.result.now c.root_slot-root-in-Or.result.only c.is_asked-in-Or.result
    is (root-Or (value_at c.args.values.now) c.as_slice-then-is_asked-2.result.now c.args.node.now c.args.slots.now
    c.root_slot-root-in-Or.result is c.requires c.root_slot-root-in-Or.ensures) c.is_asked-in-Or.ensures c.if-is_asked-2.true
    c.force_parts-then-is_asked-2.ensures

pub force_down-returns-else-is_asked-2 : goal.force_down-returns-else-is_asked-2
force_down-returns-else-is_asked-2 t c = nothing-Or (value_at c.args.values.now) c.args.node.now c.args.want c.args.signs.now
    c.args.signs.now c.in-Or.parts c.root_slot-root-in-Or.result.only c.is_asked-in-Or.result
    c.in-Or.is (root-Or (value_at c.args.values.now) c.in-Or.parts c.args.node.now c.args.slots.now c.root_slot-root-in-Or.result c.in-Or.is
    c.requires c.root_slot-root-in-Or.ensures) c.is_asked-in-Or.ensures c.if-is_asked-2.false refl

pub force_parts-root_slot-first-requires : goal.force_parts-root_slot-first-requires
force_parts-root_slot-first-requires t c = slots-left (value_at c.args.values.now) c.args.parts.now c.loop-part.part-index
    c.part-item.result c.loop-part.rest.now (search rules) (search rules) c.loop-part.invariant.0

pub force_parts-slots_after-rest-requires : goal.force_parts-slots_after-rest-requires
force_parts-slots_after-rest-requires t c = size-fits (value_at c.args.values.now) c.args.parts.now c.loop-part.part-index
    c.part-item.result c.loop-part.rest.now (search rules) (search rules) c.loop-part.invariant.0 c.root_slot-first.result
    c.root_slot-first.ensures

pub force_parts-loop-part-preserved : goal.force_parts-loop-part-preserved
force_parts-loop-part-preserved t c = (
  starts-next (value_at c.args.values.now) c.args.parts.now c.loop-part.part-index c.part-item.result c.loop-part.rest.now (search rules)
      (search rules) c.loop-part.invariant.0 c.root_slot-first.result c.root_slot-first.ensures c.slots_after-rest.result.now
      c.slots_after-rest.ensures,
  adds-step (value_at c.args.values.now) c.args.each c.args.want c.is_asked.result c.can_be.result c.root_slot-first.result.value
      c.args.parts.now c.loop-part.part-index c.part-item.result c.args.signs.now c.loop-part.signs c.force_if.new.signs (search rules)
      (search rules)
      (value-here (value_at c.args.values.now) c.args.parts.now c.loop-part.part-index c.part-item.result c.loop-part.rest.now
      (search rules) (search rules) c.loop-part.invariant.0 c.root_slot-first.result c.root_slot-first.ensures)
      c.can_be.ensures c.is_asked.ensures c.loop-part.invariant.1 c.force_if.ensures,
)
