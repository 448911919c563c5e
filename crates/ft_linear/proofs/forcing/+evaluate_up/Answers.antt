use Rattle.std.proofs.Common.{rules, arith, ◌≡◌, ◌∙◌, sym, ap, refl, ◌+◌, length, map, true, false, []}
use Rattle.std.specs.List.{flat_map}
use Rattle.ft_linear.specs.declared.node.Node.{the_lemmas}
use Rattle.ft_linear.specs.declared.node.Node.TheVariants.{Not, And, Or}
use Rattle.ft_base.specs.Three.{three_not}
use Rattle.ft_linear.specs.meaning.Forced.{value_of}
use Rattle.ft_linear.specs.judging.Slots.{value_at, slots_of, only_of}
use Rattle.ft_linear.specs.laws.Nodes.{value-At, value-Not}
use Rattle.ft_linear.proofs.SlotLemmas.{room-At, room-Not, room-And, room-Or, closes, written-none, whole-At, whole-Not, whole-And}
use Rattle.ft_linear.proofs.SlotLemmas.{whole-Or, value-And-by, value-Or-by, only-And-by, only-Or-by, room-part}
use Rattle.ft_linear.proofs.forcing.+evaluate_up.Goals as goal

pub evaluate_up-put-requires-clause-within : goal.evaluate_up-put-requires-clause-within
evaluate_up-put-requires-clause-within t c = room-At (value_at c.args.values.now) c.in-At.atom c.args.node.now c.args.at
    (length c.args.slots.now) c.in-At.is c.requires

pub evaluate_up-evaluate_up-evaluated-requires : goal.evaluate_up-evaluate_up-evaluated-requires
evaluate_up-evaluate_up-evaluated-requires t c = (
  search (rules, the_lemmas),
  rw c.get.ensures (room-Not (value_at c.args.values.now) c.in-Not.inner c.args.node.now c.args.at (length c.args.slots.now) c.in-Not.is
      c.requires).1,
)

pub evaluate_up-put-requires-in-Not-clause-within : goal.evaluate_up-put-requires-in-Not-clause-within
evaluate_up-put-requires-in-Not-clause-within t c = grind (
  arith,
  room-Not (value_at c.args.values.now) c.in-Not.inner c.args.node.now
      c.args.at (length c.args.slots.now) c.in-Not.is c.requires,
  c.evaluate_up-evaluated.auto.slots,
)

pub evaluate_up-evaluate_parts-counts-requires : goal.evaluate_up-evaluate_parts-counts-requires
evaluate_up-evaluate_parts-counts-requires t c = (
  search (rules, the_lemmas),
  rw c.as_slice-parts.ensures (room-And (value_at c.args.values.now) c.in-And.parts c.args.node.now c.args.at (length c.args.slots.now)
      c.in-And.is c.requires).1,
)

pub evaluate_up-put-requires-in-And-clause-within : goal.evaluate_up-put-requires-in-And-clause-within
evaluate_up-put-requires-in-And-clause-within t c = grind (
  arith,
  room-And (value_at c.args.values.now) c.in-And.parts c.args.node.now
      c.args.at (length c.args.slots.now) c.in-And.is c.requires,
  c.evaluate_parts-counts.auto.slots,
)

pub evaluate_up-evaluate_parts-counts-requires-in-Or : goal.evaluate_up-evaluate_parts-counts-requires-in-Or
evaluate_up-evaluate_parts-counts-requires-in-Or t c = (
  search (rules, the_lemmas),
  rw c.as_slice-parts-in-Or.ensures (room-Or (value_at c.args.values.now) c.in-Or.parts c.args.node.now c.args.at (length c.args.slots.now)
      c.in-Or.is c.requires).1,
)

pub evaluate_up-put-requires-in-Or-clause-within : goal.evaluate_up-put-requires-in-Or-clause-within
evaluate_up-put-requires-in-Or-clause-within t c = grind (
  arith,
  room-Or (value_at c.args.values.now) c.in-Or.parts c.args.node.now
      c.args.at (length c.args.slots.now) c.in-Or.is c.requires,
  c.evaluate_parts-counts-in-Or.auto.slots,
)

pub evaluate_up-returns-in-At-clause-value : goal.evaluate_up-returns-in-At-clause-value
evaluate_up-returns-in-At-clause-value t c = c.put.ensures.value ∙ c.value-value.ensures
    ∙ sym (ap (value_of (value_at c.args.values.now)) c.in-At.is ∙ value-At (value_at c.args.values.now) c.in-At.atom)

pub evaluate_up-returns-in-Not-clause-value : goal.evaluate_up-returns-in-Not-clause-value
evaluate_up-returns-in-Not-clause-value t c = c.put-in-Not.ensures.value ∙ c.not.ensures
    ∙ ap three_not (c.evaluate_up-evaluated.ensures.value ∙ ap (value_of (value_at c.args.values.now)) c.get.ensures)
    ∙ sym (ap (value_of (value_at c.args.values.now)) c.in-Not.is ∙ value-Not (value_at c.args.values.now) c.in-Not.inner)

pub evaluate_up-returns-in-And-clause-value : goal.evaluate_up-returns-in-And-clause-value
evaluate_up-returns-in-And-clause-value t c = c.put-in-And.ensures.value ∙ c.all_of.ensures
    ∙ value-And-by (value_at c.args.values.now) c.as_slice-parts.result.now c.evaluate_parts-counts.result.no
    c.evaluate_parts-counts.result.yes (length c.as_slice-parts.result.now)
    c.evaluate_parts-counts.ensures.no c.evaluate_parts-counts.ensures.yes refl c.args.node.now
    (c.in-And.is ∙ ap And (sym c.as_slice-parts.ensures))

pub evaluate_up-returns-in-Or-clause-value : goal.evaluate_up-returns-in-Or-clause-value
evaluate_up-returns-in-Or-clause-value t c = c.put-in-Or.ensures.value ∙ c.any_of.ensures
    ∙ value-Or-by (value_at c.args.values.now) c.as_slice-parts-in-Or.result.now c.evaluate_parts-counts-in-Or.result.no
    c.evaluate_parts-counts-in-Or.result.yes (length c.as_slice-parts-in-Or.result.now)
    c.evaluate_parts-counts-in-Or.ensures.no c.evaluate_parts-counts-in-Or.ensures.yes refl c.args.node.now
    (c.in-Or.is ∙ ap Or (sym c.as_slice-parts-in-Or.ensures))

pub evaluate_up-returns-in-At-clause-written : goal.evaluate_up-returns-in-At-clause-written
evaluate_up-returns-in-At-clause-written t c =
    rw c.put.ensures.next
    (closes (value_at c.args.values.now) c.args.slots.now c.args.slots.now c.put.new.slots c.args.at (c.args.at + 1) []
    (slots_of (value_at c.args.values.now) c.args.node.now)
    (value_of (value_at c.args.values.now) c.args.node.now) c.value-value.result false false
    (room-At (value_at c.args.values.now) c.in-At.atom c.args.node.now c.args.at (length c.args.slots.now) c.in-At.is c.requires)
    (written-none (c.args.at + 1) c.args.slots.now)
    (c.value-value.ensures ∙ sym (ap (value_of (value_at c.args.values.now)) c.in-At.is
    ∙ value-At (value_at c.args.values.now) c.in-At.atom)) refl
    c.put.ensures.slots (whole-At (value_at c.args.values.now) c.in-At.atom c.args.node.now c.in-At.is))

pub evaluate_up-returns-in-Not-clause-written : goal.evaluate_up-returns-in-Not-clause-written
evaluate_up-returns-in-Not-clause-written t c =
    let is : c.args.node.now ≡ Not c.get.result.now = c.in-Not.is ∙ ap Not (sym c.get.ensures) in
    rw c.put-in-Not.ensures.next
    (closes (value_at c.args.values.now) c.args.slots.now c.evaluate_up-evaluated.new.slots c.put-in-Not.new.slots c.args.at
    c.evaluate_up-evaluated.result.next
    (slots_of (value_at c.args.values.now) c.get.result.now) (slots_of (value_at c.args.values.now) c.args.node.now)
    (value_of (value_at c.args.values.now) c.args.node.now) c.not.result false false
    (room-Not (value_at c.args.values.now) c.in-Not.inner c.args.node.now c.args.at (length c.args.slots.now) c.in-Not.is c.requires).0
    c.evaluate_up-evaluated.ensures.written
    (c.not.ensures ∙ ap three_not c.evaluate_up-evaluated.ensures.value
    ∙ sym (ap (value_of (value_at c.args.values.now)) is ∙ value-Not (value_at c.args.values.now) c.get.result.now)) refl
    c.put-in-Not.ensures.slots (whole-Not (value_at c.args.values.now) c.get.result.now c.args.node.now is))

pub evaluate_up-returns-in-And-clause-written : goal.evaluate_up-returns-in-And-clause-written
evaluate_up-returns-in-And-clause-written t c =
    let is : c.args.node.now ≡ And c.as_slice-parts.result.now = c.in-And.is ∙ ap And (sym c.as_slice-parts.ensures) in
    rw c.put-in-And.ensures.next
    (closes (value_at c.args.values.now) c.args.slots.now c.evaluate_parts-counts.new.slots c.put-in-And.new.slots c.args.at
    c.evaluate_parts-counts.result.next
    (flat_map (slots_of (value_at c.args.values.now)) c.as_slice-parts.result.now) (slots_of (value_at c.args.values.now) c.args.node.now)
    (value_of (value_at c.args.values.now) c.args.node.now) c.all_of.result
    (only_of false (map (value_of (value_at c.args.values.now)) c.as_slice-parts.result.now)) c.one_left.result
    (room-And (value_at c.args.values.now) c.in-And.parts c.args.node.now c.args.at (length c.args.slots.now) c.in-And.is c.requires).0
    c.evaluate_parts-counts.ensures.written
    (c.all_of.ensures ∙ value-And-by (value_at c.args.values.now) c.as_slice-parts.result.now c.evaluate_parts-counts.result.no
    c.evaluate_parts-counts.result.yes (length c.as_slice-parts.result.now)
    c.evaluate_parts-counts.ensures.no c.evaluate_parts-counts.ensures.yes refl c.args.node.now is)
    (c.one_left.ensures ∙ only-And-by (value_at c.args.values.now) c.as_slice-parts.result.now c.evaluate_parts-counts.result.no
    c.evaluate_parts-counts.result.yes (length c.as_slice-parts.result.now)
    c.evaluate_parts-counts.ensures.no c.evaluate_parts-counts.ensures.yes refl)
    c.put-in-And.ensures.slots
    (whole-And (value_at c.args.values.now) c.as_slice-parts.result.now c.evaluate_parts-counts.result.no c.evaluate_parts-counts.result.yes
    (length c.as_slice-parts.result.now)
    c.evaluate_parts-counts.ensures.no c.evaluate_parts-counts.ensures.yes refl c.args.node.now is))

pub evaluate_up-returns-in-Or-clause-written : goal.evaluate_up-returns-in-Or-clause-written
evaluate_up-returns-in-Or-clause-written t c =
    let is : c.args.node.now ≡ Or c.as_slice-parts-in-Or.result.now = c.in-Or.is ∙ ap Or (sym c.as_slice-parts-in-Or.ensures) in
    rw c.put-in-Or.ensures.next
    (closes (value_at c.args.values.now) c.args.slots.now c.evaluate_parts-counts-in-Or.new.slots c.put-in-Or.new.slots c.args.at
    c.evaluate_parts-counts-in-Or.result.next
    (flat_map (slots_of (value_at c.args.values.now)) c.as_slice-parts-in-Or.result.now)
    (slots_of (value_at c.args.values.now) c.args.node.now)
    (value_of (value_at c.args.values.now) c.args.node.now) c.any_of.result
    (only_of true (map (value_of (value_at c.args.values.now)) c.as_slice-parts-in-Or.result.now)) c.one_left-in-Or.result
    (room-Or (value_at c.args.values.now) c.in-Or.parts c.args.node.now c.args.at (length c.args.slots.now) c.in-Or.is c.requires).0
    c.evaluate_parts-counts-in-Or.ensures.written
    (c.any_of.ensures ∙ value-Or-by (value_at c.args.values.now) c.as_slice-parts-in-Or.result.now c.evaluate_parts-counts-in-Or.result.no
    c.evaluate_parts-counts-in-Or.result.yes (length c.as_slice-parts-in-Or.result.now)
    c.evaluate_parts-counts-in-Or.ensures.no c.evaluate_parts-counts-in-Or.ensures.yes refl c.args.node.now is)
    (c.one_left-in-Or.ensures ∙ only-Or-by (value_at c.args.values.now) c.as_slice-parts-in-Or.result.now
    c.evaluate_parts-counts-in-Or.result.no c.evaluate_parts-counts-in-Or.result.yes (length c.as_slice-parts-in-Or.result.now)
    c.evaluate_parts-counts-in-Or.ensures.no c.evaluate_parts-counts-in-Or.ensures.yes refl)
    c.put-in-Or.ensures.slots
    (whole-Or (value_at c.args.values.now) c.as_slice-parts-in-Or.result.now c.evaluate_parts-counts-in-Or.result.no
    c.evaluate_parts-counts-in-Or.result.yes (length c.as_slice-parts-in-Or.result.now)
    c.evaluate_parts-counts-in-Or.ensures.no c.evaluate_parts-counts-in-Or.ensures.yes refl c.args.node.now is))

pub evaluate_parts-evaluate_up-evaluated-requires : goal.evaluate_parts-evaluate_up-evaluated-requires
evaluate_parts-evaluate_up-evaluated-requires t c = (
  search (rules, the_lemmas),
  room-part (slots_of (value_at c.args.values.now)) c.args.parts.now c.loop-part.part-index c.part-item.result c.args.at c.loop-part.next
      (length c.args.slots.now) (length c.loop-part.slots)
      (search rules) (search rules) c.requires c.loop-part.invariant.0.0 c.loop-part.invariant.3,
)
