use Rattle.std.proofs.Common.{arith, ◌∙◌, ap, sym, [], map, slice_set}
use Rattle.std.specs.Prelude.{slice_index_or}
use Rattle.std.proofs.lemmas.Option.{slice_get-get_or, get_or_from_slice_get}
use Rattle.ft_core.proofs.NumberingLemmas.{all-moved, is-item, none-moved, number-below, one-moved}
use Rattle.ft_core.proofs.numbering.renumbered.Goals as goal

pub numbers_of-requires : goal.numbers_of-requires
numbers_of-requires c = is-item c.args.numbers.now c.args.reads.now c.loop-item.item c.as_slice.result.now c.requires.numbering
    c.requires.items
    (c.as_slice.ensures ∙ sym (get_or_from_slice_get c.args.reads.now c.loop-item.item c.get.result.now [] c.get.ensures))

pub set-requires : goal.set-requires
set-requires c = number-below c.args.numbers.now c.args.reads.now c.loop-item.lists c.loop-item.item c.requires.numbering
    c.loop-item.invariant
    (omega (arith, c.loop-item-test.true, c.len-item-end.ensures))

pub loop-item-preserved : goal.loop-item-preserved
loop-item-preserved c = one-moved c.args.numbers.now c.args.reads.now c.loop-item.lists c.set.new.self c.loop-item.item
    (slice_index_or c.args.numbers.now c.loop-item.item 0) c.requires.numbering
    (slice_get-get_or c.args.numbers.now c.loop-item.item 0 (let long = c.requires.numbering.long in
    omega (arith, long, c.loop-item-test.true, c.len-item-end.ensures)))
    c.loop-item.invariant
    (c.set.ensures ∙ ap (λ l. slice_set c.loop-item.lists (slice_index_or c.args.numbers.now c.loop-item.item 0) l)
    (c.in_ok-list.ensures ∙ ap (λ items. map (λ k. slice_index_or c.args.numbers.now k 0) items)
    (c.as_slice.ensures ∙ sym (get_or_from_slice_get c.args.reads.now c.loop-item.item c.get.result.now [] c.get.ensures))))

pub returns : goal.returns
returns c = all-moved c.args.numbers.now c.args.reads.now c.loop-item.lists c.loop-item.item c.requires.numbering
    (omega (arith, c.loop-item-test.false, c.len-item-end.ensures)) c.loop-item.invariant
