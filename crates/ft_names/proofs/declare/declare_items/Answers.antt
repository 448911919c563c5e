use Rattle.std.proofs.Common.{◌∙◌, ◌++◌, sym, ap}
use Rattle.std.proofs.lemmas.Result.{err_from_is_err_and}
use Rattle.ft_names.specs.meaning.Declared.{Listing, entries, item_words}
use Rattle.ft_names.proofs.DeclareLemmas.{item-room, item_repeat-none, item_repeat-stops, listing-next, no-listing, no-repeat}
use Rattle.ft_names.proofs.declare.declare_items.Goals as goal

pub loop-number-init : goal.loop-number-init
loop-number-init c = record { made = c.new-names.ensures ∙ sym no-listing; none = no-repeat }

pub declare_item-requires-clause-room : goal.declare_item-requires-clause-room
declare_item-requires-clause-room c =
    item-room c.args.items.now c.loop-number.number c.index-items-number.result c.loop-number.names c.loop-number-test.true
    c.index-items-number.is c.loop-number.invariant.made c.requires.room

pub returns-in_err-declare_item-clause-answers : goal.returns-in_err-declare_item-clause-answers
returns-in_err-declare_item-clause-answers c =
    let p = err_from_is_err_and c.from_residual.result c.from_residual.ensures.1 in
    rw (p.1, p.2)
    (item_repeat-stops c.in_err-declare_item.field-0.0 c.args.items.now c.loop-number.number c.index-items-number.result
    c.loop-number.names
    c.loop-number-test.true c.index-items-number.is c.loop-number.invariant.made c.loop-number.invariant.none
    c.in_err-declare_item.ensures.answers)

pub loop-number-preserved : goal.loop-number-preserved
loop-number-preserved c = record {
  made = c.in_ok-declare_item.ensures.added
      ∙ ap (λ (list : Listing). list ++ entries c.loop-number.number (item_words c.index-items-number.result)) c.loop-number.invariant.made
      ∙ sym (listing-next c.args.items.now c.loop-number.number c.index-items-number.result c.loop-number-test.true
      c.index-items-number.is);
  none = item_repeat-none c.args.items.now c.loop-number.number c.index-items-number.result c.loop-number.names c.loop-number-test.true
      c.index-items-number.is c.loop-number.invariant.made c.loop-number.invariant.none c.in_ok-declare_item.ensures.answers;
}
