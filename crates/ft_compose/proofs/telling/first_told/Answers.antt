use Rattle.std.proofs.Common.{◌∙◌, sym, length, arith}
use Rattle.ft_compose.specs.building.Deciding.{is_told_at}
use Rattle.ft_compose.proofs.ToldLemmas.{found-here, passed-over, none-left}
use Rattle.ft_compose.proofs.telling.first_told.Goals as goal

pub is_told_at-requires : goal.is_told_at-requires
is_told_at-requires c = record {
  good = c.requires.good c.loop-at.at c.place_at-place.result
      c.place_at-place.ensures;
}

pub returns-then-told : goal.returns-then-told
returns-then-told c =
    let p = is_told_at c.args.tables.now c.args.frame.now (length c.args.spans.now) c.args.variable c.args.names.now c.args.grid.now in
    sym (found-here p c.args.places.now c.loop-at.at c.place_at-place.result c.place_at-place.ensures
    (sym c.in_ok-told.ensures ∙ c.if-told.true))
    ∙ c.loop-at.invariant

pub loop-at-preserved : goal.loop-at-preserved
loop-at-preserved c =
    let p = is_told_at c.args.tables.now c.args.frame.now (length c.args.spans.now) c.args.variable c.args.names.now c.args.grid.now in
    sym (passed-over p c.args.places.now c.loop-at.at c.place_at-place.result c.place_at-place.ensures
    (sym c.in_ok-told.ensures ∙ c.if-told.false))
    ∙ c.loop-at.invariant

pub returns : goal.returns
returns c =
    let p = is_told_at c.args.tables.now c.args.frame.now (length c.args.spans.now) c.args.variable c.args.names.now c.args.grid.now in
    let past = c.loop-at-test.false in sym (none-left p c.args.places.now c.loop-at.at (omega (arith, past))) ∙ c.loop-at.invariant
