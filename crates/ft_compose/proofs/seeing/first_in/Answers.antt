use Rattle.std.proofs.Common.{◌∙◌, ap, subst, sym, length, false}
use Rattle.std.specs.List.{find}
use Rattle.ft_core.specs.meaning.Grids.{cells}
use Rattle.ft_oblige.specs.meaning.Blocks.{now_frame}
use Rattle.ft_cover.specs.building.KeptView.{kept_view}
use Rattle.ft_cover.specs.building.Places.{places_in}
use Rattle.ft_cover.specs.declared.placing.Wanted.TheVariants.{Holding}
use Rattle.ft_compose.specs.building.Deciding.{AreGoodAt, is_told_at}
use Rattle.ft_compose.proofs.seeing.first_in.Goals as goal

pub places-requires : goal.places-requires
places-requires c = record { safe = c.requires.safe }

pub first_told-requires : goal.first_told-requires
first_told-requires c =
    let S = c.args.tables.now in
    let V = kept_view S false c.args.anew c.args.slots.now c.args.values.now in
    let found = c.as_slice-found.ensures ∙ c.in_ok-held.ensures
    ∙ ap (λ vars. places_in vars V Holding (cells c.args.grid.now)) c.as_slice.ensures in record {
      good = subst (λ frame. AreGoodAt S frame c.args.spans.now c.args.variable c.args.grid.now c.as_slice-found.result.now)
          (sym c.now_frame-frame.ensures)
          (subst (AreGoodAt S (now_frame S c.args.anew) c.args.spans.now c.args.variable c.args.grid.now) (sym found) c.requires.good);
    }

pub returns : goal.returns
returns c =
    let S = c.args.tables.now in
    let V = kept_view S false c.args.anew c.args.slots.now c.args.values.now in
    let found = c.as_slice-found.ensures ∙ c.in_ok-held.ensures
    ∙ ap (λ vars. places_in vars V Holding (cells c.args.grid.now)) c.as_slice.ensures in
    c.in_ok-first.ensures ∙ (λ i. find (is_told_at S (c.now_frame-frame.ensures i) (length c.args.spans.now) c.args.variable
    c.args.names.now c.args.grid.now) (found i))
