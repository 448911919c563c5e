use Rattle.std.proofs.Common.{◌∙◌, sym}
use Rattle.std.proofs.lemmas.Option.{same_Some}
use Rattle.ft_core.specs.meaning.Grids.{cells}
use Rattle.ft_cover.specs.building.KeptView.{table_view}
use Rattle.ft_cover.specs.building.Places.{places_in}
use Rattle.ft_cover.proofs.faults.places_at.Goals as goal

pub returns : goal.returns
returns c = λ its at. c.in_ok-found.ensures
    ∙ (λ i. places_in (c.as_slice.ensures i) (table_view c.args.tables.now c.args.slots.now c.args.values.now) c.args.wanted
    (cells (same_Some c.get.result.now its (sym c.get.ensures ∙ at) i).grid))

pub places-requires : goal.places-requires
places-requires c = record {
  safe = c.laws.ensures.tables_safe c.args.tables.now (table_view c.args.tables.now c.args.slots.now c.args.values.now)
      c.requires.keeps c.args.table c.get.result.now c.get.ensures;
}
