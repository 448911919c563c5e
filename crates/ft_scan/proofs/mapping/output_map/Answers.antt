use Rattle.std.proofs.Common.{◌∙◌, refl, [], true, true≢false}
use Rattle.ft_core.specs.declared.tables.Section.TheVariants.{Out}
use Rattle.ft_core.specs.meaning.Kinds.{outputs}
use Rattle.ft_scan.proofs.RowLemmas.{row_keeps}
use Rattle.ft_scan.proofs.MapLemmas.{has_values, image_maps}
use Rattle.ft_scan.proofs.mapping.output_map.Goals as goal

pub map_row-requires-clause-can : goal.map_row-requires-clause-can
map_row-requires-clause-can c = record {
  image = refl;
  keeps = (row_keeps c.laws.ensures) c.args.tables.now outputs c.args.outputs_row.now [] true c.requires.row (λ e. absurd (true≢false e));
  some = (has_values c.laws.ensures) c.args.tables.now c.requires.proper Out outputs (λ r may. may) c.args.outputs_row.now c.requires.row;
}

pub returns : goal.returns
returns c = (image_maps c.laws.ensures) c.args.tables.now c.requires.proper Out outputs (λ r may. may) c.args.outputs_row.now c.requires.row
    c.map_row.new.image (c.map_row.ensures.width ∙ c.requires.room) c.map_row.ensures.values
