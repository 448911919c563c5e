use Rattle.std.proofs.Common.{◌∙◌, sym, ap, subst, length, List, ℤ, ◌∷◌, [], ◌++◌}
use Rattle.std.specs.Prelude.{MatchBool}
use Rattle.std.proofs.lemmas.List.{with_items_is}
use Rattle.ft_core.specs.declared.tables.Section.TheVariants as section
use Rattle.ft_core.specs.declared.tables.Side.{Side}
use Rattle.ft_core.specs.declared.tables.Side.TheVariants as side
use Rattle.ft_core.specs.declared.tables.Tables.{Tables}
use Rattle.ft_core.specs.meaning.Kinds.{outputs, side_kinds}
use Rattle.ft_mean.specs.meaning.Fits.{Maps}
use Rattle.ft_mean.specs.meaning.Reading.{IsListOf, Scans}
use Rattle.ft_mean.specs.meaning.Refines.{SameAt}
use Rattle.ft_replay.specs.scans.Differing.{DiffersAt}
use Rattle.ft_replay.specs.scans.Outputs.{AreOutputs}
use Rattle.ft_replay.proofs.StepLemmas.{outputs-listed}
use Rattle.ft_replay.proofs.replayer.run_scan.Goals as goal

pub output_map-requires-clause-row : goal.output_map-requires-clause-row
output_map-requires-clause-row c =
    let S = c.args.tables.now in
    let design_is = c.as_slice-2.ensures.value
    ∙ with_items_is c.args.rows.now.design c.step-2.new.values (c.step-2.auto.values ∙ c.as_mut_slice-3.ensures.len) in
    let out_is = c.as_slice-3.ensures.value
    ∙ with_items_is c.args.rows.now.outputs c.tell_outputs.new.row (c.tell_outputs.auto.row ∙ c.as_mut_slice-4.ensures.len) in
    let listed = subst (λ (rows : Scans). IsListOf S (side_kinds side.Sof) rows) c.step-2.ensures.rows
    (subst (λ (k : Side). IsListOf S (side_kinds k) c.step-2.new.self.rows) (c.step-2.ensures.side ∙ c.requires.design_side)
    (subst (λ (s : Tables). IsListOf s (side_kinds c.step-2.new.self.side) c.step-2.new.self.rows) (c.step-2.ensures.set
    ∙ c.requires.design) c.step-2.ensures.fits.values)) in
    subst (λ (row : List ℤ). IsListOf S outputs (row ∷ [])) (sym out_is)
    (outputs-listed S c.args.design.now.rows c.step-2.new.values c.tell_outputs.new.row listed
    (subst (λ (row : List ℤ). AreOutputs S (row ∷ []) (c.tell_outputs.new.row ∷ [])) design_is c.tell_outputs.ensures.told)
    (c.tell_outputs.ensures.room ∙ ap length c.as_mut_slice-4.ensures.value ∙ c.requires.rooms.outputs_room))

pub returns-clause-runs : goal.returns-clause-runs
returns-clause-runs c =
    let S = c.args.tables.now in
    let inputs_is = c.as_slice.ensures.value
    ∙ with_items_is c.args.rows.now.inputs c.input_map.new.inputs_row (c.input_map.auto.inputs_row ∙ c.as_mut_slice.ensures.len) in
    let design_is = c.as_slice-2.ensures.value
    ∙ with_items_is c.args.rows.now.design c.step-2.new.values (c.step-2.auto.values ∙ c.as_mut_slice-3.ensures.len) in
    let out_is = c.as_slice-3.ensures.value
    ∙ with_items_is c.args.rows.now.outputs c.tell_outputs.new.row (c.tell_outputs.auto.row ∙ c.as_mut_slice-4.ensures.len) in
    let required_is = c.as_slice-4.ensures.value
    ∙ with_items_is c.args.rows.now.required c.step.new.values (c.step.auto.values ∙ c.as_mut_slice-2.ensures.len) in
    let controlled_is = c.as_slice-5.ensures.value
    ∙ with_items_is c.args.rows.now.controlled c.output_map.new.controlled_row (c.output_map.auto.controlled_row
    ∙ c.as_mut_slice-5.ensures.len) in
    record {
      inputs_row = c.input_map.new.inputs_row;
      required_row = c.step.new.values;
      design_row = c.step-2.new.values;
      outputs_row = c.tell_outputs.new.row;
      controlled_row = c.output_map.new.controlled_row;
      input_map = c.input_map.ensures;
      required_ran = record {
        set = c.step.ensures.set;
        side = c.step.ensures.side;
        list = c.step.ensures.given;
        rows = c.step.ensures.rows;
        fits = c.step.ensures.fits;
      };
      design_ran = record {
        set = c.step-2.ensures.set;
        side = c.step-2.ensures.side;
        list = c.step-2.ensures.given ∙ ap (λ (row : List ℤ). c.args.design.now.given ++ row ∷ []) inputs_is;
        rows = c.step-2.ensures.rows;
        fits = c.step-2.ensures.fits;
      };
      put_out = subst (λ (row : List ℤ). AreOutputs S (row ∷ []) (c.tell_outputs.new.row ∷ [])) design_is c.tell_outputs.ensures.told;
      output_map = subst (λ (row : List ℤ). Maps S section.Out outputs (row ∷ []) (c.output_map.new.controlled_row ∷ [])) out_is
          c.output_map.ensures;
      compared = subst (λ (row : List ℤ). MatchBool c.are_alike.result (SameAt S (row ∷ []) (c.output_map.new.controlled_row ∷ []) 0)
          (DiffersAt S (row ∷ []) (c.output_map.new.controlled_row ∷ []) 0)) required_is
          (subst (λ (row : List ℤ). MatchBool c.are_alike.result (SameAt S (c.as_slice-4.result.now ∷ []) (row ∷ []) 0)
          (DiffersAt S (c.as_slice-4.result.now ∷ []) (row ∷ []) 0)) controlled_is c.are_alike.ensures);
    }
