use Rattle.std.proofs.Common.{◌∙◌, subst, sym}
use Rattle.ft_settle.specs.meaning.Settled.{settled}
use Rattle.ft_claims.specs.laws.FormulaLaws.{AreGood}
use Rattle.ft_claims.specs.meaning.Areas.{finished}
use Rattle.ft_oblige.specs.meaning.States.{slot_spans}
use Rattle.ft_compose.proofs.FormLemmas.{block-there, fact-there, formed-made, parts-good}
use Rattle.ft_compose.proofs.facts.named_fact.Goals as goal

pub get-owner-requires : goal.get-owner-requires
get-owner-requires c = block-there c.args.tables.now c.args.block c.args.fact c.requires.there

pub get-shown-requires : goal.get-shown-requires
get-shown-requires c =
    fact-there c.args.tables.now c.args.block c.args.fact c.get-owner.result.now c.requires.there c.get-owner.ensures

pub oblige-requires : goal.oblige-requires
oblige-requires c =
    let S = c.args.tables.now in
    let spans = c.as_slice.ensures ∙ c.requires.shared.spans in record {
      good = subst (λ s. AreGood s c.as_slice-2.result.now) (sym spans) (subst (AreGood (slot_spans S)) (sym c.as_slice-2.ensures)
          (parts-good S c.args.block c.args.fact c.get-owner.result.now c.get-shown.result.now
          (record { in_set = c.get-owner.ensures; in_block = c.get-shown.ensures }) c.args.anew c.in_ok-parts.parts c.in_ok-parts.ensures
          c.part_laws.ensures.good));
    }

pub returns : goal.returns
returns c =
    let S = c.args.tables.now in
    let spans = c.as_slice.ensures ∙ c.requires.shared.spans in
    let parts = c.as_slice-2.ensures in
    formed-made S c.args.block c.args.fact c.get-owner.result.now c.get-shown.result.now
    (record { in_set = c.get-owner.ensures; in_block = c.get-shown.ensures }) c.args.anew c.in_ok-parts.parts c.in_ok-parts.ensures
    c.in_ok-obliged.obliged c.in_ok-obligation.obligation c.in_ok-names.names c.in_ok-obligation.ensures
    (c.in_ok-names.ensures ∙ c.as_slice-3.ensures)
    (c.in_ok-obliged.ensures.formula ∙ (λ i. settled (finished (spans i) (parts i)).formula))
    (c.in_ok-obliged.ensures.spans ∙ (λ i. (finished (spans i) (parts i)).spans))
    (c.in_ok-obliged.ensures.names ∙ (λ i. (finished (spans i) (parts i)).names))
    c.in_ok-obliged.ensures.over

pub fact_parts-requires-clause-there : goal.fact_parts-requires-clause-there
fact_parts-requires-clause-there c = (c.args.block, c.args.fact, record { in_set = c.get-owner.ensures; in_block = c.get-shown.ensures })
