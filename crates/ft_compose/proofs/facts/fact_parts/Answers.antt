use Rattle.std.proofs.Common.{◌∙◌, ◌++◌, [], ap, length, subst, sym}
use Rattle.ft_claims.specs.laws.FormulaLaws.{AreGood}
use Rattle.ft_oblige.specs.meaning.Blocks.{others, own}
use Rattle.ft_oblige.specs.meaning.Linked.{AreSettled, marked}
use Rattle.ft_oblige.specs.meaning.States.{slot_spans}
use Rattle.ft_compose.specs.building.Rounds.{AreNamed, claims_in}
use Rattle.ft_compose.proofs.FormLemmas.{fact-parts, named-parts, shared-others}
use Rattle.ft_compose.proofs.OthersLemmas.{good-front}
use Rattle.ft_compose.proofs.facts.fact_parts.Goals as goal

pub linked-requires : goal.linked-requires
linked-requires c =
    let S = c.args.tables.now in
    let spans = c.as_slice.ensures ∙ c.requires.shared.spans in record {
      good = subst (λ s. AreGood s c.as_slice-2.result.now) (sym spans)
          (subst (AreGood (slot_spans S)) (sym (c.as_slice-2.ensures ∙ c.in_ok-parts.ensures))
          (good-front (slot_spans S) (own S c.args.anew c.args.block.now c.args.fact.now) (marked [] (others S c.args.anew))
          (c.part_laws.ensures.good S c.requires.there.0 c.requires.there.1 c.args.block.now c.args.fact.now c.requires.there.2
          c.args.anew [])));
      named = subst (λ n. AreNamed n c.others-others.result.now) (c.requires.shared.base ∙ ap length (sym spans))
          (named-parts c.args.shared.now.base (others S c.args.anew) c.others-others.result.now
          (c.others-others.ensures ∙ shared-others S c.args.shared.now c.requires.shared c.args.anew));
    }

pub add_marked-requires : goal.add_marked-requires
add_marked-requires c = ap length c.as_slice-3.ensures ∙ c.in_ok-marks.ensures.long

pub returns : goal.returns
returns c =
    let parts = c.others-others.result.now in
    let spans = c.as_slice.ensures ∙ c.requires.shared.spans in
    fact-parts c.args.tables.now c.args.shared.now c.requires.shared c.args.anew c.args.block.now c.args.fact.now c.in_ok-parts.parts
    c.add_marked.new.claims parts c.in_ok-marks.marks c.in_ok-parts.ensures
    (c.others-others.ensures ∙ shared-others c.args.tables.now c.args.shared.now c.requires.shared c.args.anew)
    (subst (λ n. AreSettled n c.in_ok-parts.parts (claims_in parts) c.in_ok-marks.marks)
    (ap length spans ∙ sym c.requires.shared.base)
    (subst (λ cs. AreSettled (length c.as_slice.result.now) cs (claims_in parts) c.in_ok-marks.marks) c.as_slice-2.ensures
    c.in_ok-marks.ensures.settled))
    (c.in_ok-add_marked.ensures ∙ ap (λ marks. c.in_ok-parts.parts ++ marked marks (claims_in parts)) c.as_slice-3.ensures)
