use Rattle.std.proofs.Common.{◌∙◌, sym, ap, map}
use Rattle.std.specs.List.{flat_map}
use Rattle.ft_linear.specs.meaning.Form.{Factor}
use Rattle.ft_claims.specs.meaning.Areas.{with_marks}
use Rattle.ft_claims.specs.meaning.Formulas.{unknowns_of}
use Rattle.ft_claims.proofs.KernelLemmas.{unknowns-Le, unknowns-Not, unknowns-And, unknowns-Or}
use Rattle.ft_claims.proofs.MarkLemmas.{unknowns-more}
use Rattle.ft_claims.proofs.marking.+mark.Goals as goal

pub mark_unknowns-returns-in-Le : goal.mark_unknowns-returns-in-Le
mark_unknowns-returns-in-Le t c =
    c.mark_factors.ensures ∙ ap (with_marks c.args.marks.now) (ap (map (λ (f : Factor). f.0)) c.factors.ensures.value
    ∙ sym (unknowns-Le c.in-Le.form) ∙ sym (ap unknowns_of c.in-Le.is))

pub mark_unknowns-returns-in-Not : goal.mark_unknowns-returns-in-Not
mark_unknowns-returns-in-Not t c =
    c.mark_unknowns.ensures ∙ ap (with_marks c.args.marks.now) (ap unknowns_of c.get.ensures ∙ sym (unknowns-Not c.in-Not.inner)
    ∙ sym (ap unknowns_of c.in-Not.is))

pub mark_unknowns-returns-in-And : goal.mark_unknowns-returns-in-And
mark_unknowns-returns-in-And t c =
    c.mark_all.ensures ∙ ap (with_marks c.args.marks.now) (ap (flat_map unknowns_of) c.as_slice.ensures ∙ sym (unknowns-And c.in-And.parts)
    ∙ sym (ap unknowns_of c.in-And.is))

pub mark_unknowns-returns-in-Or : goal.mark_unknowns-returns-in-Or
mark_unknowns-returns-in-Or t c =
    c.mark_all-in-Or.ensures ∙ ap (with_marks c.args.marks.now) (ap (flat_map unknowns_of) c.as_slice-in-Or.ensures
    ∙ sym (unknowns-Or c.in-Or.parts) ∙ sym (ap unknowns_of c.in-Or.is))

pub mark_all-loop-part-preserved : goal.mark_all-loop-part-preserved
mark_all-loop-part-preserved t c =
    unknowns-more c.args.marks.now c.loop-part.marks c.mark_unknowns.new.marks c.args.parts.now c.loop-part.part-index c.part-item.result
    c.loop-part-test.true c.part-item.is c.loop-part.invariant c.mark_unknowns.ensures
