use Rattle.std.proofs.Common.{◌∙◌}
use Rattle.ft_oblige.specs.meaning.Lists.{list_spans, difference_parts}
use Rattle.ft_unroll.proofs.FormLemmas.{good-parts, form-parts}
use Rattle.ft_unroll.proofs.forming.difference_formula.Goals as goal

pub form_of-requires : goal.form_of-requires
form_of-requires c =
    good-parts c.as_slice.result.now (list_spans c.args.tables.now c.args.scans) c.as_slice-2.result.now
    (difference_parts c.args.tables.now c.args.scans) (c.as_slice.ensures ∙ c.in_ok-spans.ensures)
    (c.as_slice-2.ensures ∙ c.in_ok-parts.ensures) (c.laws.ensures.differences_good c.args.tables.now c.args.scans c.requires.some)

pub returns : goal.returns
returns c =
    form-parts c.as_slice.result.now (list_spans c.args.tables.now c.args.scans) c.as_slice-2.result.now
    (difference_parts c.args.tables.now c.args.scans) (c.as_slice.ensures ∙ c.in_ok-spans.ensures)
    (c.as_slice-2.ensures ∙ c.in_ok-parts.ensures) c.in_ok-form.form c.in_ok-form.ensures
