use Rattle.std.proofs.Common.{◌∙◌, ap, ◌++◌}
use Rattle.ft_oblige.specs.meaning.Lists.{list_spans, list_parts}
use Rattle.ft_unroll.proofs.FormLemmas.{good-parts, form-parts}
use Rattle.ft_unroll.proofs.forming.list_formula.Goals as goal

pub form_of-requires : goal.form_of-requires
form_of-requires c =
    good-parts c.as_slice.result.now (list_spans c.args.tables.now c.args.scans) c.as_slice-2.result.now
    (list_parts c.args.tables.now c.args.scans) (c.as_slice.ensures ∙ c.in_ok-spans.ensures)
    (c.as_slice-2.ensures ∙ c.in_ok-add_list.ensures ∙ ap (λ xs. xs ++ list_parts c.args.tables.now c.args.scans) c.new-parts.ensures)
    (c.laws.ensures.lists_good c.args.tables.now c.args.scans)

pub returns : goal.returns
returns c =
    form-parts c.as_slice.result.now (list_spans c.args.tables.now c.args.scans) c.as_slice-2.result.now
    (list_parts c.args.tables.now c.args.scans) (c.as_slice.ensures ∙ c.in_ok-spans.ensures)
    (c.as_slice-2.ensures ∙ c.in_ok-add_list.ensures ∙ ap (λ xs. xs ++ list_parts c.args.tables.now c.args.scans) c.new-parts.ensures)
    c.in_ok-form.form c.in_ok-form.ensures
