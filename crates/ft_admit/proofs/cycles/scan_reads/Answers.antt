use Rattle.std.proofs.Common.{◌∙◌, ap}
use Rattle.std.proofs.lemmas.Result.{IfOk-weaker}
use Rattle.ft_admit.specs.meaning.Cycles.{numbering}
use Rattle.ft_admit.proofs.CycleLemmas.{lent-reads, tree-numbering}
use Rattle.ft_admit.proofs.SetLemmas.{few-items, form-of}
use Rattle.ft_admit.proofs.cycles.scan_reads.Goals as goal

pub reads_within-requires-clause-shapes : goal.reads_within-requires-clause-shapes
reads_within-requires-clause-shapes c = rw c.as_slice-3.ensures
    (form-of c.lawful_form.ensures c.args.tree.now c.args.parts.now c.requires.set c.requires.before).shapes

pub reads_within-requires-clause-few : goal.reads_within-requires-clause-few
reads_within-requires-clause-few c = rw (c.len.ensures, c.as_slice-2.ensures)
    (few-items c.args.parts.now (form-of c.lawful_form.ensures c.args.tree.now c.args.parts.now c.requires.set c.requires.before))

pub reads_within-requires-clause-numbering : goal.reads_within-requires-clause-numbering
reads_within-requires-clause-numbering c =
    rw (c.len.ensures, c.as_slice-2.ensures, c.as_slice-4.ensures ∙ c.in_ok-numbers.ensures ∙ ap numbering c.as_slice.ensures)
    (tree-numbering c.args.tree.now c.args.parts.now c.requires.set)

pub returns-clause-reads : goal.returns-clause-reads
returns-clause-reads c = IfOk-weaker c.reads_within.result _ _
    (λ reads are. lent-reads _ _ _ _ _ _ _ _ reads c.len.ensures c.as_slice-2.ensures c.as_slice-3.ensures
    (c.as_slice-4.ensures ∙ c.in_ok-numbers.ensures ∙ ap numbering c.as_slice.ensures) are)
    c.reads_within.ensures.reads
