use Rattle.std.proofs.Common.{rules, ◌≡◌, ◌∙◌, ◌+ℤ◌, ◌*ℤ◌}
use Rattle.std.specs.Int.{w128}
use Rattle.std.proofs.lemmas.Int.{to_z-of_z}
use Rattle.ft_farkas.specs.meaning.Rows.{row_of}
use Rattle.ft_farkas.proofs.BoundLemmas.{dot-more}
use mir.Val.{SFits}
use Rattle.ft_farkas.proofs.point.value_of.Goals as goal

pub columns-preserved : goal.columns-preserved
columns-preserved c =
    let fits : SFits w128 c.plus-total.result = search rules in
    let term_fits : SFits w128 c.term.result = search rules in
    let sum = rw (to_z-of_z w128 c.term.result term_fits) at c.plus-total.ensures.sum in
    let one : c.term.result ≡ row_of c.args.row.now c.columns.column *ℤ row_of c.args.point.now c.columns.column = search rules in
    let before = c.columns.invariant.0 in
    rw (to_z-of_z w128 c.plus-total.result fits) (
      sum ∙ (λ i. before i +ℤ one i) ∙ dot-more (row_of c.args.row.now) (row_of c.args.point.now) c.columns.column,
      c.plus-total.ensures.small,
    )
