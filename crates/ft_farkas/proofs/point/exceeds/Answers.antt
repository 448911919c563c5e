use Rattle.std.proofs.Common.{rules, List, ◌∙◌, ap, ◌+◌, ℤ}
use Rattle.std.specs.Int.{w64, w128}
use Rattle.std.proofs.lemmas.Int.{to_z-of_z}
use Rattle.ft_farkas.specs.meaning.Rows.{row_of}
use Rattle.ft_farkas.specs.meaning.Kept.{row_in}
use Rattle.ft_farkas.specs.building.Points.{dot}
use mir.Val.{SFits}
use Rattle.ft_farkas.proofs.BoundLemmas.{excess-test}
use Rattle.ft_farkas.proofs.point.exceeds.Goals as goal

pub returns : goal.returns
returns c =
    let value_fits : SFits w128 c.value_of.result = search rules in
    let factor_fits : SFits w64 (row_of c.row-row.result.now (c.args.unknown + 1)) = search rules in
    let above = rw (to_z-of_z w128 c.value_of.result value_fits, to_z-of_z w64 (row_of c.row-row.result.now (c.args.unknown + 1)) factor_fits) at c.is_above.ensures in
    excess-test c.args.unknown (row_in c.args.kept.now.rows c.args.at) (row_of c.args.point.now) c.args.bound.times c.args.bound.value c.value_of.result (row_of c.row-row.result.now (c.args.unknown + 1)) c.is_above.result
    (c.value_of.ensures.value ∙ ap (λ (xs : List ℤ). dot (c.args.unknown + 1) (row_of xs) (row_of c.args.point.now)) c.row-row.ensures.value)
    (ap (λ (xs : List ℤ). row_of xs (c.args.unknown + 1)) c.row-row.ensures.value) above
