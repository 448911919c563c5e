use Rattle.std.proofs.Common.{refl}
use Rattle.ft_cover.proofs.PointLemmas.{lent_gap}
use Rattle.ft_cover.proofs.faults.gap_at.Goals as goal

pub returns : goal.returns
returns c = (
  refl,
  lent_gap c.laws.ensures c.args.tables.now c.args.table c.args.obligation c.requires.coverage c.args.point.now c.requires.point
      c.in_ok-values.values c.len.result c.len.ensures c.in_ok-values.ensures.long c.in_ok-values.ensures.same,
)
