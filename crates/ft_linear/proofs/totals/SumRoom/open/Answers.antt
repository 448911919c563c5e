use Rattle.std.proofs.Common.{rules, sym, subst}
use Rattle.ft_linear.specs.summing.Totals.{AreClear}
use Rattle.ft_linear.proofs.TotalLemmas.{clear-push}
use Rattle.ft_linear.proofs.totals.SumRoom.open.Goals as goal

pub loop-unknown-preserved : goal.loop-unknown-preserved
loop-unknown-preserved c = (
  search rules,
  subst AreClear (sym c.in_ok-push.ensures.items) (clear-push c.loop-unknown.totals.items c.loop-unknown.invariant.1),
)
