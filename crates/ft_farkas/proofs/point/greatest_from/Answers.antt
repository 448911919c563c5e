use Rattle.ft_farkas.specs.meaning.Rows.{row_of}
use Rattle.ft_farkas.proofs.BoundLemmas.{none-more}
use Rattle.ft_farkas.proofs.point.greatest_from.Goals as goal

pub rows-preserved : goal.rows-preserved
rows-preserved c = (
  c.greater-best.ensures.bound,
  none-more c.args.kept.now.unknowns c.args.unknown c.args.kept.now.rows (row_of c.args.point.now) c.rows.at c.rows.best.row c.greater-best.result.row c.rows.best.value c.greater-best.result.value c.rows.best.times c.greater-best.result.times
      c.rows.invariant.0 c.greater-best.ensures.bound c.rows.invariant.1 c.greater-best.ensures.best c.greater-best.ensures.own,
)
