use Rattle.ft_farkas.specs.meaning.Rows.{row_of}
use Rattle.ft_farkas.proofs.BoundLemmas.{none-over}
use Rattle.ft_farkas.proofs.point.first_over.Goals as goal

pub rows-preserved : goal.rows-preserved
rows-preserved c = none-over c.args.kept.now.unknowns c.args.unknown c.args.kept.now.rows (row_of c.args.point.now) c.rows.at c.args.lower.times c.args.lower.value c.is_over.result c.rows.invariant c.is_over.ensures c.if-is_over.false
