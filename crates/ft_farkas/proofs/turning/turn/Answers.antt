use Rattle.ft_farkas.specs.meaning.Rows.{row_of}
use Rattle.ft_farkas.proofs.turning.turn.Goals as goal

pub returns-in-Clash-clause-ends : goal.returns-in-Clash-clause-ends
returns-in-Clash-clause-ends c = c.keep_derived.ensures.ends (row_of c.assign.new.point)
