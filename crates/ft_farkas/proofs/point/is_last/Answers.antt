use Rattle.ft_farkas.specs.meaning.Kept.{row_in}
use Rattle.ft_farkas.proofs.BoundLemmas.{last-test}
use Rattle.ft_farkas.proofs.point.is_last.Goals as goal

pub returns : goal.returns
returns c = last-test c.args.kept.now.unknowns c.args.unknown c.top.result (row_in c.args.kept.now.rows c.args.at) c.requires.unknown c.top.ensures
