use Rattle.std.proofs.Common.{pos, set}
use Rattle.std.proofs.lemmas.List.{get_or-set_same}
use Rattle.ft_farkas.specs.meaning.Rows.{row_of}
use Rattle.ft_farkas.proofs.AssignLemmas.{begun}
use Rattle.ft_farkas.proofs.assigning.start.Goals as goal

pub returns-clause-up : goal.returns-clause-up
returns-clause-up c = begun c.args.kept.now.unknowns c.args.kept.now.rows (row_of (set c.args.point.now 0 (pos 1))) (get_or-set_same c.args.point.now 0 (pos 1) (pos 0) c.requires.point) c.requires.none
