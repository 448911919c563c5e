use Rattle.ft_farkas.specs.meaning.Kept.{row_in}
use Rattle.ft_farkas.proofs.TableLemmas.{contradicts-not}
use Rattle.ft_farkas.proofs.kept.Kept.contradicts.Goals as goal

pub returns-else-top-eq0 : goal.returns-else-top-eq0
returns-else-top-eq0 c = contradicts-not c.args.self.now.unknowns (row_in c.args.self.now.rows c.args.at) c.top.result c.top.ensures c.if-top-eq0.false
