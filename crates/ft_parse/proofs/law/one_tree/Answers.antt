use Rattle.ft_parse.proofs.FaultLemmas.{one-tree}
use Rattle.ft_parse.proofs.law.one_tree.Goals as goal

pub returns : goal.returns
returns c = one-tree c.one_tokens.ensures
