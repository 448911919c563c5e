use Rattle.ft_parse.proofs.FaultLemmas.{fault-or-tree}
use Rattle.ft_parse.proofs.law.fault_or_tree.Goals as goal

pub returns : goal.returns
returns c = fault-or-tree c.one_tokens.ensures
