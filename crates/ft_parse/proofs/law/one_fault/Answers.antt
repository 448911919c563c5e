use Rattle.ft_parse.proofs.FaultLemmas.{one-fault}
use Rattle.ft_parse.proofs.law.one_fault.Goals as goal

pub returns : goal.returns
returns c = one-fault c.one_tokens.ensures
