use Rattle.ft_mean.proofs.LookLemmas.{remember, side_ageless}
use Rattle.ft_mean.proofs.MemoryLemmas.{linked}
use Rattle.ft_mean.proofs.WellFormed.{opened}
use Rattle.ft_mean.proofs.law.memory_laws.Goals as goal

pub returns-clause-remember : goal.returns-clause-remember
returns-clause-remember c = remember

pub returns-clause-ageless : goal.returns-clause-ageless
returns-clause-ageless c = side_ageless

pub returns-clause-linked : goal.returns-clause-linked
returns-clause-linked c = λ S. linked S (opened S)
