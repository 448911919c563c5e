use Rattle.ft_mean.proofs.LookLemmas.{side_same, side_follows, nat_same, local}
use Rattle.ft_mean.proofs.law.look_laws.Goals as goal

pub returns-clause-same_side : goal.returns-clause-same_side
returns-clause-same_side c = side_same

pub returns-clause-same_follows : goal.returns-clause-same_follows
returns-clause-same_follows c = side_follows

pub returns-clause-same_nat : goal.returns-clause-same_nat
returns-clause-same_nat c = nat_same

pub returns-clause-local : goal.returns-clause-local
returns-clause-local c = local
