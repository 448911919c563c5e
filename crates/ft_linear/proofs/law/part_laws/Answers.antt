use Rattle.ft_linear.proofs.OnePointLemmas.{settled-at-one-point}
use Rattle.ft_linear.proofs.PartLaws.{in-span}
use Rattle.ft_linear.proofs.PointLaws.{all-where-yes, differences-met, forced-hold, no-where-both-ways, none-where-no}
use Rattle.ft_linear.proofs.law.part_laws.Goals as goal

pub returns-clause-none : goal.returns-clause-none
returns-clause-none c = none-where-no

pub returns-clause-all : goal.returns-clause-all
returns-clause-all c = all-where-yes

pub returns-clause-forced : goal.returns-clause-forced
returns-clause-forced c = forced-hold

pub returns-clause-differences : goal.returns-clause-differences
returns-clause-differences c = differences-met

pub returns-clause-both_ways : goal.returns-clause-both_ways
returns-clause-both_ways c = no-where-both-ways

pub returns-clause-one_point : goal.returns-clause-one_point
returns-clause-one_point c = settled-at-one-point

pub returns-clause-spans : goal.returns-clause-spans
returns-clause-spans c = in-span
