use Rattle.ft_linear.proofs.PointLaws.{all-within-tightened, none-where-contradicted}
use Rattle.ft_linear.proofs.SingleLaws.{singles-tighten}
use Rattle.ft_linear.proofs.law.sum_laws.Goals as goal

pub returns-clause-contradicted : goal.returns-clause-contradicted
returns-clause-contradicted c = none-where-contradicted

pub returns-clause-tightened : goal.returns-clause-tightened
returns-clause-tightened c = all-within-tightened

pub returns-clause-single : goal.returns-clause-single
returns-clause-single c = singles-tighten
