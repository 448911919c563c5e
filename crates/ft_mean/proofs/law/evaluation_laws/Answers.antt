use Rattle.ft_mean.proofs.Agree.{same_value, same_truth}
use Rattle.ft_mean.proofs.CellLemmas.{all_alike}
use Rattle.ft_mean.proofs.CellReads.{same_cell, same_holding}
use Rattle.ft_mean.proofs.law.evaluation_laws.Goals as goal

pub returns-clause-same_value : goal.returns-clause-same_value
returns-clause-same_value c = same_value

pub returns-clause-same_truth : goal.returns-clause-same_truth
returns-clause-same_truth c = same_truth

pub returns-clause-same_truths : goal.returns-clause-same_truths
returns-clause-same_truths c = all_alike

pub returns-clause-same_cell : goal.returns-clause-same_cell
returns-clause-same_cell c = same_cell

pub returns-clause-same_holding : goal.returns-clause-same_holding
returns-clause-same_holding c = same_holding
