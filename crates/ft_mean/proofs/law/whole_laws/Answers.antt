use Rattle.ft_mean.proofs.WholeLemmas.{runs_are_whole, wholes_split, splits_are_runs, splits_differ}
use Rattle.ft_mean.proofs.law.whole_laws.Goals as goal

pub returns-clause-joint : goal.returns-clause-joint
returns-clause-joint c = runs_are_whole

pub returns-clause-splits : goal.returns-clause-splits
returns-clause-splits c = wholes_split

pub returns-clause-runs : goal.returns-clause-runs
returns-clause-runs c = splits_are_runs

pub returns-clause-differs : goal.returns-clause-differs
returns-clause-differs c = splits_differ
