use Rattle.ft_replay.proofs.FirstLemmas.{one-first}
use Rattle.ft_replay.proofs.law.one_first_difference.Goals as goal

pub returns : goal.returns
returns c = one-first
