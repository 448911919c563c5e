use Rattle.ft_replay.proofs.FirstLemmas.{allowed-after}
use Rattle.ft_replay.proofs.law.allowed_after_last.Goals as goal

pub returns : goal.returns
returns c = allowed-after c.laws.ensures.allowed_by_scan
