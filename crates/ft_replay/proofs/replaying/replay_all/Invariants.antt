use Rattle.std.proofs.Common.{◌≡◌, take}
use Rattle.ft_replay.proofs.replaying.replay_all.Given as goal

abbrev pub invariant-loop-scan : goal.invariant-loop-scan
invariant-loop-scan l = record {
  set : l.replayer.set ≡ l.initial.replayer.set;
  list : l.replayer.list ≡ take l.scan l.history;
}
