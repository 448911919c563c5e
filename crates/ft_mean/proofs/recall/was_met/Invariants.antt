use Rattle.std.proofs.Common.{◌≡◌, ◌-◌, suc}
use Rattle.std.specs.Prelude.{reverse}
use Rattle.std.specs.List.{range_with_len}
use Rattle.ft_mean.specs.meaning.Past.{hyst}
use Rattle.ft_mean.specs.judge.Seen.{view_at}
use Rattle.ft_mean.specs.meaning.Value.{value}
use Rattle.ft_mean.proofs.PastLemmas.{band}
use Rattle.ft_mean.proofs.recall.was_met.Given as goal

-- what the scans that were not looked at yet would say is what all say
abbrev pub invariant-loop-back : goal.invariant-loop-back
invariant-loop-back l =
    hyst l.begun l.lo l.hi l.start (λ j. value (view_at l.seen j) l.term) l.scan
    ≡ band l.lo l.hi l.start (λ j. value (view_at l.seen j) l.term) (reverse (range_with_len l.begun (suc l.scan - l.begun - l.back)))
