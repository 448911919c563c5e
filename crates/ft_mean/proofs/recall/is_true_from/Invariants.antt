use Rattle.std.proofs.Common.{◌≡◌, ◌-◌, true}
use Rattle.std.specs.List.{list_all, range_with_len}
use Rattle.ft_mean.specs.judge.Seen.{view_at}
use Rattle.ft_mean.specs.meaning.Value.{truth}
use Rattle.ft_mean.proofs.recall.is_true_from.Given as goal

abbrev pub invariant-loop-scan : goal.invariant-loop-scan
invariant-loop-scan l = list_all (λ j. truth (view_at l.seen j) l.cond) (range_with_len l.from (l.scan - l.from)) ≡ true
