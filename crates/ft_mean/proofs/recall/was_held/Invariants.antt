use Rattle.std.proofs.Common.{◌≡◌, ◌-◌, false, ◌&&◌}
use Rattle.std.specs.Prelude.{int_le}
use Rattle.std.specs.List.{list_all, list_any, range_with_len}
use Rattle.ft_mean.specs.judge.Scope.{reading_by}
use Rattle.ft_mean.specs.meaning.Past.{scans}
use Rattle.ft_mean.specs.meaning.Reading.{since}
use Rattle.ft_mean.specs.judge.Seen.{view_at}
use Rattle.ft_mean.specs.meaning.Value.{truth}
use Rattle.ft_mean.proofs.recall.was_held.Given as goal

abbrev pub invariant-loop-from : goal.invariant-loop-from
invariant-loop-from l =
    list_any (λ j. int_le l.hold (since l.known.tables.now (reading_by l.known.tables.now l.known.scope l.known.scans.now) j l.scan)
    && list_all (λ k. truth (view_at l.seen k) l.cond) (scans j l.scan)) (range_with_len l.begun (l.from - l.begun)) ≡ false
