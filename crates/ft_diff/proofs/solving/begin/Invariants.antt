use Rattle.std.proofs.Common.{◌≡◌, ◌<◌, ℕ, take}
use Rattle.ft_base.specs.Interval.{IsWithin}
use Rattle.ft_linear.specs.meaning.Form.{span_at}
use Rattle.ft_diff.specs.narrowing.Outcome.{highs}
use Rattle.ft_diff.proofs.solving.begin.Given as goal

-- the spans before this one are written
abbrev pub invariant-spans : goal.invariant-spans
invariant-spans l = (take l.at l.spans ≡ take l.at l.area) × ((u : ℕ) → u < l.at → IsWithin (span_at l.area u) (highs l.area u))
