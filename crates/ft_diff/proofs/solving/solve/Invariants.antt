use Rattle.std.proofs.Common.{ℕ, ℤ, All}
use Rattle.ft_linear.specs.meaning.Form.{InArea}
use Rattle.ft_diff.specs.meaning.Differences.{Meets}
use Rattle.ft_diff.specs.narrowing.Outcome.{highs, room_below}
use Rattle.ft_diff.proofs.solving.solve.Given as goal

-- the spans are a part of the area that has all its solutions
abbrev pub invariant-rounds : goal.invariant-rounds
invariant-rounds l = ((x : ℕ → ℤ) → All (Meets x) l.list → InArea l.area x → InArea l.spans x)
    × ((x : ℕ → ℤ) → InArea l.spans x → InArea l.area x) × InArea l.spans (highs l.spans)

-- each round lowers a greatest number
abbrev pub decreases-rounds : goal.decreases-rounds
decreases-rounds l = room_below l.spans
