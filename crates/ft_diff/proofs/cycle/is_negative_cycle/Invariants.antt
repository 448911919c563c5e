use Rattle.std.proofs.Common.{◌≤◌, ◌*◌, ℕ, ℤ, ◌+ℤ◌, ◌≤ℤ◌, All}
use Rattle.std.specs.Prelude.{unsigned_abs}
use Rattle.ft_diff.specs.meaning.Differences.{Meets, difference_most}
use Rattle.ft_diff.proofs.cycle.is_negative_cycle.Given as goal

-- every solution keeps the first number within this total of the one that is reached
abbrev pub invariant-loop-turn : goal.invariant-loop-turn
invariant-loop-turn l = ((x : ℕ → ℤ) → All (Meets x) l.list → x l.start ≤ℤ (x l.unknown +ℤ l.total))
    × (unsigned_abs l.total ≤ difference_most * l.turn)
