use Rattle.std.proofs.Common.{◌≡◌, false, take, All}
use Rattle.ft_linear.specs.meaning.Form.{InArea}
use Rattle.ft_diff.specs.meaning.Differences.{Meets}
use Rattle.ft_diff.specs.narrowing.Outcome.{HasOutcome, highs, is_barred}
use Rattle.ft_diff.proofs.narrowing.round.Given as goal

-- the lines before this one are done
abbrev pub invariant-lines : goal.invariant-lines
invariant-lines l = HasOutcome (λ x. All (Meets x) (take l.at l.list)) l.initial.spans l.spans l.step × InArea l.spans (highs l.spans)
    × (is_barred l.step ≡ false)
