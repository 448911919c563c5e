use Rattle.std.proofs.Common.{◌≡◌, ◌<◌, ℕ, length}
use Rattle.ft_linear.specs.meaning.Form.{values_at}
use Rattle.ft_cover.proofs.kept.first_values.Given as goal

abbrev pub invariant-loop-at : goal.invariant-loop-at
invariant-loop-at l = (length l.values ≡ l.at) × ((i : ℕ) → i < l.at → values_at l.values i ≡ values_at l.point i)
