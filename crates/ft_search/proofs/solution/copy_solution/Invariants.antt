use Rattle.std.proofs.Common.{◌≡◌, ◌<◌, ℕ, length}
use Rattle.ft_linear.specs.meaning.Form.{IsSmall, values_at}
use Rattle.ft_search.proofs.solution.copy_solution.Given as goal

abbrev pub invariant-loop-unknown : goal.invariant-loop-unknown
invariant-loop-unknown l = record {
  long : length l.point ≡ length l.spans;
  same : (u : ℕ) → u < l.unknown → values_at l.point u ≡ values_at l.numbers u;
  small : (u : ℕ) → u < l.unknown → IsSmall (values_at l.point u);
}
