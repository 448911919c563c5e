use Rattle.std.proofs.Common.{◌≡◌, ◌<◌, ◌≤ℤ◌, ℕ, length, slice_get}
use Rattle.ft_linear.specs.meaning.Form.{span_at}
use Rattle.ft_search.proofs.sweeping.copy_spans.Given as goal

abbrev pub invariant-loop-unknown : goal.invariant-loop-unknown
invariant-loop-unknown l = record {
  long : length l.to.spans ≡ length l.from.spans;
  same : (u : ℕ) → u < l.unknown → slice_get l.to.spans u ≡ slice_get l.from.spans u;
  full : (u : ℕ) → u < l.unknown → (span_at l.from.spans u).0 ≤ℤ (span_at l.from.spans u).1;
  decided : l.to.decided ≡ l.initial.to.decided;
}
