use Rattle.std.proofs.Common.{◌≡◌, ◌<◌, ℕ, length, slice_get}
use Rattle.ft_search.proofs.sweeping.copy_decisions.Given as goal

abbrev pub invariant-loop-atom : goal.invariant-loop-atom
invariant-loop-atom l = record {
  long : length l.to.decided ≡ length l.from.decided;
  same : (a : ℕ) → a < l.atom → slice_get l.to.decided a ≡ slice_get l.from.decided a;
  spans : l.to.spans ≡ l.initial.to.spans;
}
