use Rattle.std.proofs.Common.{◌≡◌, ◌≤ℤ◌, ◌<ℤ◌, ◌<◌, ℕ, pos}
use Rattle.std.specs.Prelude.{IfSome, IfNone}
use Rattle.ft_linear.specs.meaning.Form.{span_at}
use Rattle.ft_search.proofs.points.widest.Given as goal

abbrev pub invariant-spans : goal.invariant-spans
invariant-spans l = record {
  some : IfSome l.best (λ u. (u < l.at) × ((span_at l.spans u).0 <ℤ (span_at l.spans u).1));
  none : IfNone l.best ((l.most ≡ pos 0) × ((u : ℕ) → u < l.at → (span_at l.spans u).0 ≡ (span_at l.spans u).1));
  low : pos 0 ≤ℤ l.most;
}
