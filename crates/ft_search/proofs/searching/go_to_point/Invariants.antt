use Rattle.std.proofs.Common.{◌≡◌, ◌<◌, ◌≤◌, ◌+◌, ℕ, Some, length, slice_get}
use Rattle.ft_linear.specs.meaning.Form.{values_at}
use Rattle.ft_cert.specs.walk.Waiting.{first_of}
use Rattle.ft_search.proofs.searching.go_to_point.Given as goal

abbrev pub invariant-loop-unknown : goal.invariant-loop-unknown
invariant-loop-unknown l = record {
  some : 0 < length l.descent.parts;
  unknowns : l.descent.unknowns ≡ length l.point;
  room : length l.point ≤ l.descent.spare + l.unknown;
  fixed : (u : ℕ) → u < l.unknown → slice_get (first_of l.descent.parts).spans u ≡ Some (values_at l.point u, values_at l.point u);
}
