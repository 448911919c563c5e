use Rattle.std.proofs.Common.{◌≡◌, map, take}
use Rattle.ft_linear.specs.meaning.Form.{span_at}
use Rattle.ft_claims.proofs.spanning.spans_at.Given as goal

abbrev pub invariant-loop-place : goal.invariant-loop-place
invariant-loop-place l = l.list ≡ map (span_at l.spans) (take l.place-index l.places)
