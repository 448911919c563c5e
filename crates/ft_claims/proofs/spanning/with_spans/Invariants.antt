use Rattle.std.proofs.Common.{◌≡◌, ◌+◌, drop, length}
use Rattle.ft_claims.specs.meaning.Areas.{with_spans}
use Rattle.ft_claims.proofs.spanning.with_spans.Given as goal

abbrev pub invariant-loop-pair : goal.invariant-loop-pair
invariant-loop-pair l = (length l.all ≡ length l.spans + l.pair-index) × (with_spans l.all (drop l.pair-index l.pairs)
    ≡ with_spans l.spans l.pairs)
