use Rattle.std.proofs.Common.{◌≡◌}
use Rattle.ft_oblige.specs.meaning.Lists.{list_spans}
use Rattle.ft_unroll.proofs.framing.list_spans.Given as goal

abbrev pub invariant-loop-scan : goal.invariant-loop-scan
invariant-loop-scan l = l.spans ≡ list_spans l.tables l._scan
