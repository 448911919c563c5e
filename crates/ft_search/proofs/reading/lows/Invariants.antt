use Rattle.std.proofs.Common.{◌≡◌, take}
use Rattle.ft_search.proofs.ReadingLemmas.{AreFull, least_of}
use Rattle.ft_search.proofs.reading.lows.Given as goal

abbrev pub invariant-loop-span : goal.invariant-loop-span
invariant-loop-span l = record {
  values : l.values ≡ least_of (take l.span-index l.spans);
  all : AreFull (take l.span-index l.spans);
}
