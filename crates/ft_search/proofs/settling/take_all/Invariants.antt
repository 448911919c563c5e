use Rattle.std.proofs.Common.{◌≡◌, ◌≤◌, ◌<◌, ◌+◌, drop, length}
use Rattle.ft_cert.specs.walk.Waiting.{first_of}
use Rattle.ft_search.specs.searching.Sizes.{others_for}
use Rattle.ft_search.specs.searching.Space.{IsUnderWay}
use Rattle.ft_search.specs.searching.Sweep.{after}
use Rattle.ft_search.proofs.NarrowLemmas.{IsCommitted}
use Rattle.ft_search.proofs.settling.take_all.Given as goal

abbrev pub invariant-places : goal.invariant-places
invariant-places l = record {
  way : IsUnderWay l.formula l.area.spans l.room l.counts;
  some : 0 < length l.room.descent.parts;
  first : IsCommitted l.formula (first_of l.initial.room.descent.parts) (first_of l.room.descent.parts)
      (drop l.place l.initial.room.judging.sweep.made.items);
  ends : after (first_of l.room.descent.parts) (drop l.place l.initial.room.judging.sweep.made.items) ≡ l.initial.room.judging.sweep.part;
  judging : l.room.judging ≡ l.initial.room.judging;
  budget : l.room.budget ≡ l.initial.room.budget;
  splits : l.room.splits ≡ l.initial.room.splits;
  tight : l.initial.counts.tight + l.place ≡ l.counts.tight;
  nodes : length l.initial.room.nodes.items ≤ length l.room.nodes.items;
  by_halved : length l.initial.room.judging.sweep.made.items + l.initial.counts.tight ≤ l.counts.halved + others_for l.initial.room.budget;
}
