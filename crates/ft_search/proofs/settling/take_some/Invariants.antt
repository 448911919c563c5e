use Rattle.std.proofs.Common.{◌≡◌, ◌≤◌, ◌<◌, ◌+◌, drop, length}
use Rattle.ft_linear.specs.meaning.Marks.{AreJudged}
use Rattle.ft_linear.specs.meaning.Part.{truth_of}
use Rattle.ft_cert.specs.walk.Waiting.{first_of}
use Rattle.ft_search.specs.searching.Sizes.{others_for}
use Rattle.ft_search.specs.searching.Space.{IsUnderWay}
use Rattle.ft_search.specs.searching.Sweep.{IsOpen}
use Rattle.ft_search.proofs.NarrowLemmas.{IsCommitted}
use Rattle.ft_search.proofs.settling.take_some.Given as goal

abbrev pub invariant-places : goal.invariant-places
invariant-places l = record {
  way : IsUnderWay l.formula l.area.spans l.room l.settled.counts;
  some : 0 < length l.room.descent.parts;
  first : IsCommitted l.formula (first_of l.initial.room.descent.parts) (first_of l.room.descent.parts)
      (drop l.place l.initial.room.judging.sweep.made.items);
  opened : IsOpen l.formula (first_of l.room.descent.parts);
  truth : 0 < l.place → l.settled.truth ≡ truth_of l.formula (first_of l.room.descent.parts);
  judged : 0 < l.place → AreJudged l.formula (first_of l.room.descent.parts) l.room.judging.marks;
  sweep : l.room.judging.sweep ≡ l.initial.room.judging.sweep;
  budget : l.room.budget ≡ l.initial.room.budget;
  splits : l.room.splits ≡ l.initial.room.splits;
  tight : l.initial.settled.counts.tight + l.place ≡ l.settled.counts.tight;
  nodes : length l.initial.room.nodes.items ≤ length l.room.nodes.items;
  by_halved : length l.initial.room.judging.sweep.made.items + l.initial.settled.counts.tight
      ≤ l.settled.counts.halved + others_for l.initial.room.budget;
}
