use Rattle.std.proofs.Common.{◌≡◌, ◌+◌, ◌-◌, ◌<◌, ◌≤◌, length}
use Rattle.ft_linear.specs.meaning.Marks.{AreJudged}
use Rattle.ft_linear.specs.meaning.Part.{truth_of}
use Rattle.ft_cert.specs.walk.Waiting.{first_of}
use Rattle.ft_search.specs.meaning.Spent.{enough_for}
use Rattle.ft_search.specs.searching.Sizes.{others_for}
use Rattle.ft_search.specs.searching.Space.{IsUnderWay}
use Rattle.ft_search.proofs.settling.settle.Given as goal

abbrev pub invariant-sweeps : goal.invariant-sweeps
invariant-sweeps l = record {
  way : IsUnderWay l.formula l.area.spans l.room l.settled.counts;
  some : 0 < length l.room.descent.parts;
  truth : l.settled.truth ≡ truth_of l.formula (first_of l.room.descent.parts);
  judged : AreJudged l.formula (first_of l.room.descent.parts) l.room.judging.marks;
  nodes : length l.fn.room.nodes.items ≤ length l.room.nodes.items;
  budget : l.room.budget ≡ l.fn.room.budget;
  splits : l.room.splits ≡ l.fn.room.splits;
}

abbrev pub decreases-sweeps : goal.decreases-sweeps
decreases-sweeps l = enough_for l.fn.room.budget + others_for l.fn.room.budget - l.settled.counts.tight
