use Rattle.std.proofs.Common.{◌≡◌, ◌≤◌, ◌++◌, drop}
use Rattle.ft_admit.specs.meaning.Cycles.{numbers_from}
use Rattle.ft_admit.specs.stages.Sorts.{declares}
use Rattle.ft_admit.proofs.numbers.add_numbers.Given as goal

abbrev pub invariant-loop-item : goal.invariant-loop-item
invariant-loop-item l = record {
  left : l.initial.numbers ++ numbers_from (declares l.sort) 0 l.items
      ≡ l.numbers ++ numbers_from (declares l.sort) l.number (drop l.item-index l.items);
  low : l.number ≤ l.item-index;
}
