use Rattle.std.proofs.Common.{◌≡◌, ◌≤◌, ◌*◌, length, take, All}
use Rattle.ft_diff.specs.meaning.Differences.{IsOver}
use Rattle.ft_diff.specs.gathering.Lines.{lines_below}
use Rattle.ft_diff.proofs.gathering.gather.Given as goal

abbrev pub invariant-atoms : goal.invariant-atoms
invariant-atoms l = record {
  lines : take l.count l.lines ≡ lines_below l.formula l.part l.at;
  few : l.count ≤ 2 * l.at;
  over : All (IsOver (length l.part.spans)) (take l.count l.lines);
}
