use Rattle.std.proofs.Common.{◌≡◌, ◌≤◌, length, true}
use Rattle.ft_cert.specs.walk.Steps.{are_undos, waiting_behind}
use Rattle.ft_cert.proofs.descent.go_on.Given as goal

abbrev pub invariant-steps : goal.invariant-steps
invariant-steps l = record {
  same : waiting_behind l.initial.part l.initial.undone.items ≡ waiting_behind l.part l.undone.items;
  valid : are_undos l.part l.undone.items ≡ true;
  room : l.initial.undone.spare ≤ l.undone.spare;
  unknowns : length l.part.spans ≡ length l.initial.part.spans;
  atoms : length l.part.decided ≡ length l.initial.part.decided;
}

abbrev pub decreases-steps : goal.decreases-steps
decreases-steps l = length l.undone.items
