use Rattle.std.proofs.Common.{◌≡◌, length}
use Rattle.ft_diff.proofs.room.DiffRoom.open.Given as goal

-- one place for each unknown so far
abbrev pub invariant-loop-unknown : goal.invariant-loop-unknown
invariant-loop-unknown l = (length l.spans.items ≡ l._unknown) × (length l.lowered_by.items ≡ l._unknown)
