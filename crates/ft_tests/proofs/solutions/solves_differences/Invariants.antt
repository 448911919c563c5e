use Rattle.std.proofs.Common.{◌≡◌, length}
use Rattle.ft_tests.proofs.solutions.solves_differences.Given as goal

-- the room stays as large
abbrev pub invariant-rows : goal.invariant-rows
invariant-rows g l = length l.room ≡ 3
