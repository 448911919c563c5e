use Rattle.std.proofs.Common.{◌≤◌, length}
use Rattle.ft_farkas.specs.meaning.Answers.{AreLiterals}
use Rattle.ft_tests.proofs.eliminations.literals.Given as goal

-- the literals that were taken, no more than atoms
abbrev pub invariant-atoms : goal.invariant-atoms
invariant-atoms l = AreLiterals l.formula l.part l.lines × (length l.lines ≤ l.atom)
