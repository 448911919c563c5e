-- The rules by which an expression is written.
use Rattle.ft_tree.specs.laws.ExprParts.{spelled-Num, spelled-Name, spelled-Truth, spelled-Prev, spelled-Age, spelled-Not, spelled-Neg}
use Rattle.ft_tree.specs.laws.ExprParts.{spelled-Two}
use Rattle.ft_tree.proofs.WritingLemmas.{steps}

pub ruleset expressions = (
  spelled-Num,
  spelled-Name,
  spelled-Truth,
  spelled-Prev,
  spelled-Age,
  spelled-Not,
  spelled-Neg,
  spelled-Two,
  steps,
)
