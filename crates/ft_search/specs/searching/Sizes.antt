-- How much room a search takes.
use Rattle.std.specs.Prelude.{◌+◌, ◌*◌, ◌^◌, ◌≤◌, ℕ, ℤ, List, length}
use Rattle.ft_linear.specs.meaning.Formula.{FormulaView}
use Rattle.ft_search.specs.laws.Budget.{AreNonempty, points_in}

-- how many tightenings there may be beside those that halve an unknown and may be asked for
abbrev pub others_for : ℕ → ℕ
others_for n = 8 * n + 4000

-- room for the steps of n splits and of all tightenings
abbrev pub steps_for : ℕ → ℕ
steps_for n = 11 * n + 4096

-- room for their nodes, and for those that close parts
abbrev pub nodes_for : ℕ → ℕ
nodes_for n = 12 * n + 4098

-- no spent tree has so many splits
pub record IsEnough (f : FormulaView) (spans : List (ℤ × ℤ)) (n : ℕ) : Type 0 where
  pub nonempty : AreNonempty spans
  pub choices : points_in spans * 2 ^ length f.atoms ≤ n + 1
