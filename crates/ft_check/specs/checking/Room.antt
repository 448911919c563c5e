-- Room to judge the parts of a formula.
use Rattle.std.specs.Prelude.{◌≡◌, ◌≤◌, ◌*◌, ℕ, length}
use Rattle.ft_linear.specs.meaning.Formula.{FormulaView}
use Rattle.ft_linear.specs.meaning.Marks.{size_of}
use Rattle.ft_check.specs.declared.room.CheckRoom.{CheckRoom}

pub record IsRoomFor (f : FormulaView) (unknowns : ℕ) (r : CheckRoom) : Type 0 where
  pub values : length r.marks.values ≡ length f.atoms
  pub signs : length r.marks.signs ≡ length f.atoms
  pub slots : r.marks.room ≡ size_of f.root
  pub lines : length r.lines.items ≡ 2 * length f.atoms
  pub numbers : unknowns ≤ length r.numbers
  pub sums : unknowns ≤ r.sums
