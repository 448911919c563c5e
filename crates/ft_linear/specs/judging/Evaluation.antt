-- What evaluation at a list of values asks.
use Rattle.std.specs.Prelude.{ℤ, List, length, All}
use Rattle.ft_linear.specs.meaning.Form.{LinView, IsSmall, HasUnknowns}

-- each unknown of the atoms has a value, and no value is too great
pub record CanEvaluate (atoms : List LinView) (values : List ℤ) : Type 0 where
  pub over : All (λ l. HasUnknowns (length values) l.factors) atoms
  pub small : All IsSmall values
