-- The points of an obligation.
use Rattle.std.specs.Prelude.{◌≡◌, ℤ, true, List}
use Rattle.ft_settle.specs.meaning.Raw.{raw_truth}
use Rattle.ft_linear.specs.meaning.Form.{values_at, InArea}
use Rattle.ft_claims.specs.meaning.Areas.{Obliged}

-- values in the spans that satisfy the formula
pub record IsPointOf (o : Obliged) (p : List ℤ) : Type 0 where
  pub in_area : InArea o.spans (values_at p)
  pub satisfies : raw_truth (values_at p) o.formula ≡ true
