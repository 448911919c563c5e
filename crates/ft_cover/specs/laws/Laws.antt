-- What the crates below say of the definitions, as far as the proofs of this crate need it.
use Rattle.ft_mean.specs.laws.SafetyLaws.{ViewsKeepSizes, TablesAreSafe, SafeByLess}
use Rattle.ft_claims.specs.laws.CellLaws.{OverlapsAlike, RangesAlike, OverlapHasTwo, OverlapIsOfOne, RangeHasOne, KeptIsValues}
use Rattle.ft_claims.specs.laws.CellLaws.{NamesAreOnce}
use Rattle.ft_claims.specs.laws.CoverLaws.{ProperShowsNone}
use Rattle.ft_claims.specs.laws.FormulaLaws.{SettledAlike}
use Rattle.ft_claims.specs.laws.PointLaws.{PointsAreLocal, PointsShow, ProperHasNoPoint}
use Rattle.ft_claims.specs.laws.ValueLaws.{NumbersAreMade}
use Rattle.ft_oblige.specs.laws.NumberLaws.{TablesHaveNumbers, OneObligation}

pub record Laws : Type 0 where
  pub keep_sizes : ViewsKeepSizes
  pub tables_safe : TablesAreSafe
  pub by_less : SafeByLess
  pub overlaps : OverlapsAlike
  pub ranges : RangesAlike
  pub two : OverlapHasTwo
  pub of_one : OverlapIsOfOne
  pub one : RangeHasOne
  pub kept : KeptIsValues
  pub once : NamesAreOnce
  pub shows_none : ProperShowsNone
  pub settled : SettledAlike
  pub local : PointsAreLocal
  pub show : PointsShow
  pub proper : ProperHasNoPoint
  pub made : NumbersAreMade
  pub numbers : TablesHaveNumbers
  pub one_obligation : OneObligation
