-- What the proofs of the search for a failing fact need of the definitions of the crates below.
use Rattle.ft_core.specs.meaning.Order.{OrderGivesRank}
use Rattle.ft_mean.specs.laws.EvaluationLaws.{SameCell}
use Rattle.ft_mean.specs.laws.SafetyLaws.{ViewsKeepSizes, TablesAreSafe}
use Rattle.ft_mean.specs.laws.TableLaws.{HasTable, CellsAreOfTable, SectionsAreTold}
use Rattle.ft_claims.specs.laws.CellLaws.{NamesAreOnce}
use Rattle.ft_claims.specs.laws.FormulaLaws.{SettledAlike}
use Rattle.ft_claims.specs.laws.PointLaws.{ProperHasNoPoint}
use Rattle.ft_oblige.specs.laws.NumberLaws.{TablesHaveNumbers, OneObligation}
use Rattle.ft_cover.specs.laws.KeptLaws.{SlotsDiffer, NamesHaveValues, SlotsAreKept}
use Rattle.ft_compose.specs.laws.Laws.{Laws}

pub record DecidingLaws : Type 0 where
  pub all : Laws
  pub ranked : OrderGivesRank
  pub same_cell : SameCell
  pub keep_sizes : ViewsKeepSizes
  pub tables_safe : TablesAreSafe
  pub has_table : HasTable
  pub cells_are : CellsAreOfTable
  pub sections : SectionsAreTold
  pub once : NamesAreOnce
  pub settled : SettledAlike
  pub proper : ProperHasNoPoint
  pub tables_have : TablesHaveNumbers
  pub one_obligation : OneObligation
  pub slots_differ : SlotsDiffer
  pub have_values : NamesHaveValues
  pub are_kept : SlotsAreKept
