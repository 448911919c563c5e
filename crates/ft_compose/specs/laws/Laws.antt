-- What the crates below say of the definitions, as far as the proofs of this crate need it.
use Rattle.ft_mean.specs.laws.EvaluationLaws.{SameValue, SameTruth}
use Rattle.ft_mean.specs.laws.Laws.{FitsOneTrace, HasOneImage, MemoriesMove}
use Rattle.ft_mean.specs.laws.TableLaws.{CellsMayRead, SameDefined}
use Rattle.ft_mean.specs.laws.Whole.{RunsAreWhole}
use Rattle.ft_claims.specs.laws.ClaimLaws.{ConditionsSay, CellsSay, DefinitionsSay, MovesSay}
use Rattle.ft_claims.specs.laws.FormulaLaws.{PointsTell, NumbersMakePoints, TrueAlike}
use Rattle.ft_claims.specs.laws.GoodLaws.{ConditionsGood, CellsGood, DefinitionsGood}
use Rattle.ft_claims.specs.laws.ValueLaws.{NumbersAreMade, PointsAreOfNumbers}
use Rattle.ft_oblige.specs.laws.NumberLaws.{FactsHaveNumbers}
use Rattle.ft_oblige.specs.laws.PartLaws.{PartsAreGood, OthersAreGood, SlotsAreNames, SlotsHaveSome, SlotsAreSpans}

pub record Laws : Type 0 where
  pub same_value : SameValue
  pub same_truth : SameTruth
  pub same_defined : SameDefined
  pub may_read : CellsMayRead
  pub memories_move : MemoriesMove
  pub one_trace : FitsOneTrace
  pub one_image : HasOneImage
  pub runs_are_whole : RunsAreWhole
  pub conditions_say : ConditionsSay
  pub cells_say : CellsSay
  pub definitions_say : DefinitionsSay
  pub moves_say : MovesSay
  pub conditions_good : ConditionsGood
  pub cells_good : CellsGood
  pub definitions_good : DefinitionsGood
  pub points_tell : PointsTell
  pub numbers_make_points : NumbersMakePoints
  pub true_alike : TrueAlike
  pub numbers_are_made : NumbersAreMade
  pub points_are_of_numbers : PointsAreOfNumbers
  pub parts_good : PartsAreGood
  pub others_good : OthersAreGood
  pub slots_are_names : SlotsAreNames
  pub slots_have_some : SlotsHaveSome
  pub slots_are_spans : SlotsAreSpans
  pub facts_have_numbers : FactsHaveNumbers
