-- What the crates below say of the definitions, as far as the proofs of this crate need it.
use Rattle.ft_mean.specs.laws.EvaluationLaws.{SameValue, SameTruth}
use Rattle.ft_mean.specs.laws.Laws.{MemoriesMove}
use Rattle.ft_mean.specs.laws.LookLaws.{NatSame}
use Rattle.ft_mean.specs.laws.RowLaws.{SameRows, ReadAtPlace, ReadInRange, HasRows}
use Rattle.ft_mean.specs.laws.TableLaws.{CellsMayRead, SameDefined}
use Rattle.ft_mean.specs.laws.TimeLaws.{BeginsFirst, BeginsOnce}
use Rattle.ft_mean.specs.laws.TraceLaws.{AllowedShorter, DiffersShorter}
use Rattle.ft_mean.specs.laws.Whole.{RunsAreWhole, WholesSplit, SplitsDiffer}
use Rattle.ft_claims.specs.laws.ClaimLaws.{ConditionsSay, DefinitionsSay, MovesSay}
use Rattle.ft_claims.specs.laws.FormulaLaws.{PointsTell, NumbersMakePoints, SettledAlike}
use Rattle.ft_claims.specs.laws.ValueLaws.{PointsAreOfNumbers}
use Rattle.ft_oblige.specs.laws.ListPartLaws.{ListsAreGood, DifferencesAreGood, ListsAreNames, ListsHaveSome, ListsAreSpans}

pub record Laws : Type 0 where
  pub same_value : SameValue
  pub same_truth : SameTruth
  pub same_defined : SameDefined
  pub may_read : CellsMayRead
  pub memories_move : MemoriesMove
  pub begins_first : BeginsFirst
  pub begins_once : BeginsOnce
  pub same_nat : NatSame
  pub same_rows : SameRows
  pub at_place : ReadAtPlace
  pub in_range : ReadInRange
  pub has_rows : HasRows
  pub allowed_shorter : AllowedShorter
  pub differs_shorter : DiffersShorter
  pub runs_are_whole : RunsAreWhole
  pub wholes_split : WholesSplit
  pub splits_differ : SplitsDiffer
  pub conditions_say : ConditionsSay
  pub definitions_say : DefinitionsSay
  pub moves_say : MovesSay
  pub points_tell : PointsTell
  pub numbers_make_points : NumbersMakePoints
  pub settled_alike : SettledAlike
  pub points_are_of_numbers : PointsAreOfNumbers
  pub lists_good : ListsAreGood
  pub differences_good : DifferencesAreGood
  pub lists_are_names : ListsAreNames
  pub lists_have_some : ListsHaveSome
  pub lists_are_spans : ListsAreSpans
