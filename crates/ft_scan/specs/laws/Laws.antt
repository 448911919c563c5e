-- What the crates below say of the definitions, as far as the scanner's proofs need it.
use Rattle.ft_mean.specs.laws.EvaluationLaws.{SameValue, SameTruth, SameTruths}
use Rattle.ft_mean.specs.laws.LookLaws.{MemoriesRemember, SidesReadNoAge, SideLooksSame, LooksAreLocal}
use Rattle.ft_mean.specs.laws.PastLaws.{SameHeld, SameHyst, HystBegins, HystGoesOn}
use Rattle.ft_mean.specs.laws.RowLaws.{PlacesAreInside, PlacesAreTaken, SameRows, ReadAtPlace, ReadInRange, ReadInFront, GivenOrDefined}
use Rattle.ft_mean.specs.laws.TableLaws.{HasTable, CellsAreOfTable, OwnReads, SameDefined, HasOneValue, SectionsAreTold}
use Rattle.ft_mean.specs.laws.TimeLaws.{BegunLow, BeginsFirst, BeforeBegins, BeforeLater, ScanBefore, BeforeSame}
use Rattle.ft_mean.specs.laws.TimeLaws.{BeginsOnce, BegunFirst, SincePeriods}
use Rattle.ft_mean.specs.laws.TraceLaws.{FitsLonger}

pub record Laws : Type 0 where
  pub same_value : SameValue
  pub same_truth : SameTruth
  pub same_truths : SameTruths
  pub remember : MemoriesRemember
  pub ageless : SidesReadNoAge
  pub same_side : SideLooksSame
  pub local : LooksAreLocal
  pub same_held : SameHeld
  pub same_hyst : SameHyst
  pub hyst_begins : HystBegins
  pub hyst_goes_on : HystGoesOn
  pub begun_low : BegunLow
  pub begins_first : BeginsFirst
  pub before_begins : BeforeBegins
  pub before_later : BeforeLater
  pub scan_before : ScanBefore
  pub before_same : BeforeSame
  pub begins_once : BeginsOnce
  pub begun_first : BegunFirst
  pub since_periods : SincePeriods
  pub inside : PlacesAreInside
  pub taken : PlacesAreTaken
  pub same_rows : SameRows
  pub at_place : ReadAtPlace
  pub in_range : ReadInRange
  pub in_front : ReadInFront
  pub given_or_defined : GivenOrDefined
  pub has_table : HasTable
  pub cells_are : CellsAreOfTable
  pub own_reads : OwnReads
  pub same_defined : SameDefined
  pub one_value : HasOneValue
  pub sections : SectionsAreTold
  pub longer : FitsLonger
