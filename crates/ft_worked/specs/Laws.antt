-- What the crates below say of the definitions, as far as the proofs of worked sets need it.
use Rattle.ft_mean.specs.laws.Laws.{FitsOneTrace, HasOneImage}
use Rattle.ft_mean.specs.laws.LookLaws.{MemoriesRemember}
use Rattle.ft_mean.specs.laws.PastLaws.{SameHeld}
use Rattle.ft_mean.specs.laws.TimeLaws.{BegunFirst, SincePeriods}
use Rattle.ft_mean.specs.laws.Whole.{RunsAreWhole}

pub record Laws : Type 0 where
  pub one_trace : FitsOneTrace
  pub one_image : HasOneImage
  pub wholes : RunsAreWhole
  pub remember : MemoriesRemember
  pub same_held : SameHeld
  pub begun_first : BegunFirst
  pub since_periods : SincePeriods
