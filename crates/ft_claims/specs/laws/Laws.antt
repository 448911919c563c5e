-- What the crates below say of the definitions, as far as the proofs of this crate need it.
use Rattle.ft_mean.specs.laws.EvaluationLaws.{SameValue, SameTruth, SameCell, SameHolding}
use Rattle.ft_mean.specs.laws.TableLaws.{CellsReadTheirs, OwnReads}

pub record Laws : Type 0 where
  pub same_value : SameValue
  pub same_truth : SameTruth
  pub same_cell : SameCell
  pub same_holding : SameHolding
  pub cells_read : CellsReadTheirs
  pub own_reads : OwnReads
