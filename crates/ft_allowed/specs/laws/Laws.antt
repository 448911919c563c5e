-- What the crates below say of the definitions, as far as the proofs of this crate need it.
use Rattle.ft_mean.specs.laws.Laws.{AllowedByScan}
use Rattle.ft_mean.specs.laws.RowLaws.{PlacesAreInside, ReadAtPlace}

pub record Laws : Type 0 where
  pub by_scan : AllowedByScan
  pub inside : PlacesAreInside
  pub at_place : ReadAtPlace
