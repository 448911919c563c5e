-- Laws of first differences and of NAT at the end of a list, and what the proofs of this crate need of the crates below.
use Rattle.std.specs.Prelude.{ℕ, ◌≡◌, ℤ, List, [], ◌∷◌, ◌++◌, length, None}
use Rattle.std.specs.List.{last_or}
use Rattle.ft_core.specs.declared.tables.Tables.{Tables}
use Rattle.ft_core.specs.meaning.Kinds.{monitored}
use Rattle.ft_mean.specs.meaning.Allowed.{nat_at}
use Rattle.ft_mean.specs.laws.Laws.{FitsOneTrace, HasOneImage, MapsByScan, OutputsAlone, AllowedByScan}
use Rattle.ft_mean.specs.meaning.Reading.{Scans, reading_of}
use Rattle.ft_mean.specs.meaning.Refines.{FirstDiffers}
use Rattle.ft_mean.specs.laws.RowLaws.{PlacesAreInside, ReadAtPlace, ReadInFront}
use Rattle.ft_scan.specs.meaning.Allowing.{nat_after}

pub record Laws : Type 0 where
  pub allowed_by_scan : AllowedByScan
  pub maps_by_scan : MapsByScan
  pub one_image : HasOneImage
  pub one_trace : FitsOneTrace
  pub outputs_alone : OutputsAlone
  pub inside : PlacesAreInside
  pub at_place : ReadAtPlace
  pub in_front : ReadInFront

-- two first differences of one list are the same scan
abbrev pub OneFirstDifference : Type 0
OneFirstDifference = (S : Tables) (h : Scans) (j k : ℕ) → FirstDiffers S h j → FirstDiffers S h k → j ≡ k

-- at the last scan of a list NAT is as after the scan before
abbrev pub AllowedAfterLast : Type 0
AllowedAfterLast = (S : Tables) (h : Scans) (last : List ℤ)
    → nat_at S (reading_of S monitored (h ++ last ∷ [])) (length h) ≡ nat_after S (last_or None h) last
