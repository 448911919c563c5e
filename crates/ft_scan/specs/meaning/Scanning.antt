-- What contracts see of a scanner.
use Rattle.ft_core.specs.declared.tables.Tables.{Tables}
use Rattle.ft_core.specs.declared.tables.Side.{Side}
use Rattle.ft_mean.specs.meaning.Reading.{Scans}

-- the set and the side that it runs, the given rows so far, and the rows that it told
pub record Scanning : Type 0 where
  pub set : Tables
  pub side : Side
  pub given : Scans
  pub rows : Scans
