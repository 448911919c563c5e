-- What contracts see of a replayer.
use Rattle.ft_core.specs.declared.tables.Tables.{Tables}
use Rattle.ft_mean.specs.meaning.Reading.{Scans}

-- the set, and the monitored scans so far
pub record Replaying : Type 0 where
  pub set : Tables
  pub list : Scans
