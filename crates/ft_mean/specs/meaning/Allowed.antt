-- Which lists of monitored values the environment allows. Source: NAT of Parnas and Madey, over monitored values.
use Rattle.std.specs.Prelude.{ℕ, ◌<◌, ◌≢◌, Bool, ◌&&◌, [], length, IsTrue, if◌then◌else◌}
use Rattle.std.specs.List.{list_all}
use Rattle.ft_core.specs.declared.tables.Tables.{Tables}
use Rattle.ft_core.specs.meaning.Kinds.{monitored}
use Rattle.ft_mean.specs.meaning.Memory.{look}
use Rattle.ft_mean.specs.meaning.Reading.{Reading, Scans, IsListOf, reading_of, begins}
use Rattle.ft_mean.specs.meaning.Value.{truth}

-- the environment's clauses at scan t: those for each scan, and those for a scan that begins or else those for a step
abbrev pub nat_at : Tables → Reading → ℕ → Bool
nat_at S ρ t = list_all (truth (look S ρ t)) S.always && list_all (truth (look S ρ t)) (if begins S ρ t then S.first else S.step)

-- a monitored list: nonempty, with a value in range for each monitored variable at each scan
pub record IsMonitored (S : Tables) (h : Scans) : Type 0 where
  pub nonempty : h ≢ []
  pub values : IsListOf S monitored h

pub record Allowed (S : Tables) (h : Scans) : Type 0 where
  pub monitored_list : IsMonitored S h
  pub clauses : (t : ℕ) → t < length h → IsTrue (nat_at S (reading_of S monitored h) t)
