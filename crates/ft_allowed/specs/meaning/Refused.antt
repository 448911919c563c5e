-- The first scan of a list that a set refuses. This project's own.
use Rattle.std.specs.Prelude.{ℕ, ◌<◌, [], ◌∷◌, length, slice_index_or, IsTrue}
use Rattle.ft_core.specs.declared.tables.Tables.{Tables}
use Rattle.ft_core.specs.meaning.Kinds.{monitored}
use Rattle.ft_mean.specs.meaning.Allowed.{nat_at}
use Rattle.ft_mean.specs.meaning.Reading.{Scans, IsListOf, reading_of}

-- the scan has a value in range for each monitored variable and no other, and the environment's clauses hold there
pub record IsAllowedAt (S : Tables) (h : Scans) (t : ℕ) : Type 0 where
  pub values : IsListOf S monitored (slice_index_or h t [] ∷ [])
  pub clauses : IsTrue (nat_at S (reading_of S monitored h) t)

-- it isn't so at this scan, and it is so at each before it
pub record IsFirstRefused (S : Tables) (h : Scans) (t : ℕ) : Type 0 where
  pub there : t < length h
  pub before : (j : ℕ) → j < t → IsAllowedAt S h j
  pub refused : IsAllowedAt S h t → ⊥
