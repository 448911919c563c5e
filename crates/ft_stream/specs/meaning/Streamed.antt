-- What the two sides of a set do on the list of scans that the bytes of a trace spell.
use Rattle.std.specs.Prelude.{ℕ, ◌+◌, ◌≡◌, ◌<◌, List, length, take}
use Rattle.ft_core.specs.declared.tables.Tables.{Tables}
use Rattle.ft_mean.specs.meaning.Allowed.{Allowed}
use Rattle.ft_mean.specs.meaning.Reading.{Scans}
use Rattle.ft_mean.specs.meaning.Refines.{FirstDiffers}
use Rattle.ft_trace.specs.meaning.Spelling.{SpellsHistory}
use Rattle.ft_stream.specs.declared.streaming.Streamed.{Streamed}
use Rattle.ft_stream.specs.declared.streaming.Streamed.TheVariants.{Agree, Differ, Forbidden}

-- the bytes spell an allowed list of so many scans, on which the sides differ nowhere
pub record AgreeOver (S : Tables) (bytes : List ℕ) (scans : ℕ) : Type 0 where
  pub h : Scans
  pub spelled : SpellsHistory S bytes h
  pub allowed : Allowed S h
  pub nowhere : (k : ℕ) → FirstDiffers S h k → ⊥
  pub count : scans ≡ length h

-- the bytes spell an allowed list, on which the sides first differ at this scan
pub record DifferAt (S : Tables) (bytes : List ℕ) (scan : ℕ) : Type 0 where
  pub h : Scans
  pub spelled : SpellsHistory S bytes h
  pub allowed : Allowed S h
  pub first : FirstDiffers S h scan

-- the bytes spell a list that has this scan; the scans before it, where there are any, are allowed, and with it they aren't
pub record ForbiddenAt (S : Tables) (bytes : List ℕ) (scan : ℕ) : Type 0 where
  pub h : Scans
  pub spelled : SpellsHistory S bytes h
  pub in_list : scan < length h
  pub before : 0 < scan → Allowed S (take scan h)
  pub forbidden : Allowed S (take (scan + 1) h) → ⊥

-- what an answer says of the bytes
abbrev pub IsStreamed : Tables → List ℕ → Streamed → Type 0
IsStreamed S bytes (Agree scans) = AgreeOver S bytes scans
IsStreamed S bytes (Differ scan) = DifferAt S bytes scan
IsStreamed S bytes (Forbidden scan) = ForbiddenAt S bytes scan
