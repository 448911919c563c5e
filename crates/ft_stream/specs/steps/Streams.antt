-- A replayer that is fed by a reader of a trace, from its opening to its end or to a scan that the environment forbids.
use Rattle.std.specs.Prelude.{ℕ, zero, suc, ◌+◌, ◌≡◌, ◌<◌, ℤ, List, [], ◌∷◌, ◌++◌, length, Option, Some, None, IfSome, IsTrue, IsFalse}
use Rattle.std.specs.List.{last_or}
use Rattle.ft_core.specs.declared.tables.Tables.{Tables}
use Rattle.ft_core.specs.meaning.Kinds.{monitored, count_of}
use Rattle.ft_mean.specs.meaning.Allowed.{nat_at}
use Rattle.ft_mean.specs.meaning.Reading.{IsListOf, Scans, reading_of}
use Rattle.ft_replay.specs.meaning.Replaying.{Replaying}
use Rattle.ft_scan.specs.meaning.Allowing.{nat_after}
use Rattle.ft_trace.specs.meaning.Left.{Left}
use Rattle.ft_trace.specs.meaning.Reader.{HasGiven}
use Rattle.ft_trace.specs.meaning.Spelling.{SpellsHistory}
use Rattle.ft_stream.specs.declared.streaming.Stop.{Stop}
use Rattle.ft_stream.specs.declared.streaming.Stop.TheVariants as stop

-- the last of so many scans, which a row keeps
abbrev pub kept : (scans : ℕ) → (row : List ℤ) → Option (List ℤ)
kept zero row = None
kept (suc n) row = Some row

-- the environment's clauses hold at each scan of a list
abbrev pub MeetsClauses : Tables → Scans → Type 0
MeetsClauses S h = (t : ℕ) → t < length h → IsTrue (nat_at S (reading_of S monitored h) t)

-- a replayer has the scans that a reader of these bytes has given, the environment allows them, and a row keeps the last of them
pub record Streams (S : Tables) (bytes : List ℕ) (reader : Left) (replaying : Replaying) (earlier : List ℤ) : Type 0 where
  pub of_set : replaying.set ≡ S
  pub given : HasGiven S bytes reader replaying.list
  pub clauses : MeetsClauses S replaying.list
  pub last : last_or None replaying.list ≡ kept (length replaying.list) earlier
  pub within : IfSome (kept (length replaying.list) earlier) (λ row. IsListOf S monitored (row ∷ []))
  pub room : length earlier ≡ count_of monitored S.vars

-- the bytes spell the scans of a replayer, and the environment allows them
pub record AtEnd (S : Tables) (bytes : List ℕ) (replaying : Replaying) : Type 0 where
  pub of_set : replaying.set ≡ S
  pub spelled : SpellsHistory S bytes replaying.list
  pub clauses : MeetsClauses S replaying.list

-- the reader gave the scans of a replayer and then this row: the environment allows those, and not the row after them
pub record AtForbidden (S : Tables) (bytes : List ℕ) (reader : Left) (replaying : Replaying) (row : List ℤ) : Type 0 where
  pub given : HasGiven S bytes reader (replaying.list ++ row ∷ [])
  pub clauses : MeetsClauses S replaying.list
  pub forbids : IsFalse (nat_after S (last_or None replaying.list) row)

-- why no further scan is replayed
abbrev pub HasStopped : Tables → List ℕ → Left → Replaying → (row : List ℤ) → Stop → Type 0
HasStopped S bytes reader replaying row stop.End = AtEnd S bytes replaying
HasStopped S bytes reader replaying row stop.Forbidden = AtForbidden S bytes reader replaying row

-- one more scan was replayed, or none is
abbrev pub IsNext : Tables → List ℕ → (old : Replaying) → Left → (new : Replaying) → (earlier row : List ℤ) → Option Stop → Type 0
IsNext S bytes old reader new earlier row None = Streams S bytes reader new earlier × (length new.list ≡ length old.list + 1)
IsNext S bytes old reader new earlier row (Some stop) = HasStopped S bytes reader new row stop

-- the bytes spell a list that begins with these scans
abbrev pub Spells : Tables → List ℕ → Scans → Type 0
Spells S bytes h = (rest : Scans) × SpellsHistory S bytes (h ++ rest)
