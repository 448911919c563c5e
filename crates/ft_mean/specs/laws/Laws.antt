-- Laws over the definitions alone.
use Rattle.std.specs.Prelude.{ℕ, suc, ◌≡◌, ◌<◌, ◌≤◌, ◌↔◌, ℤ, pos, ◌≤ℤ◌, Bool, IsTrue, [], ◌∷◌, length, Some, slice_get, slice_index_or}
use Rattle.ft_core.specs.declared.tables.Tables.{Tables}
use Rattle.ft_core.specs.declared.tables.Memory.{Memory}
use Rattle.ft_core.specs.declared.tables.Section.{Section}
use Rattle.ft_core.specs.declared.tables.Section.TheVariants as section
use Rattle.ft_core.specs.declared.tables.Side.{Side}
use Rattle.ft_core.specs.declared.tables.Side.TheVariants as side
use Rattle.ft_core.specs.declared.tables.Var.{Var}
use Rattle.ft_core.specs.meaning.Kinds.{Kinds, monitored, outputs, given_kinds, side_kinds}
use Rattle.ft_mean.specs.meaning.Allowed.{nat_at}
use Rattle.ft_mean.specs.meaning.Fits.{Fits, Maps, InputMap, OutputMap, Only, side_reading}
use Rattle.ft_mean.specs.laws.Moves.{MovesAt}
use Rattle.ft_mean.specs.meaning.Past.{held, age}
use Rattle.ft_mean.specs.meaning.Proper.{AllProper}
use Rattle.ft_mean.specs.meaning.Reading.{Reading, Scans, IsListOf, IsVar, reading_of}

-- where every table is proper, every given list in range fits exactly one trace of its side
abbrev pub FitsOneTrace : Type 0
FitsOneTrace = (S : Tables) → AllProper S → (s : Side) (given : Scans) → IsListOf S (given_kinds s) given
    → (trace : Scans) × Only (Fits S s given) trace

-- where every table is proper, every monitored list has exactly one list of inputs, and every design trace in range
-- exactly one list of controlled values
abbrev pub HasOneImage : Type 0
HasOneImage = (S : Tables) → AllProper S
    → ((h : Scans) → IsListOf S monitored h → (i : Scans) × Only (InputMap S h) i)
    × ((s : Scans) → IsListOf S (side_kinds side.Sof) s → (c : Scans) × Only (OutputMap S s) c)

-- where what lies further back is no less long ago, a condition has been held exactly where its age is the hold
abbrev pub HeldIsFullAge : Type 0
HeldIsFullAge = (from : ℕ) (ago : ℕ → ℤ) (hold : ℤ) (condition : ℕ → Bool) (t : ℕ) → ((j k : ℕ) → j ≤ k → ago k ≤ℤ ago j) → pos 0 ≤ℤ hold
    → IsTrue (held from ago hold condition t) ↔ (age from ago hold condition t ≡ hold)

-- along every reading each memory makes its move at each scan
abbrev pub MemoriesMove : Type 0
MemoriesMove = (S : Tables) (ρ : Reading) (m : ℕ) (memory : Memory) → slice_get S.memories m ≡ Some memory → (t : ℕ)
    → MovesAt S ρ m memory t

-- an image by a section that looks at one scan alone: a list maps to it exactly where each scan maps to the same scan of it
abbrev pub GoesByScan : Tables → Section → Kinds → Type 0
GoesByScan S section kinds = (list image : Scans) → length image ≡ length list
    → Maps S section kinds list image
    ↔ ((t : ℕ) → t < length list → Maps S section kinds (slice_index_or list t [] ∷ []) (slice_index_or image t [] ∷ []))

-- IN of monitored values and OUT of outputs go scan by scan
abbrev pub MapsByScan : Type 0
MapsByScan = (S : Tables) → GoesByScan S section.In monitored × GoesByScan S section.Out outputs

-- OUT looks at the outputs alone: the image of a design trace is that of its list of outputs
abbrev pub OutputsAlone : Type 0
OutputsAlone = (S : Tables) (trace list image : Scans) → length list ≡ length trace
    → ((t x : ℕ) (v : Var) → t < length trace → IsVar S outputs x v → side_reading S side.Sof trace t x ≡ reading_of S outputs list t x)
    → OutputMap S trace image ↔ Maps S section.Out outputs list image

-- NAT looks at a scan and the one before: at the first scan of a list it is as of that scan alone, and at a later scan as of
-- the two scans
abbrev pub AllowedByScan : Type 0
AllowedByScan = (S : Tables) (h : Scans)
    → (nat_at S (reading_of S monitored h) 0 ≡ nat_at S (reading_of S monitored (slice_index_or h 0 [] ∷ [])) 0)
    × ((t : ℕ) → nat_at S (reading_of S monitored h) (suc t)
    ≡ nat_at S (reading_of S monitored (slice_index_or h t [] ∷ slice_index_or h (suc t) [] ∷ [])) 1)
