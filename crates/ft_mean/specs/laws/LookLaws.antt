-- What the look at a scan of a reading says of memories, and what it depends on.
use Rattle.std.specs.Prelude.{ℕ, ◌≡◌, ◌≤◌, IsTrue, List, Some, slice_get}
use Rattle.ft_base.specs.Interval.{IsWithin}
use Rattle.ft_core.specs.declared.tables.Tables.{Tables}
use Rattle.ft_core.specs.declared.tables.Var.{Var}
use Rattle.ft_core.specs.declared.tables.Memory.{Memory}
use Rattle.ft_core.specs.declared.tables.Side.{Side}
use Rattle.ft_core.specs.meaning.Kinds.{Kinds, monitored, side_kinds, section_of}
use Rattle.ft_core.specs.meaning.Reads.{Read}
use Rattle.ft_core.specs.checked.Sound.{on_side}
use Rattle.ft_mean.specs.meaning.Allowed.{nat_at}
use Rattle.ft_mean.specs.meaning.Cells.{Follows}
use Rattle.ft_mean.specs.laws.EvaluationLaws.{Same}
use Rattle.ft_mean.specs.meaning.Memory.{at_scan, remembered, memory_at, look}
use Rattle.ft_mean.specs.meaning.Proper.{IsLinked, IsLocal}
use Rattle.ft_mean.specs.meaning.Reading.{Reading, IsVar}

-- each memory's truth at a scan is what its timer or band says over the truths of the memories that it reads: `memory_at` has
-- no other meaning, however deep memories read each other
abbrev pub MemoriesRemember : Type 0
MemoriesRemember = (S : Tables) (ρ : Reading) (m t : ℕ) → memory_at S ρ m t ≡ remembered S ρ (memory_at S ρ) (slice_get S.memories m) t

-- what a side may read is no age, so the scan that its memories see is the look there
abbrev pub SidesReadNoAge : Type 0
SidesReadNoAge = (S : Tables) (s : Side) (ρ : Reading) (t : ℕ) (r : Read) → IsTrue (on_side S.vars S.memories s r)
    → Same (at_scan S ρ (memory_at S ρ) t) (look S ρ t) r

-- a true timer has its condition true, and a band is true at its upper bound and false at its lower one
abbrev pub LooksAreLinked : Type 0
LooksAreLinked = (S : Tables) (ρ : Reading) (t m : ℕ) (memory : Memory) → slice_get S.memories m ≡ Some memory
    → IsLinked (look S ρ t) m memory

-- two readings have the same values of the variables of these kinds up to scan t
abbrev pub AgreeUpTo : Tables → Kinds → Reading → Reading → ℕ → Type 0
AgreeUpTo S kinds a b t = (j x : ℕ) (v : Var) → j ≤ t → IsVar S kinds x v → a j x ≡ b j x

-- readings that agree on a side's variables up to a scan have the same look there at all that the side may read
abbrev pub SideLooksSame : Type 0
SideLooksSame = (S : Tables) (s : Side) (a b : Reading) (t : ℕ) → AgreeUpTo S (side_kinds s) a b t
    → (r : Read) → IsTrue (on_side S.vars S.memories s r) → Same (look S a t) (look S b t) r

-- and follow the side's tables alike there
abbrev pub SideFollowsSame : Type 0
SideFollowsSame = (S : Tables) (s : Side) (a b : Reading) (t : ℕ) → AgreeUpTo S (side_kinds s) a b t
    → Follows S (section_of s) (look S a t) (a t) → Follows S (section_of s) (look S b t) (b t)

-- readings that agree on the monitored variables up to a scan meet the environment's clauses alike there
abbrev pub NatSame : Type 0
NatSame = (S : Tables) (a b : Reading) (t : ℕ) → AgreeUpTo S monitored a b t → nat_at S a t ≡ nat_at S b t

-- every variable is in its range up to scan t
abbrev pub InRangeUpTo : Tables → Reading → ℕ → Type 0
InRangeUpTo S ρ t = (j x : ℕ) (v : Var) → j ≤ t → slice_get S.vars x ≡ Some v → IsWithin v.range (ρ j x)

-- the look at a scan of a reading in range is a local view of whatever is read
abbrev pub LooksAreLocal : Type 0
LooksAreLocal = (S : Tables) (ρ : Reading) (t : ℕ) → InRangeUpTo S ρ t → (reads : List Read) → IsLocal S reads (look S ρ t)
