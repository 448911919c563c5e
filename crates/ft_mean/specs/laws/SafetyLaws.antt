-- Readings in range keep the sizes of their set, and all of a checked set can be computed where sizes are kept.
use Rattle.std.specs.Prelude.{ℕ, ◌≡◌, ◌<◌, ◌≤◌, ℤ, pos, negsuc, Bool, IsTrue, List, length, None, Some, slice_get}
use Rattle.ft_base.specs.Interval.{IsWithin}
use Rattle.ft_core.specs.declared.tables.Tables.{Tables}
use Rattle.ft_core.specs.declared.tables.Table.{Table}
use Rattle.ft_core.specs.declared.tables.Var.{Var}
use Rattle.ft_core.specs.declared.tables.Memory.{Memory}
use Rattle.ft_core.specs.meaning.Kinds.{Kinds}
use Rattle.ft_mean.specs.meaning.Memory.{look}
use Rattle.ft_mean.specs.laws.Moves.{span_of}
use Rattle.ft_mean.specs.meaning.Reading.{Reading, Scans, IsListOf, reading_of}
use Rattle.ft_mean.specs.judge.Safe.{KeepsSizes, IsSafeBy, AreSafeConds, IsSafeGrid, IsSafeMemory}
use Rattle.ft_mean.specs.meaning.Value.{View}

-- these are values of the set's variables in range, and 0 where there is no variable
pub record AreValuesOf (S : Tables) (f : ℕ → ℤ) : Type 0 where
  pub in_range : (x : ℕ) (v : Var) → slice_get S.vars x ≡ Some v → IsWithin v.range (f x)
  pub none : (x : ℕ) → slice_get S.vars x ≡ None → f x ≡ pos 0

-- these are ages in the spans of the set's memories, and -1 to 1 where there is no memory
pub record AreAgesOf (S : Tables) (f : ℕ → ℤ) : Type 0 where
  pub in_span : (m : ℕ) (memory : Memory) → slice_get S.memories m ≡ Some memory → IsWithin (span_of memory) (f m)
  pub none : (m : ℕ) → slice_get S.memories m ≡ None → IsWithin (negsuc 0, pos 1) (f m)

-- a view of such values and ages keeps the sizes of the set
abbrev pub ViewsKeepSizes : Type 0
ViewsKeepSizes = (S : Tables) (V : View) → AreValuesOf S V.now → AreValuesOf S V.before → AreAgesOf S V.age → KeepsSizes S.vars S.memories V

-- so does the look at a scan of a reading of such values
abbrev pub LooksKeepSizes : Type 0
LooksKeepSizes = (S : Tables) (ρ : Reading) (t : ℕ) → ((j : ℕ) → j ≤ t → AreValuesOf S (ρ j)) → KeepsSizes S.vars S.memories (look S ρ t)

-- a list in range tells such values, at each of its scans
abbrev pub ListsTellValues : Type 0
ListsTellValues = (S : Tables) (kinds : Kinds) (scans : Scans) → IsListOf S kinds scans → (t : ℕ) → t < length scans
    → AreValuesOf S (reading_of S kinds scans t)

-- where the sizes are kept, the environment's clauses can be computed
abbrev pub ClausesAreSafe : Type 0
ClausesAreSafe = (S : Tables) (V : View) → KeepsSizes S.vars S.memories V → AreSafeConds V S.first × AreSafeConds V S.always
    × AreSafeConds V S.step

-- and each table
abbrev pub TablesAreSafe : Type 0
TablesAreSafe = (S : Tables) (V : View) → KeepsSizes S.vars S.memories V → (k : ℕ) (table : Table) → slice_get S.tables k ≡ Some table
    → IsSafeGrid V table.grid

-- and each memory's condition or term
abbrev pub MemoriesAreSafe : Type 0
MemoriesAreSafe = (S : Tables) (V : View) → KeepsSizes S.vars S.memories V → (m : ℕ) (memory : Memory) → slice_get S.memories m
    ≡ Some memory
    → IsSafeMemory V memory

-- what is safe by one test is safe by another that follows from it
abbrev pub SafeByLess : Type 0
SafeByLess = (V : View) (test other : List Var → List Memory → Bool)
    → ((vars : List Var) (memories : List Memory) → IsTrue (test vars memories) → IsTrue (other vars memories))
    → IsSafeBy V test → IsSafeBy V other
