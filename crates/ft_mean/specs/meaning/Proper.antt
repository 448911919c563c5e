-- Proper tables: whatever a table reads, exactly one cell holds for each variable. Source: Parnas's proper tables.
use Rattle.std.specs.Prelude.{ℕ, zero, suc, ◌≡◌, ℤ, int_le, List, length, IsTrue, IsFalse, slice_get, Some}
use Rattle.std.specs.List.{All, Contains}
use Rattle.ft_base.specs.Interval.{IsWithin}
use Rattle.ft_core.specs.declared.tables.Tables.{Tables}
use Rattle.ft_core.specs.declared.tables.Table.{Table}
use Rattle.ft_core.specs.declared.tables.Var.{Var}
use Rattle.ft_core.specs.declared.tables.Memory.{Memory}
use Rattle.ft_core.specs.declared.tables.Memory.TheVariants.{Held, Hyst}
use Rattle.ft_core.specs.meaning.Grids.{Cell, cells_for, defines}
use Rattle.ft_core.specs.meaning.Reads.{Read, of_memory, memory_reads, grid_reads}
use Rattle.ft_mean.specs.meaning.Cells.{holding}
use Rattle.ft_mean.specs.meaning.Value.{View, value, truth}

-- memory m is read from these reads, through n memories
abbrev pub ReadsThrough : ℕ → Tables → List Read → ℕ → Type 0
ReadsThrough zero S reads m = Contains reads (of_memory m)
ReadsThrough (suc n) S reads m = (k : ℕ) × Contains reads (of_memory k) × ReadsThrough n S (memory_reads (slice_get S.memories k)) m

-- memory m is read, also through conditions and terms of memories
abbrev pub ReadsMemory : Tables → List Read → ℕ → Type 0
ReadsMemory S reads m = (n : ℕ) × ReadsThrough n S reads m

-- a true timer has its condition true; a band is true at or above its upper bound, and false at or below its lower one
abbrev pub IsLinked : View → ℕ → Memory → Type 0
IsLinked V m (Held name side cond hold) = IsTrue (V.memory m) → IsTrue (truth V cond)
IsLinked V m (Hyst name side e lo hi start) = (IsTrue (int_le hi (value V e)) → IsTrue (V.memory m))
    × (IsTrue (int_le (value V e) lo) → IsFalse (V.memory m))

-- a view with every variable in range, now and before, and each memory that is read linked to what it remembers
pub record IsLocal (S : Tables) (reads : List Read) (V : View) : Type 0 where
  pub now : (x : ℕ) (v : Var) → slice_get S.vars x ≡ Some v → IsWithin v.range (V.now x)
  pub before : (x : ℕ) (v : Var) → slice_get S.vars x ≡ Some v → IsWithin v.range (V.before x)
  pub linked : (m : ℕ) (memory : Memory) → slice_get S.memories m ≡ Some memory → ReadsMemory S reads m → IsLinked V m memory

-- exactly one of the cells holds, and its term is in the range
pub record HasOneCell (V : View) (cells : List Cell) (range : ℤ × ℤ) : Type 0 where
  pub one : length (holding V cells) ≡ 1
  pub in_range : All (λ cell. IsWithin range (value V cell.term)) (holding V cells)

abbrev pub IsProper : Tables → Table → Type 0
IsProper S table = (V : View) → IsLocal S (grid_reads table.grid) V
    → (x : ℕ) (v : Var) → slice_get S.vars x ≡ Some v → IsTrue (defines table.grid x) → HasOneCell V (cells_for x table.grid) v.range

abbrev pub AllProper : Tables → Type 0
AllProper S = (k : ℕ) (table : Table) → slice_get S.tables k ≡ Some table → IsProper S table
