-- The variables and memories of a set as the items of one order, and what they read of each other within a scan.
use Rattle.std.specs.Prelude.{ℕ, ◌+◌, ◌-◌, ◌≡◌, ◌<◌, nat_lt, IsTrue, List, length, slice_get, Option, Some, None, Contains, if◌then◌else◌}
use Rattle.ft_core.specs.declared.tables.Var.{Var}
use Rattle.ft_core.specs.declared.tables.Memory.{Memory}
use Rattle.ft_core.specs.declared.tables.Table.{Table}
use Rattle.ft_core.specs.checked.Distinct.{AreDistinct}
use Rattle.ft_core.specs.meaning.Order.{IsOrder, ReadsItem}
use Rattle.ft_core.specs.meaning.Reads.{Read, at_now, of_memory, grid_reads, memory_reads}
use Rattle.ft_core.specs.meaning.Grids.{defines}
use Rattle.ft_core.specs.meaning.Kinds.{defined_kinds, is_of}
use Rattle.ft_core.specs.checked.Sound.{HasOrder, item_reads, may_read, on_side, side_of}

-- the items are the variables, and after them the memories, both by their places: item k is this variable or memory
abbrev pub item : (vars : ℕ) → ℕ → Read
item vars k = if nat_lt k vars then at_now k else of_memory (k - vars)

-- the item that is read, where a variable or a memory of this scan is
abbrev pub item_read : (vars memories : ℕ) → Read → Option ℕ
item_read vars memories (at_now x) = if nat_lt x vars then Some x else None
item_read vars memories (of_memory m) = if nat_lt m memories then Some (vars + m) else None
item_read vars memories _ = None

-- within one scan item k reads item q
abbrev pub ReadsWithin : (vars : ℕ) → List Memory → List Table → (k q : ℕ) → Type 0
ReadsWithin vars memories tables k q =
    (r : Read) × Contains (item_reads memories tables (item vars k)) r × (item_read vars (length memories) r ≡ Some q)

-- list k has the items that item k reads within one scan, and no other
pub record ArePlainReads (vars : ℕ) (memories : List Memory) (tables : List Table) (reads : List (List ℕ)) : Type 0 where
  pub long : length reads ≡ vars + length memories
  pub each : (k q : ℕ) → k < vars + length memories → ReadsWithin vars memories tables k q → ReadsItem reads k q
  pub only : (k q : ℕ) → ReadsItem reads k q → ReadsWithin vars memories tables k q

-- Other numbers for the items: those of the variables by their places, and after them those of the memories. They are the
-- numbers below the count of all items, each once.
pub record IsNumbering (count : ℕ) (numbers : List ℕ) : Type 0 where
  pub long : length numbers ≡ count
  pub below : (k n : ℕ) → slice_get numbers k ≡ Some n → n < count
  pub once : AreDistinct numbers
  pub each : (n : ℕ) → n < count → (k : ℕ) × (slice_get numbers k ≡ Some n)

-- within one scan the item with number n reads the one with number m
abbrev pub ReadsByNumber : (vars : ℕ) → List Memory → List Table → (numbers : List ℕ) → (n m : ℕ) → Type 0
ReadsByNumber vars memories tables numbers n m =
    (k q : ℕ) × (slice_get numbers k ≡ Some n) × (slice_get numbers q ≡ Some m) × ReadsWithin vars memories tables k q

-- list n has the numbers of the items that the one with number n reads within one scan, and no other
pub record AreReads (vars : ℕ) (memories : List Memory) (tables : List Table) (numbers : List ℕ) (reads : List (List ℕ)) : Type 0 where
  pub long : length reads ≡ vars + length memories
  pub each : (n m : ℕ) → ReadsByNumber vars memories tables numbers n m → ReadsItem reads n m
  pub only : (n m : ℕ) → ReadsItem reads n m → ReadsByNumber vars memories tables numbers n m

-- an order of all items in which each reads, within one scan, only earlier ones
pub record IsScanOrder (vars : ℕ) (memories : List Memory) (tables : List Table) (order : List ℕ) : Type 0 where
  pub each : (k : ℕ) → k < vars + length memories → (p : ℕ) × (slice_get order p ≡ Some k)
  pub once : (k p r : ℕ) → slice_get order p ≡ Some k → slice_get order r ≡ Some k → p ≡ r
  pub items : (k p : ℕ) → slice_get order p ≡ Some k → k < vars + length memories
  pub before : (k q p : ℕ) → slice_get order p ≡ Some k → ReadsWithin vars memories tables k q
      → (r : ℕ) × (r < p) × (slice_get order r ≡ Some q)

-- what tables and memories read and define is there: parts of what is checked of a set
pub record ReadsWhatIsThere (vars : List Var) (memories : List Memory) (tables : List Table) : Type 0 where
  pub some : 0 < length vars
  pub tables_read : (k : ℕ) (table : Table) (r : Read) → slice_get tables k ≡ Some table → Contains (grid_reads table.grid) r
      → IsTrue (may_read vars memories table.section r)
  pub memories_read : (m : ℕ) (memory : Memory) (r : Read) → slice_get memories m ≡ Some memory → Contains (memory_reads (Some memory)) r
      → IsTrue (on_side vars memories (side_of memory) r)
  pub targets : (k x : ℕ) (table : Table) → slice_get tables k ≡ Some table → IsTrue (defines table.grid x)
      → IsTrue (is_of vars (defined_kinds table.section) x)

-- where the items of a set have an order by some numbering, the set has the order that is checked
abbrev pub OrderGivesSetOrder : Type 0
OrderGivesSetOrder = (vars : List Var) (memories : List Memory) (tables : List Table) (numbers : List ℕ) (reads : List (List ℕ))
    (order : List ℕ)
    → ReadsWhatIsThere vars memories tables → IsNumbering (length vars + length memories) numbers
    → AreReads (length vars) memories tables numbers reads → IsOrder reads order → HasOrder vars memories tables
