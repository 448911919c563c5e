-- What holds of every checked set.
use Rattle.std.specs.Prelude.{ℕ, ◌+◌, ◌≡◌, ◌<◌, ◌≤◌, ℤ, pos, ◌<ℤ◌, Bool, true, false, ◌||◌, IsTrue, List, [], ◌++◌, length, slice_get, Some}
use Rattle.std.specs.Prelude.{None, if◌then◌else◌}
use Rattle.std.specs.List.{Contains, flat_map, list_all, list_any}
use Rattle.ft_base.specs.Interval.{IsWithin}
use Rattle.ft_core.specs.declared.tables.Var.{Var}
use Rattle.ft_core.specs.declared.tables.Memory.{Memory}
use Rattle.ft_core.specs.declared.tables.Memory.TheVariants.{Held, Hyst}
use Rattle.ft_core.specs.declared.tables.Table.{Table}
use Rattle.ft_core.specs.declared.tables.Side.{Side}
use Rattle.ft_core.specs.declared.tables.Side.TheVariants as side
use Rattle.ft_core.specs.declared.tables.Section.{Section}
use Rattle.ft_core.specs.declared.tables.Section.TheVariants as section
use Rattle.ft_core.specs.declared.term.Term.{Term}
use Rattle.ft_core.specs.declared.term.Cond.{Cond}
use Rattle.ft_core.specs.meaning.Kinds.{Kinds, monitored, outputs, defined_kinds, side_kinds, of_kind, is_of, place_of}
use Rattle.ft_core.specs.meaning.Grids.{cells_for, is_for, is_shaped}
use Rattle.ft_core.specs.meaning.Reads.{Read, at_now, at_before, of_memory, of_age, cond_reads, memory_reads, grid_reads, cell_reads}
use Rattle.ft_core.specs.checked.Size.{is_sized, is_sized_memory, is_sized_grid}

abbrev pub side_of : Memory → Side
side_of (Held name s cond hold) = s
side_of (Hyst name s e lo hi start) = s

abbrev pub is_side : Side → Side → Bool
is_side side.Req side.Req = true
is_side side.Sof side.Sof = true
is_side _ _ = false

-- the memory at this place is there, and of this side
abbrev pub is_memory_of : List Memory → Side → ℕ → Bool
is_memory_of memories s m = elim (slice_get memories m) [ None ↦ false | Some memory ↦ is_side (side_of memory) s ]

-- what the tables and memories of a side may read: its own variables at this scan and the one before, and its own memories
abbrev pub on_side : List Var → List Memory → Side → Read → Bool
on_side vars memories s (at_now x) = is_of vars (side_kinds s) x
on_side vars memories s (at_before x) = is_of vars (side_kinds s) x
on_side vars memories s (of_memory m) = is_memory_of memories s m
on_side vars memories s (of_age m) = false

-- variables of these kinds at this scan, and nothing else
abbrev pub now_of : List Var → Kinds → Read → Bool
now_of vars kinds (at_now x) = is_of vars kinds x
now_of vars kinds _ = false

-- variables of these kinds at this scan and the one before, and nothing else
abbrev pub step_of : List Var → Kinds → Read → Bool
step_of vars kinds (at_now x) = is_of vars kinds x
step_of vars kinds (at_before x) = is_of vars kinds x
step_of vars kinds _ = false

-- what the tables of a section may read
abbrev pub may_read : List Var → List Memory → Section → Read → Bool
may_read vars memories section.In r = now_of vars monitored r
may_read vars memories section.Req r = on_side vars memories side.Req r
may_read vars memories section.Sof r = on_side vars memories side.Sof r
may_read vars memories section.Out r = now_of vars outputs r

-- each read of each of these conditions passes the test
abbrev pub AllRead : (Read → Bool) → List Cond → Type 0
AllRead may conds = (k : ℕ) (c : Cond) (r : Read) → slice_get conds k ≡ Some c → Contains (cond_reads c) r → IsTrue (may r)

-- whether a read is of this scan
abbrev pub is_current : Read → Bool
is_current (at_before x) = false
is_current _ = true

-- what a variable, by its own cells of its REQ or SOF table, or a memory reads
abbrev pub item_reads : List Memory → List Table → Read → List Read
item_reads memories tables (at_now x) =
    flat_map (λ t. if is_for section.Req x t || is_for section.Sof x t then flat_map cell_reads (cells_for x t.grid) else []) tables
item_reads memories tables (of_memory m) = memory_reads (slice_get memories m)
item_reads memories tables _ = []

-- within one scan each variable and memory reads only what has a lower rank
pub record IsRank (vars : List Var) (memories : List Memory) (tables : List Table) (rank : Read → ℕ) : Type 0 where
  pub bounded : (r : Read) → rank r < length vars + length memories
  pub falls : (r q : Read) → Contains (item_reads memories tables r) q → IsTrue (is_current q) → rank q < rank r

-- they do not read each other in a circle
abbrev pub HasOrder : List Var → List Memory → List Table → Type 0
HasOrder vars memories tables = (rank : Read → ℕ) × IsRank vars memories tables rank

-- a hold is 0 to 1,000,000 ms
abbrev pub IsHold : ℤ → Type 0
IsHold = IsWithin (pos 0, pos 1000000)

-- a period is 1 to 10,000 ms
abbrev pub IsPeriod : ℤ → Type 0
IsPeriod = IsWithin (pos 1, pos 10000)

-- what was checked of a set: its counts, places and numbers, the shapes of its tables and the sizes of its terms, what may be
-- read where, one table for each variable and section, and an order
pub record IsSound (period : ℤ) (vars : List Var) (memories : List Memory) (tables : List Table) (first always step : List Cond) : Type 0
  where
    pub few_vars : length vars ≤ 1100
    pub few_memories : length memories ≤ 200
    pub few_tables : length tables ≤ 400
    pub few_clauses : length (first ++ always ++ step) ≤ 700
    pub places : (x : ℕ) (v : Var) → slice_get vars x ≡ Some v → v.place ≡ place_of (of_kind v.kind) vars x
    pub shapes : IsTrue (list_all (λ table. is_shaped table.grid) tables)
    pub has_period : IsPeriod period
    pub inits : (x : ℕ) (v : Var) → slice_get vars x ≡ Some v → IsWithin v.range v.init
    pub timers : (m : ℕ) (name : List ℕ) (s : Side) (cond : Cond) (hold : ℤ) → slice_get memories m ≡ Some (Held name s cond hold)
        → IsHold hold
    pub bands : (m : ℕ) (name : List ℕ) (s : Side) (e : Term) (lo hi : ℤ) (start : Bool) → slice_get memories m
        ≡ Some (Hyst name s e lo hi start)
        → lo <ℤ hi
    pub sized_memories : IsTrue (list_all (is_sized_memory vars memories) memories)
    pub sized_tables : IsTrue (list_all (λ table. is_sized_grid vars memories table.grid) tables)
    pub sized_clauses : IsTrue (list_all (is_sized vars memories) (first ++ always ++ step))
    pub tables_read : (k : ℕ) (table : Table) (r : Read) → slice_get tables k ≡ Some table → Contains (grid_reads table.grid) r
        → IsTrue (may_read vars memories table.section r)
    pub memories_read : (m : ℕ) (memory : Memory) (r : Read) → slice_get memories m ≡ Some memory → Contains (memory_reads (Some memory)) r
        → IsTrue (on_side vars memories (side_of memory) r)
    pub first_reads : AllRead (now_of vars monitored) first
    pub always_reads : AllRead (now_of vars monitored) always
    pub step_reads : AllRead (step_of vars monitored) step
    pub has_table : (section : Section) (x : ℕ) → IsTrue (is_of vars (defined_kinds section) x) → IsTrue (list_any (is_for section x) tables)
    pub one_table : (section : Section) (x k l : ℕ) (a b : Table) → slice_get tables k ≡ Some a → slice_get tables l ≡ Some b
        → IsTrue (is_for section x a) → IsTrue (is_for section x b) → k ≡ l
    pub order : ∥ HasOrder vars memories tables ∥₁
