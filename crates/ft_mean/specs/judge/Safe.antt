-- When terms, conditions, tables and memories can be computed at a view: nothing that they are made of overflows.
use Rattle.std.specs.Prelude.{ℕ, ◌≤◌, unsigned_abs, Bool, List, slice_get, IsTrue}
use Rattle.std.specs.List.{list_all}
use Rattle.ft_core.specs.declared.tables.Var.{Var}
use Rattle.ft_core.specs.declared.tables.Memory.{Memory}
use Rattle.ft_core.specs.declared.tables.Table.{Table}
use Rattle.ft_core.specs.declared.tables.Grid.{Grid}
use Rattle.ft_core.specs.declared.term.Term.{Term}
use Rattle.ft_core.specs.declared.term.Cond.{Cond}
use Rattle.ft_core.specs.checked.Size.{var_size, age_size, is_sized_term, is_sized, is_sized_memory, is_sized_grid}
use Rattle.ft_mean.specs.meaning.Value.{View}

-- no value at the view is greater than the sizes of these variables and ages
pub record KeepsSizes (vars : List Var) (memories : List Memory) (V : View) : Type 0 where
  pub now : (x : ℕ) → unsigned_abs (V.now x) ≤ var_size (slice_get vars x)
  pub before : (x : ℕ) → unsigned_abs (V.before x) ≤ var_size (slice_get vars x)
  pub age : (m : ℕ) → unsigned_abs (V.age m) ≤ age_size (slice_get memories m)

-- the view keeps the sizes of some variables and memories over which the test passes
pub record IsSafeBy (V : View) (test : List Var → List Memory → Bool) : Type 0 where
  pub vars : List Var
  pub memories : List Memory
  pub keeps : KeepsSizes vars memories V
  pub small : IsTrue (test vars memories)

abbrev pub IsSafe : View → Term → Type 0
IsSafe V e = IsSafeBy V (λ vars memories. is_sized_term vars memories e)

abbrev pub IsSafeCond : View → Cond → Type 0
IsSafeCond V c = IsSafeBy V (λ vars memories. is_sized vars memories c)

abbrev pub AreSafeConds : View → List Cond → Type 0
AreSafeConds V conds = IsSafeBy V (λ vars memories. list_all (is_sized vars memories) conds)

abbrev pub AreSafe : View → List Term → Type 0
AreSafe V terms = IsSafeBy V (λ vars memories. list_all (is_sized_term vars memories) terms)

abbrev pub AreSafeRows : View → List (List Term) → Type 0
AreSafeRows V rows = IsSafeBy V (λ vars memories. list_all (list_all (is_sized_term vars memories)) rows)

abbrev pub AreSafeCondRows : View → List (List Cond) → Type 0
AreSafeCondRows V rows = IsSafeBy V (λ vars memories. list_all (list_all (is_sized vars memories)) rows)

abbrev pub IsSafeGrid : View → Grid → Type 0
IsSafeGrid V grid = IsSafeBy V (λ vars memories. is_sized_grid vars memories grid)

abbrev pub AreSafeTables : View → List Table → Type 0
AreSafeTables V tables = IsSafeBy V (λ vars memories. list_all (λ table. is_sized_grid vars memories table.grid) tables)

abbrev pub IsSafeMemory : View → Memory → Type 0
IsSafeMemory V memory = IsSafeBy V (λ vars memories. is_sized_memory vars memories memory)

abbrev pub AreSafeMemories : View → List Memory → Type 0
AreSafeMemories V ms = IsSafeBy V (λ vars memories. list_all (is_sized_memory vars memories) ms)
