-- What tables and memories of a checked set read stands in the set, and is no age.
use Rattle.std.proofs.Common.{◌≡◌, sym, refl, ℕ, ◌<◌, Bool, true, false, length, Option, Some, None, slice_get, true≢false}
use Rattle.std.specs.Prelude.{IsTrue}
use Rattle.std.proofs.lemmas.Option.{slice_get_within}
use Rattle.ft_core.specs.declared.tables.Tables.{Tables}
use Rattle.std.specs.List.{Contains}
use Rattle.ft_core.specs.declared.tables.Table.{Table}
use Rattle.ft_core.specs.declared.tables.Var.{Var}
use Rattle.ft_core.specs.declared.tables.Memory.{Memory}
use Rattle.ft_core.specs.declared.tables.Side.{Side}
use Rattle.ft_core.specs.declared.tables.Section.{Section}
use Rattle.ft_core.specs.declared.tables.Section.TheVariants as section
use Rattle.ft_core.specs.declared.tables.Side.TheVariants as side
use Rattle.ft_core.specs.checked.Checked.{IsChecked, AreChecked}
use Rattle.ft_core.specs.checked.Sound.{on_side, now_of, may_read, side_of, is_side}
use Rattle.ft_core.specs.meaning.Kinds.{Kinds, is_of, side_kinds, monitored, outputs}
use Rattle.ft_core.specs.meaning.Reads.{Read, at_now, at_before, of_memory, of_age, memory_reads, grid_reads}

-- what was checked of a set beside its meaning, opened
pub checked_of : (S : Tables) → AreChecked S.name S.splits S.depth S.vars S.memories S.tables S.first S.always S.step S.blocks
unfolding IsChecked
checked_of S = S.checked

abbrev pub IsAgeless : Tables → Read → Type 0
IsAgeless S (at_now x) = x < length S.vars
IsAgeless S (at_before x) = x < length S.vars
IsAgeless S (of_memory m) = m < length S.memories
IsAgeless S (of_age m) = ⊥

module _ (S : Tables) where
  var-test : (kinds : Kinds) (x : ℕ) (o : Option Var) → slice_get S.vars x ≡ o → elim o as (λ z. Bool) [ None ↦ false | Some v ↦ kinds x v ]
      ≡ true
      → (v : Var) × (slice_get S.vars x ≡ Some v)
  var-test kinds x None e t = absurd (true≢false (sym t))
  var-test kinds x (Some v) e t = (v, e)

  -- a variable of some kinds is there
  pub var_there : (kinds : Kinds) (x : ℕ) → IsTrue (is_of S.vars kinds x) → (v : Var) × (slice_get S.vars x ≡ Some v)
  var_there kinds x t = var-test kinds x (slice_get S.vars x) refl t

  within : (kinds : Kinds) (x : ℕ) → IsTrue (is_of S.vars kinds x) → x < length S.vars
  within kinds x t = let v = var_there kinds x t in slice_get_within S.vars x v.0 v.1

  memory-test : (s : Side) (m : ℕ) (o : Option Memory) → slice_get S.memories m ≡ o
      → elim o as (λ z. Bool) [ None ↦ false | Some memory ↦ is_side (side_of memory) s ] ≡ true → m < length S.memories
  memory-test s m None e t = absurd (true≢false (sym t))
  memory-test s m (Some memory) e t = slice_get_within S.memories m memory e

  side-ageless : (s : Side) (r : Read) → IsTrue (on_side S.vars S.memories s r) → IsAgeless S r
  side-ageless s (at_now x) t = within (side_kinds s) x t
  side-ageless s (at_before x) t = within (side_kinds s) x t
  side-ageless s (of_memory m) t = memory-test s m (slice_get S.memories m) refl t
  side-ageless s (of_age m) t = absurd (true≢false (sym t))

  now-ageless : (kinds : Kinds) (r : Read) → IsTrue (now_of S.vars kinds r) → IsAgeless S r
  now-ageless kinds (at_now x) t = within kinds x t
  now-ageless kinds (at_before x) t = absurd (true≢false (sym t))
  now-ageless kinds (of_memory m) t = absurd (true≢false (sym t))
  now-ageless kinds (of_age m) t = absurd (true≢false (sym t))

  pub may-ageless : (s : Section) (r : Read) → IsTrue (may_read S.vars S.memories s r) → IsAgeless S r
  may-ageless section.In r t = now-ageless monitored r t
  may-ageless section.Req r t = side-ageless side.Req r t
  may-ageless section.Sof r t = side-ageless side.Sof r t
  may-ageless section.Out r t = now-ageless outputs r t

  -- what a table reads
  pub table_ageless : (k : ℕ) (table : Table) → slice_get S.tables k ≡ Some table → (r : Read) → Contains (grid_reads table.grid) r
      → IsAgeless S r
  table_ageless k table is r c = may-ageless table.section r (S.sound.tables_read k table r is c)

  -- and what a memory reads
  pub memory_ageless : (m : ℕ) (memory : Memory) → slice_get S.memories m ≡ Some memory → (r : Read)
      → Contains (memory_reads (Some memory)) r
      → IsAgeless S r
  memory_ageless m memory is r c = side-ageless (side_of memory) r (S.sound.memories_read m memory r is c)
