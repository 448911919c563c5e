-- What a tree without a fault gives of the form of its set: counts, places, ranges, names, tables and what blocks take, use and show.
use Rattle.std.specs.Prelude.{ℕ, ◌≡◌, ◌<◌, ◌≤◌, ℤ, ◌<ℤ◌, Bool, ◌-◌, pos, IsTrue, List, ◌++◌, length, Option, slice_get, Some}
use Rattle.std.specs.List.{Contains, list_all, list_any, sum_by}
use Rattle.ft_base.specs.Interval.{IsBounded, IsWithin}
use Rattle.ft_tree.specs.declared.item.Item.{Item}
use Rattle.ft_tree.specs.declared.item.Number.{Number}
use Rattle.ft_core.specs.declared.tables.Block.{Block}
use Rattle.ft_core.specs.declared.tables.Fact.TheVariants.{Goal}
use Rattle.ft_core.specs.declared.tables.Grid.TheVariants.{Vector}
use Rattle.ft_core.specs.declared.tables.Memory.TheVariants.{Held, Hyst}
use Rattle.ft_core.specs.declared.tables.Section.{Section}
use Rattle.ft_core.specs.declared.tables.Side.{Side}
use Rattle.ft_core.specs.declared.tables.Table.{Table}
use Rattle.ft_core.specs.declared.tables.Take.{Take}
use Rattle.ft_core.specs.declared.tables.Var.{Var}
use Rattle.ft_core.specs.declared.term.Cond.{Cond}
use Rattle.ft_core.specs.declared.term.Term.{Term}
use Rattle.ft_core.specs.meaning.Grids.{defines, is_for, is_shaped}
use Rattle.ft_core.specs.meaning.Kinds.{controlled, defined_kinds, is_of, monitored, of_kind, place_of}
use Rattle.ft_core.specs.checked.Blocks.{may_take}
use Rattle.ft_core.specs.checked.Checked.{HasSome}
use Rattle.ft_core.specs.checked.Distinct.{AreDistinct}
use Rattle.ft_core.specs.checked.Names.{AreNamed}
use Rattle.ft_core.specs.checked.Sound.{IsHold, IsPeriod}
use Rattle.ft_build.specs.declared.parts.Parts.{Parts}
use Rattle.ft_build.specs.meaning.Sets.{set_of}
use Rattle.ft_admit.specs.meaning.Faultless.{IsFaultless}

pub record HasLawfulForm (set : Parts) : Type 0 where
  pub few_vars : length set.vars ≤ 1100
  pub few_memories : length set.memories ≤ 200
  pub few_tables : length set.tables ≤ 400
  pub few_clauses : length (set.first ++ set.always ++ set.step) ≤ 700
  pub places : (x : ℕ) (v : Var) → slice_get set.vars x ≡ Some v → v.place ≡ place_of (of_kind v.kind) set.vars x
  pub shapes : IsTrue (list_all (λ table. is_shaped table.grid) set.tables)
  pub has_period : IsPeriod set.period
  pub inits : (x : ℕ) (v : Var) → slice_get set.vars x ≡ Some v → IsWithin v.range v.init
  pub timers : (m : ℕ) (name : List ℕ) (s : Side) (cond : Cond) (hold : ℤ) → slice_get set.memories m ≡ Some (Held name s cond hold)
      → IsHold hold
  pub bands : (m : ℕ) (name : List ℕ) (s : Side) (e : Term) (lo hi : ℤ) (start : Bool)
      → slice_get set.memories m ≡ Some (Hyst name s e lo hi start) → lo <ℤ hi
  pub has_table : (section : Section) (x : ℕ) → IsTrue (is_of set.vars (defined_kinds section) x)
      → IsTrue (list_any (is_for section x) set.tables)
  pub one_table : (section : Section) (x k l : ℕ) (a b : Table) → slice_get set.tables k ≡ Some a → slice_get set.tables l ≡ Some b
      → IsTrue (is_for section x a) → IsTrue (is_for section x b) → k ≡ l
  pub names : AreNamed set.name set.vars set.memories set.blocks
  pub few_splits : set.splits ≤ 200000
  pub some_depth : 1 ≤ set.depth
  pub low_depth : set.depth ≤ 8
  pub has_monitored : HasSome set.vars monitored
  pub has_controlled : HasSome set.vars controlled
  pub ranges : (x : ℕ) (v : Var) → slice_get set.vars x ≡ Some v → IsBounded 1000000000 v.range.0 v.range.1
  pub band_bounds : (m : ℕ) (name : List ℕ) (s : Side) (e : Term) (lo hi : ℤ) (start : Bool)
      → slice_get set.memories m ≡ Some (Hyst name s e lo hi start) → IsBounded 1000000000 lo hi
  pub few_members : (x : ℕ) (v : Var) → slice_get set.vars x ≡ Some v → length v.members ≤ 64
  pub enums : (x : ℕ) (v : Var) → slice_get set.vars x ≡ Some v → 0 < length v.members
      → v.range ≡ (pos 0, pos (length v.members - 1))
  pub targets : (k x : ℕ) (table : Table) → slice_get set.tables k ≡ Some table → IsTrue (defines table.grid x)
      → IsTrue (is_of set.vars (defined_kinds table.section) x)
  pub targets_differ : (k : ℕ) (table : Table) (columns : List Cond) (targets : List ℕ) (terms : List (List Term))
      → slice_get set.tables k ≡ Some table → table.grid ≡ Vector columns targets terms → AreDistinct targets
  pub few_blocks : length set.blocks ≤ 400
  pub few_facts : sum_by (λ block. length block.facts) set.blocks ≤ 400
  pub some_fact : (b : ℕ) (block : Block) → slice_get set.blocks b ≡ Some block → 0 < length block.facts
  pub takes : (b : ℕ) (block : Block) (t : Take) → slice_get set.blocks b ≡ Some block → Contains block.takes t
      → IsTrue (may_take set.vars set.memories t)
  pub takes_differ : (b : ℕ) (block : Block) → slice_get set.blocks b ≡ Some block → AreDistinct block.takes
  pub goals : (b f x : ℕ) (block : Block) → slice_get set.blocks b ≡ Some block → slice_get block.facts f ≡ Some (Goal x)
      → IsTrue (is_of set.vars controlled x)

abbrev pub FormIsLawful : Type 0
FormIsLawful = (name : List ℕ) (period : Number) (splits depth : Option Number) (items : List Item)
    → IsFaultless name period splits depth items → HasLawfulForm (set_of name period splits depth items)
