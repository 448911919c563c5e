-- What was checked of a set and no meaning cites: names, limits, what the tables define, and the blocks.
use Rattle.std.specs.Prelude.{ℕ, ◌-◌, ◌≡◌, ◌<◌, ◌≤◌, ℤ, pos, Bool, IsTrue, List, length, slice_get, Some}
use Rattle.std.proofs.Props.{props}
use Rattle.ft_base.specs.Interval.{IsBounded}
use Rattle.ft_core.specs.declared.tables.Var.{Var}
use Rattle.ft_core.specs.declared.tables.Memory.{Memory}
use Rattle.ft_core.specs.declared.tables.Memory.TheVariants.{Hyst}
use Rattle.ft_core.specs.declared.tables.Side.{Side}
use Rattle.ft_core.specs.declared.tables.Table.{Table}
use Rattle.ft_core.specs.declared.tables.Grid.TheVariants.{Vector}
use Rattle.ft_core.specs.declared.tables.Block.{Block}
use Rattle.ft_core.specs.declared.term.Term.{Term}
use Rattle.ft_core.specs.declared.term.Cond.{Cond}
use Rattle.ft_core.specs.meaning.Kinds.{Kinds, monitored, controlled, defined_kinds, is_of}
use Rattle.ft_core.specs.meaning.Grids.{defines}
use Rattle.ft_core.specs.checked.Distinct.{AreDistinct}
use Rattle.ft_core.specs.checked.Names.{AreNamed}
use Rattle.ft_core.specs.checked.Short.{AreShort}
use Rattle.ft_core.specs.checked.Blocks.{AreBlocks}

-- some variable is of these kinds
abbrev pub HasSome : List Var → Kinds → Type 0
HasSome vars kinds = ∥ ((x : ℕ) × IsTrue (is_of vars kinds x)) ∥₁

pub record AreChecked (name : List ℕ) (splits depth : ℕ) (vars : List Var) (memories : List Memory) (tables : List Table)
    (first always step : List Cond) (blocks : List Block) : Type 0 where
  pub names : AreNamed name vars memories blocks
  pub few_splits : splits ≤ 200000
  -- a short list has 1 to 8 scans
  pub some_depth : 1 ≤ depth
  pub low_depth : depth ≤ 8
  pub has_monitored : HasSome vars monitored
  pub has_controlled : HasSome vars controlled
  -- the bounds of a variable are at most 1,000,000,000 either way
  pub ranges : (x : ℕ) (v : Var) → slice_get vars x ≡ Some v → IsBounded 1000000000 v.range.0 v.range.1
  -- and so are those of a band
  pub bands : (m : ℕ) (name : List ℕ) (side : Side) (e : Term) (lo hi : ℤ) (start : Bool) → slice_get memories m
      ≡ Some (Hyst name side e lo hi start)
      → IsBounded 1000000000 lo hi
  pub few_members : (x : ℕ) (v : Var) → slice_get vars x ≡ Some v → length v.members ≤ 64
  -- the values of an enum are the places of its members
  pub enums : (x : ℕ) (v : Var) → slice_get vars x ≡ Some v → 0 < length v.members → v.range ≡ (pos 0, pos (length v.members - 1))
  -- a table defines variables of its own section
  pub targets : (k x : ℕ) (table : Table) → slice_get tables k ≡ Some table → IsTrue (defines table.grid x)
      → IsTrue (is_of vars (defined_kinds table.section) x)
  -- a vector table defines no variable twice
  pub targets_differ : (k : ℕ) (table : Table) (columns : List Cond) (targets : List ℕ) (terms : List (List Term))
      → slice_get tables k ≡ Some table → table.grid ≡ Vector columns targets terms → AreDistinct targets
  pub terms : AreShort memories tables first always step
  pub facts : AreBlocks vars memories blocks

-- The same, closed: a proof opens it by `unfolding IsChecked`, so that no search looks into it wherever a set is lent.
unfoldable pub IsChecked : (name : List ℕ) → (splits depth : ℕ) → List Var → List Memory → List Table → (first always step : List Cond)
    → List Block → Type 0
IsChecked name splits depth vars memories tables first always step blocks =
    AreChecked name splits depth vars memories tables first always step blocks

-- and it is a fact
pub checked_prop : (name : List ℕ) (splits depth : ℕ) (vars : List Var) (memories : List Memory) (tables : List Table)
    (first always step : List Cond) (blocks : List Block)
    → IsProp (IsChecked name splits depth vars memories tables first always step blocks)
unfolding IsChecked
checked_prop name splits depth vars memories tables first always step blocks = Prim.hlevel props
