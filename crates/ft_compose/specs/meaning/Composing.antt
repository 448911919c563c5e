-- When the facts of blocks, each shown over two scans, give that the design implements the requirement.
use Rattle.std.specs.Prelude.{ℕ, ◌≡◌, ◌<◌, ℤ, Bool, List, length, IsTrue, Some, slice_get}
use Rattle.ft_core.specs.declared.tables.Tables.{Tables}
use Rattle.ft_core.specs.declared.tables.Var.{Var}
use Rattle.ft_core.specs.declared.tables.Block.{Block}
use Rattle.ft_core.specs.declared.tables.Fact.{Fact}
use Rattle.ft_core.specs.declared.tables.Fact.TheVariants.{Invariant, Goal}
use Rattle.ft_core.specs.declared.tables.Side.TheVariants as side
use Rattle.ft_core.specs.declared.term.Cond.{Cond}
use Rattle.ft_core.specs.meaning.Kinds.{controlled}
use Rattle.ft_mean.specs.laws.Whole.{joint}
use Rattle.ft_mean.specs.meaning.Allowed.{Allowed}
use Rattle.ft_mean.specs.meaning.Fits.{Fits, InputMap}
use Rattle.ft_mean.specs.meaning.Memory.{look}
use Rattle.ft_mean.specs.meaning.Reading.{Scans, IsVar}
use Rattle.ft_mean.specs.meaning.Refines.{Refines}
use Rattle.ft_mean.specs.meaning.Value.{truth}
use Rattle.ft_claims.specs.meaning.Points.{IsPointOf}
use Rattle.ft_oblige.specs.meaning.Blocks.{IsFactAt}
use Rattle.ft_oblige.specs.meaning.Obligations.{block_obliged}

-- each block uses facts of blocks of a lower rank alone
abbrev pub IsBlockRank : Tables → (ℕ → ℕ) → Type 0
IsBlockRank S rank = (b k : ℕ) (block : Block) (at : ℕ × ℕ) → slice_get S.blocks b ≡ Some block → slice_get block.uses k ≡ Some at
    → rank at.0 < rank b

-- each controlled variable is the goal of a block
abbrev pub HasGoals : Tables → Type 0
HasGoals S = (x : ℕ) (v : Var) → IsVar S controlled x v → (b f : ℕ) × (block : Block) × IsFactAt S b f block (Goal x)

-- which of the other parts are marked in the formula of a fact
abbrev pub Marking : Type 0
Marking = (anew : Bool) → Block → Fact → List Bool

-- no formula of a fact has a point, whether its scan begins or follows another
abbrev pub NoPoints : Tables → Marking → Type 0
NoPoints S marks = (b f : ℕ) (block : Block) (fact : Fact) (anew : Bool) → IsFactAt S b f block fact → (p : List ℤ)
    → IsPointOf (block_obliged S anew block fact (marks anew block fact)) p → ⊥

-- every invariant holds at every scan of every allowed list
abbrev pub InvariantsHold : Tables → Type 0
InvariantsHold S = (h r i s : Scans) → Allowed S h → Fits S side.Req h r → InputMap S h i → Fits S side.Sof i s
    → (t b f : ℕ) (block : Block) (name : List ℕ) (c : Cond) → t < length h → IsFactAt S b f block (Invariant name c)
    → IsTrue (truth (look S (joint S r s) t) c)

-- the design implements the requirement, and the invariants hold
pub record Composed (S : Tables) : Type 0 where
  pub refines : Refines S
  pub invariants : InvariantsHold S
