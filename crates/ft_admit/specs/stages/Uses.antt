-- What is checked of the names after `uses`, of a set as its parts.
use Rattle.std.specs.Prelude.{ℕ, ◌≡◌, IsTrue, List, slice_get, Some}
use Rattle.std.specs.List.{Contains}
use Rattle.ft_core.specs.declared.tables.Block.{Block}
use Rattle.ft_core.specs.checked.Blocks.{names_invariant}
use Rattle.ft_core.specs.checked.Distinct.{AreDistinct}

pub record HaveLawfulUses (blocks : List Block) : Type 0 where
  pub invariants : (b : ℕ) (block : Block) (used : ℕ × ℕ) → slice_get blocks b ≡ Some block → Contains block.uses used
      → IsTrue (names_invariant blocks used)
  pub differ : (b : ℕ) (block : Block) → slice_get blocks b ≡ Some block → AreDistinct block.uses
