-- The place of the n-th fact of all.
use Rattle.std.specs.Prelude.{ℕ, ◌+◌, ◌*◌, ◌≡◌, Bool, true, false, List, Some, slice_get}
use Rattle.std.specs.List.{flat_map}
use Rattle.ft_core.specs.declared.tables.Block.{Block}
use Rattle.ft_core.specs.declared.tables.Fact.{Fact}
use Rattle.ft_core.specs.meaning.Grids.{numbered}
use Rattle.ft_oblige.specs.meaning.Obligations.{about_fact, block_subjects}

-- the place of a block and of a fact in it, of the n-th fact of all
pub record IsNthFact (blocks : List Block) (n b f : ℕ) : Type 0 where
  pub block : Block
  pub fact : Fact
  pub in_set : slice_get blocks b ≡ Some block
  pub in_block : slice_get block.facts f ≡ Some fact
  pub first : slice_get (flat_map block_subjects (numbered blocks)) (2 * n) ≡ Some (about_fact b f true)
  pub later : slice_get (flat_map block_subjects (numbered blocks)) (2 * n + 1) ≡ Some (about_fact b f false)

-- half of a number, and whether it is even
abbrev pub IsHalved : (n half : ℕ) → Bool → Type 0
IsHalved n half true = n ≡ 2 * half
IsHalved n half false = n ≡ 2 * half + 1
