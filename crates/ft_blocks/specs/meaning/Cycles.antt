-- Blocks that use each other in a circle.
use Rattle.std.specs.Prelude.{ℕ, ◌≡◌, List, [], map, slice_index_or}
use Rattle.ft_core.specs.declared.tables.Block.{Block}
use Rattle.ft_core.specs.meaning.Order.{IsCircle, IsFirstCircle}

-- a block uses the blocks whose invariants it uses: list k has those of block k
abbrev pub block_reads : List Block → List (List ℕ)
block_reads blocks = map (λ block. map (λ used. used.0) block.uses) blocks

abbrev pub block_names : List Block → List (List ℕ)
block_names blocks = map (λ block. block.name) blocks

-- The names of blocks of which each uses the next, the last the first, and none stands twice. The first is the first declared that
-- lies on any circle.
pub record IsBlockCycle (blocks : List Block) (names : List (List ℕ)) : Type 0 where
  pub places : List ℕ
  pub named : names ≡ map (λ k. slice_index_or (block_names blocks) k []) places
  pub first : IsFirstCircle (block_reads blocks) places

abbrev pub HasNoBlockCycle : List Block → Type 0
HasNoBlockCycle blocks = (places : List ℕ) → IsCircle (block_reads blocks) places → ⊥
