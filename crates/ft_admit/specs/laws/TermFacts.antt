-- What a tree without a fault gives of the terms and conditions of its set: what they read, and how large and long they are.
use Rattle.std.specs.Prelude.{◌≡◌, ℕ, List, Option, ◌++◌, IsTrue, slice_get, Some}
use Rattle.std.specs.List.{Contains, list_all}
use Rattle.ft_tree.specs.declared.item.Item.{Item}
use Rattle.ft_tree.specs.declared.item.Number.{Number}
use Rattle.ft_core.specs.declared.tables.Block.{Block}
use Rattle.ft_core.specs.declared.tables.Fact.TheVariants.{Invariant}
use Rattle.ft_core.specs.declared.tables.Memory.{Memory}
use Rattle.ft_core.specs.declared.tables.Table.{Table}
use Rattle.ft_core.specs.declared.term.Cond.{Cond}
use Rattle.ft_core.specs.meaning.Kinds.{monitored}
use Rattle.ft_core.specs.meaning.Reads.{Read, cond_reads, grid_reads, memory_reads}
use Rattle.ft_core.specs.checked.Blocks.{may_show}
use Rattle.ft_core.specs.checked.Short.{AreShort, is_short}
use Rattle.ft_core.specs.checked.Size.{is_sized, is_sized_grid, is_sized_memory}
use Rattle.ft_core.specs.checked.Sound.{AllRead, may_read, now_of, on_side, side_of, step_of}
use Rattle.ft_build.specs.declared.parts.Parts.{Parts}
use Rattle.ft_build.specs.meaning.Sets.{set_of}
use Rattle.ft_admit.specs.meaning.Faultless.{IsFaultless}

pub record HaveLawfulTerms (set : Parts) : Type 0 where
  pub tables_read : (k : ℕ) (table : Table) (r : Read) → slice_get set.tables k ≡ Some table → Contains (grid_reads table.grid) r
      → IsTrue (may_read set.vars set.memories table.section r)
  pub memories_read : (m : ℕ) (memory : Memory) (r : Read) → slice_get set.memories m ≡ Some memory
      → Contains (memory_reads (Some memory)) r
      → IsTrue (on_side set.vars set.memories (side_of memory) r)
  pub first_reads : AllRead (now_of set.vars monitored) set.first
  pub always_reads : AllRead (now_of set.vars monitored) set.always
  pub step_reads : AllRead (step_of set.vars monitored) set.step
  pub invariants_read : (b f : ℕ) (block : Block) (name : List ℕ) (cond : Cond) (r : Read) → slice_get set.blocks b ≡ Some block
      → slice_get block.facts f ≡ Some (Invariant name cond) → Contains (cond_reads cond) r → IsTrue (may_show set.vars set.memories r)
  pub sized_memories : IsTrue (list_all (is_sized_memory set.vars set.memories) set.memories)
  pub sized_tables : IsTrue (list_all (λ table. is_sized_grid set.vars set.memories table.grid) set.tables)
  pub sized_clauses : IsTrue (list_all (is_sized set.vars set.memories) (set.first ++ set.always ++ set.step))
  pub invariants_sized : (b f : ℕ) (block : Block) (name : List ℕ) (cond : Cond) → slice_get set.blocks b ≡ Some block
      → slice_get block.facts f ≡ Some (Invariant name cond) → IsTrue (is_sized set.vars set.memories cond)
  pub short : AreShort set.memories set.tables set.first set.always set.step
  pub invariants_short : (b f : ℕ) (block : Block) (name : List ℕ) (cond : Cond) → slice_get set.blocks b ≡ Some block
      → slice_get block.facts f ≡ Some (Invariant name cond) → IsTrue (is_short cond)

abbrev pub TermsAreLawful : Type 0
TermsAreLawful = (name : List ℕ) (period : Number) (splits depth : Option Number) (items : List Item)
    → IsFaultless name period splits depth items → HaveLawfulTerms (set_of name period splits depth items)
