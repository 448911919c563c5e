-- The first fault of a text, by the stage that finds it.
use Rattle.std.proofs.Common.{◌≡◌, ◌∙◌, sym, ap, subst, refl, ℕ, List}
use Rattle.std.specs.Prelude.{Err}
use Rattle.ft_tree.specs.declared.tree.Tree.{Tree}
use Rattle.ft_core.specs.declared.tables.Tables.{Tables}
use Rattle.ft_parse.specs.declared.fault.ParseFault.{ParseFault}
use Rattle.ft_parse.specs.declared.fault.ParseFault.TheVariants as parse
use Rattle.ft_parse.specs.meaning.Parse.{Reads, Spells}
use Rattle.ft_blocks.specs.declared.fault.BlockFault.{BlockFault}
use Rattle.ft_blocks.specs.declared.fault.BlockFault.TheVariants as block
use Rattle.ft_blocks.specs.meaning.Faults.{HasNoBlockFault, IsBlockFault}
use Rattle.ft_build.specs.declared.parts.Parts.{Parts}
use Rattle.ft_admit.specs.declared.fault.TypeFault.{TypeFault}
use Rattle.ft_admit.specs.declared.fault.TypeFault.TheVariants as typed
use Rattle.ft_admit.specs.declared.set_fault.SetFault.TheVariants.{NoMemory}
use Rattle.ft_admit.specs.meaning.SetFaults.{IsSetFault, linking, of_block, of_parse, of_type}
use Rattle.ft_admit.specs.meaning.TreeFaults.{HasNoFault}
use Rattle.ft_admit.specs.meaning.Trees.{parts_of, set_of_tree}

pub parse-memory : (found : ParseFault) (tree : Tree) → Reads (Err found) tree → of_parse found ≡ NoMemory
parse-memory (parse.Syntax place) tree reads = absurd reads
parse-memory (parse.Limit which place) tree reads = absurd reads
parse-memory parse.NoMemory tree reads = refl

pub type-memory : (found : TypeFault) (read tree : Tree) → read ≡ tree → HasNoFault tree
    → (HasNoFault read → found ≡ typed.NoMemory) → of_type found ≡ NoMemory
type-memory found read tree same no_fault only = ap of_type (only (subst HasNoFault (sym same) no_fault))

-- the blocks of a set are those of the tree
pub linked : (text : List ℕ) (tree : Tree) (tables : Tables) (found : BlockFault) → Spells text tree → HasNoFault tree
    → parts_of tables ≡ set_of_tree tree → IsBlockFault tables.vars tables.blocks found → IsSetFault text (of_block found)
linked text tree tables found spelled no_fault same is = linking tree found refl spelled no_fault
    (subst (λ (set : Parts). IsBlockFault set.vars set.blocks found) same is)

pub block-memory : (found : BlockFault) (read tree : Tree) (tables : Tables) → read ≡ tree → parts_of tables ≡ set_of_tree read
    → HasNoBlockFault (set_of_tree tree).vars (set_of_tree tree).blocks
    → (HasNoBlockFault tables.vars tables.blocks → found ≡ block.NoMemory) → of_block found ≡ NoMemory
block-memory found read tree tables same set no_fault only =
    let whole : parts_of tables ≡ set_of_tree tree = set ∙ ap set_of_tree same in
    ap of_block (only (subst (λ (s : Parts). HasNoBlockFault s.vars s.blocks) (sym whole) no_fault))
