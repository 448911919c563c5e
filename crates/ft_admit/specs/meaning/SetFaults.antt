-- The faults of a text from Syntax to ShownTwice: which one is answered, and which set is admitted.
use Rattle.std.specs.Prelude.{◌≡◌, ℕ, List}
use Rattle.ft_tree.specs.declared.tree.Tree.{Tree}
use Rattle.ft_core.specs.declared.tables.Tables.{Tables}
use Rattle.ft_parse.specs.declared.fault.ParseFault.{ParseFault}
use Rattle.ft_parse.specs.declared.fault.ParseFault.TheVariants as parse
use Rattle.ft_parse.specs.meaning.Parse.{IsFault, Spells}
use Rattle.ft_blocks.specs.declared.fault.BlockFault.{BlockFault}
use Rattle.ft_blocks.specs.declared.fault.BlockFault.TheVariants as block
use Rattle.ft_blocks.specs.meaning.Faults.{IsBlockFault}
use Rattle.ft_admit.specs.declared.fault.TypeFault.{TypeFault}
use Rattle.ft_admit.specs.declared.fault.TypeFault.TheVariants as typed
use Rattle.ft_admit.specs.declared.set_fault.SetFault.{SetFault}
use Rattle.ft_admit.specs.declared.set_fault.SetFault.TheVariants.{Syntax, Limit, NoVariable, DuplicateName, UnknownName, WrongSide}
use Rattle.ft_admit.specs.declared.set_fault.SetFault.TheVariants.{TypeMismatch, NotLinear, BadRange, BadHold, BadBand, Shape, NoTable}
use Rattle.ft_admit.specs.declared.set_fault.SetFault.TheVariants.{TwoTables, Cycle, UnknownInvariant, BlockCycle, GoalMissing}
use Rattle.ft_admit.specs.declared.set_fault.SetFault.TheVariants.{ShownTwice, NoMemory}
use Rattle.ft_admit.specs.meaning.TreeFaults.{HasNoFault, IsFirstFault}
use Rattle.ft_admit.specs.meaning.Trees.{parts_of, set_of_tree}

abbrev pub of_parse : ParseFault → SetFault
of_parse (parse.Syntax place) = Syntax place
of_parse (parse.Limit which place) = Limit which place
of_parse parse.NoMemory = NoMemory

abbrev pub of_type : TypeFault → SetFault
of_type (typed.NoVariable kind) = NoVariable kind
of_type (typed.DuplicateName name place) = DuplicateName name place
of_type (typed.UnknownName name place) = UnknownName name place
of_type (typed.WrongSide name place) = WrongSide name place
of_type (typed.TypeMismatch place) = TypeMismatch place
of_type (typed.NotLinear why place) = NotLinear why place
of_type (typed.BadRange place) = BadRange place
of_type (typed.BadHold place) = BadHold place
of_type (typed.BadBand place) = BadBand place
of_type (typed.Shape title place) = Shape title place
of_type (typed.NoTable section name) = NoTable section name
of_type (typed.TwoTables section name place) = TwoTables section name place
of_type (typed.Cycle names) = Cycle names
of_type (typed.UnknownInvariant name place) = UnknownInvariant name place
of_type typed.NoMemory = NoMemory

abbrev pub of_block : BlockFault → SetFault
of_block (block.BlockCycle names) = BlockCycle names
of_block (block.GoalMissing name) = GoalMissing name
of_block (block.ShownTwice name) = ShownTwice name
of_block block.NoMemory = NoMemory

-- the set is that of the tree that the text spells, and that tree has no fault
pub record IsSetOfText (text : List ℕ) (tables : Tables) : Type 0 where
  pub tree : Tree
  pub spelled : Spells text tree
  pub no_fault : HasNoFault tree
  pub same : parts_of tables ≡ set_of_tree tree

-- The fault is the first of the text: one of its spelling, or else of the tree that it spells, or else of that tree's blocks. Each of
-- the three leaves want of memory free.
pub data IsSetFault (text : List ℕ) (fault : SetFault) : Type 0 where
  spelling : (found : ParseFault) → fault ≡ of_parse found → IsFault text found → IsSetFault text fault
  typing : (tree : Tree) (found : TypeFault) → fault ≡ of_type found → Spells text tree → IsFirstFault tree found → IsSetFault text fault
  linking : (tree : Tree) (found : BlockFault) → fault ≡ of_block found → Spells text tree → HasNoFault tree
      → IsBlockFault (set_of_tree tree).vars (set_of_tree tree).blocks found → IsSetFault text fault
