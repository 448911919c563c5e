-- Laws of reading: a text spells one tree or has one fault, and never both.
use Rattle.std.specs.Prelude.{ℕ, ◌≡◌, List}
use Rattle.ft_tree.specs.declared.tree.Tree.{Tree}
use Rattle.ft_parse.specs.meaning.Parse.{IsFault, Spells}
use Rattle.ft_parse.specs.declared.fault.ParseFault.{ParseFault}
use Rattle.ft_parse.specs.declared.fault.ParseFault.TheVariants.{Syntax, Limit, NoMemory}

-- the fault is of the text; want of memory is not
abbrev pub IsOfText : ParseFault → Type 0
IsOfText (Syntax place) = Unit {0}
IsOfText (Limit which place) = Unit {0}
IsOfText NoMemory = ⊥

-- two trees that a text spells are the same, places included
abbrev pub OneTree : Type 0
OneTree = (text : List ℕ) (tree other : Tree) → Spells text tree → Spells text other → tree ≡ other

-- two faults of a text are the same: kind, limit and place
abbrev pub OneFault : Type 0
OneFault =
    (text : List ℕ) (fault other : ParseFault) → IsOfText fault → IsOfText other → IsFault text fault → IsFault text other → fault ≡ other

-- a text that spells a tree has no fault
abbrev pub FaultOrTree : Type 0
FaultOrTree = (text : List ℕ) (tree : Tree) (fault : ParseFault) → Spells text tree → IsOfText fault → IsFault text fault → ⊥
