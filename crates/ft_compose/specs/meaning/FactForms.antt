-- The obligations of facts as they are made.
use Rattle.std.specs.Prelude.{ℕ, Bool, false, List}
use Rattle.ft_core.specs.declared.tables.Tables.{Tables}
use Rattle.ft_core.specs.declared.tables.Block.{Block}
use Rattle.ft_core.specs.declared.tables.Fact.{Fact}
use Rattle.ft_oblige.specs.declared.made.Obligation.{Obligation}
use Rattle.ft_oblige.specs.meaning.Blocks.{IsFactAt}
use Rattle.ft_oblige.specs.meaning.Made.{IsFormOf}
use Rattle.ft_oblige.specs.meaning.Obligations.{AreOf, block_obliged}

-- the formula of a fact at a scan that begins or follows another, with the other parts that belong
pub record IsFactForm (S : Tables) (b f : ℕ) (anew : Bool) (o : Obligation) : Type 0 where
  pub block : Block
  pub fact : Fact
  pub its : IsFactAt S b f block fact
  pub marks : List Bool
  pub belong : AreOf S anew block fact marks
  pub form : IsFormOf S false (block_obliged S anew block fact marks) o
