-- The parts of the formula of a fact.
use Rattle.std.specs.Prelude.{◌≡◌, Bool, List}
use Rattle.ft_core.specs.declared.tables.Tables.{Tables}
use Rattle.ft_core.specs.declared.tables.Block.{Block}
use Rattle.ft_core.specs.declared.tables.Fact.{Fact}
use Rattle.ft_claims.specs.declared.claim.Claim.{Claim}
use Rattle.ft_oblige.specs.meaning.Blocks.{block_parts}
use Rattle.ft_oblige.specs.meaning.Obligations.{AreOf}

-- the own parts of a fact and those of the others that belong
pub record AreFactParts (S : Tables) (anew : Bool) (block : Block) (fact : Fact) (parts : List Claim) : Type 0 where
  pub marks : List Bool
  pub belong : AreOf S anew block fact marks
  pub are : parts ≡ block_parts S anew block fact marks
