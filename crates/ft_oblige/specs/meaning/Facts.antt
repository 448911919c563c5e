-- The fact that an obligation is about.
use Rattle.std.specs.Prelude.{ℕ}
use Rattle.ft_core.specs.declared.tables.Tables.{Tables}
use Rattle.ft_core.specs.declared.tables.Block.{Block}
use Rattle.ft_core.specs.declared.tables.Fact.{Fact}
use Rattle.ft_oblige.specs.meaning.Blocks.{IsFactAt}
use Rattle.ft_oblige.specs.meaning.Obligations.{IsSubject, about_fact}
use Rattle.ft_oblige.specs.declared.facts.FactAt.{FactAt}

-- there is a block at this place, and a fact at this place of it
pub record HasFact (S : Tables) (b f : ℕ) : Type 0 where
  pub block : Block
  pub fact : Fact
  pub its : IsFactAt S b f block fact

-- the fact that the obligation with this number is about, and whether its scan begins
pub record IsFactNumbered (S : Tables) (n : ℕ) (at : FactAt) : Type 0 where
  pub is : IsSubject S n (about_fact at.block at.fact at.anew)
  pub there : HasFact S at.block at.fact
