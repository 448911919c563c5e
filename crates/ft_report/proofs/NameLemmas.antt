-- The names of obligations by what they are about.
use Rattle.std.proofs.Common.{◌≡◌, ◌∙◌, ap, sym, subst, ℕ, zero, suc, ◌+◌, ◌-◌, ◌*◌, ◌<◌, ◌≤◌, List, ◌++◌, length, arith}
use Rattle.std.specs.Prelude.{Some, None, slice_get, codes}
use Rattle.std.proofs.lemmas.Option.{slice_get_within}
use Rattle.ft_core.specs.declared.tables.Tables.{Tables}
use Rattle.ft_core.specs.declared.tables.Block.{Block}
use Rattle.ft_core.specs.declared.tables.Fact.{Fact}
use Rattle.ft_core.specs.declared.tables.Var.{Var}
use Rattle.ft_core.specs.laws.Places.{one-at, some-at}
use Rattle.ft_claims.specs.meaning.Coverage.{Fault}
use Rattle.ft_oblige.specs.laws.NumberLaws.{TablesHaveNumbers}
use Rattle.ft_oblige.specs.meaning.Blocks.{fact_of}
use Rattle.ft_oblige.specs.meaning.Facts.{HasFact, IsFactNumbered}
use Rattle.ft_oblige.specs.meaning.Obligations.{IsSubject, about_table, subjects}
use Rattle.ft_oblige.specs.declared.facts.FactAt.{FactAt}
use Rattle.ft_report.specs.building.Thirds.{fault_at}
use Rattle.ft_report.specs.meaning.Titles.{block_name, fact_about, fact_name, fact_title, fault_word, moment_word, obligation_name}
use Rattle.ft_report.specs.meaning.Titles.{subject_name, title_of}
use Rattle.ft_report.specs.meaning.Words.{named}

module _ (S : Tables) where
  -- a number of a table has the name of the table with the fault's word
  of-table : (n m q : ℕ) (fault : Fault) → IsSubject S m (about_table q fault) → m ≡ n
      → named (fault_word fault) (title_of S q) ≡ obligation_name S n
  of-table n m q fault its same = sym (ap (subject_name S) its.at) ∙ ap (obligation_name S) same

  pub table-name : TablesHaveNumbers → (n before q r : ℕ) → before ≡ n - 1 → before ≡ 3 * q + r → r < 3 → 0 < n
      → n ≤ 3 * length S.tables → named (fault_word (fault_at r)) (title_of S q) ≡ obligation_name S n
  table-name laws n before q r less sum low some below =
      let within : q < length S.tables = omega (arith, less, sum, low, some, below) in
      let there = some-at S.tables q within in
      let three = laws S q there.0 there.1 in
      of-third n q r (omega (arith, less, sum, some)) low three.0 three.1 three.2
    where
      of-third : (n q r : ℕ) → n ≡ 3 * q + r + 1 → r < 3 → IsSubject S (3 * q + 1) (about_table q (fault_at 0))
          → IsSubject S (3 * q + 2) (about_table q (fault_at 1)) → IsSubject S (3 * q + 3) (about_table q (fault_at 2))
          → named (fault_word (fault_at r)) (title_of S q) ≡ obligation_name S n
      of-third n q zero is low one two three = of-table n (3 * q + 1) q (fault_at 0) one (omega (arith, is))
      of-third n q (suc zero) is low one two three = of-table n (3 * q + 2) q (fault_at 1) two (omega (arith, is))
      of-third n q (suc (suc zero)) is low one two three = of-table n (3 * q + 3) q (fault_at 2) three (omega (arith, is))
      of-third n q (suc (suc (suc r))) is low one two three = absurd (omega (arith, low))

  -- a number of a fact has the name of the fact with the moment's word
  pub fact-name : (n : ℕ) (at : FactAt) → IsFactNumbered S n at
      → named (moment_word at.anew) (fact_title S at.block at.fact) ≡ obligation_name S n
  fact-name n at its = sym (ap (subject_name S) its.is.at)

  -- the block that was taken is that of the fact
  pub in-block : (b f : ℕ) (owner : Block) → HasFact S b f → slice_get S.blocks b ≡ Some owner → f < length owner.facts
  in-block b f owner has is =
      subst (λ (block : Block). f < length block.facts) (one-at S.blocks b has.block owner has.its.in_set is)
      (slice_get_within has.block.facts f has.fact has.its.in_block)

  pub fact-there : (b f : ℕ) (owner : Block) (fact : Fact) → slice_get S.blocks b ≡ Some owner → slice_get owner.facts f ≡ Some fact
      → fact_of S (b, f) ≡ Some fact
  fact-there b f owner fact is is' = ap (λ o. elim o [ None ↦ None | Some block ↦ slice_get block.facts f ]) is ∙ is'

  -- its title, by the two
  pub titled : (vars : List Var) (b f : ℕ) (owner : Block) (fact : Fact) → vars ≡ S.vars → slice_get S.blocks b ≡ Some owner
      → slice_get owner.facts f ≡ Some fact → owner.name ++ codes "." ++ fact_name vars (Some fact) ≡ fact_title S b f
  titled vars b f owner fact of_set is is' =
      ap (λ vs. owner.name ++ codes "." ++ fact_name vs (Some fact)) of_set
      ∙ sym (λ i. block_name (is i) ++ codes "." ++ fact_name S.vars (fact-there b f owner fact is is' i))

  -- the fact that its obligation is about
  pub about-fact : (n : ℕ) (at : FactAt) (owner : Block) (fact : Fact) → IsFactNumbered S n at → slice_get S.blocks at.block ≡ Some owner
      → slice_get owner.facts at.fact ≡ Some fact → fact_about S (slice_get (subjects S) (n - 1)) ≡ Some fact
  about-fact n at owner fact its is is' = ap (fact_about S) its.is.at ∙ fact-there at.block at.fact owner fact is is'
