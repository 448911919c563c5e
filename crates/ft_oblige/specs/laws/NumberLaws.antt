-- What has which number, and that each number is one obligation's.
use Rattle.std.specs.Prelude.{ℕ, ◌+◌, ◌*◌, ◌≡◌, ◌<◌, ◌≤◌, Bool, length, Some, slice_get}
use Rattle.ft_core.specs.declared.tables.Tables.{Tables}
use Rattle.ft_core.specs.declared.tables.Table.{Table}
use Rattle.ft_core.specs.declared.tables.Block.{Block}
use Rattle.ft_core.specs.declared.tables.Fact.{Fact}
use Rattle.ft_claims.specs.meaning.Areas.{Obliged}
use Rattle.ft_claims.specs.meaning.Coverage.{gap, overlap, range}
use Rattle.ft_oblige.specs.meaning.Blocks.{IsFactAt}
use Rattle.ft_oblige.specs.meaning.Obligations.{about_table, about_fact, subjects, obligation_count, IsSubject, IsObligation}

-- there are as many as are counted
abbrev pub SubjectsCounted : Type 0
SubjectsCounted = (S : Tables) → length (subjects S) ≡ obligation_count S

-- the three of a table
abbrev pub TablesHaveNumbers : Type 0
TablesHaveNumbers = (S : Tables) (k : ℕ) (table : Table) → slice_get S.tables k ≡ Some table
    → IsSubject S (3 * k + 1) (about_table k gap) × IsSubject S (3 * k + 2) (about_table k overlap)
    × IsSubject S (3 * k + 3) (about_table k range)

-- a number of a fact at a scan that begins or follows another
pub record HasNumber (S : Tables) (b f : ℕ) (anew : Bool) : Type 0 where
  pub n : ℕ
  pub above : 3 * length S.tables < n
  pub below : n ≤ obligation_count S
  pub is : IsSubject S n (about_fact b f anew)

-- each fact has one above those of tables
abbrev pub FactsHaveNumbers : Type 0
FactsHaveNumbers = (S : Tables) (b f : ℕ) (block : Block) (fact : Fact) → IsFactAt S b f block fact → (anew : Bool) → HasNumber S b f anew

-- a number has one obligation
abbrev pub OneObligation : Type 0
OneObligation = (S : Tables) (n : ℕ) (o p : Obliged) → IsObligation S n o → IsObligation S n p → o ≡ p
