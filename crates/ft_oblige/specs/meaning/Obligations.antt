-- The obligations of a set by number: three for each table, and two for each fact of a block.
use Rattle.std.specs.Prelude.{ℕ, ◌+◌, ◌-◌, ◌*◌, ◌≡◌, ◌<◌, ℤ, Bool, true, false, List, [], ◌∷◌, ◌++◌, length, Some, slice_get}
use Rattle.std.specs.List.{flat_map, sum_by, range_with_len}
use Rattle.ft_core.specs.declared.tables.Tables.{Tables}
use Rattle.ft_core.specs.declared.tables.Table.{Table}
use Rattle.ft_core.specs.declared.tables.Block.{Block}
use Rattle.ft_core.specs.declared.tables.Fact.{Fact}
use Rattle.ft_core.specs.meaning.Grids.{numbered}
use Rattle.ft_core.specs.meaning.Reads.{grid_reads}
use Rattle.ft_claims.specs.laws.PointLaws.{cover_obliged}
use Rattle.ft_claims.specs.meaning.Areas.{Obliged, finished}
use Rattle.ft_claims.specs.meaning.Coverage.{Fault, gap, overlap, range}
use Rattle.ft_claims.specs.meaning.Points.{IsPointOf}
use Rattle.ft_claims.specs.meaning.Shown.{AreReadMemories}
use Rattle.ft_oblige.specs.meaning.Blocks.{IsFactAt, own, others, block_parts}
use Rattle.ft_oblige.specs.meaning.Linked.{AreSettled}
use Rattle.ft_oblige.specs.meaning.States.{slot_spans}

-- marks of the other parts that belong to the formula of a fact
abbrev pub AreOf : Tables → (anew : Bool) → Block → Fact → List Bool → Type 0
AreOf S anew block fact marks = AreSettled (length (slot_spans S)) (own S anew block fact) (others S anew) marks

-- the formula of a fact, with those of the other parts that are marked
abbrev pub block_obliged : Tables → (anew : Bool) → Block → Fact → List Bool → Obliged
block_obliged S anew block fact marks = finished (slot_spans S) (block_parts S anew block fact marks)

-- what an obligation is about: a table and a fault, or a fact of a block at a scan that begins or follows another
pub data Subject : Type 0 where
  about_table : (k : ℕ) → Fault → Subject
  about_fact : (b f : ℕ) → (anew : Bool) → Subject

abbrev pub table_subjects : ℕ × Table → List Subject
table_subjects t = about_table t.0 gap ∷ about_table t.0 overlap ∷ about_table t.0 range ∷ []

abbrev pub fact_subjects : (b f : ℕ) → List Subject
fact_subjects b f = about_fact b f true ∷ about_fact b f false ∷ []

abbrev pub block_subjects : ℕ × Block → List Subject
block_subjects b = flat_map (fact_subjects b.0) (range_with_len 0 (length b.1.facts))

-- of all obligations, in order
abbrev pub subjects : Tables → List Subject
subjects S = flat_map table_subjects (numbered S.tables) ++ flat_map block_subjects (numbered S.blocks)

-- how many there are
abbrev pub obligation_count : Tables → ℕ
obligation_count S = 3 * length S.tables + 2 * sum_by (λ block. length block.facts) S.blocks

-- the n-th, from 1
pub record IsSubject (S : Tables) (n : ℕ) (subject : Subject) : Type 0 where
  pub some : 0 < n
  pub at : slice_get (subjects S) (n - 1) ≡ Some subject

-- the formula of the n-th obligation, with the spans of its unknowns and what they stand for
pub data IsObligation (S : Tables) (n : ℕ) (o : Obliged) : Type 0 where
  of_table : (k : ℕ) (table : Table) (fault : Fault) (ms : List ℕ) → IsSubject S n (about_table k fault) → slice_get S.tables k ≡ Some table
      → AreReadMemories S (grid_reads table.grid) ms → o ≡ cover_obliged S fault table.grid ms → IsObligation S n o
  of_fact : (b f : ℕ) (block : Block) (fact : Fact) (anew : Bool) (marks : List Bool) → IsSubject S n (about_fact b f anew)
      → IsFactAt S b f block fact
      → AreOf S anew block fact marks → o ≡ block_obliged S anew block fact marks → IsObligation S n o

-- it has no point
abbrev pub Closes : Tables → ℕ → Type 0
Closes S n = (o : Obliged) → IsObligation S n o → (p : List ℤ) → IsPointOf o p → ⊥

-- none with a smaller number has
abbrev pub Before : Tables → ℕ → Type 0
Before S n = (k : ℕ) → 0 < k → k < n → Closes S k
