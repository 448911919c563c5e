-- The three claims of a table, with the links of the memories that it reads, against what a proper table is.
use Rattle.std.specs.Prelude.{ℕ, ◌≡◌, ◌↔◌, ℤ, List, IsTrue, Some, slice_get}
use Rattle.ft_core.specs.declared.tables.Tables.{Tables}
use Rattle.ft_core.specs.declared.tables.Table.{Table}
use Rattle.ft_core.specs.meaning.Reads.{grid_reads}
use Rattle.ft_mean.specs.laws.EvaluationLaws.{AllSame}
use Rattle.ft_mean.specs.meaning.Proper.{IsLocal, IsProper}
use Rattle.ft_mean.specs.meaning.Value.{View}
use Rattle.ft_claims.specs.meaning.Claims.{claim_true}
use Rattle.ft_claims.specs.meaning.Coverage.{Fault, fault_node, cover_frame, cover_parts}
use Rattle.ft_claims.specs.meaning.Names.{Frame, view}
use Rattle.ft_claims.specs.meaning.Shown.{Shows, AreReadMemories}
use Rattle.ft_claims.specs.meaning.Spans.{MeetsAll}

-- the claim of a fault is true exactly where the table shows it
abbrev pub NodesSay : Type 0
NodesSay = (S : Tables) (k : ℕ) (table : Table) → slice_get S.tables k ≡ Some table → (frame : Frame) (σ : ℕ → ℤ) (fault : Fault)
    → IsTrue (claim_true σ (fault_node S frame fault table.grid)) ↔ Shows S fault table.grid (view S frame σ)

-- numbers that meet a fault's claim and the links tell a local view at which the table shows the fault
abbrev pub MetIsShown : Type 0
MetIsShown = (S : Tables) (k : ℕ) (table : Table) → slice_get S.tables k ≡ Some table → (ms : List ℕ)
    → AreReadMemories S (grid_reads table.grid) ms
    → (fault : Fault) (σ : ℕ → ℤ) → MeetsAll S (cover_parts S fault table.grid ms) σ
    → IsLocal S (grid_reads table.grid) (view S (cover_frame S) σ) × Shows S fault table.grid (view S (cover_frame S) σ)

-- numbers that meet a fault's claim and the links, and tell what the table reads as a view has it
pub record MeetsAs (S : Tables) (table : Table) (fault : Fault) (ms : List ℕ) (V : View) : Type 0 where
  pub numbers : ℕ → ℤ
  pub meets : MeetsAll S (cover_parts S fault table.grid ms) numbers
  pub same : AllSame (view S (cover_frame S) numbers) V (grid_reads table.grid)

-- there are such numbers for each local view at which the table shows the fault
abbrev pub ShownIsMet : Type 0
ShownIsMet = (S : Tables) (k : ℕ) (table : Table) → slice_get S.tables k ≡ Some table → (ms : List ℕ)
    → AreReadMemories S (grid_reads table.grid) ms
    → (fault : Fault) (V : View) → IsLocal S (grid_reads table.grid) V → Shows S fault table.grid V → MeetsAs S table fault ms V

-- a table is proper exactly where it shows no fault at any local view
abbrev pub ProperShowsNone : Type 0
ProperShowsNone = (S : Tables) (k : ℕ) (table : Table) → slice_get S.tables k ≡ Some table
    → IsProper S table ↔ ((fault : Fault) (V : View) → IsLocal S (grid_reads table.grid) V → Shows S fault table.grid V → ⊥)

-- so it is proper exactly where no numbers meet any of its three claims with the links
abbrev pub ProperIsUnmet : Type 0
ProperIsUnmet = (S : Tables) (k : ℕ) (table : Table) → slice_get S.tables k ≡ Some table → (ms : List ℕ)
    → AreReadMemories S (grid_reads table.grid) ms
    → IsProper S table ↔ ((fault : Fault) (σ : ℕ → ℤ) → MeetsAll S (cover_parts S fault table.grid ms) σ → ⊥)
