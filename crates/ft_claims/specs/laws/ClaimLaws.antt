-- What is claimed of numbered names says what terms, conditions, tables and memories mean at the view that the numbers tell.
use Rattle.std.specs.Prelude.{ℕ, ◌+◌, ◌≡◌, ◌↔◌, ℤ, IsTrue, Some}
use Rattle.ft_base.specs.Interval.{IsWithin}
use Rattle.ft_core.specs.declared.tables.Tables.{Tables}
use Rattle.ft_core.specs.declared.tables.Memory.{Memory}
use Rattle.ft_core.specs.declared.tables.Section.{Section}
use Rattle.ft_core.specs.declared.term.Term.{Term}
use Rattle.ft_core.specs.declared.term.Cond.{Cond}
use Rattle.ft_core.specs.meaning.Grids.{Cell}
use Rattle.ft_mean.specs.laws.Moves.{moves, span_of}
use Rattle.ft_mean.specs.meaning.Cells.{cell_holds, defined}
use Rattle.ft_mean.specs.meaning.Proper.{IsLinked}
use Rattle.ft_mean.specs.meaning.Value.{value, truth}
use Rattle.ft_claims.specs.meaning.Claims.{sym_value, claim_true}
use Rattle.ft_claims.specs.meaning.Coverage.{cover_frame}
use Rattle.ft_claims.specs.meaning.Names.{Frame, memo, sym_of, claim_of, view}
use Rattle.ft_claims.specs.meaning.Parts.{cell_claim, definition, move_of, link_of}

-- a term has the value that it has at the view
abbrev pub TermsSay : Type 0
TermsSay = (S : Tables) (frame : Frame) (σ : ℕ → ℤ) (e : Term) → sym_value σ (sym_of S frame e) ≡ value (view S frame σ) e

-- a condition has the truth that it has there
abbrev pub ConditionsSay : Type 0
ConditionsSay = (S : Tables) (frame : Frame) (σ : ℕ → ℤ) (c : Cond) → claim_true σ (claim_of S frame c) ≡ truth (view S frame σ) c

-- a cell's claim says that the cell holds there
abbrev pub CellsSay : Type 0
CellsSay = (S : Tables) (frame : Frame) (σ : ℕ → ℤ) (cell : Cell) → claim_true σ (cell_claim S frame cell)
    ≡ cell_holds (view S frame σ) cell

-- the definition of a variable says that it has the value of some cell that holds there
abbrev pub DefinitionsSay : Type 0
DefinitionsSay = (S : Tables) (frame : Frame) (σ : ℕ → ℤ) (section : Section) (x : ℕ)
    → claim_true σ (definition S section frame x) ≡ defined S section (view S frame σ) x (σ (frame.this + x))

-- the move of a memory says that it goes from the number before to the number now
abbrev pub MovesSay : Type 0
MovesSay = (S : Tables) (frame : Frame) (σ : ℕ → ℤ) (m : ℕ) (memory : Memory)
    → IsWithin (span_of memory) (σ (memo S frame.prior m)) → IsWithin (span_of memory) (σ (memo S frame.this m))
    → claim_true σ (move_of S frame m (Some memory))
    ≡ moves S frame.anew (view S frame σ) memory (σ (memo S frame.prior m)) (σ (memo S frame.this m))

-- the link of a memory that is a bit says that it is linked to what it remembers
abbrev pub LinksSay : Type 0
LinksSay = (S : Tables) (σ : ℕ → ℤ) (m : ℕ) (memory : Memory)
    → IsTrue (claim_true σ (link_of S (cover_frame S) m (Some memory))) ↔ IsLinked (view S (cover_frame S) σ) m memory
