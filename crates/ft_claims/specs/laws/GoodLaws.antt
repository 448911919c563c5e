-- The claims of terms, conditions, tables and memories have names of the scans that they are about, and positive divisors.
use Rattle.std.specs.Prelude.{ℕ, ◌+◌, ◌<◌, ◌≤◌, ◌≡◌, IsTrue, List, length, Some, slice_get}
use Rattle.std.specs.List.{Contains, list_all}
use Rattle.ft_core.specs.declared.tables.Tables.{Tables}
use Rattle.ft_core.specs.declared.tables.Var.{Var}
use Rattle.ft_core.specs.declared.tables.Memory.{Memory}
use Rattle.ft_core.specs.declared.tables.Section.{Section}
use Rattle.ft_core.specs.declared.term.Cond.{Cond}
use Rattle.ft_core.specs.checked.Size.{is_sized}
use Rattle.ft_core.specs.meaning.Grids.{Cell}
use Rattle.ft_core.specs.meaning.Kinds.{defined_kinds}
use Rattle.ft_core.specs.meaning.Reads.{Read, at_now, at_before, of_memory, of_age, cond_reads}
use Rattle.ft_mean.specs.meaning.Cells.{cells_of}
use Rattle.ft_mean.specs.meaning.Reading.{IsVar}
use Rattle.ft_claims.specs.declared.claim.Claim.{Claim}
use Rattle.ft_claims.specs.declared.claim.Claim.TheVariants.{Not, And}
use Rattle.ft_claims.specs.meaning.Formulas.{collected}
use Rattle.ft_claims.specs.meaning.Names.{Frame, width, claim_of}
use Rattle.ft_claims.specs.meaning.Parts.{cell_claim, definition, move_of}

-- its names are below the base, and its divisors positive
abbrev pub IsGood : (base : ℕ) → Claim → Type 0
IsGood base c = IsTrue (collected base c).good

-- what stands in the set
abbrev pub IsThere : Tables → Read → Type 0
IsThere S (at_now x) = x < length S.vars
IsThere S (at_before x) = x < length S.vars
IsThere S (of_memory m) = m < length S.memories
IsThere S (of_age m) = m < length S.memories

-- the names of a frame's two scans are below the base
pub record IsBelow (S : Tables) (frame : Frame) (base : ℕ) : Type 0 where
  pub this : frame.this + width S ≤ base
  pub prior : frame.prior + width S ≤ base

-- a sized condition that reads what stands in the set
abbrev pub ConditionsGood : Type 0
ConditionsGood = (S : Tables) (frame : Frame) (base : ℕ) → IsBelow S frame base → (c : Cond)
    → ((r : Read) → Contains (cond_reads c) r → IsThere S r) → IsTrue (is_sized S.vars S.memories c) → IsGood base (claim_of S frame c)

-- what a cell of a section's table for a variable holds under
abbrev pub CellsGood : Type 0
CellsGood = (S : Tables) (frame : Frame) (base : ℕ) → IsBelow S frame base → (section : Section) (x : ℕ) (v : Var)
    → IsVar S (defined_kinds section) x v
    → (k : ℕ) (cell : Cell) → slice_get (cells_of S section x) k ≡ Some cell → IsGood base (cell_claim S frame cell)

-- the definition of a variable that the section defines
abbrev pub DefinitionsGood : Type 0
DefinitionsGood = (S : Tables) (frame : Frame) (base : ℕ) → IsBelow S frame base → (section : Section) (x : ℕ) (v : Var)
    → IsVar S (defined_kinds section) x v → IsGood base (definition S section frame x)

-- the move of a memory
abbrev pub MovesGood : Type 0
MovesGood = (S : Tables) (frame : Frame) (base : ℕ) → IsBelow S frame base → (m : ℕ) (memory : Memory)
    → slice_get S.memories m ≡ Some memory → IsGood base (move_of S frame m (Some memory))

-- the other truth of one, and several together
abbrev pub NegationsGood : Type 0
NegationsGood = (base : ℕ) (c : Claim) → IsGood base c → IsGood base (Not c)

abbrev pub ConjunctionsGood : Type 0
ConjunctionsGood = (base : ℕ) (cs : List Claim) → IsTrue (list_all (λ c. (collected base c).good) cs) → IsGood base (And cs)
