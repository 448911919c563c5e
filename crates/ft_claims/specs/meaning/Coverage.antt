-- The parts of the formulas of coverage.
use Rattle.std.specs.Prelude.{ℕ, true, false, List, [], ◌∷◌, ◌++◌, map, Option, Some, None, slice_get}
use Rattle.std.specs.List.{zip}
use Rattle.ft_core.specs.declared.tables.Tables.{Tables}
use Rattle.ft_core.specs.declared.tables.Var.{Var}
use Rattle.ft_core.specs.declared.tables.Grid.{Grid}
use Rattle.ft_core.specs.declared.tables.Grid.TheVariants.{Normal, Inverted, Vector}
use Rattle.ft_core.specs.declared.term.Cond.{Cond}
use Rattle.ft_core.specs.meaning.Grids.{Cell, cells}
use Rattle.ft_claims.specs.declared.claim.Claim.{Claim}
use Rattle.ft_claims.specs.declared.claim.Claim.TheVariants.{Le, Lt, Not, And, Or}
use Rattle.ft_claims.specs.declared.claim.Sym.TheVariants.{Num}
use Rattle.ft_claims.specs.meaning.Names.{Frame, width, sym_of, claim_of}
use Rattle.ft_claims.specs.meaning.Parts.{cell_claim, link_of}

-- two of these, at least
abbrev pub pairs : List Claim → List Claim
pairs [] = []
pairs (c ∷ cs) = map (λ d. And (c ∷ d ∷ [])) cs ++ pairs cs

abbrev pub two : List Claim → Claim
two cs = Or (pairs cs)

-- a scan after the scan before, where every memory is a bit
abbrev pub cover_frame : Tables → Frame
cover_frame S = record { this = 0; prior = width S; anew = false; bits = true }

abbrev pub claims_of : Tables → Frame → List Cond → List Claim
claims_of S frame conds = map (claim_of S frame) conds

-- no cell holds; in a vector table the cells of one row stand for those of all
abbrev pub gap_node : Tables → Frame → Grid → Claim
gap_node S frame (Vector columns targets terms) = Not (Or (claims_of S frame columns))
gap_node S frame grid = Not (Or (map (cell_claim S frame) (cells grid)))

abbrev pub row_some : Tables → Frame → Cond × List Cond → Claim
row_some S frame r = And (claim_of S frame r.0 ∷ Or (claims_of S frame r.1) ∷ [])

abbrev pub row_two : Tables → Frame → Cond × List Cond → Claim
row_two S frame r = And (claim_of S frame r.0 ∷ two (claims_of S frame r.1) ∷ [])

-- two cells hold
abbrev pub overlap_node : Tables → Frame → Grid → Claim
overlap_node S frame (Normal target columns rows terms) =
    Or (And (two (claims_of S frame rows) ∷ Or (claims_of S frame columns) ∷ [])
    ∷ And (Or (claims_of S frame rows) ∷ two (claims_of S frame columns) ∷ []) ∷ [])
overlap_node S frame (Inverted target terms rows grid) =
    Or (two (map (row_some S frame) (zip rows grid)) ∷ Or (map (row_two S frame) (zip rows grid)) ∷ [])
overlap_node S frame (Vector columns targets terms) = two (claims_of S frame columns)

-- a cell holds whose term is out of the range of its variable
abbrev pub outside : Tables → Frame → Option Var → Cell → Claim
outside S frame None cell = Or []
outside S frame (Some v) cell =
    And (cell_claim S frame cell ∷ Or (Lt (sym_of S frame cell.term) (Num v.range.0) ∷ Not (Le (sym_of S frame cell.term) (Num v.range.1))
    ∷ []) ∷ [])

abbrev pub range_node : Tables → Frame → List Cell → Claim
range_node S frame cs = Or (map (λ cell. outside S frame (slice_get S.vars cell.target) cell) cs)

-- the links of these memories
abbrev pub links : Tables → Frame → List ℕ → List Claim
links S frame ms = map (λ m. link_of S frame m (slice_get S.memories m)) ms

-- what a table must not show: that no cell holds, that two do, that one gives a value out of range
pub data Fault : Type 0 where
  gap : Fault
  overlap : Fault
  range : Fault

-- what is claimed of a table for each of them
abbrev pub fault_node : Tables → Frame → Fault → Grid → Claim
fault_node S frame gap grid = gap_node S frame grid
fault_node S frame overlap grid = overlap_node S frame grid
fault_node S frame range grid = range_node S frame (cells grid)

-- with the links of these memories, in this order
abbrev pub cover_parts : Tables → Fault → Grid → List ℕ → List Claim
cover_parts S fault grid ms = fault_node S (cover_frame S) fault grid ∷ links S (cover_frame S) ms
