-- The parts of formulas: tables, moves of memories, links of memories.
use Rattle.std.specs.Prelude.{ℕ, ◌+◌, pos, negsuc, List, [], ◌∷◌, map, Option, Some, None, if◌then◌else◌}
use Rattle.ft_core.specs.declared.tables.Tables.{Tables}
use Rattle.ft_core.specs.declared.tables.Memory as tables
use Rattle.ft_core.specs.declared.tables.Memory.TheVariants.{Held, Hyst}
use Rattle.ft_core.specs.declared.tables.Section.{Section}
use Rattle.ft_core.specs.meaning.Grids.{Cell}
use Rattle.ft_mean.specs.meaning.Cells.{cells_of}
use Rattle.ft_claims.specs.declared.claim.Sym.{Sym}
use Rattle.ft_claims.specs.declared.claim.Sym.TheVariants.{Num, Slot, Add}
use Rattle.ft_claims.specs.declared.claim.Claim.{Claim}
use Rattle.ft_claims.specs.declared.claim.Claim.TheVariants.{Le, Lt, Not, And, Or}
use Rattle.ft_claims.specs.meaning.Claims.{equal}
use Rattle.ft_claims.specs.meaning.Names.{Frame, memo, sym_of, claim_of}

-- all of these; one alone is itself
abbrev pub joined : List Claim → Claim
joined [] = And []
joined (c ∷ []) = c
joined (c ∷ d ∷ cs) = And (c ∷ d ∷ cs)

abbrev pub cell_claim : Tables → Frame → Cell → Claim
cell_claim S frame cell = joined (map (claim_of S frame) cell.conds)

-- some cell for variable x holds, and x has the value of its term
abbrev pub definition : Tables → Section → Frame → ℕ → Claim
definition S section frame x =
    Or (map (λ cell. And (cell_claim S frame cell ∷ equal (Slot (frame.this + x)) (sym_of S frame cell.term) ∷ [])) (cells_of S section x))

-- the milliseconds since the scan before
abbrev pub elapsed_sym : Tables → Frame → Sym
elapsed_sym S frame = Num S.period

abbrev pub held_begins : (condition : Claim) → (age : Sym) → Claim
held_begins c a = Or (And (Not c ∷ equal a (Num (negsuc 0)) ∷ []) ∷ And (c ∷ equal a (Num (pos 0)) ∷ []) ∷ [])

abbrev pub held_goes_on : (elapsed hold : Sym) → (condition : Claim) → (before age : Sym) → Claim
held_goes_on p d c before a = Or (
    And (Not c ∷ equal a (Num (negsuc 0)) ∷ [])
    ∷ And (c ∷ equal before (Num (negsuc 0)) ∷ equal a (Num (pos 0)) ∷ [])
    ∷ And (c ∷ Not (Lt before (Num (pos 0))) ∷ Le (Add before p) d ∷ equal a (Add before p) ∷ [])
    ∷ And (c ∷ Not (Lt before (Num (pos 0))) ∷ Not (Le (Add before p) d) ∷ equal a d ∷ [])
    ∷ [])

abbrev pub hyst_goes_on : (lo hi term before bit : Sym) → Claim
hyst_goes_on lo hi e before l = Or (
    And (Not (Lt e hi) ∷ equal l (Num (pos 1)) ∷ [])
    ∷ And (Lt e hi ∷ Le e lo ∷ Not (equal l (Num (pos 1))) ∷ [])
    ∷ And (Lt e hi ∷ Not (Le e lo) ∷ equal l before ∷ [])
    ∷ [])

-- the move of a memory from the number before to the number now
abbrev pub move_of : Tables → Frame → ℕ → Option tables.Memory → Claim
move_of S frame m None = And []
move_of S frame m (Some (Held name side c hold)) =
    if frame.anew then held_begins (claim_of S frame c) (Slot (memo S frame.this m))
    else held_goes_on (elapsed_sym S frame) (Num hold) (claim_of S frame c) (Slot (memo S frame.prior m)) (Slot (memo S frame.this m))
move_of S frame m (Some (Hyst name side e lo hi start)) =
    hyst_goes_on (Num lo) (Num hi) (sym_of S frame e)
    (if frame.anew then Num (if start then pos 1 else pos 0) else Slot (memo S frame.prior m)) (Slot (memo S frame.this m))

-- the link of a memory that is a bit to what it remembers
abbrev pub link_of : Tables → Frame → ℕ → Option tables.Memory → Claim
link_of S frame m None = And []
link_of S frame m (Some (Held name side c hold)) = Or (Not (equal (Slot (memo S frame.this m)) (Num (pos 1))) ∷ claim_of S frame c ∷ [])
link_of S frame m (Some (Hyst name side e lo hi start)) = And (
    Or (Lt (sym_of S frame e) (Num hi) ∷ equal (Slot (memo S frame.this m)) (Num (pos 1)) ∷ [])
    ∷ Or (Not (Le (sym_of S frame e) (Num lo)) ∷ Not (equal (Slot (memo S frame.this m)) (Num (pos 1))) ∷ [])
    ∷ [])
