-- What is claimed of the cells of a table, row by row.
use Rattle.std.specs.Prelude.{ℕ, ℤ, ◌+◌, ◌==◌, Bool, true, List, [], ◌∷◌, map, filter, Option, Some, None, slice_get, if◌then◌else◌}
use Rattle.std.specs.List.{flat_map, zip}
use Rattle.std.specs.Option.{option_map}
use Rattle.ft_core.specs.declared.tables.Tables.{Tables}
use Rattle.ft_core.specs.declared.tables.Grid.{Grid}
use Rattle.ft_core.specs.declared.tables.Grid.TheVariants.{Normal, Inverted, Vector}
use Rattle.ft_core.specs.declared.term.Term.{Term}
use Rattle.ft_core.specs.declared.term.Cond.{Cond}
use Rattle.ft_core.specs.meaning.Grids.{Cell}
use Rattle.ft_claims.specs.declared.claim.Claim.{Claim}
use Rattle.ft_claims.specs.declared.claim.Claim.TheVariants as claim
use Rattle.ft_claims.specs.declared.claim.Sym.TheVariants.{Num, Slot}
use Rattle.ft_claims.specs.meaning.Claims.{equal}
use Rattle.ft_claims.specs.meaning.Names.{Frame, sym_of, claim_of}
use Rattle.ft_claims.specs.meaning.Parts.{cell_claim}
use Rattle.ft_oblige.specs.declared.stating.About.{About}
use Rattle.ft_oblige.specs.declared.stating.About.TheVariants.{Holds, Outside, Defines}

-- that two conditions hold
abbrev pub pair_claim : Tables → Frame → (row column : Cond) → Claim
pair_claim S frame row column = claim.And (claim_of S frame row ∷ claim_of S frame column ∷ [])

-- that a term is out of a range
abbrev pub out_of : Tables → Frame → ℤ × ℤ → Term → Claim
out_of S frame range e = claim.Or (claim.Lt (sym_of S frame e) (Num range.0) ∷ claim.Not (claim.Le (sym_of S frame e) (Num range.1)) ∷ [])

-- that a condition holds and a term is out of a range, where there is one
abbrev pub beyond : Tables → Frame → Option (ℤ × ℤ) → Claim → Term → Claim
beyond S frame None condition e = claim.Or []
beyond S frame (Some range) condition e = claim.And (condition ∷ out_of S frame range e ∷ [])

-- that a condition holds and a variable has the value of a term
abbrev pub has_value : Tables → Frame → ℕ → Claim → Term → Claim
has_value S frame x condition e = claim.And (condition ∷ equal (Slot (frame.this + x)) (sym_of S frame e) ∷ [])

-- whether the cells for a variable count
abbrev pub wanted : About → (target : ℕ) → Bool
wanted Holds target = true
wanted Outside target = true
wanted (Defines x) target = target == x

-- what is claimed of a cell for this variable, with this condition and this term
abbrev pub said : Tables → Frame → About → (target : ℕ) → Claim → Term → Claim
said S frame Holds target condition e = condition
said S frame Outside target condition e = beyond S frame (option_map (λ v. v.range) (slice_get S.vars target)) condition e
said S frame (Defines x) target condition e = has_value S frame x condition e

-- the same of a cell
abbrev pub stated : Tables → Frame → About → Cell → Claim
stated S frame about cell = said S frame about cell.target (cell_claim S frame cell) cell.term

-- of those cells that count
abbrev pub stated_all : Tables → Frame → About → List Cell → List Claim
stated_all S frame about cs = map (stated S frame about) (filter (λ cell. wanted about cell.target) cs)

-- of a cell with the condition of its row and one of its own, and of one with a condition alone
abbrev pub headed_one : Tables → Frame → About → (target : ℕ) → Cond → Cond × Term → Claim
headed_one S frame about target row c = said S frame about target (pair_claim S frame row c.0) c.1

abbrev pub plain_one : Tables → Frame → About → (target : ℕ) → Cond × Term → Claim
plain_one S frame about target c = said S frame about target (claim_of S frame c.0) c.1

-- of a row whose cells have its condition and one of their own
abbrev pub headed : Tables → Frame → About → (target : ℕ) → Cond → List Cond → List Term → List Claim
headed S frame about target row conds terms = map (headed_one S frame about target row) (zip conds terms)

-- of a row whose cells have the conditions of their columns alone
abbrev pub plain : Tables → Frame → About → (target : ℕ) → List Cond → List Term → List Claim
plain S frame about target conds terms = map (plain_one S frame about target) (zip conds terms)

abbrev pub if_wanted : About → (target : ℕ) → List Claim → List Claim
if_wanted about target claims = if wanted about target then claims else []

-- of a row of a table of each kind
abbrev pub normal_row : Tables → Frame → About → (target : ℕ) → (columns : List Cond) → Cond × List Term → List Claim
normal_row S frame about target columns r = headed S frame about target r.0 columns r.1

abbrev pub inverted_row : Tables → Frame → About → (target : ℕ) → List Term → Cond × List Cond → List Claim
inverted_row S frame about target terms r = headed S frame about target r.0 r.1 terms

abbrev pub vector_row : Tables → Frame → About → (columns : List Cond) → ℕ × List Term → List Claim
vector_row S frame about columns r = if_wanted about r.0 (plain S frame about r.0 columns r.1)

abbrev pub normal_rows : Tables → Frame → About → (target : ℕ) → (columns rows : List Cond) → List (List Term) → List Claim
normal_rows S frame about target columns rows terms = flat_map (normal_row S frame about target columns) (zip rows terms)

abbrev pub inverted_rows : Tables → Frame → About → (target : ℕ) → List Term → List Cond → List (List Cond) → List Claim
inverted_rows S frame about target terms rows grid = flat_map (inverted_row S frame about target terms) (zip rows grid)

abbrev pub vector_rows : Tables → Frame → About → List Cond → (targets : List ℕ) → List (List Term) → List Claim
vector_rows S frame about columns targets terms = flat_map (vector_row S frame about columns) (zip targets terms)

-- row by row
abbrev pub grid_claims : Tables → Frame → About → Grid → List Claim
grid_claims S frame about (Normal target columns rows terms) = if_wanted about target (normal_rows S frame about target columns rows terms)
grid_claims S frame about (Inverted target terms rows grid) = if_wanted about target (inverted_rows S frame about target terms rows grid)
grid_claims S frame about (Vector columns targets terms) = vector_rows S frame about columns targets terms
