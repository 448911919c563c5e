-- What is learned of one obligation of a fact, and the conditions of a cell by its place.
use Rattle.std.specs.Prelude.{ℕ, ◌+◌, ◌-◌, ◌*◌, ◌≡◌, ◌<◌, ◌≤◌, ◌==◌, Bool, false, List, [], ◌∷◌, map, length, Option, Some, None, slice_get}
use Rattle.std.specs.Prelude.{if◌then◌else◌}
use Rattle.std.specs.List.{list_all}
use Rattle.ft_core.specs.declared.tables.Tables.{Tables}
use Rattle.ft_core.specs.declared.tables.Var.{Var}
use Rattle.ft_core.specs.declared.tables.Fact.{Fact}
use Rattle.ft_core.specs.declared.tables.Fact.TheVariants.{Invariant, Goal}
use Rattle.ft_core.specs.declared.tables.Section.TheVariants as section
use Rattle.ft_core.specs.declared.tables.Grid.{Grid}
use Rattle.ft_core.specs.declared.tables.Grid.TheVariants.{Normal, Inverted, Vector}
use Rattle.ft_core.specs.declared.term.Cond.{Cond}
use Rattle.ft_core.specs.meaning.Kinds.{controlled}
use Rattle.ft_cert.specs.meaning.Tree.{Tree}
use Rattle.ft_mean.specs.meaning.Reading.{IsVar}
use Rattle.ft_mean.specs.meaning.Value.{View}
use Rattle.ft_claims.specs.declared.claim.Claim.{Claim}
use Rattle.ft_claims.specs.laws.FormulaLaws.{AreGood}
use Rattle.ft_claims.specs.meaning.Areas.{Spans, is_one_of}
use Rattle.ft_claims.specs.meaning.Names.{Frame, claim_of}
use Rattle.ft_claims.specs.meaning.Parts.{joined}
use Rattle.ft_oblige.specs.declared.made.Obligation.{Obligation}
use Rattle.ft_oblige.specs.meaning.Linked.{names_in}
use Rattle.ft_oblige.specs.meaning.Obligations.{block_obliged}
use Rattle.ft_cover.specs.meaning.Attempted.{IsClosedAt}
use Rattle.ft_compose.specs.declared.blocks.Blocks.{Blocks}
use Rattle.ft_compose.specs.declared.deciding.Attempt.{Attempt}
use Rattle.ft_compose.specs.declared.deciding.Attempt.TheVariants.{Closed, Stopped}
use Rattle.ft_compose.specs.declared.blocks.Cells.{Cells}
use Rattle.ft_compose.specs.meaning.Decided.{first_seen, AreFactCerts, IsStop, IsBlocks}
use Rattle.ft_compose.specs.meaning.FactForms.{IsFactForm}

-- the obligation of a fact with the names that its slots stand for
pub record IsFormed (S : Tables) (b f : ℕ) (anew : Bool) (o : Obligation) (names : List ℕ) : Type 0 where
  pub form : IsFactForm S b f anew o
  pub names_are : names ≡ (block_obliged S anew form.block form.fact form.marks).names

-- the variable of a goal is controlled
abbrev pub IsGoalThere : Tables → Fact → Type 0
IsGoalThere S (Invariant name c) = Unit {0}
IsGoalThere S (Goal x) = (v : Var) × IsVar S controlled x v

-- an invariant has no cells, and a goal the first of each of its two tables at a view
abbrev pub AreCellsBy : Tables → (anew : Bool) → List ℕ → View → Fact → Cells → Type 0
AreCellsBy S anew names V (Invariant name c) cells = (cells.req ≡ None) × (cells.out ≡ None)
AreCellsBy S anew names V (Goal x) cells = (first_seen S section.Req x anew names V ≡ cells.req)
    × (first_seen S section.Out x anew names V ≡ cells.out)

abbrev pub IsAttempt : Tables → ℕ → Attempt → Type 0
IsAttempt S n (Closed cert) = IsClosedAt S n cert
IsAttempt S n (Stopped blocks) = IsStop S n blocks

-- the obligations of facts up to the n-th are closed
pub record AreFactsClosed (S : Tables) (keep : Bool) (n : ℕ) (certs : List Tree) : Type 0 where
  pub each : (k : ℕ) → 3 * length S.tables < k → k ≤ n → (cert : Tree) × IsClosedAt S k cert
  pub kept : AreFactCerts S keep n certs

-- after one more obligation: it is closed too, or it is the answer
abbrev pub IsStep : Tables → (keep : Bool) → ℕ → List Tree → Option Blocks → Type 0
IsStep S keep n certs None = AreFactsClosed S keep n certs
IsStep S keep n certs (Some blocks) = IsBlocks S keep blocks

-- the place of the table of a variable, where one stands there
abbrev pub home_in : List (Option ℕ) → ℕ → Option ℕ
home_in homes x = elim (slice_get homes x) [ None ↦ None | Some home ↦ home ]

-- two conditions, where both are there
abbrev pub both_conds : Option Cond → Option Cond → Option (List Cond)
both_conds None b = None
both_conds (Some a) None = None
both_conds (Some a) (Some b) = Some (a ∷ b ∷ [])

abbrev pub one_cond : Option Cond → Option (List Cond)
one_cond None = None
one_cond (Some a) = Some (a ∷ [])

-- the condition in a row and a column
abbrev pub entry_at : List (List Cond) → (row column : ℕ) → Option Cond
entry_at grid row column = elim (slice_get grid row) [ None ↦ None | Some entries ↦ slice_get entries column ]

-- whether the variable of a row is x
abbrev pub is_target : (x : ℕ) → Option ℕ → Bool
is_target x None = false
is_target x (Some target) = target == x

-- the conditions of the cell in a row and a column, from 0, where it is for variable x
abbrev pub conds_at : (x : ℕ) → Grid → (row column : ℕ) → Option (List Cond)
conds_at x (Normal target columns rows terms) row column =
    if target == x then both_conds (slice_get rows row) (slice_get columns column) else None
conds_at x (Inverted target terms rows grid) row column =
    if target == x then both_conds (slice_get rows row) (entry_at grid row column) else None
conds_at x (Vector columns targets terms) row column =
    if is_target x (slice_get targets row) then one_cond (slice_get columns column) else None

-- that all of some conditions hold
abbrev pub claim_by : Tables → Frame → Option (List Cond) → Option Claim
claim_by S frame None = None
claim_by S frame (Some conds) = Some (joined (map (claim_of S frame) conds))

-- what is claimed of that cell
abbrev pub claim_at : Tables → Frame → (x : ℕ) → Grid → (row column : ℕ) → Option Claim
claim_at S frame x grid row column = claim_by S frame (conds_at x grid row column)

-- the names of a claim have these spans, and its divisors are positive
abbrev pub IsGoodClaim : Spans → Option Claim → Type 0
IsGoodClaim spans None = Unit {0}
IsGoodClaim spans (Some c) = AreGood spans (c ∷ [])

-- what is claimed of the cells at some places, from 1
abbrev pub AreGoodAt : Tables → Frame → Spans → (x : ℕ) → Grid → List (ℕ × ℕ) → Type 0
AreGoodAt S frame spans x grid places = (k : ℕ) (at : ℕ × ℕ) → slice_get places k ≡ Some at
    → IsGoodClaim spans (claim_at S frame x grid (at.0 - 1) (at.1 - 1))

-- each name of its own formula is one of these
abbrev pub is_told_claim : (base : ℕ) → List ℕ → Option Claim → Bool
is_told_claim base names None = false
is_told_claim base names (Some c) = list_all (is_one_of names) (names_in base c)

-- the same of the cell at a place
abbrev pub is_told_at : Tables → Frame → (base x : ℕ) → List ℕ → Grid → ℕ × ℕ → Bool
is_told_at S frame base x names grid at = is_told_claim base names (claim_at S frame x grid (at.0 - 1) (at.1 - 1))
