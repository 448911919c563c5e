-- The formulas of lists of scans: what the environment allows, and where the design and the requirement differ at the last scan.
use Rattle.std.specs.Prelude.{ℕ, zero, suc, ◌-◌, ◌*◌, Bool, true, false, List, [], ◌∷◌, ◌++◌, map, filter, length, slice_get, if◌then◌else◌}
use Rattle.std.specs.List.{range_with_len}
use Rattle.ft_core.specs.declared.tables.Tables.{Tables}
use Rattle.ft_core.specs.declared.tables.Section.{Section}
use Rattle.ft_core.specs.declared.tables.Section.TheVariants as section
use Rattle.ft_core.specs.declared.term.Cond.{Cond}
use Rattle.ft_core.specs.meaning.Kinds.{defined_kinds, is_of}
use Rattle.ft_mean.specs.meaning.Reading.{scan_before}
use Rattle.ft_claims.specs.declared.claim.Claim.{Claim}
use Rattle.ft_claims.specs.declared.claim.Claim.TheVariants.{Not, Or}
use Rattle.ft_claims.specs.meaning.Areas.{Spans, Obliged, finished}
use Rattle.ft_claims.specs.meaning.Names.{Frame, width, claim_of}
use Rattle.ft_claims.specs.meaning.Parts.{definition, move_of}
use Rattle.ft_oblige.specs.meaning.States.{scan_spans}

-- what there is for each of the first n scans, one scan after the other
abbrev pub by_scan : {A : Type 0} → (ℕ → List A) → ℕ → List A
by_scan f zero = []
by_scan f (suc n) = by_scan f n ++ f n

-- whether scan t of a list begins: the first one alone, whatever the list
abbrev pub is_first : ℕ → Bool
is_first zero = true
is_first (suc t) = false

-- the names of scan t: after those of all scans before it
abbrev pub list_frame : Tables → ℕ → Frame
list_frame S t = record { this = t * width S; prior = scan_before t * width S; anew = is_first t; bits = false }

-- the spans of the names of n scans, scan by scan
abbrev pub list_spans : Tables → ℕ → Spans
list_spans S = by_scan (λ t. scan_spans S)

-- these clauses at scan t
abbrev pub clauses_at : Tables → ℕ → List Cond → List Claim
clauses_at S t conds = map (claim_of S (list_frame S t)) conds

-- the environment's clauses at scan t, in the order in which a block's formula has them
abbrev pub nat_claims : Tables → ℕ → List Claim
nat_claims S t = if is_first t then clauses_at S t S.first ++ clauses_at S t S.always else clauses_at S t S.always ++ clauses_at S t S.step

-- the parts of the formula of an allowed list of n scans
abbrev pub list_parts : Tables → (n : ℕ) → List Claim
list_parts S = by_scan (nat_claims S)

-- the places of the variables that a section defines, in order of declaration
abbrev pub defined_places : Tables → Section → List ℕ
defined_places S section = filter (is_of S.vars (defined_kinds section)) (range_with_len 0 (length S.vars))

-- the definitions of a section at scan t
abbrev pub definitions_at : Tables → Section → ℕ → List Claim
definitions_at S section t = map (definition S section (list_frame S t)) (defined_places S section)

-- the moves of all memories at scan t
abbrev pub moves_at : Tables → ℕ → List Claim
moves_at S t = map (λ m. move_of S (list_frame S t) m (slice_get S.memories m)) (range_with_len 0 (length S.memories))

-- both sides at scan t
abbrev pub sides_at : Tables → ℕ → List Claim
sides_at S t = definitions_at S section.Req t ++ definitions_at S section.Sof t ++ definitions_at S section.In t ++ moves_at S t

-- OUT does not give some controlled variable its value at scan t
abbrev pub differs_at : Tables → ℕ → Claim
differs_at S t = Or (map (λ x. Not (definition S section.Out (list_frame S t) x)) (defined_places S section.Out))

-- the parts of the formula of a difference at the last of n scans
abbrev pub difference_parts : Tables → (n : ℕ) → List Claim
difference_parts S n =
    differs_at S (n - 1) ∷ by_scan (definitions_at S section.Out) (n - 1) ++ by_scan (sides_at S) n ++ list_parts S n

-- the formula of an allowed list of n scans
abbrev pub list_obliged : Tables → (n : ℕ) → Obliged
list_obliged S n = finished (list_spans S n) (list_parts S n)

-- and of a difference at the last of n scans
abbrev pub difference_obliged : Tables → (n : ℕ) → Obliged
difference_obliged S n = finished (list_spans S n) (difference_parts S n)
