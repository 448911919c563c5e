-- The parts of the formulas of blocks.
use Rattle.std.specs.Prelude.{ℕ, ◌≡◌, Bool, true, false, List, [], ◌∷◌, ◌++◌, map, filter, length, Option, Some, None}
use Rattle.std.specs.Prelude.{slice_get, if◌then◌else◌}
use Rattle.std.specs.List.{flat_map, range_with_len}
use Rattle.ft_core.specs.declared.tables.Tables.{Tables}
use Rattle.ft_core.specs.declared.tables.Block.{Block}
use Rattle.ft_core.specs.declared.tables.Fact.{Fact}
use Rattle.ft_core.specs.declared.tables.Fact.TheVariants.{Invariant, Goal}
use Rattle.ft_core.specs.declared.tables.Take.{Take}
use Rattle.ft_core.specs.declared.tables.Take.TheVariants as take
use Rattle.ft_core.specs.declared.tables.Section.{Section}
use Rattle.ft_core.specs.declared.tables.Section.TheVariants as section
use Rattle.ft_core.specs.declared.term.Cond.{Cond}
use Rattle.ft_core.specs.meaning.Kinds.{inputs, requirement, is_of}
use Rattle.ft_claims.specs.declared.claim.Claim.{Claim}
use Rattle.ft_claims.specs.declared.claim.Claim.TheVariants.{Not, And}
use Rattle.ft_claims.specs.meaning.Names.{Frame, width, claim_of}
use Rattle.ft_claims.specs.meaning.Parts.{definition, move_of}
use Rattle.ft_oblige.specs.meaning.Linked.{marked}

-- a fact of a block, by their places
pub record IsFactAt (S : Tables) (b f : ℕ) (block : Block) (fact : Fact) : Type 0 where
  pub in_set : slice_get S.blocks b ≡ Some block
  pub in_block : slice_get block.facts f ≡ Some fact

-- this scan, which begins or follows the scan before
abbrev pub now_frame : Tables → (anew : Bool) → Frame
now_frame S anew = record { this = 0; prior = width S; anew = anew; bits = false }

-- the scan before, of which nothing that is read there sees one more scan before
abbrev pub past_frame : Tables → Frame
past_frame S = record { this = width S; prior = width S; anew = true; bits = false }

-- an invariant is its condition, and a goal that the OUT table gives the controlled variable its value
abbrev pub fact_claim : Tables → Frame → Fact → Claim
fact_claim S frame (Invariant name c) = claim_of S frame c
fact_claim S frame (Goal x) = definition S section.Out frame x

-- the fact at these places of a block and of a fact in it
abbrev pub fact_of : Tables → ℕ × ℕ → Option Fact
fact_of S at = elim (slice_get S.blocks at.0) [ None ↦ None | Some block ↦ slice_get block.facts at.1 ]

abbrev pub found_claim : Tables → Frame → Option Fact → Claim
found_claim S frame None = And []
found_claim S frame (Some fact) = fact_claim S frame fact

abbrev pub use_claim : Tables → Frame → ℕ × ℕ → Claim
use_claim S frame at = found_claim S frame (fact_of S at)

-- the section of the side whose table defines a variable
abbrev pub own_section : Tables → ℕ → Section
own_section S x = if is_of S.vars requirement x then section.Req else section.Sof

-- a variable has the value of its REQ or SOF table, or a memory makes its move
abbrev pub take_claim : Tables → Frame → Take → Claim
take_claim S frame (take.Variable x) = definition S (own_section S x) frame x
take_claim S frame (take.Memory m) = move_of S frame m (slice_get S.memories m)

-- the fact is false, and what the block takes and uses is true
abbrev pub own : Tables → (anew : Bool) → Block → Fact → List Claim
own S anew block fact =
    Not (fact_claim S (now_frame S anew) fact) ∷ map (take_claim S (now_frame S anew)) block.takes
    ++ map (use_claim S (now_frame S anew)) block.uses

abbrev pub invariant_of : Fact → List Cond
invariant_of (Invariant name c) = c ∷ []
invariant_of (Goal x) = []

-- every invariant of the set
abbrev pub invariants : Tables → List Cond
invariants S = flat_map (λ block. flat_map invariant_of block.facts) S.blocks

abbrev pub input_places : Tables → List ℕ
input_places S = filter (is_of S.vars inputs) (range_with_len 0 (length S.vars))

-- what else is known of a scan that begins: the IN tables, and what the environment keeps there
abbrev pub first_others : Tables → List Claim
first_others S =
    map (definition S section.In (now_frame S true)) (input_places S)
    ++ map (claim_of S (now_frame S true)) S.first
    ++ map (claim_of S (now_frame S true)) S.always

-- and of any other scan, with the scan before it
abbrev pub later_others : Tables → List Claim
later_others S =
    map (claim_of S (past_frame S)) (invariants S)
    ++ map (definition S section.In (now_frame S false)) (input_places S)
    ++ map (definition S section.In (past_frame S)) (input_places S)
    ++ map (claim_of S (now_frame S false)) S.always
    ++ map (claim_of S (past_frame S)) S.always
    ++ map (claim_of S (now_frame S false)) S.step

abbrev pub others : Tables → (anew : Bool) → List Claim
others S anew = if anew then first_others S else later_others S

-- the parts of the formula of a fact, with those of the others that are marked
abbrev pub block_parts : Tables → (anew : Bool) → Block → Fact → List Bool → List Claim
block_parts S anew block fact marks = own S anew block fact ++ marked marks (others S anew)
