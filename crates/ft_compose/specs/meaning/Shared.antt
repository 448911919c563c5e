-- What the formulas of all facts of a set share.
use Rattle.std.specs.Prelude.{ℕ, ◌≡◌, map, length}
use Rattle.ft_core.specs.declared.tables.Tables.{Tables}
use Rattle.ft_core.specs.declared.tables.Section.TheVariants as section
use Rattle.ft_claims.specs.declared.claim.Claim.{Claim}
use Rattle.ft_oblige.specs.building.Homes.{IsHomesOf}
use Rattle.ft_oblige.specs.meaning.Blocks.{first_others, later_others}
use Rattle.ft_oblige.specs.meaning.Linked.{names_in}
use Rattle.ft_oblige.specs.meaning.States.{slot_spans}
use Rattle.ft_compose.specs.declared.definitions.Definitions.{Definitions}
use Rattle.ft_compose.specs.declared.part.Part.{Part}
use Rattle.ft_compose.specs.declared.sharing.Shared.{Shared}

-- a claim with the names of its own formula, among so many
abbrev pub part_of : (base : ℕ) → Claim → Part
part_of base c = record { claim = c; names = names_in base c }

-- the tables of each section
pub record AreDefinitions (S : Tables) (all : Definitions) : Type 0 where
  pub by_in : IsHomesOf S section.In all.of_in
  pub by_req : IsHomesOf S section.Req all.of_req
  pub by_sof : IsHomesOf S section.Sof all.of_sof
  pub by_out : IsHomesOf S section.Out all.of_out

-- the spans of two scans, the other parts of a scan that begins and of a later one, each with its names, and the tables
pub record IsShared (S : Tables) (shared : Shared) : Type 0 where
  pub spans : shared.spans ≡ slot_spans S
  pub base : shared.base ≡ length (slot_spans S)
  pub first : shared.first ≡ map (part_of shared.base) (first_others S)
  pub later : shared.later ≡ map (part_of shared.base) (later_others S)
  pub definitions : AreDefinitions S shared.definitions
