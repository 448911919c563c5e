-- The states at which the diagram of a block fails, and the cells of a table that a state tells.
use Rattle.std.specs.Prelude.{ℕ, ◌≡◌, ◌<◌, ℤ, Bool, IsTrue, IsFalse, [], ◌∷◌, map, List, length, Some, slice_get}
use Rattle.std.specs.List.{list_all}
use Rattle.ft_core.specs.declared.tables.Tables.{Tables}
use Rattle.ft_core.specs.declared.tables.Block.{Block}
use Rattle.ft_core.specs.declared.tables.Fact.{Fact}
use Rattle.ft_core.specs.meaning.Grids.{Cell}
use Rattle.ft_claims.specs.declared.claim.Claim.{Claim}
use Rattle.ft_claims.specs.meaning.Areas.{is_used}
use Rattle.ft_claims.specs.meaning.Claims.{claim_true}
use Rattle.ft_claims.specs.meaning.Parts.{cell_claim}
use Rattle.ft_oblige.specs.meaning.Blocks.{now_frame, fact_claim, take_claim, use_claim, own, others}
use Rattle.ft_oblige.specs.meaning.Linked.{IsLinked}
use Rattle.ft_oblige.specs.meaning.States.{slot_spans}

-- which of the other parts belong to the formula of a fact, by their places
abbrev pub Belongs : Tables → (anew : Bool) → Block → Fact → ℕ → Type 0
Belongs S anew block fact = IsLinked (length (slot_spans S)) (own S anew block fact) (others S anew)

-- inside the invariants, where what the block takes, what it uses and each other part that belongs is true, the fact is false
pub record FailsAt (S : Tables) (anew : Bool) (block : Block) (fact : Fact) (σ : ℕ → ℤ) : Type 0 where
  pub taken : IsTrue (list_all (claim_true σ) (map (take_claim S (now_frame S anew)) block.takes))
  pub used : IsTrue (list_all (claim_true σ) (map (use_claim S (now_frame S anew)) block.uses))
  pub linked : (k : ℕ) (c : Claim) → slice_get (others S anew) k ≡ Some c → Belongs S anew block fact k → IsTrue (claim_true σ c)
  pub fails : IsFalse (claim_true σ (fact_claim S (now_frame S anew) fact))

-- the formula of these parts has each name that the cell's own has
abbrev pub IsTold : Tables → (anew : Bool) → List Claim → Cell → Type 0
IsTold S anew parts cell = (u : ℕ) → u < length (slot_spans S)
    → IsTrue (is_used (length (slot_spans S)) (cell_claim S (now_frame S anew) cell ∷ []) u)
    → IsTrue (is_used (length (slot_spans S)) parts u)
