-- Facts that hold over any two scans by themselves hold along every allowed list.
use Rattle.std.specs.Prelude.{ℕ, ◌*◌, ◌<◌, ◌≤◌, ℤ, Bool, IsTrue, length}
use Rattle.std.specs.List.{list_all}
use Rattle.ft_core.specs.declared.tables.Tables.{Tables}
use Rattle.ft_core.specs.declared.tables.Block.{Block}
use Rattle.ft_core.specs.declared.tables.Fact.{Fact}
use Rattle.ft_mean.specs.meaning.Proper.{AllProper}
use Rattle.ft_claims.specs.meaning.Claims.{claim_true}
use Rattle.ft_claims.specs.meaning.Spans.{InSpans}
use Rattle.ft_oblige.specs.meaning.Blocks.{IsFactAt, own, others}
use Rattle.ft_oblige.specs.meaning.Obligations.{obligation_count, Closes}
use Rattle.ft_blocks.specs.meaning.Faults.{HasNoBlockFault}
use Rattle.ft_compose.specs.meaning.Decided.{AllClose}
use Rattle.ft_compose.specs.meaning.Composing.{IsBlockRank, HasGoals, Marking, NoPoints, Composed}

-- no numbers in their spans make a fact false, what its block takes and uses true, and all else true that is known of the two scans
abbrev pub NoneFails : Tables → Type 0
NoneFails S = (b f : ℕ) (block : Block) (fact : Fact) (anew : Bool) → IsFactAt S b f block fact → (σ : ℕ → ℤ) → InSpans S σ
    → IsTrue (list_all (claim_true σ) (own S anew block fact)) → IsTrue (list_all (claim_true σ) (others S anew)) → ⊥

-- where no numbers make a fact fail, the design implements the requirement
abbrev pub BlocksCompose : Type 0
BlocksCompose = (S : Tables) → AllProper S → HasGoals S → (rank : ℕ → ℕ) → IsBlockRank S rank → NoneFails S → Composed S

-- so it does where no formula of a fact has a point, whichever of the other parts stand in it
abbrev pub ShownBlocksCompose : Type 0
ShownBlocksCompose = (S : Tables) → AllProper S → HasGoals S → (rank : ℕ → ℕ) → IsBlockRank S rank → (marks : Marking) → NoPoints S marks
    → Composed S

-- and where no obligation of a fact has one
abbrev pub ClosedBlocksCompose : Type 0
ClosedBlocksCompose = (S : Tables) → AllProper S → HasGoals S → (rank : ℕ → ℕ) → IsBlockRank S rank
    → ((n : ℕ) → 3 * length S.tables < n → n ≤ obligation_count S → Closes S n) → Composed S

-- where every table is proper, the blocks have no fault, and no obligation has a point
abbrev pub FaultlessCompose : Type 0
FaultlessCompose = (S : Tables) → AllProper S → HasNoBlockFault S.vars S.blocks → AllClose S → Composed S
