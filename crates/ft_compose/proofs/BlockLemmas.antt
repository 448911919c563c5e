-- Blocks without a fault: they have a rank, each controlled variable is a goal, and so where no obligation has a point they compose.
use Rattle.std.proofs.Common.{arith, ◌≡◌, ◌∙◌, sym, ap, subst, refl, inl, inr, ℕ, zero, suc, ◌<◌, Bool, true, false, List, []}
use Rattle.std.proofs.Common.{map, length, Option, Some, None, slice_get, slice_index_or, Contains, true≢false}
use Rattle.std.specs.List.{flat_map}
use Rattle.std.specs.Option.{option_map}
use Rattle.std.proofs.lemmas.Bool.{cases_lt}
use Rattle.std.proofs.lemmas.List.{get_or_past, length-map}
use Rattle.std.proofs.lemmas.Option.{same_Some, slice_get_within, slice_get-map, get_or_from_slice_get}
use Rattle.ft_core.specs.declared.tables.Tables.{Tables}
use Rattle.ft_core.specs.declared.tables.Block.{Block}
use Rattle.ft_core.specs.declared.tables.Fact.{Fact}
use Rattle.ft_core.specs.declared.tables.Fact.TheVariants.{Invariant, Goal}
use Rattle.ft_core.specs.checked.Blocks.{is_invariant}
use Rattle.ft_core.specs.meaning.Kinds.{controlled}
use Rattle.ft_core.specs.meaning.Order.{AreItems, HasRank}
use Rattle.ft_core.specs.laws.Lists.{mapped, from_one}
use Rattle.ft_core.specs.laws.Places.{contained, none-at, place-of, some-at}
use Rattle.ft_blocks.specs.meaning.Cycles.{block_reads}
use Rattle.ft_blocks.specs.meaning.Goals.{HaveGoals, block_goals, fact_goals}
use Rattle.ft_oblige.specs.laws.ReadsThere.{blocks_of}
use Rattle.ft_compose.specs.laws.CompositionLaws.{FaultlessCompose}
use Rattle.ft_compose.specs.laws.Laws.{Laws}
use Rattle.ft_compose.specs.meaning.Composing.{IsBlockRank, HasGoals}
use Rattle.ft_compose.proofs.Numbered.{closed_compose}
use Rattle.ft_compose.proofs.RankLemmas.{has-rank}

-- the blocks whose facts a block uses
abbrev uses_of : Block → List ℕ
uses_of block = map (λ used. used.0) block.uses

mapped-at : {A B : Type 0} (f : A → B) (xs : List A) (i : ℕ) (a : A) → slice_get xs i ≡ Some a → slice_get (map f xs) i ≡ Some (f a)
mapped-at f xs i a e = slice_get-map f xs i ∙ ap (option_map f) e

-- the rank of what blocks read is one of the blocks
pub of_blocks : (S : Tables) (rank : ℕ → ℕ) → HasRank (block_reads S.blocks) rank → IsBlockRank S rank
of_blocks S rank has b k block at there used =
    let here = mapped-at uses_of S.blocks b block there in
    has.falls b at.0 (slice_get_within (block_reads S.blocks) b (uses_of block) here)
    (subst (λ l. Contains l at.0) (sym (get_or_from_slice_get (block_reads S.blocks) b (uses_of block) [] here))
    (contained (uses_of block) k at.0 (mapped-at (λ (one : ℕ × ℕ). one.0) block.uses k at used)))

-- an invariant that is used is one of a block that is there
invariant-there : (S : Tables) (q f : ℕ) (o : Option Block) → slice_get S.blocks q ≡ o
    → elim o as (λ z. Bool) [ None ↦ false | Some block ↦ is_invariant (slice_get block.facts f) ] ≡ true → q < length S.blocks
invariant-there S q f None at is = absurd (true≢false (sym is))
invariant-there S q f (Some block) at is = slice_get_within S.blocks q block at

reads-there : (S : Tables) → AreItems (block_reads S.blocks)
reads-there S k q r = elim (cases_lt k (length (block_reads S.blocks))) [
  | inl inside ↦
      let reads = some-at (block_reads S.blocks) k inside in
      let owner = mapped uses_of S.blocks k reads.0 reads.1 in
      let read = place-of (uses_of owner.0) q (subst (λ l. Contains l q)
      (get_or_from_slice_get (block_reads S.blocks) k reads.0 [] reads.1 ∙ sym owner.2) r) in
      let used = mapped (λ (one : ℕ × ℕ). one.0) owner.0.uses read.0 q read.1 in
      let names = (blocks_of S).uses k owner.0 used.0 owner.1 (contained owner.0.uses read.0 used.0 used.1) in
      let low = invariant-there S used.0.0 used.0.1 (slice_get S.blocks used.0.0) refl names in
      let long = length-map S.blocks uses_of in
      let same = used.2 in
      omega (arith, low, long, same)
  | inr past ↦
      let none : slice_index_or (block_reads S.blocks) k [] ≡ [] = get_or_past (block_reads S.blocks) k [] past in
      let short : length (slice_index_or (block_reads S.blocks) k []) ≡ 0 = ap length none in
      let some = r.1 in
      absurd (omega (arith, short, some))
]

is-goal : (fact : Fact) (x k : ℕ) → slice_get (fact_goals fact) k ≡ Some x → fact ≡ Goal x
is-goal (Invariant name c) x k at = absurd (none-at k x at)
is-goal (Goal y) x zero at = ap Goal (same_Some y x at)
is-goal (Goal y) x (suc k) at = absurd (none-at k x at)

goals-there : (S : Tables) → HaveGoals S.vars (block_goals S.blocks) (length S.vars) → HasGoals S
goals-there S have x v is =
    let stands = have x (slice_get_within S.vars x v is.0)
    (ap (λ o. elim o as (λ z. Bool) [ None ↦ false | Some w ↦ controlled x w ]) is.0 ∙ is.1) in
    let owner = from_one (λ (block : Block). flat_map fact_goals block.facts) S.blocks x stands in
    let shown = from_one fact_goals owner.1.facts x owner.3 in
    let at = place-of (fact_goals shown.1) x shown.3 in (
      owner.0,
      shown.0,
      owner.1,
      record { in_set = owner.2; in_block = shown.2 ∙ ap Some (is-goal shown.1 x at.0 at.1) },
    )

pub faultless_compose : Laws → FaultlessCompose
faultless_compose laws S proper faultless closes =
    let rank = has-rank (block_reads S.blocks) (reads-there S) faultless.no_cycle in
    closed_compose laws S proper (goals-there S faultless.every) rank.0 (of_blocks S rank.0 rank.1)
    (λ n above below. closes n (omega (arith, above)) below)
