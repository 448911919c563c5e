-- Where no fact fails over two scans, every fact holds at every scan: by the order of the blocks inside a scan, and from scan to scan.
use Rattle.std.proofs.Common.{◌≡◌, ◌∙◌, sym, ap, subst, refl, ℕ, zero, suc, ◌<◌, Bool, true, false, not, ◌||◌, [], map, length, Option}
use Rattle.std.proofs.Common.{Some, None, slice_get, arith, ⊎_elim}
use Rattle.std.specs.List.{list_all}
use Rattle.std.proofs.lemmas.Bool.{cases_Bool, and_from}
use Rattle.std.proofs.lemmas.Option.{none-some}
use Rattle.ft_core.specs.declared.tables.Tables.{Tables}
use Rattle.ft_core.specs.declared.tables.Var.{Var}
use Rattle.ft_core.specs.declared.tables.VarKind.TheVariants as kind
use Rattle.ft_core.specs.declared.tables.Block.{Block}
use Rattle.ft_core.specs.declared.tables.Fact.{Fact}
use Rattle.ft_core.specs.declared.tables.Fact.TheVariants.{Invariant, Goal}
use Rattle.ft_core.specs.declared.tables.Side.TheVariants as side
use Rattle.ft_core.specs.meaning.Kinds.{monitored, controlled, of_kind, side_kinds}
use Rattle.ft_mean.specs.laws.Whole.{joint, IsWhole}
use Rattle.ft_mean.specs.meaning.Memory.{look}
use Rattle.ft_mean.specs.meaning.Proper.{AllProper}
use Rattle.ft_mean.specs.meaning.Reading.{Reading, begins}
use Rattle.ft_mean.specs.meaning.Refines.{Refines}
use Rattle.ft_claims.specs.declared.claim.Claim.{Claim}
use Rattle.ft_claims.specs.laws.Equations.{true-Not, true-And}
use Rattle.ft_claims.specs.meaning.Claims.{claim_true}
use Rattle.ft_oblige.specs.laws.Marked.{marked_hold}
use Rattle.ft_oblige.specs.laws.Tests.{every_image, both_lists}
use Rattle.ft_oblige.specs.meaning.Blocks.{IsFactAt, now_frame, fact_claim, take_claim, fact_of, found_claim, use_claim, own, others}
use Rattle.ft_oblige.specs.meaning.Blocks.{block_parts}
use Rattle.ft_oblige.specs.meaning.Linked.{marked}
use Rattle.ft_oblige.specs.meaning.States.{state_of, fact_true, slot_spans}
use Rattle.ft_compose.specs.laws.CompositionLaws.{NoneFails, BlocksCompose, ShownBlocksCompose}
use Rattle.ft_compose.specs.laws.Laws.{Laws}
use Rattle.ft_compose.specs.meaning.Composing.{IsBlockRank, HasGoals, InvariantsHold}
use Rattle.ft_compose.proofs.ScanLemmas.{FactsAt, within, now_fact, taken, first_true, later_true}

-- the fact at some places is one of a block that is there
fact_at : (S : Tables) (b f : ℕ) (fact : Fact) (o : Option Block) → slice_get S.blocks b ≡ o
    → elim o as (λ z. Option Fact) [ None ↦ None | Some block ↦ slice_get block.facts f ] ≡ Some fact
    → (block : Block) × IsFactAt S b f block fact
fact_at S b f fact None at is = absurd (none-some fact is)
fact_at S b f fact (Some block) at is = (block, record { in_set = at; in_block = is })

-- a controlled variable is one of the requirement's side
of_controlled : (x : ℕ) (v : Var) → controlled x v ≡ true → side_kinds side.Req x v ≡ true
of_controlled x v e = ap (λ b. monitored x v || (b || of_kind kind.ReqInner x v)) e ∙ or_true (monitored x v)
  where
    or_true : (b : Bool) → (b || true) ≡ true
    or_true true = refl
    or_true false = refl

module _ (laws : Laws) (S : Tables) (rank : ℕ → ℕ) (order : IsBlockRank S rank) (none : NoneFails S) where
  module _ (n : ℕ) (ρ : Reading) (whole : IsWhole S n ρ) where
    module _ (t : ℕ) (inside : t < n) (all_else : list_all (claim_true (state_of S ρ t)) (others S (begins S ρ t)) ≡ true) where
      abbrev p : Claim → Bool
      p = claim_true (state_of S ρ t)

      -- the facts of all blocks below a rank
      abbrev FactsBelow : ℕ → Type 0
      FactsBelow k = (b f : ℕ) (block : Block) (fact : Fact) → IsFactAt S b f block fact → rank b < k
          → fact_true S (look S ρ t) (ρ t) fact ≡ true

      used : (k : ℕ) → FactsBelow k → (at : ℕ × ℕ) → rank at.0 < k → p (use_claim S (now_frame S (begins S ρ t)) at) ≡ true
      used k facts at low = found (fact_of S at) refl
        where
          found : (o : Option Fact) → fact_of S at ≡ o → p (found_claim S (now_frame S (begins S ρ t)) o) ≡ true
          found None e = true-And (state_of S ρ t) []
          found (Some fact) e =
              let is = fact_at S at.0 at.1 fact (slice_get S.blocks at.0) refl e in
              now_fact laws S n ρ whole t inside at.0 at.1 is.0 fact is.1 ∙ facts at.0 at.1 is.0 fact is.1 low

      -- a fact whose block uses only facts that hold
      one_fact : (k : ℕ) → FactsBelow k → FactsBelow (suc k)
      one_fact k facts b f block fact is low = ⊎_elim
          (λ holds. sym same ∙ holds)
          (λ fails. absurd (none b f block fact (begins S ρ t) is (state_of S ρ t) (within laws S n ρ whole t inside) (own_true fails)
          all_else))
          (cases_Bool (p (fact_claim S (now_frame S (begins S ρ t)) fact)))
        where
          same : p (fact_claim S (now_frame S (begins S ρ t)) fact) ≡ fact_true S (look S ρ t) (ρ t) fact
          same = now_fact laws S n ρ whole t inside b f block fact is

          own_true : p (fact_claim S (now_frame S (begins S ρ t)) fact) ≡ false → list_all p (own S (begins S ρ t) block fact) ≡ true
          own_true fails = and_from _ _ (true-Not (state_of S ρ t) _ ∙ ap not fails)
              (both_lists p (map (take_claim S (now_frame S (begins S ρ t))) block.takes)
              (map (use_claim S (now_frame S (begins S ρ t))) block.uses)
              (every_image p (take_claim S (now_frame S (begins S ρ t))) block.takes
              (λ k it at. taken laws S n ρ whole t inside b k block it is.in_set at))
              (every_image p (use_claim S (now_frame S (begins S ρ t))) block.uses
              (λ j at it. used k facts at (omega (arith, order b j block at is.in_set it, low)))))

      facts_below : (k : ℕ) → FactsBelow k
      facts_below zero = λ b f block fact is low. absurd (omega (arith, low))
      facts_below (suc k) = one_fact k (facts_below k)

      facts_here : FactsAt laws S n ρ whole t
      facts_here b f block fact is = facts_below (suc (rank b)) b f block fact is (omega arith)

    -- every fact holds at every scan
    facts_at : (t : ℕ) → t < n → FactsAt laws S n ρ whole t
    facts_at zero inside = facts_here zero inside (first_true laws S n ρ whole zero inside refl)
    facts_at (suc t) inside = facts_here (suc t) inside (all_else (facts_at t (omega (arith, inside))))
      where
        all_else : FactsAt laws S n ρ whole t → list_all (claim_true (state_of S ρ (suc t))) (others S (begins S ρ (suc t))) ≡ true
        all_else facts = ⊎_elim
            (λ anew. subst (λ b. list_all (claim_true (state_of S ρ (suc t))) (others S b) ≡ true) (sym anew)
            (first_true laws S n ρ whole (suc t) inside anew))
            (λ later. subst (λ b. list_all (claim_true (state_of S ρ (suc t))) (others S b) ≡ true) (sym later)
            (later_true laws S n ρ whole t inside later facts))
            (cases_Bool (begins S ρ (suc t)))

  invariants_hold : InvariantsHold S
  invariants_hold h r i s allowed fits ins design t b f block name c inside is =
      let whole = (laws.runs_are_whole S h r i s allowed fits ins design).whole in
      facts_at (length h) (joint S r s) whole t inside b f block (Invariant name c) is

  module _ (proper : AllProper S) (goals : HasGoals S) where
    refines : Refines S
    refines h allowed =
        let r = laws.one_trace S proper side.Req h allowed.monitored_list.values in
        let i = (laws.one_image S proper).0 h allowed.monitored_list.values in
        let s = laws.one_trace S proper side.Sof i.0 i.1.is.values in
        let c = (laws.one_image S proper).1 s.0 s.1.is.values in
        let reads = laws.runs_are_whole S h r.0 i.0 s.0 allowed r.1.is i.1.is s.1.is in (
          r.0,
          i.0,
          s.0,
          c.0,
          record { allowed = allowed; required = r.1; inputs = i.1; design = s.1; outputs = c.1 },
          (λ t inside x v is.
              let goal = goals x v is in
              sym (reads.as_required t x v inside (is.0, of_controlled x v is.1))
              ∙ reads.as_put_out proper c.0 c.1.is t x v (joint S r.0 s.0 t x) inside is
              (facts_at (length h) (joint S r.0 s.0) reads.whole t inside goal.0 goal.1 goal.2 (Goal x) goal.3)),
        )

pub compose : Laws → BlocksCompose
compose laws S proper goals rank order none = record {
  refines = refines laws S rank order none proper goals;
  invariants = invariants_hold laws S rank order none;
}

pub shown_compose : Laws → ShownBlocksCompose
shown_compose laws S proper goals rank order marks none = compose laws S proper goals rank order
    (λ b f block fact anew is σ spans own_true others_true.
    let ms = marks anew block fact in
    none b f block fact anew is _ (laws.numbers_make_points (slot_spans S) (block_parts S anew block fact ms)
    (laws.parts_good S b f block fact is anew ms) σ ((laws.slots_are_spans S σ).0 spans)
    (both_lists (claim_true σ) (own S anew block fact) (marked ms (others S anew)) own_true
    (marked_hold (claim_true σ) ms (others S anew) others_true))))
