-- The parts of the formulas of blocks have names of two scans, and positive divisors.
use Rattle.std.proofs.Common.{◌≡◌, ◌∙◌, sym, ap, subst, refl, ℕ, zero, suc, ◌+◌, ◌≤◌, Bool, true, false, ◌||◌, List, [], ◌++◌, map}
use Rattle.std.proofs.Common.{length, Option, Some, None, slice_get, arith, ⊎_elim}
use Rattle.std.specs.List.{Contains, list_all, flat_map, range_with_len}
use Rattle.std.proofs.lemmas.Bool.{and_parts, and_from, cases_Bool, ltb-true}
use Rattle.std.proofs.lemmas.List.Folds.{list_all-append, list_all-map}
use Rattle.std.proofs.lemmas.Option.{none-some, same_Some}
use Rattle.ft_core.specs.declared.tables.Tables.{Tables}
use Rattle.ft_core.specs.declared.tables.Var.{Var}
use Rattle.ft_core.specs.declared.tables.Block.{Block}
use Rattle.ft_core.specs.declared.tables.Fact.{Fact}
use Rattle.ft_core.specs.declared.tables.Fact.TheVariants.{Invariant, Goal}
use Rattle.ft_core.specs.declared.tables.Take.{Take}
use Rattle.ft_core.specs.declared.tables.Take.TheVariants as take
use Rattle.ft_core.specs.declared.tables.Section.TheVariants as section
use Rattle.ft_core.specs.declared.term.Cond.{Cond}
use Rattle.ft_core.specs.checked.Size.{is_sized}
use Rattle.ft_core.specs.laws.Places.{some-at, contained}
use Rattle.ft_core.specs.meaning.Kinds.{monitored, inputs, requirement, design, controlled, is_of}
use Rattle.ft_core.specs.meaning.Reads.{Read, cond_reads}
use Rattle.ft_claims.specs.declared.claim.Claim.{Claim}
use Rattle.ft_claims.specs.laws.GoodLaws.{IsThere, IsBelow}
use Rattle.ft_claims.specs.meaning.Formulas.{Collected, collected}
use Rattle.ft_claims.specs.meaning.Names.{Frame, width, claim_of}
use Rattle.ft_claims.specs.meaning.Parts.{definition, move_of}
use Rattle.ft_oblige.specs.meaning.Blocks.{now_frame, past_frame, fact_claim, found_claim, use_claim, own_section, take_claim, own}
use Rattle.ft_oblige.specs.meaning.Blocks.{IsFactAt, invariant_of, invariants, input_places, others, block_parts}
use Rattle.ft_oblige.specs.meaning.Linked.{marked}
use Rattle.ft_oblige.specs.meaning.States.{slot_spans}
use Rattle.ft_oblige.specs.laws.Marked.{marked_hold}
use Rattle.ft_oblige.specs.laws.OwnSections.{own_req, own_sof, taken_kinds, the_other}
use Rattle.ft_oblige.specs.laws.PartLaws.{Goods, PartsAreGood, OthersAreGood}
use Rattle.ft_oblige.specs.laws.ReadsThere.{blocks_of, there, var_of, now_there, step_there, fact_there}
use Rattle.ft_oblige.specs.laws.Tests.{at_place, every_image, both_lists, of_filter, of_flat}
use Rattle.ft_oblige.proofs.SpanLemmas.{slots_long}

module _ (goods : Goods) (S : Tables) (frame : Frame) (base : ℕ) (below : IsBelow S frame base) where
  abbrev good : Claim → Bool
  good c = (collected base c).good

  pub clauses_good : (conds : List Cond)
      → ((k : ℕ) (c : Cond) (r : Read) → slice_get conds k ≡ Some c → Contains (cond_reads c) r → IsThere S r)
      → list_all (is_sized S.vars S.memories) conds ≡ true → list_all good (map (claim_of S frame) conds) ≡ true
  clauses_good conds reads sized = every_image good (claim_of S frame) conds (λ k c at.
      goods.conditions S frame base below c (λ r here. reads k c r at here) (at_place (is_sized S.vars S.memories) conds sized k c at))

  inputs_good : list_all good (map (definition S section.In frame) (input_places S)) ≡ true
  inputs_good = every_image good (definition S section.In frame) (input_places S) (λ k x at.
      let v = var_of S inputs x (of_filter (is_of S.vars inputs) (range_with_len 0 (length S.vars)) k x at) in
      goods.definitions S frame base below section.In x v.0 v.1)

  fact_good : (b f : ℕ) (block : Block) (fact : Fact) → IsFactAt S b f block fact → good (fact_claim S frame fact) ≡ true
  fact_good b f block (Invariant name c) is =
      goods.conditions S frame base below c
      (λ r k. there S r (fact_there S r ((blocks_of S).invariants_read b f block name c r is.in_set is.in_block k)))
      ((blocks_of S).invariants_sized b f block name c is.in_set is.in_block)
  fact_good b f block (Goal x) is =
      let v = var_of S controlled x ((blocks_of S).goals b f x block is.in_set is.in_block) in
      goods.definitions S frame base below section.Out x v.0 v.1

  taken_good : (x : ℕ) (v : Var) → slice_get S.vars x ≡ Some v → (requirement x v || design x v) ≡ true
      → good (definition S (own_section S x) frame x) ≡ true
  taken_good x v is of = ⊎_elim
      (λ req. ap (λ s. good (definition S s frame x)) (own_req S x v is req)
      ∙ goods.definitions S frame base below section.Req x v (is, req))
      (λ not_req. ap (λ s. good (definition S s frame x)) (own_sof S x v is not_req)
      ∙ goods.definitions S frame base below section.Sof x v (is, the_other (requirement x v) (design x v) not_req of))
      (cases_Bool (requirement x v))

  take_good : (b k : ℕ) (block : Block) (it : Take) → slice_get S.blocks b ≡ Some block → slice_get block.takes k ≡ Some it
      → good (take_claim S frame it) ≡ true
  take_good b k block (take.Variable x) at is =
      let v = taken_kinds S x ((blocks_of S).takes b block (take.Variable x) at (contained block.takes k (take.Variable x) is)) in
      taken_good x v.0 v.1 v.2
  take_good b k block (take.Memory m) at is =
      let memory = some-at S.memories m
      (ltb-true m (length S.memories) ((blocks_of S).takes b block (take.Memory m) at (contained block.takes k (take.Memory m) is))) in
      ap (λ o. good (move_of S frame m o)) memory.1 ∙ goods.moves S frame base below m memory.0 memory.1

  use_good : (at : ℕ × ℕ) → good (use_claim S frame at) ≡ true
  use_good at = found (slice_get S.blocks at.0) refl
    where
      of_block : (block : Block) → slice_get S.blocks at.0 ≡ Some block → (o : Option Fact) → slice_get block.facts at.1 ≡ o
          → good (found_claim S frame o) ≡ true
      of_block block is None e = goods.conjunctions base [] refl
      of_block block is (Some fact) e = fact_good at.0 at.1 block fact (record { in_set = is; in_block = e })

      found : (o : Option Block) → slice_get S.blocks at.0 ≡ o → good (use_claim S frame at) ≡ true
      found None e =
          ap (λ o. good (found_claim S frame (elim o as (λ z. Option Fact) [ None ↦ None | Some block ↦ slice_get block.facts at.1 ]))) e
          ∙ goods.conjunctions base [] refl
      found (Some block) e =
          ap (λ o. good (found_claim S frame (elim o as (λ z. Option Fact) [ None ↦ None | Some block ↦ slice_get block.facts at.1 ]))) e
          ∙ of_block block e (slice_get block.facts at.1) refl

  invariants_good : list_all good (map (claim_of S frame) (invariants S)) ≡ true
  invariants_good = every_image good (claim_of S frame) (invariants S) (λ k c at.
      let in_block = of_flat (λ (block : Block). flat_map invariant_of block.facts) S.blocks k c at in
      let in_fact = of_flat invariant_of in_block.1.facts in_block.2 c in_block.4 in
      one in_block.0 in_fact.0 in_block.1 in_fact.1 in_fact.2 c (record { in_set = in_block.3; in_block = in_fact.3 }) in_fact.4)
    where
      one : (b f : ℕ) (block : Block) (fact : Fact) (j : ℕ) (c : Cond) → IsFactAt S b f block fact
          → slice_get (invariant_of fact) j ≡ Some c → good (claim_of S frame c) ≡ true
      one b f block (Invariant name d) zero c it is =
          subst (λ e. good (claim_of S frame e) ≡ true) (same_Some d c is) (fact_good b f block (Invariant name d) it)
      one b f block (Invariant name d) (suc j) c it is = absurd (none-some c is)
      one b f block (Goal x) j c it is = absurd (none-some c is)

-- the clauses of each of the three lists are sized
pub clauses_sized : (S : Tables) → (list_all (is_sized S.vars S.memories) S.first ≡ true)
    × (list_all (is_sized S.vars S.memories) S.always ≡ true)
    × (list_all (is_sized S.vars S.memories) S.step ≡ true)
clauses_sized S =
    let test = is_sized S.vars S.memories in
    let both = and_parts (list_all test (S.first ++ S.always)) (list_all test S.step)
    (sym (list_all-append test (S.first ++ S.always) S.step) ∙ S.sound.sized_clauses) in
    let front = and_parts (list_all test S.first) (list_all test S.always) (sym (list_all-append test S.first S.always) ∙ both.0) in
    (front.0, front.1, both.1)

module _ (goods : Goods) (S : Tables) (base : ℕ) (room : width S + width S ≤ base) where
  abbrev good_at : Claim → Bool
  good_at c = (collected base c).good

  here : (anew : Bool) → IsBelow S (now_frame S anew) base
  here anew = record { this = omega (arith, room); prior = room }

  there_past : IsBelow S (past_frame S) base
  there_past = record { this = room; prior = room }

  own_good : (b f : ℕ) (block : Block) (fact : Fact) (anew : Bool) → IsFactAt S b f block fact
      → list_all good_at (own S anew block fact) ≡ true
  own_good b f block fact anew is =
      let now = now_frame S anew in
      and_from _ _ (goods.negations base _ (fact_good goods S now base (here anew) b f block fact is))
      (both_lists good_at (map (take_claim S now) block.takes) (map (use_claim S now) block.uses)
      (every_image good_at (take_claim S now) block.takes (λ k t at. take_good goods S now base (here anew) b k block t is.in_set at))
      (every_image good_at (use_claim S now) block.uses (λ k u at. use_good goods S now base (here anew) u)))

  others_good : (anew : Bool) → list_all good_at (others S anew) ≡ true
  others_good true =
      let now = now_frame S true in
      both_lists good_at _ _ (both_lists good_at _ _ (inputs_good goods S now base (here true))
      (clauses_good goods S now base (here true) S.first
      (λ k c r at it. there S r (now_there S monitored r (S.sound.first_reads k c r at it))) (clauses_sized S).0))
      (clauses_good goods S now base (here true) S.always
      (λ k c r at it. there S r (now_there S monitored r (S.sound.always_reads k c r at it))) (clauses_sized S).1)
  others_good false =
      let now = now_frame S false in let past = past_frame S in
      let always : (k : ℕ) (c : Cond) (r : Read) → slice_get S.always k ≡ Some c → Contains (cond_reads c) r → IsThere S r =
      λ k c r at it. there S r (now_there S monitored r (S.sound.always_reads k c r at it)) in
      both_lists good_at _ _ (both_lists good_at _ _ (both_lists good_at _ _ (both_lists good_at _ _ (both_lists good_at _ _
      (invariants_good goods S past base there_past) (inputs_good goods S now base (here false)))
      (inputs_good goods S past base there_past))
      (clauses_good goods S now base (here false) S.always always (clauses_sized S).1))
      (clauses_good goods S past base there_past S.always always (clauses_sized S).1))
      (clauses_good goods S now base (here false) S.step (λ k c r at it. step_there S monitored r (S.sound.step_reads k c r at it))
      (clauses_sized S).2)

pub all_others_good : Goods → OthersAreGood
all_others_good goods S anew =
    let base = length (slot_spans S) in
    let room : width S + width S ≤ length (slot_spans S) = let long = slots_long S in omega (arith, long) in
    list_all-map (λ (c : Collected). c.good) (collected base) (others S anew) ∙ others_good goods S base room anew

pub parts_good : Goods → PartsAreGood
parts_good goods S b f block fact is anew marks =
    let base = length (slot_spans S) in
    let room : width S + width S ≤ length (slot_spans S) = let long = slots_long S in omega (arith, long) in
    let test : Claim → Bool = λ c. (collected (length (slot_spans S)) c).good in
    list_all-map (λ (c : Collected). c.good) (collected base) (block_parts S anew block fact marks)
    ∙ both_lists test (own S anew block fact) (marked marks (others S anew))
    (own_good goods S base room b f block fact anew is) (marked_hold test marks (others S anew) (others_good goods S base room anew))
