-- Along a reading that is whole, what a block takes and what else its formulas may hold is true at each scan.
use Rattle.std.proofs.Common.{◌≡◌, ◌∙◌, ap, subst, refl, ℕ, zero, suc, ◌<◌, ◌≤◌, ℤ, pos, Bool, true, false, ◌||◌, cond, List, ◌++◌}
use Rattle.std.proofs.Common.{map, length, Some, slice_get, arith, ⊎_elim}
use Rattle.std.specs.Prelude.{IsTrue}
use Rattle.std.specs.List.{Contains, list_all, flat_map, range_with_len}
use Rattle.std.specs.Ordering.{int_eq}
use Rattle.std.proofs.lemmas.Bool.{cases_Bool, and_parts, ltb-true}
use Rattle.std.proofs.lemmas.Option.{none-some, same_Some, slice_get_within}
use Rattle.ft_base.specs.Interval.{IsWithin}
use Rattle.ft_core.specs.declared.tables.Tables.{Tables}
use Rattle.ft_core.specs.declared.tables.Var.{Var}
use Rattle.ft_core.specs.declared.tables.Memory as tables
use Rattle.ft_core.specs.declared.tables.Memory.TheVariants.{Held, Hyst}
use Rattle.ft_core.specs.declared.tables.Block.{Block}
use Rattle.ft_core.specs.declared.tables.Fact.{Fact}
use Rattle.ft_core.specs.declared.tables.Fact.TheVariants.{Invariant, Goal}
use Rattle.ft_core.specs.declared.tables.Take.{Take}
use Rattle.ft_core.specs.declared.tables.Take.TheVariants as take
use Rattle.ft_core.specs.declared.tables.Section.{Section}
use Rattle.ft_core.specs.declared.tables.Section.TheVariants as section
use Rattle.ft_core.specs.declared.term.Cond.{Cond}
use Rattle.ft_core.specs.checked.Sound.{may_read}
use Rattle.ft_core.specs.laws.Places.{some-at, contained}
use Rattle.ft_core.specs.meaning.Kinds.{monitored, inputs, requirement, design, controlled, is_of}
use Rattle.ft_core.specs.meaning.Reads.{Read, cond_reads}
use Rattle.ft_mean.specs.laws.EvaluationLaws.{Same}
use Rattle.ft_mean.specs.laws.Moves.{moves, age_begins, age_goes_on, bit_goes_on}
use Rattle.ft_mean.specs.laws.Whole.{IsWhole}
use Rattle.ft_mean.specs.meaning.Cells.{defined}
use Rattle.ft_mean.specs.meaning.Memory.{kept, look}
use Rattle.ft_mean.specs.meaning.Reading.{Reading, begins, before, scan_before, elapsed, IsVar}
use Rattle.ft_mean.specs.meaning.Value.{View, truth}
use Rattle.ft_claims.specs.laws.GoodLaws.{IsThere}
use Rattle.ft_claims.specs.meaning.Claims.{claim_true}
use Rattle.ft_claims.specs.meaning.Names.{Frame, view, claim_of}
use Rattle.ft_claims.specs.meaning.Parts.{definition, move_of}
use Rattle.ft_claims.specs.meaning.Spans.{InSpans}
use Rattle.ft_oblige.specs.laws.OwnSections.{own_req, own_sof, taken_kinds, the_other}
use Rattle.ft_oblige.specs.laws.ReadsThere.{blocks_of, IsOfScan, there, var_of, now_there, step_there, side_there, may_there, fact_there}
use Rattle.ft_oblige.specs.laws.Tests.{at_place, every_image, both_lists, of_filter, of_flat}
use Rattle.ft_oblige.specs.meaning.Blocks.{IsFactAt, now_frame, past_frame, own_section, take_claim, fact_claim, invariants, invariant_of}
use Rattle.ft_oblige.specs.meaning.Blocks.{input_places, others}
use Rattle.ft_oblige.specs.meaning.States.{least_kept, kept_before, state_of, fact_true}
use Rattle.ft_compose.specs.laws.Laws.{Laws}
use Rattle.ft_compose.proofs.StateLemmas.{state_now, state_kept, state_before, state_kept_before, now_same, past_value, past_same}
use Rattle.ft_compose.proofs.StateLemmas.{state_within}

module _ (laws : Laws) (S : Tables) (V W : View) where
  -- a section defines alike at views that agree on what stands in the set
  defined_alike : (section : Section) (x : ℕ) (z : ℤ)
      → ((r : Read) → IsTrue (may_read S.vars S.memories section r) → Same V W r) → defined S section V x z ≡ defined S section W x z
  defined_alike section x z same = laws.same_defined S section V W x z (λ r c. same r (laws.may_read S section x r c))

  -- and a memory moves alike there
  moves_alike : (m : ℕ) (memory : tables.Memory) → slice_get S.memories m ≡ Some memory → ((r : Read) → IsThere S r → Same V W r)
      → (anew : Bool) (before now : ℤ) → moves S anew V memory before now ≡ moves S anew W memory before now
  moves_alike m (Held name side c hold) is same anew before now =
      ap (λ b. cond anew (age_begins b now) (age_goes_on (elapsed S V.now) hold b before now))
      (laws.same_truth V W c (λ r k. same r (side_there S side r (S.sound.memories_read m (Held name side c hold) r is k))))
  moves_alike m (Hyst name side e lo hi start) is same anew before now =
      ap (λ z. bit_goes_on lo hi z (cond anew start (int_eq before (pos 1))) (int_eq now (pos 1)))
      (laws.same_value V W e (λ r k. same r (side_there S side r (S.sound.memories_read m (Hyst name side e lo hi start) r is k))))

-- where a scan begins, nothing kept before counts
moves_anew : (S : Tables) (anew : Bool) (V : View) (memory : tables.Memory) (least before now : ℤ)
    → moves S anew V memory (cond anew least before) now ≡ moves S anew V memory before now
moves_anew S true V (Held name side c hold) least before now = refl
moves_anew S false V (Held name side c hold) least before now = refl
moves_anew S true V (Hyst name side e lo hi start) least before now = refl
moves_anew S false V (Hyst name side e lo hi start) least before now = refl

module _ (laws : Laws) (S : Tables) (n : ℕ) (ρ : Reading) (whole : IsWhole S n ρ) where
  module _ (t : ℕ) (inside : t < n) where
    abbrev σ : ℕ → ℤ
    σ = state_of S ρ t

    abbrev now : Frame
    now = now_frame S (begins S ρ t)

    ranges : (j x : ℕ) (v : Var) → j ≤ t → slice_get S.vars x ≡ Some v → IsWithin v.range (ρ j x)
    ranges j x v l is = whole.ranges j x v (omega (arith, l, inside)) is

    pub within : InSpans S σ
    within = state_within laws S ρ t ranges

    -- a condition and a definition at this scan
    now_cond : (c : Cond) → ((r : Read) → Contains (cond_reads c) r → IsThere S r) → claim_true σ (claim_of S now c) ≡ truth (look S ρ t) c
    now_cond c reads = laws.conditions_say S now σ c
        ∙ laws.same_truth (view S now σ) (look S ρ t) c (λ r k. now_same laws S ρ t r (reads r k))

    now_definition : (section : Section) (x : ℕ) → x < length S.vars
        → claim_true σ (definition S section now x) ≡ defined S section (look S ρ t) x (ρ t x)
    now_definition section x is =
        laws.definitions_say S now σ section x
        ∙ ap (defined S section (view S now σ) x) (state_now laws S ρ t x is)
        ∙ defined_alike laws S (view S now σ) (look S ρ t) section x (ρ t x) (λ r may. now_same laws S ρ t r (may_there S section r may))

    pub now_fact : (b f : ℕ) (block : Block) (fact : Fact) → IsFactAt S b f block fact
        → claim_true σ (fact_claim S now fact) ≡ fact_true S (look S ρ t) (ρ t) fact
    now_fact b f block (Invariant name c) is =
        now_cond c (λ r k. there S r (fact_there S r ((blocks_of S).invariants_read b f block name c r is.in_set is.in_block k)))
    now_fact b f block (Goal x) is =
        let v = var_of S controlled x ((blocks_of S).goals b f x block is.in_set is.in_block) in
        now_definition section.Out x (slice_get_within S.vars x v.0 v.1.0)

    -- what a block takes
    taken_variable : (x : ℕ) (v : Var) → slice_get S.vars x ≡ Some v → (requirement x v || design x v) ≡ true
        → claim_true σ (definition S (own_section S x) now x) ≡ true
    taken_variable x v is of =
        let low = slice_get_within S.vars x v is in ⊎_elim
        (λ req. ap (λ s. claim_true σ (definition S s now x)) (own_req S x v is req)
        ∙ now_definition section.Req x low ∙ whole.required t inside x v (is, req))
        (λ not_req. ap (λ s. claim_true σ (definition S s now x)) (own_sof S x v is not_req)
        ∙ now_definition section.Sof x low ∙ whole.designed t inside x v (is, the_other (requirement x v) (design x v) not_req of))
        (cases_Bool (requirement x v))

    taken_memory : (m : ℕ) (memory : tables.Memory) → slice_get S.memories m ≡ Some memory
        → claim_true σ (move_of S now m (slice_get S.memories m)) ≡ true
    taken_memory m memory is =
        let at = slice_get_within S.memories m memory is in
        ap (λ o. claim_true σ (move_of S now m o)) is
        ∙ laws.moves_say S now σ m memory (within.kept_past m memory is) (within.kept_now m memory is)
        ∙ (λ i. moves S (begins S ρ t) (view S now σ) memory (state_kept_before laws S ρ t m i) (state_kept laws S ρ t m at i))
        ∙ moves_alike laws S (view S now σ) (look S ρ t) m memory is (λ r on. now_same laws S ρ t r on) (begins S ρ t)
        (kept_before S ρ t m) (kept S ρ t m)
        ∙ moves_anew S (begins S ρ t) (look S ρ t) memory (least_kept (slice_get S.memories m)) (kept S ρ (scan_before t) m) (kept S ρ t m)
        ∙ (laws.memories_move S ρ m memory is t).comes

    pub taken : (b k : ℕ) (block : Block) (it : Take) → slice_get S.blocks b ≡ Some block → slice_get block.takes k ≡ Some it
        → claim_true σ (take_claim S now it) ≡ true
    taken b k block (take.Variable x) at is =
        let v = taken_kinds S x ((blocks_of S).takes b block (take.Variable x) at (contained block.takes k (take.Variable x) is)) in
        taken_variable x v.0 v.1 v.2
    taken b k block (take.Memory m) at is =
        let memory = some-at S.memories m
        (ltb-true m (length S.memories) ((blocks_of S).takes b block (take.Memory m) at (contained block.takes k (take.Memory m) is))) in
        taken_memory m memory.0 memory.1

    -- inputs
    inputs_now : list_all (claim_true σ) (map (definition S section.In now) (input_places S)) ≡ true
    inputs_now = every_image (claim_true σ) (definition S section.In now) (input_places S) (λ k x at.
        let v = var_of S inputs x (of_filter (is_of S.vars inputs) (range_with_len 0 (length S.vars)) k x at) in
        now_definition section.In x (slice_get_within S.vars x v.0 v.1.0) ∙ whole.inputs t inside x v.0 v.1)

    -- the environment's clauses
    clauses : (conds : List Cond) → ((k : ℕ) (c : Cond) (r : Read) → slice_get conds k ≡ Some c → Contains (cond_reads c) r → IsThere S r)
        → list_all (truth (look S ρ t)) conds ≡ true → list_all (claim_true σ) (map (claim_of S now) conds) ≡ true
    clauses conds reads all = every_image (claim_true σ) (claim_of S now) conds (λ k c at.
        now_cond c (λ r here. reads k c r at here) ∙ at_place (truth (look S ρ t)) conds all k c at)

    nat_parts : (list_all (truth (look S ρ t)) S.always ≡ true)
        × (list_all (truth (look S ρ t)) (cond (begins S ρ t) S.first S.step) ≡ true)
    nat_parts = and_parts (list_all (truth (look S ρ t)) S.always) (list_all (truth (look S ρ t)) (cond (begins S ρ t) S.first S.step))
        (whole.clauses t inside)

    always_now : list_all (claim_true σ) (map (claim_of S now) S.always) ≡ true
    always_now = clauses S.always (λ k c r at here. there S r (now_there S monitored r (S.sound.always_reads k c r at here))) nat_parts.0

    begins_first : begins S ρ t ≡ true → list_all (claim_true σ) (map (claim_of S now) S.first) ≡ true
    begins_first anew = clauses S.first (λ k c r at here. there S r (now_there S monitored r (S.sound.first_reads k c r at here)))
        (subst (λ b. list_all (truth (look S ρ t)) (cond b S.first S.step) ≡ true) anew nat_parts.1)

    goes_step : begins S ρ t ≡ false → list_all (claim_true σ) (map (claim_of S now) S.step) ≡ true
    goes_step later = clauses S.step (λ k c r at here. step_there S monitored r (S.sound.step_reads k c r at here))
        (subst (λ b. list_all (truth (look S ρ t)) (cond b S.first S.step) ≡ true) later nat_parts.1)

    -- all else at a scan that begins
    pub first_true : begins S ρ t ≡ true → list_all (claim_true σ) (others S true) ≡ true
    first_true anew = subst (λ b. list_all (claim_true σ) (map (definition S section.In (now_frame S b)) (input_places S)
        ++ map (claim_of S (now_frame S b)) S.first ++ map (claim_of S (now_frame S b)) S.always) ≡ true) anew
        (both_lists (claim_true σ) _ _ (both_lists (claim_true σ) _ _ inputs_now (begins_first anew)) always_now)

  -- the facts at a scan
  abbrev pub FactsAt : ℕ → Type 0
  FactsAt t = (b f : ℕ) (block : Block) (fact : Fact) → IsFactAt S b f block fact → fact_true S (look S ρ t) (ρ t) fact ≡ true

  module _ (t : ℕ) (inside : suc t < n) (later : begins S ρ (suc t) ≡ false) (facts : FactsAt t) where
    abbrev τ : ℕ → ℤ
    τ = state_of S ρ (suc t)

    abbrev past : Frame
    past = past_frame S

    past_cond : (c : Cond) → ((r : Read) → Contains (cond_reads c) r → IsOfScan S r) → claim_true τ (claim_of S past c)
        ≡ truth (look S ρ t) c
    past_cond c reads = laws.conditions_say S past τ c
        ∙ laws.same_truth (view S past τ) (look S ρ t) c (λ r k. past_same laws S ρ t later r (reads r k))

    past_input : (x : ℕ) (v : Var) → IsVar S inputs x v → claim_true τ (definition S section.In past x) ≡ true
    past_input x v is =
        laws.definitions_say S past τ section.In x
        ∙ ap (defined S section.In (view S past τ) x)
        (state_before laws S ρ (suc t) x (slice_get_within S.vars x v is.0) ∙ past_value laws S ρ t later x)
        ∙ defined_alike laws S (view S past τ) (look S ρ t) section.In x (ρ t x)
        (λ r may. past_same laws S ρ t later r (now_there S monitored r may))
        ∙ whole.inputs t (omega (arith, inside)) x v is

    inputs_past : list_all (claim_true τ) (map (definition S section.In past) (input_places S)) ≡ true
    inputs_past = every_image (claim_true τ) (definition S section.In past) (input_places S) (λ k x at.
        let v = var_of S inputs x (of_filter (is_of S.vars inputs) (range_with_len 0 (length S.vars)) k x at) in past_input x v.0 v.1)

    always_past : list_all (claim_true τ) (map (claim_of S past) S.always) ≡ true
    always_past = every_image (claim_true τ) (claim_of S past) S.always (λ k c at.
        past_cond c (λ r here. now_there S monitored r (S.sound.always_reads k c r at here))
        ∙ at_place (truth (look S ρ t)) S.always (nat_parts t (omega (arith, inside))).0 k c at)

    invariants_past : list_all (claim_true τ) (map (claim_of S past) (invariants S)) ≡ true
    invariants_past = every_image (claim_true τ) (claim_of S past) (invariants S) (λ k c at.
        let in_block = of_flat (λ (block : Block). flat_map invariant_of block.facts) S.blocks k c at in
        let in_fact = of_flat invariant_of in_block.1.facts in_block.2 c in_block.4 in
        shown in_block.0 in_fact.0 in_block.1 in_fact.1 in_fact.2 c (record { in_set = in_block.3; in_block = in_fact.3 }) in_fact.4)
      where
        shown : (b f : ℕ) (block : Block) (fact : Fact) (j : ℕ) (c : Cond) → IsFactAt S b f block fact
            → slice_get (invariant_of fact) j ≡ Some c → claim_true τ (claim_of S past c) ≡ true
        shown b f block (Invariant name d) zero c it is =
            subst (λ e. claim_true τ (claim_of S past e) ≡ true) (same_Some d c is)
            (past_cond d (λ r k. fact_there S r ((blocks_of S).invariants_read b f block name d r it.in_set it.in_block k))
            ∙ facts b f block (Invariant name d) it)
        shown b f block (Invariant name d) (suc j) c it is = absurd (none-some c is)
        shown b f block (Goal x) j c it is = absurd (none-some c is)

    -- all else at any other scan
    pub later_true : list_all (claim_true τ) (others S false) ≡ true
    later_true =
        let l : suc t < n = inside in
        let p = claim_true τ in
        let inputs' = subst (λ b. list_all p (map (definition S section.In (now_frame S b)) (input_places S)) ≡ true) later
        (inputs_now (suc t) l) in
        let always' = subst (λ b. list_all p (map (claim_of S (now_frame S b)) S.always) ≡ true) later (always_now (suc t) l) in
        let step' = subst (λ b. list_all p (map (claim_of S (now_frame S b)) S.step) ≡ true) later (goes_step (suc t) l later) in
        both_lists p _ _ (both_lists p _ _ (both_lists p _ _ (both_lists p _ _ (both_lists p _ _ invariants_past inputs') inputs_past)
        always') always_past) step'
