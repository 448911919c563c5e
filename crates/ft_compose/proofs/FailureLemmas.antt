-- A point of the formula of a fact is a state at which the diagram fails, and each such state is one.
use Rattle.std.proofs.Common.{◌≡◌, ◌∙◌, sym, ap, refl, ℕ, ◌<◌, ℤ, Bool, true, false, not, List, [], ◌∷◌, ◌++◌, map, length, Some}
use Rattle.std.proofs.Common.{slice_get, arith, true≢false}
use Rattle.std.specs.Prelude.{IsTrue}
use Rattle.std.specs.List.{list_all}
use Rattle.std.proofs.lemmas.Bool.{and_parts, and_from}
use Rattle.std.proofs.lemmas.List.Folds.{list_all-append}
use Rattle.ft_core.specs.declared.tables.Tables.{Tables}
use Rattle.ft_core.specs.declared.tables.Var.{Var}
use Rattle.ft_core.specs.declared.tables.Fact.{Fact}
use Rattle.ft_core.specs.declared.tables.Fact.TheVariants.{Invariant, Goal}
use Rattle.ft_core.specs.declared.tables.Section.{Section}
use Rattle.ft_core.specs.declared.tables.Section.TheVariants as section
use Rattle.ft_core.specs.meaning.Grids.{Cell}
use Rattle.ft_core.specs.meaning.Kinds.{defined_kinds}
use Rattle.ft_mean.specs.meaning.Cells.{cell_holds, cells_of}
use Rattle.ft_mean.specs.meaning.Reading.{IsVar}
use Rattle.ft_claims.specs.declared.claim.Claim.{Claim}
use Rattle.ft_claims.specs.declared.claim.Claim.TheVariants.{Not}
use Rattle.ft_claims.specs.laws.Equations.{true-Not}
use Rattle.ft_claims.specs.laws.FormulaLaws.{AreGood, Gives}
use Rattle.ft_claims.specs.laws.GoodLaws.{IsBelow}
use Rattle.ft_claims.specs.meaning.Areas.{is_used}
use Rattle.ft_claims.specs.meaning.Claims.{claim_true}
use Rattle.ft_claims.specs.meaning.Names.{view}
use Rattle.ft_claims.specs.meaning.Parts.{cell_claim}
use Rattle.ft_oblige.specs.laws.Marked.{are_marks, marked_at, marked_all}
use Rattle.ft_oblige.specs.laws.Tests.{both_lists}
use Rattle.ft_oblige.specs.meaning.Blocks.{now_frame, fact_claim, take_claim, use_claim, own, others, block_parts}
use Rattle.ft_oblige.specs.meaning.Linked.{marked}
use Rattle.ft_oblige.specs.meaning.Obligations.{of_fact, block_obliged}
use Rattle.ft_oblige.specs.meaning.States.{slot_spans, fact_true}
use Rattle.ft_compose.specs.laws.FailureLaws.{PointsAreStates, PointsFail, StatesMakePoints, FailsIsFalse, FailingIsOpen, ToldCellsAlike}
use Rattle.ft_compose.specs.laws.Laws.{Laws}
use Rattle.ft_compose.specs.meaning.Failing.{IsTold}

pub points_are_states : Laws → PointsAreStates
points_are_states laws S anew block fact marks p point =
    let at = laws.points_are_of_numbers (slot_spans S) (block_parts S anew block fact marks) (laws.slots_have_some S) p point in
    (at.0, (laws.slots_are_spans S at.0).1 at.1, at.2)

not_true : (b : Bool) → not b ≡ true → b ≡ false
not_true true h = absurd (true≢false (sym h))
not_true false h = refl

pub points_fail : Laws → PointsFail
points_fail laws S b f block fact anew is marks settled p point σ gives =
    let test = claim_true σ in
    let own_parts = own S anew block fact in
    let takes = map (take_claim S (now_frame S anew)) block.takes in
    let uses = map (use_claim S (now_frame S anew)) block.uses in
    let negated = Not (fact_claim S (now_frame S anew) fact) in
    let all = laws.points_tell (slot_spans S) (block_parts S anew block fact marks) (laws.parts_good S b f block fact is anew marks) p point
    σ gives in
    let both = and_parts (list_all test own_parts) (list_all test (marked marks (others S anew)))
    (sym (list_all-append test own_parts (marked marks (others S anew))) ∙ all) in
    let mine = and_parts (test negated) (list_all test (takes ++ uses)) both.0 in
    let rest = and_parts (list_all test takes) (list_all test uses) (sym (list_all-append test takes uses) ∙ mine.1) in record {
      taken = rest.0;
      used = rest.1;
      linked = λ k c at belongs. marked_at test marks (others S anew) both.1 k c
          ((are_marks (length (slot_spans S)) own_parts (others S anew) marks settled k).1 belongs) at;
      fails = not_true (test (fact_claim S (now_frame S anew) fact))
          (sym (true-Not σ (fact_claim S (now_frame S anew) fact)) ∙ mine.0);
    }

pub states_make_points : Laws → StatesMakePoints
states_make_points laws S b f block fact anew is marks settled σ spans fails =
    let test = claim_true σ in
    let own_parts = own S anew block fact in
    let takes = map (take_claim S (now_frame S anew)) block.takes in
    let uses = map (use_claim S (now_frame S anew)) block.uses in
    let mine : list_all (claim_true σ) (own S anew block fact) ≡ true =
    and_from _ _ (true-Not σ (fact_claim S (now_frame S anew) fact) ∙ ap not fails.fails)
    (both_lists test takes uses fails.taken fails.used)
    in (
      _,
      laws.numbers_make_points (slot_spans S) (block_parts S anew block fact marks) (laws.parts_good S b f block fact is anew marks) σ
          ((laws.slots_are_spans S σ).0 spans)
          (both_lists test own_parts (marked marks (others S anew)) mine (marked_all test marks (others S anew)
          (λ k c mark at. fails.linked k c at
          ((are_marks (length (slot_spans S)) own_parts (others S anew) marks settled k).0 mark)))),
    )

fact_says : Laws → (S : Tables) (anew : Bool) (σ : ℕ → ℤ) (fact : Fact) → claim_true σ (fact_claim S (now_frame S anew) fact)
    ≡ fact_true S (view S (now_frame S anew) σ) (view S (now_frame S anew) σ).now fact
fact_says laws S anew σ (Invariant name c) = laws.conditions_say S (now_frame S anew) σ c
fact_says laws S anew σ (Goal x) = laws.definitions_say S (now_frame S anew) σ section.Out x

pub fails_false : Laws → FailsIsFalse
fails_false laws S anew block fact σ fails = sym (fact_says laws S anew σ fact) ∙ fails.fails

-- truths that follow from one another are one
same_truth : (a b : Bool) → (a ≡ true → b ≡ true) → (b ≡ true → a ≡ true) → a ≡ b
same_truth true b f g = sym (f refl)
same_truth false true f g = g refl
same_truth false false f g = refl

module _ (laws : Laws) (S : Tables) (anew : Bool) (section : Section) (x : ℕ) (v : Var) (is : IsVar S (defined_kinds section) x v)
    (k : ℕ) (cell : Cell) (at : slice_get (cells_of S section x) k ≡ Some cell) where
  abbrev base : ℕ
  base = length (slot_spans S)

  below : IsBelow S (now_frame S anew) base
  below = let long = laws.slots_are_names S in record { this = omega (arith, long); prior = omega (arith, long) }

  cell_good : AreGood (slot_spans S) (cell_claim S (now_frame S anew) cell ∷ [])
  cell_good = and_from _ _ (laws.cells_good S (now_frame S anew) base below section x v is k cell at) refl

  agrees : (σ τ : ℕ → ℤ)
      → ((u : ℕ) → u < base → IsTrue (is_used base (cell_claim S (now_frame S anew) cell ∷ []) u) → σ u ≡ τ u)
      → claim_true σ (cell_claim S (now_frame S anew) cell) ≡ true → claim_true τ (cell_claim S (now_frame S anew) cell) ≡ true
  agrees σ τ same holds = (and_parts (claim_true τ (cell_claim S (now_frame S anew) cell)) true
      (laws.true_alike (slot_spans S) (cell_claim S (now_frame S anew) cell ∷ []) cell_good σ τ same (and_from _ _ holds refl))).0

  -- a cell holds alike at numbers that agree on the names of its own formula
  pub cell_same : (σ τ : ℕ → ℤ)
      → ((u : ℕ) → u < base → IsTrue (is_used base (cell_claim S (now_frame S anew) cell ∷ []) u) → σ u ≡ τ u)
      → cell_holds (view S (now_frame S anew) σ) cell ≡ cell_holds (view S (now_frame S anew) τ) cell
  cell_same σ τ same =
      sym (laws.cells_say S (now_frame S anew) σ cell)
      ∙ same_truth _ _ (agrees σ τ same) (agrees τ σ (λ u l used. sym (same u l used)))
      ∙ laws.cells_say S (now_frame S anew) τ cell

  cell_alike : (parts : List Claim) → IsTold S anew parts cell → (p : List ℤ) (σ τ : ℕ → ℤ) → Gives (slot_spans S) parts p σ
      → Gives (slot_spans S) parts p τ
      → cell_holds (view S (now_frame S anew) σ) cell ≡ cell_holds (view S (now_frame S anew) τ) cell
  cell_alike parts told p σ τ gives gives' = cell_same σ τ
      (λ u l used. sym (gives u l (told u l used)) ∙ gives' u l (told u l used))

pub told_alike : Laws → ToldCellsAlike
told_alike laws S anew block fact marks section x v is k cell at told p σ τ gives gives' =
    cell_alike laws S anew section x v is k cell at (block_parts S anew block fact marks) told p σ τ gives gives'

pub failing_open : Laws → FailingIsOpen
failing_open laws S n cells values labels it closes =
    let point = states_make_points laws S it.b it.f it.block it.fact it.anew it.its_fact it.marks it.belong it.some.0 it.some.1
    (it.each it.some.0 it.some.2) in
    closes (block_obliged S it.anew it.block it.fact it.marks)
    (of_fact it.b it.f it.block it.fact it.anew it.marks it.subject it.its_fact it.belong refl) point.0 point.1
