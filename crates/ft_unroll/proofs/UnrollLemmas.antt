-- Numbers that meet the formulas of a list are a whole reading, and those of the memories are the ones that they keep.
use Rattle.std.proofs.Common.{◌≡◌, ◌∙◌, sym, ap, subst, refl, ℕ, zero, suc, ◌*◌, ◌<◌, ℤ, Bool, true, false, cond, List, ◌++◌}
use Rattle.std.proofs.Common.{length, Some, slice_get, arith, true≢false}
use Rattle.std.specs.List.{list_all, Contains}
use Rattle.std.proofs.lemmas.Bool.{and_parts, and_from}
use Rattle.std.proofs.lemmas.List.Folds.{list_all-append, list_all-map}
use Rattle.std.proofs.Math.Logic.{∥∥₁_elim}
use Rattle.std.proofs.Props.{props}
use Rattle.ft_base.specs.Interval.{IsWithin}
use Rattle.ft_core.specs.declared.tables.Tables.{Tables}
use Rattle.ft_core.specs.declared.tables.Memory as tables
use Rattle.ft_core.specs.declared.tables.Memory.TheVariants.{Held, Hyst}
use Rattle.ft_core.specs.declared.tables.Section.{Section}
use Rattle.ft_core.specs.declared.tables.Section.TheVariants as section
use Rattle.ft_core.specs.declared.term.Cond.{Cond}
use Rattle.ft_core.specs.checked.Sound.{side_of, HasOrder}
use Rattle.ft_core.specs.laws.Places.{some-at}
use Rattle.ft_core.specs.meaning.Kinds.{monitored}
use Rattle.ft_core.specs.meaning.Reads.{Read, at_now, at_before, of_memory, of_age, cond_reads, memory_reads}
use Rattle.ft_mean.specs.laws.EvaluationLaws.{Same}
use Rattle.ft_mean.specs.laws.Moves.{moves, span_of, MayKeep}
use Rattle.ft_mean.specs.laws.Whole.{IsWhole}
use Rattle.ft_mean.specs.meaning.Allowed.{nat_at}
use Rattle.ft_mean.specs.meaning.Cells.{defined}
use Rattle.ft_mean.specs.meaning.Memory.{kept, look}
use Rattle.ft_mean.specs.meaning.Proper.{AllProper}
use Rattle.ft_mean.specs.meaning.Reading.{Reading, Scans, begins, scan_before}
use Rattle.ft_mean.specs.meaning.Refines.{FirstDiffers}
use Rattle.ft_mean.specs.meaning.Value.{View, truth}
use Rattle.ft_claims.specs.laws.GoodLaws.{IsThere}
use Rattle.ft_claims.specs.meaning.Claims.{claim_true}
use Rattle.ft_claims.specs.meaning.Names.{width, memo, view, claim_of, kept_true}
use Rattle.ft_claims.specs.meaning.Parts.{definition}
use Rattle.ft_oblige.specs.laws.ReadsThere.{side_there, may_there}
use Rattle.ft_oblige.specs.laws.Scans.{scan_before_inside}
use Rattle.ft_oblige.specs.laws.Tests.{every, at_place}
use Rattle.ft_oblige.specs.meaning.Lists.{is_first, list_frame, clauses_at}
use Rattle.ft_unroll.specs.laws.Laws.{Laws}
use Rattle.ft_unroll.specs.meaning.Unrolling.{reading_by, MeetsNat, MeetsScans, MeetsDifference}
use Rattle.ft_unroll.proofs.FrameLemmas.{first_begins, before_same, clause_same, now_is_step, defined_alike, moves_read, moves_from}

module _ (laws : Laws) (S : Tables) (σ : ℕ → ℤ) where
  -- clauses that hold of numbers hold along their reading
  clauses_hold : (t : ℕ) (conds : List Cond)
      → ((k : ℕ) (c : Cond) (r : Read) → slice_get conds k ≡ Some c → Contains (cond_reads c) r
      → Same (view S (list_frame S t) σ) (look S (reading_by S σ) t) r)
      → list_all (claim_true σ) (clauses_at S t conds) ≡ true → list_all (truth (look S (reading_by S σ) t)) conds ≡ true
  clauses_hold t conds reads all =
      let V = view S (list_frame S t) σ in
      let W = look S (reading_by S σ) t in
      let inside : list_all (λ c. claim_true σ (claim_of S (list_frame S t) c)) conds ≡ true =
      sym (list_all-map (claim_true σ) (claim_of S (list_frame S t)) conds) ∙ all in
      every (truth W) conds (λ k c at. sym (laws.conditions_say S (list_frame S t) σ c
      ∙ laws.same_truth V W c (λ r here. reads k c r at here))
      ∙ at_place (λ d. claim_true σ (claim_of S (list_frame S t) d)) conds inside k c at)

  -- the environment's clauses
  pub nat_holds : (n : ℕ) → MeetsNat S n σ → (t : ℕ) → t < n → nat_at S (reading_by S σ) t ≡ true
  nat_holds n met t l = of_moment (is_first t) (met t l) (first_begins laws S (reading_by S σ) t)
    where
      W : View
      W = look S (reading_by S σ) t

      always : list_all (claim_true σ) (clauses_at S t S.always) ≡ true → list_all (truth (look S (reading_by S σ) t)) S.always ≡ true
      always = clauses_hold t S.always
          (λ k c r at here. clause_same laws S σ t monitored r (now_is_step S monitored r (S.sound.always_reads k c r at here)))

      of_moment : (b : Bool)
          → list_all (claim_true σ) (cond b (clauses_at S t S.first ++ clauses_at S t S.always)
          (clauses_at S t S.always ++ clauses_at S t S.step))
          ≡ true → b ≡ begins S (reading_by S σ) t → nat_at S (reading_by S σ) t ≡ true
      of_moment true all is =
          let both = and_parts _ _ (sym (list_all-append (claim_true σ) (clauses_at S t S.first) (clauses_at S t S.always)) ∙ all) in
          and_from _ _ (always both.1) (subst (λ a. list_all (truth (look S (reading_by S σ) t)) (cond a S.first S.step) ≡ true) is
          (clauses_hold t S.first
          (λ k c r at here. clause_same laws S σ t monitored r (now_is_step S monitored r (S.sound.first_reads k c r at here))) both.0))
      of_moment false all is =
          let both = and_parts _ _ (sym (list_all-append (claim_true σ) (clauses_at S t S.always) (clauses_at S t S.step)) ∙ all) in
          and_from _ _ (always both.0) (subst (λ a. list_all (truth (look S (reading_by S σ) t)) (cond a S.first S.step) ≡ true) is
          (clauses_hold t S.step (λ k c r at here. clause_same laws S σ t monitored r (S.sound.step_reads k c r at here)) both.1))

module _ (laws : Laws) (S : Tables) (n : ℕ) (σ : ℕ → ℤ) (met : MeetsScans S n σ) where
  abbrev ρ : Reading
  ρ = reading_by S σ

  -- the number of a memory is the one that it keeps
  abbrev IsKept : ℕ → ℕ → Type 0
  IsKept t m = σ (memo S (t * width S) m) ≡ kept S ρ t m

  -- that of each memory
  abbrev AllKept : ℕ → Type 0
  AllKept t = (m : ℕ) (memory : tables.Memory) → slice_get S.memories m ≡ Some memory → IsKept t m

  memory_same : (t m : ℕ) (memory : tables.Memory) → slice_get S.memories m ≡ Some memory → IsKept t m
      → (view S (list_frame S t) σ).memory m ≡ (look S ρ t).memory m
  memory_same t m memory is e = (λ i. kept_true (is i) (e i)) ∙ sym (laws.memories_move S ρ m memory is t).tells

  may_keep : (memory : tables.Memory) (z : ℤ) → IsWithin (span_of memory) z → MayKeep memory z
  may_keep (Held name s c hold) z h = tt
  may_keep (Hyst name s e lo hi start) z h = h

  module _ (order : HasOrder S.vars S.memories S.tables) where
    -- the memories of this scan that are read first
    abbrev Below : ℕ → ℕ → Type 0
    Below t k = (m : ℕ) (memory : tables.Memory) → slice_get S.memories m ≡ Some memory → order.0 (of_memory m) < k → IsKept t m

    read_same : (t k m : ℕ) (memory : tables.Memory) → slice_get S.memories m ≡ Some memory → Below t k → order.0 (of_memory m) < suc k
        → (r : Read) → Contains (memory_reads (Some memory)) r → Same (view S (list_frame S t) σ) (look S ρ t) r
    read_same t k m memory is below low (at_now x) c = refl
    read_same t k m memory is below low (at_before x) c = before_same laws S σ t x
    read_same t k m memory is below low (of_age q) c = absurd (true≢false (sym (S.sound.memories_read m memory (of_age q) is c)))
    read_same t k m memory is below low (of_memory q) c =
        let less = order.1.falls (of_memory m) (of_memory q) (subst (λ o. Contains (memory_reads o) (of_memory q)) (sym is) c) refl in
        let at = some-at S.memories q (side_there S (side_of memory) (of_memory q) (S.sound.memories_read m memory (of_memory q) is c)) in
        memory_same t q at.0 at.1 (below q at.0 at.1 (omega (arith, less, low)))

    one_more : (t : ℕ) → t < n → (is_first t ≡ false → AllKept (scan_before t)) → (k : ℕ) → Below t k → Below t (suc k)
    one_more t l past k below m memory is low =
        let V : View = view S (list_frame S t) σ in
        let now : ℤ = σ (memo S (t * width S) m) in
        let last : ℤ = σ (memo S (scan_before t * width S) m) in
        let kept_now = met.spans.kept t m memory l is in
        let move = sym (laws.moves_say S (list_frame S t) σ m memory (met.spans.kept (scan_before t) m memory (scan_before_inside n t l) is)
        kept_now) ∙ met.moved t m memory l is in
        let seen = sym (moves_read laws S V (look S ρ t) memory (read_same t k m memory is below low) (is_first t) last now) ∙ move in
        let by_kept = sym (moves_from S (is_first t) (look S ρ t) memory last (kept S ρ (scan_before t) m) now
        (λ e. past e m memory is)) ∙ seen in
        let by_begins = ap (λ b. moves S b (look S ρ t) memory (kept S ρ (scan_before t) m) now) (sym (first_begins laws S ρ t))
        ∙ by_kept in
        (laws.memories_move S ρ m memory is t).alone now (may_keep memory now kept_now) by_begins

    all_below : (t : ℕ) → t < n → (is_first t ≡ false → AllKept (scan_before t)) → (k : ℕ) → Below t k
    all_below t l past zero = λ m memory is low. absurd (omega (arith, low))
    all_below t l past (suc k) = one_more t l past k (all_below t l past k)

    kept_here : (t : ℕ) → t < n → (is_first t ≡ false → AllKept (scan_before t)) → AllKept t
    kept_here t l past m memory is = all_below t l past (suc (order.0 (of_memory m))) m memory is (omega arith)

    all_kept : (t : ℕ) → t < n → AllKept t
    all_kept zero l = kept_here zero l (λ e. absurd (true≢false e))
    all_kept (suc t) l = kept_here (suc t) l (λ e. all_kept t (omega (arith, l)))

  pub are_kept : (t : ℕ) → t < n → (m : ℕ) (memory : tables.Memory) → slice_get S.memories m ≡ Some memory
      → σ (memo S (t * width S) m) ≡ kept S (reading_by S σ) t m
  are_kept t l m memory is = ∥∥₁_elim S.sound.order (hlevel props) (λ o. all_kept o t l m memory is)

  -- so the numbers tell what every name stands for
  pub list_same : (t : ℕ) → t < n → (r : Read) → IsThere S r → Same (view S (list_frame S t) σ) (look S (reading_by S σ) t) r
  list_same t l (at_now x) on = refl
  list_same t l (at_before x) on = before_same laws S σ t x
  list_same t l (of_memory m) on = let at = some-at S.memories m on in memory_same t m at.0 at.1 (are_kept t l m at.0 at.1)
  list_same t l (of_age m) on = let at = some-at S.memories m on in are_kept t l m at.0 at.1

  pub list_defined : (section : Section) (t x : ℕ) → t < n
      → claim_true σ (definition S section (list_frame S t) x) ≡ defined S section (look S (reading_by S σ) t) x (reading_by S σ t x)
  list_defined section t x l =
      laws.definitions_say S (list_frame S t) σ section x
      ∙ defined_alike laws S (view S (list_frame S t) σ) (look S ρ t) section x (ρ t x)
      (λ r may. list_same t l r (may_there S section r may))

  -- and are a whole reading
  pub list_whole : IsWhole S n (reading_by S σ)
  list_whole = record {
    ranges = λ t x v l is. met.spans.values t x v l is;
    clauses = λ t l. nat_holds laws S σ n met.clauses t l;
    inputs = λ t l x v is. sym (list_defined section.In t x l) ∙ met.inputs t x v l is;
    required = λ t l x v is. sym (list_defined section.Req t x l) ∙ met.required t x v l is;
    designed = λ t l x v is. sym (list_defined section.Sof t x l) ∙ met.designed t x v l is;
  }

-- where OUT holds at all scans but the last, and there not of some controlled variable, the two sides first differ there
pub list_differs : (laws : Laws) (S : Tables) → AllProper S → (k : ℕ) (σ : ℕ → ℤ) → MeetsScans S (suc k) σ → MeetsDifference S k σ
    → (h : Scans) × (length h ≡ suc k) × FirstDiffers S h k
list_differs laws S proper k σ met d =
    let w = laws.wholes_split S (suc k) (reading_by S σ) (omega arith) (list_whole laws S (suc k) σ met) in (
      w.h,
      w.long,
      laws.splits_differ S proper (suc k) (reading_by S σ) w k d.variable d.declared (omega arith)
          (λ t y u l on. sym (list_defined laws S (suc k) σ met section.Out t y (omega (arith, l))) ∙ d.same_before t y u l on)
          d.is_controlled (sym (list_defined laws S (suc k) σ met section.Out k d.variable (omega arith)) ∙ d.differs),
    )
