-- A whole reading gives numbers that meet the formulas of a list.
use Rattle.std.proofs.Common.{◌≡◌, ◌∙◌, sym, ap, subst, refl, ℕ, suc, ◌+◌, ◌-◌, ◌*◌, ◌/◌, ◌<◌, ℤ, Bool, true, false, cond, ◌||◌, List}
use Rattle.std.proofs.Common.{◌++◌, length, Some, slice_get, arith}
use Rattle.std.specs.Prelude.{nat_lt}
use Rattle.std.specs.List.{list_all, Contains}
use Rattle.std.proofs.lemmas.Bool.{and_parts, cond-true, cond-false, lt-ltb, le-ltb}
use Rattle.std.proofs.lemmas.Option.{slice_get_within}
use Rattle.std.proofs.Math.Nat.{div-eq_of_lt-le, suc-mul}
use Rattle.ft_base.specs.Interval.{IsWithin}
use Rattle.ft_core.specs.declared.tables.Tables.{Tables}
use Rattle.ft_core.specs.declared.tables.Var.{Var}
use Rattle.ft_core.specs.declared.tables.Memory as tables
use Rattle.ft_core.specs.declared.tables.VarKind.TheVariants as kind
use Rattle.ft_core.specs.declared.tables.Side.TheVariants as side
use Rattle.ft_core.specs.declared.tables.Section.{Section}
use Rattle.ft_core.specs.declared.tables.Section.TheVariants as section
use Rattle.ft_core.specs.declared.term.Cond.{Cond}
use Rattle.ft_core.specs.checked.Sound.{side_of}
use Rattle.ft_core.specs.laws.Places.{some-at}
use Rattle.ft_core.specs.meaning.Kinds.{monitored, controlled, of_kind, side_kinds}
use Rattle.ft_core.specs.meaning.Reads.{Read, at_now, at_before, of_memory, of_age, cond_reads}
use Rattle.ft_mean.specs.laws.EvaluationLaws.{Same}
use Rattle.ft_mean.specs.laws.Moves.{moves, span_of}
use Rattle.ft_mean.specs.laws.Whole.{joint, IsWhole}
use Rattle.ft_mean.specs.meaning.Allowed.{nat_at}
use Rattle.ft_mean.specs.meaning.Cells.{defined}
use Rattle.ft_mean.specs.meaning.Memory.{kept, look}
use Rattle.ft_mean.specs.meaning.Proper.{AllProper}
use Rattle.ft_mean.specs.meaning.Reading.{Reading, Scans, begins, init_of, scan_before}
use Rattle.ft_mean.specs.meaning.Refines.{FirstDiffers}
use Rattle.ft_mean.specs.meaning.Value.{truth}
use Rattle.ft_claims.specs.laws.GoodLaws.{IsThere}
use Rattle.ft_claims.specs.meaning.Claims.{claim_true}
use Rattle.ft_claims.specs.meaning.Names.{width, memo, view, claim_of, kept_true}
use Rattle.ft_claims.specs.meaning.Parts.{definition, move_of}
use Rattle.ft_oblige.specs.laws.ListPartLaws.{InListSpans}
use Rattle.ft_oblige.specs.laws.ReadsThere.{there, now_there, step_there, side_there, may_there}
use Rattle.ft_oblige.specs.laws.Tests.{every_image, at_place, both_lists}
use Rattle.ft_oblige.specs.meaning.Lists.{is_first, list_frame, clauses_at, nat_claims}
use Rattle.ft_unroll.specs.laws.Laws.{Laws}
use Rattle.ft_unroll.specs.meaning.Unrolling.{MeetsScans, MeetsDifference, list_state}
use Rattle.ft_unroll.proofs.FrameLemmas.{first_begins, defined_alike, moves_read}

-- the scan of a number, and its place in it
scan-of : (w t x : ℕ) → x < w → (t * w + x) / w ≡ t
scan-of w t x l =
    let more = suc-mul t w in
    let one : t + 1 ≡ suc t = omega arith in
    div-eq_of_lt-le w (omega arith) (subst (λ k. t * w + x < k * w) (sym one) (omega (arith, l, more)))

module _ (laws : Laws) (S : Tables) (ρ : Reading) where
  abbrev σ : ℕ → ℤ
  σ = list_state S ρ

  -- the number at a place of scan t
  at_number : (t x : ℕ) → x < width S
      → list_state S ρ (t * width S + x) ≡ cond (nat_lt x (length S.vars)) (ρ t x) (kept S ρ t (x - length S.vars))
  at_number t x l =
      let scan = scan-of (width S) t x l in
      let place : (t * width S + x) - (t * width S + x) / width S * width S ≡ x =
      ap (λ k. (t * width S + x) - k * width S) scan ∙ (let e : (t * width S + x) - t * width S ≡ x = omega arith in e) in
      λ i. cond (nat_lt (place i) (length S.vars)) (ρ (scan i) (place i)) (kept S ρ (scan i) (place i - length S.vars))

  pub roll_now : (t x : ℕ) → x < length S.vars → list_state S ρ (t * width S + x) ≡ ρ t x
  roll_now t x l = at_number t x (omega (arith, l))
      ∙ cond-true (nat_lt x (length S.vars)) (ρ t x) (kept S ρ t (x - length S.vars)) (lt-ltb x (length S.vars) l)

  pub roll_kept : (t m : ℕ) → m < length S.memories → list_state S ρ (memo S (t * width S) m) ≡ kept S ρ t m
  roll_kept t m l =
      let e : (length S.vars + m) - length S.vars ≡ m = omega arith in
      at_number t (length S.vars + m) (omega (arith, l))
      ∙ cond-false (nat_lt (length S.vars + m) (length S.vars)) (ρ t (length S.vars + m)) (kept S ρ t ((length S.vars + m) - length S.vars))
      (le-ltb (length S.vars + m) (length S.vars) (omega arith))
      ∙ ap (kept S ρ t) e

  -- what the numbers tell of a scan is what every name stands for there
  pub roll_same : (t : ℕ) (r : Read) → IsThere S r → Same (view S (list_frame S t) (list_state S ρ)) (look S ρ t) r
  roll_same t (at_now x) on = roll_now t x on
  roll_same t (at_before x) on = λ i. cond (first_begins laws S ρ t i) (init_of S x) (roll_now (scan_before t) x on i)
  roll_same t (of_age m) on = roll_kept t m on
  roll_same t (of_memory m) on =
      let at = some-at S.memories m on in
      (λ i. kept_true (at.1 i) (roll_kept t m on i)) ∙ sym (laws.memories_move S ρ m at.0 at.1 t).tells

  pub roll_defined : (section : Section) (t x : ℕ) → x < length S.vars
      → claim_true (list_state S ρ) (definition S section (list_frame S t) x) ≡ defined S section (look S ρ t) x (ρ t x)
  roll_defined section t x l =
      laws.definitions_say S (list_frame S t) σ section x
      ∙ ap (defined S section (view S (list_frame S t) σ) x) (roll_now t x l)
      ∙ defined_alike laws S (view S (list_frame S t) σ) (look S ρ t) section x (ρ t x) (λ r may. roll_same t r (may_there S section r may))

  pub kept_in_span : (t m : ℕ) (memory : tables.Memory) → slice_get S.memories m ≡ Some memory
      → IsWithin (span_of memory) (list_state S ρ (memo S (t * width S) m))
  kept_in_span t m memory is = subst (IsWithin (span_of memory)) (sym (roll_kept t m (slice_get_within S.memories m memory is)))
      (laws.memories_move S ρ m memory is t).in_span

  -- numbers of a reading in range are in their spans
  pub roll_spans : (n : ℕ) → ((t x : ℕ) (v : Var) → t < n → slice_get S.vars x ≡ Some v → IsWithin v.range (ρ t x))
      → InListSpans S n (list_state S ρ)
  roll_spans n ranges = record {
    values = λ t x v l is. subst (IsWithin v.range) (sym (roll_now t x (slice_get_within S.vars x v is))) (ranges t x v l is);
    kept = λ t m memory l is. kept_in_span t m memory is;
  }

  move_met : (t m : ℕ) (memory : tables.Memory) → slice_get S.memories m ≡ Some memory
      → claim_true (list_state S ρ) (move_of S (list_frame S t) m (Some memory)) ≡ true
  move_met t m memory is =
      let l = slice_get_within S.memories m memory is in
      laws.moves_say S (list_frame S t) σ m memory (kept_in_span (scan_before t) m memory is) (kept_in_span t m memory is)
      ∙ (λ i. moves S (first_begins laws S ρ t i) (view S (list_frame S t) σ) memory (roll_kept (scan_before t) m l i) (roll_kept t m l i))
      ∙ moves_read laws S (view S (list_frame S t) σ) (look S ρ t) memory
      (λ r k. roll_same t r (side_there S (side_of memory) r (S.sound.memories_read m memory r is k))) (begins S ρ t)
      (kept S ρ (scan_before t) m)
      (kept S ρ t m)
      ∙ (laws.memories_move S ρ m memory is t).comes

  clauses_met : (t : ℕ) (conds : List Cond)
      → ((k : ℕ) (c : Cond) (r : Read) → slice_get conds k ≡ Some c → Contains (cond_reads c) r → IsThere S r)
      → list_all (truth (look S ρ t)) conds ≡ true → list_all (claim_true (list_state S ρ)) (clauses_at S t conds) ≡ true
  clauses_met t conds reads all = every_image (claim_true σ) (claim_of S (list_frame S t)) conds (λ k c at.
      laws.conditions_say S (list_frame S t) σ c
      ∙ laws.same_truth (view S (list_frame S t) σ) (look S ρ t) c (λ r here. roll_same t r (reads k c r at here))
      ∙ at_place (truth (look S ρ t)) conds all k c at)

  -- the environment's clauses
  pub nat_met : (t : ℕ) → nat_at S ρ t ≡ true → list_all (claim_true (list_state S ρ)) (nat_claims S t) ≡ true
  nat_met t holds = of_moment (is_first t) (first_begins laws S ρ t) both.1
    where
      both : (list_all (truth (look S ρ t)) S.always ≡ true)
          × (list_all (truth (look S ρ t)) (cond (begins S ρ t) S.first S.step) ≡ true)
      both = and_parts (list_all (truth (look S ρ t)) S.always) (list_all (truth (look S ρ t)) (cond (begins S ρ t) S.first S.step)) holds

      always : list_all (claim_true (list_state S ρ)) (clauses_at S t S.always) ≡ true
      always = clauses_met t S.always (λ k c r at here. there S r (now_there S monitored r (S.sound.always_reads k c r at here))) both.0

      of_moment : (b : Bool) → b ≡ begins S ρ t → list_all (truth (look S ρ t)) (cond (begins S ρ t) S.first S.step) ≡ true
          → list_all (claim_true (list_state S ρ))
          (cond b (clauses_at S t S.first ++ clauses_at S t S.always) (clauses_at S t S.always ++ clauses_at S t S.step)) ≡ true
      of_moment true is rest = both_lists (claim_true σ) (clauses_at S t S.first) (clauses_at S t S.always)
          (clauses_met t S.first (λ k c r at here. there S r (now_there S monitored r (S.sound.first_reads k c r at here)))
          (subst (λ a. list_all (truth (look S ρ t)) (cond a S.first S.step) ≡ true) (sym is) rest)) always
      of_moment false is rest = both_lists (claim_true σ) (clauses_at S t S.always) (clauses_at S t S.step) always
          (clauses_met t S.step (λ k c r at here. step_there S monitored r (S.sound.step_reads k c r at here))
          (subst (λ a. list_all (truth (look S ρ t)) (cond a S.first S.step) ≡ true) (sym is) rest))

  pub roll_meets : (n : ℕ) → IsWhole S n ρ → MeetsScans S n (list_state S ρ)
  roll_meets n whole = record {
    spans = roll_spans n whole.ranges;
    inputs = λ t x v l is. roll_defined section.In t x (slice_get_within S.vars x v is.0) ∙ whole.inputs t l x v is;
    required = λ t x v l is. roll_defined section.Req t x (slice_get_within S.vars x v is.0) ∙ whole.required t l x v is;
    designed = λ t x v l is. roll_defined section.Sof t x (slice_get_within S.vars x v is.0) ∙ whole.designed t l x v is;
    moved = λ t m memory l is. move_met t m memory is;
    clauses = λ t l. nat_met t (whole.clauses t l);
  }

-- a controlled variable is one of the requirement's side
of_controlled : (x : ℕ) (v : Var) → controlled x v ≡ true → side_kinds side.Req x v ≡ true
of_controlled x v e = ap (λ b. monitored x v || (b || of_kind kind.ReqInner x v)) e ∙ or_true (monitored x v)
  where
    or_true : (b : Bool) → (b || true) ≡ true
    or_true true = refl
    or_true false = refl

never : (b : Bool) → (b ≡ true → ⊥) → b ≡ false
never true h = absurd (h refl)
never false h = refl

-- a list on which the sides first differ at scan k gives numbers that meet the formula of a difference
pub differs_meets : (laws : Laws) (S : Tables) → AllProper S → (h : Scans) (k : ℕ) (d : FirstDiffers S h k)
    → MeetsScans S (length h) (list_state S (joint S d.r d.s)) × MeetsDifference S k (list_state S (joint S d.r d.s))
differs_meets laws S proper h k d =
    let ρ = joint S d.r d.s in
    let reads = laws.runs_are_whole S h d.r d.i d.s d.runs.allowed d.runs.required.is d.runs.inputs.is d.runs.design.is in (
      roll_meets laws S ρ (length h) reads.whole,
      record {
        same_before = λ t y u l on.
            let inside : t < length h = let far = d.in_list in omega (arith, l, far) in
            roll_defined laws S ρ section.Out t y (slice_get_within S.vars y u on.0)
            ∙ ap (defined S section.Out (look S ρ t) y) (reads.as_required t y u inside (on.0, of_controlled y u on.1)
            ∙ d.same_before t l y u on)
            ∙ reads.gives d.c d.runs.outputs.is t y u inside on;
        variable = d.variable;
        declared = d.declared;
        is_controlled = d.is_controlled;
        differs = roll_defined laws S ρ section.Out k d.variable (slice_get_within S.vars d.variable d.declared d.is_controlled.0)
            ∙ never (defined S section.Out (look S ρ k) d.variable (ρ k d.variable)) (λ holds. d.differs
            (sym (reads.as_required k d.variable d.declared d.in_list
            (d.is_controlled.0, of_controlled d.variable d.declared d.is_controlled.1))
            ∙ reads.as_put_out proper d.c d.runs.outputs.is k d.variable d.declared (ρ k d.variable) d.in_list d.is_controlled holds));
      },
    )
