-- The numbers of the names of two scans along a reading: what they tell of each scan, and that each is in its span.
use Rattle.std.proofs.Common.{◌≡◌, ◌∙◌, sym, ap, subst, refl, ℕ, zero, suc, ◌+◌, ◌<◌, ◌≤◌, ℤ, pos, Bool, true, false, cond, length, Option}
use Rattle.std.proofs.Common.{Some, None, slice_get, arith}
use Rattle.std.proofs.lemmas.Int.{ints}
use Rattle.std.proofs.lemmas.Bool.{cond-false}
use Rattle.std.proofs.lemmas.Option.{slice_get_within}
use Rattle.ft_base.specs.Interval.{IsWithin}
use Rattle.ft_core.specs.declared.tables.Tables.{Tables}
use Rattle.ft_core.specs.declared.tables.Var.{Var}
use Rattle.ft_core.specs.declared.tables.Memory.{Memory}
use Rattle.ft_core.specs.declared.tables.Memory.TheVariants.{Held, Hyst}
use Rattle.ft_core.specs.laws.Places.{some-at}
use Rattle.ft_core.specs.meaning.Reads.{Read, at_now, at_before, of_memory, of_age}
use Rattle.ft_mean.specs.laws.EvaluationLaws.{Same}
use Rattle.ft_mean.specs.laws.Moves.{span_of}
use Rattle.ft_mean.specs.meaning.Memory.{kept, look}
use Rattle.ft_mean.specs.meaning.Reading.{Reading, begins, before, scan_before, init_of}
use Rattle.ft_claims.specs.laws.GoodLaws.{IsThere}
use Rattle.ft_claims.specs.laws.ValueLaws.{AreMade}
use Rattle.ft_claims.specs.meaning.Names.{width, memo, view, kept_true}
use Rattle.ft_claims.specs.meaning.Spans.{InSpans}
use Rattle.ft_oblige.specs.laws.ReadsThere.{IsOfScan}
use Rattle.ft_oblige.specs.meaning.Blocks.{now_frame, past_frame}
use Rattle.ft_oblige.specs.meaning.States.{least_kept, kept_before, state_of}
use Rattle.ft_compose.specs.laws.Laws.{Laws}

module _ (laws : Laws) (S : Tables) (ρ : Reading) (t : ℕ) where
  made : AreMade S (ρ t) (kept S ρ t) (before S ρ t) (kept_before S ρ t)
  made = laws.numbers_are_made S (ρ t) (kept S ρ t) (before S ρ t) (kept_before S ρ t)

  pub state_now : (x : ℕ) → x < length S.vars → state_of S ρ t (0 + x) ≡ ρ t x
  state_now = made.is_now

  pub state_kept : (m : ℕ) → m < length S.memories → state_of S ρ t (memo S 0 m) ≡ kept S ρ t m
  state_kept = made.is_kept

  pub state_before : (x : ℕ) → x < length S.vars → state_of S ρ t (width S + x) ≡ before S ρ t x
  state_before = made.is_past

  pub state_kept_before : (m : ℕ) → state_of S ρ t (memo S (width S) m) ≡ kept_before S ρ t m
  state_kept_before = made.is_kept_past

  twice : (b : Bool) (y z : ℤ) → cond b y (cond b y z) ≡ cond b y z
  twice true y z = refl
  twice false y z = refl

  -- what the numbers tell of the scan is what every name stands for there
  pub now_same : (r : Read) → IsThere S r → Same (view S (now_frame S (begins S ρ t)) (state_of S ρ t)) (look S ρ t) r
  now_same (at_now x) on = state_now x on
  now_same (at_before x) on =
      ap (cond (begins S ρ t) (init_of S x)) (state_before x on) ∙ twice (begins S ρ t) (init_of S x) (ρ (scan_before t) x)
  now_same (of_age m) on = state_kept m on
  now_same (of_memory m) on =
      let memory = some-at S.memories m on in
      (λ i. kept_true (memory.1 i) (state_kept m on i)) ∙ sym (laws.memories_move S ρ m memory.0 memory.1 t).tells

-- and of the scan before, where there is one
module _ (laws : Laws) (S : Tables) (ρ : Reading) (t : ℕ) (later : begins S ρ (suc t) ≡ false) where
  pub past_value : (x : ℕ) → before S ρ (suc t) x ≡ ρ t x
  past_value x = cond-false (begins S ρ (suc t)) (init_of S x) (ρ t x) later

  past_kept : (m : ℕ) → kept_before S ρ (suc t) m ≡ kept S ρ t m
  past_kept m = cond-false (begins S ρ (suc t)) (least_kept (slice_get S.memories m)) (kept S ρ t m) later

  pub past_same : (r : Read) → IsOfScan S r → Same (view S (past_frame S) (state_of S ρ (suc t))) (look S ρ t) r
  past_same (at_now x) on = state_before laws S ρ (suc t) x on ∙ past_value x
  past_same (at_before x) on = absurd on
  past_same (of_age m) on = state_kept_before laws S ρ (suc t) m ∙ past_kept m
  past_same (of_memory m) on =
      let memory = some-at S.memories m on in
      (λ i. kept_true (memory.1 i) ((state_kept_before laws S ρ (suc t) m ∙ past_kept m) i))
      ∙ sym (laws.memories_move S ρ m memory.0 memory.1 t).tells

-- the least number of a memory is one that it keeps
least_within : (S : Tables) (m : ℕ) (memory : Memory) → slice_get S.memories m ≡ Some memory
    → IsWithin (span_of memory) (least_kept (Some memory))
least_within S m (Held name s c hold) is =
    let low = (S.sound.timers m name s c hold is).0 in (omega (arith, ints), omega (arith, ints, low))
least_within S m (Hyst name s e lo hi start) is = (omega (arith, ints), omega (arith, ints))

module _ (laws : Laws) (S : Tables) (ρ : Reading) (t : ℕ)
    (ranges : (j x : ℕ) (v : Var) → j ≤ t → slice_get S.vars x ≡ Some v → IsWithin v.range (ρ j x)) where
  init_is : (x : ℕ) (v : Var) → slice_get S.vars x ≡ Some v → init_of S x ≡ v.init
  init_is x v is = ap (λ (o : Option Var). elim o as (λ z. ℤ) [ None ↦ pos 0 | Some u ↦ u.init ]) is

  before_within : (x : ℕ) (v : Var) → slice_get S.vars x ≡ Some v → (b : Bool)
      → IsWithin v.range (cond b (init_of S x) (ρ (scan_before t) x))
  before_within x v is true = subst (IsWithin v.range) (sym (init_is x v is)) (S.sound.inits x v is)
  before_within x v is false = ranges (scan_before t) x v (low t) is
    where
      low : (t : ℕ) → scan_before t ≤ t
      low zero = omega arith
      low (suc t) = omega arith

  kept_within : (m : ℕ) (memory : Memory) → slice_get S.memories m ≡ Some memory → (b : Bool)
      → IsWithin (span_of memory) (cond b (least_kept (slice_get S.memories m)) (kept S ρ (scan_before t) m))
  kept_within m memory is true = subst (λ o. IsWithin (span_of memory) (least_kept o)) (sym is) (least_within S m memory is)
  kept_within m memory is false = (laws.memories_move S ρ m memory is (scan_before t)).in_span

  -- each number is in its span
  pub state_within : InSpans S (state_of S ρ t)
  state_within = record {
    now = λ x v is. subst (IsWithin v.range) (sym (state_now laws S ρ t x (slice_get_within S.vars x v is)))
        (ranges t x v (omega arith) is);
    kept_now = λ m memory is. subst (IsWithin (span_of memory))
        (sym (state_kept laws S ρ t m (slice_get_within S.memories m memory is))) (laws.memories_move S ρ m memory is t).in_span;
    past = λ x v is. subst (IsWithin v.range) (sym (state_before laws S ρ t x (slice_get_within S.vars x v is)))
        (before_within x v is (begins S ρ t));
    kept_past = λ m memory is. subst (IsWithin (span_of memory)) (sym (state_kept_before laws S ρ t m))
        (kept_within m memory is (begins S ρ t));
  }
