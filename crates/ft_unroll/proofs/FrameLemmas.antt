-- The frames of the scans of a list: where a scan begins, and what numbers tell there of the reading that they are.
use Rattle.std.proofs.Common.{◌≡◌, sym, ap, refl, ℕ, zero, suc, ◌+◌, ◌*◌, ℤ, pos, Bool, true, false, cond, Some}
use Rattle.std.proofs.Common.{true≢false}
use Rattle.std.specs.Prelude.{IsTrue}
use Rattle.std.specs.List.{Contains}
use Rattle.std.specs.Ordering.{int_eq}
use Rattle.ft_core.specs.declared.tables.Tables.{Tables}
use Rattle.ft_core.specs.declared.tables.Memory as tables
use Rattle.ft_core.specs.declared.tables.Memory.TheVariants.{Held, Hyst}
use Rattle.ft_core.specs.declared.tables.Section.{Section}
use Rattle.ft_core.specs.checked.Sound.{may_read}
use Rattle.ft_core.specs.meaning.Kinds.{Kinds}
use Rattle.ft_core.specs.meaning.Reads.{Read, at_now, at_before, of_memory, of_age, memory_reads}
use Rattle.ft_core.specs.checked.Sound.{now_of, step_of}
use Rattle.ft_mean.specs.laws.EvaluationLaws.{Same}
use Rattle.ft_mean.specs.laws.Moves.{moves, age_begins, age_goes_on, bit_goes_on}
use Rattle.ft_mean.specs.meaning.Cells.{defined}
use Rattle.ft_mean.specs.meaning.Memory.{look}
use Rattle.ft_mean.specs.meaning.Reading.{Reading, begins, before, elapsed, scan_before, init_of}
use Rattle.ft_mean.specs.meaning.Value.{View}
use Rattle.ft_claims.specs.meaning.Names.{width, view}
use Rattle.ft_oblige.specs.meaning.Lists.{is_first, list_frame}
use Rattle.ft_unroll.specs.laws.Laws.{Laws}
use Rattle.ft_unroll.specs.meaning.Unrolling.{reading_by}

-- a scan of a list begins where that of a reading does
pub first_begins : (laws : Laws) (S : Tables) (ρ : Reading) (t : ℕ) → is_first t ≡ begins S ρ t
first_begins laws S ρ zero = sym (laws.begins_first S ρ)
first_begins laws S ρ (suc t) = sym (laws.begins_once S ρ t)

-- each variable one scan before is as along the reading
pub before_same : (laws : Laws) (S : Tables) (σ : ℕ → ℤ) (t x : ℕ) → (view S (list_frame S t) σ).before x ≡ before S (reading_by S σ) t x
before_same laws S σ t x = ap (λ b. cond b (init_of S x) (σ (scan_before t * width S + x))) (first_begins laws S (reading_by S σ) t)

-- what the environment's clauses read
pub clause_same : (laws : Laws) (S : Tables) (σ : ℕ → ℤ) (t : ℕ) (kinds : Kinds) (r : Read) → IsTrue (step_of S.vars kinds r)
    → Same (view S (list_frame S t) σ) (look S (reading_by S σ) t) r
clause_same laws S σ t kinds (at_now x) may = refl
clause_same laws S σ t kinds (at_before x) may = before_same laws S σ t x
clause_same laws S σ t kinds (of_memory m) may = absurd (true≢false (sym may))
clause_same laws S σ t kinds (of_age m) may = absurd (true≢false (sym may))

-- what may be read at a scan alone may be read at a step
pub now_is_step : (S : Tables) (kinds : Kinds) (r : Read) → IsTrue (now_of S.vars kinds r) → IsTrue (step_of S.vars kinds r)
now_is_step S kinds (at_now x) may = may
now_is_step S kinds (at_before x) may = absurd (true≢false (sym may))
now_is_step S kinds (of_memory m) may = absurd (true≢false (sym may))
now_is_step S kinds (of_age m) may = absurd (true≢false (sym may))

-- a section defines alike at views that agree on what it may read
pub defined_alike : (laws : Laws) (S : Tables) (V W : View) (section : Section) (x : ℕ) (z : ℤ)
    → ((r : Read) → IsTrue (may_read S.vars S.memories section r) → Same V W r) → defined S section V x z ≡ defined S section W x z
defined_alike laws S V W section x z same = laws.same_defined S section V W x z (λ r c. same r (laws.may_read S section x r c))

-- and a memory moves alike there
pub moves_read : (laws : Laws) (S : Tables) (V W : View) (memory : tables.Memory)
    → ((r : Read) → Contains (memory_reads (Some memory)) r → Same V W r) → (anew : Bool) (a b : ℤ)
    → moves S anew V memory a b ≡ moves S anew W memory a b
moves_read laws S V W (Held name s c hold) same anew a b =
    ap (λ t. cond anew (age_begins t b) (age_goes_on (elapsed S V.now) hold t a b)) (laws.same_truth V W c same)
moves_read laws S V W (Hyst name s e lo hi start) same anew a b =
    ap (λ z. bit_goes_on lo hi z (cond anew start (int_eq a (pos 1))) (int_eq b (pos 1))) (laws.same_value V W e same)

-- where a scan begins, nothing kept before counts
pub moves_from : (S : Tables) (b : Bool) (V : View) (memory : tables.Memory) (past kept now : ℤ) → (b ≡ false → past ≡ kept)
    → moves S b V memory past now ≡ moves S b V memory kept now
moves_from S true V (Held name side c hold) past kept now same = refl
moves_from S true V (Hyst name side e lo hi start) past kept now same = refl
moves_from S false V memory past kept now same = ap (λ z. moves S false V memory z now) (same refl)
