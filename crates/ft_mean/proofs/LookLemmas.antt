-- What the look at a scan depends on: readings that agree on a side, or on the monitored variables, up to a scan.
use Rattle.std.proofs.Common.{◌≡◌, ◌∙◌, sym, ap, subst, ℕ, ◌+◌, Bool, true, false, ◌&&◌, cond, length, arith}
use Rattle.std.proofs.Common.{true≢false}
use Rattle.std.specs.Prelude.{IsTrue}
use Rattle.std.specs.List.{list_all}
use Rattle.ft_core.specs.declared.tables.Tables.{Tables}
use Rattle.ft_core.specs.declared.tables.Side.{Side}
use Rattle.ft_core.specs.declared.tables.Side.TheVariants as side
use Rattle.ft_core.specs.meaning.Kinds.{monitored, section_of}
use Rattle.ft_core.specs.meaning.Reads.{Read, at_now, at_before, of_memory, of_age}
use Rattle.ft_core.specs.checked.Sound.{on_side, may_read, now_of, step_of}
use Rattle.ft_mean.specs.meaning.Cells.{defined}
use Rattle.ft_mean.specs.laws.EvaluationLaws.{Same}
use Rattle.ft_mean.specs.laws.LookLaws.{MemoriesRemember, SidesReadNoAge, AgreeUpTo, SideLooksSame, SideFollowsSame, NatSame, LooksAreLocal}
use Rattle.ft_mean.specs.meaning.Memory.{look}
use Rattle.ft_mean.specs.meaning.Reading.{Reading, before, begins}
use Rattle.ft_mean.specs.meaning.Value.{truth}
use Rattle.ft_mean.proofs.BegunLemmas.{before_same}
use Rattle.ft_mean.proofs.ByScan.{clauses_alike}
use Rattle.ft_mean.proofs.MemoryLemmas.{memory_at-is, ageless, look_same, look_local}
use Rattle.ft_mean.proofs.OneScan.{on_side as defined_on_side}
use Rattle.ft_mean.proofs.SideLemmas.{var_of}
use Rattle.ft_mean.proofs.TableReads.{cells_may_read, defined_alike}
use Rattle.ft_mean.proofs.TimeLemmas.{same_time}
use Rattle.ft_mean.proofs.WellFormed.{opened, side_test, IsOf, IsWellFormed}

pub remember : MemoriesRemember
remember S = memory_at-is S (opened S).rank (opened S).order

pub side_ageless : SidesReadNoAge
side_ageless S s ρ t r on = ageless S (opened S) s ρ t r (side_test S s r on)

pub local : LooksAreLocal
local S ρ t range reads = look_local S (opened S) ρ t range reads

side_may : (S : Tables) (s : Side) (r : Read) → IsTrue (may_read S.vars S.memories (section_of s) r)
    → IsTrue (on_side S.vars S.memories s r)
side_may S side.Req r may = may
side_may S side.Sof r may = may

pub side_same : SideLooksSame
side_same S s a b t agree r may =
    let wf : IsWellFormed S = opened S in
    look_same S wf s a b t (λ j x l is. agree j x is.0 (omega (arith, l)) is.1) (length S.vars + length S.memories)
    (λ x is low. agree t x is.0 (omega arith) is.1) r (side_test S s r may) (λ current. wf.order.bounded r)

pub side_follows : SideFollowsSame
side_follows S s a b t agree follows x v is =
    subst (λ z. IsTrue (defined S (section_of s) (look S b t) x z)) (agree t x v (omega arith) (defined_on_side S (opened S) s x v is))
    (sym (defined_alike S (section_of s) (look S a t) (look S b t) x (a t x)
    (λ r c. side_same S s a b t agree r (side_may S s r (cells_may_read S (section_of s) x r c))))
    ∙ follows x v is)

module _ (S : Tables) (a b : Reading) (t : ℕ) (agree : AgreeUpTo S monitored a b t) where
  before_alike : (x : ℕ) → IsOf S monitored x → before S a t x ≡ before S b t x
  before_alike x is = before_same S a b t x (same_time S a b t) (λ j less. agree j x is.0 (omega (arith, less)) is.1)

  now_read : (r : Read) → now_of S.vars monitored r ≡ true → Same (look S a t) (look S b t) r
  now_read (at_now x) may = let is = var_of S monitored x may in agree t x is.0 (omega arith) is.1
  now_read (at_before x) may = absurd (true≢false (sym may))
  now_read (of_memory m) may = absurd (true≢false (sym may))
  now_read (of_age m) may = absurd (true≢false (sym may))

  step_read : (r : Read) → step_of S.vars monitored r ≡ true → Same (look S a t) (look S b t) r
  step_read (at_now x) may = let is = var_of S monitored x may in agree t x is.0 (omega arith) is.1
  step_read (at_before x) may = before_alike x (var_of S monitored x may)
  step_read (of_memory m) may = absurd (true≢false (sym may))
  step_read (of_age m) may = absurd (true≢false (sym may))

  rest : (new : Bool) → list_all (truth (look S a t)) S.first ≡ list_all (truth (look S b t)) S.first
      → list_all (truth (look S a t)) S.step ≡ list_all (truth (look S b t)) S.step
      → list_all (truth (look S a t)) (cond new S.first S.step) ≡ list_all (truth (look S b t)) (cond new S.first S.step)
  rest true first step = first
  rest false first step = step

pub nat_same : NatSame
nat_same S a b t agree =
    let always = clauses_alike (now_of S.vars monitored) S.always (look S a t) (look S b t) S.sound.always_reads (now_read S a b t agree) in
    let first = clauses_alike (now_of S.vars monitored) S.first (look S a t) (look S b t) S.sound.first_reads (now_read S a b t agree) in
    let step = clauses_alike (step_of S.vars monitored) S.step (look S a t) (look S b t) S.sound.step_reads (step_read S a b t agree) in
    (λ i. always i && list_all (truth (look S a t)) (cond (begins S a t) S.first S.step))
    ∙ ap (λ b'. list_all (truth (look S b t)) S.always && b')
    (ap (λ new. list_all (truth (look S a t)) (cond new S.first S.step)) (same_time S a b t).0
    ∙ rest S a b t agree (begins S b t) first step)
