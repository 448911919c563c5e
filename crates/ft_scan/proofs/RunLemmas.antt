-- A memory that runs was told the same by readings that agree.
use Rattle.std.proofs.Common.{◌≡◌, ◌∙◌, sym, subst, ℕ, ◌<◌, slice_get, Some, true, arith}
use Rattle.std.specs.List.{Contains}
use Rattle.ft_core.specs.declared.tables.Tables.{Tables}
use Rattle.ft_core.specs.declared.tables.Side.{Side}
use Rattle.ft_core.specs.declared.tables.Memory.{Memory}
use Rattle.ft_core.specs.declared.tables.Memory.TheVariants.{Held, Hyst}
use Rattle.ft_core.specs.declared.term.Cond.{Cond}
use Rattle.ft_core.specs.declared.term.Term.{Term}
use Rattle.ft_core.specs.meaning.Reads.{Read, cond_reads, term_reads}
use Rattle.ft_mean.specs.meaning.Memory.{at_scan, memory_at, look}
use Rattle.ft_mean.specs.meaning.Reading.{Reading, begun, scan_before}
use Rattle.ft_mean.specs.meaning.Value.{truth, value}
use Rattle.ft_mean.specs.laws.EvaluationLaws.{Same}
use Rattle.ft_core.specs.checked.Sound.{on_side}
use Rattle.ft_scan.specs.declared.frame.Frame.{Frame}
use Rattle.ft_scan.specs.declared.frame.Running.{Running}
use Rattle.ft_scan.specs.declared.frame.Running.TheVariants.{Timer, Band}
use Rattle.ft_scan.specs.steps.Told.{WasToldSince, RunsFor}
use Rattle.ft_scan.specs.laws.Laws.{Laws}
use Rattle.ft_scan.proofs.SinceLemmas.{begun_alike}

module _ (L : Laws) (S : Tables) (a b : Reading) (n : ℕ) (same : (j x : ℕ) → j < n → a j x ≡ b j x) where
  -- what a side reads is the same at the scans before n
  look_alike : (s : Side) (j : ℕ) → j < n → (r : Read) → on_side S.vars S.memories s r ≡ true → Same (look S a j) (look S b j) r
  look_alike s j l r on = L.same_side S s a b j (λ i x v m of. same i x (omega (arith, l, m))) r on

  truth_alike : (s : Side) (c : Cond) → ((r : Read) → Contains (cond_reads c) r → on_side S.vars S.memories s r ≡ true) → (j : ℕ) → j < n
      → truth (at_scan S a (memory_at S a) j) c ≡ truth (at_scan S b (memory_at S b) j) c
  truth_alike s c on j l =
      L.same_truth (at_scan S a (memory_at S a) j) (look S a j) c (λ r k. L.ageless S s a j r (on r k))
      ∙ L.same_truth (look S a j) (look S b j) c (λ r k. look_alike s j l r (on r k))
      ∙ sym (L.same_truth (at_scan S b (memory_at S b) j) (look S b j) c (λ r k. L.ageless S s b j r (on r k)))

  value_alike : (s : Side) (e : Term) → ((r : Read) → Contains (term_reads e) r → on_side S.vars S.memories s r ≡ true) → (j : ℕ) → j < n
      → value (at_scan S a (memory_at S a) j) e ≡ value (at_scan S b (memory_at S b) j) e
  value_alike s e on j l =
      L.same_value (at_scan S a (memory_at S a) j) (look S a j) e (λ r k. L.ageless S s a j r (on r k))
      ∙ L.same_value (look S a j) (look S b j) e (λ r k. look_alike s j l r (on r k))
      ∙ sym (L.same_value (at_scan S b (memory_at S b) j) (look S b j) e (λ r k. L.ageless S s b j r (on r k)))

  told_alike : (from m : ℕ) (memory : Memory) (run : Running) → slice_get S.memories m ≡ Some memory → WasToldSince S a from n memory run
      → WasToldSince S b from n memory run
  told_alike from m (Held name s c hold) (Timer t) there told =
      (told.0, λ j low l. told.1 j low l ∙ truth_alike s c (λ r k. S.sound.memories_read m _ r there k) j l)
  told_alike from m (Hyst name s e lo hi start) (Band u) there told =
      (told.0, λ j low l. told.1 j low l ∙ value_alike s e (λ r k. S.sound.memories_read m _ r there k) j l)
  told_alike from m (Held name s c hold) (Band u) there told = absurd told
  told_alike from m (Hyst name s e lo hi start) (Timer t) there told = absurd told

  pub runs_alike : (m : ℕ) (frame : Frame) → RunsFor S a n m frame → RunsFor S b n m frame
  runs_alike m frame runs memory there =
      let at = runs memory there in (
        at.0,
        at.1,
        at.2,
        subst (λ from. WasToldSince S b from n memory at.0) ((begun_alike L) S a b (scan_before n))
            (told_alike (begun S a (scan_before n)) m memory at.0 there at.3),
      )
