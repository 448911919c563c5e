-- Each memory meets its own definition, sees only the scans and variables that it reads, and is linked to them.
use Rattle.std.proofs.Common.{◌≡◌, ◌∙◌, sym, ap, subst, refl, ℕ, zero, suc, ◌+◌, ◌<◌, ◌≤◌, ℤ, Bool, length, List, Option, Some, None, pos}
use Rattle.std.proofs.Common.{slice_get, arith, ⊎_elim}
use Rattle.std.specs.Prelude.{IsTrue, int_le}
use Rattle.ft_mean.specs.meaning.Past.{held, hyst}
use Rattle.std.specs.List.{Contains}
use Rattle.std.proofs.lemmas.Bool.{cases_lt}
use Rattle.ft_base.specs.Interval.{IsWithin}
use Rattle.ft_core.specs.declared.tables.Tables.{Tables}
use Rattle.ft_core.specs.declared.tables.Var.{Var}
use Rattle.ft_core.specs.declared.tables.Side.{Side}
use Rattle.ft_core.specs.declared.tables.Memory as tables
use Rattle.ft_core.specs.declared.tables.Memory.TheVariants.{Held, Hyst}
use Rattle.ft_core.specs.meaning.Kinds.{side_kinds}
use Rattle.ft_core.specs.meaning.Reads.{Read, at_now, at_before, of_memory, of_age, memory_reads}
use Rattle.ft_core.specs.checked.Sound.{is_current}
use Rattle.ft_mean.specs.meaning.Value.{truth, value}
use Rattle.ft_mean.specs.meaning.Reading.{Reading, before, begun, since}
use Rattle.ft_mean.specs.meaning.Memory.{at_scan, remembered, memory_within, memory_at, look}
use Rattle.ft_mean.specs.meaning.Proper.{IsLinked, IsLocal}
use Rattle.ft_mean.proofs.WellFormed.{opened, IsOf, OnSide, IsOrder, IsWellFormed}
use Rattle.ft_mean.proofs.Agree.{Same, AllSame, same_truth, same_value}
use Rattle.ft_mean.proofs.TimeLemmas.{begun_low, SameTime, same_time}
use Rattle.ft_mean.proofs.BegunLemmas.{begun_same, since_same, before_same, before_by}
use Rattle.ft_mean.proofs.PastLemmas.{same_held, same_ago, same_hyst, held_now, hyst_up, hyst_down}

same_remembered : (S : Tables) (a b : Reading) (inner outer : ℕ → ℕ → Bool) (o : Option tables.Memory) (t : ℕ)
    → ((j : ℕ) → j ≤ t → SameTime S a b j) → ((j : ℕ) → j ≤ t → AllSame (at_scan S a inner j) (at_scan S b outer j) (memory_reads o))
    → remembered S a inner o t ≡ remembered S b outer o t
same_remembered S a b inner outer None t times h = refl
same_remembered S a b inner outer (Some (Held name side c hold)) t times h =
    same_held (begun S a t) (λ j. since S a j t) hold (λ j. truth (at_scan S a inner j) c) (λ j. truth (at_scan S b outer j) c) t
    (λ j l. same_truth (at_scan S a inner j) (at_scan S b outer j) c (h j l))
    ∙ same_ago (begun S a t) (λ j. since S a j t) (λ j. since S b j t) hold (λ j. truth (at_scan S b outer j) c) t
    (λ j l. since_same S a b (opened S).goes_on j t l times)
    ∙ ap (λ from. held from (λ j. since S b j t) hold (λ j. truth (at_scan S b outer j) c) t) (begun_same S a b t times)
same_remembered S a b inner outer (Some (Hyst name side e lo hi start)) t times h =
    same_hyst (begun S a t) lo hi start (λ j. value (at_scan S a inner j) e) (λ j. value (at_scan S b outer j) e) t
    (λ j l. same_value (at_scan S a inner j) (at_scan S b outer j) e (h j l))
    ∙ ap (λ from. hyst from lo hi start (λ j. value (at_scan S b outer j) e) t) (begun_same S a b t times)

module _ (S : Tables) (rank : Read → ℕ) (order : IsOrder S rank) where
  abbrev IsSettled : Reading → ℕ → Type 0
  IsSettled a n = (m t : ℕ) → rank (of_memory m) < n → memory_within n S a m t ≡ memory_within (suc n) S a m t

  settled_read : (a : Reading) (n : ℕ) → IsSettled a n → (m j : ℕ) → rank (of_memory m) < suc n → (r : Read)
      → Contains (memory_reads (slice_get S.memories m)) r → Same (at_scan S a (memory_within n S a) j)
      (at_scan S a (memory_within (suc n) S a) j) r
  settled_read a n past m j below (at_now x) c = refl
  settled_read a n past m j below (at_before x) c = refl
  settled_read a n past m j below (of_memory k) c = past k j (omega (arith, order.memories m (of_memory k) c refl, below))
  settled_read a n past m j below (of_age k) c = refl

  settled : (a : Reading) (n : ℕ) → IsSettled a n
  unfolding memory_within
  settled a zero m t h = absurd (omega (arith, h))
  settled a (suc n) m t h =
      same_remembered S a a (memory_within n S a) (memory_within (suc n) S a) (slice_get S.memories m) t (λ j l. same_time S a a j)
      (λ j l. settled_read a n (settled a n) m j h)

  -- the equation of a memory
  pub memory_at-is : (a : Reading) (m t : ℕ) → memory_at S a m t ≡ remembered S a (memory_at S a) (slice_get S.memories m) t
  unfolding memory_within
  memory_at-is a m t = settled a (length S.vars + length S.memories) m t (order.bounded (of_memory m))

module _ (S : Tables) (wf : IsWellFormed S) where
  memory_side : (s : Side) (m : ℕ) → OnSide S s (of_memory m) → (r : Read) → Contains (memory_reads (slice_get S.memories m)) r
      → OnSide S s r
  memory_side s m on r c =
      subst (λ s. OnSide S s r) on.2 (wf.memories_read m on.0 r on.1 (subst (λ o. Contains (memory_reads o) r) on.1 c))

  -- readings that agree on a side before scan t, and at it up to a rank, agree on all of the side of a lower rank
  module _ (s : Side) (a b : Reading) (t : ℕ) (past : (j x : ℕ) → j < t → IsOf S (side_kinds s) x → a j x ≡ b j x) where
    same_before : (j x : ℕ) → j ≤ t → IsOf S (side_kinds s) x → before S a j x ≡ before S b j x
    same_before j x l on = before_same S a b j x (same_time S a b j) (λ i less. past i x (omega (arith, less, l)) on)

    module _ (k : ℕ) (now : (x : ℕ) → IsOf S (side_kinds s) x → wf.rank (at_now x) < k → a t x ≡ b t x) where
      same_now : (j x : ℕ) → j ≤ t → IsOf S (side_kinds s) x → wf.rank (at_now x) < k → a j x ≡ b j x
      same_now j x l on low = ⊎_elim
          (λ less. past j x less on)
          (λ most. let is : t ≡ j = omega (arith, l, most) in subst (λ i. a i x ≡ b i x) is (now x on low))
          (cases_lt j t)

      read_same : (n : ℕ) → n ≤ k → (m : ℕ) → OnSide S s (of_memory m) → wf.rank (of_memory m) < suc n
          → ((q i : ℕ) → OnSide S s (of_memory q) → wf.rank (of_memory q) < n → i ≤ t → memory_at S a q i ≡ memory_at S b q i)
          → (i : ℕ) → i ≤ t → (r : Read) → Contains (memory_reads (slice_get S.memories m)) r
          → Same (at_scan S a (memory_at S a) i) (at_scan S b (memory_at S b) i) r
      read_same n top m on low deeper i l (at_now x) c =
          same_now i x l (memory_side s m on (at_now x) c) (omega (arith, wf.order.memories m (at_now x) c refl, low, top))
      read_same n top m on low deeper i l (at_before x) c = same_before i x l (memory_side s m on (at_before x) c)
      read_same n top m on low deeper i l (of_memory q) c =
          deeper q i (memory_side s m on (of_memory q) c) (omega (arith, wf.order.memories m (of_memory q) c refl, low)) l
      read_same n top m on low deeper i l (of_age q) c = absurd (memory_side s m on (of_age q) c)

      same_memory : (n : ℕ) → n ≤ k → (m j : ℕ) → OnSide S s (of_memory m) → wf.rank (of_memory m) < n → j ≤ t → memory_at S a m j
          ≡ memory_at S b m j
      same_memory zero top m j on low l = absurd (omega (arith, low))
      same_memory (suc n) top m j on low l =
          memory_at-is S wf.rank wf.order a m j
          ∙ same_remembered S a b (memory_at S a) (memory_at S b) (slice_get S.memories m) j (λ i l'. same_time S a b i)
          (λ i l' r c. read_same n (omega (arith, top)) m on low (λ q i' o below m'. same_memory n (omega (arith, top)) q i' o below m') i
          (omega (arith, l, l')) r c)
          ∙ sym (memory_at-is S wf.rank wf.order b m j)

      pub look_same : (r : Read) → OnSide S s r → (IsTrue (is_current r) → wf.rank r < k) → Same (look S a t) (look S b t) r
      look_same (at_now x) on low = now x on (low refl)
      look_same (at_before x) on low = same_before t x (omega arith) on
      look_same (of_memory m) on low = same_memory k (omega arith) m t on (low refl) (omega arith)
      look_same (of_age m) on low = absurd on

  -- what is on a side reads no age
  pub ageless : (s : Side) (a : Reading) (t : ℕ) (r : Read) → OnSide S s r → Same (at_scan S a (memory_at S a) t) (look S a t) r
  ageless s a t (at_now x) on = refl
  ageless s a t (at_before x) on = refl
  ageless s a t (of_memory m) on = refl
  ageless s a t (of_age m) on = absurd on

  -- what a reading tells of a memory is linked
  pub linked : (a : Reading) (t m : ℕ) (memory : tables.Memory) → slice_get S.memories m ≡ Some memory → IsLinked (look S a t) m memory
  linked a t m (Held name side c hold) there = λ e.
      sym (same_truth (at_scan S a (memory_at S a) t) (look S a t) c (λ r k. ageless side a t r (wf.memories_read m _ r there k)))
      ∙ held_now (begun S a t) (λ j. since S a j t) hold (λ j. truth (at_scan S a (memory_at S a) j) c) t
      (sym (memory_at-is S wf.rank wf.order a m t ∙ ap (λ o. remembered S a (memory_at S a) o t) there) ∙ e)
  linked a t m (Hyst name side e lo hi start) there =
      let same = same_value (at_scan S a (memory_at S a) t) (look S a t) e (λ r k. ageless side a t r (wf.memories_read m _ r there k)) in
      let is = memory_at-is S wf.rank wf.order a m t ∙ ap (λ o. remembered S a (memory_at S a) o t) there in (
        (λ up. is ∙ hyst_up (begun S a t) lo hi start (λ j. value (at_scan S a (memory_at S a) j) e) t (begun_low S a t)
            (ap (int_le hi) same ∙ up)),
        (λ down. is ∙ hyst_down (begun S a t) lo hi start (λ j. value (at_scan S a (memory_at S a) j) e) t (begun_low S a t)
            (wf.sound m _ there) (ap (λ z. int_le z lo) same ∙ down)),
      )

  range_before : (a : Reading) (t : ℕ) → ((j x : ℕ) (v : Var) → j ≤ t → slice_get S.vars x ≡ Some v → IsWithin v.range (a j x))
      → (x : ℕ) (v : Var) → slice_get S.vars x ≡ Some v → IsWithin v.range (before S a t x)
  range_before a t range x v is = before_by S a (IsWithin v.range) t x
      (subst (λ o. IsWithin v.range (elim o as (λ z. ℤ) [ None ↦ pos 0 | Some u ↦ u.init ])) (sym is) (wf.inits x v is))
      (λ k at. range k x v (omega (arith, at)) is)

  -- a reading in range gives a local view at each of its scans
  pub look_local : (a : Reading) (t : ℕ) → ((j x : ℕ) (v : Var) → j ≤ t → slice_get S.vars x ≡ Some v → IsWithin v.range (a j x))
      → (reads : List Read) → IsLocal S reads (look S a t)
  look_local a t range reads = record {
    now = λ x v is. range t x v (omega arith) is;
    before = λ x v is. range_before a t range x v is;
    linked = λ m memory there by. linked a t m memory there;
  }
