-- Memories that are found one after another until nothing is left to read.
use Rattle.std.proofs.Common.{◌≡◌, ◌∙◌, sym, ap, subst, refl, ℕ, zero, suc, ◌+◌, ◌<◌, ◌≤◌, Bool, true, false, List, [], ◌∷◌, ◌++◌, length}
use Rattle.std.proofs.Common.{replicate, Option, Some, None, slice_get, slice_set, get_or, arith, ⊎_elim, Contains}
use Rattle.std.specs.Prelude.{slice_index_or}
use Rattle.std.proofs.lemmas.Bool.{cases_Bool, cases_eq, cases_lt, cond-true, cond-false, cond_both, true≢false}
use Rattle.std.proofs.lemmas.List.{length_push, length-set, length-replicate}
use Rattle.std.proofs.lemmas.Option.{none-some, same_Some, slice_get_past, slice_get_within, get_or_from_slice_get}
use Rattle.ft_core.specs.declared.tables.Tables.{Tables}
use Rattle.ft_core.specs.declared.tables.Memory.{Memory}
use Rattle.ft_core.specs.laws.Places.{at-end, contained, none-at, of-push, of-replicate, of-set, on-left, one-at, place-of, set-here, set-there, some-at}
use Rattle.ft_core.specs.meaning.Reads.{Read, at_now, at_before, of_memory, of_age, memory_reads}
use Rattle.ft_mean.specs.meaning.Proper.{ReadsThrough, ReadsMemory}
use Rattle.ft_oblige.specs.declared.reading.Found.{Found}
use Rattle.ft_oblige.specs.building.Finding.{Finds, FindsAll, Follows, IsFresh, reads_next, with_memory, with_read, with_reads}

-- how many aren't marked
abbrev unmarked : List Bool → ℕ
unmarked [] = 0
unmarked (true ∷ marks) = unmarked marks
unmarked (false ∷ marks) = suc (unmarked marks)

one-less : (marks : List Bool) (m : ℕ) → slice_get marks m ≡ Some false → suc (unmarked (slice_set marks m true)) ≡ unmarked marks
one-less [] m is = absurd (none-some false is)
one-less (true ∷ marks) zero is = absurd (true≢false (same_Some true false is))
one-less (false ∷ marks) zero is = refl
one-less (true ∷ marks) (suc m) is = one-less marks m is
one-less (false ∷ marks) (suc m) is = ap suc (one-less marks m is)

all-unmarked : (n : ℕ) → unmarked (replicate n false) ≡ n
all-unmarked zero = refl
all-unmarked (suc n) = ap suc (all-unmarked n)

-- what is found stays found
pub record Grows (f g : Found) : Type 0 where
  pub marks : (m : ℕ) → slice_get f.marks m ≡ Some true → slice_get g.marks m ≡ Some true
  pub list : (j m : ℕ) → slice_get f.list j ≡ Some m → slice_get g.list j ≡ Some m
  pub long : length g.marks ≡ length f.marks

same-grows : (f : Found) → Grows f f
same-grows f = record { marks = λ m is. is; list = λ j m is. is; long = refl }

grows-on : (f g h : Found) → Grows f g → Grows g h → Grows f h
grows-on f g h a b = record {
  marks = λ m is. b.marks m (a.marks m is);
  list = λ j m is. b.list j m (a.list j m is);
  long = b.long ∙ a.long;
}

abbrev more : Found → ℕ → Found
more f m = record { marks = slice_set f.marks m true; list = f.list ++ m ∷ [] }

more-grows : (f : Found) (m : ℕ) → Grows f (more f m)
more-grows f m = record {
  marks = λ k is. ⊎_elim
      (λ same. subst (λ j. slice_get (slice_set f.marks m true) j ≡ Some true) (sym same)
      (set-here f.marks m true (subst (λ j. j < length f.marks) same (slice_get_within f.marks k true is))))
      (λ other. set-there f.marks m true k other ∙ is)
      (cases_eq k m);
  list = λ j k is. on-left f.list (m ∷ []) j k is;
  long = length-set f.marks m true;
}

memory-grows : (f : Found) (m : ℕ) → Grows f (with_memory f m)
memory-grows f m = cond_both (slice_index_or f.marks m true) f (more f m) (Grows f) (λ is. same-grows f) (λ isnt. more-grows f m)

read-grows : (f : Found) (r : Read) → Grows f (with_read f r)
read-grows f (at_now x) = same-grows f
read-grows f (at_before x) = same-grows f
read-grows f (of_memory m) = memory-grows f m
read-grows f (of_age m) = same-grows f

reads-grow : (rs : List Read) (f : Found) → Grows f (with_reads f rs)
reads-grow [] f = same-grows f
reads-grow (r ∷ rs) f = grows-on f (with_read f r) (with_reads (with_read f r) rs) (read-grows f r) (reads-grow rs (with_read f r))

open-at : (marks : List Bool) (m : ℕ) → slice_index_or marks m true ≡ false → slice_get marks m ≡ Some false
open-at [] m is = absurd (true≢false is)
open-at (b ∷ marks) zero is = ap Some is
open-at (b ∷ marks) (suc m) is = open-at marks m is

closed-at : (marks : List Bool) (m : ℕ) → m < length marks → slice_index_or marks m true ≡ true → slice_get marks m ≡ Some true
closed-at [] m l is = absurd (omega (arith, l))
closed-at (b ∷ marks) zero l is = ap Some is
closed-at (b ∷ marks) (suc m) l is = closed-at marks m (omega (arith, l)) is

memory-marked : (f : Found) (m : ℕ) → m < length f.marks → slice_get (with_memory f m).marks m ≡ Some true
memory-marked f m l = cond_both (slice_index_or f.marks m true) f (more f m) (λ (g : Found). slice_get g.marks m ≡ Some true)
    (λ is. closed-at f.marks m l is) (λ isnt. set-here f.marks m true l)

reads-marked : (rs : List Read) (f : Found) (i m : ℕ) → slice_get rs i ≡ Some (of_memory m) → m < length f.marks
    → slice_get (with_reads f rs).marks m ≡ Some true
reads-marked [] f i m is l = absurd (none-some (of_memory m) is)
reads-marked (r ∷ rs) f zero m is l =
    (reads-grow rs (with_read f r)).marks m (subst (λ q. slice_get (with_read f q).marks m ≡ Some true) (sym (same_Some r (of_memory m) is))
    (memory-marked f m l))
reads-marked (r ∷ rs) f (suc i) m is l = reads-marked rs (with_read f r) i m is (subst (λ n. m < n) (sym (read-grows f r).long) l)

module _ (S : Tables) (reads : List Read) where
  -- what was found is what is read, each once
  pub record IsKept (f : Found) : Type 0 where
    pub long : length f.marks ≡ length S.memories
    pub only : (m : ℕ) → slice_get f.marks m ≡ Some true → ReadsMemory S reads m
    pub listed : (m : ℕ) → slice_get f.marks m ≡ Some true → (j : ℕ) × (slice_get f.list j ≡ Some m)
    pub read : (j m : ℕ) → slice_get f.list j ≡ Some m → ReadsMemory S reads m
    pub few : length f.list + unmarked f.marks ≡ length S.memories

  more-kept : (f : Found) (m : ℕ) → IsKept f → slice_get f.marks m ≡ Some false → ReadsMemory S reads m → IsKept (more f m)
  more-kept f m kept free read = record {
    long = length-set f.marks m true ∙ kept.long;
    only = λ k is. ⊎_elim
        (λ same. subst (ReadsMemory S reads) (sym same.0) read)
        (λ other. kept.only k other.1)
        (of-set f.marks m true k true is);
    listed = λ k is. ⊎_elim
        (λ same. (length f.list, subst (λ j. slice_get (f.list ++ m ∷ []) (length f.list) ≡ Some j) (sym same.0) (at-end f.list m)))
        (λ other. let at = kept.listed k other.1 in (at.0, on-left f.list (m ∷ []) at.0 k at.1))
        (of-set f.marks m true k true is);
    read = λ j k is. ⊎_elim
        (λ old. kept.read j k old)
        (λ new. subst (ReadsMemory S reads) new.1 read)
        (of-push f.list m j k is);
    few =
        let less = one-less f.marks m free in
        let longer = length_push f.list m in
        let before = kept.few in
        omega (arith, less, longer, before);
  }

  memory-kept : (f : Found) (m : ℕ) → IsKept f → ReadsMemory S reads m → IsKept (with_memory f m)
  memory-kept f m kept read = cond_both (slice_index_or f.marks m true) f (more f m) IsKept (λ is. kept)
      (λ isnt. more-kept f m kept (open-at f.marks m isnt) read)

  reads-kept : (rs : List Read) (f : Found) → ((i m : ℕ) → slice_get rs i ≡ Some (of_memory m) → ReadsMemory S reads m) → IsKept f
      → IsKept (with_reads f rs)
  reads-kept [] f read kept = kept
  reads-kept (at_now x ∷ rs) f read kept = reads-kept rs f (λ i m is. read (suc i) m is) kept
  reads-kept (at_before x ∷ rs) f read kept = reads-kept rs f (λ i m is. read (suc i) m is) kept
  reads-kept (of_age x ∷ rs) f read kept = reads-kept rs f (λ i m is. read (suc i) m is) kept
  reads-kept (of_memory x ∷ rs) f read kept = reads-kept rs (with_memory f x) (λ i m is. read (suc i) m is)
      (memory-kept f x kept (read zero x refl))

  -- what a memory that is read reads itself is read
  through : (n : ℕ) (rs : List Read) (m k : ℕ) → ReadsThrough n S rs m → Contains (memory_reads (slice_get S.memories m)) (of_memory k)
      → ReadsThrough (suc n) S rs k
  through zero rs m k direct more = (m, direct, more)
  through (suc n) rs m k h more = (h.0, h.1, through n (memory_reads (slice_get S.memories h.0)) m k h.2 more)

  -- the memories that the table reads itself are marked, and what the first of those found read themselves
  pub record IsClosed (done : ℕ) (f : Found) : Type 0 where
    pub kept : IsKept f
    pub start : (m : ℕ) → Contains reads (of_memory m) → m < length S.memories → slice_get f.marks m ≡ Some true
    pub closed : (j m k : ℕ) → j < done → slice_get f.list j ≡ Some m → Contains (memory_reads (slice_get S.memories m)) (of_memory k)
        → k < length S.memories → slice_get f.marks k ≡ Some true

  pub begins : (fresh f : Found) → IsFresh (length S.memories) fresh → Finds reads fresh f → IsClosed 0 f
  begins fresh f is found = subst (IsClosed 0) (sym found) (record {
    kept = reads-kept reads fresh (λ i m at. (0, contained reads i (of_memory m) at)) (record {
      long = many;
      only = λ m at. absurd (true≢false (sym (of-replicate (length S.memories) m true false (none m at))));
      listed = λ m at. absurd (true≢false (sym (of-replicate (length S.memories) m true false (none m at))));
      read = λ j m at. absurd (none-at j m (sym (ap (λ ms. slice_get ms j) is.list) ∙ at));
      few = let a = ap length is.list in let b = ap unmarked is.marks ∙ all-unmarked (length S.memories) in omega (arith, a, b);
    });
    start = λ m at l. let p = place-of reads (of_memory m) at in reads-marked reads fresh p.0 m p.1 (subst (λ n. m < n) (sym many) l);
    closed = λ j m k l at more less. absurd (omega (arith, l));
  })
    where
      many : length fresh.marks ≡ length S.memories
      many = ap length is.marks ∙ length-replicate (length S.memories) false

      none : (m : ℕ) → slice_get fresh.marks m ≡ Some true → slice_get (replicate (length S.memories) false) m ≡ Some true
      none m at = sym (ap (λ ms. slice_get ms m) is.marks) ∙ at

  pub follows : (done : ℕ) (f g : Found) → IsClosed done f → Follows S.memories done f g → IsClosed (done + 1) g
  follows done f g is found = by_next (slice_get f.list done) refl
    where
      grown : (o : Option ℕ) → slice_get f.list done ≡ o → ((i m : ℕ) → slice_get (reads_next S.memories o) i ≡ Some (of_memory m)
          → ReadsMemory S reads m)
          → ((j m k : ℕ) → j < done + 1 → slice_get (with_reads f (reads_next S.memories o)).list j ≡ Some m
          → Contains (memory_reads (slice_get S.memories m)) (of_memory k)
          → k < length S.memories → slice_get (with_reads f (reads_next S.memories o)).marks k ≡ Some true)
          → IsClosed (done + 1) g
      grown o at read closed = subst (IsClosed (done + 1))
          (sym (found ∙ ap (λ (p : Option ℕ). with_reads f (reads_next S.memories p)) at)) (record {
            kept = reads-kept (reads_next S.memories o) f read is.kept;
            start = λ m has l. (reads-grow (reads_next S.memories o) f).marks m (is.start m has l);
            closed = closed;
          })

      by_next : (o : Option ℕ) → slice_get f.list done ≡ o → IsClosed (done + 1) g
      by_next None at = grown None at (λ i m has. absurd (none-some (of_memory m) has))
          (λ j m k l has more less. ⊎_elim
          (λ before. is.closed j m k before has more less)
          (λ past. absurd (beyond j m (omega (arith, l, past)) has))
          (cases_lt j done))
        where
          beyond : (j m : ℕ) → j ≡ done → slice_get f.list j ≡ Some m → ⊥
          beyond j m same has = none-some m (sym at ∙ ap (slice_get f.list) (sym same) ∙ has)
      by_next (Some m0) at = grown (Some m0) at read
          (λ j m k l has more less. ⊎_elim
          (λ before.
          let there = some-at f.list j (omega (arith, before, slice_get_within f.list done m0 at)) in
          let same = same_Some there.0 m (sym ((reads-grow rs f).list j there.0 there.1) ∙ has) in
          (reads-grow rs f).marks k (is.closed j m k before (there.1 ∙ ap Some same) more less))
          (λ past.
          let here : j ≡ done = omega (arith, l, past) in
          let same = same_Some m0 m (sym ((reads-grow rs f).list done m0 at) ∙ ap (slice_get (with_reads f rs).list) (sym here) ∙ has) in
          let own = place-of rs (of_memory k) (subst (λ n. Contains (memory_reads (slice_get S.memories n)) (of_memory k)) (sym same) more) in
          reads-marked rs f own.0 k own.1 (subst (λ n. k < n) (sym is.kept.long) less))
          (cases_lt j done))
        where
          rs : List Read
          rs = memory_reads (slice_get S.memories m0)

          read : (i m : ℕ) → slice_get (memory_reads (slice_get S.memories m0)) i ≡ Some (of_memory m) → ReadsMemory S reads m
          read i m has =
              let through-first = is.kept.read done m0 at in (
                suc through-first.0,
                through through-first.0 reads m0 m through-first.1
                    (contained (memory_reads (slice_get S.memories m0)) i (of_memory m) has),
              )

  -- where nothing is left to read, all that is read is marked
  pub ends : (done : ℕ) (f : Found) → length S.memories ≤ done → IsClosed done f → FindsAll S reads f
  ends done f past is = record {
    long = is.kept.long;
    only = is.kept.only;
    each = λ m l read. reached read.0 reads m l is.start read.1;
  }
    where
      step : (m k : ℕ) → slice_get f.marks m ≡ Some true → Contains (memory_reads (slice_get S.memories m)) (of_memory k)
          → k < length S.memories → slice_get f.marks k ≡ Some true
      step m k at more less =
          let there = is.kept.listed m at in
          let low = slice_get_within f.list there.0 m there.1 in
          let few = is.kept.few in
          is.closed there.0 m k (omega (arith, low, few, past)) there.1 more less

      reached : (n : ℕ) (rs : List Read) (m : ℕ) → m < length S.memories
          → ((k : ℕ) → Contains rs (of_memory k) → k < length S.memories → slice_get f.marks k ≡ Some true) → ReadsThrough n S rs m
          → slice_get f.marks m ≡ Some true
      reached zero rs m l all direct = all m direct l
      reached (suc n) rs m l all h =
          reached n (memory_reads (slice_get S.memories h.0)) m l (λ k more less. ⊎_elim
          (λ low. step h.0 k (all h.0 h.1 low) more less)
          (λ high. let none = slice_get_past S.memories h.0 high in
          let at = place-of [] (of_memory k) (subst (λ o. Contains (memory_reads o) (of_memory k)) none more) in
          absurd (none-at at.0 (of_memory k) at.1))
          (cases_lt h.0 (length S.memories))) h.2
