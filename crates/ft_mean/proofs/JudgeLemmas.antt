-- The tests of a trace say that it fits.
use Rattle.std.proofs.Common.{◌≡◌, ◌∙◌, sym, ap, subst, refl, ℕ, zero, suc, ◌+◌, ◌<◌, ◌≤◌, ℤ, pos, negsuc, Bool, true, false, cond, ◌&&◌}
use Rattle.std.proofs.Common.{List, [], map, max, length, slice_get, slice_index_or, Option, Some, None, ◌∷◌, arith, ⊎_elim}
use Rattle.std.specs.Prelude.{◌↔◌, ◌==◌, IsTrue, unsigned_abs}
use Rattle.std.specs.List.{range_with_len}
use Rattle.std.specs.Ordering.{int_eq}
use Rattle.std.proofs.lemmas.Int.{ints}
use Rattle.std.proofs.lemmas.Bool.{and_parts, and_from, cases_lt}
use Rattle.std.proofs.lemmas.Bool.Decides.{Decides-eqb, Decides-int_eq}
use Rattle.std.proofs.lemmas.List.{get_or_past}
use Rattle.std.proofs.lemmas.List.FromFn.{length-map-range_with_len, get_or-map-range_with_len}
use Rattle.std.proofs.lemmas.Option.{slice_get_cases, slice_get_past, slice_get_within}
use Rattle.ft_base.specs.Interval.{IsWithin}
use Rattle.ft_core.specs.declared.tables.Tables.{Tables}
use Rattle.ft_core.specs.declared.tables.Var.{Var}
use Rattle.ft_core.specs.declared.tables.Memory as tables
use Rattle.ft_core.specs.declared.tables.Memory.TheVariants.{Held, Hyst}
use Rattle.ft_core.specs.declared.tables.Side.{Side}
use Rattle.ft_core.specs.declared.tables.Side.TheVariants as side
use Rattle.ft_core.specs.meaning.Kinds.{given_kinds, defined_kinds, side_kinds, section_of, is_of, place_of}
use Rattle.ft_core.specs.meaning.Reads.{Read}
use Rattle.ft_core.specs.checked.Size.{var_size, age_size}
use Rattle.ft_mean.specs.declared.seen.Seen.{Seen}
use Rattle.ft_mean.specs.meaning.Value.{value, truth}
use Rattle.ft_mean.specs.meaning.Cells.{defined}
use Rattle.ft_mean.specs.meaning.Memory.{at_scan, remembered, memory_within, memory_at, look}
use Rattle.ft_mean.specs.meaning.Reading.{Reading, Scans, IsListOf, IsVar, init_of, reading_of, before, begun, since}
use Rattle.ft_mean.specs.meaning.Fits.{Fits, side_reading}
use Rattle.ft_mean.specs.judge.Safe.{IsSafeBy}
use Rattle.ft_mean.specs.judge.Seen.{view_at, recalled, recalled_at, after_rounds}
use Rattle.ft_mean.specs.judge.Scope.{scans_of, is_list, are_lists, has_given, has_table, is_right, follows_by, at_all}
use Rattle.ft_mean.proofs.WellFormed.{OnSide, MayRead, opened}
use Rattle.ft_mean.proofs.CellLemmas.{own_reads}
use Rattle.ft_mean.proofs.MemoryLemmas.{ageless}
use Rattle.ft_mean.proofs.OneScan.{table_of, defined_same}
use Rattle.ft_mean.proofs.BegunLemmas.{before_by}
use Rattle.ft_mean.proofs.PastLemmas.{same_held, same_hyst}
use Rattle.ft_mean.proofs.RecallLemmas.{rows_kept, past_kept}
use Rattle.ft_mean.specs.laws.ScanTests.{asked_of, list_is, through_at}
use Rattle.ft_mean.proofs.TraceTests.{through_from, when_of, list_from}
use Rattle.ft_mean.proofs.Traces.{reading_range}

-- a table of numbers at a place, where there is none beyond its width
table_at : (f : ℕ → ℕ → ℤ) (n w t x : ℕ) → t < n → (w ≤ x → f t x ≡ pos 0)
    → slice_index_or (slice_index_or (map (λ t. map (f t) (range_with_len 0 w)) (range_with_len 0 n)) t []) x (pos 0) ≡ f t x
table_at f n w t x below past =
    let first : 0 + t ≡ t = omega arith in
    let second : 0 + x ≡ x = omega arith in
    ap (λ row. slice_index_or row x (pos 0)) (get_or-map-range_with_len (λ t. map (f t) (range_with_len 0 w)) 0 n t t [] below first)
    ∙ ⊎_elim
    (λ inside. get_or-map-range_with_len (f t) 0 w x x (pos 0) inside second)
    (λ out. get_or_past (map (f t) (range_with_len 0 w)) x (pos 0) (omega (arith, out, length-map-range_with_len (f t) 0 w))
    ∙ sym (past out))
    (cases_lt x w)

table_past : (f : ℕ → ℕ → ℤ) (n w t x : ℕ) → n ≤ t
    → slice_index_or (slice_index_or (map (λ t. map (f t) (range_with_len 0 w)) (range_with_len 0 n)) t []) x (pos 0) ≡ pos 0
table_past f n w t x out =
    ap (λ row. slice_index_or row x (pos 0)) (get_or_past (map (λ t. map (f t) (range_with_len 0 w)) (range_with_len 0 n)) t []
    (omega (arith, out, length-map-range_with_len (λ t. map (f t) (range_with_len 0 w)) 0 n)))

in_size : (range : ℤ × ℤ) (z : ℤ) → IsWithin range z → unsigned_abs z ≤ max 1 (max (unsigned_abs range.0) (unsigned_abs range.1))
in_size range z h = let low = h.0 in let high = h.1 in grind (arith, ints, low, high)

age_one : (o : Option tables.Memory) → unsigned_abs (negsuc 0) ≤ age_size o
age_one None = omega arith
age_one (Some (Held name s c hold)) = grind arith
age_one (Some (Hyst name s e lo hi start)) = omega arith

memory_in : {A : Type 0} (g : A → Bool) (xs : List A) (m : ℕ) → slice_index_or (map g xs) m false
    ≡ elim (slice_get xs m) [ None ↦ false | Some a ↦ g a ]
memory_in g [] m = refl
memory_in g (x ∷ xs) zero = refl
memory_in g (x ∷ xs) (suc m) = memory_in g xs m

module _ (S : Tables) (s : Side) (trace : Scans) where
  abbrev ρ : Reading
  ρ = side_reading S s trace

  abbrev start : Seen
  start = scans_of S ρ (length trace)

  -- beyond the variables of the set every number is 0
  init_past : (x : ℕ) → length S.vars ≤ x → init_of S x ≡ pos 0
  init_past x out = ap (λ o. elim o as (λ z. ℤ) [ None ↦ pos 0 | Some v ↦ v.init ]) (slice_get_past S.vars x out)

  told_past : (t x : ℕ) → length S.vars ≤ x → ρ t x ≡ pos 0
  told_past t x out = ap (λ b. cond b (slice_index_or (slice_index_or trace t []) (place_of (side_kinds s) S.vars x) (pos 0)) (init_of S x))
      none ∙ init_past x out
    where
      none : is_of S.vars (side_kinds s) x ≡ false
      none = ap (λ o. elim o as (λ z. Bool) [ None ↦ false | Some v ↦ side_kinds s x v ]) (slice_get_past S.vars x out)

  before_past : (t x : ℕ) → length S.vars ≤ x → before S ρ t x ≡ pos 0
  before_past t x out = before_by S ρ (λ z. z ≡ pos 0) t x (init_past x out) (λ k at. told_past k x out)

  module _ (list : IsListOf S (side_kinds s) trace) where
    abbrev IsLow : ℕ → ℤ → Type 0
    IsLow x z = unsigned_abs z ≤ var_size (slice_get S.vars x)

    zero_low : (x : ℕ) → IsLow x (pos 0)
    zero_low x = omega arith

    by_var : (x : ℕ) (z : ℤ) → (length S.vars ≤ x → z ≡ pos 0) → ((v : Var) → slice_get S.vars x ≡ Some v → IsWithin v.range z) → IsLow x z
    by_var x z out inside = ⊎_elim
        (λ p. subst (λ o. unsigned_abs z ≤ var_size o) (sym p.2) (in_size p.0.range z (inside p.0 p.2)))
        (λ p. subst (IsLow x) (sym (out p.0)) (zero_low x))
        (slice_get_cases S.vars x).1

    told_low : (t x : ℕ) → t < length trace → IsLow x (ρ t x)
    told_low t x below = by_var x (ρ t x) (told_past t x) (λ v there. reading_range S (opened S) (side_kinds s) trace list t x v below
        there)

    before_low : (t x : ℕ) → t < length trace → IsLow x (before S ρ t x)
    before_low t x below = before_by S ρ (IsLow x) t x
        (by_var x (init_of S x) (init_past x)
        (λ v there. subst (λ z. IsWithin v.range z) (sym (ap (λ o. elim o as (λ z. ℤ) [ None ↦ pos 0 | Some u ↦ u.init ]) there))
        ((opened S).inits x v there)))
        (λ k at. told_low k x (omega (arith, below, at)))

    low_in : (f : ℕ → ℕ → ℤ) → ((t x : ℕ) → length S.vars ≤ x → f t x ≡ pos 0) → ((t x : ℕ) → t < length trace → IsLow x (f t x))
        → (t x : ℕ)
        → IsLow x (slice_index_or (slice_index_or (map (λ t. map (f t) (range_with_len 0 (length S.vars)))
        (range_with_len 0 (length trace))) t []) x (pos 0))
    low_in f past low t x = ⊎_elim
        (λ below. subst (IsLow x) (sym (table_at f (length trace) (length S.vars) t x below (past t x))) (low t x below))
        (λ out. subst (IsLow x) (sym (table_past f (length trace) (length S.vars) t x out)) (zero_low x))
        (cases_lt t (length trace))

    -- whatever is small over the set is safe at each scan of a trace in range
    pub safe_list : (test : List Var → List tables.Memory → Bool) → test S.vars S.memories ≡ true → (t : ℕ)
        → IsSafeBy (view_at start t) test
    safe_list test small t = record {
      vars = S.vars;
      memories = S.memories;
      keeps = record {
        now = low_in ρ told_past told_low t;
        before = low_in (before S ρ) before_past before_low t;
        age = λ m. age_one (slice_get S.memories m);
      };
      small = small;
    }

  abbrev KnowsAt : ℕ → ℕ → Type 0
  KnowsAt k t = (m : ℕ) → slice_index_or (slice_index_or (after_rounds S ρ k start).bits t []) m false ≡ memory_within k S ρ m t

  same_view : (k t : ℕ) → t < length trace → KnowsAt k t → view_at (after_rounds S ρ k start) t ≡ at_scan S ρ (memory_within k S ρ) t
  same_view k t below knows =
      let now : (x : ℕ) → slice_index_or (slice_index_or (after_rounds S ρ k start).rows t []) x (pos 0) ≡ ρ t x = λ x.
      ap (λ rows. slice_index_or (slice_index_or rows t []) x (pos 0)) (rows_kept S ρ start k)
      ∙ table_at ρ (length trace) (length S.vars) t x below (told_past t x) in
      let past : (x : ℕ) → slice_index_or (slice_index_or (after_rounds S ρ k start).past t []) x (pos 0) ≡ before S ρ t x = λ x.
      ap (λ rows. slice_index_or (slice_index_or rows t []) x (pos 0)) (past_kept S ρ start k)
      ∙ table_at (before S ρ) (length trace) (length S.vars) t x below (before_past t x) in
      λ i. record { now = λ x. now x i; before = λ x. past x i; age = λ m. negsuc 0; memory = λ m. knows m i }

  by_memory : (k t : ℕ) → ((j : ℕ) → j ≤ t → view_at (after_rounds S ρ k start) j ≡ at_scan S ρ (memory_within k S ρ) j)
      → (o : Option tables.Memory)
      → elim o as (λ z. Bool) [
        | None ↦ false
        | Some memory ↦ recalled (begun S ρ t) (λ j. since S ρ j t) (after_rounds S ρ k start) memory t
      ]
      ≡ remembered S ρ (memory_within k S ρ) o t
  by_memory k t same None = refl
  by_memory k t same (Some (Held name s' c hold)) =
      same_held (begun S ρ t) (λ j. since S ρ j t) hold (λ j. truth (view_at (after_rounds S ρ k start) j) c)
      (λ j. truth (at_scan S ρ (memory_within k S ρ) j) c) t (λ j l. ap (λ V. truth V c) (same j l))
  by_memory k t same (Some (Hyst name s' e lo hi begin)) =
      same_hyst (begun S ρ t) lo hi begin (λ j. value (view_at (after_rounds S ρ k start) j) e)
      (λ j. value (at_scan S ρ (memory_within k S ρ) j) e) t (λ j l. ap (λ V. value V e) (same j l))

  -- after so many rounds the truths are those of memories that are read through so many others
  knows : (k t : ℕ) → t < length trace → KnowsAt k t
  unfolding memory_within
  knows zero t below m = refl
  knows (suc k) t below m =
      let long : length (after_rounds S ρ k start).rows ≡ length trace = ap length (rows_kept S ρ start k)
      ∙ length-map-range_with_len (λ t. map (ρ t) (range_with_len 0 (length S.vars))) 0 (length trace) in
      let first : 0 + t ≡ t = omega arith in
      ap (λ row. slice_index_or row m false)
      (get_or-map-range_with_len (recalled_at S ρ (after_rounds S ρ k start)) 0 (length (after_rounds S ρ k start).rows) t t []
      (omega (arith, long, below)) first)
      ∙ memory_in (λ memory. recalled (begun S ρ t) (λ j. since S ρ j t) (after_rounds S ρ k start) memory t) S.memories m
      ∙ by_memory k t (λ j l. same_view k j (omega (arith, l, below)) (knows k j (omega (arith, l, below)))) (slice_get S.memories m)

  may_read : (s : Side) (r : Read) → MayRead S (section_of s) r → OnSide S s r
  may_read side.Req r h = h
  may_read side.Sof r h = h

  abbrev told : Seen
  told = after_rounds S ρ (length S.vars + length S.memories) start

  -- what a table gives is read from the truths that were found
  same_table : (t x : ℕ) (v : Var) (z : ℤ) → t < length trace → IsVar S (defined_kinds (section_of s)) x v
      → defined S (section_of s) (view_at told t) x z ≡ defined S (section_of s) (look S ρ t) x z
  same_table t x v z below is =
      let wf = opened S in
      let o = table_of S wf (section_of s) x v is in
      ap (λ V. defined S (section_of s) V x z) (same_view (length S.vars + length S.memories) t below
      (knows (length S.vars + length S.memories) t below))
      ∙ defined_same S wf (section_of s) (at_scan S ρ (memory_at S ρ) t) (look S ρ t) x z o
      (λ r c. ageless S wf s ρ t r (may_read s r (subst (λ z. MayRead S z r) o.is.1
      (wf.tables_read o.place o.table r o.is.0 (own_reads o.table.grid x r c)))))

  module _ (given : Scans) where
    abbrev right : ℕ → ℕ → Bool
    right = is_right S s given trace told

    listed : are_lists S s given trace ≡ true
        → (is_list S (given_kinds s) given ≡ true) × (is_list S (side_kinds s) trace ≡ true) × ((length trace == length given) ≡ true)
    listed h =
        let outer = and_parts (is_list S (given_kinds s) given && is_list S (side_kinds s) trace) (length trace == length given) h in
        let inner = and_parts (is_list S (given_kinds s) given) (is_list S (side_kinds s) trace) outer.0 in
        (inner.0, inner.1, outer.1)

    pub lists_from : Fits S s given trace → are_lists S s given trace ≡ true
    lists_from f = and_from _ _ (and_from _ _ (list_from S (given_kinds s) given f.is_given) (list_from S (side_kinds s) trace f.values))
        ((Decides-eqb (length trace) (length given)).1 f.lengths)

    pub trace_is : are_lists S s given trace ≡ true → IsListOf S (side_kinds s) trace
    trace_is h = list_is S (side_kinds s) trace (listed h).1

    pub judged : are_lists S s given trace ≡ true → IsTrue (follows_by S s given trace told) ↔ Fits S s given trace
    judged h = (to, from)
      where
        to : IsTrue (follows_by S s given trace told) → Fits S s given trace
        to follows = record {
          is_given = list_is S (given_kinds s) given (listed h).0;
          lengths = (Decides-eqb (length trace) (length given)).0 (listed h).2;
          values = trace_is h;
          same_given = λ t x v below is. (Decides-int_eq (ρ t x) (reading_of S (given_kinds s) given t x)).0
              (asked_of S (given_kinds s) x v (int_eq (ρ t x) (reading_of S (given_kinds s) given t x)) is (at t x v below is.0).0);
          follows = λ t below x v is. sym (same_table t x v (ρ t x) below is)
              ∙ asked_of S (defined_kinds (section_of s)) x v (defined S (section_of s) (view_at told t) x (ρ t x)) is
              (at t x v below is.0).1;
        }
          where
            at : (t x : ℕ) (v : Var) → t < length trace → slice_get S.vars x ≡ Some v → (has_given S s given trace t x ≡ true)
                × (has_table S s trace told t x ≡ true)
            at t x v below there = and_parts (has_given S s given trace t x) (has_table S s trace told t x)
                (through_at (right t) (length S.vars) (through_at (λ t. at_all S (right t)) (length trace) follows t below) x
                (slice_get_within S.vars x v there))

        from : Fits S s given trace → IsTrue (follows_by S s given trace told)
        from f = through_from (λ t. at_all S (right t)) (length trace)
            (λ t below. through_from (right t) (length S.vars) (λ x low. and_from _ _
            (when_of S (given_kinds s) x (int_eq (ρ t x) (reading_of S (given_kinds s) given t x)) low
            (λ v is. (Decides-int_eq (ρ t x) (reading_of S (given_kinds s) given t x)).1 (f.same_given t x v below is)))
            (when_of S (defined_kinds (section_of s)) x (defined S (section_of s) (view_at told t) x (ρ t x)) low
            (λ v is. same_table t x v (ρ t x) below is ∙ f.follows t below x v is))))
