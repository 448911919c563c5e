-- The names of two scans, and the area of their spans.
use Rattle.std.proofs.Common.{◌≡◌, sym, subst, ℕ, zero, suc, ◌+◌, ℤ, ◌≤ℤ◌, List, [], ◌∷◌, ◌++◌, map, length, Some, slice_get}
use Rattle.std.proofs.Common.{arith, ap, ⊎_elim, ◌⊎◌, inl, inr}
use Rattle.std.proofs.lemmas.Int.{ints}
use Rattle.std.proofs.lemmas.List.{length-append, length-map}
use Rattle.std.proofs.lemmas.Option.{none-some, same_Some}
use Rattle.ft_base.specs.Interval.{IsWithin}
use Rattle.ft_core.specs.declared.tables.Tables.{Tables}
use Rattle.ft_core.specs.declared.tables.Var.{Var}
use Rattle.ft_core.specs.declared.tables.Memory.{Memory}
use Rattle.ft_core.specs.declared.tables.Memory.TheVariants.{Held, Hyst}
use Rattle.ft_core.specs.laws.Lists.{mapped}
use Rattle.ft_core.specs.laws.Places.{on-left}
use Rattle.ft_linear.specs.meaning.Form.{InArea}
use Rattle.ft_mean.specs.laws.Moves.{span_of}
use Rattle.ft_claims.specs.meaning.Names.{width, memo}
use Rattle.ft_claims.specs.meaning.Spans.{InSpans}
use Rattle.ft_oblige.specs.meaning.States.{scan_spans, slot_spans}
use Rattle.ft_oblige.specs.laws.ReadsThere.{checked_of}

-- an element of two lists joined
pub of-append : {X : Type 0} (xs ys : List X) (i : ℕ) (x : X) → slice_get (xs ++ ys) i ≡ Some x
    → (slice_get xs i ≡ Some x) ⊎ ((j : ℕ) × (i ≡ length xs + j) × (slice_get ys j ≡ Some x))
of-append [] ys i x is = inr (i, omega arith, is)
of-append (a ∷ xs) ys zero x is = inl is
of-append (a ∷ xs) ys (suc i) x is = elim (of-append xs ys i x is) [ inl h ↦ inl h | inr (j, e, h) ↦ inr (j, omega arith, h) ]

pub scan_long : (S : Tables) → length (scan_spans S) ≡ width S
scan_long S =
    let both = length-append (map (λ (v : Var). v.range) S.vars) (map span_of S.memories) in
    let vars = length-map S.vars (λ (v : Var). v.range) in
    let memories = length-map S.memories span_of in
    omega (arith, both, vars, memories)

pub slots_long : (S : Tables) → length (slot_spans S) ≡ width S + width S
slots_long S = let both = length-append (scan_spans S) (scan_spans S) in let one = scan_long S in omega (arith, both, one)

-- numbers that are in their spans name by name are in the area of all names
pub slots_in_area : (S : Tables) (σ : ℕ → ℤ) → InSpans S σ → InArea (slot_spans S) σ
slots_in_area S σ h u s is = ⊎_elim
    (λ now. ⊎_elim
    (λ var. let at = mapped (λ (v : Var). v.range) S.vars u s var in
    let e : 0 + u ≡ u = omega arith in subst (λ r. IsWithin r (σ u)) at.2 (subst (λ k. IsWithin at.0.range (σ k)) e (h.now u at.0 at.1)))
    (λ memory. let at = mapped span_of S.memories memory.0 s memory.2 in
    let vars = length-map S.vars (λ (v : Var). v.range) in
    let e : memo S 0 memory.0 ≡ u = omega (arith, memory.1, vars) in
    subst (λ r. IsWithin r (σ u)) at.2 (subst (λ k. IsWithin (span_of at.0) (σ k)) e (h.kept_now memory.0 at.0 at.1)))
    (of-append (map (λ (v : Var). v.range) S.vars) (map span_of S.memories) u s now))
    (λ past. ⊎_elim
    (λ var. let at = mapped (λ (v : Var). v.range) S.vars past.0 s var in
    let e : width S + past.0 ≡ u = let long = scan_long S in omega (arith, past.1, long) in
    subst (λ r. IsWithin r (σ u)) at.2 (subst (λ k. IsWithin at.0.range (σ k)) e (h.past past.0 at.0 at.1)))
    (λ memory. let at = mapped span_of S.memories memory.0 s memory.2 in
    let vars = length-map S.vars (λ (v : Var). v.range) in
    let long = scan_long S in
    let e : memo S (width S) memory.0 ≡ u = omega (arith, past.1, memory.1, vars, long) in
    subst (λ r. IsWithin r (σ u)) at.2 (subst (λ k. IsWithin (span_of at.0) (σ k)) e (h.kept_past memory.0 at.0 at.1)))
    (of-append (map (λ (v : Var). v.range) S.vars) (map span_of S.memories) past.0 s past.2))
    (of-append (scan_spans S) (scan_spans S) u s is)

pub mapped-at : {A B : Type 0} (f : A → B) (xs : List A) (i : ℕ) (a : A) → slice_get xs i ≡ Some a → slice_get (map f xs) i ≡ Some (f a)
mapped-at f [] i a e = absurd (none-some a e)
mapped-at f (x ∷ xs) zero a e = ap (λ y. Some (f y)) (same_Some x a e)
mapped-at f (x ∷ xs) (suc i) a e = mapped-at f xs i a e

-- an element of the second of two lists
pub on-right : {X : Type 0} (xs ys : List X) (i j : ℕ) (x : X) → i ≡ length xs + j → slice_get ys j ≡ Some x
    → slice_get (xs ++ ys) i ≡ Some x
on-right [] ys i j x e is = let same : i ≡ j = omega (arith, e) in subst (λ (k : ℕ). slice_get ys k ≡ Some x) (sym same) is
on-right (a ∷ xs) ys zero j x e is = absurd (omega (arith, e))
on-right (a ∷ xs) ys (suc i) j x e is = on-right xs ys i j x (omega (arith, e)) is

module _ (S : Tables) where
  abbrev vars : List (ℤ × ℤ)
  vars = map (λ (v : Var). v.range) S.vars

  abbrev kept : List (ℤ × ℤ)
  kept = map span_of S.memories

  pub var-at : (x : ℕ) (v : Var) → slice_get S.vars x ≡ Some v → slice_get (scan_spans S) x ≡ Some v.range
  var-at x v is = on-left vars kept x v.range (mapped-at (λ (v : Var). v.range) S.vars x v is)

  pub kept-at : (m : ℕ) (memory : Memory) → slice_get S.memories m ≡ Some memory
      → slice_get (scan_spans S) (length S.vars + m) ≡ Some (span_of memory)
  kept-at m memory is =
      let long = length-map S.vars (λ (v : Var). v.range) in
      on-right vars kept (length S.vars + m) m (span_of memory) (omega (arith, long)) (mapped-at span_of S.memories m memory is)

  first : (i : ℕ) (s : ℤ × ℤ) → slice_get (scan_spans S) i ≡ Some s → slice_get (slot_spans S) (0 + i) ≡ Some s
  first i s is = let e : 0 + i ≡ i = omega arith in subst (λ (k : ℕ). slice_get (slot_spans S) k ≡ Some s) (sym e)
      (on-left (scan_spans S) (scan_spans S) i s is)

  second : (i : ℕ) (s : ℤ × ℤ) → slice_get (scan_spans S) i ≡ Some s → slice_get (slot_spans S) (width S + i) ≡ Some s
  second i s is = let long = scan_long S in on-right (scan_spans S) (scan_spans S) (width S + i) i s (omega (arith, long)) is

  -- numbers in the area are in their spans name by name
  pub slots_from_area : (σ : ℕ → ℤ) → InArea (slot_spans S) σ → InSpans S σ
  slots_from_area σ h = record {
    now = λ x v is. h (0 + x) v.range (first x v.range (var-at x v is));
    kept_now = λ m memory is. h (memo S 0 m) (span_of memory) (first (length S.vars + m) (span_of memory) (kept-at m memory is));
    past = λ x v is. h (width S + x) v.range (second x v.range (var-at x v is));
    kept_past = λ m memory is. h (memo S (width S) m) (span_of memory) (second (length S.vars + m) (span_of memory) (kept-at m memory is));
  }

  some-kept : (m : ℕ) (memory : Memory) → slice_get S.memories m ≡ Some memory → (span_of memory).0 ≤ℤ (span_of memory).1
  some-kept m (Held name s c hold) is = let low = (S.sound.timers m name s c hold is).0 in omega (arith, ints, low)
  some-kept m (Hyst name s e lo hi start) is = omega (arith, ints)

  pub some-of-scan : (i : ℕ) (s : ℤ × ℤ) → slice_get (scan_spans S) i ≡ Some s → s.0 ≤ℤ s.1
  some-of-scan i s is = ⊎_elim
      (λ var. let at = mapped (λ (v : Var). v.range) S.vars i s var in
      subst (λ (r : ℤ × ℤ). r.0 ≤ℤ r.1) at.2 ((checked_of S).ranges i at.0 at.1).0)
      (λ memory. let at = mapped span_of S.memories memory.0 s memory.2 in
      subst (λ (r : ℤ × ℤ). r.0 ≤ℤ r.1) at.2 (some-kept memory.0 at.0 at.1))
      (of-append vars kept i s is)

  -- each span has a number
  pub some_in_span : (i : ℕ) (s : ℤ × ℤ) → slice_get (slot_spans S) i ≡ Some s → s.0 ≤ℤ s.1
  some_in_span i s is = ⊎_elim
      (λ now. some-of-scan i s now)
      (λ past. some-of-scan past.0 s past.2)
      (of-append (scan_spans S) (scan_spans S) i s is)
