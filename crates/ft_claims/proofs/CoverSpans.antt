-- The names of two scans, where every memory is a bit, and the area of their spans.
use Rattle.std.proofs.Common.{◌≡◌, sym, subst, ℕ, zero, suc, ◌+◌, ◌<◌, ℤ, pos, ◌≤ℤ◌, List, [], ◌∷◌, ◌++◌, map, length, Some, slice_get}
use Rattle.std.proofs.Common.{arith, ⊎_elim}
use Rattle.std.proofs.lemmas.Int.{ints}
use Rattle.std.proofs.lemmas.List.{length-append, length-map}
use Rattle.std.proofs.lemmas.Option.{slice_get_within}
use Rattle.ft_base.specs.Interval.{IsWithin}
use Rattle.ft_core.specs.declared.tables.Tables.{Tables}
use Rattle.ft_core.specs.declared.tables.Var.{Var}
use Rattle.ft_core.specs.laws.Places.{on-left, some-at}
use Rattle.ft_linear.specs.meaning.Form.{InArea}
use Rattle.ft_claims.specs.meaning.Names.{width, memo}
use Rattle.ft_claims.specs.meaning.Spans.{InCoverSpans, bit_span, cover_scan_spans, cover_spans}
use Rattle.ft_claims.proofs.Lists.{of-append, of-mapped, mapped-at}
use Rattle.ft_claims.proofs.ReadsThere.{checked_of}

scan_long : (S : Tables) → length (cover_scan_spans S) ≡ width S
scan_long S =
    let both = length-append (map (λ (v : Var). v.range) S.vars) (map bit_span S.memories) in
    let vars = length-map S.vars (λ (v : Var). v.range) in
    let memories = length-map S.memories bit_span in
    omega (arith, both, vars, memories)

pub cover_long : (S : Tables) → length (cover_spans S) ≡ width S + width S
cover_long S = let both = length-append (cover_scan_spans S) (cover_scan_spans S) in let one = scan_long S in omega (arith, both, one)

pub cover_in_area : (S : Tables) (σ : ℕ → ℤ) → InCoverSpans S σ → InArea (cover_spans S) σ
cover_in_area S σ h u s is = ⊎_elim
    (λ now. ⊎_elim
    (λ var. let at = of-mapped (λ (v : Var). v.range) S.vars u s var in
    let e : 0 + u ≡ u = omega arith in subst (λ r. IsWithin r (σ u)) at.2 (subst (λ k. IsWithin at.0.range (σ k)) e (h.now u at.0 at.1)))
    (λ memory. let at = of-mapped bit_span S.memories memory.0 s memory.2 in
    let vars = length-map S.vars (λ (v : Var). v.range) in
    let e : memo S 0 memory.0 ≡ u = omega (arith, memory.1, vars) in
    subst (λ r. IsWithin r (σ u)) at.2 (subst (λ k. IsWithin (pos 0, pos 1) (σ k)) e
    (h.bits_now memory.0 (slice_get_within S.memories memory.0 at.0 at.1))))
    (of-append (map (λ (v : Var). v.range) S.vars) (map bit_span S.memories) u s now))
    (λ past. ⊎_elim
    (λ var. let at = of-mapped (λ (v : Var). v.range) S.vars past.0 s var in
    let e : width S + past.0 ≡ u = let long = scan_long S in omega (arith, past.1, long) in
    subst (λ r. IsWithin r (σ u)) at.2 (subst (λ k. IsWithin at.0.range (σ k)) e (h.past past.0 at.0 at.1)))
    (λ memory. let at = of-mapped bit_span S.memories memory.0 s memory.2 in
    let vars = length-map S.vars (λ (v : Var). v.range) in
    let long = scan_long S in
    let e : memo S (width S) memory.0 ≡ u = omega (arith, past.1, memory.1, vars, long) in
    subst (λ r. IsWithin r (σ u)) at.2 (subst (λ k. IsWithin (pos 0, pos 1) (σ k)) e
    (h.bits_past memory.0 (slice_get_within S.memories memory.0 at.0 at.1))))
    (of-append (map (λ (v : Var). v.range) S.vars) (map bit_span S.memories) past.0 s past.2))
    (of-append (cover_scan_spans S) (cover_scan_spans S) u s is)

-- an element of the second of two lists
on-right : {X : Type 0} (xs ys : List X) (i j : ℕ) (x : X) → i ≡ length xs + j → slice_get ys j ≡ Some x → slice_get (xs ++ ys) i ≡ Some x
on-right [] ys i j x e is = let same : i ≡ j = omega (arith, e) in subst (λ (k : ℕ). slice_get ys k ≡ Some x) (sym same) is
on-right (a ∷ xs) ys zero j x e is = absurd (omega (arith, e))
on-right (a ∷ xs) ys (suc i) j x e is = on-right xs ys i j x (omega (arith, e)) is

module _ (S : Tables) where
  abbrev vars : List (ℤ × ℤ)
  vars = map (λ (v : Var). v.range) S.vars

  abbrev bits : List (ℤ × ℤ)
  bits = map bit_span S.memories

  var-at : (x : ℕ) (v : Var) → slice_get S.vars x ≡ Some v → slice_get (cover_scan_spans S) x ≡ Some v.range
  var-at x v is = on-left vars bits x v.range (mapped-at (λ (v : Var). v.range) S.vars x v is)

  bit-at : (m : ℕ) → m < length S.memories → slice_get (cover_scan_spans S) (length S.vars + m) ≡ Some (pos 0, pos 1)
  bit-at m l =
      let memory = some-at S.memories m l in let long = length-map S.vars (λ (v : Var). v.range) in
      on-right vars bits (length S.vars + m) m (pos 0, pos 1) (omega (arith, long)) (mapped-at bit_span S.memories m memory.0 memory.1)

  first : (i : ℕ) (s : ℤ × ℤ) → slice_get (cover_scan_spans S) i ≡ Some s → slice_get (cover_spans S) (0 + i) ≡ Some s
  first i s is = let e : 0 + i ≡ i = omega arith in subst (λ (k : ℕ). slice_get (cover_spans S) k ≡ Some s) (sym e)
      (on-left (cover_scan_spans S) (cover_scan_spans S) i s is)

  second : (i : ℕ) (s : ℤ × ℤ) → slice_get (cover_scan_spans S) i ≡ Some s → slice_get (cover_spans S) (width S + i) ≡ Some s
  second i s is = let long = scan_long S in on-right (cover_scan_spans S) (cover_scan_spans S) (width S + i) i s (omega (arith, long)) is

  -- numbers in the area are in their spans name by name
  pub cover_from_area : (σ : ℕ → ℤ) → InArea (cover_spans S) σ → InCoverSpans S σ
  cover_from_area σ h = record {
    now = λ x v is. h (0 + x) v.range (first x v.range (var-at x v is));
    bits_now = λ m l. h (memo S 0 m) (pos 0, pos 1) (first (length S.vars + m) (pos 0, pos 1) (bit-at m l));
    past = λ x v is. h (width S + x) v.range (second x v.range (var-at x v is));
    bits_past = λ m l. h (memo S (width S) m) (pos 0, pos 1) (second (length S.vars + m) (pos 0, pos 1) (bit-at m l));
  }

  some-of-scan : (i : ℕ) (s : ℤ × ℤ) → slice_get (cover_scan_spans S) i ≡ Some s → s.0 ≤ℤ s.1
  some-of-scan i s is = ⊎_elim
      (λ var. let at = of-mapped (λ (v : Var). v.range) S.vars i s var in
      subst (λ (r : ℤ × ℤ). r.0 ≤ℤ r.1) at.2 ((checked_of S).ranges i at.0 at.1).0)
      (λ memory. let at = of-mapped bit_span S.memories memory.0 s memory.2 in
      subst (λ (r : ℤ × ℤ). r.0 ≤ℤ r.1) at.2 (omega (arith, ints)))
      (of-append vars bits i s is)

  -- each span has a number
  pub some_in_span : (i : ℕ) (s : ℤ × ℤ) → slice_get (cover_spans S) i ≡ Some s → s.0 ≤ℤ s.1
  some_in_span i s is = ⊎_elim
      (λ now. some-of-scan i s now)
      (λ past. some-of-scan past.0 s past.2)
      (of-append (cover_scan_spans S) (cover_scan_spans S) i s is)
