-- The names of the scans of a list, and the area of their spans.
use Rattle.std.proofs.Common.{◌≡◌, ◌∙◌, sym, ap, subst, ℕ, zero, suc, ◌+◌, ◌*◌, ◌<◌, ℤ, ◌≤ℤ◌, map, length, Some, slice_get}
use Rattle.std.proofs.Common.{arith, ⊎_elim}
use Rattle.std.proofs.lemmas.Bool.{cases_lt}
use Rattle.std.proofs.lemmas.List.{length-append, length-map}
use Rattle.std.proofs.lemmas.Option.{none-some}
use Rattle.std.proofs.Math.Nat.{suc-mul, zero-mul}
use Rattle.ft_base.specs.Interval.{IsWithin}
use Rattle.ft_core.specs.declared.tables.Tables.{Tables}
use Rattle.ft_core.specs.declared.tables.Var.{Var}
use Rattle.ft_core.specs.laws.Lists.{mapped}
use Rattle.ft_core.specs.laws.Places.{on-left}
use Rattle.ft_linear.specs.meaning.Form.{InArea}
use Rattle.ft_mean.specs.laws.Moves.{span_of}
use Rattle.ft_claims.specs.meaning.Names.{width, memo}
use Rattle.ft_oblige.specs.laws.ListPartLaws.{InListSpans}
use Rattle.ft_oblige.specs.meaning.Lists.{list_spans}
use Rattle.ft_oblige.specs.meaning.States.{scan_spans}
use Rattle.ft_oblige.proofs.SpanLemmas.{of-append, on-right, scan_long, var-at, kept-at, some-of-scan}

module _ (S : Tables) where
  pub lists_long : (n : ℕ) → length (list_spans S n) ≡ n * width S
  lists_long zero = sym (zero-mul (width S))
  lists_long (suc n) =
      let both = length-append (list_spans S n) (scan_spans S) in
      let rest = lists_long n in
      let one = scan_long S in
      let more = suc-mul n (width S) in
      omega (arith, both, rest, one, more)

  -- a name of scan t stands after those of the scans before
  pub at-scan : (n t i : ℕ) (s : ℤ × ℤ) → t < n → slice_get (scan_spans S) i ≡ Some s
      → slice_get (list_spans S n) (t * width S + i) ≡ Some s
  at-scan zero t i s l is = absurd (omega (arith, l))
  at-scan (suc n) t i s l is = ⊎_elim
      (λ less. on-left (list_spans S n) (scan_spans S) (t * width S + i) s (at-scan n t i s less is))
      (λ high. let same : t ≡ n = omega (arith, l, high) in
      on-right (list_spans S n) (scan_spans S) (t * width S + i) i s
      (ap (λ k. k * width S + i) same ∙ ap (λ k. k + i) (sym (lists_long n))) is)
      (cases_lt t n)

  -- and each name is one of a scan
  pub from-scan : (n u : ℕ) (s : ℤ × ℤ) → slice_get (list_spans S n) u ≡ Some s
      → (t i : ℕ) × (t < n) × (u ≡ t * width S + i) × (slice_get (scan_spans S) i ≡ Some s)
  from-scan zero u s is = absurd (none-some s is)
  from-scan (suc n) u s is = ⊎_elim
      (λ old. let at = from-scan n u s old in (at.0, at.1, (let l = at.2 in omega (arith, l)), at.3, at.4))
      (λ new. (n, new.0, omega arith, new.1 ∙ ap (λ k. k + new.0) (lists_long n), new.2))
      (of-append (list_spans S n) (scan_spans S) u s is)

  pub lists_have_some : (n u : ℕ) (s : ℤ × ℤ) → slice_get (list_spans S n) u ≡ Some s → s.0 ≤ℤ s.1
  lists_have_some n u s is = let at = from-scan n u s is in some-of-scan S at.1 s at.4

  pub list_in_area : (n : ℕ) (σ : ℕ → ℤ) → InListSpans S n σ → InArea (list_spans S n) σ
  list_in_area n σ h u s is =
      let at = from-scan n u s is in
      let inside : IsWithin s (σ (at.0 * width S + at.1)) = ⊎_elim
      (λ var. let v = mapped (λ (v : Var). v.range) S.vars at.1 s var in
      subst (λ r. IsWithin r (σ (at.0 * width S + at.1))) v.2 (h.values at.0 at.1 v.0 at.2 v.1))
      (λ memory. let m = mapped span_of S.memories memory.0 s memory.2 in
      let long = length-map S.vars (λ (v : Var). v.range) in
      let place : length S.vars + memory.0 ≡ at.1 = let e = memory.1 in omega (arith, e, long) in
      subst (λ r. IsWithin r (σ (at.0 * width S + at.1))) m.2
      (subst (λ k. IsWithin (span_of m.0) (σ (at.0 * width S + k))) place (h.kept at.0 memory.0 m.0 at.2 m.1)))
      (of-append (map (λ (v : Var). v.range) S.vars) (map span_of S.memories) at.1 s at.4) in
      subst (λ k. IsWithin s (σ k)) (sym at.3) inside

  pub list_from_area : (n : ℕ) (σ : ℕ → ℤ) → InArea (list_spans S n) σ → InListSpans S n σ
  list_from_area n σ h = record {
    values = λ t x v l is. h (t * width S + x) v.range (at-scan n t x v.range l (var-at S x v is));
    kept = λ t m memory l is. h (memo S (t * width S) m) (span_of memory)
        (at-scan n t (length S.vars + m) (span_of memory) l (kept-at S m memory is));
  }
