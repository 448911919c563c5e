-- How lines narrow the spans of an area.
use Rattle.std.proofs.Common.{arith, ◌≡◌, ◌<◌, ◌+◌, ◌∙◌, sym, ap, subst, ◌⊎◌, inl, inr, ℕ, ℤ, pos, ◌+ℤ◌, ◌-ℤ◌, ◌≤ℤ◌, ◌<ℤ◌, true, false}
use Rattle.std.proofs.Common.{List, [], ◌∷◌, ◌++◌, length, take, slice_set, slice_index_or, ◌≤◌, All}
use Rattle.std.specs.Prelude.{Option, Some, None, nat_abs, map}
use Rattle.std.proofs.lemmas.Int.{ints}
use Rattle.std.proofs.lemmas.Bool.{cases_eq}
use Rattle.std.proofs.lemmas.List.{get_or-set_same, get_or-set_other, length-set, get_or-take, get_or_default, length-take-le, take_all}
use Rattle.std.proofs.lemmas.List.{take_more, take_more_set}
use Rattle.std.proofs.Math.ListN.{get_or-map}
use Rattle.std.proofs.lemmas.List.Elements.{All-more, All-take}
use Rattle.std.proofs.lemmas.List.Sums.{sum_by-set}
use Rattle.std.proofs.lemmas.Option.{get_or_from_slice_get, slice_get-get_or, slice_get_within}
use Rattle.ft_base.specs.Interval.{IsWithin}
use Rattle.ft_linear.specs.meaning.Form.{InArea, span_at, values_at}
use Rattle.ft_diff.specs.declared.diff.Diff.{Diff}
use Rattle.ft_diff.specs.declared.narrowing.Step.{Step}
use Rattle.ft_diff.specs.declared.narrowing.Step.TheVariants.{Met, Lowered, Barred}
use Rattle.ft_diff.specs.meaning.Differences.{IsOver, HasUnknown, Meets, number_at}
use Rattle.ft_diff.specs.narrowing.Outcome.{HasOutcome, Narrows, highs, room_below, combined, is_barred}

-- by number instead of by look-up
pub of-area : (spans : List (ℤ × ℤ)) (x : ℕ → ℤ) (u : ℕ) → InArea spans x → u < length spans → IsWithin (span_at spans u) (x u)
of-area spans x u area within = area u (span_at spans u) (slice_get-get_or spans u (pos 0, pos 0) within)

pub in-area : (spans : List (ℤ × ℤ)) (x : ℕ → ℤ) → ((u : ℕ) → u < length spans → IsWithin (span_at spans u) (x u)) → InArea spans x
in-area spans x each u s is = subst (λ (t : ℤ × ℤ). IsWithin t (x u)) (get_or_from_slice_get spans u s (pos 0, pos 0) is)
    (each u (slice_get_within spans u s is))

smaller : (hi lo b : ℤ) → lo ≤ℤ b → b <ℤ hi → nat_abs (b -ℤ lo) < nat_abs (hi -ℤ lo)
smaller hi lo b p q = grind (arith, ints)

-- the greatest number of an unknown is lowered to a bound
module _ (spans : List (ℤ × ℤ)) (u : ℕ) (b : ℤ) (within : u < length spans) where
  abbrev now : List (ℤ × ℤ)
  now = slice_set spans u ((span_at spans u).0, b)

  long : length now ≡ length spans
  long = length-set spans u ((span_at spans u).0, b)

  place : (v : ℕ) → ((v ≡ u) × (span_at now v ≡ ((span_at spans u).0, b))) ⊎ (span_at now v ≡ span_at spans v)
  place v = elim (cases_eq v u) [
    | inl same ↦ inl (same, ap (span_at now) same ∙ get_or-set_same spans u ((span_at spans u).0, b) (pos 0, pos 0) within)
    | inr other ↦ inr (get_or-set_other spans u v ((span_at spans u).0, b) (pos 0, pos 0) other)
  ]

  keeps : (x : ℕ → ℤ) → x u ≤ℤ b → InArea spans x → InArea now x
  keeps x under area = in-area now x (λ v inside.
      let old = of-area spans x v area (subst (λ (n : ℕ). v < n) long inside) in
      elim (place v) [
        | inl (same, is) ↦
            let number = ap x same in
            let first = ap (λ (w : ℕ). (span_at spans w).0) same in
            subst (λ (t : ℤ × ℤ). IsWithin t (x v)) (sym is) (omega (arith, ints, old, first), omega (arith, ints, number, under))
        | inr is ↦ subst (λ (t : ℤ × ℤ). IsWithin t (x v)) (sym is) old
      ])

  inside : b <ℤ (span_at spans u).1 → (x : ℕ → ℤ) → InArea now x → InArea spans x
  inside less x area = in-area spans x (λ v small.
      let new = of-area now x v area (subst (λ (n : ℕ). v < n) (sym long) small) in
      elim (place v) [
        | inl (same, is) ↦
            let here = subst (λ (t : ℤ × ℤ). IsWithin t (x v)) is new in
            let first = ap (λ (w : ℕ). (span_at spans w).0) same in
            let last = ap (λ (w : ℕ). (span_at spans w).1) same in
            (omega (arith, ints, here, first), omega (arith, ints, here, last, less))
        | inr is ↦ subst (λ (t : ℤ × ℤ). IsWithin t (x v)) is new
      ])

  less-room : (span_at spans u).0 ≤ℤ b → b <ℤ (span_at spans u).1 → room_below now < room_below spans
  less-room low less =
      let s = sum_by-set (λ (t : ℤ × ℤ). nat_abs (t.1 -ℤ t.0)) spans u ((span_at spans u).0, b) (pos 0, pos 0) within in
      let l = smaller (span_at spans u).1 (span_at spans u).0 b low less in
      omega (arith, s, l)

  pub lowered : (span_at spans u).0 ≤ℤ b → b <ℤ (span_at spans u).1 → Narrows (λ x. x u ≤ℤ b) spans
      (slice_set spans u ((span_at spans u).0, b))
  lowered low less = record { keeps = keeps; inside = inside less; less = less-room low less; long = long }

  pub lowered-high : (span_at spans u).0 ≤ℤ b → InArea spans (highs spans)
      → InArea (slice_set spans u ((span_at spans u).0, b)) (highs (slice_set spans u ((span_at spans u).0, b)))
  lowered-high low high = in-area now (highs now) (λ v inside.
      let old = of-area spans (highs spans) v high (subst (λ (n : ℕ). v < n) long inside) in
      elim (place v) [
        | inl (same, is) ↦ subst (λ (t : ℤ × ℤ). IsWithin t t.1) (sym is) (low, omega (arith, ints))
        | inr is ↦ subst (λ (t : ℤ × ℤ). IsWithin t t.1) (sym is) old
      ])

  -- no number of the span is at most the bound
  pub barred : b <ℤ (span_at spans u).0 → (x : ℕ → ℤ) → x u ≤ℤ b → InArea spans x → ⊥
  barred less x under area = let old = of-area spans x u area within in absurd (omega (arith, ints, old, under, less))

-- no point of the area is above the greatest numbers
under-highs : (spans : List (ℤ × ℤ)) (x : ℕ → ℤ) (y : Option ℕ) → HasUnknown (length spans) y → InArea spans x
    → number_at x y ≤ℤ number_at (highs spans) y
under-highs spans x None has area = omega (arith, ints)
under-highs spans x (Some u) has area = (of-area spans x u area has).1

weaker : (P R : (ℕ → ℤ) → Type 0) (old new : List (ℤ × ℤ)) (step : Step) → ((x : ℕ → ℤ) → R x → InArea old x → P x)
    → (P (highs old) → R (highs old))
    → HasOutcome P old new step → HasOutcome R old new step
weaker P R old new Met to from o = (o.0, from o.1)
weaker P R old new (Lowered u) to from o = record {
  keeps = λ x r area. o.keeps x (to x r area) area;
  inside = o.inside;
  less =
      o.less;
  long = o.long;
}
weaker P R old new Barred to from o = λ x r area. o x (to x r area) area

-- what one line does
module _ (spans : List (ℤ × ℤ)) (d : Diff) (b : ℤ) (over : IsOver (length spans) d) (is : b ≡ number_at (highs spans) d.y +ℤ d.c) where
  pub below-bound : (u : ℕ) (new : List (ℤ × ℤ)) (step : Step) → d.x ≡ Some u → HasOutcome (λ x. x u ≤ℤ b) spans new step
      → HasOutcome (λ x. Meets x d) spans new step
  below-bound u new step named o =
      weaker (λ x. x u ≤ℤ b) (λ x. Meets x d) spans new step
      (λ x met area.
      let y = under-highs spans x d.y over.y area in
      let at : number_at x d.x ≡ x u = ap (number_at x) named in
      omega (arith, ints, met, y, at, is))
      (λ under. let at : number_at (highs spans) d.x ≡ highs spans u = ap (number_at (highs spans)) named in
      omega (arith, ints, under, at, is))
      o

  pub zero-barred : d.x ≡ None → b <ℤ pos 0 → (x : ℕ → ℤ) → Meets x d → InArea spans x → ⊥
  zero-barred named less x met area =
      let y = under-highs spans x d.y over.y area in
      let at : number_at x d.x ≡ pos 0 = ap (number_at x) named in
      absurd (omega (arith, ints, met, y, at, is, less))

-- one search combined another
pub joined : (P Q R : (ℕ → ℤ) → Type 0) (old mid now : List (ℤ × ℤ)) (step one : Step) → ((x : ℕ → ℤ) → R x → P x)
    → ((x : ℕ → ℤ) → R x → Q x) → ((x : ℕ → ℤ) → P x → Q x → R x)
    → is_barred step ≡ false → HasOutcome P old mid step → HasOutcome Q mid now one → HasOutcome R old now (combined step one)
joined P Q R old mid now Met Met p q both going o n = (n.0 ∙ o.0, both (highs old) o.1 (subst (λ (l : List (ℤ × ℤ)). Q (highs l)) o.0 n.1))
joined P Q R old mid now Met (Lowered u) p q both going o n =
    subst (λ (l : List (ℤ × ℤ)). Narrows R l now) o.0 (weaker Q R mid now (Lowered u) (λ x r area. q x r)
    (both (highs mid) (subst (λ (l : List (ℤ × ℤ)). P (highs l)) (sym o.0) o.1)) n)
joined P Q R old mid now Met Barred p q both going o n = λ x r area. n x (q x r) (subst (λ (l : List (ℤ × ℤ)). InArea l x) (sym o.0) area)
joined P Q R old mid now (Lowered u) Met p q both going o n =
    subst (λ (l : List (ℤ × ℤ)). Narrows R old l) (sym n.0) (record {
      keeps = λ x r area. o.keeps x (p x r) area;
      inside = o.inside;
      less =
          o.less;
      long = o.long;
    })
joined P Q R old mid now (Lowered u) (Lowered v) p q both going o n =
    record {
      keeps = λ x r area. n.keeps x (q x r) (o.keeps x (p x r) area);
      inside = λ x area. o.inside x (n.inside x area);
      less = let a =
          o.less in let b = n.less in omega (arith, a, b);
      long = n.long ∙ o.long;
    }
joined P Q R old mid now (Lowered u) Barred p q both going o n = λ x r area. n x (q x r) (o.keeps x (p x r) area)
joined P Q R old mid now Barred one p q both going o n = cc going

fewer : (list : List Diff) (i : ℕ) (x : ℕ → ℤ) → i < length list → All (Meets x) (take (i + 1) list) → All (Meets x) (take i list)
fewer list i x within all k d small =
    let short = length-take-le i list (omega (arith, within)) in
    let long = length-take-le (i + 1) list (omega (arith, within)) in
    let below : k < i = omega (arith, small, short) in
    subst (Meets x) (get_or-take (i + 1) list k d (omega (arith, below)) ∙ sym (get_or-take i list k d below))
    (all k d (omega (arith, below, long)))

-- one more line
pub one-more : (list : List Diff) (i : ℕ) (d : Diff) (old mid now : List (ℤ × ℤ)) (step one : Step) → i < length list → is_barred step
    ≡ false
    → HasOutcome (λ x. All (Meets x) (take i list)) old mid step → HasOutcome (λ x. Meets x (slice_index_or list i d)) mid now one
    → HasOutcome (λ x. All (Meets x) (take (i + 1) list)) old now (combined step one)
one-more list i d old mid now step one within going o n =
    let long = length-take-le (i + 1) list (omega (arith, within)) in
    joined (λ x. All (Meets x) (take i list)) (λ x. Meets x (slice_index_or list i d)) (λ x. All (Meets x) (take (i + 1) list)) old mid now
    step one
    (λ x all. fewer list i x within all)
    (λ x all. subst (Meets x) (get_or-take (i + 1) list i d (omega (arith))) (all i d (omega (arith, long))))
    (λ x all met. All-more (Meets x) list i d within all met)
    going o n

-- the last line is done, or one left no point
pub all-done : (list : List Diff) (i : ℕ) (old now : List (ℤ × ℤ)) (step : Step) → length list ≤ i
    → HasOutcome (λ x. All (Meets x) (take i list)) old now step → HasOutcome (λ x. All (Meets x) list) old now step
all-done list i old now step end o = subst (λ (done : List Diff). HasOutcome (λ x. All (Meets x) done) old now step) (take_all i list end) o

pub none-left : (list : List Diff) (i : ℕ) (old now : List (ℤ × ℤ)) (step : Step) → is_barred step ≡ true
    → HasOutcome (λ x. All (Meets x) (take i list)) old now step → (x : ℕ → ℤ) → All (Meets x) list → InArea old x → ⊥
none-left list i old now Met is o x all area = cc is
none-left list i old now (Lowered u) is o x all area = cc is
none-left list i old now Barred is o x all area = o x (All-take (Meets x) i list all) area

-- one more span is written
pub one-written : (old new area : List (ℤ × ℤ)) (i : ℕ) (s : ℤ × ℤ) → i < length old → i < length area → new ≡ slice_set old i s → s
    ≡ slice_index_or area i s
    → take i old ≡ take i area → take (i + 1) new ≡ take (i + 1) area
one-written old new area i s within inside set is so =
    ap (take (i + 1)) set ∙ take_more_set old i s within ∙ ap (λ (l : List (ℤ × ℤ)). l ++ s ∷ []) so
    ∙ ap (λ (t : ℤ × ℤ). take i area ++ t ∷ []) is ∙ sym (take_more area i s inside)

pub one-within : (area : List (ℤ × ℤ)) (i : ℕ) (s : ℤ × ℤ) → i < length area → s ≡ slice_index_or area i s → s.0 ≤ℤ s.1
    → ((u : ℕ) → u < i → IsWithin (span_at area u) (highs area u)) → (u : ℕ) → u < i + 1 → IsWithin (span_at area u) (highs area u)
one-within area i s inside is bounded before u below = elim (cases_eq u i) [
  | inl same ↦
      let here : s ≡ span_at area u = is ∙ get_or_default area i s (pos 0, pos 0) inside ∙ sym (ap (span_at area) same) in
      subst (λ (t : ℤ × ℤ). IsWithin t t.1) here (bounded, omega (arith, ints))
  | inr other ↦ before u (grind (arith, below, other))
]

-- the greatest numbers as a list of values
values-high : (spans : List (ℤ × ℤ)) → highs spans ≡ values_at (map (λ s. s.1) spans)
values-high spans i u = sym (get_or-map (λ (s : ℤ × ℤ). s.1) spans u (pos 0, pos 0)) i

pub by-values : (P : (ℕ → ℤ) → Type 0) (spans kept : List (ℤ × ℤ)) → kept ≡ spans → P (highs spans) → P (values_at (map (λ s. s.1) kept))
by-values P spans kept same p = subst P (values-high spans ∙ ap (λ (l : List (ℤ × ℤ)). values_at (map (λ s. s.1) l)) (sym same)) p
