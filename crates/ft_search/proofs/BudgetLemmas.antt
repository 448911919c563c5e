-- A spent tree has fewer splits than its area has points, times two for each atom, less one: each leaf takes a choice of its own.
use Rattle.std.proofs.Common.{◌≡◌, ◌∙◌, ◌⊎◌, inl, inr, sym, ap, subst, refl, ℕ, zero, suc, ◌+◌, ◌*◌, ◌^◌, ◌<◌, ◌≤◌, ℤ, pos, ◌+ℤ◌}
use Rattle.std.proofs.Common.{◌≤ℤ◌, ◌<ℤ◌, Bool, true, false, ◌&&◌, List, [], ◌∷◌, ◌++◌, length, map, Option, Some, None, slice_get, arith}
use Rattle.std.specs.Prelude.{slice_set, unwrap_or, int_le, int_lt}
use Rattle.std.proofs.lemmas.Bool.{cases_Bool}
use Rattle.std.proofs.lemmas.List.{length-set}
use Rattle.std.proofs.lemmas.List.Sums.{sum_by-append, sum_by-cons}
use Rattle.std.proofs.lemmas.Option.{cond_some, slice_get-get_or}
use Rattle.std.proofs.lemmas.Int.{ints, by_lt_z}
use Rattle.std.proofs.Math.Nat.{mul-le-mul_left, pow-suc}
use Rattle.ft_linear.specs.declared.lines.Line.{Line}
use Rattle.ft_linear.specs.laws.Parts.{SettledAtOnePoint}
use Rattle.ft_linear.specs.meaning.Form.{LinView, span_at}
use Rattle.ft_linear.specs.meaning.Formula.{FormulaView}
use Rattle.ft_linear.specs.meaning.Part.{PartView}
use Rattle.ft_linear.specs.meaning.Rules.{narrowed, up_to, down_to, Tightens, total_factor, total_constant}
use Rattle.ft_cert.specs.declared.node.CertNode.TheVariants as node
use Rattle.ft_cert.specs.meaning.Evidence.{CutsAt, DecidesAt, NodeHolds, Placed, placed, placed_of}
use Rattle.ft_cert.specs.meaning.Parts.{low_part, high_part, true_part, false_part, tight_part, tight_span, whole_of}
use Rattle.ft_cert.specs.meaning.Tree.{Tree, Open, F, L, S, R, C, T}
use Rattle.ft_search.specs.laws.Budget.{AreNonempty, SpendsLess, points_in, values_in}
use Rattle.ft_search.specs.meaning.Spent.{open_parts, split_at, splits_in}

-- the atoms that are undecided
abbrev undecided : List (Option Bool) → ℕ
undecided [] = 0
undecided (None ∷ ds) = undecided ds + 1
undecided (Some b ∷ ds) = undecided ds

-- the ways to choose a point and to decide each undecided atom
abbrev choices : PartView → ℕ
choices p = points_in p.spans * 2 ^ undecided p.decided

both-true : (a b : Bool) → (a && b) ≡ true → (a ≡ true) × (b ≡ true)
both-true true true e = (refl, refl)
both-true true false e = cc e
both-true false b e = cc e

-- a span in place of another
nonempty-set : (spans : List (ℤ × ℤ)) (u : ℕ) (s : ℤ × ℤ) → s.0 ≤ℤ s.1 → AreNonempty spans → AreNonempty (slice_set spans u s)
nonempty-set [] u s h all = all
nonempty-set (t ∷ spans) zero s h all = (h, all.1)
nonempty-set (t ∷ spans) (suc u) s h all = (all.0, nonempty-set spans u s h all.1)

points-positive : (spans : List (ℤ × ℤ)) → AreNonempty spans → 1 ≤ points_in spans
points-positive [] all = omega arith
points-positive (s ∷ spans) all =
    let r = points-positive spans all.1 in
    let w : 1 ≤ values_in s = wide s all.0 in
    let m : values_in s * 1 ≤ values_in s * points_in spans = mul-le-mul_left (values_in s) r in
    omega (arith, w, m)
  where
    wide : (s : ℤ × ℤ) → s.0 ≤ℤ s.1 → 1 ≤ values_in s
    wide s h = grind (arith, ints, h)

-- the points of a cut: those of two spans that make up a third
points-cut : (spans : List (ℤ × ℤ)) (u : ℕ) (s t : ℤ × ℤ) → u < length spans → values_in s + values_in t ≡ values_in (span_at spans u)
    → points_in (slice_set spans u s) + points_in (slice_set spans u t) ≡ points_in spans
points-cut [] u s t within e = absurd (omega (arith, within))
points-cut (r ∷ spans) zero s t within e = sym (mul-add-right (values_in s) (values_in t) (points_in spans))
    ∙ ap (λ (n : ℕ). n * points_in spans) e
  where
    mul-add-right : (a b c : ℕ) → (a + b) * c ≡ a * c + b * c
    mul-add-right a b c = grind arith
points-cut (r ∷ spans) (suc u) s t within e =
    let below : u < length spans = omega (arith, within) in
    sym (mul-add-left (values_in r) (points_in (slice_set spans u s)) (points_in (slice_set spans u t)))
    ∙ ap (λ (n : ℕ). values_in r * n) (points-cut spans u s t below e)
  where
    mul-add-left : (a b c : ℕ) → a * (b + c) ≡ a * b + a * c
    mul-add-left a b c = grind arith

points-less : (spans : List (ℤ × ℤ)) (u : ℕ) (s : ℤ × ℤ) → values_in s ≤ values_in (span_at spans u)
    → points_in (slice_set spans u s) ≤ points_in spans
points-less [] u s h = omega arith
points-less (r ∷ spans) zero s h = mul-right (values_in s) (values_in r) (points_in spans) h
  where
    mul-right : (a b c : ℕ) → a ≤ b → a * c ≤ b * c
    mul-right a b c h = let m : c * a ≤ c * b = mul-le-mul_left c h in grind (arith, m)
points-less (r ∷ spans) (suc u) s h = mul-le-mul_left (values_in r) (points-less spans u s h)

-- a decision takes half of the choices
undecided-set : (ds : List (Option Bool)) (a : ℕ) (b : Bool) → slice_get ds a ≡ Some None → undecided (slice_set ds a (Some b)) + 1
    ≡ undecided ds
undecided-set [] a b e = cc e
undecided-set (d ∷ ds) zero b e = let same : d ≡ None = cc e in subst (λ (d : Option Bool). undecided ds + 1 ≡ undecided (d ∷ ds))
    (sym same) refl
undecided-set (None ∷ ds) (suc a) b e = ap (λ (n : ℕ). n + 1) (undecided-set ds a b e)
undecided-set (Some c ∷ ds) (suc a) b e = undecided-set ds a b e

power-more : (n m : ℕ) → n + 1 ≡ m → 2 ^ n + 2 ^ n ≡ 2 ^ m
power-more n m e =
    let more = pow-suc 2 n in
    let same : n + 1 ≡ suc n = omega arith in
    let step : 2 ^ n + 2 ^ n ≡ 2 ^ suc n = omega (arith, more) in
    step ∙ ap (λ (k : ℕ). 2 ^ k) (sym same ∙ e)

power-positive : (n : ℕ) → 1 ≤ 2 ^ n
power-positive zero = omega arith
power-positive (suc n) = let r = power-positive n in let e = power-more n (suc n) (omega arith) in omega (arith, r, e)

wide-up : (s t : ℤ × ℤ) (hi : ℤ) → up_to s hi ≡ Some t → (t.0 ≤ℤ t.1) × (values_in t ≤ values_in s)
wide-up s t hi e = let (test, is) = cond_some (int_le s.0 hi && int_lt hi s.1) (s.0, hi) t e in
    subst (λ (t : ℤ × ℤ). (t.0 ≤ℤ t.1) × (values_in t ≤ values_in s)) is (so s.0 hi s.1 (both-true (int_le s.0 hi) (int_lt hi s.1) test))
  where
    so : (a b c : ℤ) → (int_le a b ≡ true) × (int_lt b c ≡ true) → (a ≤ℤ b) × (values_in (a, b) ≤ values_in (a, c))
    so a b c h = let l = h.0 in let r = h.1 in (grind (arith, ints, l), grind (arith, ints, l, r))

wide-down : (s t : ℤ × ℤ) (lo : ℤ) → down_to s lo ≡ Some t → (t.0 ≤ℤ t.1) × (values_in t ≤ values_in s)
wide-down s t lo e = let (test, is) = cond_some (int_lt s.0 lo && int_le lo s.1) (lo, s.1) t e in
    subst (λ (t : ℤ × ℤ). (t.0 ≤ℤ t.1) × (values_in t ≤ values_in s)) is (so s.0 lo s.1 (both-true (int_lt s.0 lo) (int_le lo s.1) test))
  where
    so : (a b c : ℤ) → (int_lt a b ≡ true) × (int_le b c ≡ true) → (b ≤ℤ c) × (values_in (b, c) ≤ values_in (a, c))
    so a b c h = let l = h.0 in let r = h.1 in (grind (arith, ints, r), grind (arith, ints, l, r))

narrow-wide : (g c : ℤ) (s t : ℤ × ℤ) → narrowed g c s ≡ Some t → (t.0 ≤ℤ t.1) × (values_in t ≤ values_in s)
narrow-wide g c s t e = elim (cases_Bool (int_lt (pos 0) g)) [
  | inl up ↦ wide-up s t _ (rw up at e)
  | inr other ↦ elim (cases_Bool (int_lt g (pos 0))) [
    | inl down ↦ wide-down s t _ (rw (other, down) at e)
    | inr none ↦ cc (rw (other, none) at e)
  ]
]

widths : (a b v : ℤ) → a ≤ℤ v → v <ℤ b → values_in (a, v) + values_in (v +ℤ pos 1, b) ≡ values_in (a, b)
widths a b v l r = grind (arith, ints, l, r)

two-of : (a b c k : ℕ) → a + b ≡ c → a * k + b * k ≡ c * k
two-of a b c k e = sym (sides a b k) ∙ ap (λ (n : ℕ). n * k) e
  where
    sides : (a b k : ℕ) → (a + b) * k ≡ a * k + b * k
    sides a b k = grind arith

half-of : (m a b : ℕ) → a + a ≡ b → m * a + m * a ≡ m * b
half-of m a b e = sym (sides m a) ∙ ap (λ (n : ℕ). m * n) e
  where
    sides : (m a : ℕ) → m * (a + a) ≡ m * a + m * a
    sides m a = grind arith

is-undecided : (o : Option (Option Bool)) → unwrap_or o None ≡ None → (o ≡ None → ⊥) → o ≡ Some None
is-undecided None e h = absurd (h refl)
is-undecided (Some d) e h = ap (λ (d : Option Bool). Some d) e

above : (v b : ℤ) → v <ℤ b → (v +ℤ pos 1) ≤ℤ b
above v b h = omega (arith, ints, h)

times-right : (c a b : ℕ) → a ≤ b → a * c ≤ b * c
times-right c a b h = let m : c * a ≤ c * b = mul-le-mul_left c h in grind (arith, m)

wide-two : (a b : ℤ) → a <ℤ b → 2 ≤ values_in (a, b)
wide-two a b h = grind (arith, ints, h)

wide-one : (a b : ℤ) → a ≤ℤ b → 1 ≤ values_in (a, b)
wide-one a b h = grind (arith, ints, h)

-- each span has one value, or there are two points
single-or-two : (spans : List (ℤ × ℤ)) → AreNonempty spans → ((u : ℕ) → (span_at spans u).0 ≡ (span_at spans u).1) ⊎ (2 ≤ points_in spans)
single-or-two [] all = inl (λ u. refl)
single-or-two (s ∷ spans) all = by_lt_z s.0 s.1
    (λ less. let w = wide-two s.0 s.1 less in let m : values_in s * 1 ≤ values_in s * points_in spans =
    mul-le-mul_left (values_in s) (points-positive spans all.1) in inr (omega (arith, w, m)))
    (λ other. elim (single-or-two spans all.1) [
      | inl single ↦ inl (both single (equal s.0 s.1 all.0 other))
      | inr two ↦ let w = wide-one s.0 s.1 all.0 in let m = at-least-two (values_in s) (points_in spans) w two in inr m
    ])
  where
    equal : (a b : ℤ) → a ≤ℤ b → b ≤ℤ a → a ≡ b
    equal a b l r = omega (arith, ints, l, r)

    both : ((u : ℕ) → (span_at spans u).0 ≡ (span_at spans u).1) → s.0 ≡ s.1 → (u : ℕ) → (span_at (s ∷ spans) u).0
        ≡ (span_at (s ∷ spans) u).1
    both single e zero = e
    both single e (suc u) = single u

    at-least-two : (a b : ℕ) → 1 ≤ a → 2 ≤ b → 2 ≤ a * b
    at-least-two a b ha hb = let m : a * 2 ≤ a * b = mul-le-mul_left a hb in omega (arith, m, ha)

abbrev all_undecided : List LinView → List (Option Bool)
all_undecided forms = map (λ atom. None) forms

undecided-all : (forms : List LinView) → undecided (all_undecided forms) ≡ length forms
undecided-all [] = refl
undecided-all (l ∷ forms) = let r = undecided-all forms in omega (arith, r)

long-all : (forms : List LinView) → length (all_undecided forms) ≡ length forms
long-all [] = refl
long-all (l ∷ forms) = let r = long-all forms in omega (arith, r)

-- a list that begins with one of two lists
first-of-two : (xs ys : List PartView) (q : PartView) (rest : List PartView) → xs ++ ys ≡ q ∷ rest
    → ((others : List PartView) × (xs ≡ q ∷ others)) ⊎ (ys ≡ q ∷ rest)
first-of-two [] ys q rest e = inr e
first-of-two (x ∷ xs) ys q rest e = let same : x ≡ q = cc e in inl (xs, ap (λ (z : PartView). z ∷ xs) same)

module _ (f : FormulaView) where
  -- each node holds for its own part
  abbrev AllHold : List Placed → Type 0
  AllHold [] = Unit {0}
  AllHold (e ∷ es) = NodeHolds f e.part e.node × AllHold es

  all-hold : (es : List Placed) → ((i : ℕ) (e : Placed) → slice_get es i ≡ Some e → NodeHolds f e.part e.node) → AllHold es
  all-hold [] h = tt
  all-hold (e ∷ es) h = (h zero e refl, all-hold es (λ i d got. h (suc i) d got))

  two-hold : (ds es : List Placed) → AllHold (ds ++ es) → AllHold ds × AllHold es
  two-hold [] es h = (tt, h)
  two-hold (a ∷ ds) es h = let (x, y) = two-hold ds es h.1 in ((h.0, x), y)

  one-split : (e : Placed) (ds : List Placed) → splits_in (e ∷ ds) ≡ split_at e.node + splits_in ds
  one-split e ds = sum_by-cons (λ e. split_at e.node) e ds

  two-splits : (e : Placed) (ds es : List Placed) → splits_in (e ∷ (ds ++ es)) ≡ split_at e.node + (splits_in ds + splits_in es)
  two-splits e ds es = one-split e (ds ++ es) ∙ ap (λ (n : ℕ). split_at e.node + n) (sum_by-append (λ e. split_at e.node) ds es)

  -- the two parts of a split share out the choices
  cut-choices : (p : PartView) (u : ℕ) (v : ℤ) → CutsAt p u v → choices (low_part p u v) + choices (high_part p u v) ≡ choices p
  cut-choices p u v c = two-of _ _ (points_in p.spans) (2 ^ undecided p.decided)
      (points-cut p.spans u _ _ c.unknown (widths (span_at p.spans u).0 (span_at p.spans u).1 v c.from c.below))

  got-undecided : (p : PartView) (a : ℕ) → length p.decided ≡ length f.atoms → DecidesAt f p a → slice_get p.decided a ≡ Some None
  got-undecided p a long d = is-undecided (slice_get p.decided a) d.undecided (λ none.
      let got = slice_get-get_or p.decided a None (omega (arith, long, d.atom)) in cc (sym none ∙ got))

  case-choices : (p : PartView) (a : ℕ) → length p.decided ≡ length f.atoms → DecidesAt f p a
      → choices (true_part p a) + choices (false_part p a) ≡ choices p
  case-choices p a long d =
      let got = got-undecided p a long d in
      let t = undecided-set p.decided a true got in
      let n = undecided-set p.decided a false got in
      let same : undecided (slice_set p.decided a (Some true)) ≡ undecided (slice_set p.decided a (Some false)) = omega (arith, t, n) in
      ap (λ (k : ℕ). points_in p.spans * 2 ^ k + points_in p.spans * 2 ^ undecided (slice_set p.decided a (Some false))) same
      ∙ half-of (points_in p.spans) (2 ^ undecided (slice_set p.decided a (Some false))) (2 ^ undecided p.decided) (power-more _ _ n)

  tight-wide : (p : PartView) (u : ℕ) (lines : List Line) → Tightens f p u lines (tight_span f p u lines)
      → ((tight_span f p u lines).0 ≤ℤ (tight_span f p u lines).1) × (values_in (tight_span f p u lines) ≤ values_in (span_at p.spans u))
  tight-wide p u lines h =
      narrow-wide (total_factor f p u lines) (total_constant f p lines) (span_at p.spans u) (tight_span f p u lines) h.narrows

  tight-choices : (p : PartView) (u : ℕ) (lines : List Line) → Tightens f p u lines (tight_span f p u lines)
      → choices (tight_part f p u lines) ≤ choices p
  tight-choices p u lines h =
      times-right (2 ^ undecided p.decided) (points_in (slice_set p.spans u (tight_span f p u lines))) (points_in p.spans)
      (points-less p.spans u (tight_span f p u lines) (tight-wide p u lines h).1)

  one-choice : (p : PartView) → AreNonempty p.spans → 1 ≤ choices p
  one-choice p all =
      let a = points-positive p.spans all in
      let b = power-positive (undecided p.decided) in
      let m : points_in p.spans * 1 ≤ points_in p.spans * 2 ^ undecided p.decided = mul-le-mul_left (points_in p.spans) b in
      omega (arith, a, m)

  -- each leaf takes a choice of its own
  fits : (t : Tree) (p : PartView) → length p.decided ≡ length f.atoms → AreNonempty p.spans → AllHold (placed_of f p t)
      → splits_in (placed_of f p t) + 1 ≤ choices p
  fits Open p long all h = one-choice p all
  fits F p long all h = one-choice p all
  fits L p long all h = one-choice p all
  fits (S lines) p long all h = one-choice p all
  fits (R u v a b) p long all h =
      let c : CutsAt p u v = h.0 in
      let (ha, hb) = two-hold (placed_of f (low_part p u v) a) (placed_of f (high_part p u v) b) h.1 in
      let both = cut-choices p u v c in
      let n = two-splits (placed p (node.R u v)) (placed_of f (low_part p u v) a) (placed_of f (high_part p u v) b) in
      let x = fits a (low_part p u v) long (nonempty-set p.spans u ((span_at p.spans u).0, v) c.from all) ha in
      let y = fits b (high_part p u v) long
      (nonempty-set p.spans u (v +ℤ pos 1, (span_at p.spans u).1) (above v (span_at p.spans u).1 c.below) all) hb in
      omega (arith, n, both, x, y)
  fits (C atom a b) p long all h =
      let d : DecidesAt f p atom = h.0 in
      let (ha, hb) = two-hold (placed_of f (true_part p atom) a) (placed_of f (false_part p atom) b) h.1 in
      let both = case-choices p atom long d in
      let n = two-splits (placed p (node.C atom)) (placed_of f (true_part p atom) a) (placed_of f (false_part p atom) b) in
      let x = fits a (true_part p atom) (length-set p.decided atom (Some true) ∙ long) all ha in
      let y = fits b (false_part p atom) (length-set p.decided atom (Some false) ∙ long) all hb in
      omega (arith, n, both, x, y)
  fits (T u lines a) p long all h =
      let n = one-split (placed p (node.T u lines)) (placed_of f (tight_part f p u lines) a) in
      let x = fits a (tight_part f p u lines) long (nonempty-set p.spans u (tight_span f p u lines) (tight-wide p u lines h.0).0 all) h.1 in
      let less = tight-choices p u lines h.0 in
      omega (arith, n, x, less)

  -- and one more is left where the part of the first open leaf has two
  one-left : (t : Tree) (p q : PartView) (rest : List PartView) → length p.decided ≡ length f.atoms → AreNonempty p.spans
      → AllHold (placed_of f p t) → open_parts f p t ≡ q ∷ rest → (AreNonempty q.spans → 2 ≤ choices q)
      → splits_in (placed_of f p t) + 2 ≤ choices p
  one-left Open p q rest long all h first two =
      let same : p ≡ q = cc first in
      subst (λ (r : PartView). 2 ≤ choices r) (sym same) (two (subst (λ (r : PartView). AreNonempty r.spans) same all))
  one-left F p q rest long all h first two = cc first
  one-left L p q rest long all h first two = cc first
  one-left (S lines) p q rest long all h first two = cc first
  one-left (R u v a b) p q rest long all h first two =
      let c : CutsAt p u v = h.0 in
      let (ha, hb) = two-hold (placed_of f (low_part p u v) a) (placed_of f (high_part p u v) b) h.1 in
      let both = cut-choices p u v c in
      let n = two-splits (placed p (node.R u v)) (placed_of f (low_part p u v) a) (placed_of f (high_part p u v) b) in
      let low = nonempty-set p.spans u ((span_at p.spans u).0, v) c.from all in
      let high = nonempty-set p.spans u (v +ℤ pos 1, (span_at p.spans u).1) (above v (span_at p.spans u).1 c.below) all in
      elim (first-of-two (open_parts f (low_part p u v) a) (open_parts f (high_part p u v) b) q rest first) [
        | inl in_a ↦
            let x = one-left a (low_part p u v) q in_a.0 long low ha in_a.1 two in
            let y = fits b (high_part p u v) long high hb in
            omega (arith, n, both, x, y)
        | inr in_b ↦
            let x = fits a (low_part p u v) long low ha in
            let y = one-left b (high_part p u v) q rest long high hb in_b two in
            omega (arith, n, both, x, y)
      ]
  one-left (C atom a b) p q rest long all h first two =
      let d : DecidesAt f p atom = h.0 in
      let (ha, hb) = two-hold (placed_of f (true_part p atom) a) (placed_of f (false_part p atom) b) h.1 in
      let both = case-choices p atom long d in
      let n = two-splits (placed p (node.C atom)) (placed_of f (true_part p atom) a) (placed_of f (false_part p atom) b) in
      let yes_long = length-set p.decided atom (Some true) ∙ long in
      let no_long = length-set p.decided atom (Some false) ∙ long in
      elim (first-of-two (open_parts f (true_part p atom) a) (open_parts f (false_part p atom) b) q rest first) [
        | inl in_a ↦
            let x = one-left a (true_part p atom) q in_a.0 yes_long all ha in_a.1 two in
            let y = fits b (false_part p atom) no_long all hb in
            omega (arith, n, both, x, y)
        | inr in_b ↦
            let x = fits a (true_part p atom) yes_long all ha in
            let y = one-left b (false_part p atom) q rest no_long all hb in_b two in
            omega (arith, n, both, x, y)
      ]
  one-left (T u lines a) p q rest long all h first two =
      let n = one-split (placed p (node.T u lines)) (placed_of f (tight_part f p u lines) a) in
      let x = one-left a (tight_part f p u lines) q rest long
      (nonempty-set p.spans u (tight_span f p u lines) (tight-wide p u lines h.0).0 all) h.1 first two in
      let less = tight-choices p u lines h.0 in
      omega (arith, n, x, less)

pub spends-less : SettledAtOnePoint → SpendsLess
spends-less settled f enough n spans t all below spent =
    let two : AreNonempty spent.first.spans → 2 ≤ choices spent.first = λ nonempty. elim (single-or-two spent.first.spans nonempty) [
      | inl single ↦ absurd (settled f spent.first below single spent.unsettled.maybe)
      | inr points ↦
          let m : points_in spent.first.spans * 1 ≤ points_in spent.first.spans * 2 ^ undecided spent.first.decided
          = mul-le-mul_left (points_in spent.first.spans) (power-positive (undecided spent.first.decided)) in
          omega (arith, points, m)
    ] in
    let hold = all-hold f (placed_of f (whole_of f spans) t) (λ i e got. (spent.each i e got).0) in
    let fit = one-left f t (whole_of f spans) spent.first spent.others (long-all f.atoms) all hold spent.waiting two in
    let count = ap (λ (k : ℕ). points_in spans * 2 ^ k) (undecided-all f.atoms) in
    let splits = spent.splits in
    omega (arith, fit, count, splits)
