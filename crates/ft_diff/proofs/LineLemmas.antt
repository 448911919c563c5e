-- Difference lines as a list.
use Rattle.std.proofs.Common.{◌≡◌, ◌∙◌, inl, inr, sym, ap, subst, refl, ℕ, zero, suc, ◌+◌, ◌<◌, ◌↔◌, ℤ, pos, negsuc, neg_ℤ, ◌+ℤ◌, ◌-ℤ◌}
use Rattle.std.proofs.Common.{◌*ℤ◌, ◌≤ℤ◌, Bool, true, false, ◌&&◌, ◌||◌, cond, List, [], ◌∷◌, ◌++◌, length, Option, Some, None, slice_get}
use Rattle.std.proofs.Common.{All, arith, w64}
use Rattle.std.proofs.lemmas.Bool.{cases_Bool, cases_eq}
use Rattle.std.proofs.lemmas.Int.{ints, to_z-of_z, fits_signed_from_abs}
use mir.Val.{to_z, of_z}
use Rattle.std.proofs.lemmas.List.Elements.{All-nil, All-cons, All-head, All-tail, All-append}
use Rattle.std.proofs.lemmas.Option.{slice_get_within, get_or_from_slice_get}
use Rattle.ft_diff.specs.declared.diff.Diff.{Diff}
use Rattle.ft_diff.specs.meaning.Differences.{Meets}
use Rattle.ft_linear.specs.meaning.Form.{Factor, LinView, InArea, HasUnknowns, IsSmall, sum_at}
use Rattle.ft_linear.specs.meaning.Formula.{FormulaView, IsOver as IsFormulaOver}
use Rattle.ft_linear.specs.meaning.Part.{PartView, forced}
use Rattle.ft_linear.specs.meaning.Rules.{literal_form}
use Rattle.ft_linear.specs.meaning.Difference.{Solves, is_one, is_minus_one, is_difference}
use Rattle.ft_diff.specs.gathering.Lines.{diff, diff_from, form_diff, line_if, lines_at, lines_below}

one-is : (z : ℤ) → is_one z ≡ true → z ≡ pos 1
one-is z e = grind (arith, ints, e)

minus-is : (z : ℤ) → is_minus_one z ≡ true → z ≡ negsuc 0
minus-is z e = grind (arith, ints, e)

-- a point meets a line
abbrev IsMet : (ℕ → ℤ) → List Factor → ℤ → Type 0
IsMet x fs c = (sum_at x fs +ℤ c) ≤ℤ pos 0

plus-one : (g y : ℤ) → g ≡ pos 1 → g *ℤ y ≡ y
plus-one g y e = ap (λ (z : ℤ). z *ℤ y) e ∙ one y
  where
    one : (y : ℤ) → pos 1 *ℤ y ≡ y
    one y = omega (arith, ints)

times-minus : (g y : ℤ) → g ≡ negsuc 0 → g *ℤ y ≡ neg_ℤ y
times-minus g y e = ap (λ (z : ℤ). z *ℤ y) e ∙ one y
  where
    one : (y : ℤ) → negsuc 0 *ℤ y ≡ neg_ℤ y
    one y = omega (arith, ints)

-- a point meets a difference exactly where the line's form is at most 0
pub meets-from : (x : ℕ → ℤ) (fs : List Factor) (c : ℤ) (d : Diff) → diff_from fs c ≡ Some d → Meets x d ↔ IsMet x fs c
meets-from x [] c d e = cc e
meets-from x (f ∷ []) c d e = elim (cases_Bool (is_one f.1)) [
  | inl so ↦
      let is : diff (Some f.0) None (neg_ℤ c) ≡ d = cc (rw so at e) in
      let p = plus-one f.1 (x f.0) (one-is f.1 so) in
      subst (λ (d : Diff). Meets x d ↔ IsMet x (f ∷ []) c) is ((λ m. omega (arith, ints, m, p)), (λ m. omega (arith, ints, m, p)))
  | inr isnt ↦ elim (cases_Bool (is_minus_one f.1)) [
    | inl so ↦
        let is : diff None (Some f.0) (neg_ℤ c) ≡ d = cc (rw (isnt, so) at e) in
        let p = times-minus f.1 (x f.0) (minus-is f.1 so) in
        subst (λ (d : Diff). Meets x d ↔ IsMet x (f ∷ []) c) is ((λ m. omega (arith, ints, m, p)), (λ m. omega (arith, ints, m, p)))
    | inr other ↦ cc (rw (isnt, other) at e)
  ]
]
meets-from x (f ∷ g ∷ []) c d e = elim (cases_Bool (is_one f.1)) [
  | inl so ↦ elim (cases_Bool (is_minus_one g.1)) [
    | inl minus ↦
        let is : diff (Some f.0) (Some g.0) (neg_ℤ c) ≡ d = cc (rw (so, minus) at e) in
        let p = plus-one f.1 (x f.0) (one-is f.1 so) in
        let q = times-minus g.1 (x g.0) (minus-is g.1 minus) in
        subst (λ (d : Diff). Meets x d ↔ IsMet x (f ∷ g ∷ []) c) is (
          (λ m. omega (arith, ints, m, p, q)),
          (λ m. omega (arith, ints, m, p, q)),
        )
    | inr other ↦ cc (rw (so, other) at e)
  ]
  | inr isnt ↦ elim (cases_Bool (is_minus_one f.1)) [
    | inl minus ↦ elim (cases_Bool (is_one g.1)) [
      | inl so ↦
          let is : diff (Some g.0) (Some f.0) (neg_ℤ c) ≡ d = cc (rw (isnt, minus, so) at e) in
          let p = times-minus f.1 (x f.0) (minus-is f.1 minus) in
          let q = plus-one g.1 (x g.0) (one-is g.1 so) in
          subst (λ (d : Diff). Meets x d ↔ IsMet x (f ∷ g ∷ []) c) is (
            (λ m. omega (arith, ints, m, p, q)),
            (λ m. omega (arith, ints, m, p, q)),
          )
      | inr other ↦ cc (rw (isnt, minus, other) at e)
    ]
    | inr other ↦ cc (rw (isnt, other) at e)
  ]
]
meets-from x (f ∷ g ∷ h ∷ fs) c d e = cc e

-- a difference has a line, and what has one is a difference
not-both : (z : ℤ) → is_one z ≡ true → is_minus_one z ≡ true → ⊥
not-both z e f = cc (sym (one-is z e) ∙ minus-is z f)

some-from : (fs : List Factor) (c : ℤ) → is_difference fs ≡ true → (d : Diff) × (diff_from fs c ≡ Some d)
some-from [] c e = cc e
some-from (f ∷ []) c e = elim (cases_Bool (is_one f.1)) [
  | inl so ↦ (diff (Some f.0) None (neg_ℤ c), rw so refl)
  | inr isnt ↦ elim (cases_Bool (is_minus_one f.1)) [
    | inl so ↦ (diff None (Some f.0) (neg_ℤ c), rw (isnt, so) refl)
    | inr other ↦ cc (rw (isnt, other) at e)
  ]
]
some-from (f ∷ g ∷ []) c e = elim (cases_Bool (is_one f.1)) [
  | inl so ↦ elim (cases_Bool (is_minus_one g.1)) [
    | inl minus ↦ (diff (Some f.0) (Some g.0) (neg_ℤ c), rw (so, minus) refl)
    | inr other ↦ elim (cases_Bool (is_minus_one f.1)) [
      | inl minus ↦ absurd (not-both f.1 so minus)
      | inr none ↦ cc (rw (so, other, none) at e)
    ]
  ]
  | inr isnt ↦ elim (cases_Bool (is_minus_one f.1)) [
    | inl minus ↦ elim (cases_Bool (is_one g.1)) [
      | inl so ↦ (diff (Some g.0) (Some f.0) (neg_ℤ c), rw (isnt, minus, so) refl)
      | inr other ↦ cc (rw (isnt, minus, other) at e)
    ]
    | inr other ↦ cc (rw (isnt, other) at e)
  ]
]
some-from (f ∷ g ∷ h ∷ fs) c e = cc e

from-some : (fs : List Factor) (c : ℤ) (d : Diff) → diff_from fs c ≡ Some d → is_difference fs ≡ true
from-some [] c d e = cc e
from-some (f ∷ []) c d e = elim (cases_Bool (is_one f.1)) [
  | inl so ↦ rw so refl
  | inr isnt ↦ elim (cases_Bool (is_minus_one f.1)) [
    | inl so ↦ rw (isnt, so) refl
    | inr other ↦ cc (rw (isnt, other) at e)
  ]
]
from-some (f ∷ g ∷ []) c d e = elim (cases_Bool (is_one f.1)) [
  | inl so ↦ elim (cases_Bool (is_minus_one g.1)) [
    | inl minus ↦ rw (so, minus) refl
    | inr other ↦ cc (rw (so, other) at e)
  ]
  | inr isnt ↦ elim (cases_Bool (is_minus_one f.1)) [
    | inl minus ↦ elim (cases_Bool (is_one g.1)) [
      | inl so ↦ rw (isnt, minus, so) refl
      | inr other ↦ cc (rw (isnt, minus, other) at e)
    ]
    | inr other ↦ cc (rw (isnt, other) at e)
  ]
]
from-some (f ∷ g ∷ h ∷ fs) c d e = cc e

-- minus a difference is one
one-negated : (z : ℤ) → is_one (neg_ℤ z) ≡ is_minus_one z
one-negated z = grind (arith, ints)

minus-negated : (z : ℤ) → is_minus_one (neg_ℤ z) ≡ is_one z
minus-negated z = grind (arith, ints)

or-swapped : (a b : Bool) → (a || b) ≡ (b || a)
or-swapped true true = refl
or-swapped true false = refl
or-swapped false true = refl
or-swapped false false = refl

same-difference : (s : Bool) (l : LinView) → is_difference (literal_form s l).factors ≡ is_difference l.factors
same-difference true l = refl
same-difference false l = negated l.factors
  where
    negated : (fs : List Factor) → is_difference (literal_form false (record { factors = fs; constant = pos 0 })).factors ≡ is_difference fs
    negated [] = refl
    negated (f ∷ []) = rw (one-negated f.1, minus-negated f.1) (or-swapped (is_minus_one f.1) (is_one f.1))
    negated (f ∷ g ∷ []) =
        rw (one-negated f.1, minus-negated f.1, one-negated g.1, minus-negated g.1)
        (or-swapped (is_minus_one f.1 && is_one g.1) (is_one f.1 && is_minus_one g.1))
    negated (f ∷ g ∷ h ∷ fs) = refl

all-left : {X : Type 0} (P : X → Type 0) (xs ys : List X) → All P (xs ++ ys) → All P xs
all-left P [] ys h = All-nil P
all-left P (x ∷ xs) ys h = All-cons P x xs (All-head P x (xs ++ ys) h) (all-left P xs ys (All-tail P x (xs ++ ys) h))

all-right : {X : Type 0} (P : X → Type 0) (xs ys : List X) → All P (xs ++ ys) → All P ys
all-right P [] ys h = h
all-right P (x ∷ xs) ys h = all-right P xs ys (All-tail P x (xs ++ ys) h)

module _ (f : FormulaView) (p : PartView) (x : ℕ → ℤ) where
  -- a solution meets the lines
  line-met : (a : ℕ) (s : Bool) (o : Option LinView) → Solves f p x → slice_get f.atoms a ≡ o
      → All (Meets x) (line_if (forced f p a s) (form_diff s o))
  line-met a s o solves got = elim (cases_Bool (forced f p a s)) [
    | inl so ↦ rw so (by-form o got so)
    | inr isnt ↦ rw isnt (All-nil (Meets x))
  ]
    where
      by-line : (l : LinView) (m : Option Diff) → slice_get f.atoms a ≡ Some l → forced f p a s ≡ true → form_diff s (Some l) ≡ m
          → All (Meets x) (line_if true m)
      by-line l None got so is = All-nil (Meets x)
      by-line l (Some d) got so is =
          let fs = (literal_form s l).factors in
          let line = solves.meets a s l so got (sym (same-difference s l) ∙ from-some fs (literal_form s l).constant d is) in
          All-cons (Meets x) d [] ((meets-from x fs (literal_form s l).constant d is).1 line) (All-nil (Meets x))

      by-form : (o : Option LinView) → slice_get f.atoms a ≡ o → forced f p a s ≡ true → All (Meets x) (line_if true (form_diff s o))
      by-form None got so = All-nil (Meets x)
      by-form (Some l) got so = by-line l (form_diff s (Some l)) got so refl

  pub lines-met : (n : ℕ) → Solves f p x → All (Meets x) (lines_below f p n)
  lines-met zero solves = All-nil (Meets x)
  lines-met (suc n) solves = All-append (Meets x) (lines_below f p n) (lines_at f p n) (lines-met n solves)
      (All-append (Meets x) _ _ (line-met n true (slice_get f.atoms n) solves refl) (line-met n false (slice_get f.atoms n) solves refl))

  -- and what meets the lines is a solution
  at-line : (n a : ℕ) → a < n → All (Meets x) (lines_below f p n) → All (Meets x) (lines_at f p a)
  at-line zero a below all = absurd (omega (arith, below))
  at-line (suc n) a below all = elim (cases_eq a n) [
    | inl same ↦ subst (λ (k : ℕ). All (Meets x) (lines_at f p k)) (sym same) (all-right (Meets x) (lines_below f p n) (lines_at f p n) all)
    | inr other ↦ at-line n a (grind (arith, below, other)) (all-left (Meets x) (lines_below f p n) (lines_at f p n) all)
  ]

  of-literal : (a : ℕ) (s : Bool) → All (Meets x) (lines_at f p a)
      → All (Meets x) (line_if (forced f p a s) (form_diff s (slice_get f.atoms a)))
  of-literal a true all = all-left (Meets x) _ _ all
  of-literal a false all = all-right (Meets x) (line_if (forced f p a true) (form_diff true (slice_get f.atoms a))) _ all

  pub met-solves : InArea p.spans x → All (Meets x) (lines_below f p (length f.atoms)) → Solves f p x
  met-solves inside all = record {
    inside = inside;
    meets = λ a s l so got difference.
        let fs = (literal_form s l).factors in
        let (d, is) = some-from fs (literal_form s l).constant (same-difference s l ∙ difference) in
        let lines = of-literal a s (at-line (length f.atoms) a (slice_get_within f.atoms a l got) all) in
        let one : All (Meets x) (d ∷ []) = subst (λ (ds : List Diff). All (Meets x) ds)
        ((λ i. line_if (so i) (form_diff s (got i))) ∙ ap (line_if true) is) lines in
        (meets-from x fs (literal_form s l).constant d is).0 (All-head (Meets x) d [] one);
  }

-- the lines of one more atom
pub lines-more : (f : FormulaView) (p : PartView) (a : ℕ) (l : LinView) (yes_forced no_forced : Bool) → slice_get f.atoms a ≡ Some l
    → yes_forced ≡ forced f p a true → no_forced ≡ forced f p a false
    → lines_below f p (a + 1) ≡ lines_below f p a ++ (line_if yes_forced (form_diff true (Some l))
    ++ line_if no_forced (form_diff false (Some l)))
lines-more f p a l yes_forced no_forced got y n =
    let same : a + 1 ≡ suc a = omega arith in
    ap (lines_below f p) same ∙ (λ i. lines_below f p a ++ (line_if (sy i) (form_diff true (got i))
    ++ line_if (sn i) (form_diff false (got i))))
  where
    sy : forced f p a true ≡ yes_forced
    sy = sym y

    sn : forced f p a false ≡ no_forced
    sn = sym n

pub over-form : (n : ℕ) (f : FormulaView) (a : ℕ) (l : LinView) → IsFormulaOver n f → slice_get f.atoms a ≡ Some l → HasUnknowns n l.factors
over-form n f a l over is =
    subst (λ (m : LinView). HasUnknowns n m.factors) (get_or_from_slice_get f.atoms a l l is) (over a l (slice_get_within f.atoms a l is))

-- a small number is the same when it is read
pub read-same : (z : ℤ) → IsSmall z → to_z w64 (of_z w64 z) ≡ z
read-same z h = to_z-of_z w64 z (fits_signed_from_abs w64 z (omega (arith, h)))

-- what a literal of an atom with one unknown, or with two, is as a difference
pub one-value : (value : Bool) (factor : Factor) (constant f b : ℤ) (r : Option Diff) → f ≡ cond value factor.1 (neg_ℤ factor.1)
    → b ≡ neg_ℤ (cond value constant (pos 1 -ℤ constant)) → ((c : ℤ) → b ≡ neg_ℤ c → r ≡ diff_from ((factor.0, f) ∷ []) c)
    → r ≡ form_diff value (Some (record { factors = factor ∷ []; constant = constant }))
one-value true factor constant f b r ef eb h = h constant eb ∙ (λ i. diff_from ((factor.0, ef i) ∷ []) constant)
one-value false factor constant f b r ef eb h = h (pos 1 -ℤ constant) eb ∙ (λ i. diff_from ((factor.0, ef i) ∷ []) (pos 1 -ℤ constant))

pub two-value : (value : Bool) (first second : Factor) (constant f g b : ℤ) (r : Option Diff) → f ≡ cond value first.1 (neg_ℤ first.1)
    → g ≡ cond value second.1 (neg_ℤ second.1)
    → b ≡ neg_ℤ (cond value constant (pos 1 -ℤ constant)) → ((c : ℤ) → b ≡ neg_ℤ c → r ≡ diff_from ((first.0, f) ∷ (second.0, g) ∷ []) c)
    → r ≡ form_diff value (Some (record { factors = first ∷ second ∷ []; constant = constant }))
two-value true first second constant f g b r ef eg eb h =
    h constant eb ∙ (λ i. diff_from ((first.0, ef i) ∷ (second.0, eg i) ∷ []) constant)
two-value false first second constant f g b r ef eg eb h =
    h (pos 1 -ℤ constant) eb ∙ (λ i. diff_from ((first.0, ef i) ∷ (second.0, eg i) ∷ []) (pos 1 -ℤ constant))

pub by-value : (value : Bool) (a b : ℤ) → a ≡ b → cond value a (neg_ℤ a) ≡ cond value b (neg_ℤ b)
by-value value a b e = ap (λ (z : ℤ). cond value z (neg_ℤ z)) e
