-- Where a tree holds for a part, no point of the part satisfies the formula.
use Rattle.std.proofs.Common.{◌≡◌, ◌∙◌, ◌⊎◌, inl, inr, sym, ap, subst, refl, ℕ, zero, suc, ◌<◌, ℤ, Bool, true, false, arith}
use Rattle.std.proofs.Common.{List, [], ◌∷◌, ◌++◌, length, Option, Some, None, slice_get, All}
use Rattle.std.specs.Prelude.{slice_set, unwrap_or}
use Rattle.std.proofs.lemmas.Bool.{cases_Bool}
use Rattle.std.proofs.lemmas.Int.{ints, by_lt_z}
use Rattle.std.proofs.lemmas.List.{length-set}
use Rattle.std.proofs.lemmas.List.Elements.{All-nil, All-cons, All-head, All-tail}
use Rattle.ft_base.specs.Interval.{IsWithin}
use Rattle.ft_linear.specs.laws.Parts.{DifferencesAreMet, ForcedHold, NoneWhereNo, WithinSpans}
use Rattle.ft_linear.specs.laws.Sums.{AllWithinTightened, NoneWhereContradicted}
use Rattle.ft_linear.specs.meaning.Form.{InArea}
use Rattle.ft_linear.specs.meaning.Formula.{FormulaView, IsOver, Satisfies, atom_at}
use Rattle.ft_linear.specs.meaning.Part.{PartView, PointOf}
use Rattle.ft_cert.specs.declared.node.CertNode.TheVariants as node
use Rattle.ft_cert.specs.meaning.Evidence.{CutsAt, Holds, NodeHolds, Placed, placed, placed_of}
use Rattle.ft_cert.specs.meaning.Parts.{cut_to, decided_to, low_part, high_part, true_part, false_part, tight_part, tight_span}
use Rattle.ft_cert.specs.meaning.Tree.{Tree, Open, F, L, S, R, C, T, is_closed}
use Rattle.ft_cert.proofs.TreeLemmas.{both-closed}

-- what is read of a list with one place changed
of-set : {X : Type 0} (xs : List X) (i j : ℕ) (y z : X)
    → slice_get (slice_set xs i y) j ≡ Some z → ((i ≡ j) × (y ≡ z)) ⊎ (slice_get xs j ≡ Some z)
of-set [] i j y z e = cc e
of-set (x ∷ xs) zero zero y z e = inl (refl, cc e)
of-set (x ∷ xs) zero (suc j) y z e = inr e
of-set (x ∷ xs) (suc i) zero y z e = inr e
of-set (x ∷ xs) (suc i) (suc j) y z e = elim (of-set xs i j y z e) [
  | inl same ↦ inl (ap suc same.0, same.1)
  | inr other ↦ inr other
]

in-set : (spans : List (ℤ × ℤ)) (x : ℕ → ℤ) (u : ℕ) (s : ℤ × ℤ) → InArea spans x → IsWithin s (x u) → InArea (slice_set spans u s) x
in-set spans x u s area within v t e = elim (of-set spans u v s t e) [
  | inl same ↦
      let moved : IsWithin s (x v) = subst (λ (w : ℕ). IsWithin s (x w)) same.0 within in
      subst (λ (t : ℤ × ℤ). IsWithin t (x v)) same.1 moved
  | inr other ↦ area v t other
]

-- each element of a list, by place
all-by-place : {X : Type 0} (P : X → Type 0) (xs : List X) → ((i : ℕ) (x : X) → slice_get xs i ≡ Some x → P x) → All P xs
all-by-place P [] h = All-nil P
all-by-place P (x ∷ xs) h = All-cons P x xs (h 0 x refl) (all-by-place P xs (λ i y e. h (suc i) y e))

all-left : {X : Type 0} (P : X → Type 0) (xs ys : List X) → All P (xs ++ ys) → All P xs
all-left P [] ys h = All-nil P
all-left P (x ∷ xs) ys h = All-cons P x xs (All-head P x (xs ++ ys) h) (all-left P xs ys (All-tail P x (xs ++ ys) h))

all-right : {X : Type 0} (P : X → Type 0) (xs ys : List X) → All P (xs ++ ys) → All P ys
all-right P [] ys h = h
all-right P (x ∷ xs) ys h = all-right P xs ys (All-tail P x (xs ++ ys) h)

module _ (f : FormulaView) (x : ℕ → ℤ) where
  cut-point : (p : PartView) (u : ℕ) (s : ℤ × ℤ) → PointOf f p x → IsWithin s (x u) → PointOf f (cut_to p u s) x
  cut-point p u s point within = (in-set p.spans x u s point.0 within, point.1)

  cut-over : (p : PartView) (u : ℕ) (s : ℤ × ℤ) → IsOver (length p.spans) f → IsOver (length (cut_to p u s).spans) f
  cut-over p u s over = subst (λ (n : ℕ). IsOver n f) (sym (length-set p.spans u s)) over

  got-decision : (o : Option (Option Bool)) (b : Bool) → unwrap_or o None ≡ Some b → o ≡ Some (Some b)
  got-decision None b e = cc e
  got-decision (Some d) b e = ap (λ (q : Option Bool). Some q) e

  case-point : (p : PartView) (a : ℕ) (b : Bool) → PointOf f p x → atom_at f.atoms x a ≡ b → PointOf f (decided_to p a (Some b)) x
  case-point p a b point so = (
    point.0,
    λ c d e. elim (of-set p.decided a c (Some b) (Some d) (got-decision (slice_get (slice_set p.decided a (Some b)) c) d e)) [
      | inl same ↦ let value : b ≡ d = cc same.1 in subst (λ (n : ℕ). atom_at f.atoms x n ≡ d) same.0 (so ∙ value)
      | inr other ↦ point.1 c d (ap (λ (o : Option (Option Bool)). unwrap_or o None) other)
    ],
  )

  low-or-high : WithinSpans → (p : PartView) (u : ℕ) (v : ℤ) → u < length p.spans → PointOf f p x
      → PointOf f (low_part p u v) x ⊎ PointOf f (high_part p u v) x
  low-or-high in_span p u v below point =
      let within = in_span p.spans x u point.0 below in
      by_lt_z v (x u)
      (λ above. inr (cut-point p u _ point (omega (arith, ints, above), within.1)))
      (λ under. inl (cut-point p u _ point (within.0, omega (arith, ints, under))))

  module _ (in_span : WithinSpans) (no : NoneWhereNo) (forced : ForcedHold) (met : DifferencesAreMet)
      (sums : NoneWhereContradicted) (tight : AllWithinTightened) (sat : Satisfies f x) where
    abbrev HoldsAt : Placed → Type 0
    HoldsAt e = NodeHolds f e.part e.node

    none-left :
        (t : Tree) (p : PartView) → is_closed t ≡ true → All HoldsAt (placed_of f p t) → IsOver (length p.spans) f → PointOf f p x → ⊥
    none-left Open p c all over point = cc c
    none-left F p c all over point = no f p x over (All-head HoldsAt (placed p node.F) [] all) point sat
    none-left L p c all over point = All-head HoldsAt (placed p node.L) [] all x (met f p x over point sat)
    none-left (S lines) p c all over point =
        sums f p x lines (All-head HoldsAt (placed p (node.S lines)) [] all) point.0 (forced f p x over point sat)
    none-left (R u v a b) p c all over point =
        let (first, second) = both-closed (is_closed a) (is_closed b) c in
        let firsts = placed_of f (low_part p u v) a in
        let seconds = placed_of f (high_part p u v) b in
        let own : CutsAt p u v = All-head HoldsAt (placed p (node.R u v)) (firsts ++ seconds) all in
        let more = All-tail HoldsAt (placed p (node.R u v)) (firsts ++ seconds) all in
        elim (low-or-high in_span p u v own.unknown point) [
          | inl low ↦ none-left a (low_part p u v) first (all-left HoldsAt firsts seconds more) (cut-over p u _ over) low
          | inr high ↦ none-left b (high_part p u v) second (all-right HoldsAt firsts seconds more) (cut-over p u _ over) high
        ]
    none-left (C atom a b) p c all over point =
        let (first, second) = both-closed (is_closed a) (is_closed b) c in
        let firsts = placed_of f (true_part p atom) a in
        let seconds = placed_of f (false_part p atom) b in
        let more = All-tail HoldsAt (placed p (node.C atom)) (firsts ++ seconds) all in
        elim (cases_Bool (atom_at f.atoms x atom)) [
          | inl so ↦ none-left a (true_part p atom) first (all-left HoldsAt firsts seconds more) over (case-point p atom true point so)
          | inr isnt ↦
              none-left b (false_part p atom) second (all-right HoldsAt firsts seconds more) over (case-point p atom false point isnt)
        ]
    none-left (T u lines a) p c all over point =
        let more = placed_of f (tight_part f p u lines) a in
        let own = All-head HoldsAt (placed p (node.T u lines)) more all in
        let within = tight f p x u lines (tight_span f p u lines) own point.0 (forced f p x over point sat) in
        none-left a (tight_part f p u lines) c (All-tail HoldsAt (placed p (node.T u lines)) more all)
        (cut-over p u _ over) (cut-point p u _ point within)

    pub none-where-holds : (p : PartView) (t : Tree) → IsOver (length p.spans) f → Holds f p t → PointOf f p x → ⊥
    none-where-holds p t over holds point =
        none-left t p holds.closed (all-by-place HoldsAt (placed_of f p t) (λ i e is. holds.each i e is)) over point
