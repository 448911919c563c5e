-- Kept rows through the turns of an elimination, and what they show at its end.
use Rattle.std.proofs.Common.{◌≡◌, ◌∙◌, inl, inr, sym, ap, subst, refl, ℕ, zero, suc, ◌+◌, ◌<◌, ◌≤◌, ℤ, pos, negsuc, neg_ℤ, ◌+ℤ◌, ◌*ℤ◌, ◌<ℤ◌, ◌≤ℤ◌, List, [], ◌∷◌, ◌++◌, length, map, Bool, true, false, cond, arith}
use Rattle.std.specs.Prelude.{nat_eq, nat_lt, Option, Some, None, slice_get}
use Rattle.std.specs.Option.{option_map}
use Rattle.std.proofs.lemmas.Bool.{cases_Bool, eqb-true}
use Rattle.std.proofs.lemmas.Int.{ints}
use Rattle.std.proofs.lemmas.Option.{slice_get_within, get_or_from_slice_get}
use Rattle.std.proofs.Math.IntN.{zero-*ℤ}
use Rattle.ft_linear.specs.declared.lines.Line.{Line}
use Rattle.ft_linear.specs.declared.lines.Line.TheVariants.{Atom, Upper, Lower}
use Rattle.ft_linear.specs.meaning.Form.{Factor, LinView, HasUnknowns, sum_at}
use Rattle.ft_linear.specs.meaning.Formula.{FormulaView, IsOver}
use Rattle.ft_linear.specs.meaning.Part.{PartView, forced}
use Rattle.ft_linear.specs.meaning.Rules.{line_form, literal_form, factor_of, factors_in, constant_in, upper_form, lower_form}
use Rattle.ft_farkas.specs.declared.answer.Eliminated.{Eliminated}
use Rattle.ft_farkas.specs.declared.answer.Eliminated.TheVariants.{Sum, RationalPoint, Far, Rows, Wide}
use Rattle.ft_farkas.specs.meaning.Rows.{Row, row_of, constant, factor, bounds, sources, line_entry, IsSum, IsPositive, width}
use Rattle.ft_farkas.specs.meaning.Kept.{row_in, Combines, IsDerived, AreKept}
use Rattle.ft_farkas.specs.meaning.Fractions.{sum_below, IsBelow, MeetsAll, AreGiven}
use Rattle.ft_farkas.specs.meaning.Answers.{AreSame}
use Rattle.ft_farkas.specs.building.Forms.{NoneContradict}
use Rattle.ft_farkas.specs.building.Turns.{HaveLower, IsNext, Turns, IsUnderWay, Finds}
use Rattle.ft_farkas.proofs.Arithmetic.{add-mul, times-none, times-up}
use Rattle.ft_farkas.proofs.BoundLemmas.{le-cancel}
use Rattle.ft_farkas.proofs.SumLemmas.{combined-sum}
use Rattle.ft_farkas.proofs.SourceLemmas.{source-sum}
use Rattle.ft_farkas.proofs.SourceRowLemmas.{bounds-get, right-get}
use Rattle.ft_farkas.proofs.KeepingLemmas.{source-low, source-positive, sources-length}
use Rattle.ft_farkas.proofs.TableLemmas.{each-more, length-more, more-old}

module _ (f : FormulaView) (p : PartView) (lines : List Line) (few : length lines ≤ 256) where
  abbrev n : ℕ
  n = length p.spans

  -- a row that is made of two sums is a sum, with no negative multiplier
  abbrev Shows : Row → Type 0
  Shows r = IsSum f p (sources p lines) r × IsPositive n r

  made-shows : (kept : List (List ℤ)) (k : ℕ) (r : Row) → (made : IsDerived n kept k r) → Shows (row_in kept made.first) → Shows (row_in kept made.second) → Shows r
  made-shows kept k r made first second = (
    combined-sum f p (width n) made.made.divisor made.made.times_first made.made.times_second (row_in kept made.first) (row_in kept made.second) r made.made.divided (sources p lines) made.made.positive
        (let long = sources-length f p lines in omega (arith, long, few)) first.0 second.0,
    λ line within. above line within,
  )
    where
      above : (line : ℕ) → suc n + line < width n → pos 0 ≤ℤ r (suc n + line)
      above line within =
          let e = made.made.divided (suc n + line) within in
          let a = times-up made.made.times_first (pos 0) (row_in kept made.first (suc n + line)) (first.1 line within) in
          let b = times-up made.made.times_second (pos 0) (row_in kept made.second (suc n + line)) (second.1 line within) in
          let an = times-none made.made.times_first in let bn = times-none made.made.times_second in
          let gn = times-none made.made.divisor in
          le-cancel made.made.divisor (pos 0) (r (suc n + line)) made.made.positive (omega (arith, ints, e, a, b, an, bn, gn))

  kept-shows-below : (kept : List (List ℤ)) → AreKept f p lines kept → (most k : ℕ) → k < most → k < length kept → Shows (row_in kept k)
  kept-shows-below kept are zero k low within = absurd (omega (arith, low))
  kept-shows-below kept are (suc most) k low within = elim (cases_Bool (nat_lt k (length (sources p lines)))) [
    | inl so ↦ given (source k (length (sources p lines)) so)
    | inr isnt ↦
        let made = are.derived k (past k (length (sources p lines)) isnt) within in
        made-shows kept k (row_in kept k) made
        (kept-shows-below kept are most made.first (earlier made.first k most made.first_before low) (before made.first k (length kept) made.first_before within))
        (kept-shows-below kept are most made.second (earlier made.second k most made.second_before low) (before made.second k (length kept) made.second_before within))
  ]
    where
      source : (k s : ℕ) → nat_lt k s ≡ true → k < s
      source k s h = grind (arith, h)

      past : (k s : ℕ) → nat_lt k s ≡ false → s ≤ k
      past k s h = grind (arith, h)

      earlier : (i k m : ℕ) → i < k → k < suc m → i < m
      earlier i k m a b = omega (arith, a, b)

      before : (i k m : ℕ) → i < k → k < m → i < m
      before i k m a b = omega (arith, a, b)

      given : k < length (sources p lines) → Shows (row_in kept k)
      given below = subst Shows (λ i c. sym (are.given k c below) i) (source-sum f p lines k, source-positive f p lines k)

  pub kept-shows : (kept : List (List ℤ)) → AreKept f p lines kept → (k : ℕ) → k < length kept → Shows (row_in kept k)
  kept-shows kept are k within = kept-shows-below kept are (suc k) k (omega arith) within

  pub derived-shows : (kept : List (List ℤ)) (r : Row) → AreKept f p lines kept → IsDerived n kept (length kept) r → Shows r
  derived-shows kept r are made = made-shows kept (length kept) r made (kept-shows kept are made.first made.first_before) (kept-shows kept are made.second made.second_before)

-- a derived row stays one where a row more is kept
stretched : (n : ℕ) (kept : List (List ℤ)) (row : List ℤ) (k : ℕ) (r : Row) → k ≤ length kept → IsDerived n kept k r → IsDerived n (kept ++ row ∷ []) k r
stretched n kept row k r low is = record {
  unknown = is.unknown;
  first = is.first;
  second = is.second;
  within = is.within;
  first_before = is.first_before;
  second_before = is.second_before;
  made = subst (λ (s : Row). Combines (width n) is.unknown s (row_in (kept ++ row ∷ []) is.second) r) (sym (more-old kept row is.first (before is.first is.first_before)))
      (subst (λ (s : Row). Combines (width n) is.unknown (row_in kept is.first) s r) (sym (more-old kept row is.second (before is.second is.second_before))) is.made);
  narrow = is.narrow;
}
  where
    before : (i : ℕ) → i < k → i < length kept
    before i h = omega (arith, h, low)

module _ (f : FormulaView) (p : PartView) (lines : List Line) where
  pub under-way-more : (kept : List (List ℤ)) (row : List ℤ) → IsUnderWay f p lines kept → IsNext (length p.spans) kept (row_of row) → IsUnderWay f p lines (kept ++ row ∷ [])
  under-way-more kept row is next = record {
    rows = record {
      count = let c = is.rows.count in let m = length-more kept row in omega (arith, c, m);
      given = λ k c below. ap (λ (r : Row). r c) (more-old kept row k (let h = is.rows.count in omega (arith, below, h))) ∙ is.rows.given k c below;
      derived = λ k past below. each-more (λ j r. length (sources p lines) ≤ j → IsDerived (length p.spans) (kept ++ row ∷ []) j r) kept row
          (λ j low old. stretched (length p.spans) kept row j (row_in kept j) (omega (arith, low)) (is.rows.derived j old low))
          (λ old. stretched (length p.spans) kept row (length kept) (row_of row) (omega arith) next.derived) k (let m = length-more kept row in omega (arith, below, m)) past;
    };
    none = λ k below. each-more (λ j r. IsBelow (length p.spans) 0 r → constant r ≤ℤ pos 0) kept row is.none next.quiet k (let m = length-more kept row in omega (arith, below, m));
    apart = λ i j low past below. each-more (λ j r. length (sources p lines) ≤ j → (i : ℕ) → i < j → AreSame (length p.spans) r (row_in (kept ++ row ∷ []) i) → ⊥) kept row
        (λ j within old i before same. is.apart i j before old within (subst (λ (s : Row). AreSame (length p.spans) (row_in kept j) s) (more-old kept row i (omega (arith, before, within))) same))
        (λ old i before same. next.apart i before (subst (λ (s : Row). AreSame (length p.spans) (row_of row) s) (more-old kept row i before) same))
        j (let m = length-more kept row in omega (arith, below, m)) past i low;
  }

  pub begun-way : (kept : List (List ℤ)) → length kept ≡ length (sources p lines) → AreKept f p lines kept → NoneContradict (length p.spans) kept (length kept) → IsUnderWay f p lines kept
  begun-way kept long are none = record {
    rows = are;
    none = none;
    apart = λ i j before past below same. absurd (omega (arith, past, below, long));
  }

  -- the lower bounds stand at their places
  abbrev place : ℕ → ℕ
  place u = length lines + (u + u) + 1

  pub lower-at : (kept : List (List ℤ)) → AreKept f p lines kept → HaveLower (length p.spans) kept (length lines)
  lower-at kept are u within = (let c = are.count in omega (arith, c, inside), (below, none))
    where
      there : slice_get (sources p lines) (place u) ≡ Some (Lower u 1)
      there = right-get lines (bounds (length p.spans)) (suc (u + u)) (length lines + (u + u) + 1) (omega arith) ∙ (bounds-get (length p.spans) u within).1

      inside : place u < length (sources p lines)
      inside = slice_get_within (sources p lines) (place u) (Lower u 1) there

      entry : (v : ℕ) → v < length p.spans → factor v (row_in kept (place u)) ≡ line_entry f p (suc v) (Lower u 1)
      entry v low = are.given (place u) (suc v) inside ∙ source-low f p lines (place u) (suc v) (Lower u 1) low there

      some : (xs : List (ℤ × ℤ)) (i : ℕ) → i < length xs → (s : ℤ × ℤ) × (slice_get xs i ≡ Some s)
      some [] i h = absurd (omega (arith, h))
      some (x ∷ xs) zero h = (x, refl)
      some (x ∷ xs) (suc i) h = some xs i (omega (arith, h))

      form : (v : ℕ) → line_entry f p (suc v) (Lower u 1) ≡ factor_of v ((u, negsuc 0) ∷ [])
      form v = ap (λ (o : Option (ℤ × ℤ)). factor_of v (factors_in (option_map (lower_form u) o))) (some p.spans u within).1

      own : (u : ℕ) → factor_of u ((u, negsuc 0) ∷ []) ≡ negsuc 0
      own u = let e = same u in rw e refl
        where
          same : (u : ℕ) → nat_eq u u ≡ true
          same u = grind arith

      other : (v : ℕ) → suc u ≤ v → factor_of v ((u, negsuc 0) ∷ []) ≡ pos 0
      other v h = let e = apart u v h in rw e refl
        where
          apart : (u v : ℕ) → suc u ≤ v → nat_eq u v ≡ false
          apart u v h = grind (arith, h)

      below : factor u (row_in kept (place u)) <ℤ pos 0
      below = subst (λ (z : ℤ). z <ℤ pos 0) (sym (entry u within ∙ form u ∙ own u)) (omega (arith, ints))

      none : IsBelow (length p.spans) (suc u) (row_in kept (place u))
      none v past low = entry v low ∙ form v ∙ other v past

-- forms by columns
abbrev by_columns : List Factor → Row
by_columns fs zero = pos 0
by_columns fs (suc u) = factor_of u fs

sum-none : (n : ℕ) (x : ℕ → ℤ) → sum_below n (by_columns []) x ≡ pos 0
sum-none zero x = refl
sum-none (suc n) x = let rest = sum-none n x in let none = zero-*ℤ (x n) in omega (arith, ints, rest, none)

sum-split : (f : Factor) (fs : List Factor) (x : ℕ → ℤ) (n : ℕ) → sum_below n (by_columns (f ∷ fs)) x ≡ cond (nat_lt f.0 n) (f.1 *ℤ x f.0) (pos 0) +ℤ sum_below n (by_columns fs) x
sum-split f fs x zero = let e = none f.0 in rw e (omega (arith, ints))
  where
    none : (a : ℕ) → nat_lt a 0 ≡ false
    none a = grind arith
sum-split f fs x (suc n) =
    let rest = sum-split f fs x n in
    let apart = add-mul (cond (nat_eq f.0 n) f.1 (pos 0)) (factor_of n fs) (x n) in
    let here = one (nat_eq f.0 n) refl in
    omega (arith, ints, rest, apart, here)
  where
    low : (a n : ℕ) → nat_eq a n ≡ true → (nat_lt a n ≡ false) × (nat_lt a (suc n) ≡ true)
    low a n e = (grind (arith, e), grind (arith, e))

    same : (a n : ℕ) → nat_eq a n ≡ false → nat_lt a (suc n) ≡ nat_lt a n
    same a n e = grind (arith, e)

    one : (b : Bool) → nat_eq f.0 n ≡ b → (cond (nat_lt f.0 n) (f.1 *ℤ x f.0) (pos 0) +ℤ (cond (nat_eq f.0 n) f.1 (pos 0) *ℤ x n)) ≡ cond (nat_lt f.0 (suc n)) (f.1 *ℤ x f.0) (pos 0)
    one true e = let both = low f.0 n e in let is = eqb-true f.0 n e in rw both.0 (rw both.1 (rw e (ap (λ (k : ℕ). pos 0 +ℤ (f.1 *ℤ x k)) (sym is) ∙ unit (f.1 *ℤ x f.0))))
      where
        unit : (z : ℤ) → pos 0 +ℤ z ≡ z
        unit z = omega (arith, ints)
    one false e = let s = same f.0 n e in let none = zero-*ℤ (x n) in rw s (rw e (omega (arith, ints, none)))

sum-columns : (n : ℕ) (fs : List Factor) (x : ℕ → ℤ) → HasUnknowns n fs → sum_below n (by_columns fs) x ≡ sum_at x fs
sum-columns n [] x over = sum-none n x
sum-columns n (f ∷ fs) x over =
    let rest = sum-columns n fs x (λ k d below. over (suc k) d (omega (arith, below))) in
    let split = sum-split f fs x n in
    let e = low f.0 n (over 0 f (omega arith)) in
    split ∙ (rw e (ap (λ (z : ℤ). (f.1 *ℤ x f.0) +ℤ z) rest))
  where
    low : (a n : ℕ) → a < n → nat_lt a n ≡ true
    low a n h = grind (arith, h)

sum-same : (n : ℕ) (r s : Row) (x : ℕ → ℤ) → ((u : ℕ) → u < n → factor u r ≡ factor u s) → sum_below n r x ≡ sum_below n s x
sum-same zero r s x same = refl
sum-same (suc n) r s x same = (λ i. sum-same n r s x (λ u low. same u (omega (arith, low))) i +ℤ (same n (omega arith) i *ℤ x n))

module _ (f : FormulaView) (p : PartView) (over : IsOver (length p.spans) f) where
  negated-over : (n : ℕ) (fs : List Factor) → HasUnknowns n fs → HasUnknowns n (map (λ g. (g.0, neg_ℤ g.1)) fs)
  negated-over n [] over k d below = absurd (omega (arith, below))
  negated-over n (g ∷ fs) over zero d below = over 0 d (omega arith)
  negated-over n (g ∷ fs) over (suc k) d below = negated-over n fs (λ j e low. over (suc j) e (omega (arith, low))) k d (omega (arith, below))

  one-over : (n v : ℕ) (z : ℤ) → v < n → HasUnknowns n ((v, z) ∷ [])
  one-over n v z low zero d below = low
  one-over n v z low (suc k) d below = absurd (omega (arith, below))

  some-is : (a b : LinView) → Some a ≡ Some b → a ≡ b
  some-is a b e = ap (λ (o : Option LinView). get o) e
    where
      get : Option LinView → LinView
      get None = a
      get (Some l) = l

  form-over : (l : Line) (form : LinView) → line_form f p l ≡ Some form → HasUnknowns (length p.spans) form.factors
  form-over (Atom number value times) form is = at-literal (forced f p number value) (slice_get f.atoms number) refl is
    where
      own : (b : Bool) (l : LinView) → HasUnknowns (length p.spans) l.factors → HasUnknowns (length p.spans) (literal_form b l).factors
      own true l h = h
      own false l h = negated-over (length p.spans) l.factors h

      at-literal : (b : Bool) (o : Option LinView) → slice_get f.atoms number ≡ o → cond b (option_map (literal_form value) o) None ≡ Some form → HasUnknowns (length p.spans) form.factors
      at-literal false o there e = absurd (cc e)
      at-literal true None there e = absurd (cc e)
      at-literal true (Some l) there e = subst (λ (m : LinView). HasUnknowns (length p.spans) m.factors) (some-is (literal_form value l) form e)
          (own value l (subst (λ (m : LinView). HasUnknowns (length p.spans) m.factors) (get_or_from_slice_get f.atoms number l l there) (over number l (slice_get_within f.atoms number l there))))
  form-over (Upper unknown times) form is = at-bound (slice_get p.spans unknown) refl is
    where
      at-bound : (o : Option (ℤ × ℤ)) → slice_get p.spans unknown ≡ o → option_map (upper_form unknown) o ≡ Some form → HasUnknowns (length p.spans) form.factors
      at-bound None there e = absurd (cc e)
      at-bound (Some s) there e = subst (λ (m : LinView). HasUnknowns (length p.spans) m.factors) (some-is (upper_form unknown s) form e) (one-over (length p.spans) unknown (pos 1) (slice_get_within p.spans unknown s there))
  form-over (Lower unknown times) form is = at-bound (slice_get p.spans unknown) refl is
    where
      at-bound : (o : Option (ℤ × ℤ)) → slice_get p.spans unknown ≡ o → option_map (lower_form unknown) o ≡ Some form → HasUnknowns (length p.spans) form.factors
      at-bound None there e = absurd (cc e)
      at-bound (Some s) there e = subst (λ (m : LinView). HasUnknowns (length p.spans) m.factors) (some-is (lower_form unknown s) form e) (one-over (length p.spans) unknown (negsuc 0) (slice_get_within p.spans unknown s there))

  -- fractions of all unknowns meet all lines and bounds
  pub all-met : (lines : List Line) (kept : List (List ℤ)) (x : ℕ → ℤ) (d : ℤ) → AreKept f p lines kept → AreGiven (length p.spans) kept x d (length p.spans) → MeetsAll f p lines x d
  all-met lines kept x d are given k l form there is =
      let inside = slice_get_within (sources p lines) k l there in
      let met = given.meet k (let c = are.count in omega (arith, c, inside)) (λ u low high. absurd (omega (arith, low, high))) in
      let column : constant (row_in kept k) ≡ form.constant = are.given k 0 inside ∙ source-low f p lines k 0 l (omega arith) there ∙ ap constant_in is in
      let first : d *ℤ constant (row_in kept k) ≡ d *ℤ form.constant = ap (λ (z : ℤ). d *ℤ z) column in
      let same = sum-same (length p.spans) (row_in kept k) (by_columns form.factors) x (λ u low. are.given k (suc u) inside ∙ source-low f p lines k (suc u) l low there ∙ ap (λ (o : Option LinView). factor_of u (factors_in o)) is) in
      let whole = sum-columns (length p.spans) form.factors x (form-over l form is) in
      omega (arith, ints, met, first, same, whole)

module _ (f : FormulaView) (p : PartView) (over : IsOver (length p.spans) f) (lines : List Line) (few : length lines ≤ 256) where
  -- how a turn ends the elimination
  pub found : (old new : List (List ℤ)) (x r : Row) (e : Eliminated) → IsUnderWay f p lines old → Turns (length p.spans) old new x r e → Finds f p lines new x r e
  found old new x r Sum is t = let shows = derived-shows f p lines few old r is.rows t.0 in record {
    narrow = t.0.narrow;
    sum = shows.0;
    positive = shows.1;
    none = t.1;
    above = t.2;
  }
  found old new x r RationalPoint is t = (t.1.positive, all-met f p over lines old (λ u. x (suc u)) (x 0) is.rows t.1)
  found old new x r Far is t = subst (λ (kept : List (List ℤ)). Finds f p lines kept x r Far) (sym t.0) (record { rows = is.rows; none = is.none; point = t.1 })
  found old new x r Rows is t = absurd t
  found old new x r (Wide first second) is t = subst (λ (kept : List (List ℤ)). Finds f p lines kept x r (Wide first second)) (sym t.0) (record { rows = is.rows; combination = t.1 })

  pub all-rows : (kept : List (List ℤ)) (x r : Row) → length kept ≡ length (sources p lines) + 2000 → IsUnderWay f p lines kept → Finds f p lines kept x r Rows
  all-rows kept x r long is = (
    long,
    record {
      rows = is.rows;
      sums = λ k low. (kept-shows f p lines few kept is.rows k low).0;
      positive = λ k low. (kept-shows f p lines few kept is.rows k low).1;
      apart = is.apart;
    },
  )
