-- The rows of lines and bounds, row by row.
use Rattle.std.proofs.Common.{◌≡◌, ◌∙◌, sym, ap, subst, refl, ℕ, zero, suc, ◌+◌, ◌<◌, ◌≤◌, ℤ, pos, negsuc, neg_ℤ, ◌<ℤ◌, ◌≤ℤ◌, List, [], ◌∷◌, ◌++◌, length, set, Bool, true, false, cond, arith}
use Rattle.std.specs.Prelude.{nat_eq, nat_lt, Option, Some, None, is_some, slice_get, All}
use Rattle.std.specs.Option.{option_map}
use Rattle.std.proofs.lemmas.Bool.{eqb-true}
use Rattle.std.proofs.lemmas.Int.{ints}
use Rattle.std.proofs.lemmas.Option.{slice_get_within, get_or_from_slice_get}
use Rattle.ft_linear.specs.declared.lines.Line.{Line}
use Rattle.ft_linear.specs.declared.lines.Line.TheVariants.{Atom, Upper, Lower}
use Rattle.ft_linear.specs.meaning.Form.{Factor, LinView, HasUnknowns}
use Rattle.ft_linear.specs.meaning.Formula.{FormulaView, IsOver}
use Rattle.ft_linear.specs.meaning.Part.{PartView, forced}
use Rattle.ft_linear.specs.meaning.Rules.{line_form, literal_form, factor_of, factors_in, upper_form, lower_form}
use Rattle.ft_farkas.specs.meaning.Rows.{Row, row_of, constant, bounds, sources, source_row, line_entry, entry_in, IsSum, IsPositive}
use Rattle.ft_farkas.specs.meaning.Kept.{row_in, IsNarrow, AreKept}
use Rattle.ft_farkas.specs.meaning.Fractions.{IsBelow}
use Rattle.ft_farkas.specs.meaning.Answers.{AreLiterals}
use Rattle.ft_farkas.specs.building.Forms.{turned_by, ShowsSum, NoneContradict}
use Rattle.ft_farkas.proofs.SourceLemmas.{source-sum}
use Rattle.ft_farkas.proofs.SourceRowLemmas.{bounds-length, literal-factor}
use Rattle.ft_farkas.proofs.TableLemmas.{each-more}
use Rattle.ft_farkas.proofs.ContradictLemmas.{HaveForms, NoneFrom}

-- forms have no unknowns past the last one
none-past : (n u : ℕ) (fs : List Factor) → n ≤ u → HasUnknowns n fs → factor_of u fs ≡ pos 0
none-past n u [] past over = refl
none-past n u (f ∷ fs) past over =
    let rest = none-past n u fs past (λ k d below. over (suc k) d (omega (arith, below))) in
    let low : f.0 < n = over 0 f (omega arith) in
    let isnt = other f.0 n u low past in
    rw isnt (omega (arith, ints, rest))
  where
    other : (a n u : ℕ) → a < n → n ≤ u → nat_eq a u ≡ false
    other a n u low past = grind (arith, low, past)

one-past : (n u v : ℕ) (z : ℤ) → v < n → n ≤ u → factor_of u ((v, z) ∷ []) ≡ pos 0
one-past n u v z low past = let isnt = other v n u low past in rw isnt refl
  where
    other : (a n u : ℕ) → a < n → n ≤ u → nat_eq a u ≡ false
    other a n u low past = grind (arith, low, past)

module _ (f : FormulaView) (p : PartView) (over : IsOver (length p.spans) f) where
  pub line-over : (l : Line) (u : ℕ) → length p.spans ≤ u → line_entry f p (suc u) l ≡ pos 0
  line-over (Atom number value times) u past = at-literal (forced f p number value) (slice_get f.atoms number) (λ l is. subst (λ (m : LinView). HasUnknowns (length p.spans) m.factors) (get_or_from_slice_get f.atoms number l l is) (over number l (slice_get_within f.atoms number l is)))
    where
      turned-zero : (b : Bool) (z : ℤ) → z ≡ pos 0 → turned_by b z ≡ pos 0
      turned-zero true z e = e
      turned-zero false z e = ap neg_ℤ e

      at-literal : (b : Bool) (o : Option LinView) → ((l : LinView) → o ≡ Some l → HasUnknowns (length p.spans) l.factors) → factor_of u (factors_in (cond b (option_map (literal_form value) o) None)) ≡ pos 0
      at-literal false o all = refl
      at-literal true None all = refl
      at-literal true (Some l) all = sym (literal-factor value u l) ∙ turned-zero value (factor_of u l.factors) (none-past (length p.spans) u l.factors past (all l refl))
  line-over (Upper unknown times) u past = at-bound (slice_get p.spans unknown) refl
    where
      at-bound : (o : Option (ℤ × ℤ)) → slice_get p.spans unknown ≡ o → factor_of u (factors_in (option_map (upper_form unknown) o)) ≡ pos 0
      at-bound None is = refl
      at-bound (Some s) is = one-past (length p.spans) u unknown (pos 1) (slice_get_within p.spans unknown s is) past
  line-over (Lower unknown times) u past = at-bound (slice_get p.spans unknown) refl
    where
      at-bound : (o : Option (ℤ × ℤ)) → slice_get p.spans unknown ≡ o → factor_of u (factors_in (option_map (lower_form unknown) o)) ≡ pos 0
      at-bound None is = refl
      at-bound (Some s) is = one-past (length p.spans) u unknown (negsuc 0) (slice_get_within p.spans unknown s is) past

  pub none-from : (ls : List Line) → NoneFrom f p (length p.spans) ls
  unfolding NoneFrom
  none-from [] = tt
  none-from (l ∷ ls) = (line-over l, none-from ls)

pub all-length : (lines : List Line) (n : ℕ) → length (lines ++ bounds n) ≡ length lines + (n + n)
all-length [] n = let e = bounds-length n in omega (arith, e)
all-length (x ∷ xs) n = let rest = all-length xs n in omega (arith, rest)

module _ (f : FormulaView) (p : PartView) where
  append-forms : (xs ys : List Line) → HaveForms f p xs → HaveForms f p ys → HaveForms f p (xs ++ ys)
  unfolding HaveForms
  append-forms [] ys x y = y
  append-forms (l ∷ xs) ys x y = (x.0, append-forms xs ys x.1 y)

  some-span : (u : ℕ) → u < length p.spans → (g : ℤ × ℤ → LinView) → is_some (option_map g (slice_get p.spans u)) ≡ true
  some-span u below g = by p.spans u below
    where
      by : (xs : List (ℤ × ℤ)) (u : ℕ) → u < length xs → is_some (option_map g (slice_get xs u)) ≡ true
      by [] u below = absurd (omega (arith, below))
      by (x ∷ xs) zero below = refl
      by (x ∷ xs) (suc u) below = by xs u (omega (arith, below))

  bound-forms : (n : ℕ) → n ≤ length p.spans → HaveForms f p (bounds n)
  unfolding HaveForms
  bound-forms zero few = tt
  bound-forms (suc u) few = append-forms (bounds u) (Upper u 1 ∷ Lower u 1 ∷ []) (bound-forms u (omega (arith, few))) (some-span u few (upper_form u), (some-span u few (lower_form u), tt))

  line-forms : (lines : List Line) → All (λ l. is_some (line_form f p l) ≡ true) lines → HaveForms f p lines
  unfolding HaveForms
  line-forms [] all = tt
  line-forms (l ∷ ls) all = (all 0 l (omega arith), line-forms ls (λ k d below. all (suc k) d (omega (arith, below))))

  pub source-forms : (lines : List Line) → AreLiterals f p lines → HaveForms f p (sources p lines)
  source-forms lines are = append-forms lines (bounds (length p.spans)) (line-forms lines are.forced) (bound-forms (length p.spans) (omega arith))

  pub form-at : (ls : List Line) (k : ℕ) (l : Line) → HaveForms f p ls → slice_get ls k ≡ Some l → is_some (line_form f p l) ≡ true
  unfolding HaveForms
  form-at [] k l forms is = absurd (cc is)
  form-at (x ∷ ls) zero l forms is = subst (λ (o : Option Line). some-form o) is forms.0
    where
      some-form : Option Line → Type 0
      some-form None = ⊥
      some-form (Some m) = is_some (line_form f p m) ≡ true
  form-at (x ∷ ls) (suc k) l forms is = form-at ls k l forms.1 is

  pub sources-length : (lines : List Line) → length (sources p lines) ≡ length lines + (length p.spans + length p.spans)
  sources-length lines = all-length lines (length p.spans)

  -- the row of a line with its own multiplier
  pub source-low : (lines : List Line) (k c : ℕ) (l : Line) → c ≤ length p.spans → slice_get (sources p lines) k ≡ Some l → source_row f p lines k c ≡ line_entry f p c l
  source-low lines k c l low there = let e = over (length p.spans) c low in rw e (ap (entry_in f p c) there)
    where
      over : (n c : ℕ) → c ≤ n → nat_lt n c ≡ false
      over n c h = grind (arith, h)

  pub source-written : IsOver (length p.spans) f → (lines : List Line) (at : ℕ) (line : Line) (row : List ℤ) (column : ℕ) → column ≡ length p.spans + 1 + at → column < length row →
      ((c : ℕ) → row_of row c ≡ line_entry f p c line) → slice_get (sources p lines) at ≡ Some line → (c : ℕ) → row_of (set row column (pos 1)) c ≡ source_row f p lines at c
  source-written over lines at line row column is room entries there c = by (nat_lt n c) (nat_eq c (suc n + at)) refl refl
    where
      n : ℕ
      n = length p.spans

      place : column ≡ suc n + at
      place = omega (arith, is)

      put : (xs : List ℤ) (i : ℕ) → i < length xs → row_of (set xs i (pos 1)) i ≡ pos 1
      put [] i below = absurd (omega (arith, below))
      put (x ∷ xs) zero below = refl
      put (x ∷ xs) (suc i) below = put xs i (omega (arith, below))

      other : (xs : List ℤ) (i c : ℕ) → (c ≡ i → ⊥) → row_of (set xs i (pos 1)) c ≡ row_of xs c
      other [] i c isnt = refl
      other (x ∷ xs) zero zero isnt = absurd (isnt refl)
      other (x ∷ xs) zero (suc c) isnt = refl
      other (x ∷ xs) (suc i) zero isnt = refl
      other (x ∷ xs) (suc i) (suc c) isnt = other xs i c (λ e. isnt (ap suc e))

      differ : (c k : ℕ) → nat_eq c k ≡ false → c ≡ k → ⊥
      differ c k e so = grind (arith, e, so)

      low : (n c at : ℕ) → nat_lt n c ≡ false → c ≡ suc n + at → ⊥
      low n c at e so = grind (arith, e, so)

      by : (a b : Bool) → nat_lt n c ≡ a → nat_eq c (suc n + at) ≡ b → row_of (set row column (pos 1)) c ≡ source_row f p lines at c
      by false b a_is b_is = other row column c (λ e. low n c at a_is (e ∙ place)) ∙ entries c ∙ sym (rw a_is (ap (entry_in f p c) there))
      by true true a_is b_is = ap (row_of (set row column (pos 1))) (eqb-true c (suc n + at) b_is ∙ sym place) ∙ put row column room ∙ sym (rw a_is (rw b_is refl))
      by true false a_is b_is = other row column c (λ e. differ c (suc n + at) b_is (e ∙ place)) ∙ entries c ∙ above c a_is ∙ sym (rw a_is (rw b_is refl))
        where
          above : (c : ℕ) → nat_lt n c ≡ true → line_entry f p c line ≡ pos 0
          above zero e = absurd (none n e)
            where
              none : (n : ℕ) → nat_lt n 0 ≡ true → ⊥
              none n e = grind (arith, e)
          above (suc u) e = line-over f p over line u (most n u e)
            where
              most : (n u : ℕ) → nat_lt n (suc u) ≡ true → n ≤ u
              most n u e = grind (arith, e)

  pub source-positive : (lines : List Line) (k : ℕ) → IsPositive (length p.spans) (source_row f p lines k)
  source-positive lines k line within = rw (over (length p.spans) line) (by (nat_eq (suc (length p.spans) + line) (suc (length p.spans) + k)))
    where
      over : (n i : ℕ) → nat_lt n (suc n + i) ≡ true
      over n i = grind arith

      by : (b : Bool) → pos 0 ≤ℤ cond b (pos 1) (pos 0)
      by true = omega (arith, ints)
      by false = omega (arith, ints)

  pub shows-source : (lines : List Line) (k : ℕ) (r : Row) → ((c : ℕ) → r c ≡ source_row f p lines k c) → ((c : ℕ) → IsNarrow (r c)) →
      IsBelow (length p.spans) 0 r × (pos 0 <ℤ constant r) → ShowsSum f p lines r
  shows-source lines k r same narrow shows = record {
    narrow = narrow;
    sum = subst (IsSum f p (sources p lines)) (λ i c. sym (same c) i) (source-sum f p lines k);
    positive = subst (IsPositive (length p.spans)) (λ i c. sym (same c) i) (source-positive lines k);
    none = shows.0;
    above = shows.1;
  }

pub narrow-all : (row : List ℤ) → All IsNarrow row → (c : ℕ) → IsNarrow (row_of row c)
narrow-all [] all c = omega arith
narrow-all (x ∷ row) all zero = all 0 (pos 0) (omega arith)
narrow-all (x ∷ row) all (suc c) = narrow-all row (λ k d below. all (suc k) d (omega (arith, below))) c

pub given-all : (f : FormulaView) (p : PartView) (lines : List Line) (kept : List (List ℤ)) → length kept ≡ length (sources p lines) →
    ((k c : ℕ) → k < length kept → row_in kept k c ≡ source_row f p lines k c) → AreKept f p lines kept
given-all f p lines kept count given = record {
  count = omega (arith, count);
  given = λ k c below. given k c (omega (arith, below, count));
  derived = λ k past below. absurd (omega (arith, past, below, count));
}

module _ (f : FormulaView) (p : PartView) (lines : List Line) (kept : List (List ℤ)) (row : List ℤ) (at : ℕ) (here : length kept ≡ at) where
  pub given-more : (after : List (List ℤ)) → after ≡ kept ++ row ∷ [] → ((k c : ℕ) → k < at → row_in kept k c ≡ source_row f p lines k c) →
      ((c : ℕ) → row_of row c ≡ source_row f p lines (length kept) c) → (k c : ℕ) → k < at + 1 → row_in after k c ≡ source_row f p lines k c
  given-more after is old new k c below =
      subst (λ (rows : List (List ℤ)). row_in rows k c ≡ source_row f p lines k c) (sym is)
      (each-more (λ j r. (c : ℕ) → r c ≡ source_row f p lines j c) kept row (λ j low c. old j c (omega (arith, low, here))) new k (omega (arith, below, here)) c)

  pub none-more : (after : List (List ℤ)) → after ≡ kept ++ row ∷ [] → NoneContradict (length p.spans) kept at → (IsBelow (length p.spans) 0 (row_of row) → constant (row_of row) ≤ℤ pos 0) →
      NoneContradict (length p.spans) after (at + 1)
  none-more after is old new k below =
      subst (λ (rows : List (List ℤ)). IsBelow (length p.spans) 0 (row_in rows k) → constant (row_in rows k) ≤ℤ pos 0) (sym is)
      (each-more (λ j r. IsBelow (length p.spans) 0 r → constant r ≤ℤ pos 0) kept row (λ j low. old j (omega (arith, low, here))) new k (omega (arith, below, here)))
