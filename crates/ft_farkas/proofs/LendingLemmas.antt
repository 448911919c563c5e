-- The lines that a row is the sum of, and what they tell.
use Rattle.std.proofs.Common.{◌≡◌, ◌∙◌, inl, inr, sym, ap, subst, refl, ℕ, zero, suc, ◌+◌, ◌≤◌, ℤ, pos, ◌<ℤ◌, List, [], ◌∷◌, ◌++◌, length, drop, unsigned_abs, arith}
use Rattle.std.specs.Prelude.{nat_eq, Option, Some, None, slice_get}
use Rattle.std.proofs.lemmas.Bool.{cases_Bool}
use Rattle.std.proofs.lemmas.List.{append-nil, append_assoc}
use Rattle.ft_linear.specs.declared.lines.Line.{Line}
use Rattle.ft_linear.specs.meaning.Formula.{FormulaView, IsOver}
use Rattle.ft_linear.specs.meaning.Part.{PartView}
use Rattle.ft_linear.specs.meaning.Rules.{Contradicts}
use Rattle.ft_farkas.specs.declared.answer.Eliminated.{Eliminated}
use Rattle.ft_farkas.specs.declared.answer.Eliminated.TheVariants.{Sum, RationalPoint, Far, Rows, Wide}
use Rattle.ft_farkas.specs.meaning.Rows.{Row, row_of, sources, chosen}
use Rattle.ft_farkas.specs.meaning.Answers.{AreLiterals, AreDifferent, Findings, IsFar, IsWide}
use Rattle.ft_farkas.specs.meaning.Fractions.{MeetsAll, denominator_of, numerators_of}
use Rattle.ft_farkas.specs.building.Forms.{ShowsSum}
use Rattle.ft_farkas.specs.building.Found.{Tells}
use Rattle.ft_farkas.specs.building.Lending.{lent_of}
use Rattle.ft_farkas.specs.building.Turns.{Finds}
use Rattle.ft_farkas.proofs.ContradictLemmas.{contradicts}
use Rattle.ft_farkas.proofs.SumLemmas.{Positive}
use Rattle.ft_farkas.proofs.KeepingLemmas.{none-from, source-forms, sources-length}

drop-line : (xs : List Line) (k : ℕ) (l : Line) → slice_get xs k ≡ Some l → drop k xs ≡ l ∷ drop (suc k) xs
drop-line [] k l is = absurd (cc is)
drop-line (x ∷ xs) zero l is = ap (λ (o : Option Line). get o ∷ xs) is
  where
    get : Option Line → Line
    get None = x
    get (Some y) = y
drop-line (x ∷ xs) (suc k) l is = drop-line xs k l is

drop-past : (xs : List Line) (k : ℕ) → length xs ≤ k → drop k xs ≡ []
drop-past [] zero past = refl
drop-past [] (suc k) past = refl
drop-past (x ∷ xs) zero past = absurd (omega (arith, past))
drop-past (x ∷ xs) (suc k) past = drop-past xs k (omega (arith, past))

chosen-first : (r : Row) (from : ℕ) (l : Line) (ls : List Line) → chosen r from (l ∷ ls) ≡ lent_of (unsigned_abs (r from)) l ++ chosen r (suc from) ls
chosen-first r from l ls = elim (cases_Bool (nat_eq (unsigned_abs (r from)) 0)) [
  | inl so ↦ rw so refl
  | inr isnt ↦ rw isnt refl
]

pub lend-more : (r : Row) (all : List Line) (from at times : ℕ) (line : Line) (before after whole : List Line) → slice_get all at ≡ Some line → times ≡ unsigned_abs (r (from + at)) →
    after ≡ before ++ lent_of times line → before ++ chosen r (from + at) (drop at all) ≡ whole → after ++ chosen r (from + (at + 1)) (drop (at + 1) all) ≡ whole
lend-more r all from at times line before after whole there is after_is so =
    ap (λ (xs : List Line). xs ++ chosen r (from + (at + 1)) (drop (at + 1) all)) (after_is ∙ ap (λ (t : ℕ). before ++ lent_of t line) is)
    ∙ append_assoc before (lent_of (unsigned_abs (r (from + at))) line) (chosen r (from + (at + 1)) (drop (at + 1) all))
    ∙ ap (λ (xs : List Line). before ++ xs) (ap (λ (k : ℕ). lent_of (unsigned_abs (r (from + at))) line ++ chosen r k (drop (at + 1) all)) place
    ∙ ap (λ (k : ℕ). lent_of (unsigned_abs (r (from + at))) line ++ chosen r (suc (from + at)) (drop k all)) next
    ∙ sym (chosen-first r (from + at) line (drop (suc at) all)) ∙ ap (chosen r (from + at)) (sym (drop-line all at line there)))
    ∙ so
  where
    place : from + (at + 1) ≡ suc (from + at)
    place = omega arith

    next : at + 1 ≡ suc at
    next = omega arith

pub lend-end : (r : Row) (all : List Line) (from at : ℕ) (before whole : List Line) → length all ≤ at → before ++ chosen r from (drop at all) ≡ whole → before ≡ whole
lend-end r all from at before whole past so = sym (append-nil before) ∙ ap (λ (xs : List Line). before ++ chosen r from xs) (sym (drop-past all at past)) ∙ so

module _ (f : FormulaView) (p : PartView) (over : IsOver (length p.spans) f) (lines : List Line) (literals : AreLiterals f p lines) where
  pub shown : (r : Row) → ShowsSum f p lines r → (length p.spans ≤ 2000) → Contradicts f p (chosen r (suc (length p.spans)) (sources p lines))
  unfolding Positive
  shown r shows few =
      let long = sources-length f p lines in
      let most = literals.few in
      contradicts f p r shows.narrow (sources p lines) (omega (arith, long, most, few)) (source-forms f p lines literals) (none-from f p over (sources p lines)) shows.sum
      (positive (omega (arith, long, most))) (λ u low. shows.none u (omega arith) low) shows.above
    where
      positive : length (sources p lines) ≤ 256 + (length p.spans + length p.spans) → Positive f p r (suc (length p.spans)) (sources p lines)
      positive long i below = shows.positive i (omega (arith, below, long))

  pub told : (few : length p.spans ≤ 2000) (kept : List (List ℤ)) (point : List ℤ) (row : List ℤ) (e : Eliminated) (found : Findings) → Finds f p lines kept (row_of point) (row_of row) e →
      found.kept ≡ kept → found.point ≡ point → (e ≡ Sum → found.lines ≡ chosen (row_of row) (length p.spans + 1) (sources p lines)) → Tells f p lines found e
  told few kept point row Sum found finds kept_is point_is lines_is =
      subst (Contradicts f p) (sym (lines_is refl ∙ ap (λ (k : ℕ). chosen (row_of row) k (sources p lines)) next)) (shown (row_of row) finds few)
    where
      next : length p.spans + 1 ≡ suc (length p.spans)
      next = omega arith
  told few kept point row RationalPoint found finds kept_is point_is lines_is =
      subst (λ (xs : List ℤ). (pos 0 <ℤ denominator_of xs) × MeetsAll f p lines (numerators_of xs) (denominator_of xs)) (sym point_is) finds
  told few kept point row Far found finds kept_is point_is lines_is = subst (IsFar f p lines) (sym kept_is) finds
  told few kept point row Rows found finds kept_is point_is lines_is = subst (λ (rows : List (List ℤ)). (length rows ≡ length (sources p lines) + 2000) × AreDifferent f p lines rows) (sym kept_is) finds
  told few kept point row (Wide first second) found finds kept_is point_is lines_is = subst (λ (rows : List (List ℤ)). IsWide f p lines rows first second) (sym kept_is) finds
