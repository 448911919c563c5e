-- What is found of a formula over the scans of a list.
use Rattle.std.proofs.Common.{◌≡◌, ◌∙◌, sym, ap, subst, refl, ℕ, zero, suc, ◌+◌, ◌*◌, ◌<◌, ◌≤◌, ℤ, Bool, true, false, cond, List, []}
use Rattle.std.proofs.Common.{◌∷◌, ◌++◌, length, filter, get_or, None, Some, arith, ⊎_elim, ◌||◌, not, true≢false}
use Rattle.std.specs.Prelude.{◌==◌, IsTrue}
use Rattle.std.specs.List.{list_any, range_with_len, position_or_len}
use Rattle.std.proofs.lemmas.Bool.{cases_Bool, cases_lt, lt-ltb, le-ltb, eqb-true, eq-eqb}
use Rattle.std.proofs.lemmas.Int.{ints}
use Rattle.std.proofs.lemmas.List.Elements.{filter-append}
use Rattle.std.proofs.lemmas.List.Sums.{passes_at_first}
use Rattle.std.proofs.lemmas.Option.{slice_get_within, slice_get-get_or}
use Rattle.ft_base.specs.Interval.{IsWithin}
use Rattle.ft_core.specs.declared.tables.Tables.{Tables}
use Rattle.ft_core.specs.declared.tables.Var.{Var}
use Rattle.ft_core.specs.meaning.Kinds.{monitored}
use Rattle.ft_linear.specs.meaning.Form.{InArea, values_at}
use Rattle.ft_linear.specs.meaning.Formula.{FormulaView, truth_at}
use Rattle.ft_cert.specs.meaning.Tree.{Tree}
use Rattle.ft_mean.specs.meaning.Reading.{Scans, IsVar, reading_of}
use Rattle.ft_claims.specs.declared.claim.Claim.{Claim}
use Rattle.ft_claims.specs.meaning.Areas.{is_used, used, place_in, finished}
use Rattle.ft_claims.specs.meaning.Formulas.{entries_of}
use Rattle.ft_claims.specs.meaning.Names.{width}
use Rattle.ft_claims.specs.meaning.Points.{IsPointOf}
use Rattle.ft_oblige.specs.laws.Tests.{of_filter}
use Rattle.ft_oblige.specs.meaning.Lists.{list_spans}
use Rattle.ft_oblige.specs.meaning.Tried.{HasNoPoint, IsPointIn, IsSpentIn}
use Rattle.ft_unroll.specs.building.Telling.{told_or, AreRows, IsTold}
use Rattle.ft_unroll.specs.declared.forming.ListForm.{ListForm}
use Rattle.ft_unroll.specs.laws.Laws.{Laws}
use Rattle.ft_unroll.specs.laws.ListLaws.{HasPoint}
use Rattle.ft_unroll.specs.meaning.Found.{IsListForm, IsSpentFor}
use Rattle.ft_unroll.specs.meaning.Unrolling.{HasValues}
use Rattle.ft_unroll.proofs.PointLemmas.{name_low}
use Rattle.ft_unroll.proofs.ScanLists.{any_chosen}

-- a range in two parts
range-split : (from a b : ℕ) → range_with_len from (a + b) ≡ range_with_len from a ++ range_with_len (from + a) b
range-split from zero b =
    let none : zero + b ≡ b = omega arith in
    let same : from ≡ from + zero = omega arith in ap (range_with_len from) none ∙ ap (λ k. range_with_len k b) same
range-split from (suc a) b =
    let first : suc a + b ≡ suc (a + b) = omega arith in
    let next : (from + 1) + a ≡ from + suc a = omega arith in
    ap (range_with_len from) first
    ∙ ap (λ xs. from ∷ xs) (range-split (from + 1) a b ∙ ap (λ k. range_with_len (from + 1) a ++ range_with_len k b) next)

-- what stands in the front of a list stands there in the list
place-in-front : (q : ℕ → Bool) (xs ys : List ℕ) → position_or_len q xs < length xs → position_or_len q (xs ++ ys) ≡ position_or_len q xs
place-in-front q [] ys l = absurd (omega (arith, l))
place-in-front q (x ∷ xs) ys l = ⊎_elim
    (λ here. ap (λ b. cond (not b) (1 + position_or_len q (xs ++ ys)) 0) here
    ∙ sym (ap (λ b. cond (not b) (1 + position_or_len q xs) 0) here))
    (λ other.
    let later : position_or_len q (x ∷ xs) ≡ 1 + position_or_len q xs = ap (λ b. cond (not b) (1 + position_or_len q xs) 0) other in
    ap (λ b. cond (not b) (1 + position_or_len q (xs ++ ys)) 0) other
    ∙ ap (λ k. 1 + k) (place-in-front q xs ys (omega (arith, l, later))) ∙ sym later)
    (cases_Bool (q x))

-- where some element passes, the first that does stands in the list
some-inside : (q : ℕ → Bool) (xs : List ℕ) → list_any q xs ≡ true → position_or_len q xs < length xs
some-inside q [] h = absurd (true≢false (sym h))
some-inside q (x ∷ xs) h = ⊎_elim
    (λ here. let first : position_or_len q (x ∷ xs) ≡ 0 = ap (λ b. cond (not b) (1 + position_or_len q xs) 0) here in omega (arith, first))
    (λ other.
    let later : position_or_len q (x ∷ xs) ≡ 1 + position_or_len q xs = ap (λ b. cond (not b) (1 + position_or_len q xs) 0) other in
    let more = some-inside q xs (sym (ap (λ b. b || list_any q xs) other) ∙ h) in omega (arith, later, more))
    (cases_Bool (q x))

module _ (names : List ℕ) (p : List ℤ) (u : ℕ) (o : ℤ) where
  abbrev told-by : Bool → ℤ
  told-by b = elim (cond b (Some (place_in names u)) None) [ None ↦ o | Some place ↦ values_at p place ]

  told-inside : place_in names u < length names → told_or names p u o ≡ values_at p (place_in names u)
  told-inside l = ap told-by (lt-ltb (place_in names u) (length names) l)

  told-outside : length names ≤ place_in names u → told_or names p u o ≡ o
  told-outside a = ap told-by (le-ltb (place_in names u) (length names) a)

module _ (base : ℕ) (parts : List Claim) where
  abbrev of_names : List ℕ
  of_names = filter (is_used base parts) (range_with_len 0 base)

  -- names come first among the unknowns
  front : used base parts ≡ of_names ++ filter (is_used base parts) (range_with_len (0 + base) (length (entries_of base parts)))
  front = ap (filter (is_used base parts)) (range-split 0 base (length (entries_of base parts)))
      ∙ filter-append (is_used base parts) (range_with_len 0 base) (range_with_len (0 + base) (length (entries_of base parts)))

  -- a name that is used is among them
  inside : (u : ℕ) → u < base → IsTrue (is_used base parts u) → place_in of_names u < length of_names
  inside u l uses = some-inside (λ v. v == u) of_names
      (any_chosen (λ v. v == u) (is_used base parts) 0 base u (omega arith) (omega (arith, l)) uses (eq-eqb u u refl))

  -- and one that is among them is used
  is-one : (u : ℕ) → place_in of_names u < length of_names → is_used base parts u ≡ true
  is-one u l = subst (λ v. is_used base parts v ≡ true)
      (eqb-true (get_or of_names (place_in of_names u) u) u (passes_at_first (λ v. v == u) of_names u l))
      (of_filter (is_used base parts) (range_with_len 0 base) (place_in of_names u) (get_or of_names (place_in of_names u) u)
      (slice_get-get_or of_names (place_in of_names u) u l))

  -- at the same place as among all unknowns
  same-place : (u : ℕ) → place_in of_names u < length of_names → place_in (used base parts) u ≡ place_in of_names u
  same-place u l = ap (λ us. place_in us u) front
      ∙ place-in-front (λ v. v == u) of_names (filter (is_used base parts) (range_with_len (0 + base) (length (entries_of base parts)))) l

module _ (laws : Laws) (S : Tables) (n : ℕ) (parts : List Claim) (form : ListForm)
    (is : IsListForm (finished (list_spans S n) parts) form) where
  -- a point of the settled formula is one of the formula
  from-settled : (p : List ℤ) → IsPointIn form.formula form.area.spans p → IsPointOf (finished (list_spans S n) parts) p
  from-settled p point = record {
    in_area = subst (λ spans. InArea spans (values_at p)) is.area point.in_area;
    satisfies = sym (laws.settled_alike (list_spans S n) parts (values_at p))
        ∙ subst (λ (f : FormulaView). truth_at f (values_at p) ≡ true) is.formula point.satisfies;
  }

  -- where the settled formula has no point, the formula has none
  pub none-settled : HasNoPoint form.formula form.area.spans → HasPoint (finished (list_spans S n) parts) → ⊥
  none-settled none at = none (values_at at.0)
      (subst (λ spans. InArea spans (values_at at.0)) (sym is.area) at.1.in_area)
      (subst (λ (f : FormulaView). truth_at f (values_at at.0) ≡ true) (sym is.formula)
      (laws.settled_alike (list_spans S n) parts (values_at at.0) ∙ at.1.satisfies))

  pub spent-settled : (splits : ℕ) (tree : Tree) → IsSpentIn form.formula form.area.spans splits tree
      → IsSpentFor (finished (list_spans S n) parts) splits tree
  spent-settled splits tree spent = subst (λ (f : FormulaView). IsSpentIn f (finished (list_spans S n) parts).spans splits tree)
      is.formula (subst (λ spans. IsSpentIn form.formula spans splits tree) is.area spent)

  module _ (p : List ℤ) (point : IsPointOf (finished (list_spans S n) parts) p) (h : Scans) (are : AreRows S form.names p n h) where
    abbrev base : ℕ
    base = length (list_spans S n)

    named : AreRows S (of_names base parts) p n h
    named = subst (λ names. AreRows S names p n h) is.names are

    -- what the list tells of a variable
    tells : (t x : ℕ) (v : Var) → t < n → IsVar S monitored x v
        → reading_of S monitored h t x ≡ told_or (of_names base parts) p (t * width S + x) v.range.0
    tells t x v l var = laws.at_place S monitored h t x v var ∙ (named.rows t l).told x v var

    has-values : HasValues S n parts p h
    has-values t x v l var uses =
        let low = name_low laws S n t x l (slice_get_within S.vars x v var.0) in
        let in_it = inside base parts (t * width S + x) low uses in
        ap (values_at p) (same-place base parts (t * width S + x) in_it)
        ∙ sym (told-inside (of_names base parts) p (t * width S + x) v.range.0 in_it) ∙ sym (tells t x v l var)

    in-range : (t x : ℕ) (v : Var) → t < n → IsVar S monitored x v → IsWithin v.range (reading_of S monitored h t x)
    in-range t x v l var =
        let at = laws.points_are_of_numbers (list_spans S n) parts (laws.lists_have_some S n) p point in
        let fits = ((laws.lists_are_spans S n at.0).1 at.1).values t x v l var.0 in
        let low = name_low laws S n t x l (slice_get_within S.vars x v var.0) in
        subst (IsWithin v.range) (sym (tells t x v l var)) (⊎_elim
        (λ in_it. subst (IsWithin v.range)
        (sym (told-inside (of_names base parts) p (t * width S + x) v.range.0 in_it
        ∙ ap (values_at p) (sym (same-place base parts (t * width S + x) in_it))
        ∙ at.2 (t * width S + x) low (is-one base parts (t * width S + x) in_it))) fits)
        (λ out_of_it. subst (IsWithin v.range)
        (sym (told-outside (of_names base parts) p (t * width S + x) v.range.0 out_of_it))
        (least v.range (at.0 (t * width S + x)) fits))
        (cases_lt (place_in (of_names base parts) (t * width S + x)) (length (of_names base parts))))
      where
        least : (r : ℤ × ℤ) (z : ℤ) → IsWithin r z → IsWithin r r.0
        least r z fits = (omega (arith, ints), (let low = fits.0 in let high = fits.1 in omega (arith, ints, low, high)))

    pub told : 0 < n → IsTold S n parts h
    told some = record {
      values = p;
      point = point;
      long = are.long;
      listed = record {
        nonempty = λ e. let none : length h ≡ 0 = ap (λ (g : Scans). length g) e in let long = are.long in omega (arith, some, long, none);
        values = record {
          widths = λ t l. (are.rows t (subst (λ k. t < k) are.long l)).width;
          ranges = λ t x v l var. in-range t x v (subst (λ k. t < k) are.long l) var;
        };
      };
      has = has-values;
    }

  pub point-told : 0 < n → (p : List ℤ) → IsPointIn form.formula form.area.spans p → (h : Scans) → AreRows S form.names p n h
      → IsTold S n parts h
  point-told some p point h are = told p (from-settled p point) h are some
