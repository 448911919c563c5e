-- What is found first, or in a row, is found among the cells of a table.
use Rattle.std.proofs.Common.{◌≡◌, ◌∙◌, sym, ap, subst, refl, ℕ, zero, suc, ◌+◌, ◌<◌, ℤ, Bool, true, false, cond, ◌&&◌, List, [], ◌∷◌, ◌++◌}
use Rattle.std.proofs.Common.{map, length, slice_get, slice_index_or, Option, Some, None, arith, ⊎_elim}
use Rattle.std.specs.Prelude.{filter, ◌==◌}
use Rattle.std.specs.List.{All, find, list_any, list_all, flat_map, zip, enumerate_from, position_or_len}
use Rattle.std.specs.Option.{option_map}
use Rattle.std.specs.Ordering.{int_eq}
use Rattle.std.proofs.lemmas.Bool.{cond-true, cond-false, cases_Bool, or_left, or_right, cases_lt}
use Rattle.std.proofs.lemmas.Bool.Decides.{Decides-int_eq}
use Rattle.std.proofs.lemmas.List.Elements.{All-filter, filter-append}
use Rattle.std.proofs.lemmas.List.Folds.{find_at, list_any-append}
use Rattle.std.proofs.lemmas.Option.{none-some, same_Some, slice_get-map, get_or_from_slice_get, slice_get_within}
use Rattle.ft_core.specs.declared.tables.Grid.TheVariants.{Vector}
use Rattle.ft_core.specs.declared.term.Term.{Term}
use Rattle.ft_core.specs.declared.term.Cond.{Cond}
use Rattle.ft_core.specs.declared.tables.Grid.{Grid}
use Rattle.ft_core.specs.meaning.Grids.{Cell, cells, cells_for, row_cells, term_at}
use Rattle.ft_core.specs.laws.CellTerms.{term-there, zip-parts}
use Rattle.ft_mean.specs.meaning.Value.{View, value, truth}
use Rattle.ft_mean.specs.meaning.Cells.{cell_holds, holding}
use Rattle.ft_core.specs.laws.Lists.{mapped}
use Rattle.ft_scan.specs.steps.Found.{IsFound, IsInRow, IsTrueAt}

pub zip_there : {A B : Type 0} (xs : List A) (ys : List B) (k : ℕ) (x : A) (y : B) → slice_get xs k ≡ Some x → slice_get ys k ≡ Some y
    → slice_get (zip xs ys) k ≡ Some (x, y)
zip_there [] ys k x y e f = absurd (none-some x e)
zip_there (a ∷ xs) [] k x y e f = absurd (none-some y f)
zip_there (a ∷ xs) (b ∷ ys) zero x y e f = let i = same_Some a x e in let j = same_Some b y f in λ k. Some (i k, j k)
zip_there (a ∷ xs) (b ∷ ys) (suc k) x y e f = zip_there xs ys k x y e f

pub mapped_there : {A B : Type 0} (f : A → B) (xs : List A) (k : ℕ) (x : A) → slice_get xs k ≡ Some x → slice_get (map f xs) k ≡ Some (f x)
mapped_there f xs k x e = slice_get-map f xs k ∙ ap (option_map f) e

-- where a row has something, it is there
pub inside : {A : Type 0} (xs : List (List A)) (k j : ℕ) (a : A) → slice_get (slice_index_or xs k []) j ≡ Some a
    → slice_get xs k ≡ Some (slice_index_or xs k [])
inside [] k j a e = absurd (none-some a e)
inside (y ∷ xs) zero j a e = refl
inside (y ∷ xs) (suc k) j a e = inside xs k j a e

module _ (V : View) (x : ℕ) where
  -- those of the cells that are for x and hold
  abbrev kept : List Cell → List Cell
  kept cs = holding V (filter (λ c. c.target == x) cs)

  abbrev Gives : ℤ → List Cell → Type 0
  Gives z cs = list_any (λ c. int_eq z (value V c.term)) (kept cs) ≡ true

  kept_append : (xs ys : List Cell) → kept (xs ++ ys) ≡ kept xs ++ kept ys
  kept_append xs ys = ap (holding V) (filter-append (λ c. c.target == x) xs ys)
      ∙ filter-append (cell_holds V) (filter (λ c. c.target == x) xs) (filter (λ c. c.target == x) ys)

  kept_shut : (c : Cell) (cs : List Cell) → cell_holds V c ≡ false → kept (c ∷ cs) ≡ kept cs
  kept_shut c cs e = elim (c.target == x) as (λ b. holding V (cond b (c ∷ filter (λ d. d.target == x) cs) (filter (λ d. d.target == x) cs))
      ≡ kept cs) [
        | true ↦ cond-false (cell_holds V c) (c ∷ kept cs) (kept cs) e
        | false ↦ refl
      ]

  kept_other : (c : Cell) (cs : List Cell) → (c.target == x) ≡ false → kept (c ∷ cs) ≡ kept cs
  kept_other c cs e = ap (holding V) (cond-false (c.target == x) (c ∷ filter (λ d. d.target == x) cs) (filter (λ d. d.target == x) cs) e)

  kept_open : (c : Cell) (cs : List Cell) → (c.target == x) ≡ true → cell_holds V c ≡ true → kept (c ∷ cs) ≡ c ∷ kept cs
  kept_open c cs e h = ap (holding V) (cond-true (c.target == x) (c ∷ filter (λ d. d.target == x) cs) (filter (λ d. d.target == x) cs) e)
      ∙ cond-true (cell_holds V c) (c ∷ kept cs) (kept cs) h

  gives_more : (z : ℤ) (c : Cell) (cs : List Cell) → Gives z cs → Gives z (c ∷ cs)
  gives_more z c cs h = ⊎_elim
      (λ mine. ⊎_elim
      (λ holds. ap (list_any (λ d. int_eq z (value V d.term))) (kept_open c cs mine holds)
      ∙ or_right (int_eq z (value V c.term)) (list_any (λ d. int_eq z (value V d.term)) (kept cs)) h)
      (λ shut. ap (list_any (λ d. int_eq z (value V d.term))) (kept_shut c cs shut) ∙ h)
      (cases_Bool (cell_holds V c)))
      (λ other. ap (list_any (λ d. int_eq z (value V d.term))) (kept_other c cs other) ∙ h)
      (cases_Bool (c.target == x))

  none_all : {A : Type 0} (f : ℕ × A → List Cell) (n : ℕ) (xs : List A)
      → ((m k : ℕ) (a : A) → slice_get xs k ≡ Some a → kept (f (m, a)) ≡ [])
      → kept (flat_map f (enumerate_from n xs)) ≡ []
  none_all f n [] h = refl
  none_all f n (a ∷ xs) h =
      let here = h n 0 a refl in
      let more = none_all f (n + 1) xs (λ m k b e. h m (suc k) b e) in
      kept_append (f (n, a)) (flat_map f (enumerate_from (n + 1) xs)) ∙ (λ i. here i ++ more i)

  gives_one : {A : Type 0} (z : ℤ) (f : ℕ × A → List Cell) (n : ℕ) (xs : List A) (k : ℕ) (a : A) → slice_get xs k ≡ Some a
      → ((m : ℕ) → Gives z (f (m, a)))
      → Gives z (flat_map f (enumerate_from n xs))
  gives_one z f n [] k a e h = absurd (none-some a e)
  gives_one z f n (b ∷ xs) zero a e h =
      let here : Gives z (f (n, b)) = subst (λ c. Gives z (f (n, c))) (sym (same_Some b a e)) (h n) in
      ap (list_any (λ d. int_eq z (value V d.term))) (kept_append (f (n, b)) (flat_map f (enumerate_from (n + 1) xs)))
      ∙ list_any-append (λ d. int_eq z (value V d.term)) (kept (f (n, b))) (kept (flat_map f (enumerate_from (n + 1) xs)))
      ∙ or_left _ _ here
  gives_one z f n (b ∷ xs) (suc k) a e h =
      ap (list_any (λ d. int_eq z (value V d.term))) (kept_append (f (n, b)) (flat_map f (enumerate_from (n + 1) xs)))
      ∙ list_any-append (λ d. int_eq z (value V d.term)) (kept (f (n, b))) (kept (flat_map f (enumerate_from (n + 1) xs)))
      ∙ or_right _ _ (gives_one z f (n + 1) xs k a e h)

  abbrev made : (i target : ℕ) → ℕ × (List Cond × Term) → Cell
  made i target c = record { row = i; column = c.0; target = target; conds = c.1.0; term = c.1.1 }

  row_none : (i target n : ℕ) (columns : List (List Cond × Term)) → ((k : ℕ) (c : List Cond × Term) → slice_get columns k ≡ Some c
      → list_all (truth V) c.0 ≡ false)
      → kept (map (made i target) (enumerate_from n columns)) ≡ []
  row_none i target n [] h = refl
  row_none i target n (c ∷ cs) h =
      kept_shut (made i target (n, c)) (map (made i target) (enumerate_from (n + 1) cs)) (h 0 c refl)
      ∙ row_none i target (n + 1) cs (λ k d e. h (suc k) d e)

  row_other : (i target n : ℕ) (columns : List (List Cond × Term)) → (target == x) ≡ false
      → kept (map (made i target) (enumerate_from n columns)) ≡ []
  row_other i target n [] other = refl
  row_other i target n (c ∷ cs) other =
      kept_other (made i target (n, c)) (map (made i target) (enumerate_from (n + 1) cs)) other ∙ row_other i target (n + 1) cs other

  row_gives : (i target n : ℕ) (columns : List (List Cond × Term)) (k : ℕ) (c : List Cond × Term) → (target == x) ≡ true
      → slice_get columns k ≡ Some c
      → list_all (truth V) c.0 ≡ true → Gives (value V c.1) (map (made i target) (enumerate_from n columns))
  row_gives i target n [] k c mine e h = absurd (none-some c e)
  row_gives i target n (d ∷ cs) zero c mine e h =
      let is : d ≡ c = same_Some d c e in
      subst (λ (b : List Cond × Term). Gives (value V c.1) (made i target (n, b) ∷ map (made i target) (enumerate_from (n + 1) cs)))
      (sym is)
      (ap (list_any (λ b. int_eq (value V c.1) (value V b.term))) (kept_open (made i target (n, c))
      (map (made i target) (enumerate_from (n + 1) cs)) mine h)
      ∙ or_left (int_eq (value V c.1) (value V c.1)) _ ((Decides-int_eq (value V c.1) (value V c.1)).1 refl))
  row_gives i target n (d ∷ cs) (suc k) c mine e h =
      gives_more (value V c.1) (made i target (n, d)) (map (made i target) (enumerate_from (n + 1) cs))
      (row_gives i target (n + 1) cs k c mine e h)

  abbrev alone : Cond → List Cond
  alone c = c ∷ []

  -- a row of cells whose conditions are the columns'
  module _ (i target : ℕ) (conds : List Cond) (terms : List Term) where
    abbrev row : List Cell
    row = row_cells i target (zip (map alone conds) terms)

    bare_none : IsInRow V conds terms None → kept row ≡ []
    bare_none none = row_none i target 0 (zip (map alone conds) terms) (λ k p e.
        let parts = zip-parts (map alone conds) terms k p e in
        let at = mapped alone conds k p.0 parts.0 in
        ap (list_all (truth V)) (sym at.2) ∙ (λ l. none k at.0 p.1 at.1 parts.1 l && true))

    bare_gives : (z : ℤ) → (target == x) ≡ true → IsInRow V conds terms (Some z) → Gives z row
    bare_gives z mine (j, c, e, there, term, holds, is) = subst (λ y. Gives y row) (sym is)
        (row_gives i target 0 (zip (map alone conds) terms) j (alone c, e) mine
        (zip_there (map alone conds) terms j (alone c) e (mapped_there alone conds j c there) term) (λ l. holds l && true))

  -- no row up to this one has a cell that holds
  abbrev pub VectorNone : (columns : List Cond) (targets : List ℕ) (terms : List (List Term)) → ℕ → Type 0
  VectorNone columns targets terms k = (i : ℕ) → i < k → (t : ℕ) → slice_get targets i ≡ Some t → (t == x) ≡ true
      → IsInRow V columns (slice_index_or terms i []) None

  pub vector_none : (columns : List Cond) (targets : List ℕ) (terms : List (List Term)) → VectorNone columns targets terms (length targets)
      → IsFound V (cells_for x (Vector columns targets terms)) None
  vector_none columns targets terms none = none_all (λ r. row_cells r.0 r.1.0 (zip (map (λ column. column ∷ []) columns) r.1.1)) 0
      (zip targets terms) (λ m k p e.
      let parts = zip-parts targets terms k p e in
      ⊎_elim
      (λ mine. bare_none m p.0 columns p.1 (subst (λ es. IsInRow V columns es None) (get_or_from_slice_get terms k p.1 [] parts.1)
      (none k (slice_get_within targets k p.0 parts.0) p.0 parts.0 mine)))
      (λ other. row_other m p.0 0 (zip (map (λ column. column ∷ []) columns) p.1) other)
      (cases_Bool (p.0 == x)))

  pub vector_gives : (columns : List Cond) (targets : List ℕ) (terms : List (List Term)) (i t : ℕ) (z : ℤ) → slice_get targets i ≡ Some t
      → (t == x) ≡ true
      → IsInRow V columns (slice_index_or terms i []) (Some z) → IsFound V (cells_for x (Vector columns targets terms)) (Some z)
  vector_gives columns targets terms i t z there mine in_row =
      gives_one z (λ r. row_cells r.0 r.1.0 (zip (map (λ column. column ∷ []) columns) r.1.1)) 0 (zip targets terms) i
      (t, slice_index_or terms i [])
      (zip_there targets terms i t (slice_index_or terms i []) there (inside terms i in_row.0 in_row.2 in_row.4))
      (λ m. bare_gives m t columns (slice_index_or terms i []) z mine in_row)

-- a condition that is not true is false
pub fails : (V : View) (conds : List Cond) (j : ℕ) → (IsTrueAt V conds j → ⊥) → (c : Cond) → slice_get conds j ≡ Some c → truth V c ≡ false
fails V conds j none c at = ⊎_elim (λ holds. absurd (none (c, at, holds))) (λ shut. shut) (cases_Bool (truth V c))

-- what holds of each number below and of the next one holds of each below that
pub one_more : (P : ℕ → Type 0) (k : ℕ) → ((i : ℕ) → i < k → P i) → P k → (i : ℕ) → i < k + 1 → P i
one_more P k h p i below = ⊎_elim (λ less. h i less) (λ past. let is : k ≡ i = omega (arith, below, past) in subst P is p) (cases_lt i k)

-- the first of the cells that hold
module _ (V : View) where
  none_hold : (cs : List Cell) → find (cell_holds V) cs ≡ None → holding V cs ≡ []
  none_hold [] is = refl
  none_hold (d ∷ cs) is = ⊎_elim
      (λ holds. absurd (none-some d (sym is ∙ cond-true (cell_holds V d) (Some d) (find (cell_holds V) cs) holds)))
      (λ shut. cond-false (cell_holds V d) (d ∷ holding V cs) (holding V cs) shut
      ∙ none_hold cs (sym (cond-false (cell_holds V d) (Some d) (find (cell_holds V) cs) shut) ∙ is))
      (cases_Bool (cell_holds V d))

  first_gives : (cs : List Cell) (c : Cell) → find (cell_holds V) cs ≡ Some c → IsFound V cs (Some (value V c.term))
  first_gives [] c is = absurd (none-some c is)
  first_gives (d ∷ cs) c is = ⊎_elim
      (λ holds.
      let same = same_Some d c (sym (cond-true (cell_holds V d) (Some d) (find (cell_holds V) cs) holds) ∙ is) in
      ap (list_any its) (cond-true (cell_holds V d) (d ∷ holding V cs) (holding V cs) holds)
      ∙ or_left (its d) _ ((Decides-int_eq (value V c.term) (value V d.term)).1 (ap (λ (b : Cell). value V b.term) (sym same))))
      (λ shut. ap (list_any its) (cond-false (cell_holds V d) (d ∷ holding V cs) (holding V cs) shut)
      ∙ first_gives cs c (sym (cond-false (cell_holds V d) (Some d) (find (cell_holds V) cs) shut) ∙ is))
      (cases_Bool (cell_holds V d))
    where
      its : Cell → Bool
      its b = int_eq (value V c.term) (value V b.term)

-- what is found first is what each item is
of_first : {A : Type 0} (P : A → Type 0) (test : A → Bool) (xs : List A) (x : A) → find test xs ≡ Some x → All P xs → P x
of_first P test xs x is all =
    let at = sym (find_at test xs) ∙ is in
    subst P (get_or_from_slice_get xs (position_or_len test xs) x x at) (all (position_or_len test xs) x (slice_get_within xs _ x at))

-- the first cell of a table for x that holds, by its row and its column
module _ (V : View) (x : ℕ) (grid : Grid) where
  abbrev place : Cell → ℕ × ℕ
  place cell = (cell.row, cell.column)

  abbrev first : Option Cell
  first = find (cell_holds V) (cells_for x grid)

  pub none_found : None ≡ option_map place first → IsFound V (cells_for x grid) None
  none_found = of first refl
    where
      of : (o : Option Cell) → first ≡ o → None ≡ option_map place o → holding V (cells_for x grid) ≡ []
      of None e is = none_hold V (cells_for x grid) e
      of (Some c) e is = absurd (none-some (place c) is)

  module _ (row column : ℕ) (is : Some (row, column) ≡ option_map place first) where
    its_cell : (c : Cell) × (first ≡ Some c) × (term_at grid row column ≡ Some c.term)
    its_cell = of first refl is
      where
        of : (o : Option Cell) → first ≡ o → Some (row, column) ≡ option_map place o
            → (c : Cell) × (first ≡ Some c) × (term_at grid row column ≡ Some c.term)
        of None e is = absurd (none-some (row, column) (sym is))
        of (Some c) e is =
            let same = same_Some (row, column) (place c) is in
            let there = of_first (λ (d : Cell). term_at grid d.row d.column ≡ Some d.term) (cell_holds V) (cells_for x grid) c e
            (All-filter (λ (d : Cell). d.target == x) (λ (d : Cell). term_at grid d.row d.column ≡ Some d.term) (cells grid)
            (term-there grid)) in
            (c, e, (λ i. term_at grid (same i).0 (same i).1) ∙ there)

    pub its_term : (e : Term) × (term_at grid row column ≡ Some e)
    its_term = (its_cell.0.term, its_cell.2)

    pub its_value : (z : ℤ) → ((e : Term) → term_at grid row column ≡ Some e → z ≡ value V e) → IsFound V (cells_for x grid) (Some z)
    its_value z gives = subst (λ y. IsFound V (cells_for x grid) (Some y)) (sym (gives its_cell.0.term its_cell.2))
        (first_gives V (cells_for x grid) its_cell.0 its_cell.1)
