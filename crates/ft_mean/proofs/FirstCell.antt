-- The first cell that holds, by its row and its column.
use Rattle.std.proofs.Common.{◌≡◌, ◌∙◌, sym, ap, refl, ℕ, zero, suc, ◌+◌, ◌<◌, ◌≤◌, Bool, true, false, cond, ◌&&◌, List, [], ◌∷◌, ◌++◌, map}
use Rattle.std.proofs.Common.{length, drop, slice_get, Option, Some, None, arith, ⊎_elim}
use Rattle.std.specs.Prelude.{filter, ◌==◌, min}
use Rattle.std.specs.List.{find, list_all, flat_map, zip, enumerate_from}
use Rattle.std.specs.Option.{option_map, option_or}
use Rattle.std.proofs.lemmas.Bool.{cases_Bool, cond-true, cond-false, eq-eqb}
use Rattle.std.proofs.lemmas.List.Elements.{filter-append}
use Rattle.std.proofs.lemmas.List.Folds.{find-append}
use Rattle.std.proofs.lemmas.Option.{none-some, same_Some, slice_get_cases}
use Rattle.ft_core.specs.declared.tables.Grid.TheVariants.{Normal, Inverted, Vector}
use Rattle.ft_core.specs.declared.term.Term.{Term}
use Rattle.ft_core.specs.declared.term.Cond.{Cond}
use Rattle.ft_core.specs.declared.tables.Grid.{Grid}
use Rattle.ft_core.specs.meaning.Grids.{Cell, row_cells, cells, defines}
use Rattle.ft_mean.specs.meaning.Value.{View, truth}
use Rattle.ft_mean.specs.meaning.Cells.{cell_holds}
use Rattle.ft_mean.specs.judge.FirstCell.{first_answer, place_if, first_column, headed_column, target_column, in_row, first_row}
use Rattle.ft_mean.proofs.CellLemmas.{no_cells}

-- a walk over pairs, at one and past the last
module _ {A B C : Type 0} (ask : ℕ → A × B → Option C) where
  pub answer_next : (n : ℕ) (xs : List A) (ys : List B) (k : ℕ) (x : A) (y : B) → slice_get xs k ≡ Some x → slice_get ys k ≡ Some y
      → first_answer ask n (drop k (zip xs ys)) ≡ option_or (ask n (x, y)) (first_answer ask (n + 1) (drop (suc k) (zip xs ys)))
  answer_next n [] ys k x y ex ey = absurd (none-some x ex)
  answer_next n (a ∷ xs) [] k x y ex ey = absurd (none-some y ey)
  answer_next n (a ∷ xs) (b ∷ ys) zero x y ex ey =
      let i = same_Some a x ex in let j = same_Some b y ey in λ l. option_or (ask n (i l, j l)) (first_answer ask (n + 1) (zip xs ys))
  answer_next n (a ∷ xs) (b ∷ ys) (suc k) x y ex ey = answer_next n xs ys k x y ex ey

  pub answer_end : (n : ℕ) (xs : List A) (ys : List B) (k : ℕ) → min (length xs) (length ys) ≤ k → first_answer ask n
      (drop k (zip xs ys)) ≡ None
  answer_end n [] ys zero low = refl
  answer_end n [] ys (suc k) low = refl
  answer_end n (a ∷ xs) [] zero low = refl
  answer_end n (a ∷ xs) [] (suc k) low = refl
  answer_end n (a ∷ xs) (b ∷ ys) zero low = absurd (omega (arith, low))
  answer_end n (a ∷ xs) (b ∷ ys) (suc k) low = answer_end n xs ys k (omega (arith, low))

-- the rows of a table, each with what stands in it
module _ {A B : Type 0} (column : A × B → Option ℕ) (xs : List A) (ys : List B) (k : ℕ)
    (past : first_row column (zip xs ys) ≡ first_answer (in_row column) k (drop k (zip xs ys))) where
  pub row_first : (x : A) (y : B) (z : ℕ) → slice_get xs k ≡ Some x → slice_get ys k ≡ Some y → Some z ≡ column (x, y) → Some
      (k, z) ≡ first_row column (zip xs ys)
  row_first x y z ex ey here = sym (past ∙ answer_next (in_row column) k xs ys k x y ex ey
      ∙ ap (λ o. option_or (option_map (λ l. (k, l)) o) (first_answer (in_row column) (k + 1) (drop (suc k) (zip xs ys)))) (sym here))

  pub row_next : (x : A) (y : B) → slice_get xs k ≡ Some x → slice_get ys k ≡ Some y → None ≡ column (x, y)
      → first_row column (zip xs ys) ≡ first_answer (in_row column) (k + 1) (drop (k + 1) (zip xs ys))
  row_next x y ex ey here =
      let more : suc k ≡ k + 1 = omega arith in
      past ∙ answer_next (in_row column) k xs ys k x y ex ey
      ∙ ap (λ o. option_or (option_map (λ l. (k, l)) o) (first_answer (in_row column) (k + 1) (drop (suc k) (zip xs ys)))) (sym here)
      ∙ ap (λ n. first_answer (in_row column) (k + 1) (drop n (zip xs ys))) more

  pub row_none : min (length xs) (length ys) ≤ k → None ≡ first_row column (zip xs ys)
  row_none low = sym (past ∙ answer_end (in_row column) k xs ys k low)

-- the columns of a row
module _ (V : View) (conds : List Cond) (terms : List Term) (k : ℕ)
    (past : first_column V conds terms ≡ first_answer (place_if V) k (drop k (zip conds terms))) where
  one_column : (c : Cond) (b : Bool) → slice_get conds k ≡ Some c → k < length terms → truth V c ≡ b
      → first_column V conds terms ≡ option_or (cond b (Some k) None) (first_answer (place_if V) (k + 1) (drop (suc k) (zip conds terms)))
  one_column c b there below is = past ∙ ⊎_elim
      (λ at. answer_next (place_if V) k conds terms k c at.0 there at.2)
      (λ beyond. absurd (let low = beyond.0 in omega (arith, low, below)))
      (slice_get_cases terms k).1
      ∙ ap (λ t. option_or (cond t (Some k) None) (first_answer (place_if V) (k + 1) (drop (suc k) (zip conds terms)))) is

  pub column_first : (c : Cond) → slice_get conds k ≡ Some c → k < length terms → truth V c ≡ true → Some k ≡ first_column V conds terms
  column_first c there below is = sym (one_column c true there below is)

  pub column_next : (c : Cond) → slice_get conds k ≡ Some c → k < length terms → truth V c ≡ false
      → first_column V conds terms ≡ first_answer (place_if V) (k + 1) (drop (k + 1) (zip conds terms))
  column_next c there below is =
      let more : suc k ≡ k + 1 = omega arith in
      one_column c false there below is ∙ ap (λ n. first_answer (place_if V) (k + 1) (drop n (zip conds terms))) more

  pub column_none : min (length conds) (length terms) ≤ k → None ≡ first_column V conds terms
  column_none low = sym (past ∙ answer_end (place_if V) k conds terms k low)

map-or : {A B : Type 0} (f : A → B) (a b : Option A) → option_map f (option_or a b) ≡ option_or (option_map f a) (option_map f b)
map-or f None b = refl
map-or f (Some x) b = refl

module _ (V : View) (x : ℕ) where
  abbrev place : Cell → ℕ × ℕ
  place cell = (cell.row, cell.column)

  -- the place of the first of the cells that is for x and holds
  abbrev found : List Cell → Option (ℕ × ℕ)
  found cs = option_map place (find (cell_holds V) (filter (λ c. c.target == x) cs))

  found-append : (xs ys : List Cell) → found (xs ++ ys) ≡ option_or (found xs) (found ys)
  found-append xs ys = ap (λ cs. option_map place (find (cell_holds V) cs)) (filter-append (λ c. c.target == x) xs ys)
      ∙ ap (option_map place) (find-append (cell_holds V) (filter (λ c. c.target == x) xs) (filter (λ c. c.target == x) ys))
      ∙ map-or place (find (cell_holds V) (filter (λ c. c.target == x) xs)) (find (cell_holds V) (filter (λ c. c.target == x) ys))

  found-first : (c : Cell) (cs : List Cell) (b : Bool) → (c.target == x) ≡ true → cell_holds V c ≡ b → found (c ∷ cs) ≡ cond b
      (Some (place c)) (found cs)
  found-first c cs b mine is =
      ap (λ ds. option_map place (find (cell_holds V) ds)) (cond-true (c.target == x) (c ∷ filter (λ d. d.target == x) cs)
      (filter (λ d. d.target == x) cs) mine)
      ∙ ap (λ t. option_map place (cond t (Some c) (find (cell_holds V) (filter (λ d. d.target == x) cs)))) is
      ∙ by_test b
    where
      by_test : (t : Bool) → option_map place (cond t (Some c) (find (cell_holds V) (filter (λ d. d.target == x) cs))) ≡ cond t
          (Some (place c)) (found cs)
      by_test true = refl
      by_test false = refl

  found-other : (c : Cell) (cs : List Cell) → (c.target == x) ≡ false → found (c ∷ cs) ≡ found cs
  found-other c cs other =
      ap (λ ds. option_map place (find (cell_holds V) ds)) (cond-false (c.target == x) (c ∷ filter (λ d. d.target == x) cs)
      (filter (λ d. d.target == x) cs) other)

  abbrev made : (i target : ℕ) → ℕ × (List Cond × Term) → Cell
  made i target c = record { row = i; column = c.0; target = target; conds = c.1.0; term = c.1.1 }

  row_other : (n i target : ℕ) (columns : List (List Cond × Term)) → (target == x) ≡ false → found
      (map (made i target) (enumerate_from n columns)) ≡ None
  row_other n i target [] other = refl
  row_other n i target (c ∷ cs) other =
      found-other (made i target (n, c)) (map (made i target) (enumerate_from (n + 1) cs)) other ∙ row_other (n + 1) i target cs other

  -- a row of cells whose conditions are each a column's with what `wrap` puts to it
  module _ (wrap : Cond → List Cond) (i target : ℕ) (mine : (target == x) ≡ true) where
    abbrev row : ℕ → List Cond → List Term → List Cell
    row n conds terms = map (made i target) (enumerate_from n (zip (map wrap conds) terms))

    row_shut : ((c : Cond) → list_all (truth V) (wrap c) ≡ false) → (n : ℕ) (conds : List Cond) (terms : List Term) → found
        (row n conds terms) ≡ None
    row_shut shut n [] es = refl
    row_shut shut n (c ∷ cs) [] = refl
    row_shut shut n (c ∷ cs) (e ∷ es) =
        found-first (made i target (n, (wrap c, e))) (row (n + 1) cs es) false mine (shut c) ∙ row_shut shut (n + 1) cs es

    row_open : ((c : Cond) → list_all (truth V) (wrap c) ≡ truth V c) → (n : ℕ) (conds : List Cond) (terms : List Term)
        → found (row n conds terms) ≡ option_map (λ k. (i, k)) (first_answer (place_if V) n (zip conds terms))
    row_open opens n [] es = refl
    row_open opens n (c ∷ cs) [] = refl
    row_open opens n (c ∷ cs) (e ∷ es) =
        found-first (made i target (n, (wrap c, e))) (row (n + 1) cs es) (truth V c) mine (opens c)
        ∙ by_test (truth V c) (row_open opens (n + 1) cs es)
      where
        by_test : (t : Bool) → found (row (n + 1) cs es) ≡ option_map (λ k. (i, k)) (first_answer (place_if V) (n + 1) (zip cs es))
            → cond t (Some (i, n)) (found (row (n + 1) cs es)) ≡ option_map (λ k. (i, k))
            (option_or (cond t (Some n) None) (first_answer (place_if V) (n + 1) (zip cs es)))
        by_test true h = refl
        by_test false h = h

  one_more : (a b : Bool) → (a && true) ≡ a
  one_more true b = refl
  one_more false b = refl

  headed_found : (r : Cond) (i target : ℕ) (columns : List Cond) (es : List Term) → (target == x) ≡ true
      → found (row_cells i target (zip (map (λ column. r ∷ column ∷ []) columns) es)) ≡ option_map (λ k. (i, k))
      (headed_column V r columns es)
  headed_found r i target columns es mine = ⊎_elim
      (λ holds. row_open (λ column. r ∷ column ∷ []) i target mine
      (λ c. (λ l. holds l && (truth V c && true)) ∙ one_more (truth V c) true) 0 columns es
      ∙ ap (option_map (λ k. (i, k))) (sym (cond-true (truth V r) (first_column V columns es) None holds)))
      (λ shut. row_shut (λ column. r ∷ column ∷ []) i target mine (λ c l. shut l && (truth V c && true)) 0 columns es
      ∙ ap (option_map (λ k. (i, k))) (sym (cond-false (truth V r) (first_column V columns es) None shut)))
      (cases_Bool (truth V r))

  target_found : (i target : ℕ) (columns : List Cond) (es : List Term)
      → found (row_cells i target (zip (map (λ column. column ∷ []) columns) es)) ≡ option_map (λ k. (i, k))
      (target_column V x target columns es)
  target_found i target columns es = ⊎_elim
      (λ mine. row_open (λ column. column ∷ []) i target mine (λ c. one_more (truth V c) true) 0 columns es
      ∙ ap (option_map (λ k. (i, k))) (sym (cond-true (target == x) (first_column V columns es) None mine)))
      (λ other. row_other 0 i target (zip (map (λ column. column ∷ []) columns) es) other
      ∙ ap (option_map (λ k. (i, k))) (sym (cond-false (target == x) (first_column V columns es) None other)))
      (cases_Bool (target == x))

  rows_found : {A : Type 0} (give : ℕ × A → List Cell) (column : A → Option ℕ) → ((i : ℕ) (a : A) → found (give (i, a)) ≡ in_row column i a)
      → (n : ℕ) (rows : List A) → found (flat_map give (enumerate_from n rows)) ≡ first_answer (in_row column) n rows
  rows_found give column each n [] = refl
  rows_found give column each n (a ∷ rows) =
      found-append (give (n, a)) (flat_map give (enumerate_from (n + 1) rows))
      ∙ (λ l. option_or (each n a l) (rows_found give column each (n + 1) rows l))

  module _ (grid : Grid) (o : Option (ℕ × ℕ)) where
    abbrev IsFirst : Type 0
    IsFirst = o ≡ found (cells grid)

    pub normal_found : (target : ℕ) (columns cs rows rs : List Cond) (terms es : List (List Term)) → grid ≡ Normal target columns rows terms
        → cs ≡ columns → rs ≡ rows → es ≡ terms → target ≡ x → o ≡ first_row (λ r. headed_column V r.0 cs r.1) (zip rs es) → IsFirst
    normal_found target columns cs rows rs terms es is ec er ee mine first = first
        ∙ (λ i. first_row (λ r. headed_column V r.0 (ec i) r.1) (zip (er i) (ee i)))
        ∙ sym (rows_found
        (λ r. row_cells r.0 target (zip (map (λ column. r.1.0 ∷ column ∷ []) columns) r.1.1)) (λ r. headed_column V r.0 columns r.1)
        (λ i r. headed_found r.0 i target columns r.1 (eq-eqb target x mine)) 0 (zip rows terms))
        ∙ ap (λ h. found (cells h)) (sym is)

    pub inverted_found : (target : ℕ) (terms es : List Term) (rows rs : List Cond) (conds cs : List (List Cond))
        → grid ≡ Inverted target terms rows conds
        → es ≡ terms → rs ≡ rows → cs ≡ conds → target ≡ x → o ≡ first_row (λ r. headed_column V r.0 r.1 es) (zip rs cs) → IsFirst
    inverted_found target terms es rows rs conds cs is ee er ec mine first = first
        ∙ (λ i. first_row (λ r. headed_column V r.0 r.1 (ee i)) (zip (er i) (ec i)))
        ∙ sym (rows_found
        (λ r. row_cells r.0 target (zip (map (λ entry. r.1.0 ∷ entry ∷ []) r.1.1) terms)) (λ r. headed_column V r.0 r.1 terms)
        (λ i r. headed_found r.0 i target r.1 terms (eq-eqb target x mine)) 0 (zip rows conds))
        ∙ ap (λ h. found (cells h)) (sym is)

    pub vector_found : (columns cs : List Cond) (targets xs : List ℕ) (terms es : List (List Term)) → grid ≡ Vector columns targets terms
        → cs ≡ columns → xs ≡ targets → es ≡ terms → o ≡ first_row (λ r. target_column V x r.0 cs r.1) (zip xs es) → IsFirst
    vector_found columns cs targets xs terms es is ec et ee first = first
        ∙ (λ i. first_row (λ r. target_column V x r.0 (ec i) r.1) (zip (et i) (ee i)))
        ∙ sym (rows_found
        (λ r. row_cells r.0 r.1.0 (zip (map (λ column. column ∷ []) columns) r.1.1)) (λ r. target_column V x r.0 columns r.1)
        (λ i r. target_found i r.0 columns r.1) 0 (zip targets terms))
        ∙ ap (λ h. found (cells h)) (sym is)

  pub none_found : (grid other : Grid) → grid ≡ other → (defines other x ≡ true → ⊥) → None ≡ found (cells grid)
  none_found grid other is never = ⊎_elim
      (λ defined. absurd (never defined))
      (λ not_so. sym (ap (λ cs. option_map place (find (cell_holds V) cs)) (no_cells x other not_so)) ∙ ap (λ h. found (cells h)) (sym is))
      (cases_Bool (defines other x))
