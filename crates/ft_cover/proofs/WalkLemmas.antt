-- The places of the cells of a table, made row by row.
use Rattle.std.proofs.Common.{◌≡◌, ◌∙◌, sym, ap, refl, ℕ, zero, suc, ◌+◌, ◌≤◌, Bool, true, false, ◌&&◌, cond, List, [], ◌∷◌, ◌++◌}
use Rattle.std.proofs.Common.{map, filter, length, take, Some, slice_get, arith, append_assoc, ⊎_elim, true≢false}
use Rattle.std.specs.Prelude.{min}
use Rattle.std.specs.List.{flat_map, zip, enumerate_from}
use Rattle.std.proofs.lemmas.Bool.{cases_Bool, cond-true, cond-false}
use Rattle.std.proofs.lemmas.List.{append-nil, map-append}
use Rattle.std.proofs.lemmas.List.Elements.{filter-append}
use Rattle.std.proofs.lemmas.Option.{none-some, same_Some}
use Rattle.ft_core.specs.declared.tables.Var.{Var}
use Rattle.ft_core.specs.declared.tables.Grid.{Grid}
use Rattle.ft_core.specs.declared.tables.Grid.TheVariants.{Normal, Inverted, Vector}
use Rattle.ft_core.specs.declared.term.Term.{Term}
use Rattle.ft_core.specs.declared.term.Cond.{Cond}
use Rattle.ft_core.specs.meaning.Grids.{Cell, cells, row_cells, numbered}
use Rattle.ft_mean.specs.meaning.Value.{View, truth}
use Rattle.ft_cover.specs.declared.placing.Wanted.{Wanted}
use Rattle.ft_cover.specs.building.Places.{is_wanted, is_sought, places_in, column_places, row_places, headed_places, normal_row}
use Rattle.ft_cover.specs.building.Places.{inverted_row, vector_row}
use Rattle.ft_cover.specs.meaning.Covered.{place_of}

flat-append : {A C : Type 0} (f : A → List C) (xs ys : List A) → flat_map f (xs ++ ys) ≡ flat_map f xs ++ flat_map f ys
flat-append f [] ys = refl
flat-append f (x ∷ xs) ys = ap (λ l. f x ++ l) (flat-append f xs ys) ∙ sym (append_assoc (f x) (flat_map f xs) (flat_map f ys))

-- one more place of two lists side by side, with its number
module _ {A B : Type 0} where
  more : (n : ℕ) (xs : List A) (ys : List B) (i : ℕ) (x : A) (y : B) → slice_get xs i ≡ Some x → slice_get ys i ≡ Some y
      → take (suc i) (enumerate_from n (zip xs ys)) ≡ take i (enumerate_from n (zip xs ys)) ++ (n + i, (x, y)) ∷ []
  more n [] ys i x y e f = absurd (none-some x e)
  more n (a ∷ xs) [] i x y e f = absurd (none-some y f)
  more n (a ∷ xs) (b ∷ ys) zero x y e f =
      let p = same_Some a x e in let q = same_Some b y f in let here : n ≡ n + 0 = omega arith in λ j. (here j, (p j, q j)) ∷ []
  more n (a ∷ xs) (b ∷ ys) (suc i) x y e f =
      let next : (n + 1) + i ≡ n + suc i = omega arith in
      ap (λ l. (n, (a, b)) ∷ l) (more (n + 1) xs ys i x y e f
      ∙ ap (λ k. take i (enumerate_from (n + 1) (zip xs ys)) ++ (k, (x, y)) ∷ []) next)

  all : (n : ℕ) (xs : List A) (ys : List B) (i : ℕ) → min (length xs) (length ys) ≤ i → take i (enumerate_from n (zip xs ys))
      ≡ enumerate_from n (zip xs ys)
  all n [] ys zero least = refl
  all n [] ys (suc i) least = refl
  all n (x ∷ xs) [] zero least = refl
  all n (x ∷ xs) [] (suc i) least = refl
  all n (x ∷ xs) (y ∷ ys) zero least = absurd (omega (arith, least))
  all n (x ∷ xs) (y ∷ ys) (suc i) least = ap (λ l. (n, (x, y)) ∷ l) (all (n + 1) xs ys i (omega (arith, least)))

  -- a step adds what stands at its place
  pub next : {C : Type 0} (f : ℕ × (A × B) → List C) (xs : List A) (ys : List B) (i : ℕ) (x : A) (y : B) (old mid new : List C)
      → slice_get xs i ≡ Some x → slice_get ys i ≡ Some y → mid ≡ old ++ flat_map f (take i (numbered (zip xs ys)))
      → new ≡ mid ++ f (i, (x, y)) → new ≡ old ++ flat_map f (take (i + 1) (numbered (zip xs ys)))
  next f xs ys i x y old mid new e g before made =
      let one : i + 1 ≡ suc i = omega arith in
      let same : 0 + i ≡ i = omega arith in
      made ∙ ap (λ l. l ++ f (i, (x, y))) before
      ∙ append_assoc old (flat_map f (take i (numbered (zip xs ys)))) (f (i, (x, y)))
      ∙ ap (λ l. old ++ l) (sym (ap (λ k. flat_map f (take k (numbered (zip xs ys)))) one
      ∙ ap (flat_map f) (more 0 xs ys i x y e g ∙ ap (λ k. take i (numbered (zip xs ys)) ++ (k, (x, y)) ∷ []) same)
      ∙ flat-append f (take i (numbered (zip xs ys))) ((i, (x, y)) ∷ [])
      ∙ ap (λ l. flat_map f (take i (numbered (zip xs ys))) ++ l) (append-nil (f (i, (x, y))))))

  pub ended : {C : Type 0} (f : ℕ × (A × B) → List C) (xs : List A) (ys : List B) (i : ℕ) (old new : List C)
      → min (length xs) (length ys) ≤ i → new ≡ old ++ flat_map f (take i (numbered (zip xs ys)))
      → new ≡ old ++ flat_map f (numbered (zip xs ys))
  ended f xs ys i old new least before = before ∙ ap (λ l. old ++ flat_map f l) (all 0 xs ys i least)

module _ (vars : List Var) (V : View) (wanted : Wanted) where
  one-cell : (cell : Cell) (cs : List Cell) → places_in vars V wanted (cell ∷ cs)
      ≡ cond (is_sought vars V wanted cell) (place_of cell ∷ []) [] ++ places_in vars V wanted cs
  one-cell cell cs = ⊎_elim
      (λ is. ap (map place_of) (cond-true (is_sought vars V wanted cell) (cell ∷ filter (is_sought vars V wanted) cs)
      (filter (is_sought vars V wanted) cs) is)
      ∙ sym (ap (λ l. l ++ places_in vars V wanted cs) (cond-true (is_sought vars V wanted cell) (place_of cell ∷ []) [] is)))
      (λ isnt. ap (map place_of) (cond-false (is_sought vars V wanted cell) (cell ∷ filter (is_sought vars V wanted) cs)
      (filter (is_sought vars V wanted) cs) isnt)
      ∙ sym (ap (λ l. l ++ places_in vars V wanted cs) (cond-false (is_sought vars V wanted cell) (place_of cell ∷ []) [] isnt)))
      (cases_Bool (is_sought vars V wanted cell))

  and_true : (a b : Bool) → ((a && true) && b) ≡ (a && b)
  and_true true b = refl
  and_true false b = refl

  -- the cells of a row with the conditions of their columns alone
  plain-row : (k row target : ℕ) (conds : List Cond) (terms : List Term)
      → places_in vars V wanted (map (λ c. record { row = row; column = c.0; target = target; conds = c.1.0; term = c.1.1 })
      (enumerate_from k (zip (map (λ column. column ∷ []) conds) terms)))
      ≡ flat_map (column_places vars V wanted target row) (enumerate_from k (zip conds terms))
  plain-row k row target [] terms = refl
  plain-row k row target (c ∷ conds) [] = refl
  plain-row k row target (c ∷ conds) (e ∷ terms) =
      one-cell (record { row = row; column = k; target = target; conds = c ∷ []; term = e }) _
      ∙ (λ i. cond (and_true (truth V c) (is_wanted vars V wanted target e) i) ((row + 1, k + 1) ∷ []) []
      ++ plain-row (k + 1) row target conds terms i)

  -- and with that of the row too
  and_head : (a b d : Bool) → a ≡ true → ((a && (b && true)) && d) ≡ (b && d)
  and_head true b d e = and_true b d
  and_head false b d e = absurd (true≢false (sym e))

  no_head : (a b d : Bool) → a ≡ false → ((a && (b && true)) && d) ≡ false
  no_head true b d e = absurd (true≢false e)
  no_head false b d e = refl

  held-row : (k row target : ℕ) (r : Cond) (conds : List Cond) (terms : List Term) → truth V r ≡ true
      → places_in vars V wanted (map (λ c. record { row = row; column = c.0; target = target; conds = c.1.0; term = c.1.1 })
      (enumerate_from k (zip (map (λ column. r ∷ column ∷ []) conds) terms)))
      ≡ flat_map (column_places vars V wanted target row) (enumerate_from k (zip conds terms))
  held-row k row target r [] terms is = refl
  held-row k row target r (c ∷ conds) [] is = refl
  held-row k row target r (c ∷ conds) (e ∷ terms) is =
      one-cell (record { row = row; column = k; target = target; conds = r ∷ c ∷ []; term = e }) _
      ∙ (λ i. cond (and_head (truth V r) (truth V c) (is_wanted vars V wanted target e) is i) ((row + 1, k + 1) ∷ []) []
      ++ held-row (k + 1) row target r conds terms is i)

  bare-row : (k row target : ℕ) (r : Cond) (conds : List Cond) (terms : List Term) → truth V r ≡ false
      → places_in vars V wanted (map (λ c. record { row = row; column = c.0; target = target; conds = c.1.0; term = c.1.1 })
      (enumerate_from k (zip (map (λ column. r ∷ column ∷ []) conds) terms))) ≡ []
  bare-row k row target r [] terms isnt = refl
  bare-row k row target r (c ∷ conds) [] isnt = refl
  bare-row k row target r (c ∷ conds) (e ∷ terms) isnt =
      one-cell (record { row = row; column = k; target = target; conds = r ∷ c ∷ []; term = e }) _
      ∙ (λ i. cond (no_head (truth V r) (truth V c) (is_wanted vars V wanted target e) isnt i) ((row + 1, k + 1) ∷ []) []
      ++ bare-row (k + 1) row target r conds terms isnt i)

  headed-row : (row target : ℕ) (r : Cond) (conds : List Cond) (terms : List Term)
      → places_in vars V wanted (row_cells row target (zip (map (λ column. r ∷ column ∷ []) conds) terms))
      ≡ headed_places vars V wanted target row r conds terms
  headed-row row target r conds terms = ⊎_elim
      (λ is. held-row 0 row target r conds terms is ∙ sym (cond-true (truth V r) (row_places vars V wanted target row conds terms) [] is))
      (λ isnt. bare-row 0 row target r conds terms isnt
      ∙ sym (cond-false (truth V r) (row_places vars V wanted target row conds terms) [] isnt))
      (cases_Bool (truth V r))

  places-append : (xs ys : List Cell) → places_in vars V wanted (xs ++ ys) ≡ places_in vars V wanted xs ++ places_in vars V wanted ys
  places-append xs ys = ap (map place_of) (filter-append (is_sought vars V wanted) xs ys)
      ∙ map-append place_of (filter (is_sought vars V wanted) xs) (filter (is_sought vars V wanted) ys)

  normal-rows : (n target : ℕ) (columns rows : List Cond) (terms : List (List Term))
      → places_in vars V wanted (flat_map (λ r. row_cells r.0 target (zip (map (λ column. r.1.0 ∷ column ∷ []) columns) r.1.1))
      (enumerate_from n (zip rows terms))) ≡ flat_map (normal_row vars V wanted target columns) (enumerate_from n (zip rows terms))
  normal-rows n target columns [] terms = refl
  normal-rows n target columns (r ∷ rows) [] = refl
  normal-rows n target columns (r ∷ rows) (es ∷ terms) =
      places-append (row_cells n target (zip (map (λ column. r ∷ column ∷ []) columns) es)) _
      ∙ (λ i. headed-row n target r columns es i ++ normal-rows (n + 1) target columns rows terms i)

  inverted-rows : (n target : ℕ) (terms : List Term) (rows : List Cond) (grid : List (List Cond))
      → places_in vars V wanted (flat_map (λ r. row_cells r.0 target (zip (map (λ entry. r.1.0 ∷ entry ∷ []) r.1.1) terms))
      (enumerate_from n (zip rows grid))) ≡ flat_map (inverted_row vars V wanted target terms) (enumerate_from n (zip rows grid))
  inverted-rows n target terms [] grid = refl
  inverted-rows n target terms (r ∷ rows) [] = refl
  inverted-rows n target terms (r ∷ rows) (cs ∷ grid) =
      places-append (row_cells n target (zip (map (λ column. r ∷ column ∷ []) cs) terms)) _
      ∙ (λ i. headed-row n target r cs terms i ++ inverted-rows (n + 1) target terms rows grid i)

  vector-rows : (n : ℕ) (columns : List Cond) (targets : List ℕ) (terms : List (List Term))
      → places_in vars V wanted (flat_map (λ r. row_cells r.0 r.1.0 (zip (map (λ column. column ∷ []) columns) r.1.1))
      (enumerate_from n (zip targets terms))) ≡ flat_map (vector_row vars V wanted columns) (enumerate_from n (zip targets terms))
  vector-rows n columns [] terms = refl
  vector-rows n columns (t ∷ targets) [] = refl
  vector-rows n columns (t ∷ targets) (es ∷ terms) =
      places-append (row_cells n t (zip (map (λ column. column ∷ []) columns) es)) _
      ∙ (λ i. plain-row 0 n t columns es i ++ vector-rows (n + 1) columns targets terms i)

  -- a table, by the slices that are lent of it
  pub normal-grid : (grid : Grid) (target : ℕ) (columns lent_columns rows lent_rows : List Cond) (terms lent_terms : List (List Term))
      (list : List (ℕ × ℕ)) → grid ≡ Normal target columns rows terms → lent_columns ≡ columns → lent_rows ≡ rows → lent_terms ≡ terms
      → list ≡ flat_map (normal_row vars V wanted target lent_columns) (numbered (zip lent_rows lent_terms))
      → list ≡ places_in vars V wanted (cells grid)
  normal-grid grid target columns lent_columns rows lent_rows terms lent_terms list is same_columns same_rows same_terms made =
      made ∙ (λ i. flat_map (normal_row vars V wanted target (same_columns i)) (numbered (zip (same_rows i) (same_terms i))))
      ∙ sym (normal-rows 0 target columns rows terms) ∙ ap (λ g. places_in vars V wanted (cells g)) (sym is)

  pub inverted-grid : (grid : Grid) (target : ℕ) (terms lent_terms : List Term) (rows lent_rows : List Cond)
      (entries lent_entries : List (List Cond))
      (list : List (ℕ × ℕ)) → grid ≡ Inverted target terms rows entries → lent_terms ≡ terms → lent_rows ≡ rows → lent_entries ≡ entries
      → list ≡ flat_map (inverted_row vars V wanted target lent_terms) (numbered (zip lent_rows lent_entries))
      → list ≡ places_in vars V wanted (cells grid)
  inverted-grid grid target terms lent_terms rows lent_rows entries lent_entries list is same_terms same_rows same_entries made =
      made ∙ (λ i. flat_map (inverted_row vars V wanted target (same_terms i)) (numbered (zip (same_rows i) (same_entries i))))
      ∙ sym (inverted-rows 0 target terms rows entries) ∙ ap (λ g. places_in vars V wanted (cells g)) (sym is)

  pub vector-grid : (grid : Grid) (columns lent_columns : List Cond) (targets lent_targets : List ℕ) (terms lent_terms : List (List Term))
      (list : List (ℕ × ℕ)) → grid ≡ Vector columns targets terms → lent_columns ≡ columns → lent_targets ≡ targets → lent_terms ≡ terms
      → list ≡ flat_map (vector_row vars V wanted lent_columns) (numbered (zip lent_targets lent_terms))
      → list ≡ places_in vars V wanted (cells grid)
  vector-grid grid columns lent_columns targets lent_targets terms lent_terms list is same_columns same_targets same_terms made =
      made ∙ (λ i. flat_map (vector_row vars V wanted (same_columns i)) (numbered (zip (same_targets i) (same_terms i))))
      ∙ sym (vector-rows 0 columns targets terms) ∙ ap (λ g. places_in vars V wanted (cells g)) (sym is)
