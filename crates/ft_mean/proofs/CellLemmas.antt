-- The cells of a table: what they read, and the one that holds.
use Rattle.std.proofs.Common.{◌≡◌, ◌∙◌, sym, ap, subst, refl, ℕ, zero, suc, ◌+◌, ℤ, Bool, true, false, ◌&&◌, ◌||◌, cond, List, [], ◌∷◌}
use Rattle.std.proofs.Common.{◌++◌, map, length, slice_get, Some, arith, ⊎_elim, append-nil}
use Rattle.std.specs.Prelude.{⊤, filter, ◌==◌}
use Rattle.std.specs.List.{Contains, All, list_any, list_all, flat_map, zip, enumerate_from}
use Rattle.std.specs.Ordering.{int_eq}
use Rattle.std.proofs.lemmas.Bool.{cases_Bool, cond-true, cond-false, and_parts, or_left, or_right, eq-eqb, eqb-true, both_ways}
use Rattle.std.proofs.lemmas.List.Elements.{Contains-append_left, Contains-append_right, Contains-append_cases}
use Rattle.std.proofs.lemmas.Option.{none-some, same_Some}
use Rattle.ft_base.specs.Interval.{IsWithin}
use Rattle.ft_core.specs.declared.tables.Tables.{Tables}
use Rattle.ft_core.specs.declared.tables.Table.{Table}
use Rattle.ft_core.specs.declared.tables.Section.{Section}
use Rattle.ft_core.specs.declared.tables.Grid.{Grid}
use Rattle.ft_core.specs.declared.tables.Grid.TheVariants.{Normal, Inverted, Vector}
use Rattle.ft_core.specs.declared.term.Term.{Term}
use Rattle.ft_core.specs.declared.term.Cond.{Cond}
use Rattle.ft_core.specs.meaning.Grids.{Cell, row_cells, cells, cells_for, defines, is_section, is_for}
use Rattle.ft_core.specs.meaning.Reads.{Read, term_reads, cond_reads, grid_reads, cell_reads}
use Rattle.ft_mean.specs.meaning.Value.{View, value, truth}
use Rattle.ft_mean.specs.meaning.Cells.{cell_holds, holding, cells_of}
use Rattle.ft_mean.specs.meaning.Proper.{HasOneCell}
use Rattle.ft_mean.proofs.Agree.{Same, AllSame, same_value, same_truth}

-- P of each item
abbrev pub Each : {A : Type 0} → (A → Type 0) → List A → Type 0
Each P [] = ⊤
Each P (x ∷ xs) = P x × Each P xs

pub each_more : {A : Type 0} (P Q : A → Type 0) (xs : List A) → ((a : A) → P a → Q a) → Each P xs → Each Q xs
each_more P Q [] h p = tt
each_more P Q (x ∷ xs) h p = (h x p.0, each_more P Q xs h p.1)

pub each-append : {A : Type 0} (P : A → Type 0) (xs ys : List A) → Each P xs → Each P ys → Each P (xs ++ ys)
each-append P [] ys p q = q
each-append P (x ∷ xs) ys p q = (p.0, each-append P xs ys p.1 q)

pub each-filter : {A : Type 0} (P : A → Type 0) (test : A → Bool) (xs : List A) → Each P xs → Each P (filter test xs)
each-filter P test [] p = tt
each-filter P test (x ∷ xs) p =
    elim (test x) as (λ b. Each P (cond b (x ∷ filter test xs) (filter test xs))) [
      | true ↦ (p.0, each-filter P test xs p.1)
      | false ↦ each-filter P test xs p.1
    ]

-- a test of all that a list reads, item by item
module _ (P : Read → Type 0) where
  abbrev pub AllOf : List Read → Type 0
  AllOf reads = (r : Read) → Contains reads r → P r

  pub each_reads : {A : Type 0} (f : A → List Read) (xs : List A) → AllOf (flat_map f xs) → Each (λ x. AllOf (f x)) xs
  each_reads f [] h = tt
  each_reads f (x ∷ xs) h = (
    λ r c. h r (Contains-append_left (f x) (flat_map f xs) r c),
    each_reads f xs (λ r c. h r (Contains-append_right (f x) (flat_map f xs) r c)),
  )

  both_read : (xs ys : List Read) → AllOf xs → AllOf ys → AllOf (xs ++ ys)
  both_read xs ys p q r c = ⊎_elim (λ l. p r l) (λ l. q r l) (Contains-append_cases xs ys r c)

  pub reads_each : {A : Type 0} (f : A → List Read) (xs : List A) → Each (λ x. AllOf (f x)) xs → AllOf (flat_map f xs)
  reads_each f [] h r c = absurd (omega (arith, c.1))
  reads_each f (x ∷ xs) h r c = both_read (f x) (flat_map f xs) h.0 (reads_each f xs h.1) r c

  left : (xs ys : List Read) → AllOf (xs ++ ys) → AllOf xs
  left xs ys h r c = h r (Contains-append_left xs ys r c)

  right : (xs ys : List Read) → AllOf (xs ++ ys) → AllOf ys
  right xs ys h r c = h r (Contains-append_right xs ys r c)

  abbrev OfCond : Cond → Type 0
  OfCond c = AllOf (cond_reads c)

  abbrev OfTerm : Term → Type 0
  OfTerm e = AllOf (term_reads e)

  abbrev pub OfCell : Cell → Type 0
  OfCell cell = AllOf (cell_reads cell)

  term_rows : (rows : List (List Term)) → AllOf (flat_map (flat_map term_reads) rows) → Each (Each OfTerm) rows
  term_rows rows h = each_more (λ es. AllOf (flat_map term_reads es)) (Each OfTerm) rows (λ es. each_reads term_reads es)
      (each_reads (flat_map term_reads) rows h)

  cond_rows : (rows : List (List Cond)) → AllOf (flat_map (flat_map cond_reads) rows) → Each (Each OfCond) rows
  cond_rows rows h = each_more (λ cs. AllOf (flat_map cond_reads cs)) (Each OfCond) rows (λ cs. each_reads cond_reads cs)
      (each_reads (flat_map cond_reads) rows h)

  -- the cells of one row
  row_reads : (n i target : ℕ) (columns : List (List Cond × Term)) → Each (λ c. Each OfCond c.0 × OfTerm c.1) columns
      → Each OfCell (map (λ c. record { row = i; column = c.0; target = target; conds = c.1.0; term = c.1.1 }) (enumerate_from n columns))
  row_reads n i target [] h = tt
  row_reads n i target (c ∷ cs) h =
      (both_read (flat_map cond_reads c.0) (term_reads c.1) (reads_each cond_reads c.0 h.0.0) h.0.1, row_reads (n + 1) i target cs h.1)

  normal_columns : (r : Cond) → OfCond r → (columns : List Cond) (es : List Term) → Each OfCond columns → Each OfTerm es
      → Each (λ c. Each OfCond c.0 × OfTerm c.1) (zip (map (λ column. r ∷ column ∷ []) columns) es)
  normal_columns r hr [] es hc he = tt
  normal_columns r hr (c ∷ cs) [] hc he = tt
  normal_columns r hr (c ∷ cs) (e ∷ es) hc he = (((hr, (hc.0, tt)), he.0), normal_columns r hr cs es hc.1 he.1)

  vector_columns : (columns : List Cond) (es : List Term) → Each OfCond columns → Each OfTerm es
      → Each (λ c. Each OfCond c.0 × OfTerm c.1) (zip (map (λ column. column ∷ []) columns) es)
  vector_columns [] es hc he = tt
  vector_columns (c ∷ cs) [] hc he = tt
  vector_columns (c ∷ cs) (e ∷ es) hc he = (((hc.0, tt), he.0), vector_columns cs es hc.1 he.1)

  normal_reads : (n target : ℕ) (columns rows : List Cond) (terms : List (List Term)) → Each OfCond columns → Each OfCond rows
      → Each (Each OfTerm) terms
      → Each OfCell (flat_map (λ r. row_cells r.0 target (zip (map (λ column. r.1.0 ∷ column ∷ []) columns) r.1.1))
      (enumerate_from n (zip rows terms)))
  normal_reads n target columns [] terms hc hr ht = tt
  normal_reads n target columns (r ∷ rows) [] hc hr ht = tt
  normal_reads n target columns (r ∷ rows) (es ∷ terms) hc hr ht = each-append OfCell
      (row_cells n target (zip (map (λ column. r ∷ column ∷ []) columns) es)) _
      (row_reads 0 n target _ (normal_columns r hr.0 columns es hc ht.0))
      (normal_reads (n + 1) target columns rows terms hc hr.1 ht.1)

  inverted_reads : (n target : ℕ) (terms : List Term) (rows : List Cond) (grid : List (List Cond)) → Each OfTerm terms → Each OfCond rows
      → Each (Each OfCond) grid
      → Each OfCell (flat_map (λ r. row_cells r.0 target (zip (map (λ entry. r.1.0 ∷ entry ∷ []) r.1.1) terms))
      (enumerate_from n (zip rows grid)))
  inverted_reads n target terms [] grid ht hr hg = tt
  inverted_reads n target terms (r ∷ rows) [] ht hr hg = tt
  inverted_reads n target terms (r ∷ rows) (cs ∷ grid) ht hr hg = each-append OfCell
      (row_cells n target (zip (map (λ entry. r ∷ entry ∷ []) cs) terms)) _
      (row_reads 0 n target _ (normal_columns r hr.0 cs terms hg.0 ht))
      (inverted_reads (n + 1) target terms rows grid ht hr.1 hg.1)

  vector_reads : (n : ℕ) (columns : List Cond) (targets : List ℕ) (terms : List (List Term)) → Each OfCond columns
      → Each (Each OfTerm) terms
      → Each OfCell (flat_map (λ r. row_cells r.0 r.1.0 (zip (map (λ column. column ∷ []) columns) r.1.1))
      (enumerate_from n (zip targets terms)))
  vector_reads n columns [] terms hc ht = tt
  vector_reads n columns (x ∷ targets) [] hc ht = tt
  vector_reads n columns (x ∷ targets) (es ∷ terms) hc ht = each-append OfCell
      (row_cells n x (zip (map (λ column. column ∷ []) columns) es)) _
      (row_reads 0 n x _ (vector_columns columns es hc ht.0))
      (vector_reads (n + 1) columns targets terms hc ht.1)

  -- what holds of all that a table reads holds of all that its cells read
  pub cells_read : (g : Grid) → AllOf (grid_reads g) → Each OfCell (cells g)
  cells_read (Normal target columns rows terms) h =
      let heads = left (flat_map cond_reads columns ++ flat_map cond_reads rows) (flat_map (flat_map term_reads) terms) h in
      normal_reads 0 target columns rows terms
      (each_reads cond_reads columns (left (flat_map cond_reads columns) (flat_map cond_reads rows) heads))
      (each_reads cond_reads rows (right (flat_map cond_reads columns) (flat_map cond_reads rows) heads))
      (term_rows terms (right (flat_map cond_reads columns ++ flat_map cond_reads rows) (flat_map (flat_map term_reads) terms) h))
  cells_read (Inverted target terms rows grid) h =
      let heads = left (flat_map term_reads terms ++ flat_map cond_reads rows) (flat_map (flat_map cond_reads) grid) h in
      inverted_reads 0 target terms rows grid
      (each_reads term_reads terms (left (flat_map term_reads terms) (flat_map cond_reads rows) heads))
      (each_reads cond_reads rows (right (flat_map term_reads terms) (flat_map cond_reads rows) heads))
      (cond_rows grid (right (flat_map term_reads terms ++ flat_map cond_reads rows) (flat_map (flat_map cond_reads) grid) h))
  cells_read (Vector columns targets terms) h =
      vector_reads 0 columns targets terms
      (each_reads cond_reads columns (left (flat_map cond_reads columns) (flat_map (flat_map term_reads) terms) h))
      (term_rows terms (right (flat_map cond_reads columns) (flat_map (flat_map term_reads) terms) h))

-- what the cells for a variable read, the table reads
pub own_reads : (g : Grid) (x : ℕ) (r : Read) → Contains (flat_map cell_reads (cells_for x g)) r → Contains (grid_reads g) r
own_reads g x = reads_each (Contains (grid_reads g)) cell_reads (cells_for x g)
    (each-filter (OfCell (Contains (grid_reads g))) (λ c. c.target == x) (cells g) (cells_read (Contains (grid_reads g)) g (λ r c. c)))

module _ (V W : View) where
  -- the two views see the conditions of a cell, and its term, alike
  abbrev pub SameCell : Cell → Type 0
  SameCell cell = (cell_holds V cell ≡ cell_holds W cell) × (value V cell.term ≡ value W cell.term)

  pub all_alike : (conds : List Cond) → AllSame V W (flat_map cond_reads conds) → list_all (truth V) conds ≡ list_all (truth W) conds
  all_alike [] h = refl
  all_alike (c ∷ cs) h =
      let here = same_truth V W c (left (Same V W) (cond_reads c) (flat_map cond_reads cs) h) in
      let more = all_alike cs (right (Same V W) (cond_reads c) (flat_map cond_reads cs) h) in λ i. here i && more i

  -- views that agree on what cells read see each of them alike
  pub cells_alike : (cs : List Cell) → AllSame V W (flat_map cell_reads cs) → Each SameCell cs
  cells_alike cs h = each_more (OfCell (Same V W)) SameCell cs
      (λ c same. (
        all_alike c.conds (left (Same V W) (flat_map cond_reads c.conds) (term_reads c.term) same),
        same_value V W c.term (right (Same V W) (flat_map cond_reads c.conds) (term_reads c.term) same),
      ))
      (each_reads (Same V W) cell_reads cs h)

  -- so they find the same value among them
  pub same_defined : (z : ℤ) (cells : List Cell) → Each SameCell cells
      → list_any (λ c. int_eq z (value V c.term)) (holding V cells) ≡ list_any (λ c. int_eq z (value W c.term)) (holding W cells)
  same_defined z [] h = refl
  same_defined z (c ∷ cs) h =
      let more = same_defined z cs h.1 in
      let same = h.0.0 in
      let values = h.0.1 in
      elim (cell_holds W c) as (λ b. (e : cell_holds V c ≡ b) →
      list_any (λ d. int_eq z (value V d.term)) (cond (cell_holds V c) (c ∷ holding V cs) (holding V cs))
      ≡ list_any (λ d. int_eq z (value W d.term)) (cond b (c ∷ holding W cs) (holding W cs))) [
        | true ↦ λ e. ap (list_any (λ d. int_eq z (value V d.term))) (cond-true (cell_holds V c) (c ∷ holding V cs) (holding V cs) e)
            ∙ (λ i. int_eq z (values i) || more i)
        | false ↦ λ e. ap (list_any (λ d. int_eq z (value V d.term))) (cond-false (cell_holds V c) (c ∷ holding V cs) (holding V cs) e)
            ∙ more
      ] same

-- the one cell that holds
pub record OneCell (V : View) (cells : List Cell) (range : ℤ × ℤ) : Type 0 where
  pub cell : Cell
  pub is : holding V cells ≡ cell ∷ []
  pub in_range : IsWithin range (value V cell.term)

one_of : (V : View) (range : ℤ × ℤ) (cs held : List Cell) → holding V cs ≡ held → length held ≡ 1
    → All (λ c. IsWithin range (value V c.term)) held → OneCell V cs range
one_of V range cs [] is one all = absurd (omega (arith, one))
one_of V range cs (c ∷ []) is one all = record { cell = c; is = is; in_range = all 0 c (omega arith) }
one_of V range cs (c ∷ d ∷ rest) is one all = absurd (omega (arith, one))

pub one_cell : (V : View) (cs : List Cell) (range : ℤ × ℤ) → HasOneCell V cs range → OneCell V cs range
one_cell V cs range h = one_of V range cs (holding V cs) refl h.one h.in_range

each_at : {A : Type 0} (P : A → Type 0) (xs : List A) → ((i : ℕ) (x : A) → slice_get xs i ≡ Some x → P x) → Each P xs
each_at P [] h = tt
each_at P (x ∷ xs) h = (h zero x refl, each_at P xs (λ i y e. h (suc i) y e))

filter_none : {A : Type 0} (test : A → Bool) (xs : List A) → Each (λ a. test a ≡ false) xs → filter test xs ≡ []
filter_none test [] p = refl
filter_none test (x ∷ xs) p = cond-false (test x) (x ∷ filter test xs) (filter test xs) p.0 ∙ filter_none test xs p.1

-- each cell is for a variable that the table defines
module _ (test : ℕ → Bool) where
  abbrev Defined : Cell → Type 0
  Defined c = test c.target ≡ true

  row_defined : (n i target : ℕ) (columns : List (List Cond × Term)) → test target ≡ true
      → Each Defined (map (λ c. record { row = i; column = c.0; target = target; conds = c.1.0; term = c.1.1 }) (enumerate_from n columns))
  row_defined n i target [] is = tt
  row_defined n i target (c ∷ cs) is = (is, row_defined (n + 1) i target cs is)

  normal_defined : (n target : ℕ) (columns rows : List Cond) (terms : List (List Term)) → test target ≡ true
      → Each Defined (flat_map (λ r. row_cells r.0 target (zip (map (λ column. r.1.0 ∷ column ∷ []) columns) r.1.1))
      (enumerate_from n (zip rows terms)))
  normal_defined n target columns [] terms is = tt
  normal_defined n target columns (r ∷ rows) [] is = tt
  normal_defined n target columns (r ∷ rows) (es ∷ terms) is = each-append Defined
      (row_cells n target (zip (map (λ column. r ∷ column ∷ []) columns) es)) _ (row_defined 0 n target _ is)
      (normal_defined (n + 1) target columns rows terms is)

  inverted_defined : (n target : ℕ) (terms : List Term) (rows : List Cond) (grid : List (List Cond)) → test target ≡ true
      → Each Defined (flat_map (λ r. row_cells r.0 target (zip (map (λ entry. r.1.0 ∷ entry ∷ []) r.1.1) terms))
      (enumerate_from n (zip rows grid)))
  inverted_defined n target terms [] grid is = tt
  inverted_defined n target terms (r ∷ rows) [] is = tt
  inverted_defined n target terms (r ∷ rows) (cs ∷ grid) is = each-append Defined
      (row_cells n target (zip (map (λ entry. r ∷ entry ∷ []) cs) terms)) _ (row_defined 0 n target _ is)
      (inverted_defined (n + 1) target terms rows grid is)

  vector_defined : (n : ℕ) (columns : List Cond) (targets : List ℕ) (terms : List (List Term)) → Each (λ target. test target ≡ true) targets
      → Each Defined (flat_map (λ r. row_cells r.0 r.1.0 (zip (map (λ column. column ∷ []) columns) r.1.1))
      (enumerate_from n (zip targets terms)))
  vector_defined n columns [] terms is = tt
  vector_defined n columns (x ∷ targets) [] is = tt
  vector_defined n columns (x ∷ targets) (es ∷ terms) is = each-append Defined
      (row_cells n x (zip (map (λ column. column ∷ []) columns) es)) _ (row_defined 0 n x _ is.0)
      (vector_defined (n + 1) columns targets terms is.1)

any_at : (targets : List ℕ) (i x : ℕ) → slice_get targets i ≡ Some x → list_any (λ target. target == x) targets ≡ true
any_at [] i x e = absurd (none-some x e)
any_at (y ∷ ys) zero x e = or_left (y == x) (list_any (λ target. target == x) ys) (eq-eqb y x (same_Some y x e))
any_at (y ∷ ys) (suc i) x e = or_right (y == x) (list_any (λ target. target == x) ys) (any_at ys i x e)

cells_defined : (g : Grid) → Each (λ c. defines g c.target ≡ true) (cells g)
cells_defined (Normal target columns rows terms) = normal_defined (λ x. target == x) 0 target columns rows terms (eq-eqb target target refl)
cells_defined (Inverted target terms rows grid) = inverted_defined (λ x. target == x) 0 target terms rows grid (eq-eqb target target refl)
cells_defined (Vector columns targets terms) =
    vector_defined (λ x. list_any (λ target. target == x) targets) 0 columns targets terms
    (each_at _ targets (λ i x e. any_at targets i x e))

-- a table that doesn't define a variable has no cell for it
pub no_cells : (x : ℕ) (g : Grid) → defines g x ≡ false → cells_for x g ≡ []
no_cells x g never = filter_none (λ c. c.target == x) (cells g) (each_more (λ c. defines g c.target ≡ true) (λ c. (c.target == x) ≡ false)
    (cells g)
    (λ c it. ⊎_elim
    (λ same. absurd (both_ways (defines g x) never (subst (λ y. defines g y ≡ true) (eqb-true c.target x same) it)))
    (λ differs. differs) (cases_Bool (c.target == x)))
    (cells_defined g))

-- where one item alone passes a test, and every other gives nothing, all give what this one does
only_at : {A B : Type 0} (test : A → Bool) (give : A → List B) (xs : List A) (k : ℕ) (x : A) → slice_get xs k ≡ Some x
    → ((l : ℕ) (a : A) → slice_get xs l ≡ Some a → test a ≡ true → l ≡ k) → ((a : A) → test a ≡ false → give a ≡ []) → flat_map give xs
    ≡ give x
only_at test give [] k x e one none = absurd (none-some x e)
only_at test give (a ∷ xs) zero x e one none =
    (λ i. give a ++ rest i) ∙ append-nil (give a) ∙ ap give (same_Some a x e)
  where
    gone : {A B : Type 0} (test : A → Bool) (give : A → List B) (xs : List A)
        → ((l : ℕ) (a : A) → slice_get xs l ≡ Some a → test a ≡ true → ⊥)
        → ((a : A) → test a ≡ false → give a ≡ []) → flat_map give xs ≡ []
    gone test give [] never none = refl
    gone test give (b ∷ ys) never none =
        let here = none b (⊎_elim (λ is_so. absurd (never zero b refl is_so)) (λ other. other) (cases_Bool (test b))) in
        let more = gone test give ys (λ l c is. never (suc l) c is) none in
        λ i. here i ++ more i

    rest : flat_map give xs ≡ []
    rest = gone test give xs (λ l b is is_so. absurd (omega (arith, one (suc l) b is is_so))) none
only_at test give (a ∷ xs) (suc k) x e one none =
    let here = none a (⊎_elim (λ is_so. absurd (omega (arith, one zero a refl is_so))) (λ other. other) (cases_Bool (test a))) in
    (λ i. here i ++ flat_map give xs) ∙ only_at test give xs k x e (λ l b is is_so. omega (arith, one (suc l) b is is_so)) none

-- the cells for a variable are those of its one table
pub cells_of-is : (S : Tables) (section : Section) (x k : ℕ) (table : Table) → slice_get S.tables k ≡ Some table
    → is_for section x table ≡ true → ((l : ℕ) (a : Table) → slice_get S.tables l ≡ Some a → is_for section x a ≡ true → l ≡ k)
    → cells_of S section x ≡ cells_for x table.grid
cells_of-is S section x k table there is one =
    only_at (is_for section x) (λ t. cond (is_section t.section section) (cells_for x t.grid) []) S.tables k table there one
    (λ a other. nothing a other)
    ∙ cond-true (is_section table.section section) (cells_for x table.grid) []
    (and_parts (is_section table.section section) (defines table.grid x) is).0
  where
    nothing : (a : Table) → is_for section x a ≡ false → cond (is_section a.section section) (cells_for x a.grid) [] ≡ []
    nothing a other = ⊎_elim
        (λ is_so. cond-true (is_section a.section section) (cells_for x a.grid) [] is_so
        ∙ no_cells x a.grid (sym (λ i. is_so i && defines a.grid x) ∙ other))
        (λ elsewhere. cond-false (is_section a.section section) (cells_for x a.grid) [] elsewhere)
        (cases_Bool (is_section a.section section))
