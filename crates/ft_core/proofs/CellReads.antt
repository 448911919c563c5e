-- What the cells for a variable read is what the table reads for it.
use Rattle.std.proofs.Common.{◌≡◌, ◌∙◌, sym, ap, subst, refl, ◌⊎◌, inl, inr, ⊎_elim, ℕ, ◌+◌, ◌<◌, Bool, true, false, cond, ◌&&◌, ◌||◌, List}
use Rattle.std.proofs.Common.{[], ◌∷◌, ◌++◌, map, length, arith}
use Rattle.std.specs.Prelude.{filter, ◌==◌, nat_lt}
use Rattle.std.specs.List.{Contains, flat_map, list_all, list_any, zip, enumerate_from}
use Rattle.std.proofs.lemmas.Bool.{and_parts, ltb-true, eqb-true, both_ways}
use Rattle.std.proofs.lemmas.List.Concat.{flat_map-append}
use Rattle.std.proofs.lemmas.List.Elements.{Contains-append_left, Contains-append_right, Contains-append_cases, filter-append}
use Rattle.ft_core.specs.declared.tables.Table.{Table}
use Rattle.ft_core.specs.declared.tables.Section.TheVariants as section
use Rattle.ft_core.specs.declared.tables.Grid.{Grid}
use Rattle.ft_core.specs.declared.tables.Grid.TheVariants.{Normal, Inverted, Vector}
use Rattle.ft_core.specs.declared.term.Term.{Term}
use Rattle.ft_core.specs.declared.term.Cond.{Cond}
use Rattle.ft_core.specs.walk.Gathering.{normal_reads, inverted_reads, row_reads, if_target, grid_reads_for, table_reads_for}
use Rattle.ft_core.specs.meaning.Grids.{Cell, row_cells, cells_for, defines, is_section, is_for, is_shaped}
use Rattle.ft_core.specs.meaning.Reads.{Read, term_reads, cond_reads, cell_reads}

-- what stands in a column of a row: the conditions and the term
abbrev Column : Type 0
Column = List Cond × Term

column_reads : Column → List Read
column_reads c = flat_map cond_reads c.0 ++ term_reads c.1

-- the columns of a row under a head, which is the row's condition or nothing
abbrev under : (head columns : List Cond) → List Term → List Column
under head columns es = zip (map (λ c. head ++ c ∷ []) columns) es

-- what the cells of these rows for x read: rows is what stands in each, by its target
module _ {Z : Type 0} (x : ℕ) (target : Z → ℕ) (columns : Z → List Column) where
  row-reads : (n i t : ℕ) (cs : List Column)
      → flat_map cell_reads (filter (λ c. c.target == x) (map (λ c. record
      { row = i; column = c.0; target = t; conds = c.1.0; term = c.1.1 }) (enumerate_from n cs)))
      ≡ if_target t (flat_map column_reads cs) x
  unfolding column_reads
  row-reads n i t [] = by_test (t == x)
    where
      by_test : (b : Bool) → ◌≡◌ {A = List Read} [] (cond b [] [])
      by_test true = refl
      by_test false = refl
  row-reads n i t (c ∷ cs) = by_test (t == x) _ (row-reads (n + 1) i t cs)
    where
      by_test : (b : Bool) (more : List Cell) → flat_map cell_reads more ≡ cond b (flat_map column_reads cs) []
          → flat_map cell_reads (cond b (record { row = i; column = n; target = t; conds = c.0; term = c.1 } ∷ more) more)
          ≡ cond b (column_reads c ++ flat_map column_reads cs) []
      by_test true more h = ap (λ (l : List Read). column_reads c ++ l) h
      by_test false more h = h

  rows-read : (n : ℕ) (zs : List Z)
      → flat_map cell_reads (filter (λ c. c.target == x) (flat_map (λ r. row_cells r.0 (target r.1) (columns r.1)) (enumerate_from n zs)))
      ≡ flat_map (λ z. if_target (target z) (flat_map column_reads (columns z)) x) zs
  rows-read n [] = refl
  rows-read n (z ∷ zs) =
      ap (flat_map cell_reads) (filter-append (λ (c : Cell). c.target == x) (row_cells n (target z) (columns z))
      (flat_map (λ r. row_cells r.0 (target r.1) (columns r.1)) (enumerate_from (n + 1) zs)))
      ∙ flat_map-append cell_reads (filter (λ (c : Cell). c.target == x) (row_cells n (target z) (columns z)))
      (filter (λ (c : Cell). c.target == x) (flat_map (λ r. row_cells r.0 (target r.1) (columns r.1)) (enumerate_from (n + 1) zs)))
      ∙ (λ i. row-reads 0 n (target z) (columns z) i ++ rows-read (n + 1) zs i)

-- the same target in all rows
one-target : {Z : Type 0} (x t : ℕ) (f : Z → List Read) (zs : List Z) → flat_map (λ z. if_target t (f z) x) zs
    ≡ if_target t (flat_map f zs) x
one-target {Z} x t f zs = by_test (t == x) zs
  where
    by_test : (b : Bool) (ys : List Z) → flat_map (λ z. cond b (f z) []) ys ≡ cond b (flat_map f ys) []
    by_test true [] = refl
    by_test false [] = refl
    by_test true (y ∷ ys) = ap (λ (l : List Read). f y ++ l) (by_test true ys)
    by_test false (y ∷ ys) = by_test false ys

module _ (r : Read) where
  abbrev In : List Read → Type 0
  In reads = Contains reads r

  none-in : In [] → ⊥
  none-in h = omega (arith, h.1)

  column-out : (head : List Cond) (c : Cond) (e : Term) → In (column_reads (head ++ c ∷ [], e)) → In (flat_map cond_reads head)
      ⊎ (In (cond_reads c) ⊎ In (term_reads e))
  unfolding column_reads
  column-out head c e h = ⊎_elim
      (λ (a : In (flat_map cond_reads (head ++ c ∷ []))). ⊎_elim (λ (b : In (flat_map cond_reads head)). inl b)
      (λ (b : In (cond_reads c ++ [])). inr (inl (⊎_elim (λ (d : In (cond_reads c)). d) (λ (d : In []). absurd (none-in d))
      (Contains-append_cases (cond_reads c) [] r b))))
      (Contains-append_cases (flat_map cond_reads head) (cond_reads c ++ []) r (subst In (flat_map-append cond_reads head (c ∷ [])) a)))
      (λ (b : In (term_reads e)). inr (inr b))
      (Contains-append_cases (flat_map cond_reads (head ++ c ∷ [])) (term_reads e) r h)

  column-head : (head : List Cond) (c : Cond) (e : Term) → In (flat_map cond_reads head) → In (column_reads (head ++ c ∷ [], e))
  unfolding column_reads
  column-head head c e h = Contains-append_left (flat_map cond_reads (head ++ c ∷ [])) (term_reads e) r
      (subst In (sym (flat_map-append cond_reads head (c ∷ []))) (Contains-append_left (flat_map cond_reads head) (cond_reads c ++ []) r h))

  column-cond : (head : List Cond) (c : Cond) (e : Term) → In (cond_reads c) → In (column_reads (head ++ c ∷ [], e))
  unfolding column_reads
  column-cond head c e h = Contains-append_left (flat_map cond_reads (head ++ c ∷ [])) (term_reads e) r
      (subst In (sym (flat_map-append cond_reads head (c ∷ []))) (Contains-append_right (flat_map cond_reads head) (cond_reads c ++ []) r
      (Contains-append_left (cond_reads c) [] r h)))

  column-term : (head : List Cond) (c : Cond) (e : Term) → In (term_reads e) → In (column_reads (head ++ c ∷ [], e))
  unfolding column_reads
  column-term head c e h = Contains-append_right (flat_map cond_reads (head ++ c ∷ [])) (term_reads e) r h

  -- a row under a head
  row-out : (head columns : List Cond) (es : List Term) → In (flat_map column_reads (under head columns es))
      → In (flat_map cond_reads head) ⊎ (In (flat_map cond_reads columns) ⊎ In (flat_map term_reads es))
  row-out head [] es h = absurd (none-in h)
  row-out head (c ∷ cs) [] h = absurd (none-in h)
  row-out head (c ∷ cs) (e ∷ es) h = elim (Contains-append_cases (column_reads (head ++ c ∷ [], e))
      (flat_map column_reads (under head cs es)) r h) [
        | inl here ↦ elim (column-out head c e here) [
          | inl a ↦ inl a
          | inr (inl b) ↦ inr (inl (Contains-append_left (cond_reads c) (flat_map cond_reads cs) r b))
          | inr (inr d) ↦ inr (inr (Contains-append_left (term_reads e) (flat_map term_reads es) r d))
        ]
        | inr more ↦ elim (row-out head cs es more) [
          | inl a ↦ inl a
          | inr (inl b) ↦ inr (inl (Contains-append_right (cond_reads c) (flat_map cond_reads cs) r b))
          | inr (inr d) ↦ inr (inr (Contains-append_right (term_reads e) (flat_map term_reads es) r d))
        ]
      ]

  row-head : (head columns : List Cond) (es : List Term) → 0 < length columns → length es ≡ length columns → In (flat_map cond_reads head)
      → In (flat_map column_reads (under head columns es))
  row-head head [] es some long h = absurd (omega (arith, some))
  row-head head (c ∷ cs) [] some long h = absurd (omega (arith, long))
  row-head head (c ∷ cs) (e ∷ es) some long h = Contains-append_left (column_reads (head ++ c ∷ [], e))
      (flat_map column_reads (under head cs es)) r (column-head head c e h)

  row-conds : (head columns : List Cond) (es : List Term) → length es ≡ length columns → In (flat_map cond_reads columns)
      → In (flat_map column_reads (under head columns es))
  row-conds head [] es long h = absurd (none-in h)
  row-conds head (c ∷ cs) [] long h = absurd (omega (arith, long))
  row-conds head (c ∷ cs) (e ∷ es) long h = ⊎_elim
      (λ here. Contains-append_left (column_reads (head ++ c ∷ [], e)) (flat_map column_reads (under head cs es)) r
      (column-cond head c e here))
      (λ more. Contains-append_right (column_reads (head ++ c ∷ [], e)) (flat_map column_reads (under head cs es)) r
      (row-conds head cs es (omega (arith, long)) more))
      (Contains-append_cases (cond_reads c) (flat_map cond_reads cs) r h)

  row-terms : (head columns : List Cond) (es : List Term) → length es ≡ length columns → In (flat_map term_reads es)
      → In (flat_map column_reads (under head columns es))
  row-terms head columns [] long h = absurd (none-in h)
  row-terms head [] (e ∷ es) long h = absurd (omega (arith, long))
  row-terms head (c ∷ cs) (e ∷ es) long h = ⊎_elim
      (λ here. Contains-append_left (column_reads (head ++ c ∷ [], e)) (flat_map column_reads (under head cs es)) r
      (column-term head c e here))
      (λ more. Contains-append_right (column_reads (head ++ c ∷ [], e)) (flat_map column_reads (under head cs es)) r
      (row-terms head cs es (omega (arith, long)) more))
      (Contains-append_cases (term_reads e) (flat_map term_reads es) r h)

  head-out : (q : Cond) → In (flat_map cond_reads (q ∷ [])) → In (cond_reads q)
  head-out q h = ⊎_elim (λ here. here) (λ more. absurd (none-in more)) (Contains-append_cases (cond_reads q) [] r h)

  head-in : (q : Cond) → In (cond_reads q) → In (flat_map cond_reads (q ∷ []))
  head-in q h = Contains-append_left (cond_reads q) [] r h

  -- the rows of a normal table
  module _ (columns : List Cond) where
    abbrev normal_row : Cond × List Term → List Read
    normal_row z = flat_map column_reads (under (z.0 ∷ []) columns z.1)

    normal-out : (rows : List Cond) (terms : List (List Term)) → In (flat_map normal_row (zip rows terms))
        → In (flat_map cond_reads columns) ⊎ (In (flat_map cond_reads rows) ⊎ In (flat_map (flat_map term_reads) terms))
    normal-out [] terms h = absurd (none-in h)
    normal-out (q ∷ rows) [] h = absurd (none-in h)
    normal-out (q ∷ rows) (es ∷ terms) h = elim (Contains-append_cases (normal_row (q, es)) (flat_map normal_row (zip rows terms)) r h) [
      | inl here ↦ elim (row-out (q ∷ []) columns es here) [
        | inl a ↦ inr (inl (Contains-append_left (cond_reads q) (flat_map cond_reads rows) r (head-out q a)))
        | inr (inl b) ↦ inl b
        | inr (inr d) ↦ inr (inr (Contains-append_left (flat_map term_reads es) (flat_map (flat_map term_reads) terms) r d))
      ]
      | inr more ↦ elim (normal-out rows terms more) [
        | inl a ↦ inl a
        | inr (inl b) ↦ inr (inl (Contains-append_right (cond_reads q) (flat_map cond_reads rows) r b))
        | inr (inr d) ↦ inr (inr (Contains-append_right (flat_map term_reads es) (flat_map (flat_map term_reads) terms) r d))
      ]
    ]

    abbrev full : List Term → Bool
    full es = length es == length columns

    normal-columns : (rows : List Cond) (terms : List (List Term)) → 0 < length rows → length terms ≡ length rows → list_all full terms
        ≡ true
        → In (flat_map cond_reads columns) → In (flat_map normal_row (zip rows terms))
    normal-columns [] terms some long all h = absurd (omega (arith, some))
    normal-columns (q ∷ rows) [] some long all h = absurd (omega (arith, long))
    normal-columns (q ∷ rows) (es ∷ terms) some long all h = let parts = and_parts (full es) (list_all full terms) all in
        Contains-append_left (normal_row (q, es)) (flat_map normal_row (zip rows terms)) r
        (row-conds (q ∷ []) columns es (eqb-true (length es) (length columns) parts.0) h)

    normal-rows : (rows : List Cond) (terms : List (List Term)) → 0 < length columns → length terms ≡ length rows → list_all full terms
        ≡ true
        → In (flat_map cond_reads rows) → In (flat_map normal_row (zip rows terms))
    normal-rows [] terms some long all h = absurd (none-in h)
    normal-rows (q ∷ rows) [] some long all h = absurd (omega (arith, long))
    normal-rows (q ∷ rows) (es ∷ terms) some long all h = let parts = and_parts (full es) (list_all full terms) all in ⊎_elim
        (λ here. Contains-append_left (normal_row (q, es)) (flat_map normal_row (zip rows terms)) r
        (row-head (q ∷ []) columns es some (eqb-true (length es) (length columns) parts.0) (head-in q here)))
        (λ more. Contains-append_right (normal_row (q, es)) (flat_map normal_row (zip rows terms)) r
        (normal-rows rows terms some (omega (arith, long)) parts.1 more))
        (Contains-append_cases (cond_reads q) (flat_map cond_reads rows) r h)

    normal-terms : (rows : List Cond) (terms : List (List Term)) → length terms ≡ length rows → list_all full terms ≡ true
        → In (flat_map (flat_map term_reads) terms) → In (flat_map normal_row (zip rows terms))
    normal-terms rows [] long all h = absurd (none-in h)
    normal-terms [] (es ∷ terms) long all h = absurd (omega (arith, long))
    normal-terms (q ∷ rows) (es ∷ terms) long all h = let parts = and_parts (full es) (list_all full terms) all in ⊎_elim
        (λ here. Contains-append_left (normal_row (q, es)) (flat_map normal_row (zip rows terms)) r
        (row-terms (q ∷ []) columns es (eqb-true (length es) (length columns) parts.0) here))
        (λ more. Contains-append_right (normal_row (q, es)) (flat_map normal_row (zip rows terms)) r
        (normal-terms rows terms (omega (arith, long)) parts.1 more))
        (Contains-append_cases (flat_map term_reads es) (flat_map (flat_map term_reads) terms) r h)

    -- the rows of a vector table, for x
    module _ (x : ℕ) where
      abbrev vector_row : ℕ × List Term → List Read
      vector_row z = if_target z.0 (flat_map column_reads (under [] columns z.1)) x

      abbrev own_row : ℕ × List Term → List Read
      own_row z = if_target z.0 (row_reads columns z.1) x

      one-out : (es : List Term) → In (flat_map column_reads (under [] columns es)) → In (row_reads columns es)
      one-out es h = elim (row-out [] columns es h) [
        | inl a ↦ absurd (none-in a)
        | inr (inl b) ↦ Contains-append_left (flat_map cond_reads columns) (flat_map term_reads es) r b
        | inr (inr d) ↦ Contains-append_right (flat_map cond_reads columns) (flat_map term_reads es) r d
      ]

      one-in : (es : List Term) → length es ≡ length columns → In (row_reads columns es) → In (flat_map column_reads (under [] columns es))
      one-in es long h = ⊎_elim (λ a. row-conds [] columns es long a) (λ b. row-terms [] columns es long b)
          (Contains-append_cases (flat_map cond_reads columns) (flat_map term_reads es) r h)

      target-both : (t : ℕ) (xs ys : List Read) → (In xs → In ys) → In (if_target t xs x) → In (if_target t ys x)
      target-both t xs ys f = by_test (t == x)
        where
          by_test : (b : Bool) → In (cond b xs []) → In (cond b ys [])
          by_test true h = f h
          by_test false h = h

      vector-out : (targets : List ℕ) (terms : List (List Term)) → In (flat_map vector_row (zip targets terms))
          → In (flat_map own_row (zip targets terms))
      vector-out [] terms h = h
      vector-out (t ∷ targets) [] h = h
      vector-out (t ∷ targets) (es ∷ terms) h = ⊎_elim
          (λ here. Contains-append_left (own_row (t, es)) (flat_map own_row (zip targets terms)) r
          (target-both t (flat_map column_reads (under [] columns es)) (row_reads columns es) (one-out es) here))
          (λ more. Contains-append_right (own_row (t, es)) (flat_map own_row (zip targets terms)) r (vector-out targets terms more))
          (Contains-append_cases (vector_row (t, es)) (flat_map vector_row (zip targets terms)) r h)

      vector-in : (targets : List ℕ) (terms : List (List Term)) → list_all full terms ≡ true → In (flat_map own_row (zip targets terms))
          → In (flat_map vector_row (zip targets terms))
      vector-in [] terms all h = h
      vector-in (t ∷ targets) [] all h = h
      vector-in (t ∷ targets) (es ∷ terms) all h = let parts = and_parts (full es) (list_all full terms) all in ⊎_elim
          (λ here. Contains-append_left (vector_row (t, es)) (flat_map vector_row (zip targets terms)) r
          (target-both t (row_reads columns es) (flat_map column_reads (under [] columns es))
          (one-in es (eqb-true (length es) (length columns) parts.0)) here))
          (λ more. Contains-append_right (vector_row (t, es)) (flat_map vector_row (zip targets terms)) r
          (vector-in targets terms parts.1 more))
          (Contains-append_cases (own_row (t, es)) (flat_map own_row (zip targets terms)) r h)

      -- only a variable that the table defines has a row
      vector-defines : (targets : List ℕ) (terms : List (List Term)) → In (flat_map own_row (zip targets terms))
          → list_any (λ t. t == x) targets ≡ true
      vector-defines [] terms h = absurd (none-in h)
      vector-defines (t ∷ targets) [] h = absurd (none-in h)
      vector-defines (t ∷ targets) (es ∷ terms) h = by_test (t == x) (Contains-append_cases (own_row (t, es))
          (flat_map own_row (zip targets terms)) r h) (vector-defines targets terms)
        where
          by_test : (b : Bool) → In (cond b (row_reads columns es) []) ⊎ In (flat_map own_row (zip targets terms))
              → (In (flat_map own_row (zip targets terms)) → list_any (λ t. t == x) targets ≡ true)
              → (b || list_any (λ t. t == x) targets) ≡ true
          by_test true h deeper = refl
          by_test false (inl h) deeper = absurd (none-in h)
          by_test false (inr h) deeper = deeper h

  -- the rows of an inverted table
  module _ (terms : List Term) where
    abbrev inverted_row : Cond × List Cond → List Read
    inverted_row z = flat_map column_reads (under (z.0 ∷ []) z.1 terms)

    inverted-out : (rows : List Cond) (grid : List (List Cond)) → In (flat_map inverted_row (zip rows grid))
        → In (flat_map term_reads terms) ⊎ (In (flat_map cond_reads rows) ⊎ In (flat_map (flat_map cond_reads) grid))
    inverted-out [] grid h = absurd (none-in h)
    inverted-out (q ∷ rows) [] h = absurd (none-in h)
    inverted-out (q ∷ rows) (cs ∷ grid) h = elim (Contains-append_cases (inverted_row (q, cs)) (flat_map inverted_row (zip rows grid)) r h) [
      | inl here ↦ elim (row-out (q ∷ []) cs terms here) [
        | inl a ↦ inr (inl (Contains-append_left (cond_reads q) (flat_map cond_reads rows) r (head-out q a)))
        | inr (inl b) ↦ inr (inr (Contains-append_left (flat_map cond_reads cs) (flat_map (flat_map cond_reads) grid) r b))
        | inr (inr d) ↦ inl d
      ]
      | inr more ↦ elim (inverted-out rows grid more) [
        | inl a ↦ inl a
        | inr (inl b) ↦ inr (inl (Contains-append_right (cond_reads q) (flat_map cond_reads rows) r b))
        | inr (inr d) ↦ inr (inr (Contains-append_right (flat_map cond_reads cs) (flat_map (flat_map cond_reads) grid) r d))
      ]
    ]

    abbrev filled : List Cond → Bool
    filled cs = length cs == length terms

    inverted-terms : (rows : List Cond) (grid : List (List Cond)) → 0 < length rows → length grid ≡ length rows → list_all filled grid
        ≡ true
        → In (flat_map term_reads terms) → In (flat_map inverted_row (zip rows grid))
    inverted-terms [] grid some long all h = absurd (omega (arith, some))
    inverted-terms (q ∷ rows) [] some long all h = absurd (omega (arith, long))
    inverted-terms (q ∷ rows) (cs ∷ grid) some long all h = let parts = and_parts (filled cs) (list_all filled grid) all in
        Contains-append_left (inverted_row (q, cs)) (flat_map inverted_row (zip rows grid)) r
        (row-terms (q ∷ []) cs terms (sym (eqb-true (length cs) (length terms) parts.0)) h)

    inverted-rows : (rows : List Cond) (grid : List (List Cond)) → 0 < length terms → length grid ≡ length rows → list_all filled grid
        ≡ true
        → In (flat_map cond_reads rows) → In (flat_map inverted_row (zip rows grid))
    inverted-rows [] grid some long all h = absurd (none-in h)
    inverted-rows (q ∷ rows) [] some long all h = absurd (omega (arith, long))
    inverted-rows (q ∷ rows) (cs ∷ grid) some long all h = let parts = and_parts (filled cs) (list_all filled grid) all in
        let same = eqb-true (length cs) (length terms) parts.0 in ⊎_elim
        (λ here. Contains-append_left (inverted_row (q, cs)) (flat_map inverted_row (zip rows grid)) r
        (row-head (q ∷ []) cs terms (omega (arith, some, same)) (sym same) (head-in q here)))
        (λ more. Contains-append_right (inverted_row (q, cs)) (flat_map inverted_row (zip rows grid)) r
        (inverted-rows rows grid some (omega (arith, long)) parts.1 more))
        (Contains-append_cases (cond_reads q) (flat_map cond_reads rows) r h)

    inverted-grid : (rows : List Cond) (grid : List (List Cond)) → length grid ≡ length rows → list_all filled grid ≡ true
        → In (flat_map (flat_map cond_reads) grid) → In (flat_map inverted_row (zip rows grid))
    inverted-grid rows [] long all h = absurd (none-in h)
    inverted-grid [] (cs ∷ grid) long all h = absurd (omega (arith, long))
    inverted-grid (q ∷ rows) (cs ∷ grid) long all h = let parts = and_parts (filled cs) (list_all filled grid) all in ⊎_elim
        (λ here. Contains-append_left (inverted_row (q, cs)) (flat_map inverted_row (zip rows grid)) r
        (row-conds (q ∷ []) cs terms (sym (eqb-true (length cs) (length terms) parts.0)) here))
        (λ more. Contains-append_right (inverted_row (q, cs)) (flat_map inverted_row (zip rows grid)) r
        (inverted-grid rows grid (omega (arith, long)) parts.1 more))
        (Contains-append_cases (flat_map cond_reads cs) (flat_map (flat_map cond_reads) grid) r h)

  -- both reads of a grid for x
  module _ (x : ℕ) where
    normal-is : (target : ℕ) (columns rows : List Cond) (terms : List (List Term))
        → flat_map cell_reads (cells_for x (Normal target columns rows terms))
        ≡ if_target target (flat_map (normal_row columns) (zip rows terms)) x
    normal-is target columns rows terms = rows-read x (λ z. target) (λ z. under (z.0 ∷ []) columns z.1) 0 (zip rows terms)
        ∙ one-target x target (normal_row columns) (zip rows terms)

    inverted-is : (target : ℕ) (terms : List Term) (rows : List Cond) (grid : List (List Cond))
        → flat_map cell_reads (cells_for x (Inverted target terms rows grid))
        ≡ if_target target (flat_map (inverted_row terms) (zip rows grid)) x
    inverted-is target terms rows grid = rows-read x (λ z. target) (λ z. under (z.0 ∷ []) z.1 terms) 0 (zip rows grid)
        ∙ one-target x target (inverted_row terms) (zip rows grid)

    vector-is : (columns : List Cond) (targets : List ℕ) (terms : List (List Term))
        → flat_map cell_reads (cells_for x (Vector columns targets terms))
        ≡ flat_map (vector_row columns x) (zip targets terms)
    vector-is columns targets terms = rows-read x (λ z. z.0) (λ z. under [] columns z.1) 0 (zip targets terms)

    three : (as' bs cs : List Read) → In as' ⊎ (In bs ⊎ In cs) → In (as' ++ bs ++ cs)
    three as' bs cs (inl h) = Contains-append_left (as' ++ bs) cs r (Contains-append_left as' bs r h)
    three as' bs cs (inr (inl h)) = Contains-append_left (as' ++ bs) cs r (Contains-append_right as' bs r h)
    three as' bs cs (inr (inr h)) = Contains-append_right (as' ++ bs) cs r h

    three-cases : (as' bs cs : List Read) → In (as' ++ bs ++ cs) → In as' ⊎ (In bs ⊎ In cs)
    three-cases as' bs cs h = elim (Contains-append_cases (as' ++ bs) cs r h) [
      | inl more ↦ elim (Contains-append_cases as' bs r more) [ inl a ↦ inl a | inr b ↦ inr (inl b) ]
      | inr c ↦ inr (inr c)
    ]

    -- what the cells read, the grid reads
    pub grid-out : (g : Grid) → In (flat_map cell_reads (cells_for x g)) → In (grid_reads_for x g)
    grid-out (Normal target columns rows terms) h = target-both columns x target (flat_map (normal_row columns) (zip rows terms))
        (normal_reads columns rows terms)
        (λ i. three (flat_map cond_reads columns) (flat_map cond_reads rows) (flat_map (flat_map term_reads) terms)
        (normal-out columns rows terms i))
        (subst In (normal-is target columns rows terms) h)
    grid-out (Inverted target terms rows grid) h = target-both [] x target (flat_map (inverted_row terms) (zip rows grid))
        (inverted_reads terms rows grid)
        (λ i. three (flat_map term_reads terms) (flat_map cond_reads rows) (flat_map (flat_map cond_reads) grid)
        (inverted-out terms rows grid i))
        (subst In (inverted-is target terms rows grid) h)
    grid-out (Vector columns targets terms) h = vector-out columns x targets terms (subst In (vector-is columns targets terms) h)

    -- some rows and columns, and as many entries as they ask for
    record Full (rows columns entries : ℕ) (all : Bool) : Type 0 where
      some_rows : 0 < rows
      some_columns : 0 < columns
      long : entries ≡ rows
      each : all ≡ true

    full-parts : (rows columns entries : ℕ) (all : Bool) → (nat_lt 0 rows && nat_lt 0 columns && entries == rows && all) ≡ true
        → Full rows columns entries all
    full-parts rows columns entries all h =
        let last = and_parts (nat_lt 0 rows && nat_lt 0 columns && entries == rows) all h in
        let long = and_parts (nat_lt 0 rows && nat_lt 0 columns) (entries == rows) last.0 in
        let some = and_parts (nat_lt 0 rows) (nat_lt 0 columns) long.0 in
        record {
          some_rows = ltb-true 0 rows some.0;
          some_columns = ltb-true 0 columns some.1;
          long = eqb-true entries rows long.1;
          each =
              last.1;
        }

    -- what a shaped grid reads, its cells read
    pub grid-in : (g : Grid) → is_shaped g ≡ true → In (grid_reads_for x g) → In (flat_map cell_reads (cells_for x g))
    grid-in (Normal target columns rows terms) shaped h =
        let f = full-parts (length rows) (length columns) (length terms) (list_all (full columns) terms) shaped in
        subst In (sym (normal-is target columns rows terms)) (target-both columns x target (normal_reads columns rows terms)
        (flat_map (normal_row columns) (zip rows terms))
        (λ i. elim (three-cases (flat_map cond_reads columns) (flat_map cond_reads rows) (flat_map (flat_map term_reads) terms) i) [
          | inl a ↦ normal-columns columns rows terms f.some_rows f.long f.each a
          | inr (inl b) ↦ normal-rows columns rows terms f.some_columns f.long f.each b
          | inr (inr c) ↦ normal-terms columns rows terms f.long f.each c
        ]) h)
    grid-in (Inverted target terms rows grid) shaped h =
        let f = full-parts (length rows) (length terms) (length grid) (list_all (filled terms) grid) shaped in
        subst In (sym (inverted-is target terms rows grid)) (target-both [] x target (inverted_reads terms rows grid)
        (flat_map (inverted_row terms) (zip rows grid))
        (λ i. elim (three-cases (flat_map term_reads terms) (flat_map cond_reads rows) (flat_map (flat_map cond_reads) grid) i) [
          | inl a ↦ inverted-terms terms rows grid f.some_rows f.long f.each a
          | inr (inl b) ↦ inverted-rows terms rows grid f.some_columns f.long f.each b
          | inr (inr c) ↦ inverted-grid terms rows grid f.long f.each c
        ]) h)
    grid-in (Vector columns targets terms) shaped h =
        let f = full-parts (length targets) (length columns) (length terms) (list_all (full columns) terms) shaped in
        subst In (sym (vector-is columns targets terms)) (vector-in columns x targets terms f.each h)

    -- a grid that reads something for x defines it
    grid-defines : (g : Grid) → In (grid_reads_for x g) → defines g x ≡ true
    grid-defines (Normal target columns rows terms) h = by_test (target == x) h
      where
        by_test : (b : Bool) → In (cond b (normal_reads columns rows terms) []) → b ≡ true
        by_test true h = refl
        by_test false h = absurd (none-in h)
    grid-defines (Inverted target terms rows grid) h = by_test (target == x) h
      where
        by_test : (b : Bool) → In (cond b (inverted_reads terms rows grid) []) → b ≡ true
        by_test true h = refl
        by_test false h = absurd (none-in h)
    grid-defines (Vector columns targets terms) h = vector-defines columns x targets terms h

    -- tables
    abbrev cell_table : Table → List Read
    cell_table t = cond (is_for section.Req x t || is_for section.Sof x t) (flat_map cell_reads (cells_for x t.grid)) []

    table-out : (t : Table) → In (cell_table t) → In (table_reads_for x t)
    table-out t = by_test (is_section t.section section.Req) (is_section t.section section.Sof) (defines t.grid x)
      where
        by_test : (a b d : Bool) → In (cond ((a && d) || (b && d)) (flat_map cell_reads (cells_for x t.grid)) [])
            → In (cond (a || b) (grid_reads_for x t.grid) [])
        by_test true b true h = grid-out t.grid h
        by_test true true false h = absurd (none-in h)
        by_test true false false h = absurd (none-in h)
        by_test false true true h = grid-out t.grid h
        by_test false true false h = absurd (none-in h)
        by_test false false d h = absurd (none-in h)

    table-in : (t : Table) → is_shaped t.grid ≡ true → In (table_reads_for x t) → In (cell_table t)
    table-in t shaped = by_test (is_section t.section section.Req) (is_section t.section section.Sof) (defines t.grid x)
        (grid-defines t.grid)
      where
        by_test : (a b d : Bool) → (In (grid_reads_for x t.grid) → d ≡ true) → In (cond (a || b) (grid_reads_for x t.grid) [])
            → In (cond ((a && d) || (b && d)) (flat_map cell_reads (cells_for x t.grid)) [])
        by_test true b true only h = grid-in t.grid shaped h
        by_test true b false only h = absurd (both_ways false refl (only h))
        by_test false true true only h = grid-in t.grid shaped h
        by_test false true false only h = absurd (both_ways false refl (only h))
        by_test false false d only h = absurd (none-in h)

    pub tables-out : (tables : List Table) → In (flat_map cell_table tables) → In (flat_map (table_reads_for x) tables)
    tables-out [] h = h
    tables-out (t ∷ ts) h = ⊎_elim
        (λ here. Contains-append_left (table_reads_for x t) (flat_map (table_reads_for x) ts) r (table-out t here))
        (λ more. Contains-append_right (table_reads_for x t) (flat_map (table_reads_for x) ts) r (tables-out ts more))
        (Contains-append_cases (cell_table t) (flat_map cell_table ts) r h)

    pub tables-in : (tables : List Table) → list_all (λ t. is_shaped t.grid) tables ≡ true → In (flat_map (table_reads_for x) tables)
        → In (flat_map cell_table tables)
    tables-in [] all h = h
    tables-in (t ∷ ts) all h = let parts = and_parts (is_shaped t.grid) (list_all (λ u. is_shaped u.grid) ts) all in ⊎_elim
        (λ here. Contains-append_left (cell_table t) (flat_map cell_table ts) r (table-in t parts.0 here))
        (λ more. Contains-append_right (cell_table t) (flat_map cell_table ts) r (tables-in ts parts.1 more))
        (Contains-append_cases (table_reads_for x t) (flat_map (table_reads_for x) ts) r h)
