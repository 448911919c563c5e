-- The conditions and the term of each cell pass the tests that those of its table pass.
use Rattle.std.proofs.Common.{◌≡◌, refl, ℕ, ◌+◌, Bool, true, ◌&&◌, List, [], ◌∷◌, map}
use Rattle.std.specs.List.{list_all, flat_map, zip, enumerate_from}
use Rattle.std.proofs.lemmas.Bool.{and_parts, and_from}
use Rattle.ft_core.specs.declared.tables.Var.{Var}
use Rattle.ft_core.specs.declared.tables.Memory as tables
use Rattle.ft_core.specs.declared.tables.Grid.{Grid}
use Rattle.ft_core.specs.declared.tables.Grid.TheVariants.{Normal, Inverted, Vector}
use Rattle.ft_core.specs.declared.term.Term.{Term}
use Rattle.ft_core.specs.declared.term.Cond.{Cond}
use Rattle.ft_core.specs.meaning.Grids.{Cell, cells, row_cells}
use Rattle.ft_core.specs.checked.Size.{is_sized_term, is_sized, is_sized_grid}
use Rattle.ft_claims.proofs.Lists.{both_lists}

module _ (pc : Cond → Bool) (pt : Term → Bool) where
  abbrev pub CellOk : Cell → Bool
  CellOk cell = list_all pc cell.conds && pt cell.term

  row-ok : (n i target : ℕ) (r : Cond) (columns : List Cond) (es : List Term) → pc r ≡ true → list_all pc columns ≡ true → list_all pt es
      ≡ true
      → list_all CellOk (map (λ c. record { row = i; column = c.0; target = target; conds = c.1.0; term = c.1.1 })
      (enumerate_from n (zip (map (λ column. r ∷ column ∷ []) columns) es))) ≡ true
  row-ok n i target r [] es h k l = refl
  row-ok n i target r (c ∷ cs) [] h k l = refl
  row-ok n i target r (c ∷ cs) (e ∷ es) h k l =
      let ks = and_parts (pc c) (list_all pc cs) k in let ls = and_parts (pt e) (list_all pt es) l in
      and_from _ _ (and_from _ _ (and_from _ _ h (and_from _ _ ks.0 refl)) ls.0) (row-ok (n + 1) i target r cs es h ks.1 ls.1)

  bare-ok : (n i target : ℕ) (columns : List Cond) (es : List Term) → list_all pc columns ≡ true → list_all pt es ≡ true
      → list_all CellOk (map (λ c. record { row = i; column = c.0; target = target; conds = c.1.0; term = c.1.1 })
      (enumerate_from n (zip (map (λ column. column ∷ []) columns) es))) ≡ true
  bare-ok n i target [] es k l = refl
  bare-ok n i target (c ∷ cs) [] k l = refl
  bare-ok n i target (c ∷ cs) (e ∷ es) k l =
      let ks = and_parts (pc c) (list_all pc cs) k in let ls = and_parts (pt e) (list_all pt es) l in
      and_from _ _ (and_from _ _ (and_from _ _ ks.0 refl) ls.0) (bare-ok (n + 1) i target cs es ks.1 ls.1)

  pub normal-ok : (n target : ℕ) (columns rows : List Cond) (terms : List (List Term)) → list_all pc columns ≡ true → list_all pc rows ≡ true
      → list_all (list_all pt) terms ≡ true
      → list_all CellOk (flat_map (λ r. row_cells r.0 target (zip (map (λ column. r.1.0 ∷ column ∷ []) columns) r.1.1))
      (enumerate_from n (zip rows terms))) ≡ true
  normal-ok n target columns [] terms h k l = refl
  normal-ok n target columns (r ∷ rows) [] h k l = refl
  normal-ok n target columns (r ∷ rows) (es ∷ terms) h k l =
      let ks = and_parts (pc r) (list_all pc rows) k in let ls = and_parts (list_all pt es) (list_all (list_all pt) terms) l in
      both_lists CellOk (row_cells n target (zip (map (λ column. r ∷ column ∷ []) columns) es)) _
      (row-ok 0 n target r columns es ks.0 h ls.0) (normal-ok (n + 1) target columns rows terms h ks.1 ls.1)

  pub inverted-ok : (n target : ℕ) (terms : List Term) (rows : List Cond) (grid : List (List Cond)) → list_all pt terms ≡ true
      → list_all pc rows ≡ true → list_all (list_all pc) grid ≡ true
      → list_all CellOk (flat_map (λ r. row_cells r.0 target (zip (map (λ entry. r.1.0 ∷ entry ∷ []) r.1.1) terms))
      (enumerate_from n (zip rows grid))) ≡ true
  inverted-ok n target terms [] grid h k l = refl
  inverted-ok n target terms (r ∷ rows) [] h k l = refl
  inverted-ok n target terms (r ∷ rows) (cs ∷ grid) h k l =
      let ks = and_parts (pc r) (list_all pc rows) k in let ls = and_parts (list_all pc cs) (list_all (list_all pc) grid) l in
      both_lists CellOk (row_cells n target (zip (map (λ entry. r ∷ entry ∷ []) cs) terms)) _ (row-ok 0 n target r cs terms ks.0 ls.0 h)
      (inverted-ok (n + 1) target terms rows grid h ks.1 ls.1)

  pub vector-ok : (n : ℕ) (columns : List Cond) (targets : List ℕ) (terms : List (List Term)) → list_all pc columns ≡ true
      → list_all (list_all pt) terms ≡ true
      → list_all CellOk (flat_map (λ r. row_cells r.0 r.1.0 (zip (map (λ column. column ∷ []) columns) r.1.1))
      (enumerate_from n (zip targets terms))) ≡ true
  vector-ok n columns [] terms h l = refl
  vector-ok n columns (t ∷ targets) [] h l = refl
  vector-ok n columns (t ∷ targets) (es ∷ terms) h l =
      let ls = and_parts (list_all pt es) (list_all (list_all pt) terms) l in
      both_lists CellOk (row_cells n t (zip (map (λ column. column ∷ []) columns) es)) _ (bare-ok 0 n t columns es h ls.0)
      (vector-ok (n + 1) columns targets terms h ls.1)

pub sized_cells : (vars : List Var) (memories : List tables.Memory) (g : Grid) → is_sized_grid vars memories g ≡ true
    → list_all (CellOk (is_sized vars memories) (is_sized_term vars memories)) (cells g) ≡ true
sized_cells vars memories (Normal target columns rows terms) h =
    let a = and_parts (list_all (is_sized vars memories) columns && list_all (is_sized vars memories) rows)
    (list_all (list_all (is_sized_term vars memories)) terms) h in
    let b = and_parts (list_all (is_sized vars memories) columns) (list_all (is_sized vars memories) rows) a.0 in
    normal-ok (is_sized vars memories) (is_sized_term vars memories) 0 target columns rows terms b.0 b.1 a.1
sized_cells vars memories (Inverted target terms rows grid) h =
    let a = and_parts (list_all (is_sized_term vars memories) terms && list_all (is_sized vars memories) rows)
    (list_all (list_all (is_sized vars memories)) grid) h in
    let b = and_parts (list_all (is_sized_term vars memories) terms) (list_all (is_sized vars memories) rows) a.0 in
    inverted-ok (is_sized vars memories) (is_sized_term vars memories) 0 target terms rows grid b.0 b.1 a.1
sized_cells vars memories (Vector columns targets terms) h =
    let a = and_parts (list_all (is_sized vars memories) columns) (list_all (list_all (is_sized_term vars memories)) terms) h in
    vector-ok (is_sized vars memories) (is_sized_term vars memories) 0 columns targets terms a.0 a.1
