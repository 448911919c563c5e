-- How many cells of a table for a variable hold, by the claims of no cell and of two.
use Rattle.std.proofs.Common.{◌≡◌, ◌∙◌, sym, ap, refl, ℕ, suc, ◌+◌, ◌*◌, ℤ, Bool, true, false, not, ◌==◌, cond, List, [], ◌∷◌, ◌++◌, map}
use Rattle.std.proofs.Common.{filter, length, arith, ⊎_elim}
use Rattle.std.specs.Prelude.{nat_le}
use Rattle.std.specs.List.{list_all, flat_map, zip, enumerate_from}
use Rattle.std.proofs.lemmas.Bool.{cases_Bool, cond-true, cond-false, and_parts, and_from}
use Rattle.std.proofs.Math.Nat.{suc-mul, one-mul}
use Rattle.ft_core.specs.declared.tables.Tables.{Tables}
use Rattle.ft_core.specs.declared.tables.Grid.{Grid}
use Rattle.ft_core.specs.declared.tables.Grid.TheVariants.{Normal, Inverted, Vector}
use Rattle.ft_core.specs.declared.term.Term.{Term}
use Rattle.ft_core.specs.declared.term.Cond.{Cond}
use Rattle.ft_core.specs.meaning.Grids.{Cell, cells, cells_for, row_cells, defines}
use Rattle.ft_mean.specs.meaning.Cells.{cell_holds}
use Rattle.ft_mean.specs.meaning.Value.{View, truth}
use Rattle.ft_claims.specs.meaning.Claims.{claim_true}
use Rattle.ft_claims.specs.meaning.Names.{Frame, view}
use Rattle.ft_claims.specs.meaning.Coverage.{gap_node, overlap_node}
use Rattle.ft_claims.specs.laws.Equations.{true-Not}
use Rattle.ft_claims.proofs.CoverageLemmas.{count, count-cons, count-append, AreLong, gap_says, some-claims, two-claims, vector-count}
use Rattle.ft_claims.proofs.CoverageLemmas.{normal_overlap, inverted_overlap}
use Rattle.ft_claims.proofs.Lists.{both_lists}

-- a filter that all pass changes no count
count-passed : {A : Type 0} (p q : A → Bool) (xs : List A) → list_all q xs ≡ true → count p (filter q xs) ≡ count p xs
count-passed p q [] h = refl
count-passed p q (x ∷ xs) h =
    let both = and_parts (q x) (list_all q xs) h in
    let more = count-passed p q xs both.1 in
    let here = count-cons p x (filter q xs) in let there = count-cons p x xs in
    ap (count p) (cond-true (q x) (x ∷ filter q xs) (filter q xs) both.0) ∙ omega (arith, more, here, there)

count-refused : {A : Type 0} (p q : A → Bool) (xs : List A) → list_all (λ x. not (q x)) xs ≡ true → count p (filter q xs) ≡ 0
count-refused p q [] h = refl
count-refused p q (x ∷ xs) h =
    let both = and_parts (not (q x)) (list_all (λ x. not (q x)) xs) h in
    ap (count p) (cond-false (q x) (x ∷ filter q xs) (filter q xs) (not_true (q x) both.0)) ∙ count-refused p q xs both.1
  where
    not_true : (b : Bool) → not b ≡ true → b ≡ false
    not_true true e = sym e
    not_true false e = refl

filter-append : {A : Type 0} (q : A → Bool) (xs ys : List A) → filter q (xs ++ ys) ≡ filter q xs ++ filter q ys
filter-append q [] ys = refl
filter-append q (x ∷ xs) ys = ⊎_elim
    (λ e. cond-true (q x) (x ∷ filter q (xs ++ ys)) (filter q (xs ++ ys)) e ∙ ap (λ r. x ∷ r) (filter-append q xs ys)
    ∙ ap (λ r. r ++ filter q ys) (sym (cond-true (q x) (x ∷ filter q xs) (filter q xs) e)))
    (λ e. cond-false (q x) (x ∷ filter q (xs ++ ys)) (filter q (xs ++ ys)) e ∙ filter-append q xs ys
    ∙ ap (λ r. r ++ filter q ys) (sym (cond-false (q x) (x ∷ filter q xs) (filter q xs) e)))
    (cases_Bool (q x))

-- the cells of a row are for its target
pub row-for : (p : ℕ → Bool) (n i target : ℕ) (cs : List (List Cond × Term)) → p target ≡ true
    → list_all (λ (c : Cell). p c.target) (map (λ c. record { row = i; column = c.0; target = target; conds = c.1.0; term = c.1.1 })
    (enumerate_from n cs)) ≡ true
row-for p n i target [] is = refl
row-for p n i target (c ∷ cs) is = and_from _ _ is (row-for p (n + 1) i target cs is)

pub normal-for : (p : ℕ → Bool) (n target : ℕ) (columns rows : List Cond) (terms : List (List Term)) → p target ≡ true
    → list_all (λ (c : Cell). p c.target) (flat_map (λ r. row_cells r.0 target (zip (map (λ column. r.1.0 ∷ column ∷ []) columns) r.1.1))
    (enumerate_from n (zip rows terms))) ≡ true
normal-for p n target columns [] terms is = refl
normal-for p n target columns (r ∷ rows) [] is = refl
normal-for p n target columns (r ∷ rows) (es ∷ terms) is = both_lists (λ (c : Cell). p c.target)
    (row_cells n target (zip (map (λ column. r ∷ column ∷ []) columns) es)) _ (row-for p 0 n target _ is)
    (normal-for p (n + 1) target columns rows terms is)

pub inverted-for : (p : ℕ → Bool) (n target : ℕ) (terms : List Term) (rows : List Cond) (grid : List (List Cond)) → p target ≡ true
    → list_all (λ (c : Cell). p c.target) (flat_map (λ r. row_cells r.0 target (zip (map (λ entry. r.1.0 ∷ entry ∷ []) r.1.1) terms))
    (enumerate_from n (zip rows grid))) ≡ true
inverted-for p n target terms [] grid is = refl
inverted-for p n target terms (r ∷ rows) [] is = refl
inverted-for p n target terms (r ∷ rows) (cs ∷ grid) is = both_lists (λ (c : Cell). p c.target)
    (row_cells n target (zip (map (λ entry. r ∷ entry ∷ []) cs) terms)) _ (row-for p 0 n target _ is)
    (inverted-for p (n + 1) target terms rows grid is)

-- a table's rows have the lengths that they should, and it names a target once
abbrev pub IsRegular : ℕ → Grid → Type 0
IsRegular x (Normal target columns rows terms) = (length terms ≡ length rows) × AreLong (length columns) terms
IsRegular x (Inverted target terms rows grid) = (length grid ≡ length rows) × AreLong (length terms) grid
IsRegular x (Vector columns targets terms) = (length terms ≡ length targets) × AreLong (length columns) terms
    × (count (λ t. t == x) targets ≡ 1)

module _ (S : Tables) (frame : Frame) (σ : ℕ → ℤ) (x : ℕ) where
  abbrev W : View
  W = view S frame σ

  vector-for : (n : ℕ) (columns : List Cond) (targets : List ℕ) (terms : List (List Term)) → length terms ≡ length targets
      → AreLong (length columns) terms
      → count (cell_holds W) (filter (λ cell. cell.target == x) (flat_map
      (λ r. row_cells r.0 r.1.0 (zip (map (λ column. column ∷ []) columns) r.1.1)) (enumerate_from n (zip targets terms))))
      ≡ count (λ t. t == x) targets * count (truth W) columns
  vector-for n columns [] terms same long = omega arith
  vector-for n columns (t ∷ targets) [] same long = absurd (omega (arith, same))
  vector-for n columns (t ∷ targets) (es ∷ terms) same long =
      let rest = flat_map (λ r. row_cells r.0 r.1.0 (zip (map (λ column. column ∷ []) columns) r.1.1))
      (enumerate_from (n + 1) (zip targets terms)) in
      let here = row_cells n t (zip (map (λ column. column ∷ []) columns) es) in
      let more = vector-for (n + 1) columns targets terms (omega (arith, same)) long.1 in
      let first = vector-count S frame σ 0 n t columns es (sym long.0) in
      ap (count (cell_holds W)) (filter-append (λ (cell : Cell). cell.target == x) here rest)
      ∙ count-append (cell_holds W) (filter (λ (cell : Cell). cell.target == x) here) (filter (λ (cell : Cell). cell.target == x) rest)
      ∙ (λ i. ⊎_elim
      (λ e. count-passed (cell_holds W) (λ (cell : Cell). cell.target == x) here (row-for (λ y. y == x) 0 n t _ e) ∙ first
      ∙ sym (cond-true (t == x) (count (truth W) columns) 0 e))
      (λ e. count-refused (cell_holds W) (λ (cell : Cell). cell.target == x) here (row-for (λ y. not (y == x)) 0 n t _ (ap not e))
      ∙ sym (cond-false (t == x) (count (truth W) columns) 0 e))
      (cases_Bool (t == x)) i + more i)
      ∙ step (t == x) (count (λ t. t == x) targets) (count (truth W) columns)
      ∙ ap (λ k. k * count (truth W) columns) (sym (count-cons (λ t. t == x) t targets))
    where
      step : (b : Bool) (a c : ℕ) → cond b c 0 + a * c ≡ (cond b 1 0 + a) * c
      step true a c = let one : 1 + a ≡ suc a = omega arith in let more = suc-mul a c in omega (arith, more) ∙ ap (λ k. k * c) (sym one)
      step false a c = let none : 0 + a ≡ a = omega arith in omega arith ∙ ap (λ k. k * c) (sym none)

  -- so many cells for x hold, as the nodes say
  pub gap_counts : (g : Grid) → IsRegular x g → defines g x ≡ true → claim_true σ (gap_node S frame g)
      ≡ not (nat_le 1 (count (cell_holds W) (cells_for x g)))
  gap_counts (Normal target columns rows terms) h is =
      gap_says S frame σ (cells (Normal target columns rows terms))
      ∙ ap (λ n. not (nat_le 1 n)) (sym (count-passed (cell_holds W) (λ cell. cell.target == x) (cells (Normal target columns rows terms))
      (normal-for (λ y. y == x) 0 target columns rows terms is)))
  gap_counts (Inverted target terms rows grid) h is =
      gap_says S frame σ (cells (Inverted target terms rows grid))
      ∙ ap (λ n. not (nat_le 1 n)) (sym (count-passed (cell_holds W) (λ cell. cell.target == x) (cells (Inverted target terms rows grid))
      (inverted-for (λ y. y == x) 0 target terms rows grid is)))
  gap_counts (Vector columns targets terms) h is =
      true-Not σ _ ∙ ap not (some-claims S frame σ columns)
      ∙ ap (λ n. not (nat_le 1 n)) (sym (vector-for 0 columns targets terms h.0 h.1 ∙ ap (λ k. k * count (truth W) columns) h.2
      ∙ one-mul (count (truth W) columns)))

  pub overlap_counts : (g : Grid) → IsRegular x g → defines g x ≡ true → claim_true σ (overlap_node S frame g)
      ≡ nat_le 2 (count (cell_holds W) (cells_for x g))
  overlap_counts (Normal target columns rows terms) h is =
      normal_overlap S frame σ target columns rows terms h.0 h.1
      ∙ ap (nat_le 2) (sym (count-passed (cell_holds W) (λ cell. cell.target == x) (cells (Normal target columns rows terms))
      (normal-for (λ y. y == x) 0 target columns rows terms is)))
  overlap_counts (Inverted target terms rows grid) h is =
      inverted_overlap S frame σ target terms rows grid h.0 h.1
      ∙ ap (nat_le 2) (sym (count-passed (cell_holds W) (λ cell. cell.target == x) (cells (Inverted target terms rows grid))
      (inverted-for (λ y. y == x) 0 target terms rows grid is)))
  overlap_counts (Vector columns targets terms) h is =
      two-claims S frame σ columns
      ∙ ap (nat_le 2) (sym (vector-for 0 columns targets terms h.0 h.1 ∙ ap (λ k. k * count (truth W) columns) h.2
      ∙ one-mul (count (truth W) columns)))
