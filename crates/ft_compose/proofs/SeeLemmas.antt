-- The first cell of a table that holds and is told, by the places of the cells that hold.
use Rattle.std.proofs.Common.{◌≡◌, ◌∙◌, sym, ap, subst, refl, ℕ, zero, suc, ◌+◌, ◌-◌, ◌<◌, Bool, true, false, ◌&&◌, cond, List, [], ◌∷◌}
use Rattle.std.proofs.Common.{map, filter, length, Option, Some, None, slice_get, arith, ⊎_elim, true≢false}
use Rattle.std.specs.Prelude.{◌==◌}
use Rattle.std.specs.List.{All, Contains, find, flat_map, zip, enumerate_from}
use Rattle.std.specs.Option.{option_map}
use Rattle.std.proofs.lemmas.Bool.{cases_Bool, cond-true, cond-false, and_parts}
use Rattle.std.proofs.lemmas.List.Elements.{All-nil, All-cons, All-head, All-tail, All-append, All-map, All-weaker}
use Rattle.std.proofs.lemmas.Option.{none-some, same_Some, slice_get-map}
use Rattle.ft_core.specs.declared.tables.Tables.{Tables}
use Rattle.ft_core.specs.declared.tables.Var.{Var}
use Rattle.ft_core.specs.declared.tables.Grid.{Grid}
use Rattle.ft_core.specs.declared.tables.Grid.TheVariants.{Normal, Inverted, Vector}
use Rattle.ft_core.specs.declared.term.Term.{Term}
use Rattle.ft_core.specs.declared.term.Cond.{Cond}
use Rattle.ft_core.specs.laws.CellTerms.{zip-parts}
use Rattle.ft_core.specs.laws.Lists.{mapped}
use Rattle.ft_core.specs.laws.Places.{place-of}
use Rattle.ft_core.specs.meaning.Grids.{Cell, cells, cells_for, numbered, row_cells}
use Rattle.ft_mean.specs.meaning.Cells.{cell_holds, holding}
use Rattle.ft_mean.specs.meaning.Value.{View}
use Rattle.ft_oblige.specs.meaning.Blocks.{now_frame}
use Rattle.ft_oblige.specs.meaning.States.{slot_spans}
use Rattle.ft_cover.specs.building.Places.{places_in}
use Rattle.ft_cover.specs.declared.placing.Wanted.TheVariants.{Holding}
use Rattle.ft_cover.specs.laws.Sought.{holding_places}
use Rattle.ft_cover.specs.meaning.Covered.{place_of}
use Rattle.ft_compose.specs.building.Deciding.{both_conds, one_cond, entry_at, is_target, conds_at, claim_by, is_told_claim, is_told_at}
use Rattle.ft_compose.specs.meaning.Decided.{is_told, is_seen}

find-mapped : {A B : Type 0} (q : B → Bool) (f : A → B) (xs : List A) → find q (map f xs) ≡ option_map f (find (λ x. q (f x)) xs)
find-mapped q f [] = refl
find-mapped q f (x ∷ xs) = ⊎_elim
    (λ yes. cond-true (q (f x)) (Some (f x)) (find q (map f xs)) yes
    ∙ sym (ap (option_map f) (cond-true (q (f x)) (Some x) (find (λ y. q (f y)) xs) yes)))
    (λ no_. cond-false (q (f x)) (Some (f x)) (find q (map f xs)) no_ ∙ find-mapped q f xs
    ∙ sym (ap (option_map f) (cond-false (q (f x)) (Some x) (find (λ y. q (f y)) xs) no_)))
    (cases_Bool (q (f x)))

find-filtered : {A : Type 0} (q p : A → Bool) (xs : List A) → find q (filter p xs) ≡ find (λ x. p x && q x) xs
find-filtered q p [] = refl
find-filtered q p (x ∷ xs) = ⊎_elim
    (λ yes. ap (find q) (cond-true (p x) (x ∷ filter p xs) (filter p xs) yes)
    ∙ ap (λ o. cond (q x) (Some x) o) (find-filtered q p xs)
    ∙ sym (ap (λ b. cond (b && q x) (Some x) (find (λ y. p y && q y) xs)) yes))
    (λ no_. ap (find q) (cond-false (p x) (x ∷ filter p xs) (filter p xs) no_) ∙ find-filtered q p xs
    ∙ sym (ap (λ b. cond (b && q x) (Some x) (find (λ y. p y && q y) xs)) no_))
    (cases_Bool (p x))

pub find-same : {A : Type 0} (p q : A → Bool) (xs : List A) → All (λ x. p x ≡ q x) xs → find p xs ≡ find q xs
find-same p q [] same = refl
find-same p q (x ∷ xs) same = λ i. cond (All-head (λ y. p y ≡ q y) x xs same i) (Some x)
    (find-same p q xs (All-tail (λ y. p y ≡ q y) x xs same) i)

all-flat_map : {A B : Type 0} (P : B → Type 0) (give : A → List B) (xs : List A) → All (λ a. All P (give a)) xs → All P (flat_map give xs)
all-flat_map P give [] h = All-nil P
all-flat_map P give (x ∷ xs) h = All-append P (give x) (flat_map give xs) (All-head (λ a. All P (give a)) x xs h)
    (all-flat_map P give xs (All-tail (λ a. All P (give a)) x xs h))

all-from : {A : Type 0} (P : ℕ × A → Type 0) (n : ℕ) (xs : List A) → ((k : ℕ) (a : A) → slice_get xs k ≡ Some a → P (n + k, a))
    → All P (enumerate_from n xs)
all-from P n [] h = All-nil P
all-from P n (x ∷ xs) h =
    let here : n + 0 ≡ n = omega arith in
    All-cons P (n, x) (enumerate_from (n + 1) xs) (subst (λ m. P (m, x)) here (h zero x refl))
    (all-from P (n + 1) xs (λ k a e. let on : n + suc k ≡ (n + 1) + k = omega arith in subst (λ m. P (m, a)) on (h (suc k) a e)))

all-numbered : {A : Type 0} (P : ℕ × A → Type 0) (xs : List A) → ((k : ℕ) (a : A) → slice_get xs k ≡ Some a → P (k, a))
    → All P (numbered xs)
all-numbered P xs h = all-from P 0 xs (λ k a e. let same : k ≡ 0 + k = omega arith in subst (λ m. P (m, a)) same (h k a e))

-- the cells of a row, by the conditions of its columns
row-conds : {A : Type 0} (P : Cell → Type 0) (row target : ℕ) (made : A → List Cond) (columns : List A) (terms : List Term)
    → ((k : ℕ) (a : A) (e : Term) → slice_get columns k ≡ Some a
    → P (record { row = row; column = k; target = target; conds = made a; term = e }))
    → All P (row_cells row target (zip (map made columns) terms))
row-conds P row target made columns terms h =
    All-map P cell_of (numbered (zip (map made columns) terms))
    (all-numbered (λ c. P (cell_of c)) (zip (map made columns) terms) (λ k c at.
    let parts = zip-parts (map made columns) terms k c at in
    let from = mapped made columns k c.0 parts.0 in
    subst (λ conds. P (record { row = row; column = k; target = target; conds = conds; term = c.1 })) from.2 (h k from.0 c.1 from.1)))
  where
    cell_of : ℕ × (List Cond × Term) → Cell
    cell_of c = record { row = row; column = c.0; target = target; conds = c.1.0; term = c.1.1 }

-- each cell's conditions stand in its row and its column
abbrev pub HasConds : ℕ → Grid → Cell → Type 0
HasConds x grid cell = conds_at x grid cell.row cell.column ≡ cond (cell.target == x) (Some cell.conds) None

pub conds-there : (x : ℕ) (grid : Grid) → All (HasConds x grid) (cells grid)
conds-there x (Normal target columns rows terms) =
    let P : Cell → Type 0 = HasConds x (Normal target columns rows terms) in
    all-flat_map P (λ r. row_cells r.0 target (zip (map (λ column. r.1.0 ∷ column ∷ []) columns) r.1.1)) (numbered (zip rows terms))
    (all-numbered (λ r. All P (row_cells r.0 target (zip (map (λ column. r.1.0 ∷ column ∷ []) columns) r.1.1)))
    (zip rows terms) (λ i r at. row-conds P i target (λ column. r.0 ∷ column ∷ []) columns r.1 (λ k c e there.
    λ j. cond (target == x) (both_conds ((zip-parts rows terms i r at).0 j) (there j)) None)))
conds-there x (Inverted target terms rows grid) =
    let P : Cell → Type 0 = HasConds x (Inverted target terms rows grid) in
    all-flat_map P (λ r. row_cells r.0 target (zip (map (λ entry. r.1.0 ∷ entry ∷ []) r.1.1) terms)) (numbered (zip rows grid))
    (all-numbered (λ r. All P (row_cells r.0 target (zip (map (λ entry. r.1.0 ∷ entry ∷ []) r.1.1) terms)))
    (zip rows grid) (λ i r at. row-conds P i target (λ entry. r.0 ∷ entry ∷ []) r.1 terms (λ k c e there.
    let parts = zip-parts rows grid i r at in
    ap (λ o. cond (target == x) (both_conds o (entry_at grid i k)) None) parts.0
    ∙ ap (λ o. cond (target == x) (both_conds (Some r.0)
    (elim o as (λ z. Option Cond) [ None ↦ None | Some entries ↦ slice_get entries k ])) None) parts.1
    ∙ ap (λ o. cond (target == x) (both_conds (Some r.0) o) None) there)))
conds-there x (Vector columns targets terms) =
    let P : Cell → Type 0 = HasConds x (Vector columns targets terms) in
    all-flat_map P (λ r. row_cells r.0 r.1.0 (zip (map (λ column. column ∷ []) columns) r.1.1)) (numbered (zip targets terms))
    (all-numbered (λ r. All P (row_cells r.0 r.1.0 (zip (map (λ column. column ∷ []) columns) r.1.1)))
    (zip targets terms) (λ i r at. row-conds P i r.0 (λ column. column ∷ []) columns r.1 (λ k c e there.
    λ j. cond (is_target x ((zip-parts targets terms i r at).0 j)) (one_cond (there j)) None)))

module _ (S : Tables) (anew : Bool) (names : List ℕ) (x : ℕ) (grid : Grid) where
  abbrev base : ℕ
  base = length (slot_spans S)

  -- whether the cell at its place is told
  told-place : (cell : Cell) → HasConds x grid cell → is_told_at S (now_frame S anew) base x names grid (place_of cell)
      ≡ ((cell.target == x) && is_told S anew names cell)
  told-place cell has =
      let row : (cell.row + 1) - 1 ≡ cell.row = omega arith in
      let column : (cell.column + 1) - 1 ≡ cell.column = omega arith in
      (λ i. is_told_claim base names (claim_by S (now_frame S anew) (conds_at x grid (row i) (column i))))
      ∙ ap (λ o. is_told_claim base names (claim_by S (now_frame S anew) o)) has
      ∙ by_target (cell.target == x)
    where
      by_target : (b : Bool) → is_told_claim base names (claim_by S (now_frame S anew) (cond b (Some cell.conds) None))
          ≡ (b && is_told S anew names cell)
      by_target true = refl
      by_target false = refl

  swapped : (a b c : Bool) → (a && (b && c)) ≡ (b && (c && a))
  swapped true true true = refl
  swapped true true false = refl
  swapped true false c = refl
  swapped false true true = refl
  swapped false true false = refl
  swapped false false c = refl

  -- the first place of a cell that holds and is told is that of the first such cell
  pub first-place : (vars : List Var) (V : View)
      → find (is_told_at S (now_frame S anew) base x names grid) (places_in vars V Holding (cells grid))
      ≡ option_map place_of (find (is_seen S anew names V) (cells_for x grid))
  first-place vars V =
      let q = is_told_at S (now_frame S anew) base x names grid in
      let seen = is_seen S anew names V in
      ap (find q) (holding_places vars V (cells grid))
      ∙ find-mapped q place_of (holding V (cells grid))
      ∙ ap (option_map place_of) (find-filtered (λ cell. q (place_of cell)) (cell_holds V) (cells grid)
      ∙ find-same (λ cell. cell_holds V cell && q (place_of cell)) (λ cell. (cell.target == x) && seen cell) (cells grid)
      (All-weaker (HasConds x grid) (λ cell. (cell_holds V cell && q (place_of cell)) ≡ ((cell.target == x) && seen cell))
      (λ cell has. ap (λ b. cell_holds V cell && b) (told-place cell has)
      ∙ swapped (cell_holds V cell) (cell.target == x) (is_told S anew names cell))
      (cells grid) (conds-there x grid))
      ∙ sym (find-filtered seen (λ cell. cell.target == x) (cells grid)))
