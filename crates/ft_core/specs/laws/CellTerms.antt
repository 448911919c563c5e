-- Each cell of a table has its term in its row and its column.
use Rattle.std.proofs.Common.{◌≡◌, ◌∙◌, sym, ap, subst, refl, ℕ, zero, suc, ◌+◌, List, [], ◌∷◌, map, slice_get, Some}
use Rattle.std.specs.List.{All, flat_map, zip, enumerate_from}
use Rattle.std.proofs.Math.Nat.{add-zero, zero-add, add-suc, suc-add}
use Rattle.std.proofs.Math.Numerals.{suc-eq-add-one}
use Rattle.std.proofs.lemmas.List.Elements.{All-nil, All-cons, All-head, All-tail, All-append, All-map}
use Rattle.std.proofs.lemmas.Option.{none-some, same_Some, get_or_from_slice_get}
use Rattle.ft_core.specs.declared.tables.Grid.{Grid}
use Rattle.ft_core.specs.declared.tables.Grid.TheVariants.{Normal, Inverted, Vector}
use Rattle.ft_core.specs.declared.term.Term.{Term}
use Rattle.ft_core.specs.declared.term.Cond.{Cond}
use Rattle.ft_core.specs.meaning.Grids.{Cell, cells, numbered, row_cells, term_at}

-- what stands at a place of two lists side by side stands there in each
pub zip-parts : {A B : Type 0} (xs : List A) (ys : List B) (k : ℕ) (p : A × B) → slice_get (zip xs ys) k ≡ Some p
    → (slice_get xs k ≡ Some p.0) × (slice_get ys k ≡ Some p.1)
zip-parts [] ys k p e = absurd (none-some p e)
zip-parts (x ∷ xs) [] k p e = absurd (none-some p e)
zip-parts (x ∷ xs) (y ∷ ys) zero p e = let is = same_Some (x, y) p e in ((λ i. Some (is i).0), (λ i. Some (is i).1))
zip-parts (x ∷ xs) (y ∷ ys) (suc k) p e = zip-parts xs ys k p e

one-on : (n k : ℕ) → n + suc k ≡ n + 1 + k
one-on n k = add-suc n k ∙ sym (suc-add n k) ∙ ap (λ m. m + k) (suc-eq-add-one n)

all-from : {A : Type 0} (P : ℕ × A → Type 0) (n : ℕ) (xs : List A) → ((k : ℕ) (a : A) → slice_get xs k ≡ Some a → P (n + k, a))
    → All P (enumerate_from n xs)
all-from P n [] h = All-nil P
all-from P n (x ∷ xs) h = All-cons P (n, x) (enumerate_from (n + 1) xs) (subst (λ m. P (m, x)) (add-zero n) (h zero x refl))
    (all-from P (n + 1) xs (λ k a e. subst (λ m. P (m, a)) (one-on n k) (h (suc k) a e)))

all-numbered : {A : Type 0} (P : ℕ × A → Type 0) (xs : List A) → ((k : ℕ) (a : A) → slice_get xs k ≡ Some a → P (k, a))
    → All P (numbered xs)
all-numbered P xs h = all-from P 0 xs (λ k a e. subst (λ m. P (m, a)) (sym (zero-add k)) (h k a e))

all-flat_map : {A B : Type 0} (P : B → Type 0) (give : A → List B) (xs : List A) → All (λ a. All P (give a)) xs → All P (flat_map give xs)
all-flat_map P give [] h = All-nil P
all-flat_map P give (x ∷ xs) h = All-append P (give x) (flat_map give xs) (All-head (λ a. All P (give a)) x xs h)
    (all-flat_map P give xs (All-tail (λ a. All P (give a)) x xs h))

row-terms : (P : Cell → Type 0) (row target : ℕ) (conds : List (List Cond)) (terms : List Term)
    → ((k : ℕ) (c : List Cond) (e : Term) → slice_get terms k ≡ Some e
    → P (record { row = row; column = k; target = target; conds = c; term = e }))
    → All P (row_cells row target (zip conds terms))
row-terms P row target conds terms h =
    All-map P made (numbered (zip conds terms))
    (all-numbered (λ c. P (made c)) (zip conds terms) (λ k c at. h k c.0 c.1 (zip-parts conds terms k c at).1))
  where
    made : ℕ × (List Cond × Term) → Cell
    made c = record { row = row; column = c.0; target = target; conds = c.1.0; term = c.1.1 }

abbrev HasTerm : Grid → Cell → Type 0
HasTerm grid cell = term_at grid cell.row cell.column ≡ Some cell.term

rows-terms : {A : Type 0} (P : Cell → Type 0) (give : ℕ × A → List Cell) (rows : List A)
    → ((i : ℕ) (a : A) → slice_get rows i ≡ Some a → All P (give (i, a))) → All P (flat_map give (numbered rows))
rows-terms P give rows h = all-flat_map P give (numbered rows) (all-numbered (λ r. All P (give r)) rows h)

pub term-there : (grid : Grid) → All (λ cell. term_at grid cell.row cell.column ≡ Some cell.term) (cells grid)
term-there (Normal target columns rows terms) =
    let P : Cell → Type 0 = HasTerm (Normal target columns rows terms) in
    rows-terms P (λ r. row_cells r.0 target (zip (map (λ column. r.1.0 ∷ column ∷ []) columns) r.1.1)) (zip rows terms)
    (λ i r at. row-terms P i target (map (λ column. r.0 ∷ column ∷ []) columns) r.1
    (λ k c e there. ap (λ es. slice_get es k) (get_or_from_slice_get terms i r.1 [] (zip-parts rows terms i r at).1) ∙ there))
term-there (Inverted target terms rows grid) =
    let P : Cell → Type 0 = HasTerm (Inverted target terms rows grid) in
    rows-terms P (λ r. row_cells r.0 target (zip (map (λ entry. r.1.0 ∷ entry ∷ []) r.1.1) terms)) (zip rows grid)
    (λ i r at. row-terms P i target (map (λ entry. r.0 ∷ entry ∷ []) r.1) terms (λ k c e there. there))
term-there (Vector columns targets terms) =
    let P : Cell → Type 0 = HasTerm (Vector columns targets terms) in
    rows-terms P (λ r. row_cells r.0 r.1.0 (zip (map (λ column. column ∷ []) columns) r.1.1)) (zip targets terms)
    (λ i r at. row-terms P i r.0 (map (λ column. column ∷ []) columns) r.1
    (λ k c e there. ap (λ es. slice_get es k) (get_or_from_slice_get terms i r.1 [] (zip-parts targets terms i r at).1) ∙ there))
