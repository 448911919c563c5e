-- Lists of items that grow table by table, and what they have in the end.
use Rattle.std.proofs.Common.{◌≡◌, ◌∙◌, sym, ap, refl, ℕ, zero, suc, ◌+◌, ◌<◌, ◌≤◌, Bool, true, false, cond, List, [], ◌∷◌, ◌++◌, length}
use Rattle.std.proofs.Common.{take, arith, append-nil, append_assoc}
use Rattle.std.specs.Prelude.{slice_index_or, ◌==◌, slice_get, Some, min}
use Rattle.std.specs.List.{flat_map, zip}
use Rattle.std.proofs.lemmas.List.Elements.{filter_map-append}
use Rattle.std.proofs.lemmas.Option.{none-some, same_Some}
use Rattle.ft_core.specs.declared.tables.Table.{Table}
use Rattle.ft_core.specs.declared.term.Term.{Term}
use Rattle.ft_core.specs.declared.term.Cond.{Cond}
use Rattle.ft_core.specs.declared.tables.Grid.{Grid}
use Rattle.ft_core.specs.declared.tables.Grid.TheVariants.{Vector}
use Rattle.ft_core.specs.walk.Gathering.{Longer, grid_reads_for, if_target, items_in, row_reads}
use Rattle.ft_core.specs.meaning.Items.{item_read}
use Rattle.ft_core.specs.meaning.Reads.{Read, term_reads, cond_reads}
use Rattle.ft_core.proofs.ReadLemmas.{flat_map-next}

pub longer-same : (f g : ℕ → List ℕ) (old new : List (List ℕ)) → ((k : ℕ) → g k ≡ f k) → Longer f old new → Longer g old new
longer-same f g old new same h = record {
  long = h.long;
  each = λ k less. h.each k less ∙ ap (λ (l : List ℕ). slice_index_or old k [] ++ l) (sym (same k));
}

pub longer-both : (f g h : ℕ → List ℕ) (old mid new : List (List ℕ)) → ((k : ℕ) → h k ≡ f k ++ g k) → Longer f old mid → Longer g mid new
    → Longer h old new
longer-both f g h old mid new joined first second = record {
  long = second.long ∙ first.long;
  each = λ k less. let long = first.long in second.each k (omega (arith, less, long)) ∙ ap (λ (l : List ℕ). l ++ g k) (first.each k less)
      ∙ append_assoc (slice_index_or old k []) (f k) (g k) ∙ ap (λ (l : List ℕ). slice_index_or old k [] ++ l) (sym (joined k));
}

-- one more pair of two lists
pair-after : {A B Y : Type 0} (f : A × B → List Y) (as' : List A) (bs : List B) (i : ℕ) (a : A) (b : B) → slice_get as' i ≡ Some a
    → slice_get bs i ≡ Some b
    → flat_map f (take (suc i) (zip as' bs)) ≡ flat_map f (take i (zip as' bs)) ++ f (a, b)
pair-after f [] bs i a b is is' = absurd (none-some a is)
pair-after f (x ∷ xs) [] i a b is is' = absurd (none-some b is')
pair-after {A} {B} {Y} f (x ∷ xs) (y ∷ ys) zero a b is is' = append-nil (f (x, y)) ∙ (λ i. f (same_Some x a is i, same_Some y b is' i))
pair-after {A} {B} {Y} f (x ∷ xs) (y ∷ ys) (suc i) a b is is' =
    ap (λ (l : List Y). f (x, y) ++ l) (pair-after f xs ys i a b is is')
    ∙ sym (append_assoc (f (x, y)) (flat_map f (take i (zip xs ys))) (f (a, b)))

pub pair-next : {A B Y : Type 0} (f : A × B → List Y) (as' : List A) (bs : List B) (i : ℕ) (a : A) (b : B) → slice_get as' i ≡ Some a
    → slice_get bs i ≡ Some b
    → flat_map f (take (i + 1) (zip as' bs)) ≡ flat_map f (take i (zip as' bs)) ++ f (a, b)
pair-next f as' bs i a b is is' = let more : i + 1 ≡ suc i = omega arith in ap (λ (n : ℕ). flat_map f (take n (zip as' bs))) more
    ∙ pair-after f as' bs i a b is is'

pub pair-end : {A B : Type 0} (as' : List A) (bs : List B) (i : ℕ) → min (length as') (length bs) ≤ i → take i (zip as' bs) ≡ zip as' bs
pair-end [] bs zero least = refl
pair-end [] bs (suc i) least = refl
pair-end (x ∷ xs) [] zero least = refl
pair-end (x ∷ xs) [] (suc i) least = refl
pair-end (x ∷ xs) (y ∷ ys) zero least = absurd (omega (arith, least))
pair-end {A} {B} (x ∷ xs) (y ∷ ys) (suc i) least = ap (λ (l : List (A × B)). (x, y) ∷ l) (pair-end xs ys i (omega (arith, least)))

module _ (vars memories : ℕ) where
  pub items-if : (target k : ℕ) (reads : List Read) → items_in vars memories (if_target target reads k)
      ≡ if_target target (items_in vars memories reads) k
  items-if target k reads = by_test (target == k)
    where
      by_test : (b : Bool) → items_in vars memories (cond b reads []) ≡ cond b (items_in vars memories reads) []
      by_test true = refl
      by_test false = refl

  -- the rows of a vector table, where the items of the columns are known
  pub items-rows : (columns : List Cond) (items : List ℕ) → items ≡ items_in vars memories (flat_map cond_reads columns)
      → (k : ℕ) (rows : List (ℕ × List Term))
      → items_in vars memories (flat_map (λ r. if_target r.0 (row_reads columns r.1) k) rows)
      ≡ flat_map (λ r. if_target r.0 (items ++ items_in vars memories (flat_map term_reads r.1)) k) rows
  items-rows columns items are k [] = refl
  items-rows columns items are k (r ∷ rows) =
      filter_map-append (item_read vars memories) (if_target r.0 (row_reads columns r.1) k)
      (flat_map (λ s. if_target s.0 (row_reads columns s.1) k) rows)
      ∙ (λ i. (items-if r.0 k (row_reads columns r.1) ∙ ap (λ (l : List ℕ). if_target r.0 l k) row) i
      ++ items-rows columns items are k rows i)
    where
      row : items_in vars memories (row_reads columns r.1) ≡ items ++ items_in vars memories (flat_map term_reads r.1)
      row = filter_map-append (item_read vars memories) (flat_map cond_reads columns) (flat_map term_reads r.1)
          ∙ ap (λ (l : List ℕ). l ++ items_in vars memories (flat_map term_reads r.1)) (sym are)

  abbrev vector_items : List ℕ → ℕ → ℕ × List Term → List ℕ
  vector_items items k row = if_target row.0 (items ++ items_in vars memories (flat_map term_reads row.1)) k

  -- one more row, whose terms are lent as a slice
  pub rows-next : (items targets : List ℕ) (terms : List (List Term)) (i target : ℕ) (row lent : List Term) (old mid new : List (List ℕ))
      → slice_get targets i ≡ Some target → slice_get terms i ≡ Some row → lent ≡ row
      → Longer (λ k. flat_map (vector_items items k) (take i (zip targets terms))) old mid
      → Longer (if_target target (items ++ items_in vars memories (flat_map term_reads lent))) mid new
      → Longer (λ k. flat_map (vector_items items k) (take (i + 1) (zip targets terms))) old new
  rows-next items targets terms i target row lent old mid new is is' same before here =
      longer-both (λ k. flat_map (vector_items items k) (take i (zip targets terms)))
      (if_target target (items ++ items_in vars memories (flat_map term_reads lent)))
      (λ k. flat_map (vector_items items k) (take (i + 1) (zip targets terms))) old mid new
      (λ k. pair-next (vector_items items k) targets terms i target lent is (is' ∙ ap Some (sym same))) before here

  pub rows-end : (items targets : List ℕ) (terms : List (List Term)) (i : ℕ) (old new : List (List ℕ))
      → min (length targets) (length terms) ≤ i
      → Longer (λ k. flat_map (vector_items items k) (take i (zip targets terms))) old new
      → Longer (λ k. flat_map (vector_items items k) (zip targets terms)) old new
  rows-end items targets terms i old new least h = longer-same (λ k. flat_map (vector_items items k) (take i (zip targets terms)))
      (λ k. flat_map (vector_items items k) (zip targets terms)) old new
      (λ k. ap (flat_map (vector_items items k)) (sym (pair-end targets terms i least))) h

  -- a vector table, by the slices that are lent of it
  pub vector-items : (grid : Grid) (columns lent_columns : List Cond) (items lent_items targets lent_targets : List ℕ)
      (terms lent_terms : List (List Term)) → grid ≡ Vector columns targets terms
      → lent_columns ≡ columns → items ≡ items_in vars memories (flat_map cond_reads lent_columns) → lent_items ≡ items → lent_targets
      ≡ targets → lent_terms ≡ terms
      → (k : ℕ) → items_in vars memories (grid_reads_for k grid) ≡ flat_map (vector_items lent_items k) (zip lent_targets lent_terms)
  vector-items grid columns lent_columns items lent_items targets lent_targets terms lent_terms is same_columns are same_items same_targets
      same_terms k =
      ap (λ (g : Grid). items_in vars memories (grid_reads_for k g)) is
      ∙ items-rows columns lent_items (same_items ∙ are ∙ ap (λ (cs : List Cond). items_in vars memories (flat_map cond_reads cs))
      same_columns) k (zip targets terms)
      ∙ (λ i. flat_map (vector_items lent_items k) (zip (sym same_targets i) (sym same_terms i)))

  -- one more table
  pub tables-next : (f : ℕ → Table → List Read) (tables : List Table) (i : ℕ) (table : Table) (old mid new : List (List ℕ))
      → i < length tables → table ≡ slice_index_or tables i table
      → Longer (λ k. items_in vars memories (flat_map (f k) (take i tables))) old mid
      → Longer (λ k. items_in vars memories (f k table)) mid new
      → Longer (λ k. items_in vars memories (flat_map (f k) (take (i + 1) tables))) old new
  tables-next f tables i table old mid new within is before here =
      longer-both (λ k. items_in vars memories (flat_map (f k) (take i tables))) (λ k. items_in vars memories (f k table))
      (λ k. items_in vars memories (flat_map (f k) (take (i + 1) tables)))
      old mid new (λ k. ap (items_in vars memories) (flat_map-next (f k) tables i table within is)
      ∙ filter_map-append (item_read vars memories) (flat_map (f k) (take i tables)) (f k table))
      before here
