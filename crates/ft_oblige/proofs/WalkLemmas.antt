-- What is claimed of the cells of a table, made row by row.
use Rattle.std.proofs.Common.{◌≡◌, ◌∙◌, sym, ap, refl, ℕ, zero, suc, ◌+◌, ◌≤◌, Bool, true, false, cond, List, [], ◌∷◌, ◌++◌, map, filter}
use Rattle.std.proofs.Common.{length, take, Option, Some, None, slice_get, arith, append_assoc, ⊎_elim}
use Rattle.std.specs.Prelude.{min}
use Rattle.std.specs.List.{flat_map, zip, enumerate_from}
use Rattle.std.specs.Option.{option_map}
use Rattle.std.proofs.lemmas.Bool.{cases_Bool, cond-true, cond-false}
use Rattle.std.proofs.lemmas.List.{append-nil, map-append}
use Rattle.std.proofs.lemmas.List.Elements.{filter-append}
use Rattle.std.proofs.lemmas.Option.{none-some, same_Some}
use Rattle.ft_core.specs.declared.tables.Tables.{Tables}
use Rattle.ft_core.specs.declared.tables.Var.{Var}
use Rattle.ft_core.specs.declared.tables.Grid.{Grid}
use Rattle.ft_core.specs.declared.tables.Grid.TheVariants.{Normal, Inverted, Vector}
use Rattle.ft_core.specs.declared.term.Term.{Term}
use Rattle.ft_core.specs.declared.term.Cond.{Cond}
use Rattle.ft_core.specs.meaning.Grids.{Cell, cells, row_cells}
use Rattle.ft_claims.specs.declared.claim.Claim.{Claim}
use Rattle.ft_claims.specs.meaning.Coverage.{outside}
use Rattle.ft_claims.specs.meaning.Names.{Frame, claim_of}
use Rattle.ft_claims.specs.meaning.Parts.{cell_claim}
use Rattle.ft_oblige.specs.declared.stating.About.{About}
use Rattle.ft_oblige.specs.declared.stating.About.TheVariants.{Holds, Outside}
use Rattle.ft_oblige.specs.building.Stating.{beyond, pair_claim, wanted, said, stated, stated_all, headed, plain, if_wanted, normal_rows}
use Rattle.ft_oblige.specs.building.Stating.{inverted_rows, vector_rows}

-- one more place of two lists side by side
module _ {A B : Type 0} where
  zip-more : (xs : List A) (ys : List B) (i : ℕ) (x : A) (y : B) → slice_get xs i ≡ Some x → slice_get ys i ≡ Some y
      → take (suc i) (zip xs ys) ≡ take i (zip xs ys) ++ (x, y) ∷ []
  zip-more [] ys i x y e f = absurd (none-some x e)
  zip-more (a ∷ xs) [] i x y e f = absurd (none-some y f)
  zip-more (a ∷ xs) (b ∷ ys) zero x y e f = let p = same_Some a x e in let q = same_Some b y f in λ j. (p j, q j) ∷ []
  zip-more (a ∷ xs) (b ∷ ys) (suc i) x y e f = ap (λ l. (a, b) ∷ l) (zip-more xs ys i x y e f)

  zip-next : (xs : List A) (ys : List B) (i : ℕ) (x : A) (y : B) → slice_get xs i ≡ Some x → slice_get ys i ≡ Some y
      → take (i + 1) (zip xs ys) ≡ take i (zip xs ys) ++ (x, y) ∷ []
  zip-next xs ys i x y e f = let more : i + 1 ≡ suc i = omega arith in ap (λ n. take n (zip xs ys)) more ∙ zip-more xs ys i x y e f

  pub zip-end : (xs : List A) (ys : List B) (i : ℕ) → min (length xs) (length ys) ≤ i → take i (zip xs ys) ≡ zip xs ys
  zip-end [] ys zero least = refl
  zip-end [] ys (suc i) least = refl
  zip-end (x ∷ xs) [] zero least = refl
  zip-end (x ∷ xs) [] (suc i) least = refl
  zip-end (x ∷ xs) (y ∷ ys) zero least = absurd (omega (arith, least))
  zip-end (x ∷ xs) (y ∷ ys) (suc i) least = ap (λ l. (x, y) ∷ l) (zip-end xs ys i (omega (arith, least)))

  pub map-next : {C : Type 0} (f : A × B → C) (xs : List A) (ys : List B) (i : ℕ) (x : A) (y : B) (old mid new : List C) (c : C)
      → slice_get xs i ≡ Some x → slice_get ys i ≡ Some y → mid ≡ old ++ map f (take i (zip xs ys)) → c ≡ f (x, y)
      → new ≡ mid ++ c ∷ [] → new ≡ old ++ map f (take (i + 1) (zip xs ys))
  map-next f xs ys i x y old mid new c e g before here made =
      made ∙ (λ j. before j ++ here j ∷ []) ∙ append_assoc old (map f (take i (zip xs ys))) (f (x, y) ∷ [])
      ∙ ap (λ l. old ++ l) (sym (ap (map f) (zip-next xs ys i x y e g) ∙ map-append f (take i (zip xs ys)) ((x, y) ∷ [])))

  pub map-end : {C : Type 0} (f : A × B → C) (xs : List A) (ys : List B) (i : ℕ) (old new : List C) → min (length xs) (length ys) ≤ i
      → new ≡ old ++ map f (take i (zip xs ys)) → new ≡ old ++ map f (zip xs ys)
  map-end f xs ys i old new least before = before ∙ ap (λ l. old ++ map f l) (zip-end xs ys i least)

  flat-append : {C : Type 0} (f : A × B → List C) (ps qs : List (A × B)) → flat_map f (ps ++ qs) ≡ flat_map f ps ++ flat_map f qs
  flat-append f [] qs = refl
  flat-append f (p ∷ ps) qs = ap (λ l. f p ++ l) (flat-append f ps qs) ∙ sym (append_assoc (f p) (flat_map f ps) (flat_map f qs))

  pub flat-next : {C : Type 0} (f : A × B → List C) (xs : List A) (ys : List B) (i : ℕ) (x : A) (y : B) (mid new : List C)
      → slice_get xs i ≡ Some x → slice_get ys i ≡ Some y → mid ≡ flat_map f (take i (zip xs ys)) → new ≡ mid ++ f (x, y)
      → new ≡ flat_map f (take (i + 1) (zip xs ys))
  flat-next f xs ys i x y mid new e g before made =
      made ∙ ap (λ l. l ++ f (x, y)) before
      ∙ sym (ap (flat_map f) (zip-next xs ys i x y e g) ∙ flat-append f (take i (zip xs ys)) ((x, y) ∷ [])
      ∙ ap (λ l. flat_map f (take i (zip xs ys)) ++ l) (append-nil (f (x, y))))

  pub flat-end : {C : Type 0} (f : A × B → List C) (xs : List A) (ys : List B) (i : ℕ) (new : List C) → min (length xs) (length ys) ≤ i
      → new ≡ flat_map f (take i (zip xs ys)) → new ≡ flat_map f (zip xs ys)
  flat-end f xs ys i new least before = before ∙ ap (flat_map f) (zip-end xs ys i least)

pub filter-all : {A : Type 0} (xs : List A) → filter (λ x. true) xs ≡ xs
filter-all [] = refl
filter-all (x ∷ xs) = ap (λ l. x ∷ l) (filter-all xs)

module _ (S : Tables) (frame : Frame) where
  module _ (about : About) where
    module _ (target : ℕ) where
      abbrev cell : ℕ → ℕ × (List Cond × Term) → Cell
      cell row c = record { row = row; column = c.0; target = target; conds = c.1.0; term = c.1.1 }

      abbrev told_at : ℕ → List Cond × Term → Claim
      told_at row c = said S frame about target (cell_claim S frame (cell row (0, c))) c.1

      abbrev counting : ℕ → ℕ → List (List Cond × Term) → List Cell
      counting row k cs = filter (λ (e : Cell). wanted about e.target) (map (cell row) (enumerate_from k cs))

      -- the cells of a row count alike
      row-yes : wanted about target ≡ true → (row k : ℕ) (cs : List (List Cond × Term))
          → map (stated S frame about) (counting row k cs) ≡ map (told_at row) cs
      row-yes is row k [] = refl
      row-yes is row k (c ∷ cs) =
          ap (λ b. map (stated S frame about) (cond b (cell row (k, c) ∷ counting row (k + 1) cs) (counting row (k + 1) cs))) is
          ∙ ap (λ l. told_at row c ∷ l) (row-yes is row (k + 1) cs)

      row-no : wanted about target ≡ false → (row k : ℕ) (cs : List (List Cond × Term))
          → map (stated S frame about) (counting row k cs) ≡ []
      row-no is row k [] = refl
      row-no is row k (c ∷ cs) =
          ap (λ b. map (stated S frame about) (cond b (cell row (k, c) ∷ counting row (k + 1) cs) (counting row (k + 1) cs))) is
          ∙ row-no is row (k + 1) cs

      row-all : (row k : ℕ) (cs : List (List Cond × Term)) → stated_all S frame about (map (cell row) (enumerate_from k cs))
          ≡ if_wanted about target (map (told_at row) cs)
      row-all row k cs = ⊎_elim
          (λ is. row-yes is row k cs ∙ sym (cond-true (wanted about target) (map (told_at row) cs) [] is))
          (λ isnt. row-no isnt row k cs ∙ sym (cond-false (wanted about target) (map (told_at row) cs) [] isnt))
          (cases_Bool (wanted about target))

      headed-told : (at : ℕ) (row : Cond) (conds : List Cond) (terms : List Term)
          → map (told_at at) (zip (map (λ column. row ∷ column ∷ []) conds) terms) ≡ headed S frame about target row conds terms
      headed-told at row [] terms = refl
      headed-told at row (c ∷ conds) [] = refl
      headed-told at row (c ∷ conds) (e ∷ terms) = ap (λ l. said S frame about target (pair_claim S frame row c) e ∷ l)
          (headed-told at row conds terms)

      plain-told : (at : ℕ) (conds : List Cond) (terms : List Term)
          → map (told_at at) (zip (map (λ column. column ∷ []) conds) terms) ≡ plain S frame about target conds terms
      plain-told at [] terms = refl
      plain-told at (c ∷ conds) [] = refl
      plain-told at (c ∷ conds) (e ∷ terms) = ap (λ l. said S frame about target (claim_of S frame c) e ∷ l) (plain-told at conds terms)

    stated-append : (xs ys : List Cell) → stated_all S frame about (xs ++ ys) ≡ stated_all S frame about xs ++ stated_all S frame about ys
    stated-append xs ys = ap (map (stated S frame about)) (filter-append (λ e. wanted about e.target) xs ys)
        ∙ map-append (stated S frame about) (filter (λ e. wanted about e.target) xs) (filter (λ e. wanted about e.target) ys)

    -- rows that count all or not at all
    if-both : (b : Bool) (xs ys : List Claim) → cond b xs [] ++ cond b ys [] ≡ cond b (xs ++ ys) []
    if-both true xs ys = refl
    if-both false xs ys = refl

    if-none : (b : Bool) (none : List Claim) → none ≡ cond b none none
    if-none true none = refl
    if-none false none = refl

    pub normal-claims : (target n : ℕ) (columns rows : List Cond) (terms : List (List Term))
        → stated_all S frame about (flat_map (λ r. row_cells r.0 target (zip (map (λ column. r.1.0 ∷ column ∷ []) columns) r.1.1))
        (enumerate_from n (zip rows terms)))
        ≡ if_wanted about target (normal_rows S frame about target columns rows terms)
    normal-claims target n columns [] terms = if-none (wanted about target) []
    normal-claims target n columns (r ∷ rows) [] = if-none (wanted about target) []
    normal-claims target n columns (r ∷ rows) (t ∷ terms) =
        let here = row-all target n 0 (zip (map (λ column. r ∷ column ∷ []) columns) t)
        ∙ ap (if_wanted about target) (headed-told target n r columns t) in
        let more = normal-claims target (n + 1) columns rows terms in
        stated-append (row_cells n target (zip (map (λ column. r ∷ column ∷ []) columns) t)) _ ∙ (λ i. here i ++ more i)
        ∙ if-both (wanted about target) (headed S frame about target r columns t) (normal_rows S frame about target columns rows terms)

    pub inverted-claims : (target n : ℕ) (terms : List Term) (rows : List Cond) (grid : List (List Cond))
        → stated_all S frame about (flat_map (λ r. row_cells r.0 target (zip (map (λ entry. r.1.0 ∷ entry ∷ []) r.1.1) terms))
        (enumerate_from n (zip rows grid)))
        ≡ if_wanted about target (inverted_rows S frame about target terms rows grid)
    inverted-claims target n terms [] grid = if-none (wanted about target) []
    inverted-claims target n terms (r ∷ rows) [] = if-none (wanted about target) []
    inverted-claims target n terms (r ∷ rows) (g ∷ grid) =
        let here = row-all target n 0 (zip (map (λ entry. r ∷ entry ∷ []) g) terms)
        ∙ ap (if_wanted about target) (headed-told target n r g terms) in
        let more = inverted-claims target (n + 1) terms rows grid in
        stated-append (row_cells n target (zip (map (λ entry. r ∷ entry ∷ []) g) terms)) _ ∙ (λ i. here i ++ more i)
        ∙ if-both (wanted about target) (headed S frame about target r g terms) (inverted_rows S frame about target terms rows grid)

    pub vector-claims : (n : ℕ) (columns : List Cond) (targets : List ℕ) (terms : List (List Term))
        → stated_all S frame about (flat_map (λ r. row_cells r.0 r.1.0 (zip (map (λ column. column ∷ []) columns) r.1.1))
        (enumerate_from n (zip targets terms)))
        ≡ vector_rows S frame about columns targets terms
    vector-claims n columns [] terms = refl
    vector-claims n columns (x ∷ targets) [] = refl
    vector-claims n columns (x ∷ targets) (t ∷ terms) =
        let here = row-all x n 0 (zip (map (λ column. column ∷ []) columns) t) ∙ ap (if_wanted about x) (plain-told x n columns t) in
        let more = vector-claims (n + 1) columns targets terms in
        stated-append (row_cells n x (zip (map (λ column. column ∷ []) columns) t)) _ ∙ (λ i. here i ++ more i)

  -- a table, by the slices that are lent of it
  pub normal-grid : (about : About) (grid : Grid) (target : ℕ) (columns lent_columns rows lent_rows : List Cond)
      (terms lent_terms : List (List Term)) (list : List Claim) → grid ≡ Normal target columns rows terms → lent_columns ≡ columns
      → lent_rows ≡ rows → lent_terms ≡ terms
      → list ≡ if_wanted about target (normal_rows S frame about target lent_columns lent_rows lent_terms)
      → list ≡ stated_all S frame about (cells grid)
  normal-grid about grid target columns lent_columns rows lent_rows terms lent_terms list is same_columns same_rows same_terms made =
      made ∙ (λ i. if_wanted about target (normal_rows S frame about target (same_columns i) (same_rows i) (same_terms i)))
      ∙ sym (normal-claims about target 0 columns rows terms) ∙ ap (λ g. stated_all S frame about (cells g)) (sym is)

  pub inverted-grid : (about : About) (grid : Grid) (target : ℕ) (terms lent_terms : List Term) (rows lent_rows : List Cond)
      (entries lent_entries : List (List Cond)) (list : List Claim) → grid ≡ Inverted target terms rows entries → lent_terms ≡ terms
      → lent_rows ≡ rows → lent_entries ≡ entries
      → list ≡ if_wanted about target (inverted_rows S frame about target lent_terms lent_rows lent_entries)
      → list ≡ stated_all S frame about (cells grid)
  inverted-grid about grid target terms lent_terms rows lent_rows entries lent_entries list is same_terms same_rows same_entries made =
      made ∙ (λ i. if_wanted about target (inverted_rows S frame about target (same_terms i) (same_rows i) (same_entries i)))
      ∙ sym (inverted-claims about target 0 terms rows entries) ∙ ap (λ g. stated_all S frame about (cells g)) (sym is)

  pub vector-grid : (about : About) (grid : Grid) (columns lent_columns : List Cond) (targets lent_targets : List ℕ)
      (terms lent_terms : List (List Term)) (list : List Claim) → grid ≡ Vector columns targets terms → lent_columns ≡ columns
      → lent_targets ≡ targets → lent_terms ≡ terms → list ≡ vector_rows S frame about lent_columns lent_targets lent_terms
      → list ≡ stated_all S frame about (cells grid)
  vector-grid about grid columns lent_columns targets lent_targets terms lent_terms list is same_columns same_targets same_terms made =
      made ∙ (λ i. vector_rows S frame about (same_columns i) (same_targets i) (same_terms i))
      ∙ sym (vector-claims about 0 columns targets terms) ∙ ap (λ g. stated_all S frame about (cells g)) (sym is)

  -- that a cell is out of range
  outside-is : (v : Option Var) (e : Cell) → beyond S frame (option_map (λ v. v.range) v) (cell_claim S frame e) e.term
      ≡ outside S frame v e
  outside-is None e = refl
  outside-is (Some v) e = refl

  outside-each : (cs : List Cell) → map (stated S frame Outside) cs ≡ map (λ e. outside S frame (slice_get S.vars e.target) e) cs
  outside-each [] = refl
  outside-each (e ∷ cs) = let here = outside-is (slice_get S.vars e.target) e in let more = outside-each cs in λ i. here i ∷ more i

  pub outside-all : (cs : List Cell) → stated_all S frame Outside cs ≡ map (λ e. outside S frame (slice_get S.vars e.target) e) cs
  outside-all cs = ap (map (stated S frame Outside)) (filter-all cs) ∙ outside-each cs

  pub holds-all : (cs : List Cell) → stated_all S frame Holds cs ≡ map (cell_claim S frame) cs
  holds-all cs = ap (map (cell_claim S frame)) (filter-all cs)
