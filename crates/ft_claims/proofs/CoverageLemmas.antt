-- What the parts of the formulas of coverage say: how many cells hold, and that their terms are in range.
use Rattle.std.proofs.Common.{◌≡◌, ◌∙◌, sym, ap, refl, ℕ, zero, suc, ◌+◌, ◌*◌, ◌≤◌, ℤ, Bool, true, false, not, ◌&&◌, ◌||◌, cond, List, []}
use Rattle.std.proofs.Common.{◌∷◌, ◌++◌, map, filter, length, Option, Some, None, slice_get, arith, ⊎_elim}
use Rattle.std.specs.Prelude.{nat_le, int_lt}
use Rattle.std.specs.List.{list_any, flat_map, zip, enumerate_from}
use Rattle.std.proofs.lemmas.Bool.{cases_Bool, cond-true, cond-false}
use Rattle.std.proofs.lemmas.List.Folds.{list_any-append}
use Rattle.std.proofs.Math.Nat.{suc-mul, mul-suc}
use Rattle.ft_core.specs.declared.tables.Tables.{Tables}
use Rattle.ft_core.specs.declared.tables.Var.{Var}
use Rattle.ft_core.specs.declared.tables.Grid.TheVariants.{Normal, Inverted}
use Rattle.ft_core.specs.declared.term.Term.{Term}
use Rattle.ft_core.specs.declared.term.Cond.{Cond}
use Rattle.ft_core.specs.meaning.Grids.{Cell, cells, row_cells}
use Rattle.ft_mean.specs.meaning.Cells.{cell_holds, holding}
use Rattle.ft_mean.specs.meaning.Value.{View, truth, value}
use Rattle.ft_linear.specs.laws.Nodes.{list_any-map}
use Rattle.ft_claims.specs.declared.claim.Claim.{Claim}
use Rattle.ft_claims.specs.declared.claim.Claim.TheVariants.{Le, Lt, Not, And, Or}
use Rattle.ft_claims.specs.declared.claim.Sym.TheVariants.{Num}
use Rattle.ft_claims.specs.meaning.Claims.{claim_true}
use Rattle.ft_claims.specs.meaning.Names.{Frame, claim_of, sym_of, view}
use Rattle.ft_claims.specs.meaning.Parts.{cell_claim}
use Rattle.ft_claims.specs.meaning.Coverage.{pairs, two, claims_of, row_some, row_two, overlap_node, outside, range_node}
use Rattle.ft_claims.specs.laws.Equations.{true-Not, true-And, true-Or, true-Lt, sym-Num}
use Rattle.ft_claims.proofs.ClaimLemmas.{true-gt}
use Rattle.ft_claims.proofs.ReadLemmas.{claim_tells, sym_says, cell_says}

-- how many pass a test
abbrev pub count : {A : Type 0} → (A → Bool) → List A → ℕ
count p xs = length (filter p xs)

pub count-cons : {A : Type 0} (p : A → Bool) (x : A) (xs : List A) → count p (x ∷ xs) ≡ cond (p x) 1 0 + count p xs
count-cons p x xs = ⊎_elim
    (λ e. ap length (cond-true (p x) (x ∷ filter p xs) (filter p xs) e)
    ∙ (let b : cond (p x) 1 0 ≡ 1 = cond-true {A = ℕ} (p x) 1 0 e in omega (arith, b)))
    (λ e. ap length (cond-false (p x) (x ∷ filter p xs) (filter p xs) e)
    ∙ (let b : cond (p x) 1 0 ≡ 0 = cond-false {A = ℕ} (p x) 1 0 e in omega (arith, b)))
    (cases_Bool (p x))

pub count-append : {A : Type 0} (p : A → Bool) (xs ys : List A) → count p (xs ++ ys) ≡ count p xs + count p ys
count-append p [] ys = omega arith
count-append p (x ∷ xs) ys =
    let here = count-cons p x (xs ++ ys) in let there = count-cons p x xs in let more = count-append p xs ys in
    omega (arith, here, there, more)

count-map : {A B : Type 0} (p : B → Bool) (f : A → B) (xs : List A) → count p (map f xs) ≡ count (λ x. p (f x)) xs
count-map p f [] = refl
count-map p f (x ∷ xs) =
    let here = count-cons p (f x) (map f xs) in let there = count-cons (λ x. p (f x)) x xs in let more = count-map p f xs in
    omega (arith, here, there, more)

count-same : {A : Type 0} (p q : A → Bool) (xs : List A) → ((x : A) → p x ≡ q x) → count p xs ≡ count q xs
count-same p q [] h = refl
count-same p q (x ∷ xs) h =
    let here = count-cons p x xs in let there = count-cons q x xs in let more = count-same p q xs h in
    let b = ap {B = ℕ} (λ (b : Bool). cond b 1 0) (h x) in omega (arith, here, there, more, b)

-- some do where there is one at least
pub any-count : {A : Type 0} (p : A → Bool) (xs : List A) → list_any p xs ≡ nat_le 1 (count p xs)
any-count p [] = refl
any-count p (x ∷ xs) = ⊎_elim
    (λ e. ap (λ b. b || list_any p xs) e ∙ sym (ap (nat_le 1) (count-cons p x xs ∙ ap (λ b. cond b 1 0 + count p xs) e) ∙ one (count p xs)))
    (λ e. ap (λ b. b || list_any p xs) e ∙ any-count p xs ∙ sym (ap (nat_le 1)
    (count-cons p x xs ∙ ap (λ b. cond b 1 0 + count p xs) e ∙ none (count p xs))))
    (cases_Bool (p x))
  where
    one : (n : ℕ) → nat_le 1 (1 + n) ≡ true
    one n = grind arith

    none : (n : ℕ) → 0 + n ≡ n
    none n = omega arith

next-product : (a c : ℕ) → c + a * c ≡ (1 + a) * c
next-product a c = let one : 1 + a ≡ suc a = omega arith in let more = suc-mul a c in omega (arith, more) ∙ ap (λ k. k * c) (sym one)

two-of-product : (a b : ℕ) → ((nat_le 2 a && nat_le 1 b) || (nat_le 1 a && nat_le 2 b)) ≡ nat_le 2 (a * b)
two-of-product zero b = let none : zero * b ≡ 0 = grind arith in grind (arith, none)
two-of-product (suc zero) b = let one : suc zero * b ≡ b = grind arith in grind (arith, one)
two-of-product (suc (suc a)) zero = let none : suc (suc a) * zero ≡ 0 = grind arith in grind (arith, none)
two-of-product (suc (suc a)) (suc b) = let product = mul-suc (suc (suc a)) b in let more : 2 ≤ suc (suc a) * suc b =
    omega (arith, product) in grind (arith, more)

-- one row more
rows-step : (b : Bool) (k c s : ℕ) (any : Bool) → (nat_le 2 c || any) ≡ nat_le 2 s → nat_le 1 c ≡ nat_le 1 s
    → ((nat_le 2 (cond (b && nat_le 1 k) 1 0 + c) || ((b && nat_le 2 k) || any)) ≡ nat_le 2 (cond b k 0 + s))
    × (nat_le 1 (cond (b && nat_le 1 k) 1 0 + c) ≡ nat_le 1 (cond b k 0 + s))
rows-step false k c s any p q = let a : 0 + c ≡ c = omega arith in let b : 0 + s ≡ s = omega arith in
    (ap (λ n. nat_le 2 n || any) a ∙ p ∙ ap (nat_le 2) (sym b), ap (nat_le 1) a ∙ q ∙ ap (nat_le 1) (sym b))
rows-step true zero c s any p q = let a : 0 + c ≡ c = omega arith in let b : 0 + s ≡ s = omega arith in
    (ap (λ n. nat_le 2 n || any) a ∙ p ∙ ap (nat_le 2) (sym b), ap (nat_le 1) a ∙ q ∙ ap (nat_le 1) (sym b))
rows-step true (suc zero) c s true p q = (grind (arith, p, q), grind (arith, p, q))
rows-step true (suc zero) c s false p q = (grind (arith, p, q), grind (arith, p, q))
rows-step true (suc (suc k)) c s any p q = (grind (arith, p, q), grind (arith, p, q))

module _ (σ : ℕ → ℤ) where
  with-each : (c : Claim) (cs : List Claim) → list_any (claim_true σ) (map (λ d. And (c ∷ d ∷ [])) cs)
      ≡ (claim_true σ c && list_any (claim_true σ) cs)
  with-each c [] = sym (and_none (claim_true σ c))
    where
      and_none : (b : Bool) → (b && false) ≡ false
      and_none true = refl
      and_none false = refl
  with-each c (d ∷ cs) =
      (λ i. true-And σ (c ∷ d ∷ []) i || with-each c cs i) ∙ spread (claim_true σ c) (claim_true σ d) (list_any (claim_true σ) cs)
    where
      spread : (a b r : Bool) → ((a && (b && true)) || (a && r)) ≡ (a && (b || r))
      spread true true r = refl
      spread true false r = refl
      spread false b r = refl

  -- two of them hold
  pub two-true : (cs : List Claim) → claim_true σ (two cs) ≡ nat_le 2 (count (claim_true σ) cs)
  two-true cs = true-Or σ (pairs cs) ∙ at_least_two cs
    where
      step : (b : Bool) (n : ℕ) → ((b && nat_le 1 n) || nat_le 2 n) ≡ nat_le 2 (cond b 1 0 + n)
      step true n = grind arith
      step false n = grind arith

      at_least_two : (cs : List Claim) → list_any (claim_true σ) (pairs cs) ≡ nat_le 2 (count (claim_true σ) cs)
      at_least_two [] = refl
      at_least_two (c ∷ cs) =
          list_any-append (claim_true σ) (map (λ d. And (c ∷ d ∷ [])) cs) (pairs cs)
          ∙ (λ i. (with-each c cs ∙ ap (λ b. claim_true σ c && b) (any-count (claim_true σ) cs)) i || at_least_two cs i)
          ∙ step (claim_true σ c) (count (claim_true σ) cs)
          ∙ sym (ap (nat_le 2) (count-cons (claim_true σ) c cs))

-- each row has as many entries as there are columns
abbrev pub AreLong : {X : Type 0} → ℕ → List (List X) → Type 0
AreLong n [] = Unit {0}
AreLong n (r ∷ rows) = (length r ≡ n) × AreLong n rows

module _ (S : Tables) (frame : Frame) (σ : ℕ → ℤ) where
  abbrev V : View
  V = view S frame σ

  claims-count : (conds : List Cond) → count (claim_true σ) (claims_of S frame conds) ≡ count (truth V) conds
  claims-count conds = count-map (claim_true σ) (claim_of S frame) conds
      ∙ count-same (λ c. claim_true σ (claim_of S frame c)) (truth V) conds (claim_tells S frame σ)

  pub some-claims : (conds : List Cond) → claim_true σ (Or (claims_of S frame conds)) ≡ nat_le 1 (count (truth V) conds)
  some-claims conds = true-Or σ (claims_of S frame conds) ∙ any-count (claim_true σ) (claims_of S frame conds)
      ∙ ap (nat_le 1) (claims-count conds)

  pub two-claims : (conds : List Cond) → claim_true σ (two (claims_of S frame conds)) ≡ nat_le 2 (count (truth V) conds)
  two-claims conds = two-true σ (claims_of S frame conds) ∙ ap (nat_le 2) (claims-count conds)

  and_true : (b : Bool) → (b && true) ≡ b
  and_true true = refl
  and_true false = refl

  -- no cell holds
  pub gap_says : (cs : List Cell) → claim_true σ (Not (Or (map (cell_claim S frame) cs))) ≡ not (nat_le 1 (length (holding V cs)))
  gap_says cs =
      true-Not σ (Or (map (cell_claim S frame) cs))
      ∙ ap not (true-Or σ (map (cell_claim S frame) cs) ∙ any-count (claim_true σ) (map (cell_claim S frame) cs)
      ∙ ap (nat_le 1) (count-map (claim_true σ) (cell_claim S frame) cs
      ∙ count-same (λ c. claim_true σ (cell_claim S frame c)) (cell_holds V) cs (cell_says S frame σ)))

  -- the cells of a row of a normal or an inverted table
  row-count : (n i target : ℕ) (row : Cond) (columns : List Cond) (es : List Term) → length columns ≡ length es
      → length (holding V (map (λ c. record { row = i; column = c.0; target = target; conds = c.1.0; term = c.1.1 })
      (enumerate_from n (zip (map (λ column. row ∷ column ∷ []) columns) es))))
      ≡ cond (truth V row) (count (truth V) columns) 0
  row-count n i target row [] es same = sym (nothing (truth V row))
    where
      nothing : (b : Bool) → ◌≡◌ {A = ℕ} (cond b 0 0) 0
      nothing true = refl
      nothing false = refl
  row-count n i target row (c ∷ cs) [] same = absurd (omega (arith, same))
  row-count n i target row (c ∷ cs) (e ∷ es) same =
      let more = row-count (n + 1) i target row cs es (omega (arith, same)) in
      let here = count-cons (cell_holds V) (record { row = i; column = n; target = target; conds = row ∷ c ∷ []; term = e })
      (map (λ c. record { row = i; column = c.0; target = target; conds = c.1.0; term = c.1.1 })
      (enumerate_from (n + 1) (zip (map (λ column. row ∷ column ∷ []) cs) es))) in
      let there = count-cons (truth V) c cs in
      here ∙ (λ i. cond (truth V row && and_true (truth V c) i) 1 0 + more i) ∙ step (truth V row) (truth V c) (count (truth V) cs)
      ∙ ap (λ k. cond (truth V row) k 0) (sym there)
    where
      step : (r b : Bool) (k : ℕ) → cond (r && b) 1 0 + cond r k 0 ≡ cond r (cond b 1 0 + k) 0
      step true b k = refl
      step false b k = refl

  normal-count : (n target : ℕ) (columns rows : List Cond) (terms : List (List Term)) → length terms ≡ length rows
      → AreLong (length columns) terms
      → length (holding V (flat_map (λ r. row_cells r.0 target (zip (map (λ column. r.1.0 ∷ column ∷ []) columns) r.1.1))
      (enumerate_from n (zip rows terms))))
      ≡ count (truth V) rows * count (truth V) columns
  normal-count n target columns [] terms same long = omega arith
  normal-count n target columns (r ∷ rows) [] same long = absurd (omega (arith, same))
  normal-count n target columns (r ∷ rows) (es ∷ terms) same long =
      let more = normal-count (n + 1) target columns rows terms (omega (arith, same)) long.1 in
      let here = row-count 0 n target r columns es (sym long.0) in
      count-append (cell_holds V) (row_cells n target (zip (map (λ column. r ∷ column ∷ []) columns) es)) _
      ∙ (λ i. here i + more i) ∙ step (truth V r) (count (truth V) rows) (count (truth V) columns)
      ∙ ap (λ k. k * count (truth V) columns) (sym (count-cons (truth V) r rows))
    where
      step : (b : Bool) (a c : ℕ) → cond b c 0 + a * c ≡ (cond b 1 0 + a) * c
      step true a c = next-product a c
      step false a c = let none : 0 + a ≡ a = omega arith in omega arith ∙ ap (λ k. k * c) (sym none)

  -- the number of cells that hold, row by row
  abbrev pub row_sum : List (Cond × List Cond) → ℕ
  row_sum [] = 0
  row_sum (r ∷ rows) = cond (truth V r.0) (count (truth V) r.1) 0 + row_sum rows

  inverted-count : (n target : ℕ) (terms : List Term) (rows : List Cond) (grid : List (List Cond)) → length grid ≡ length rows
      → AreLong (length terms) grid
      → length (holding V (flat_map (λ r. row_cells r.0 target (zip (map (λ entry. r.1.0 ∷ entry ∷ []) r.1.1) terms))
      (enumerate_from n (zip rows grid)))) ≡ row_sum (zip rows grid)
  inverted-count n target terms [] grid same long = refl
  inverted-count n target terms (r ∷ rows) [] same long = absurd (omega (arith, same))
  inverted-count n target terms (r ∷ rows) (cs ∷ grid) same long =
      let more = inverted-count (n + 1) target terms rows grid (omega (arith, same)) long.1 in
      let here = row-count 0 n target r cs terms long.0 in
      count-append (cell_holds V) (row_cells n target (zip (map (λ entry. r ∷ entry ∷ []) cs) terms)) _ ∙ (λ i. here i + more i)

  pub vector-count : (n i target : ℕ) (columns : List Cond) (es : List Term) → length columns ≡ length es
      → length (holding V (map (λ c. record { row = i; column = c.0; target = target; conds = c.1.0; term = c.1.1 })
      (enumerate_from n (zip (map (λ column. column ∷ []) columns) es))))
      ≡ count (truth V) columns
  vector-count n i target [] es same = refl
  vector-count n i target (c ∷ cs) [] same = absurd (omega (arith, same))
  vector-count n i target (c ∷ cs) (e ∷ es) same =
      let more = vector-count (n + 1) i target cs es (omega (arith, same)) in
      count-cons (cell_holds V) (record { row = i; column = n; target = target; conds = c ∷ []; term = e }) _
      ∙ (λ i. cond (and_true (truth V c) i) 1 0 + more i) ∙ sym (count-cons (truth V) c cs)

  -- two cells of a normal table hold
  pub normal_overlap : (target : ℕ) (columns rows : List Cond) (terms : List (List Term)) → length terms ≡ length rows
      → AreLong (length columns) terms
      → claim_true σ (overlap_node S frame (Normal target columns rows terms))
      ≡ nat_le 2 (length (holding V (cells (Normal target columns rows terms))))
  normal_overlap target columns rows terms same long =
      true-Or σ _
      ∙ (λ i. (true-And σ (two (claims_of S frame rows) ∷ Or (claims_of S frame columns) ∷ [])
      ∙ (λ j. two-claims rows j && and_true (some-claims columns j) j)) i
      || ((true-And σ (Or (claims_of S frame rows) ∷ two (claims_of S frame columns) ∷ [])
      ∙ (λ j. some-claims rows j && and_true (two-claims columns j) j)) i || false))
      ∙ ap (λ b. (nat_le 2 (count (truth V) rows) && nat_le 1 (count (truth V) columns)) || b) (or_none _)
      ∙ two-of-product (count (truth V) rows) (count (truth V) columns)
      ∙ ap (nat_le 2) (sym (normal-count 0 target columns rows terms same long))
    where
      or_none : (b : Bool) → (b || false) ≡ b
      or_none true = refl
      or_none false = refl

  pub vector_overlap : (i target : ℕ) (columns targets : List Cond) (es : List Term) → length columns ≡ length es
      → claim_true σ (two (claims_of S frame columns)) ≡ nat_le 2 (length
      (holding V (row_cells i target (zip (map (λ column. column ∷ []) columns) es))))
  vector_overlap i target columns targets es same = two-claims columns ∙ ap (nat_le 2) (sym (vector-count 0 i target columns es same))

  some-row : (r : Cond × List Cond) → claim_true σ (row_some S frame r) ≡ (truth V r.0 && nat_le 1 (count (truth V) r.1))
  some-row r = true-And σ _ ∙ (λ i. claim_tells S frame σ r.0 i && and_true (some-claims r.1 i) i)

  two-row : (r : Cond × List Cond) → claim_true σ (row_two S frame r) ≡ (truth V r.0 && nat_le 2 (count (truth V) r.1))
  two-row r = true-And σ _ ∙ (λ i. claim_tells S frame σ r.0 i && and_true (two-claims r.1 i) i)

  abbrev HasCell : Cond × List Cond → Bool
  HasCell r = truth V r.0 && nat_le 1 (count (truth V) r.1)

  abbrev HasTwo : Cond × List Cond → Bool
  HasTwo r = truth V r.0 && nat_le 2 (count (truth V) r.1)

  -- two rows with a cell, or a row with two
  two-of-rows : (rows : List (Cond × List Cond))
      → ((nat_le 2 (count HasCell rows) || list_any HasTwo rows) ≡ nat_le 2 (row_sum rows))
      × (nat_le 1 (count HasCell rows) ≡ nat_le 1 (row_sum rows))
  two-of-rows [] = (refl, refl)
  two-of-rows (r ∷ rows) =
      let more = two-of-rows rows in
      let step = rows-step (truth V r.0) (count (truth V) r.1) (count HasCell rows) (row_sum rows) (list_any HasTwo rows) more.0 more.1 in (
        ap (λ n. nat_le 2 n || list_any HasTwo (r ∷ rows)) (count-cons HasCell r rows) ∙ step.0,
        ap (nat_le 1) (count-cons HasCell r rows)
            ∙ step.1,
      )

  any-same : {A : Type 0} (p q : A → Bool) (xs : List A) → ((x : A) → p x ≡ q x) → list_any p xs ≡ list_any q xs
  any-same p q [] h = refl
  any-same p q (x ∷ xs) h = let more = any-same p q xs h in λ i. h x i || more i

  -- two cells of an inverted table hold
  pub inverted_overlap : (target : ℕ) (terms : List Term) (rows : List Cond) (grid : List (List Cond)) → length grid ≡ length rows
      → AreLong (length terms) grid
      → claim_true σ (overlap_node S frame (Inverted target terms rows grid))
      ≡ nat_le 2 (length (holding V (cells (Inverted target terms rows grid))))
  inverted_overlap target terms rows grid same long =
      let rs = zip rows grid in
      true-Or σ _
      ∙ (λ i. (two-true σ (map (row_some S frame) rs) ∙ ap (nat_le 2) (count-map (claim_true σ) (row_some S frame) rs
      ∙ count-same (λ r. claim_true σ (row_some S frame r)) HasCell rs some-row)) i
      || ((true-Or σ (map (row_two S frame) rs) ∙ list_any-map (claim_true σ) (row_two S frame) rs
      ∙ any-same (λ r. claim_true σ (row_two S frame r)) HasTwo rs two-row) i || false))
      ∙ ap (λ b. nat_le 2 (count HasCell rs) || b) (or_none (list_any HasTwo rs))
      ∙ (two-of-rows rs).0
      ∙ ap (nat_le 2) (sym (inverted-count 0 target terms rows grid same long))
    where
      or_none : (b : Bool) → (b || false) ≡ b
      or_none true = refl
      or_none false = refl

  -- a cell holds whose term is out of range
  abbrev pub is_outside : Option Var → Cell → Bool
  is_outside None cell = false
  is_outside (Some v) cell = cell_holds V cell && (int_lt (value V cell.term) v.range.0 || int_lt v.range.1 (value V cell.term))

  pub outside-says : (o : Option Var) (cell : Cell) → claim_true σ (outside S frame o cell) ≡ is_outside o cell
  outside-says None cell = true-Or σ []
  outside-says (Some v) cell =
      let below = true-Lt σ (sym_of S frame cell.term) (Num v.range.0)
      ∙ (λ i. int_lt (sym_says S frame σ cell.term i) (sym-Num σ v.range.0 i)) in
      let above = true-gt σ (sym_of S frame cell.term) (Num v.range.1)
      ∙ (λ i. int_lt (sym-Num σ v.range.1 i) (sym_says S frame σ cell.term i)) in
      true-And σ _ ∙ (λ i. cell_says S frame σ cell i && and_true ((true-Or σ
      (Lt (sym_of S frame cell.term) (Num v.range.0) ∷ Not (Le (sym_of S frame cell.term) (Num v.range.1)) ∷ [])
      ∙ (λ j. below j || or_none (above j) j)) i) i)
    where
      or_none : (b : Bool) → (b || false) ≡ b
      or_none true = refl
      or_none false = refl

  pub range_says : (cs : List Cell) → claim_true σ (range_node S frame cs)
      ≡ list_any (λ cell. is_outside (slice_get S.vars cell.target) cell) cs
  range_says cs = true-Or σ _ ∙ list_any-map (claim_true σ) (λ cell. outside S frame (slice_get S.vars cell.target) cell) cs
      ∙ any-same (λ cell. claim_true σ (outside S frame (slice_get S.vars cell.target) cell))
      (λ cell. is_outside (slice_get S.vars cell.target) cell) cs
      (λ cell. outside-says (slice_get S.vars cell.target) cell)
