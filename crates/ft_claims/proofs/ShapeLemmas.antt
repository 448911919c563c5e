-- What the shape of a table says of its rows, its targets and its cells.
use Rattle.std.proofs.Common.{◌≡◌, ◌∙◌, sym, ap, refl, ℕ, zero, suc, ◌+◌, Bool, true, false, ◌&&◌, ◌||◌, ◌==◌, cond, List, [], ◌∷◌, map}
use Rattle.std.proofs.Common.{length, Some, slice_get, arith, ⊎_elim, true≢false}
use Rattle.std.specs.Prelude.{nat_lt}
use Rattle.std.specs.List.{list_all, list_any, flat_map, zip, enumerate_from}
use Rattle.std.proofs.lemmas.Bool.{cases_Bool, and_parts, and_from, eq-eqb, eqb-true}
use Rattle.ft_core.specs.declared.tables.Tables.{Tables}
use Rattle.ft_core.specs.declared.tables.Table.{Table}
use Rattle.ft_core.specs.declared.tables.Var.{Var}
use Rattle.ft_core.specs.declared.tables.Grid.{Grid}
use Rattle.ft_core.specs.declared.tables.Grid.TheVariants.{Normal, Inverted, Vector}
use Rattle.ft_core.specs.declared.term.Term.{Term}
use Rattle.ft_core.specs.declared.term.Cond.{Cond}
use Rattle.ft_core.specs.checked.Distinct.{AreDistinct}
use Rattle.ft_core.specs.meaning.Grids.{Cell, cells, row_cells, defines, is_shaped, is_full}
use Rattle.ft_core.specs.meaning.Kinds.{defined_kinds}
use Rattle.ft_claims.proofs.CoverageLemmas.{count, count-cons, AreLong}
use Rattle.ft_claims.proofs.Lists.{at_place, both_lists}
use Rattle.ft_claims.proofs.ReadsThere.{checked_of, var_there}
use Rattle.ft_claims.proofs.TableLemmas.{IsRegular, row-for, normal-for, inverted-for}

last-two : (a b c d : Bool) → (a && b && c && d) ≡ true → (c ≡ true) × (d ≡ true)
last-two true true true true h = (refl, refl)
last-two true true true false h = absurd (true≢false (sym h))
last-two true true false d h = absurd (true≢false (sym h))
last-two true false c d h = absurd (true≢false (sym h))
last-two false b c d h = absurd (true≢false (sym h))

long_rows : {X : Type 0} (n : ℕ) (rows : List (List X)) → list_all (λ row. length row == n) rows ≡ true → AreLong n rows
long_rows n [] h = tt
long_rows n (r ∷ rows) h =
    let both = and_parts (length r == n) (list_all (λ row. length row == n) rows) h in
    (eqb-true (length r) n both.0, long_rows n rows both.1)

pub full-parts : {X : Type 0} (r c : ℕ) (grid : List (List X)) → is_full r c grid ≡ true → (length grid ≡ r)
    × (list_all (λ row. length row == c) grid ≡ true)
full-parts r c grid h =
    let l = last-two (nat_lt 0 r) (nat_lt 0 c) (length grid == r) (list_all (λ row. length row == c) grid) h in
    (eqb-true (length grid) r l.0, l.1)

-- none passes where each place's fails
count-none : (x : ℕ) (ts : List ℕ) → ((k t : ℕ) → slice_get ts k ≡ Some t → t ≡ x → ⊥) → count (λ t. t == x) ts ≡ 0
count-none x [] h = refl
count-none x (t ∷ ts) h = ⊎_elim
    (λ is. absurd (h zero t refl (eqb-true t x is)))
    (λ isnt. let here : cond (t == x) 1 0 ≡ 0 = ap {B = ℕ} (λ (b : Bool). cond b 1 0) isnt in
    let more = count-none x ts (λ k u at e. h (suc k) u at e) in
    let all = count-cons (λ t. t == x) t ts in omega (arith, all, here, more))
    (cases_Bool (t == x))

-- a target of a list without repetition stands there once
once : (x : ℕ) (ts : List ℕ) → AreDistinct ts → list_any (λ t. t == x) ts ≡ true → count (λ t. t == x) ts ≡ 1
once x [] apart h = absurd (true≢false (sym h))
once x (t ∷ ts) apart h = ⊎_elim
    (λ is. let here : cond (t == x) 1 0 ≡ 1 = ap {B = ℕ} (λ (b : Bool). cond b 1 0) is in
    let more = count-none x ts (λ k u at e. absurd (never k (apart (suc k) zero t (at ∙ ap Some (e ∙ sym (eqb-true t x is))) refl))) in
    let all = count-cons (λ t. t == x) t ts in omega (arith, all, here, more))
    (λ isnt. let here : cond (t == x) 1 0 ≡ 0 = ap {B = ℕ} (λ (b : Bool). cond b 1 0) isnt in
    let more = once x ts (λ k l u p q. below (apart (suc k) (suc l) u p q)) (sym (ap (λ b. b || list_any (λ t. t == x) ts) isnt) ∙ h) in
    let all = count-cons (λ t. t == x) t ts in omega (arith, all, here, more))
    (cases_Bool (t == x))
  where
    never : (k : ℕ) → suc k ≡ zero → ⊥
    never k e = omega (arith, e)

    below : {k l : ℕ} → suc k ≡ suc l → k ≡ l
    below e = omega (arith, e)

-- each cell of a vector table is for one of its targets
vector-for : (p : ℕ → Bool) (n : ℕ) (columns : List Cond) (targets : List ℕ) (terms : List (List Term)) → list_all p targets ≡ true
    → list_all (λ (c : Cell). p c.target) (flat_map (λ r. row_cells r.0 r.1.0 (zip (map (λ column. column ∷ []) columns) r.1.1))
    (enumerate_from n (zip targets terms))) ≡ true
vector-for p n columns [] terms h = refl
vector-for p n columns (t ∷ targets) [] h = refl
vector-for p n columns (t ∷ targets) (es ∷ terms) h =
    let both = and_parts (p t) (list_all p targets) h in
    both_lists (λ (c : Cell). p c.target) (row_cells n t (zip (map (λ column. column ∷ []) columns) es)) _
    (row-for p 0 n t (zip (map (λ column. column ∷ []) columns) es) both.0) (vector-for p (n + 1) columns targets terms both.1)

-- each element is one of the list
each-in : (ts all : List ℕ) → ((t : ℕ) → list_any (λ u. u == t) ts ≡ true → list_any (λ u. u == t) all ≡ true)
    → list_all (λ t. list_any (λ u. u == t) all) ts ≡ true
each-in [] all h = refl
each-in (t ∷ ts) all h = and_from (list_any (λ u. u == t) all) (list_all (λ t. list_any (λ u. u == t) all) ts)
    (h t (ap (λ b. b || list_any (λ u. u == t) ts) (eq-eqb t t refl)))
    (each-in ts all (λ u e. h u (ap (λ b. (t == u) || b) e ∙ or_true (t == u))))
  where
    or_true : (b : Bool) → (b || true) ≡ true
    or_true true = refl
    or_true false = refl

-- a table defines what its cells are for
pub target_defined : (g : Grid) (k : ℕ) (cell : Cell) → slice_get (cells g) k ≡ Some cell → defines g cell.target ≡ true
target_defined (Normal target columns rows terms) k cell at =
    at_place (λ (c : Cell). target == c.target) (cells (Normal target columns rows terms))
    (normal-for (λ y. target == y) 0 target columns rows terms (eq-eqb target target refl)) k cell at
target_defined (Inverted target terms rows grid) k cell at =
    at_place (λ (c : Cell). target == c.target) (cells (Inverted target terms rows grid))
    (inverted-for (λ y. target == y) 0 target terms rows grid (eq-eqb target target refl)) k cell at
target_defined (Vector columns targets terms) k cell at =
    at_place (λ (c : Cell). list_any (λ u. u == c.target) targets) (cells (Vector columns targets terms))
    (vector-for (λ y. list_any (λ u. u == y) targets) 0 columns targets terms (each-in targets targets (λ t e. e))) k cell at

-- it defines something
pub some_target : (g : Grid) → is_shaped g ≡ true → (x : ℕ) × (defines g x ≡ true)
some_target (Normal target columns rows terms) h = (target, eq-eqb target target refl)
some_target (Inverted target terms rows grid) h = (target, eq-eqb target target refl)
some_target (Vector columns [] terms) h = absurd (true≢false (sym h))
some_target (Vector columns (t ∷ targets) terms) h = (t, ap (λ b. b || list_any (λ u. u == t) targets) (eq-eqb t t refl))

module _ (S : Tables) (k : ℕ) (table : Table) (there : slice_get S.tables k ≡ Some table) where
  pub shaped : is_shaped table.grid ≡ true
  shaped = at_place (λ t. is_shaped t.grid) S.tables S.sound.shapes k table there

  regular_by : (x : ℕ) (g : Grid) → table.grid ≡ g → is_shaped g ≡ true → defines g x ≡ true → IsRegular x g
  regular_by x (Normal target columns rows terms) is h d =
      let l = full-parts (length rows) (length columns) terms h in (l.0, long_rows (length columns) terms l.1)
  regular_by x (Inverted target terms rows grid) is h d =
      let l = full-parts (length rows) (length terms) grid h in (l.0, long_rows (length terms) grid l.1)
  regular_by x (Vector columns targets terms) is h d =
      let l = full-parts (length targets) (length columns) terms h in
      (l.0, long_rows (length columns) terms l.1, once x targets ((checked_of S).targets_differ k table columns targets terms there is) d)

  pub regular : (x : ℕ) → defines table.grid x ≡ true → IsRegular x table.grid
  regular x d = regular_by x table.grid refl shaped d

  -- what it defines is a variable of the set
  pub target_there : (x : ℕ) → defines table.grid x ≡ true → (v : Var) × (slice_get S.vars x ≡ Some v)
  target_there x d = var_there S (defined_kinds table.section) x ((checked_of S).targets k x table there d)
