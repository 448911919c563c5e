-- Which table defines each variable, table by table.
use Rattle.std.proofs.Common.{◌≡◌, ◌∙◌, sym, ap, subst, refl, ℕ, ◌+◌, ◌<◌, ◌⊎◌, inl, inr, Bool, true, false, ◌||◌}
use Rattle.std.proofs.Common.{List, [], ◌∷◌, ◌++◌, length, replicate, take, Option, Some, None, slice_get, slice_set, arith, ⊎_elim}
use Rattle.std.specs.Prelude.{nat_lt, IsTrue, ◌==◌, slice_index_or}
use Rattle.std.specs.List.{list_any}
use Rattle.std.proofs.lemmas.Bool.{cases_Bool, cases_lt, cond_both, and_parts, and_from, ltb-true, ltb-false, eqb-true, eq-eqb, true≢false}
use Rattle.std.proofs.lemmas.List.{length-set, length-replicate, take_more}
use Rattle.std.proofs.lemmas.Option.{none-some, same_Some, slice_get_within}
use Rattle.ft_core.specs.declared.tables.Table.{Table}
use Rattle.ft_core.specs.declared.tables.Section.{Section}
use Rattle.ft_core.specs.declared.tables.Grid.{Grid}
use Rattle.ft_core.specs.declared.tables.Grid.TheVariants.{Normal, Inverted, Vector}
use Rattle.ft_core.specs.laws.Places.{of-replicate, of-set, set-here}
use Rattle.ft_core.specs.meaning.Grids.{defines, is_for, is_section}
use Rattle.ft_oblige.specs.building.Homes.{AreHomes, targets_of, with_home, with_homes, with_table}

abbrev one_of : ℕ → List ℕ → Bool
one_of x xs = list_any (λ t. t == x) xs

defines-targets : (g : Grid) (x : ℕ) → one_of x (targets_of g) ≡ defines g x
defines-targets (Normal target columns rows terms) x = or-none (target == x)
  where
    or-none : (b : Bool) → (b || false) ≡ b
    or-none true = refl
    or-none false = refl
defines-targets (Inverted target terms rows grid) x = or-none (target == x)
  where
    or-none : (b : Bool) → (b || false) ≡ b
    or-none true = refl
    or-none false = refl
defines-targets (Vector columns targets terms) x = refl

module _ (k : ℕ) where
  one-long : (homes : List (Option ℕ)) (x : ℕ) → length (with_home k homes x) ≡ length homes
  one-long homes x = cond_both (nat_lt x (length homes)) (slice_set homes x (Some k)) homes (λ hs. length hs ≡ length homes)
      (λ low. length-set homes x (Some k)) (λ high. refl)

  all-long : (xs : List ℕ) (homes : List (Option ℕ)) → length (with_homes k homes xs) ≡ length homes
  all-long [] homes = refl
  all-long (x ∷ xs) homes = all-long xs (with_home k homes x) ∙ one-long homes x

  -- what stands at a place afterwards stood there before, or is this table
  one-of-old : (homes : List (Option ℕ)) (x y : ℕ) (h : Option ℕ) → slice_get (with_home k homes x) y ≡ Some h
      → (slice_get homes y ≡ Some h) ⊎ ((y ≡ x) × (Some k ≡ h))
  one-of-old homes x y h = cond_both (nat_lt x (length homes)) (slice_set homes x (Some k)) homes
      (λ hs. slice_get hs y ≡ Some h → (slice_get homes y ≡ Some h) ⊎ ((y ≡ x) × (Some k ≡ h)))
      (λ low at. elim (of-set homes x (Some k) y h at) [ inl (e, f) ↦ inr (e, f) | inr (e, f) ↦ inl f ])
      (λ high at. inl at)

  all-of-old : (xs : List ℕ) (homes : List (Option ℕ)) (y : ℕ) (h : Option ℕ) → slice_get (with_homes k homes xs) y ≡ Some h
      → (slice_get homes y ≡ Some h) ⊎ ((one_of y xs ≡ true) × (Some k ≡ h))
  all-of-old [] homes y h at = inl at
  all-of-old (x ∷ xs) homes y h at = ⊎_elim
      (λ before. elim (one-of-old homes x y h before) [
        | inl f ↦ inl f
        | inr (e, f) ↦ inr (ap (λ b. b || one_of y xs) (eq-eqb x y (sym e)), f)
      ])
      (λ new. inr (or-right (x == y) (one_of y xs) new.0, new.1))
      (all-of-old xs (with_home k homes x) y h at)
    where
      or-right : (a b : Bool) → b ≡ true → (a || b) ≡ true
      or-right true b e = refl
      or-right false b e = e

  -- a place that is one of them has a table afterwards
  one-put : (homes : List (Option ℕ)) (x : ℕ) → slice_get (with_home k homes x) x ≡ Some None → ⊥
  one-put homes x = cond_both (nat_lt x (length homes)) (slice_set homes x (Some k)) homes
      (λ hs. slice_get hs x ≡ Some None → ⊥)
      (λ low at. none-some k (sym (same_Some (Some k) None (sym (set-here homes x (Some k) (ltb-true x (length homes) low)) ∙ at))))
      (λ high at. let l = slice_get_within homes x None at in let g = ltb-false x (length homes) high in absurd (omega (arith, l, g)))

  stays-put : (xs : List ℕ) (homes : List (Option ℕ)) (y : ℕ) → (slice_get homes y ≡ Some None → ⊥)
      → slice_get (with_homes k homes xs) y ≡ Some None → ⊥
  stays-put xs homes y not at = elim (all-of-old xs homes y None at) [ inl f ↦ not f | inr (e, f) ↦ none-some k (sym f) ]

  all-put : (xs : List ℕ) (homes : List (Option ℕ)) (y : ℕ) → one_of y xs ≡ true → slice_get (with_homes k homes xs) y ≡ Some None → ⊥
  all-put [] homes y one at = true≢false (sym one)
  all-put (x ∷ xs) homes y one at = ⊎_elim
      (λ here. stays-put xs (with_home k homes x) y (subst (λ z. slice_get (with_home k homes z) y ≡ Some None → ⊥)
      (sym (eqb-true x y here)) (one-put homes y)) at)
      (λ other. all-put xs (with_home k homes x) y (sym (ap (λ b. b || one_of y xs) other) ∙ one) at)
      (cases_Bool (x == y))

homes-append : (k : ℕ) (homes : List (Option ℕ)) (xs ys : List ℕ) → with_homes k homes (xs ++ ys) ≡ with_homes k (with_homes k homes xs) ys
homes-append k homes [] ys = refl
homes-append k homes (x ∷ xs) ys = homes-append k (with_home k homes x) xs ys

pub home-more : (k : ℕ) (homes mid new : List (Option ℕ)) (variables : List ℕ) (i d : ℕ) → i < length variables
    → mid ≡ with_homes k homes (take i variables) → new ≡ with_home k mid (slice_index_or variables i d)
    → new ≡ with_homes k homes (take (i + 1) variables)
home-more k homes mid new variables i d within before here =
    let x = slice_index_or variables i d in
    here ∙ ap (λ hs. with_home k hs x) before ∙ sym (homes-append k homes (take i variables) (x ∷ []))
    ∙ ap (with_homes k homes) (sym (take_more variables i d within))

module _ (tables : List Table) (section : Section) (count : ℕ) where
  pub homes-begin : (homes : List (Option ℕ)) → homes ≡ replicate count None → AreHomes tables section count 0 homes
  homes-begin homes is = subst (AreHomes tables section count 0) (sym is) (record {
    long = length-replicate count None;
    fits = λ x k at. absurd (none-some k (of-replicate count x (Some k) None at));
    none = λ x k table l there for at. absurd (omega (arith, l));
  })

  pub homes-more : (n : ℕ) (table : Table) (homes new : List (Option ℕ)) → slice_get tables n ≡ Some table
      → AreHomes tables section count n homes → new ≡ with_table section n table homes → AreHomes tables section count (n + 1) new
  homes-more n table homes new there are is = subst (AreHomes tables section count (n + 1)) (sym is)
      (cond_both (is_section table.section section) (with_homes n homes (targets_of table.grid)) homes
      (AreHomes tables section count (n + 1)) of_section of_other)
    where
      at-last : (x k : ℕ) (t : Table) (h : List (Option ℕ)) → k < n + 1 → slice_get tables k ≡ Some t → IsTrue (is_for section x t)
          → (k < n → ⊥) → IsTrue (is_for section x table)
      at-last x k t h l at for past =
          let same : k ≡ n = ⊎_elim (λ low. absurd (past low)) (λ high. omega (arith, l, high)) (cases_lt k n) in
          subst (λ u. IsTrue (is_for section x u)) (same_Some t table (sym at ∙ ap (slice_get tables) same ∙ there)) for

      of_section : is_section table.section section ≡ true
          → AreHomes tables section count (n + 1) (with_homes n homes (targets_of table.grid))
      of_section its = record {
        long = all-long n (targets_of table.grid) homes ∙ are.long;
        fits = λ x k at. elim (all-of-old n (targets_of table.grid) homes x (Some k) at) [
          | inl f ↦ are.fits x k f
          | inr (e, f) ↦ record {
            table = table;
            there = subst (λ j. slice_get tables j ≡ Some table) (same_Some n k f) there;
            defines_it = and_from (is_section table.section section) (defines table.grid x) its (sym (defines-targets table.grid x) ∙ e);
          }
        ];
        none = λ x k t l at for none. ⊎_elim
            (λ low. stays-put n (targets_of table.grid) homes x (are.none x k t low at for) none)
            (λ high.
            let mine = at-last x k t homes l at for (λ low. absurd (omega (arith, low, high))) in
            all-put n (targets_of table.grid) homes x (defines-targets table.grid x
            ∙ (and_parts (is_section table.section section) (defines table.grid x) mine).1) none)
            (cases_lt k n);
      }

      of_other : is_section table.section section ≡ false → AreHomes tables section count (n + 1) homes
      of_other isnt = record {
        long = are.long;
        fits = are.fits;
        none = λ x k t l at for none. ⊎_elim
            (λ low. are.none x k t low at for none)
            (λ high.
            let mine = at-last x k t homes l at for (λ low. absurd (omega (arith, low, high))) in
            true≢false (sym (and_parts (is_section table.section section) (defines table.grid x) mine).0 ∙ isnt))
            (cases_lt k n);
      }
