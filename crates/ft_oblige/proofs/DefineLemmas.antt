-- What the table of a variable says of it, and that a variable without a table has no cells.
use Rattle.std.proofs.Common.{◌≡◌, ◌∙◌, sym, ap, subst, refl, ℕ, suc, ◌<◌, Bool, true, false, ◌||◌, List, [], ◌∷◌, ◌++◌, map, length}
use Rattle.std.proofs.Common.{Option, Some, None, slice_get, arith, ⊎_elim}
use Rattle.std.specs.Prelude.{◌==◌, IsTrue, if◌then◌else◌}
use Rattle.std.specs.List.{flat_map, list_any}
use Rattle.std.proofs.lemmas.Bool.{cases_Bool, and_parts, and_from, cond-false, cond_both, true≢false}
use Rattle.std.proofs.lemmas.Option.{none-some, same_Some, slice_get_within}
use Rattle.ft_core.specs.declared.tables.Tables.{Tables}
use Rattle.ft_core.specs.declared.tables.Table.{Table}
use Rattle.ft_core.specs.declared.tables.Section.{Section}
use Rattle.ft_core.specs.declared.tables.Grid.{Grid}
use Rattle.ft_core.specs.declared.tables.Grid.TheVariants.{Normal, Inverted, Vector}
use Rattle.ft_core.specs.declared.term.Term.{Term}
use Rattle.ft_core.specs.declared.term.Cond.{Cond}
use Rattle.ft_core.specs.checked.Checked.{IsChecked}
use Rattle.ft_core.specs.laws.Places.{some-at}
use Rattle.ft_core.specs.meaning.Grids.{cells, cells_for, defines, is_for, is_section}
use Rattle.ft_core.specs.meaning.Kinds.{defined_kinds}
use Rattle.ft_mean.specs.laws.TableLaws.{CellsAreOfTable}
use Rattle.ft_mean.specs.meaning.Cells.{cells_of}
use Rattle.ft_claims.specs.declared.claim.Claim.{Claim}
use Rattle.ft_claims.specs.declared.claim.Claim.TheVariants.{Or}
use Rattle.ft_claims.specs.meaning.Names.{Frame}
use Rattle.ft_claims.specs.meaning.Parts.{definition}
use Rattle.ft_oblige.specs.declared.defining.Homes.{Homes}
use Rattle.ft_oblige.specs.declared.stating.About.TheVariants.{Defines}
use Rattle.ft_oblige.specs.building.Homes.{AreHomes, IsHomesOf, home_table}
use Rattle.ft_oblige.specs.building.Stating.{plain, stated, stated_all, vector_rows}
use Rattle.ft_oblige.proofs.WalkLemmas.{normal-claims, inverted-claims, vector-claims}

or-false : (a b : Bool) → (a || b) ≡ false → (a ≡ false) × (b ≡ false)
or-false true b e = absurd (true≢false e)
or-false false b e = (refl, e)

map-none : {A B : Type 0} (f : A → B) (xs : List A) → map f xs ≡ [] → xs ≡ []
map-none f [] e = refl
map-none f (x ∷ xs) e = let long = ap length e in absurd (omega (arith, long))

flat-none : {A B : Type 0} (f : A → List B) (xs : List A) → ((k : ℕ) (a : A) → slice_get xs k ≡ Some a → f a ≡ []) → flat_map f xs ≡ []
flat-none f [] none = refl
flat-none f (x ∷ xs) none =
    let here = none 0 x refl in let more = flat-none f xs (λ k a at. none (suc k) a at) in λ i. here i ++ more i

module _ (S : Tables) (frame : Frame) (x : ℕ) where
  rows-none : (columns : List Cond) (targets : List ℕ) (terms : List (List Term)) → list_any (λ t. t == x) targets ≡ false
      → vector_rows S frame (Defines x) columns targets terms ≡ []
  rows-none columns [] terms none = refl
  rows-none columns (t ∷ targets) [] none = refl
  rows-none columns (t ∷ targets) (row ∷ terms) none =
      let parts = or-false (t == x) (list_any (λ t. t == x) targets) none in
      let here = cond-false (t == x) (plain S frame (Defines x) t columns row) [] parts.0 in
      let more = rows-none columns targets terms parts.1 in
      λ i. here i ++ more i

  -- a table that doesn't define the variable has no cells for it
  no-cells : (g : Grid) → defines g x ≡ false → cells_for x g ≡ []
  no-cells (Normal target columns rows terms) never = map-none (stated S frame (Defines x)) (cells_for x (Normal target columns rows terms))
      (normal-claims S frame (Defines x) target 0 columns rows terms ∙ cond-false (target == x) _ [] never)
  no-cells (Inverted target terms rows grid) never = map-none (stated S frame (Defines x)) (cells_for x (Inverted target terms rows grid))
      (inverted-claims S frame (Defines x) target 0 terms rows grid ∙ cond-false (target == x) _ [] never)
  no-cells (Vector columns targets terms) never = map-none (stated S frame (Defines x)) (cells_for x (Vector columns targets terms))
      (vector-claims S frame (Defines x) 0 columns targets terms ∙ rows-none columns targets terms never)

  -- nor has a section of which no table does
  none-of : (section : Section) → ((k : ℕ) (table : Table) → slice_get S.tables k ≡ Some table → IsTrue (is_for section x table) → ⊥)
      → cells_of S section x ≡ []
  none-of section none = flat-none (λ table. if is_section table.section section then cells_for x table.grid else []) S.tables
      (λ k table at. cond_both (is_section table.section section) (cells_for x table.grid) [] (λ cs. cs ≡ [])
      (λ its. no-cells table.grid (⊎_elim
      (λ it. absurd (none k table at (and_from (is_section table.section section) (defines table.grid x) its it)))
      (λ isnt. isnt)
      (cases_Bool (defines table.grid x))))
      (λ isnt. refl))

  -- a table defines variables of the set alone
  targets_of_set : (k : ℕ) (table : Table) → slice_get S.tables k ≡ Some table → IsTrue (defines table.grid x) → x < length S.vars
  unfolding IsChecked
  targets_of_set k table at its = within (slice_get S.vars x) refl (S.checked.targets k x table at its)
    where
      within : (o : Option _) → slice_get S.vars x ≡ o → IsTrue (elim o [ None ↦ false | Some v ↦ defined_kinds table.section x v ])
          → x < length S.vars
      within None is of = absurd (true≢false (sym of))
      within (Some v) is of = slice_get_within S.vars x v is

  -- the table of the place that stands at a place
  abbrev table_by : Option (Option ℕ) → Option Table
  table_by h = elim h [ None ↦ None | Some home ↦ elim home [ None ↦ None | Some k ↦ slice_get S.tables k ] ]

  module _ (homes : Homes) (are : AreHomes S.tables homes.section (length S.vars) (length S.tables) homes.tables) where
    none-there : home_table S.tables homes.tables x ≡ None → (k : ℕ) (table : Table) → slice_get S.tables k ≡ Some table
        → IsTrue (is_for homes.section x table) → ⊥
    none-there is k table at its =
        let defines_it = (and_parts (is_section table.section homes.section) (defines table.grid x) its).1 in
        let low = targets_of_set k table at defines_it in
        let long = are.long in
        let home = some-at homes.tables x (omega (arith, low, long)) in
        by_home home.0 home.1
      where
        by_home : (home : Option ℕ) → slice_get homes.tables x ≡ Some home → ⊥
        by_home None there = are.none x k table (slice_get_within S.tables k table at) at its there
        by_home (Some n) there =
            let found = are.fits x n there in
            none-some found.table (sym is ∙ ap table_by there ∙ found.there)

    some-there : (table : Table) → home_table S.tables homes.tables x ≡ Some table → (k : ℕ) × (slice_get S.tables k ≡ Some table)
        × IsTrue (is_for homes.section x table)
    some-there table is = by_place (slice_get homes.tables x) refl
      where
        by_place : (h : Option (Option ℕ)) → slice_get homes.tables x ≡ h → (k : ℕ) × (slice_get S.tables k ≡ Some table)
            × IsTrue (is_for homes.section x table)
        by_place None there = absurd (none-some table (sym (ap table_by there) ∙ is))
        by_place (Some None) there = absurd (none-some table (sym (ap table_by there) ∙ is))
        by_place (Some (Some n)) there =
            let found = are.fits x n there in
            let at = sym (ap table_by there) ∙ is in
            (n, at, subst (λ t. IsTrue (is_for homes.section x t)) (same_Some found.table table (sym found.there ∙ at)) found.defines_it)

  -- that the variable has the value of its table
  pub some-said : (homes : Homes) (table : Table) (list : List Claim) → CellsAreOfTable → IsHomesOf S homes.section homes
      → Some table ≡ home_table S.tables homes.tables x → list ≡ stated_all S frame (Defines x) (cells table.grid)
      → Or list ≡ definition S homes.section frame x
  some-said homes table list law of found made =
      let there = some-there homes of.are table (sym found) in
      ap Or (made ∙ ap (map (stated S frame (Defines x))) (sym (law S homes.section x there.0 table there.1 there.2)))

  pub none-said : (homes : Homes) (list : List Claim) → IsHomesOf S homes.section homes → None ≡ home_table S.tables homes.tables x
      → list ≡ [] → Or list ≡ definition S homes.section frame x
  none-said homes list of found made =
      ap Or (made ∙ ap (map (stated S frame (Defines x))) (sym (none-of homes.section (none-there homes of.are (sym found)))))
