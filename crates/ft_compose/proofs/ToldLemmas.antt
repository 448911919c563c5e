-- The first of some places that passes a test, and the tables of a goal.
use Rattle.std.proofs.Common.{◌≡◌, ◌∙◌, sym, ap, subst, refl, ℕ, zero, suc, ◌+◌, ◌-◌, ◌<◌, ◌≤◌, Bool, true, false, cond, List, [], ◌∷◌}
use Rattle.std.proofs.Common.{map, filter, drop, length, Option, Some, None, slice_get, get_or, arith}
use Rattle.std.specs.Prelude.{◌==◌}
use Rattle.std.specs.List.{All, find}
use Rattle.std.specs.Option.{option_map}
use Rattle.std.proofs.lemmas.Bool.{cond-true, cond-false, and_from}
use Rattle.std.proofs.lemmas.List.{at_drop_all, at_drop_more}
use Rattle.std.proofs.lemmas.List.Elements.{All-head, All-tail}
use Rattle.std.proofs.lemmas.Option.{none-some, same_Some, slice_get_within, get_or_from_slice_get}
use Rattle.ft_core.specs.declared.tables.Tables.{Tables}
use Rattle.ft_core.specs.declared.tables.Table.{Table}
use Rattle.ft_core.specs.declared.tables.Var.{Var}
use Rattle.ft_core.specs.declared.tables.Grid.{Grid}
use Rattle.ft_core.specs.declared.tables.Section.{Section}
use Rattle.ft_core.specs.declared.term.Cond.{Cond}
use Rattle.ft_core.specs.laws.Lists.{mapped}
use Rattle.ft_core.specs.laws.Places.{one-at, some-at}
use Rattle.ft_core.specs.meaning.Grids.{Cell, cells, cells_for, is_for}
use Rattle.ft_core.specs.meaning.Kinds.{defined_kinds}
use Rattle.ft_mean.specs.laws.TableLaws.{TableOf}
use Rattle.ft_mean.specs.meaning.Cells.{cells_of}
use Rattle.ft_mean.specs.meaning.Reading.{IsVar}
use Rattle.ft_mean.specs.meaning.Value.{View}
use Rattle.ft_claims.specs.laws.FormulaLaws.{AreGood}
use Rattle.ft_claims.specs.laws.GoodLaws.{IsBelow}
use Rattle.ft_claims.specs.meaning.Areas.{Spans}
use Rattle.ft_claims.specs.meaning.Parts.{cell_claim}
use Rattle.ft_oblige.specs.building.Homes.{IsHome, IsHomesOf}
use Rattle.ft_oblige.specs.declared.defining.Homes.{Homes}
use Rattle.ft_oblige.specs.meaning.Blocks.{now_frame}
use Rattle.ft_oblige.specs.meaning.States.{slot_spans}
use Rattle.ft_cover.specs.building.Places.{is_sought, places_in}
use Rattle.ft_cover.specs.declared.placing.Wanted.TheVariants.{Holding}
use Rattle.ft_cover.specs.meaning.Covered.{place_of}
use Rattle.ft_compose.specs.building.Deciding.{AreGoodAt, IsGoodClaim, claim_at, claim_by, conds_at, home_in, is_told_at}
use Rattle.ft_compose.specs.laws.DecidingLaws.{DecidingLaws}
use Rattle.ft_compose.specs.meaning.Decided.{first_seen, is_seen}
use Rattle.ft_compose.proofs.NameLemmas.{in-filtered, of-filtered}
use Rattle.ft_compose.proofs.SeeLemmas.{HasConds, conds-there, first-place}

-- one that passes is the first of those that are left, and one that doesn't is passed over
pub found-here : {A : Type 0} (p : A → Bool) (xs : List A) (i : ℕ) (x : A) → slice_get xs i ≡ Some x → p x ≡ true
    → find p (drop i xs) ≡ Some x
found-here p xs i x at pass =
    let is = get_or_from_slice_get xs i x x at in
    at_drop_more (find p) xs i x (slice_get_within xs i x at)
    ∙ cond-true (p (get_or xs i x)) (Some (get_or xs i x)) (find p (drop (i + 1) xs)) (ap p is ∙ pass) ∙ ap Some is

pub passed-over : {A : Type 0} (p : A → Bool) (xs : List A) (i : ℕ) (x : A) → slice_get xs i ≡ Some x → p x ≡ false
    → find p (drop i xs) ≡ find p (drop (i + 1) xs)
passed-over p xs i x at fails =
    at_drop_more (find p) xs i x (slice_get_within xs i x at)
    ∙ cond-false (p (get_or xs i x)) (Some (get_or xs i x)) (find p (drop (i + 1) xs))
    (ap p (get_or_from_slice_get xs i x x at) ∙ fails)

pub none-left : {A : Type 0} (p : A → Bool) (xs : List A) (i : ℕ) → length xs ≤ i → find p (drop i xs) ≡ None
none-left p xs i past = at_drop_all (find p) xs i past

at-place : {A : Type 0} (P : A → Type 0) (xs : List A) → All P xs → (k : ℕ) (a : A) → slice_get xs k ≡ Some a → P a
at-place P [] all k a at = absurd (none-some a at)
at-place P (x ∷ xs) all zero a at = subst P (same_Some x a at) (All-head P x xs all)
at-place P (x ∷ xs) all (suc k) a at = at-place P xs (All-tail P x xs all) k a at

module _ (laws : DecidingLaws) (S : Tables) (anew : Bool) (section : Section) (x : ℕ) (v : Var) (is : IsVar S (defined_kinds section) x v)
    (spans : Spans) (spans_are : spans ≡ slot_spans S) (grid : Grid) (cells_are : cells_of S section x ≡ cells_for x grid) where
  below : IsBelow S (now_frame S anew) (length spans)
  below =
      let long = laws.all.slots_are_names S in let same = ap length spans_are in
      record { this = omega (arith, long, same); prior = omega (arith, long, same) }

  cell_good : (k : ℕ) (cell : Cell) → slice_get (cells_for x grid) k ≡ Some cell
      → AreGood spans (cell_claim S (now_frame S anew) cell ∷ [])
  cell_good k cell at = and_from _ _ (laws.all.cells_good S (now_frame S anew) (length spans) below section x v is k cell
      (ap (λ cs. slice_get cs k) cells_are ∙ at)) refl

  good_place : (k : ℕ) (cell : Cell) → slice_get (cells grid) k ≡ Some cell → HasConds x grid cell
      → IsGoodClaim spans (claim_at S (now_frame S anew) x grid (cell.row + 1 - 1) (cell.column + 1 - 1))
  good_place k cell at has =
      let row : cell.row + 1 - 1 ≡ cell.row = omega arith in
      let column : cell.column + 1 - 1 ≡ cell.column = omega arith in
      subst (λ o. IsGoodClaim spans (claim_by S (now_frame S anew) o))
      (sym ((λ i. conds_at x grid (row i) (column i)) ∙ has))
      (by_target (cell.target == x) (λ mine.
      let there = in-filtered (λ c. c.target == x) (cells grid) k cell at mine in cell_good there.0 cell there.1))
    where
      by_target : (b : Bool) → (b ≡ true → AreGood spans (cell_claim S (now_frame S anew) cell ∷ []))
          → IsGoodClaim spans (claim_by S (now_frame S anew) (cond b (Some cell.conds) None))
      by_target true good = good refl
      by_target false good = tt

  -- the claims of the cells that hold are good
  pub good_places : (vars : List Var) (V : View) → AreGoodAt S (now_frame S anew) spans x grid (places_in vars V Holding (cells grid))
  good_places vars V k at there =
      let from = mapped place_of (filter (is_sought vars V Holding) (cells grid)) k at there in
      let cell = of-filtered (is_sought vars V Holding) (cells grid) k from.0 from.1 in
      subst (λ (q : ℕ × ℕ). IsGoodClaim spans (claim_at S (now_frame S anew) x grid (q.0 - 1) (q.1 - 1))) from.2
      (good_place cell.0 from.0 cell.1 (at-place (HasConds x grid) (cells grid) (conds-there x grid) cell.0 from.0 cell.1))

  pub seen_first : (names : List ℕ) (V : View) (found : Option (ℕ × ℕ))
      → found ≡ find (is_told_at S (now_frame S anew) (length spans) x names grid) (places_in S.vars V Holding (cells grid))
      → found ≡ first_seen S section x anew names V
  seen_first names V found by = by
      ∙ ap (λ (s : Spans). find (is_told_at S (now_frame S anew) (length s) x names grid)
      (places_in S.vars V Holding (cells grid))) spans_are
      ∙ first-place S anew names x grid S.vars V
      ∙ ap (λ cs. option_map place_of (find (is_seen S anew names V) cs)) (sym cells_are)

-- the table of a variable among those of a section: the one that stands at its place
module _ (laws : DecidingLaws) (S : Tables) (section : Section) (homes : Homes) (are : IsHomesOf S section homes) (x : ℕ) (v : Var)
    (is : IsVar S (defined_kinds section) x v) where
  by_home : (o : Option (Option ℕ)) → slice_get homes.tables x ≡ o → (k : ℕ)
      → elim o as (λ z. Option ℕ) [ None ↦ None | Some home ↦ home ] ≡ Some k → IsHome S.tables section x k
  by_home None at k e = absurd (none-some k e)
  by_home (Some None) at k e = absurd (none-some k e)
  by_home (Some (Some j)) at k e = subst (λ s. IsHome S.tables s x k) are.its (are.are.fits x k (at ∙ ap Some e))

  home_fits : (k : ℕ) → home_in homes.tables x ≡ Some k → IsHome S.tables section x k
  home_fits k e = by_home (slice_get homes.tables x) refl k e

  pub home_cells : (k : ℕ) (table : Table) → home_in homes.tables x ≡ Some k → slice_get S.tables k ≡ Some table
      → cells_of S section x ≡ cells_for x table.grid
  home_cells k table at there =
      let home = home_fits k at in
      laws.cells_are S section x k table there
      (subst (λ (t : Table). is_for section x t ≡ true) (one-at S.tables k home.table table home.there there) home.defines_it)

  pub home_there : (k : ℕ) → home_in homes.tables x ≡ Some k → k < length S.tables
  home_there k at = let home = home_fits k at in slice_get_within S.tables k home.table home.there

  its_table : TableOf S section x
  its_table = laws.has_table S section x v is

  no_place : (o : Option (Option ℕ)) → slice_get homes.tables x ≡ o
      → elim o as (λ z. Option ℕ) [ None ↦ None | Some home ↦ home ] ≡ None → ⊥
  no_place None at e =
      let low = slice_get_within S.vars x v is.0 in let long = are.are.long in
      let there = some-at homes.tables x (omega (arith, low, long)) in none-some there.0 (sym at ∙ there.1)
  no_place (Some None) at e =
      let t = its_table in
      are.are.none x t.place t.table (slice_get_within S.tables t.place t.table t.there) t.there
      (subst (λ s. is_for s x t.table ≡ true) (sym are.its)
      (and_from _ _ ((laws.sections t.table.section section).1 t.section_is) t.defines_it)) at
  no_place (Some (Some j)) at e = none-some j (sym e)

  -- so there is one
  pub has_home : home_in homes.tables x ≡ None → ⊥
  has_home e = no_place (slice_get homes.tables x) refl e
