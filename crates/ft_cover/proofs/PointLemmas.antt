-- What a point of an obligation of a table shows.
use Rattle.std.proofs.Common.{◌≡◌, ◌∙◌, sym, ap, subst, refl, ℕ, ◌+◌, ◌*◌, ◌<◌, ◌≤◌, ℤ, true, List, [], ◌∷◌, map}
use Rattle.std.proofs.Common.{filter, take, length, Some, slice_get, arith}
use Rattle.std.proofs.lemmas.List.{length-map}
use Rattle.std.proofs.lemmas.Option.{slice_get_within}
use Rattle.ft_core.specs.declared.tables.Tables.{Tables}
use Rattle.ft_core.specs.declared.tables.Table.{Table}
use Rattle.ft_core.specs.declared.tables.Grid.{Grid}
use Rattle.ft_core.specs.meaning.Grids.{cells}
use Rattle.ft_core.specs.meaning.Reads.{grid_reads}
use Rattle.ft_linear.specs.meaning.Form.{InArea, values_at}
use Rattle.ft_linear.specs.meaning.Formula.{truth_at}
use Rattle.ft_mean.specs.judge.Safe.{KeepsSizes}
use Rattle.ft_mean.specs.meaning.Cells.{holding}
use Rattle.ft_mean.specs.meaning.Proper.{IsLocal}
use Rattle.ft_mean.specs.meaning.Value.{View}
use Rattle.ft_claims.specs.laws.CellLaws.{HasKept, is_beyond}
use Rattle.ft_claims.specs.laws.PointLaws.{cover_obliged}
use Rattle.ft_claims.specs.meaning.Areas.{Obliged}
use Rattle.ft_claims.specs.meaning.Coverage.{Fault, gap, overlap, range, cover_parts}
use Rattle.ft_claims.specs.meaning.Points.{IsPointOf}
use Rattle.ft_claims.specs.meaning.Shown.{Shows}
use Rattle.ft_claims.specs.meaning.Spans.{cover_spans}
use Rattle.ft_oblige.specs.declared.labelling.Slot.{Slot}
use Rattle.ft_oblige.specs.declared.nodes.TableFault.{TableFault}
use Rattle.ft_oblige.specs.declared.nodes.TableFault.TheVariants as fault
use Rattle.ft_oblige.specs.declared.made.Obligation.{Obligation}
use Rattle.ft_oblige.specs.meaning.Labels.{label_of, slot_at}
use Rattle.ft_oblige.specs.meaning.Made.{IsCoverage, meant}
use Rattle.ft_oblige.specs.meaning.Obligations.{IsObligation, of_table, IsSubject, about_table}
use Rattle.ft_oblige.specs.meaning.Tried.{IsPointIn}
use Rattle.ft_cover.specs.building.KeptView.{table_view}
use Rattle.ft_cover.specs.building.Numbering.{number_of}
use Rattle.ft_cover.specs.building.Places.{places_in}
use Rattle.ft_cover.specs.declared.placing.Wanted.{Wanted}
use Rattle.ft_cover.specs.declared.placing.Wanted.TheVariants.{Holding, Outside}
use Rattle.ft_cover.specs.laws.Laws.{Laws}
use Rattle.ft_cover.specs.laws.Sought.{holding_places, outside_places}
use Rattle.ft_cover.specs.meaning.Covered.{place_of, IsShownAt, NoCell, AreFirstTwo, IsFirstBeyond}
use Rattle.ft_cover.proofs.KeptLemmas.{has_kept, keeps}

map-map : {A B C : Type 0} (g : B → C) (f : A → B) (xs : List A) → map g (map f xs) ≡ map (λ x. g (f x)) xs
map-map g f [] = refl
map-map g f (x ∷ xs) = ap (λ l. g (f x) ∷ l) (map-map g f xs)

-- the obligation of a table for a fault has its number
pub numbered-as : Laws → (S : Tables) (k : ℕ) (table : Table) → slice_get S.tables k ≡ Some table → (fault : Fault)
    → IsSubject S (number_of k fault) (about_table k fault)
numbered-as laws S k table there gap = (laws.numbers S k table there).0
numbered-as laws S k table there overlap = (laws.numbers S k table there).1
numbered-as laws S k table there range = (laws.numbers S k table there).2

module _ (laws : Laws) (S : Tables) (k : ℕ) (fault : TableFault) (o : Obligation) (cov : IsCoverage S k fault o) where
  abbrev grid : Grid
  grid = cov.table.grid

  abbrev pub obliged_of : Obliged
  obliged_of = cover_obliged S (meant fault) cov.table.grid cov.memories

  pub its_number : IsObligation S (number_of k (meant fault)) obliged_of
  its_number = of_table k cov.table (meant fault) cov.memories (numbered-as laws S k cov.table cov.its (meant fault)) cov.its cov.read refl

  -- a point of the formula that was made is one of the obligation, and the other way round
  pub is_point : (p : List ℤ) → IsPointIn o.formula o.area.spans p → IsPointOf obliged_of p
  is_point p point = record {
    in_area = subst (λ spans. InArea spans (values_at p)) cov.form.area point.in_area;
    satisfies = sym (laws.settled (cover_spans S) (cover_parts S (meant fault) cov.table.grid cov.memories) (values_at p))
        ∙ sym (ap (λ f. truth_at f (values_at p)) cov.form.formula) ∙ point.satisfies;
  }

  many : length o.slots ≡ length obliged_of.names
  many = ap length cov.form.slots ∙ length-map obliged_of.names (slot_at S)

  module _ (p : List ℤ) (point : IsPointIn o.formula o.area.spans p) (values : List ℤ) (long : length values ≡ length o.slots)
      (same : (i : ℕ) → i < length o.slots → values_at values i ≡ values_at p i) where
    to_point : (V : View) → HasKept S obliged_of values V → HasKept S obliged_of p V
    to_point V has i u at low =
        let within = slice_get_within obliged_of.names i u at in let all = many in
        sym (same i (omega (arith, within, all))) ∙ has i u at low

    of_point : (V : View) → HasKept S obliged_of p V → HasKept S obliged_of values V
    of_point V has i u at low =
        let within = slice_get_within obliged_of.names i u at in let all = many in same i (omega (arith, within, all)) ∙ has i u at low

    pub some_local : (V : View) × IsLocal S (grid_reads cov.table.grid) V × HasKept S obliged_of values V
    some_local =
        let at = laws.local S k cov.table cov.its cov.memories cov.read (meant fault) p (is_point p point) in
        (at.0, at.1, of_point at.0 ((laws.kept S (meant fault) cov.table.grid cov.memories p at.0).1 at.2))

    pub shows : (V : View) → HasKept S obliged_of values V → Shows S (meant fault) cov.table.grid V
    shows V has = laws.show S k cov.table cov.its cov.memories cov.read (meant fault) p (is_point p point) V
        ((laws.kept S (meant fault) cov.table.grid cov.memories p V).0 (to_point V has))

    abbrev K : View
    K = table_view S o.slots values

    pub kept_has : HasKept S obliged_of values K
    kept_has = has_kept laws S obliged_of
        (laws.once (cover_spans S) (cover_parts S (meant fault) cov.table.grid cov.memories)) o.slots cov.form.slots values some_local.0
        some_local.2

    pub kept_keeps : KeepsSizes S.vars S.memories K
    kept_keeps = keeps laws S obliged_of
        (laws.once (cover_spans S) (cover_parts S (meant fault) cov.table.grid cov.memories)) o.slots cov.form.slots values some_local.0
        some_local.2 (let all = many in omega (arith, long, all)) (grid_reads cov.table.grid) some_local.1

    pub shown_by : (Named : Grid → View → Type 0) → ((V : View) → HasKept S obliged_of values V → Named cov.table.grid V)
        → IsShownAt S (number_of k (meant fault)) k (meant fault) Named values o.labels
    shown_by Named named = record {
      table = cov.table;
      its_table = cov.its;
      obliged = obliged_of;
      its = its_number;
      labels_are = cov.form.labels ∙ ap (map (label_of S true)) cov.form.slots ∙ map-map (label_of S true) (slot_at S) obliged_of.names;
      one_each = let all = many in omega (arith, long, all);
      some = some_local;
      each = λ V has. (shows V has, named V has);
    }

-- the first two cells of an overlap
module _ (laws : Laws) (S : Tables) (k : ℕ) (o : Obligation) (cov : IsCoverage S k fault.Overlap o) (p : List ℤ)
    (point : IsPointIn o.formula o.area.spans p) (values : List ℤ) (long : length values ≡ length o.slots)
    (same : (i : ℕ) → i < length o.slots → values_at values i ≡ values_at p i) (found : List (ℕ × ℕ))
    (are : (its : Table) → slice_get S.tables k ≡ Some its
    → found ≡ places_in S.vars (table_view S o.slots values) Holding (cells its.grid)) where
  abbrev L : View
  L = table_view S o.slots values

  holds_at : found ≡ map place_of (holding L (cells cov.table.grid))
  holds_at = are cov.table cov.its ∙ holding_places S.vars L (cells cov.table.grid)

  pub overlap_two : 2 ≤ length found
  overlap_two =
      let two = laws.two S cov.table.grid L (shows laws S k fault.Overlap o cov p point values long same L
      (kept_has laws S k fault.Overlap o cov p point values long same)) in
      let e = ap length holds_at ∙ length-map (holding L (cells cov.table.grid)) place_of in omega (arith, two, e)

  overlap_named : (first second : ℕ × ℕ) → take 2 found ≡ first ∷ second ∷ [] → (V : View)
      → HasKept S (obliged_of laws S k fault.Overlap o cov) values V → AreFirstTwo first second cov.table.grid V
  overlap_named first second two V has =
      let alike = laws.overlaps S k cov.table cov.its cov.memories cov.read p (is_point laws S k fault.Overlap o cov p point) V L
      ((laws.kept S overlap cov.table.grid cov.memories p V).0 (to_point laws S k fault.Overlap o cov p point values long same V has))
      ((laws.kept S overlap cov.table.grid cov.memories p L).0 (to_point laws S k fault.Overlap o cov p point values long same L
      (kept_has laws S k fault.Overlap o cov p point values long same))) in (
        ap (λ cs. take 2 (map place_of cs)) alike ∙ sym (ap (take 2) holds_at) ∙ two,
        laws.of_one S k cov.table cov.its V (shows laws S k fault.Overlap o cov p point values long same V has),
      )

  pub overlap_shown : (first second : ℕ × ℕ) → take 2 found ≡ first ∷ second ∷ []
      → IsShownAt S (3 * k + 2) k overlap (AreFirstTwo first second) values o.labels
  overlap_shown first second two = shown_by laws S k fault.Overlap o cov p point values long same (AreFirstTwo first second)
      (overlap_named first second two)

-- the first cell that is out of range
module _ (laws : Laws) (S : Tables) (k : ℕ) (o : Obligation) (cov : IsCoverage S k fault.Range o) (p : List ℤ)
    (point : IsPointIn o.formula o.area.spans p) (values : List ℤ) (long : length values ≡ length o.slots)
    (same : (i : ℕ) → i < length o.slots → values_at values i ≡ values_at p i) (found : List (ℕ × ℕ))
    (are : (its : Table) → slice_get S.tables k ≡ Some its
    → found ≡ places_in S.vars (table_view S o.slots values) Outside (cells its.grid)) where
  abbrev M : View
  M = table_view S o.slots values

  pub range_one : 1 ≤ length found
  range_one =
      let one = laws.one S cov.table.grid M (shows laws S k fault.Range o cov p point values long same M
      (kept_has laws S k fault.Range o cov p point values long same)) in
      let e = ap length (are cov.table cov.its ∙ outside_places S M (cells cov.table.grid))
      ∙ length-map (filter (is_beyond S M) (cells cov.table.grid)) place_of in
      omega (arith, one, e)

  range_named : (cell : ℕ × ℕ) → take 1 found ≡ cell ∷ [] → (V : View)
      → HasKept S (obliged_of laws S k fault.Range o cov) values V → IsFirstBeyond S cell cov.table.grid V
  range_named cell one V has =
      let alike = laws.ranges S k cov.table cov.its cov.memories cov.read p V M
      ((laws.kept S range cov.table.grid cov.memories p V).0 (to_point laws S k fault.Range o cov p point values long same V has))
      ((laws.kept S range cov.table.grid cov.memories p M).0 (to_point laws S k fault.Range o cov p point values long same M
      (kept_has laws S k fault.Range o cov p point values long same))) in
      ap (λ cs. take 1 (map place_of cs)) alike
      ∙ sym (ap (take 1) (are cov.table cov.its ∙ outside_places S M (cells cov.table.grid))) ∙ one

  pub range_shown : (cell : ℕ × ℕ) → take 1 found ≡ cell ∷ [] → IsShownAt S (3 * k + 3) k range (IsFirstBeyond S cell) values o.labels
  range_shown cell one = shown_by laws S k fault.Range o cov p point values long same (IsFirstBeyond S cell) (range_named cell one)

pub gap_shown : (laws : Laws) (S : Tables) (k : ℕ) (o : Obligation) (cov : IsCoverage S k fault.Gap o) (p : List ℤ)
    → IsPointIn o.formula o.area.spans p → (values : List ℤ) → length values ≡ length o.slots
    → ((i : ℕ) → i < length o.slots → values_at values i ≡ values_at p i) → IsShownAt S (3 * k + 1) k gap NoCell values o.labels
gap_shown laws S k o cov p point values long same = shown_by laws S k fault.Gap o cov p point values long same NoCell (λ V has. tt)

-- the same, by the slices that are lent of the slots and the values
module _ (laws : Laws) (S : Tables) (k : ℕ) (o : Obligation) (p : List ℤ) (point : IsPointIn o.formula o.area.spans p) (values : List ℤ)
    (slots : List Slot) (lent : slots ≡ o.slots) (long : length values ≡ length slots)
    (same : (i : ℕ) → i < length slots → values_at values i ≡ values_at p i) (lent_values : List ℤ) (are_values : lent_values ≡ values)
  where
    long_all : length values ≡ length o.slots
    long_all = long ∙ ap length lent

    same_all : (i : ℕ) → i < length o.slots → values_at values i ≡ values_at p i
    same_all i l = same i (let e = ap length lent in omega (arith, e, l))

    same_view : table_view S slots lent_values ≡ table_view S o.slots values
    same_view i = table_view S (lent i) (are_values i)

    pub lent_keeps : (fault : TableFault) → IsCoverage S k fault o → KeepsSizes S.vars S.memories (table_view S slots lent_values)
    lent_keeps fault cov = subst (KeepsSizes S.vars S.memories) (sym same_view)
        (kept_keeps laws S k fault o cov p point values long_all same_all)

    module _ (wanted : Wanted) (found : List (ℕ × ℕ)) (are : (its : Table) → slice_get S.tables k ≡ Some its
        → found ≡ places_in S.vars (table_view S slots lent_values) wanted (cells its.grid)) where
      found_are : (its : Table) → slice_get S.tables k ≡ Some its
          → found ≡ places_in S.vars (table_view S o.slots values) wanted (cells its.grid)
      found_are its at = are its at ∙ ap (λ V. places_in S.vars V wanted (cells its.grid)) same_view

    module _ (cov : IsCoverage S k fault.Overlap o) (found : List (ℕ × ℕ)) (are : (its : Table) → slice_get S.tables k ≡ Some its
        → found ≡ places_in S.vars (table_view S slots lent_values) Holding (cells its.grid)) (lent_found : List (ℕ × ℕ))
        (are_found : lent_found ≡ found) where
      pub lent_two : 2 ≤ length lent_found
      lent_two = subst (λ l. 2 ≤ length l) (sym are_found)
          (overlap_two laws S k o cov p point values long_all same_all found (found_are Holding found are))

      pub lent_overlap : (first second : ℕ × ℕ) → take 2 lent_found ≡ first ∷ second ∷ []
          → IsShownAt S (3 * k + 2) k overlap (AreFirstTwo first second) values o.labels
      lent_overlap first second two = overlap_shown laws S k o cov p point values long_all same_all found (found_are Holding found are)
          first second (sym (ap (take 2) are_found) ∙ two)

    module _ (cov : IsCoverage S k fault.Range o) (found : List (ℕ × ℕ)) (are : (its : Table) → slice_get S.tables k ≡ Some its
        → found ≡ places_in S.vars (table_view S slots lent_values) Outside (cells its.grid)) (lent_found : List (ℕ × ℕ))
        (are_found : lent_found ≡ found) where
      pub lent_one : 1 ≤ length lent_found
      lent_one = subst (λ l. 1 ≤ length l) (sym are_found)
          (range_one laws S k o cov p point values long_all same_all found (found_are Outside found are))

      pub lent_range : (cell : ℕ × ℕ) → take 1 lent_found ≡ cell ∷ []
          → IsShownAt S (3 * k + 3) k range (IsFirstBeyond S cell) values o.labels
      lent_range cell one = range_shown laws S k o cov p point values long_all same_all found (found_are Outside found are) cell
          (sym (ap (take 1) are_found) ∙ one)

-- by how many slots there are
pub lent_gap : (laws : Laws) (S : Tables) (k : ℕ) (o : Obligation) (cov : IsCoverage S k fault.Gap o) (p : List ℤ)
    → IsPointIn o.formula o.area.spans p → (values : List ℤ) (count : ℕ) → count ≡ length o.slots → length values ≡ count
    → ((i : ℕ) → i < count → values_at values i ≡ values_at p i) → IsShownAt S (3 * k + 1) k gap NoCell values o.labels
lent_gap laws S k o cov p point values count is long same = gap_shown laws S k o cov p point values (long ∙ is)
    (λ i l. same i (omega (arith, is, l)))
