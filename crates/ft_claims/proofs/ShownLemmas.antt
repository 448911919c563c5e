-- The claims of a table, and what it shows at the view that the numbers tell.
use Rattle.std.proofs.Common.{◌≡◌, ◌∙◌, sym, ap, subst, refl, ℕ, zero, suc, ◌≤◌, ℤ, Bool, true, false, not, ◌||◌, ◌==◌, List, length, Some}
use Rattle.std.proofs.Common.{slice_get, slice_index_or, arith, ⊎_elim}
use Rattle.std.specs.Prelude.{◌↔◌, IsTrue, nat_le, int_lt}
use Rattle.std.specs.List.{All, list_all}
use Rattle.std.proofs.lemmas.Int.{ints}
use Rattle.std.proofs.lemmas.Bool.{cases_Bool, and_parts, and_from, eq-eqb, eqb-true}
use Rattle.std.proofs.lemmas.Option.{slice_get_within, slice_get-get_or, get_or_from_slice_get}
use Rattle.ft_base.specs.Interval.{IsWithin}
use Rattle.ft_core.specs.declared.tables.Tables.{Tables}
use Rattle.ft_core.specs.declared.tables.Table.{Table}
use Rattle.ft_core.specs.meaning.Grids.{Cell, cells, cells_for, defines}
use Rattle.ft_core.specs.meaning.Reads.{grid_reads}
use Rattle.ft_mean.specs.laws.EvaluationLaws.{AllSame}
use Rattle.ft_mean.specs.meaning.Cells.{cell_holds, holding}
use Rattle.ft_mean.specs.meaning.Proper.{IsLocal, IsProper}
use Rattle.ft_mean.specs.meaning.Value.{View, value}
use Rattle.ft_claims.specs.laws.CoverLaws.{NodesSay, MetIsShown, MeetsAs, ShownIsMet, ProperShowsNone, ProperIsUnmet}
use Rattle.ft_claims.specs.laws.Laws.{Laws}
use Rattle.ft_claims.specs.meaning.Claims.{claim_true}
use Rattle.ft_claims.specs.meaning.Coverage.{Fault, gap, overlap, range, fault_node, cover_frame, cover_parts, gap_node, overlap_node}
use Rattle.ft_claims.specs.meaning.Coverage.{range_node, links}
use Rattle.ft_claims.specs.meaning.Names.{Frame, view}
use Rattle.ft_claims.specs.meaning.Shown.{Shows, OutOfRange, AreReadMemories}
use Rattle.ft_claims.specs.meaning.Spans.{MeetsAll}
use Rattle.ft_claims.specs.meaning.Numbers.{cover_numbers}
use Rattle.ft_claims.proofs.CoverageLemmas.{is_outside, range_says}
use Rattle.ft_claims.proofs.Lists.{of_filter, of-filtered, in-filtered, of_any, some_of}
use Rattle.ft_claims.proofs.LocalLemmas.{cover_same, cover_within, local_from, links_true}
use Rattle.ft_claims.proofs.ReadsThere.{table_ageless}
use Rattle.ft_claims.proofs.ShapeLemmas.{shaped, regular, some_target, target_defined, target_there}
use Rattle.ft_claims.proofs.TableLemmas.{gap_counts, overlap_counts}

none_of : (n : ℕ) → not (nat_le 1 n) ≡ true → n ≡ 0
none_of n h = grind (arith, h)

pub two_of : (n : ℕ) → nat_le 2 n ≡ true → 2 ≤ n
two_of n h = grind (arith, h)

of_two : (n : ℕ) → 2 ≤ n → nat_le 2 n ≡ true
of_two n h = grind (arith, h)

-- out of range by the test, and by the definition
is_out : (r : ℤ × ℤ) (z : ℤ) → (int_lt z r.0 || int_lt r.1 z) ≡ true → IsWithin r z → ⊥
is_out r z h w = grind (arith, ints, h, w.0, w.1)

is_in : (r : ℤ × ℤ) (z : ℤ) → (int_lt z r.0 || int_lt r.1 z) ≡ false → IsWithin r z
is_in r z h = (grind (arith, ints, h), grind (arith, ints, h))

pub out_by : (r : ℤ × ℤ) (z : ℤ) → (IsWithin r z → ⊥) → (int_lt z r.0 || int_lt r.1 z) ≡ true
out_by r z h = ⊎_elim (λ is. is) (λ isnt. absurd (h (is_in r z isnt))) (cases_Bool (int_lt z r.0 || int_lt r.1 z))

module _ (S : Tables) (k : ℕ) (table : Table) (there : slice_get S.tables k ≡ Some table) where
  module _ (frame : Frame) (σ : ℕ → ℤ) where
    abbrev V : View
    V = view S frame σ

    gap_shown : IsTrue (claim_true σ (gap_node S frame table.grid)) → Shows S gap table.grid V
    gap_shown h =
        let some = some_target table.grid (shaped S k table there) in
        (some.0, some.1, none_of _ (sym (gap_counts S frame σ some.0 table.grid (regular S k table there some.0 some.1) some.1) ∙ h))

    gap_claimed : Shows S gap table.grid V → IsTrue (claim_true σ (gap_node S frame table.grid))
    gap_claimed shown =
        gap_counts S frame σ shown.0 table.grid (regular S k table there shown.0 shown.1) shown.1 ∙ ap (λ n. not (nat_le 1 n)) shown.2

    overlap_shown : IsTrue (claim_true σ (overlap_node S frame table.grid)) → Shows S overlap table.grid V
    overlap_shown h =
        let some = some_target table.grid (shaped S k table there) in
        (some.0, some.1, two_of _ (sym (overlap_counts S frame σ some.0 table.grid (regular S k table there some.0 some.1) some.1) ∙ h))

    overlap_claimed : Shows S overlap table.grid V → IsTrue (claim_true σ (overlap_node S frame table.grid))
    overlap_claimed shown =
        overlap_counts S frame σ shown.0 table.grid (regular S k table there shown.0 shown.1) shown.1 ∙ of_two _ shown.2

    abbrev test : Cell → Bool
    test cell = is_outside S frame σ (slice_get S.vars cell.target) cell

    range_shown : IsTrue (claim_true σ (range_node S frame (cells table.grid))) → OutOfRange S table.grid V
    range_shown h =
        let one = of_any test (cells table.grid) (sym (range_says S frame σ (cells table.grid)) ∙ h) in
        let v = target_there S k table there one.1.target (target_defined table.grid one.0 one.1 one.2) in
        let both = and_parts (cell_holds V one.1) _ (sym (ap (λ o. is_outside S frame σ o one.1) v.1) ∙ one.3) in
        let at = in-filtered (cell_holds V) (cells table.grid) one.0 one.1 one.2 both.0 in
        record {
          place = at.0;
          cell = one.1;
          variable = v.0;
          holds = at.1;
          its = v.1;
          outside =
              is_out v.0.range (value V one.1.term) both.1;
        }

    range_claimed : OutOfRange S table.grid V → IsTrue (claim_true σ (range_node S frame (cells table.grid)))
    range_claimed shown =
        let at = of-filtered (cell_holds V) (cells table.grid) shown.place shown.cell shown.holds in
        let holds = of_filter (cell_holds V) (cells table.grid) shown.place shown.cell shown.holds in
        range_says S frame σ (cells table.grid)
        ∙ some_of test (cells table.grid) at.0 shown.cell at.1
        (ap (λ o. is_outside S frame σ o shown.cell) shown.its ∙ and_from _ _ holds
        (out_by shown.variable.range (value V shown.cell.term) shown.outside))

    node_says : (fault : Fault) → IsTrue (claim_true σ (fault_node S frame fault table.grid)) ↔ Shows S fault table.grid V
    node_says gap = (gap_shown, gap_claimed)
    node_says overlap = (overlap_shown, overlap_claimed)
    node_says range = (range_shown, range_claimed)

  module _ (laws : Laws) where
    -- views that agree on what the table reads show the same faults of it
    shown_alike : (U V : View) → AllSame U V (grid_reads table.grid) → (fault : Fault) → Shows S fault table.grid V
        → Shows S fault table.grid U
    shown_alike U V same gap shown = (
      shown.0,
      shown.1,
      ap length (laws.same_holding U V (cells_for shown.0 table.grid)
          (λ r c. same r (laws.own_reads table.grid shown.0 r c))) ∙ shown.2,
    )
    shown_alike U V same overlap shown =
        let e = ap length (laws.same_holding U V (cells_for shown.0 table.grid) (λ r c. same r (laws.own_reads table.grid shown.0 r c))) in
        (shown.0, shown.1, subst (λ n. 2 ≤ n) (sym e) shown.2)
    shown_alike U V same range shown =
        let at = of-filtered (cell_holds V) (cells table.grid) shown.place shown.cell shown.holds in
        let holds = of_filter (cell_holds V) (cells table.grid) shown.place shown.cell shown.holds in
        let alike = laws.same_cell U V shown.cell (λ r c. same r (laws.cells_read table.grid at.0 shown.cell r at.1 c)) in
        let here = in-filtered (cell_holds U) (cells table.grid) at.0 shown.cell at.1 (alike.0 ∙ holds) in
        record {
          place = here.0;
          cell = shown.cell;
          variable = shown.variable;
          holds = here.1;
          its = shown.its;
          outside = λ w. shown.outside (subst (IsWithin shown.variable.range) alike.1 w);
        }

    module _ (ms : List ℕ) (are : AreReadMemories S (grid_reads table.grid) ms) where
      met_is_shown : (fault : Fault) (σ : ℕ → ℤ) → MeetsAll S (cover_parts S fault table.grid ms) σ
          → IsLocal S (grid_reads table.grid) (view S (cover_frame S) σ) × Shows S fault table.grid (view S (cover_frame S) σ)
      met_is_shown fault σ meets =
          let both = and_parts (claim_true σ (fault_node S (cover_frame S) fault table.grid))
          (list_all (claim_true σ) (links S (cover_frame S) ms)) meets.are in
          (local_from S (grid_reads table.grid) ms are σ meets.spans both.1, (node_says (cover_frame S) σ fault).0 both.0)

      shown_is_met : (fault : Fault) (V : View) → IsLocal S (grid_reads table.grid) V → Shows S fault table.grid V
          → MeetsAs S table fault ms V
      shown_is_met fault V local shown =
          let same : AllSame (view S (cover_frame S) (cover_numbers S V)) V (grid_reads table.grid) =
          λ r c. cover_same S V r (table_ageless S k table there r c) in
          record {
            numbers = cover_numbers S V;
            meets = record {
              spans = cover_within S V (grid_reads table.grid) local;
              are = and_from _ _
                  ((node_says (cover_frame S) (cover_numbers S V) fault).1
                  (shown_alike (view S (cover_frame S) (cover_numbers S V)) V same fault shown))
                  (links_true S (grid_reads table.grid) ms are laws V local);
            };
            same = same;
          }

  -- a proper table shows no fault
  one_alone : (V : View) → IsProper S table → IsLocal S (grid_reads table.grid) V → (x : ℕ) → defines table.grid x ≡ true
      → length (holding V (cells_for x table.grid)) ≡ 1
  one_alone V proper local x d = let v = target_there S k table there x d in (proper V local x v.0 v.1 d).one

  proper_shows : IsProper S table → (fault : Fault) (V : View) → IsLocal S (grid_reads table.grid) V → Shows S fault table.grid V → ⊥
  proper_shows proper gap V local shown = let one = one_alone V proper local shown.0 shown.1 in let none = shown.2 in
      omega (arith, one, none)
  proper_shows proper overlap V local shown = let one = one_alone V proper local shown.0 shown.1 in let two = shown.2 in
      omega (arith, one, two)
  proper_shows proper range V local shown =
      let at = of-filtered (cell_holds V) (cells table.grid) shown.place shown.cell shown.holds in
      let holds = of_filter (cell_holds V) (cells table.grid) shown.place shown.cell shown.holds in
      let x = shown.cell.target in
      let for_x = in-filtered (λ (c : Cell). c.target == x) (cells table.grid) at.0 shown.cell at.1 (eq-eqb x x refl) in
      let here = in-filtered (cell_holds V) (cells_for x table.grid) for_x.0 shown.cell for_x.1 holds in
      shown.outside (all_at (λ cell. IsWithin shown.variable.range (value V cell.term)) (holding V (cells_for x table.grid))
      (proper V local x shown.variable shown.its (target_defined table.grid at.0 shown.cell at.1)).in_range here.0 shown.cell here.1)
    where
      all_at : {A : Type 0} (P : A → Type 0) (xs : List A) → All P xs → (i : ℕ) (a : A) → slice_get xs i ≡ Some a → P a
      all_at P xs all i a e = subst P (get_or_from_slice_get xs i a a e) (all i a (slice_get_within xs i a e))

  -- a table that shows none is proper
  just_one : (n : ℕ) → (n ≡ 0 → ⊥) → (2 ≤ n → ⊥) → n ≡ 1
  just_one zero a b = absurd (a refl)
  just_one (suc zero) a b = refl
  just_one (suc (suc n)) a b = absurd (b (omega arith))

  shows_none : ((fault : Fault) (V : View) → IsLocal S (grid_reads table.grid) V → Shows S fault table.grid V → ⊥) → IsProper S table
  shows_none none V local x v is d = record {
    one = just_one (length (holding V (cells_for x table.grid))) (λ e. none gap V local (x, d, e)) (λ e. none overlap V local (x, d, e));
    in_range = λ i c l.
        let cell = slice_index_or (holding V (cells_for x table.grid)) i c in
        let at = slice_get-get_or (holding V (cells_for x table.grid)) i c l in
        let for_x = of-filtered (cell_holds V) (cells_for x table.grid) i cell at in
        let holds = of_filter (cell_holds V) (cells_for x table.grid) i cell at in
        let target = eqb-true cell.target x (of_filter (λ (c : Cell). c.target == x) (cells table.grid) for_x.0 cell for_x.1) in
        let place = of-filtered (λ (c : Cell). c.target == x) (cells table.grid) for_x.0 cell for_x.1 in
        let here = in-filtered (cell_holds V) (cells table.grid) place.0 cell place.1 holds in
        ⊎_elim
        (λ out. absurd (none range V local (record {
          place = here.0;
          cell = cell;
          variable = v;
          holds = here.1;
          its = ap (slice_get S.vars) target ∙ is;
          outside = is_out v.range (value V cell.term) out;
        })))
        (λ inside. is_in v.range (value V cell.term) inside)
        (cases_Bool (int_lt (value V cell.term) v.range.0 || int_lt v.range.1 (value V cell.term)));
  }

pub nodes_say : NodesSay
nodes_say = node_says

pub met_shown : Laws → MetIsShown
met_shown laws S k table there ms are = met_is_shown S k table there laws ms are

pub shown_met : Laws → ShownIsMet
shown_met laws S k table there ms are = shown_is_met S k table there laws ms are

pub proper_none : ProperShowsNone
proper_none S k table there = (proper_shows S k table there, shows_none S k table there)

pub proper_unmet : Laws → ProperIsUnmet
proper_unmet laws S k table there ms are = (
  (λ proper fault σ meets. let shown = met_is_shown S k table there laws ms are fault σ meets in
      proper_shows S k table there proper fault (view S (cover_frame S) σ) shown.0 shown.1),
  (λ unmet. shows_none S k table there (λ fault V local shown. let met = shown_is_met S k table there laws ms are fault V local shown in
      unmet fault met.numbers met.meets)),
)

-- views that agree on what a table reads show the same faults of it
pub shown_again : Laws → (S : Tables) (k : ℕ) (table : Table) → slice_get S.tables k ≡ Some table → (U V : View)
    → AllSame U V (grid_reads table.grid) → (fault : Fault) → Shows S fault table.grid V → Shows S fault table.grid U
shown_again laws S k table there = shown_alike S k table there laws
