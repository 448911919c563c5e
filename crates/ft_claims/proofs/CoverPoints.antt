-- Points of the formulas of coverage, and the local views that have their values.
use Rattle.std.proofs.Common.{◌≡◌, ◌∙◌, sym, ap, subst, ℕ, ◌+◌, ◌-◌, ◌<◌, ℤ, pos, ◌≤ℤ◌, cond, List, [], ◌∷◌, ◌++◌, map, length, Some}
use Rattle.std.proofs.Common.{slice_get, arith, ⊎_elim}
use Rattle.std.specs.Prelude.{◌==◌}
use Rattle.std.specs.Ordering.{int_eq}
use Rattle.std.specs.List.{list_all}
use Rattle.std.proofs.lemmas.Int.{ints}
use Rattle.std.proofs.lemmas.Bool.{cases_Bool, cases_lt, cond-true, cond-false, and_parts, eqb-true}
use Rattle.std.proofs.lemmas.Option.{get_or_from_slice_get}
use Rattle.ft_base.specs.Interval.{IsWithin}
use Rattle.ft_core.specs.declared.tables.Tables.{Tables}
use Rattle.ft_core.specs.declared.tables.Table.{Table}
use Rattle.ft_core.specs.meaning.Reads.{Read, at_now, at_before, of_memory, of_age, grid_reads}
use Rattle.ft_core.specs.laws.Places.{on-left}
use Rattle.ft_linear.specs.meaning.Form.{InArea, span_at, values_at}
use Rattle.ft_mean.specs.laws.EvaluationLaws.{Same}
use Rattle.ft_mean.specs.meaning.Proper.{IsLocal}
use Rattle.ft_mean.specs.meaning.Value.{View}
use Rattle.ft_claims.specs.declared.claim.Claim.{Claim}
use Rattle.ft_claims.specs.laws.FormulaLaws.{Gives}
use Rattle.ft_claims.specs.laws.Laws.{Laws}
use Rattle.ft_claims.specs.laws.PointLaws.{cover_obliged, HasValues, PointsAreLocal, PointsShow, ShownHasPoint, ProperHasNoPoint}
use Rattle.ft_claims.specs.laws.ValueLaws.{PointsAreOfNumbers}
use Rattle.ft_claims.specs.meaning.Areas.{Spans, quotient_span, with_spans, is_one_of, is_used, used, place_in, finished}
use Rattle.ft_claims.specs.meaning.Claims.{claim_true}
use Rattle.ft_claims.specs.meaning.Coverage.{Fault, cover_frame, cover_parts, fault_node, links}
use Rattle.ft_claims.specs.meaning.Forms.{Entries}
use Rattle.ft_claims.specs.meaning.Formulas.{entries_of, fill}
use Rattle.ft_claims.specs.meaning.Names.{width, memo, view}
use Rattle.ft_claims.specs.meaning.Numbers.{numbers_with, cover_numbers}
use Rattle.ft_claims.specs.meaning.Points.{IsPointOf}
use Rattle.ft_claims.specs.meaning.Shown.{Shows, AreReadMemories}
use Rattle.ft_claims.specs.meaning.Spans.{InCoverSpans, MeetsAll, cover_spans}
use Rattle.ft_claims.proofs.CoverGood.{parts_good}
use Rattle.ft_claims.proofs.CoverSpans.{cover_long, cover_in_area, cover_from_area, some_in_span}
use Rattle.ft_claims.proofs.GatherLemmas.{place-found}
use Rattle.ft_claims.proofs.Lists.{mapped-at}
use Rattle.ft_claims.proofs.LocalLemmas.{same_again}
use Rattle.ft_claims.proofs.NumberLemmas.{number_now, number_kept, number_past, number_kept_past}
use Rattle.ft_claims.proofs.ObligedLemmas.{points_tell, makes_point, in-filter}
use Rattle.ft_claims.proofs.ReadsThere.{table_ageless}
use Rattle.ft_claims.proofs.ShownLemmas.{nodes_say, met_shown, shown_met, proper_none, shown_again}

-- spans with more behind them
with-more : (T : Entries) (spans : Spans) (u : ℕ) (s : ℤ × ℤ) → slice_get spans u ≡ Some s → slice_get (with_spans spans T) u ≡ Some s
with-more [] spans u s is = is
with-more (e ∷ T) spans u s is = with-more T (spans ++ quotient_span spans e ∷ []) u s (on-left spans (quotient_span spans e ∷ []) u s is)

-- numbers for all names from a point: its values, and else the least of the span
module _ (spans : Spans) (parts : List Claim) (p : List ℤ) where
  abbrev us : List ℕ
  us = used (length spans) parts

  abbrev pub filled : ℕ → ℤ
  filled u = cond (is_one_of us u) (values_at p (place_in us u)) (span_at spans u).0

  filled_in : ((u : ℕ) (s : ℤ × ℤ) → slice_get spans u ≡ Some s → s.0 ≤ℤ s.1) → IsPointOf (finished spans parts) p → InArea spans filled
  filled_in some point u s is = ⊎_elim
      (λ one.
      let at = place-found (λ v. v == u) us one in
      let same = eqb-true at.0 u at.2 in
      let T = entries_of (length spans) parts in
      let span : span_at (with_spans spans T) u ≡ s = get_or_from_slice_get (with_spans spans T) u s (pos 0, pos 0)
      (with-more T spans u s is) in
      let there = mapped-at (span_at (with_spans spans T)) us (place_in us u) at.0 at.1
      ∙ ap (λ v. Some (span_at (with_spans spans T) v)) same ∙ ap Some span in
      subst (IsWithin s) (sym (cond-true (is_one_of us u) (values_at p (place_in us u)) (span_at spans u).0 one))
      (point.in_area (place_in us u) s there))
      (λ none.
      let low : (span_at spans u).0 ≡ s.0 = ap (λ (r : ℤ × ℤ). r.0) (get_or_from_slice_get spans u s (pos 0, pos 0) is) in
      subst (IsWithin s) (sym (cond-false (is_one_of us u) (values_at p (place_in us u)) (span_at spans u).0 none ∙ low))
      (let up = some u s is in (omega (arith, ints), up)))
      (cases_Bool (is_one_of us u))

-- at each name that the formula has they are its values
filled_gives : (spans : Spans) (parts : List Claim) (p : List ℤ) → Gives spans parts p (filled spans parts p)
filled_gives spans parts p u low is =
    let T = entries_of (length spans) parts in
    let one = in-filter (is_used (length spans) parts) 0 (length spans + length T) u (omega arith) (omega (arith, low)) is in
    sym (cond-true (is_one_of (used (length spans) parts) u) (values_at p (place_in (used (length spans) parts) u)) (span_at spans u).0 one)

pub points_of_numbers : PointsAreOfNumbers
points_of_numbers spans parts some p point = (filled spans parts p, filled_in spans parts p some point, filled_gives spans parts p)

-- a bit as a number
bit_again : (z : ℤ) → IsWithin (pos 0, pos 1) z → cond (int_eq z (pos 1)) (pos 1) (pos 0) ≡ z
bit_again z w = ⊎_elim
    (λ is. cond-true (int_eq z (pos 1)) (pos 1) (pos 0) is ∙ grind (arith, ints, is))
    (λ isnt. cond-false (int_eq z (pos 1)) (pos 1) (pos 0) isnt ∙ grind (arith, ints, isnt, w.0, w.1))
    (cases_Bool (int_eq z (pos 1)))

sym-same : (V W : View) (r : Read) → Same V W r → Same W V r
sym-same V W (at_now x) e = sym e
sym-same V W (at_before x) e = sym e
sym-same V W (of_memory m) e = sym e
sym-same V W (of_age m) e = sym e

-- the names of two scans by their kinds
module _ (S : Tables) (P : ℕ → Type 0) (now : (x : ℕ) → x < length S.vars → P (0 + x))
    (kept : (m : ℕ) → m < length S.memories → P (memo S 0 m))
    (past : (x : ℕ) → x < length S.vars → P (width S + x)) where
  by_kind : (u : ℕ) → u < width S + length S.vars → P u
  by_kind u l = ⊎_elim
      (λ var. let e : 0 + u ≡ u = omega arith in subst P e (now u var))
      (λ not_var. ⊎_elim
      (λ memory. let e : memo S 0 (u - length S.vars) ≡ u = omega (arith, not_var) in
      subst P e (kept (u - length S.vars) (omega (arith, not_var, memory))))
      (λ later. let e : width S + (u - width S) ≡ u = omega (arith, later) in subst P e (past (u - width S) (omega (arith, later, l))))
      (cases_lt u (width S)))
      (cases_lt u (length S.vars))

abbrev bits : View → ℕ → ℤ
bits V m = cond (V.memory m) (pos 1) (pos 0)

-- the numbers of the view that numbers in their spans tell are these, but for the memories of the scan before
told_numbers : (S : Tables) (σ : ℕ → ℤ) → InCoverSpans S σ → (u : ℕ) → u < width S + length S.vars
    → σ u ≡ cover_numbers S (view S (cover_frame S) σ) u
told_numbers S σ spans = let V : View = view S (cover_frame S) σ in by_kind S (λ u. σ u ≡ cover_numbers S (view S (cover_frame S) σ) u)
    (λ x l. sym (number_now S V.now (bits V) V.before (λ m. pos 0) x l))
    (λ m l. sym (number_kept S V.now (bits V) V.before (λ m. pos 0) m l ∙ bit_again (σ (memo S 0 m)) (spans.bits_now m l)))
    (λ x l. sym (number_past S V.now (bits V) V.before (λ m. pos 0) x l))

-- what a view has doesn't hang on the numbers of memories of the scan before
same_numbers : (S : Tables) (V : View) (kept_past : ℕ → ℤ) (u : ℕ) → u < width S + length S.vars
    → cover_numbers S V u ≡ numbers_with S V kept_past u
same_numbers S V kept_past = by_kind S (λ u. cover_numbers S V u ≡ numbers_with S V kept_past u)
    (λ x l. number_now S V.now (bits V) V.before (λ m. pos 0) x l ∙ sym (number_now S V.now (bits V) V.before kept_past x l))
    (λ m l. number_kept S V.now (bits V) V.before (λ m. pos 0) m l ∙ sym (number_kept S V.now (bits V) V.before kept_past m l))
    (λ x l. number_past S V.now (bits V) V.before (λ m. pos 0) x l ∙ sym (number_past S V.now (bits V) V.before kept_past x l))

module _ (laws : Laws) (S : Tables) (k : ℕ) (table : Table) (there : slice_get S.tables k ≡ Some table) (ms : List ℕ)
    (are : AreReadMemories S (grid_reads table.grid) ms) (fault : Fault) where
  abbrev spans : Spans
  spans = cover_spans S

  abbrev parts : List Claim
  parts = cover_parts S fault table.grid ms

  module _ (p : List ℤ) (point : IsPointOf (cover_obliged S fault table.grid ms) p) where
    abbrev σ : ℕ → ℤ
    σ = filled spans parts p

    values : Gives spans parts p σ
    values = filled_gives spans parts p

    meets : MeetsAll S parts σ
    meets = record {
      spans = cover_from_area S σ (filled_in spans parts p (some_in_span S) point);
      are = points_tell spans parts (parts_good laws S k table there ms are fault) p point σ values;
    }

    point_local : (V : View) × IsLocal S (grid_reads table.grid) V × HasValues S fault table.grid ms p V
    point_local =
        let shown = met_shown laws S k table there ms are fault σ meets in (
          view S (cover_frame S) σ,
          shown.0,
          (λ u l is. values u (let long = cover_long S in omega (arith, l, long)) is ∙ told_numbers S σ meets.spans u l),
        )

    point_shows : (V : View) → HasValues S fault table.grid ms p V → Shows S fault table.grid V
    point_shows V has =
        let kept_past : ℕ → ℤ = λ m. values_at p (place_in (used (length spans) parts) (memo S (width S) m)) in
        let τ : ℕ → ℤ = numbers_with S V kept_past in
        let gives : Gives spans parts p τ = λ u low is. ⊎_elim
        (λ early. has u early is ∙ same_numbers S V kept_past u early)
        (λ late. let m = u - (width S + length S.vars) in
        let e : memo S (width S) m ≡ u = omega (arith, late) in
        ap (λ (n : ℕ). values_at p (place_in (used (length spans) parts) n)) (sym e)
        ∙ sym (number_kept_past S V.now (λ m. cond (V.memory m) (pos 1) (pos 0)) V.before kept_past m) ∙ ap τ e)
        (cases_lt u (width S + length S.vars)) in
        let met = points_tell spans parts (parts_good laws S k table there ms are fault) p point τ gives in
        let both = and_parts (claim_true τ (fault_node S (cover_frame S) fault table.grid))
        (list_all (claim_true τ) (links S (cover_frame S) ms)) met in
        shown_again laws S k table there V (view S (cover_frame S) τ) (λ r c. sym-same (view S (cover_frame S) τ) V r
        (same_again S V kept_past r (table_ageless S k table there r c))) fault
        ((nodes_say S k table there (cover_frame S) τ fault).0 both.0)

  shown_point : (V : View) → IsLocal S (grid_reads table.grid) V → Shows S fault table.grid V → (p : List ℤ)
      × IsPointOf (cover_obliged S fault table.grid ms) p
  shown_point V local shown =
      let met = shown_met laws S k table there ms are fault V local shown in (
        map (fill (length spans) met.numbers (entries_of (length spans) parts)) (used (length spans) parts),
        makes_point spans parts (parts_good laws S k table there ms are fault) met.numbers (cover_in_area S met.numbers met.meets.spans)
            met.meets.are,
      )

pub points_local : Laws → PointsAreLocal
points_local laws S k table there ms are fault p point = point_local laws S k table there ms are fault p point

pub points_show : Laws → PointsShow
points_show laws S k table there ms are fault p point = point_shows laws S k table there ms are fault p point

pub shown_has : Laws → ShownHasPoint
shown_has laws S k table there ms are fault = shown_point laws S k table there ms are fault

pub proper_pointless : Laws → ProperHasNoPoint
proper_pointless laws S k table there ms are = (
  (λ proper fault p point. let at = point_local laws S k table there ms are fault p point in
      (proper_none S k table there).0 proper fault at.0 at.1 (point_shows laws S k table there ms are fault p point at.0 at.2)),
  (λ none. (proper_none S k table there).1 (λ fault V local shown.
      let p = shown_point laws S k table there ms are fault V local shown in none fault p.0 p.1)),
)
