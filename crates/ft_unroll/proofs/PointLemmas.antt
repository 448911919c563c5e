-- The points of the formulas of lists, and the lists that have their values.
use Rattle.std.proofs.Common.{◌≡◌, ◌∙◌, sym, ap, subst, ℕ, suc, ◌+◌, ◌-◌, ◌*◌, ◌<◌, ℤ, Bool, true, false, cond, List, []}
use Rattle.std.proofs.Common.{length, slice_index_or, arith, ⊎_elim}
use Rattle.std.proofs.lemmas.Bool.{cases_Bool, cond-true, cond-false}
use Rattle.std.proofs.lemmas.Nat.{mul-le}
use Rattle.std.proofs.lemmas.Option.{slice_get_within}
use Rattle.std.proofs.Math.Nat.{suc-mul}
use Rattle.ft_base.specs.Interval.{IsWithin}
use Rattle.ft_core.specs.declared.tables.Tables.{Tables}
use Rattle.ft_core.specs.declared.tables.Var.{Var}
use Rattle.ft_core.specs.declared.tables.Section.TheVariants as section
use Rattle.ft_core.specs.meaning.Kinds.{monitored}
use Rattle.ft_linear.specs.meaning.Form.{InArea}
use Rattle.ft_mean.specs.laws.Whole.{joint, WholeSplits}
use Rattle.ft_mean.specs.meaning.Allowed.{IsMonitored}
use Rattle.ft_mean.specs.meaning.Reading.{Reading, Scans, IsVar, reading_of}
use Rattle.ft_mean.specs.meaning.Refines.{FirstDiffers}
use Rattle.ft_claims.specs.declared.claim.Claim.{Claim}
use Rattle.ft_claims.specs.laws.FormulaLaws.{Gives}
use Rattle.ft_claims.specs.meaning.Areas.{is_used, finished}
use Rattle.ft_claims.specs.meaning.Names.{width}
use Rattle.ft_claims.specs.meaning.Points.{IsPointOf}
use Rattle.ft_oblige.specs.meaning.Lists.{list_spans, list_parts, difference_parts}
use Rattle.ft_unroll.specs.laws.Laws.{Laws}
use Rattle.ft_unroll.specs.laws.ListLaws.{PointsHaveLists, PointsAllow, ListsAreAllowed, PointsDiffer, DifferencesHavePoints}
use Rattle.ft_unroll.specs.meaning.Unrolling.{reading_by, MeetsScans, list_state, HasValues}
use Rattle.ft_unroll.proofs.PartLemmas.{nat_from, nat_into, difference_from, difference_into}
use Rattle.ft_unroll.proofs.RollLemmas.{roll_now, roll_spans, nat_met, differs_meets}
use Rattle.ft_unroll.proofs.ScanLists.{same_list}
use Rattle.ft_unroll.proofs.UnrollLemmas.{nat_holds, list_whole, list_defined}

-- a name of one of n scans has a span
pub name_low : (laws : Laws) (S : Tables) (n t x : ℕ) → t < n → x < length S.vars → t * width S + x < length (list_spans S n)
name_low laws S n t x l low =
    let long = laws.lists_are_names S n in
    let end = mul-le (suc t) (width S) n (width S) (omega (arith, l)) (omega arith) in
    let more = suc-mul t (width S) in
    omega (arith, long, end, more, low)

pub points_have_lists : Laws → PointsHaveLists
points_have_lists laws S n parts p some point =
    let at = laws.points_are_of_numbers (list_spans S n) parts (laws.lists_have_some S n) p point in
    let spans = (laws.lists_are_spans S n at.0).1 at.1 in
    let rows = laws.has_rows S monitored (reading_by S at.0) n in
    let long = rows.1.long in (
      rows.0,
      rows.1.long,
      record {
        nonempty = λ e. let none : length rows.0 ≡ 0 = ap (λ (h : Scans). length h) e in omega (arith, some, long, none);
        values = record {
          widths = λ t l. rows.1.widths t (omega (arith, l, long));
          ranges = λ t x v l is. subst (IsWithin v.range) (sym (rows.1.tells t x v (omega (arith, l, long)) is))
              (spans.values t x v (omega (arith, l, long)) is.0);
        };
      },
      (λ t x v l is has. at.2 (t * width S + x) (name_low laws S n t x l (slice_get_within S.vars x v is.0)) has
          ∙ sym (rows.1.tells t x v l is)),
    )

-- the values of a point at the names that the formula has, and of a list at all others
module _ (laws : Laws) (S : Tables) (n : ℕ) (parts : List Claim) (p : List ℤ) (point : IsPointOf (finished (list_spans S n) parts) p)
    (h : Scans) (long : length h ≡ n) (listed : IsMonitored S h) (has : HasValues S n parts p h) where
  abbrev of_list : Reading
  of_list = reading_of S monitored h

  told : (σ : ℕ → ℤ) × InArea (list_spans S n) σ × Gives (list_spans S n) parts p σ
  told = laws.points_are_of_numbers (list_spans S n) parts (laws.lists_have_some S n) p point

  pub mixed : ℕ → ℤ
  mixed u = cond (is_used (length (list_spans S n)) parts u) (told.0 u) (list_state S of_list u)

  list_area : InArea (list_spans S n) (list_state S of_list)
  list_area = (laws.lists_are_spans S n (list_state S of_list)).0
      (roll_spans laws S of_list n (λ t x v l is. laws.in_range S monitored h listed.values t x v (omega (arith, l, long)) is))

  pub mixed_area : InArea (list_spans S n) mixed
  unfolding mixed
  mixed_area u s is = either (is_used (length (list_spans S n)) parts u)
    where
      either : (b : Bool) → IsWithin s (cond b (told.0 u) (list_state S of_list u))
      either true = told.1 u s is
      either false = list_area u s is

  pub mixed_gives : Gives (list_spans S n) parts p mixed
  unfolding mixed
  mixed_gives u l uses = told.2 u l uses ∙ sym (cond-true (is_used (length (list_spans S n)) parts u) (told.0 u)
      (list_state S of_list u) uses)

  pub mixed_tells : (t x : ℕ) (v : Var) → t < n → IsVar S monitored x v → reading_by S mixed t x ≡ reading_of S monitored h t x
  unfolding mixed
  mixed_tells t x v l is =
      let low = slice_get_within S.vars x v is.0 in ⊎_elim
      (λ uses. sym (mixed_gives (t * width S + x) (name_low laws S n t x l low) uses) ∙ has t x v l is uses)
      (λ spare. cond-false (is_used (length (list_spans S n)) parts (t * width S + x)) (told.0 (t * width S + x))
      (list_state S of_list (t * width S + x)) spare ∙ roll_now laws S of_list t x low)
      (cases_Bool (is_used (length (list_spans S n)) parts (t * width S + x)))

pub points_allow : Laws → PointsAllow
points_allow laws S n p point h long listed has =
    let σ = mixed laws S n (list_parts S n) p point h long listed has in
    let all = laws.points_tell (list_spans S n) (list_parts S n) (laws.lists_good S n) p point σ
    (mixed_gives laws S n (list_parts S n) p point h long listed has) in
    record {
      monitored_list = listed;
      clauses = λ t l.
          let inside : t < n = omega (arith, l, long) in
          sym (laws.same_nat S (reading_by S σ) (reading_of S monitored h) t (λ j x v low is.
          mixed_tells laws S n (list_parts S n) p point h long listed has j x v (omega (arith, low, inside)) is))
          ∙ nat_holds laws S σ n (nat_from S σ n all) t inside;
    }

pub lists_are_allowed : Laws → ListsAreAllowed
lists_are_allowed laws S n some = (
  (λ at.
      let list = points_have_lists laws S n (list_parts S n) at.0 some at.1 in
      (list.0, list.1, points_allow laws S n at.0 at.1 list.0 list.1 list.2 list.3)),
  (λ list.
      let ρ = reading_of S monitored list.0 in
      let long = list.1 in
      let spans = roll_spans laws S ρ n
      (λ t x v l is. laws.in_range S monitored list.0 list.2.monitored_list.values t x v (omega (arith, l, long)) is) in (
        _,
        laws.numbers_make_points (list_spans S n) (list_parts S n) (laws.lists_good S n) (list_state S ρ)
            ((laws.lists_are_spans S n (list_state S ρ)).0 spans)
            (nat_into S (list_state S ρ) n (λ t l. nat_met laws S ρ t (list.2.clauses t (omega (arith, l, long))))),
      )),
)

-- a list that a whole reading splits into is each one that has its monitored values
same_split : (laws : Laws) (S : Tables) (n : ℕ) (ρ : Reading) (w : WholeSplits S n ρ) (h : Scans) → length h ≡ n → IsMonitored S h
    → ((t x : ℕ) (v : Var) → t < n → IsVar S monitored x v → ρ t x ≡ reading_of S monitored h t x) → w.h ≡ h
same_split laws S n ρ w h long listed tells =
    let w_long = w.long in
    same_list [] w.h h (w.long ∙ sym long) (λ t l.
    let inside : t < n = omega (arith, l, w_long) in
    laws.same_rows S monitored (slice_index_or w.h t []) (slice_index_or h t []) (w.allowed.monitored_list.values.widths t l)
    (listed.values.widths t (omega (arith, inside, long))) (λ x v is.
    sym (laws.at_place S monitored w.h t x v is) ∙ w.tells_given t x v inside is ∙ tells t x v inside is
    ∙ laws.at_place S monitored h t x v is))

pub points_differ : Laws → PointsDiffer
points_differ laws S proper n p some point h long listed has =
    let parts = difference_parts S n in
    let σ = mixed laws S n parts p point h long listed has in
    let all = laws.points_tell (list_spans S n) parts (laws.differences_good S n some) p point σ
    (mixed_gives laws S n parts p point h long listed has) in
    let met = difference_from S σ n ((laws.lists_are_spans S n σ).1 (mixed_area laws S n parts p point h long listed has)) all in
    let w = laws.wholes_split S n (reading_by S σ) some (list_whole laws S n σ met.0) in
    let d = met.1 in
    let last : n - 1 < n = omega (arith, some) in
    subst (λ g. FirstDiffers S g (n - 1))
    (same_split laws S n (reading_by S σ) w h long listed (mixed_tells laws S n parts p point h long listed has))
    (laws.splits_differ S proper n (reading_by S σ) w (n - 1) d.variable d.declared last
    (λ t y u l on. sym (list_defined laws S n σ met.0 section.Out t y (omega (arith, l))) ∙ d.same_before t y u l on)
    d.is_controlled (sym (list_defined laws S n σ met.0 section.Out (n - 1) d.variable last) ∙ d.differs))

pub differences_have_points : Laws → DifferencesHavePoints
differences_have_points laws S proper n some = (
  (λ at.
      let list = points_have_lists laws S n (difference_parts S n) at.0 some at.1 in
      (list.0, list.1, points_differ laws S proper n at.0 some at.1 list.0 list.1 list.2 list.3)),
  (λ list.
      let d = list.2 in
      let σ = list_state S (joint S d.r d.s) in
      let met = differs_meets laws S proper list.0 (n - 1) d in
      let scans : MeetsScans S n (list_state S (joint S d.r d.s)) =
      subst (λ k. MeetsScans S k (list_state S (joint S d.r d.s))) list.1 met.0 in (
        _,
        laws.numbers_make_points (list_spans S n) (difference_parts S n) (laws.differences_good S n some) σ
            ((laws.lists_are_spans S n σ).0 scans.spans) (difference_into S σ n scans met.1),
      )),
)
