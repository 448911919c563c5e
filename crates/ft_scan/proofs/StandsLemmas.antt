-- A scanner that stands for a trace stands for the one over a scan more once the scan was taken.
use Rattle.std.proofs.Common.{◌≡◌, ◌∙◌, sym, ap, subst, refl, ℕ, suc, ◌+◌, ◌<◌, ℤ, pos, false, List, [], ◌∷◌, ◌++◌, map, length, slice_get}
use Rattle.std.proofs.Common.{slice_index_or, Some, arith, ⊎_elim, true≢false}
use Rattle.std.specs.Prelude.{IsTrue}
use Rattle.std.proofs.lemmas.Bool.{cases_Bool}
use Rattle.std.proofs.lemmas.List.{length_push, get_or_push}
use Rattle.std.proofs.lemmas.Option.{slice_get_within, same_Some}
use Rattle.ft_base.specs.Interval.{IsWithin}
use Rattle.ft_core.specs.declared.tables.Tables.{Tables}
use Rattle.ft_core.specs.declared.tables.Var.{Var}
use Rattle.ft_core.specs.meaning.Kinds.{given_kinds, side_kinds, defined_kinds, section_of, count_of, place_of}
use Rattle.ft_core.specs.meaning.Reads.{at_now, of_memory}
use Rattle.ft_core.specs.checked.Sound.{is_memory_of}
use Rattle.ft_mean.specs.meaning.Fits.{Fits, side_reading}
use Rattle.ft_mean.specs.meaning.Proper.{AllProper}
use Rattle.ft_mean.specs.meaning.Reading.{Reading, Scans, IsListOf, IsVar, reading_of, before}
use Rattle.ft_scan.specs.declared.plan.Step.{Step}
use Rattle.ft_scan.specs.declared.plan.Step.TheVariants as step
use Rattle.ft_scan.specs.declared.frame.Frame.{Frame}
use Rattle.ft_scan.specs.steps.Plan.{Makes}
use Rattle.ft_scan.specs.steps.Passing.{passed}
use Rattle.ft_scan.specs.steps.Put.{ArePut, AreTold}
use Rattle.ft_scan.specs.steps.Stands.{Kept, Stands, rows_at}
use Rattle.ft_scan.specs.steps.Told.{IsScan, IsTold, IsRight, RunsFor}
use Rattle.ft_scan.proofs.ListedLemmas.{listed, listed_at, of_var}
use Rattle.ft_mean.specs.laws.Ends.{last-tells}
use Rattle.ft_scan.proofs.LongerLemmas.{list_longer}
use Rattle.ft_scan.proofs.RunLemmas.{runs_alike}
use Rattle.ft_scan.specs.laws.Laws.{Laws}

-- where the values are those at some places of a row, the row has them there
pub row_is : (row : List ℤ) (places : List ℕ) (values : List ℤ) → length values ≡ length places
    → ((k p : ℕ) → k < length places → slice_get places k ≡ Some p → slice_index_or values k (pos 0) ≡ slice_index_or row p (pos 0))
    → map (λ p. slice_index_or row p (pos 0)) places ≡ values
row_is row [] [] long told = refl
row_is row [] (v ∷ values) long told = absurd (omega (arith, long))
row_is row (p ∷ places) [] long told = absurd (omega (arith, long))
row_is row (p ∷ places) (v ∷ values) long told =
    let first = sym (told 0 p (omega arith) refl) in
    let others = row_is row places values (omega (arith, long)) (λ k q l e. told (suc k) q (omega (arith, l)) e) in
    λ i. first i ∷ others i

pub rows_at-push : (places : List ℕ) (scans : List (List ℤ)) (row values : List ℤ) → map (λ p. slice_index_or row p (pos 0)) places ≡ values
    → rows_at places (scans ++ row ∷ []) ≡ rows_at places scans ++ values ∷ []
rows_at-push places [] row values is = ap (λ r. r ∷ []) is
rows_at-push places (scan ∷ scans) row values is = ap (λ rest. map (λ p. slice_index_or scan p (pos 0)) places ∷ rest)
    (rows_at-push places scans row values is)

-- a scanner that was told these scans and keeps this goes on by a given row: with the next frame and the scans then told it tells the
-- values,

-- and stands for one scan more
pub record GoesOnBy (S : Tables) (sc : Kept) (past : List (List ℤ)) (given values : List ℤ) (next : Frame) (told : List (List ℤ)) : Type 0
  where
    pub given_is : rows_at sc.given told ≡ rows_at sc.given past ++ given ∷ []
    pub rows_are : rows_at sc.side_variables told ≡ rows_at sc.side_variables past ++ values ∷ []
    pub stands : Stands S (record { side = sc.side; steps = sc.steps; given = sc.given; side_variables = sc.side_variables; frame = next })
        (rows_at sc.given told) (rows_at sc.side_variables told)

module _ (L : Laws) (S : Tables) (proper : AllProper S) (sc : Kept) (earlier rows : Scans) (given : List ℤ)
    (stands : Stands S sc earlier rows)
    (in_range : IsListOf S (given_kinds sc.side) (given ∷ [])) where
  pub longer : (row : List ℤ) × Fits S sc.side (earlier ++ given ∷ []) (rows ++ row ∷ [])
  longer = L.longer S proper sc.side earlier rows given ((list_longer L) S (given_kinds sc.side) earlier given stands.fits.is_given
      in_range) stands.fits

  abbrev row : List ℤ
  row = longer.0

  fits : Fits S sc.side (earlier ++ given ∷ []) (rows ++ row ∷ [])
  fits = longer.1

  -- the reading of the trace over one given row more
  abbrev a : Reading
  a = side_reading S sc.side (rows ++ row ∷ [])

  abbrev n : ℕ
  n = length rows

  long : length (rows ++ row ∷ []) ≡ n + 1
  long = length_push rows row

  scan : IsScan S sc.side a n
  scan = record {
    in_range = λ j x v l e. L.in_range S (side_kinds sc.side) (rows ++ row ∷ []) fits.values j x v (omega (arith, l, long)) e;
    follows = fits.follows n (omega (arith, long));
  }

  same_past : (j x : ℕ) → j < n → side_reading S sc.side rows j x ≡ a j x
  same_past j x l = sym (L.in_front S (side_kinds sc.side) rows (row ∷ []) j x l)

  module _ (now : List ℤ) (put : ArePut sc.given given (length sc.given) sc.frame.now now) where
    given_value : (x : ℕ) (v : Var) → IsVar S (given_kinds sc.side) x v → slice_index_or now x (pos 0)
        ≡ reading_of S (given_kinds sc.side) (given ∷ []) 0 x
    given_value x v is =
        let at = (listed L) S (given_kinds sc.side) sc.given stands.given_places x v is in
        put.put (place_of (given_kinds sc.side) S.vars x) x (slice_get_within sc.given (place_of (given_kinds sc.side) S.vars x) x at) at
        ∙ sym (L.at_place S (given_kinds sc.side) (given ∷ []) 0 x v is)

    not_given : (x : ℕ) (v : Var) → slice_get S.vars x ≡ Some v → given_kinds sc.side x v ≡ false → (k : ℕ) → k < length sc.given
        → slice_get sc.given k ≡ Some x → ⊥
    not_given x v e off k l f =
        let at = (listed_at L) S (given_kinds sc.side) sc.given stands.given_places k x f in
        true≢false (sym at.1.1 ∙ ap (λ (u : Var). given_kinds sc.side x u) (same_Some at.0 v (sym at.1.0 ∙ e)) ∙ off)

    now_range : (x : ℕ) (v : Var) → slice_get S.vars x ≡ Some v → IsWithin v.range (slice_index_or now x (pos 0))
    now_range x v e = ⊎_elim
        (λ on. subst (λ z. IsWithin v.range z) (sym (given_value x v (e, on))) (in_range.ranges 0 x v (omega arith) (e, on)))
        (λ off. subst (λ z. IsWithin v.range z) (sym (put.rest x (not_given x v e off))) (stands.is_frame.now_in_range x v e))
        (cases_Bool (given_kinds sc.side x v))

    -- once the given values are put in, it has of the reading what a scan begins with
    begins : IsTold S sc.side sc.steps a n 0 (record {
      now = now;
      past = sc.frame.past;
      truths = sc.frame.truths;
      columns =
          sc.frame.columns;
      runs = sc.frame.runs;
    })
    begins = record {
      is_frame = record {
        now = put.width ∙ stands.is_frame.now;
        past = stands.is_frame.past;
        truths = stands.is_frame.truths;
        columns = stands.is_frame.columns;
        runs = stands.is_frame.runs;
        now_in_range = now_range;
        past_in_range = stands.is_frame.past_in_range;
      };
      past = λ x v is. stands.past x v is ∙ L.before_same S (side_reading S sc.side rows) a n x (λ j l. same_past j x l);
      given = λ x v is. given_value x v is ∙ sym (last-tells S (given_kinds sc.side) earlier given n x (sym stands.fits.lengths))
          ∙ sym (fits.same_given n x v (omega (arith, long)) is);
      found = λ q one l e. absurd (omega (arith, l));
      waits = λ m q l e. (runs_alike L) S (side_reading S sc.side rows) a n same_past m sc.frame
          (stands.runs m (stands.plan.follows q (step.Memory m) e).there);
    }

  -- the frame with these values in it
  abbrev begun : List ℤ → Frame
  begun now = record { now = now; past = sc.frame.past; truths = sc.frame.truths; columns = sc.frame.columns; runs = sc.frame.runs }

  module _ (places : List ℕ) (given_places : places ≡ sc.given) (steps : List Step) (same_steps : steps ≡ sc.steps)
      (now : List ℤ) (put : ArePut places given (length places) sc.frame.now now) where
    begun_told : IsTold S sc.side steps a n 0 (begun now)
    begun_told = subst (λ xs. IsTold S sc.side xs a n 0 (begun now)) (sym same_steps)
        (begins now (subst (λ xs. ArePut xs given (length xs) sc.frame.now now) given_places put))

    -- so there is a reading that its steps can begin with
    pub begun_scan : (b : Reading) × (t : ℕ) × IsScan S sc.side b t × IsTold S sc.side steps b t 0 (begun now)
    begun_scan = (a, n, scan, begun_told)

    -- what makes all the steps of a scan leaves what the reading has
    pub ended : (frame : Frame)
        → ((b : Reading) (t : ℕ) → IsScan S sc.side b t → IsTold S sc.side steps b t 0 (begun now)
        → IsTold S sc.side steps b t (length steps) frame)
        → IsTold S sc.side sc.steps a n (length sc.steps) frame
    ended frame run = subst (λ xs. IsTold S sc.side xs a n (length xs) frame) same_steps (run a n scan begun_told)

  module _ (frame : Frame) (told : IsTold S sc.side sc.steps a n (length sc.steps) frame) where
    made_value : (x : ℕ) (one : Step) → Makes one (at_now x) → IsRight S sc.side a n one frame → slice_index_or frame.now x (pos 0) ≡ a n x
    made_value x (step.Column t) made right = absurd made
    made_value x (step.Cell y t) made right = let same : y ≡ x = cc in subst (λ z. slice_index_or frame.now z (pos 0) ≡ a n z) same right
    made_value x (step.Entry y t w) made right = let same : y ≡ x = cc in subst (λ z. slice_index_or frame.now z (pos 0) ≡ a n z) same right
    made_value x (step.Memory k) made right = absurd (let none : ⊥ = cc in none)

    made_run : (m : ℕ) (one : Step) → Makes one (of_memory m) → IsRight S sc.side a n one frame → RunsFor S a (suc n) m frame
    made_run m (step.Column t) made right = absurd made
    made_run m (step.Cell y t) made right = absurd (let none : ⊥ = cc in none)
    made_run m (step.Entry y t w) made right = absurd (let none : ⊥ = cc in none)
    made_run m (step.Memory k) made right = let same : k ≡ m = cc in subst (λ z. RunsFor S a (suc n) z frame) same right.1

    -- after all steps each value of the side is that of the reading
    known : (x : ℕ) (v : Var) → IsVar S (side_kinds sc.side) x v → slice_index_or frame.now x (pos 0) ≡ a n x
    known x v is = ⊎_elim
        (λ g. told.given x v g)
        (λ d. let at = stands.plan.variables x (of_var (defined_kinds (section_of sc.side)) S.vars x v d.0 ∙ d.1) in
        made_value x at.1 at.4 (told.found at.0 at.1 at.2 at.3))
        (L.given_or_defined S sc.side x v is)

    told_run : (m : ℕ) → IsTrue (is_memory_of S.memories sc.side m) → RunsFor S a (suc n) m frame
    told_run m is = let at = stands.plan.memories m is in made_run m at.1 at.4 (told.found at.0 at.1 at.2 at.3)

    -- the given row stands at its places of the frame
    pub given_row : map (λ p. slice_index_or frame.now p (pos 0)) sc.given ≡ given
    given_row = row_is frame.now sc.given given (in_range.widths 0 (omega arith) ∙ sym stands.given_places.count) (λ k p l e.
        let at = (listed_at L) S (given_kinds sc.side) sc.given stands.given_places k p e in
        sym (told.given p at.0 at.1 ∙ fits.same_given n p at.0 (omega (arith, long)) at.1
        ∙ last-tells S (given_kinds sc.side) earlier given n p (sym stands.fits.lengths)
        ∙ L.at_place S (given_kinds sc.side) (given ∷ []) 0 p at.0 at.1 ∙ ap (λ j. slice_index_or given j (pos 0)) at.2))

    module _ (values : List ℤ) (width : length values ≡ count_of (side_kinds sc.side) S.vars)
        (out : AreTold sc.side_variables frame.now (length sc.side_variables) values) where
      -- so what is told is the trace's row
      same_row : row ≡ values
      same_row = L.same_rows S (side_kinds sc.side) row values
          (ap length (sym (get_or_push rows row [] n refl)) ∙ fits.values.widths n (omega (arith, long)))
          width
          (λ x v is. let at = (listed L) S (side_kinds sc.side) sc.side_variables stands.side_places x v is in
          sym (L.at_place S (side_kinds sc.side) (row ∷ []) 0 x v is)
          ∙ sym (last-tells S (side_kinds sc.side) rows row n x refl)
          ∙ sym (known x v is)
          ∙ sym (out (place_of (side_kinds sc.side) S.vars x) x (slice_get_within sc.side_variables (place_of (side_kinds sc.side) S.vars x)
          x at) at))

      -- it stands at the places of the side's variables
      pub told_row : map (λ p. slice_index_or frame.now p (pos 0)) sc.side_variables ≡ values
      told_row = row_is frame.now sc.side_variables values (width ∙ sym stands.side_places.count) out

      -- once the values have become those of the scan before, it stands for one scan more
      pub stands_longer : (next : Frame) → next ≡ passed frame
          → Stands S (record { side = sc.side; steps = sc.steps; given = sc.given; side_variables = sc.side_variables; frame = next })
          (earlier ++ given ∷ []) (rows ++ values ∷ [])
      stands_longer next is =
          let more : suc n ≡ length (rows ++ row ∷ []) = omega (arith, long) in
          subst (λ f. Stands S (record {
            side = sc.side;
            steps = sc.steps;
            given = sc.given;
            side_variables = sc.side_variables;
            frame =
                f;
          }) (earlier ++ given ∷ []) (rows ++ values ∷ [])) (sym is)
          (subst (λ z. Stands S (record {
            side = sc.side;
            steps = sc.steps;
            given = sc.given;
            side_variables = sc.side_variables;
            frame =
                passed frame;
          }) (earlier ++ given ∷ []) (rows ++ z ∷ [])) same_row
          (record {
            fits = fits;
            past = λ x v of. known x v of ∙ sym (L.before_later S a n x (L.begins_once S a n)) ∙ ap (λ k. before S a k x) more;
            runs = λ m of. subst (λ k. RunsFor S a k m frame) more (told_run m of);
            is_frame = record {
              now = told.is_frame.past;
              past = told.is_frame.now;
              truths = told.is_frame.truths;
              columns = told.is_frame.columns;
              runs = told.is_frame.runs;
              now_in_range = told.is_frame.past_in_range;
              past_in_range = told.is_frame.now_in_range;
            };
            plan = stands.plan;
            given_places = stands.given_places;
            side_places = stands.side_places;
          }))

module _ (L : Laws) (S : Tables) (proper : AllProper S) (sc : Kept) (past : List (List ℤ)) (given : List ℤ)
    (stands : Stands S sc (rows_at sc.given past) (rows_at sc.side_variables past))
    (in_range : IsListOf S (given_kinds sc.side) (given ∷ []))
    (frame : Frame) (told : IsTold S sc.side sc.steps (a L S proper sc (rows_at sc.given past) (rows_at sc.side_variables past) given stands
    in_range)
    (n L S proper sc (rows_at sc.given past) (rows_at sc.side_variables past) given stands in_range) (length sc.steps) frame)
    (values : List ℤ) (width : length values ≡ count_of (side_kinds sc.side) S.vars)
    (out : AreTold sc.side_variables frame.now (length sc.side_variables) values) where
  pub goes_on : (next : Frame) → next ≡ passed frame → (scans : List (List ℤ)) → scans ≡ past ++ next.past ∷ []
      → GoesOnBy S sc past given values next scans
  goes_on next is scans are =
      let now : next.past ≡ frame.now = ap (λ (f : Frame). f.past) is in
      let all : scans ≡ past ++ frame.now ∷ [] = are ∙ ap (λ row. past ++ row ∷ []) now in
      let given_is : rows_at sc.given scans ≡ rows_at sc.given past ++ given ∷ [] = ap (rows_at sc.given) all
      ∙ rows_at-push sc.given past frame.now given ((given_row L) S proper sc (rows_at sc.given past) (rows_at sc.side_variables past) given
      stands in_range frame told) in
      let rows_are : rows_at sc.side_variables scans ≡ rows_at sc.side_variables past ++ values ∷ [] = ap (rows_at sc.side_variables) all
      ∙ rows_at-push sc.side_variables past frame.now values ((told_row L) S proper sc (rows_at sc.given past)
      (rows_at sc.side_variables past) given stands in_range frame told values width out) in
      record {
        given_is = given_is;
        rows_are = rows_are;
        stands = subst (λ h. Stands S (record {
          side = sc.side;
          steps = sc.steps;
          given = sc.given;
          side_variables =
              sc.side_variables;
          frame = next;
        }) h (rows_at sc.side_variables scans)) (sym given_is)
            (subst (Stands S (record {
              side = sc.side;
              steps = sc.steps;
              given = sc.given;
              side_variables = sc.side_variables;
              frame =
                  next;
            }) (rows_at sc.given past ++ given ∷ [])) (sym rows_are)
            ((stands_longer L) S proper sc (rows_at sc.given past) (rows_at sc.side_variables past) given stands in_range frame told values
            width out next is));
      }
