-- A frame and a scanner before scan 0.
use Rattle.std.proofs.Common.{◌≡◌, ◌∙◌, sym, ap, subst, refl, ℕ, ◌+◌, ℤ, pos, List, [], ◌∷◌, ◌++◌, length, map, slice_get, slice_index_or}
use Rattle.std.proofs.Common.{Some, None, arith, ⊎_elim}
use Rattle.std.specs.Option.{option_map}
use Rattle.std.proofs.lemmas.Bool.{cases_lt}
use Rattle.std.proofs.lemmas.List.{length-map}
use Rattle.std.proofs.lemmas.Option.{slice_get_within, slice_get-map, get_or_from_slice_get}
use Rattle.ft_base.specs.Interval.{IsWithin}
use Rattle.ft_core.specs.declared.tables.Tables.{Tables}
use Rattle.ft_core.specs.declared.tables.Var.{Var}
use Rattle.ft_core.specs.declared.tables.Side.{Side}
use Rattle.ft_core.specs.declared.tables.Memory.{Memory}
use Rattle.ft_core.specs.declared.tables.Memory.TheVariants.{Held, Hyst}
use Rattle.ft_core.specs.meaning.Kinds.{given_kinds, side_kinds}
use Rattle.ft_core.specs.laws.Places.{on-left, at-end}
use Rattle.ft_mean.specs.meaning.Fits.{Fits, side_reading}
use Rattle.ft_mean.specs.meaning.Reading.{Reading}
use Rattle.ft_scan.specs.declared.plan.Step.{Step}
use Rattle.ft_scan.specs.declared.frame.Frame.{Frame}
use Rattle.ft_scan.specs.declared.frame.Running.{Running}
use Rattle.ft_scan.specs.declared.frame.Running.TheVariants.{Timer, Band}
use Rattle.ft_scan.specs.steps.Frame.{IsFrameOf, IsRunOf}
use Rattle.ft_scan.specs.steps.Opening.{AllStart, IsFresh, IsStart, Starts}
use Rattle.ft_scan.specs.steps.Plan.{IsPlan}
use Rattle.ft_scan.specs.steps.Stands.{Stands, ArePlaces}
use Rattle.ft_scan.specs.steps.Told.{WasTold}
use Rattle.ft_scan.specs.laws.Laws.{Laws}

-- one more memory
pub all_start_more : (S : Tables) (n : ℕ) (runs : List Running) (run : Running) → length runs ≡ n → Starts S n run → AllStart S n runs
    → AllStart S (n + 1) (runs ++ run ∷ [])
all_start_more S n runs run long starts so_far m l = ⊎_elim
    (λ less. let at = so_far m less in (at.0, on-left runs (run ∷ []) m at.0 at.1, at.2))
    (λ most. let same : n ≡ m = omega (arith, l, most) in
    (run, subst (λ k. slice_get (runs ++ run ∷ []) k ≡ Some run) (long ∙ same) (at-end runs run), subst (λ k. Starts S k run) same starts))
    (cases_lt m n)

-- before scan 0 it was told no scan
pub told_none : (S : Tables) (a : Reading) (period : ℤ) (memory : Memory) (run : Running) → IsRunOf period memory run → IsFresh run
    → WasTold S a 0 memory run
told_none S a period (Held name s c hold) (Timer t) of fresh = (ap length fresh ∙ omega arith, λ j low l. absurd (omega (arith, l)))
told_none S a period (Hyst name s e lo hi start) (Band u) of fresh = (ap length fresh ∙ omega arith, λ j low l. absurd (omega (arith, l)))
told_none S a period (Held name s c hold) (Band u) of fresh = absurd of
told_none S a period (Hyst name s e lo hi start) (Timer t) of fresh = absurd of

-- the empty trace fits the empty list
fits_none : (S : Tables) (s : Side) → Fits S s [] []
fits_none S s = record {
  is_given = record { widths = λ t l. absurd (omega (arith, l)); ranges = λ t x v l is. absurd (omega (arith, l)) };
  lengths = refl;
  values = record { widths = λ t l. absurd (omega (arith, l)); ranges = λ t x v l is. absurd (omega (arith, l)) };
  same_given = λ t x v l is. absurd (omega (arith, l));
  follows = λ t l. absurd (omega (arith, l));
}

inits_at : (vars : List Var) (x : ℕ) (v : Var) → slice_get vars x ≡ Some v → slice_index_or (map (λ (u : Var). u.init) vars) x (pos 0)
    ≡ v.init
inits_at vars x v e =
    get_or_from_slice_get (map (λ (u : Var). u.init) vars) x v.init (pos 0)
    (slice_get-map (λ (u : Var). u.init) vars x ∙ ap (option_map (λ (u : Var). u.init)) e)

-- before scan 0
module _ (L : Laws) (S : Tables) (s : Side) (steps : List Step) (given side_variables : List ℕ) (frame : Frame)
    (start : IsStart S frame) where
  start_frame : IsFrameOf S frame
  start_frame = record {
    now = ap length start.now ∙ length-map S.vars _;
    past = ap length start.past ∙ length-map S.vars _;
    truths = start.truths;
    columns = start.columns;
    runs = λ m memory e. let at = start.runs m (slice_get_within S.memories m memory e) in (at.0, at.1, (at.2 memory e).0);
    now_in_range = λ x v e. subst (λ z. IsWithin v.range z) (sym (ap (λ xs. slice_index_or xs x (pos 0)) start.now ∙ inits_at S.vars x v e))
        (S.sound.inits x v e);
    past_in_range = λ x v e. subst (λ z. IsWithin v.range z) (sym (ap (λ xs. slice_index_or xs x (pos 0)) start.past
        ∙ inits_at S.vars x v e)) (S.sound.inits x v e);
  }

  pub stands_first : IsPlan S s steps → ArePlaces S (given_kinds s) given → ArePlaces S (side_kinds s) side_variables
      → Stands S (record { side = s; steps = steps; given = given; side_variables = side_variables; frame = frame }) [] []
  stands_first plan given_places side_places = record {
    fits = fits_none S s;
    past = λ x v is. ap (λ xs. slice_index_or xs x (pos 0)) start.past ∙ inits_at S.vars x v is.0
        ∙ sym (ap (λ o. elim o as (λ z. ℤ) [ None ↦ pos 0 | Some u ↦ u.init ]) is.0)
        ∙ sym (L.before_begins S (side_reading S s []) 0 x (L.begins_first S (side_reading S s [])));
    runs = λ m t memory e. let at = start.runs m (slice_get_within S.memories m memory e) in let both = at.2 memory e in
        (at.0, at.1, both.0, told_none S (side_reading S s []) S.period memory at.0 both.0 both.1);
    is_frame = start_frame;
    plan = plan;
    given_places = given_places;
    side_places = side_places;
  }
