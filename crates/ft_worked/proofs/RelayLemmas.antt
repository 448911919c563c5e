-- With one timer on both sides the relay refines its requirement, and with a longer one in the design it differs one scan late.
use Rattle.std.proofs.Common.{◌≡◌, ◌∙◌, sym, ap, subst, refl, ℕ, zero, suc, ◌<◌, ◌-◌, ℤ, pos, ◌*ℤ◌, Bool, true, false, cond, not, ◌&&◌}
use Rattle.std.proofs.Common.{◌||◌, List, [], ◌∷◌, length, arith, ⊎_elim, true≢false}
use Rattle.std.specs.List.{list_any}
use Rattle.std.specs.Ordering.{int_eq}
use Rattle.std.proofs.lemmas.Int.{ints}
use Rattle.std.proofs.lemmas.Bool.{or_cases, or_left}
use Rattle.std.proofs.lemmas.Bool.Decides.{Decides-int_eq}
use Rattle.std.proofs.lemmas.Option.{none-some, same_Some}
use Rattle.ft_base.specs.Interval.{IsWithin}
use Rattle.ft_core.specs.declared.tables.Tables.{Tables}
use Rattle.ft_core.specs.declared.tables.Var.{Var}
use Rattle.ft_core.specs.declared.tables.Side.TheVariants as side
use Rattle.ft_core.specs.declared.tables.Section.TheVariants as section
use Rattle.ft_core.specs.meaning.Kinds.{monitored, controlled}
use Rattle.ft_mean.specs.meaning.Allowed.{Allowed}
use Rattle.ft_mean.specs.meaning.Cells.{defined}
use Rattle.ft_mean.specs.meaning.Fits.{Fits, InputMap, OutputMap, Only, side_reading}
use Rattle.ft_mean.specs.laws.Whole.{ReadsAsWhole, joint}
use Rattle.ft_mean.specs.meaning.Memory.{at_scan, look, memory_at}
use Rattle.ft_mean.specs.meaning.Past.{held}
use Rattle.ft_mean.specs.meaning.Proper.{AllProper}
use Rattle.ft_mean.specs.meaning.Reading.{Reading, Scans, IsVar, reading_of, begun, since}
use Rattle.ft_mean.specs.meaning.Refines.{Refines, Runs, FirstDiffers}
use Rattle.ft_mean.specs.meaning.Value.{View, truth, value}
use Rattle.ft_mean.specs.laws.Equations.{evaluation, value-Num}
use Rattle.ft_core.specs.declared.term.Term.TheVariants.{Num}
use Rattle.ft_core.specs.meaning.Grids.{Cell}
use Rattle.ft_core.specs.declared.term.Cond.{Cond}
use Rattle.ft_worked.specs.Laws.{Laws}
use Rattle.ft_worked.specs.Made.{IsMadeOf}
use Rattle.ft_worked.specs.Relay.{relay, vars, tables, is_on, on_thrice}
use Rattle.ft_worked.specs.Worked.{RelayRefines, LateRelayDiffers}
use Rattle.ft_mean.specs.laws.ScanTests.{list_is}
use Rattle.ft_worked.proofs.NoClauses.{all_allowed}
use Rattle.ft_worked.proofs.MadeLemmas.{Rest, set_of, for_each}
use Rattle.ft_worked.proofs.ProperTests.{one_of, InRanges, AllOneCell, proper_by_cells}

bit_0 : IsWithin (pos 0, pos 1) (pos 0)
bit_0 = (omega (arith, ints), omega (arith, ints))

bit_1 : IsWithin (pos 0, pos 1) (pos 1)
bit_1 = (omega (arith, ints), omega (arith, ints))

either : (b : Bool) → one_of ((b && true) ∷ (not b && true) ∷ []) ≡ true
either true = refl
either false = refl

module _ (V : View) (local : InRanges vars V) where
  each : AllOneCell vars V tables
  each = (
    (record { one = simp evaluation; fits = ((λ e. simp evaluation (local.now 0 _ refl)), tt) }, tt),
    (
      (
        record {
          one = simp evaluation (either (V.memory 0));
          fits = ((λ e. simp evaluation bit_1), ((λ e. simp evaluation bit_0), tt));
        },
        tt,
      ),
      (
        (
          record {
            one = simp evaluation (either (V.memory 1));
            fits = ((λ e. simp evaluation bit_1), ((λ e. simp evaluation bit_0), tt));
          },
          tt,
        ),
        ((record { one = simp evaluation; fits = ((λ e. simp evaluation (local.now 3 _ refl)), tt) }, tt), tt),
      ),
    ),
  )

pub is_proper : (hold : ℤ) (S : Tables) → IsMadeOf (relay hold) S → AllProper S
is_proper hold S is = for_each (relay hold) S is AllProper (λ rest. proper_by_cells (set_of (relay hold) rest) each)

-- the value that a table with one cell gives
only_one : (z y : ℤ) → (int_eq z y || false) ≡ true → z ≡ y
only_one z y h = ⊎_elim (λ here. (Decides-int_eq z y).0 here) (λ none. absurd (true≢false (sym none))) (or_cases (int_eq z y) false h)

abbrev gives : View → ℤ → List Cell → Bool
gives V z cells = list_any (λ (cell : Cell). int_eq z (value V cell.term)) cells

-- the value of one of two cells, by whether the first holds
picked : (V : View) (z : ℤ) (m : Bool) (one zero_cell : Cell) → one.term ≡ Num (pos 1) → zero_cell.term ≡ Num (pos 0)
    → gives V z (cond (m && true) (one ∷ cond (not m && true) (zero_cell ∷ []) []) (cond (not m && true) (zero_cell ∷ []) [])) ≡ true
    → z ≡ cond m (pos 1) (pos 0)
picked V z true one none e f h = only_one z (pos 1) (subst (λ y. (int_eq z y || false) ≡ true) (ap (value V) e ∙ value-Num V (pos 1)) h)
picked V z false one none e f h = only_one z (pos 0) (subst (λ y. (int_eq z y || false) ≡ true) (ap (value V) f ∙ value-Num V (pos 0)) h)

-- on for so long up to a scan
abbrev on_for : (hold : ℤ) → ℕ → Bool
on_for hold t = held 0 (λ j. pos (t - j) *ℤ pos 50) hold (λ j. true) t

module _ (L : Laws) (hold : ℤ) (rest : Rest (relay hold)) where
  abbrev S : Tables
  S = set_of (relay hold) rest

  proper : AllProper S
  proper = proper_by_cells S each

  module _ (h : Scans) (allowed : Allowed S h) where
    pub required : (r : Scans) × Only (Fits S side.Req h) r
    required = L.one_trace S proper side.Req h allowed.monitored_list.values

    pub input : (i : Scans) × Only (InputMap S h) i
    input = (L.one_image S proper).0 h allowed.monitored_list.values

    pub design : (s : Scans) × Only (Fits S side.Sof input.0) s
    design = L.one_trace S proper side.Sof input.0 input.1.is.values

    pub output : (c : Scans) × Only (OutputMap S design.0) c
    output = (L.one_image S proper).1 design.0 design.1.is.values

    pub runs : Runs S h required.0 input.0 design.0 output.0
    runs = record { allowed = allowed; required = required.1; inputs = input.1; design = design.1; outputs = output.1 }

    abbrev pub ρ : Reading
    ρ = joint S required.0 design.0

    pub whole : ReadsAsWhole S h required.0 design.0 ρ
    whole = L.wholes S h required.0 input.0 design.0 allowed required.1.is input.1.is design.1.is

    -- both timers are told the same
    same_input : (t : ℕ) → t < length h → ρ t 2 ≡ ρ t 0
    same_input t below = only_one (ρ t 2) (ρ t 0) (simp evaluation at (whole.whole.inputs t below 2 _ (refl, refl)))

    relay_is : (t : ℕ) → t < length h → ρ t 1 ≡ cond (memory_at S ρ 0 t) (pos 1) (pos 0)
    relay_is t below = picked (look S ρ t) (ρ t 1) (memory_at S ρ 0 t) _ _ refl refl
        (simp evaluation at (whole.whole.required t below 1 _ (refl, refl)))

    output_is : (t : ℕ) → t < length h → ρ t 3 ≡ cond (memory_at S ρ 1 t) (pos 1) (pos 0)
    output_is t below = picked (look S ρ t) (ρ t 3) (memory_at S ρ 1 t) _ _ refl refl
        (simp evaluation at (whole.whole.designed t below 3 _ (refl, refl)))

    -- what OUT makes of the design's output is the output
    put_out : (t : ℕ) → t < length h → reading_of S controlled output.0 t 1 ≡ ρ t 3
    put_out t below = sym (whole.as_put_out proper output.0 output.1.is t 1 _ (ρ t 3) below (refl, refl) given)
      where
        given : defined S section.Out (look S ρ t) 1 (ρ t 3) ≡ true
        given = simp evaluation (or_left (int_eq (ρ t 3) (ρ t 3)) false ((Decides-int_eq (ρ t 3) (ρ t 3)).1 refl))

    -- the timers look back at the switch
    abbrev pub is_on_at : ℕ → Bool
    is_on_at j = int_eq (ρ j 0) (pos 1)

    -- back to scan 0, in periods of 50 milliseconds
    abbrev span : ℕ → ℕ → ℤ
    span t j = pos (t - j) *ℤ pos 50

    timer_by : (wait : ℤ) (c : Cond) (t : ℕ) → held (begun S ρ t) (λ j. since S ρ j t) wait
        (λ j. truth (at_scan S ρ (memory_at S ρ) j) c) t
        ≡ held 0 (span t) wait (λ j. truth (at_scan S ρ (memory_at S ρ) j) c) t
    timer_by wait c t = λ i. held (L.begun_first S ρ t i) (λ j. L.since_periods S ρ j t i) wait
        (λ j. truth (at_scan S ρ (memory_at S ρ) j) c) t

    first_timer : (t : ℕ) → t < length h → memory_at S ρ 0 t ≡ held 0 (λ j. pos (t - j) *ℤ pos 50) (pos 100) is_on_at t
    first_timer t below = L.remember S ρ 0 t ∙ timer_by (pos 100) (is_on 0) t
        ∙ L.same_held 0 (span t) (pos 100) _ is_on_at t (λ j low. simp evaluation)

    second_timer : (t : ℕ) → t < length h → memory_at S ρ 1 t ≡ held 0 (λ j. pos (t - j) *ℤ pos 50) hold is_on_at t
    second_timer t below = L.remember S ρ 1 t ∙ timer_by hold (is_on 2) t
        ∙ L.same_held 0 (span t) hold _ is_on_at t
        (λ j low. simp evaluation (ap (λ z. int_eq z (pos 1)) (same_input j (omega (arith, low, below)))))

    pub relay_at : (t : ℕ) → t < length h → side_reading S side.Req required.0 t 1
        ≡ cond (held 0 (λ j. pos (t - j) *ℤ pos 50) (pos 100) is_on_at t) (pos 1) (pos 0)
    relay_at t below = sym (whole.as_required t 1 _ below (refl, refl)) ∙ relay_is t below
        ∙ ap (λ b. cond b (pos 1) (pos 0)) (first_timer t below)

    pub put_out_at : (t : ℕ) → t < length h → reading_of S controlled output.0 t 1
        ≡ cond (held 0 (λ j. pos (t - j) *ℤ pos 50) hold is_on_at t) (pos 1) (pos 0)
    put_out_at t below = put_out t below ∙ output_is t below ∙ ap (λ b. cond b (pos 1) (pos 0)) (second_timer t below)

    -- the one controlled variable is the relay
    pub only_relay : (P : ℕ → Type 0) → P 1 → (x : ℕ) (v : Var) → IsVar S controlled x v → P x
    only_relay P one zero v is = absurd (true≢false (sym is.1 ∙ sym (ap (λ (u : Var). controlled 0 u) (same_Some _ v is.0))))
    only_relay P one (suc zero) v is = one
    only_relay P one (suc (suc zero)) v is = absurd (true≢false (sym is.1 ∙ sym (ap (λ (u : Var). controlled 0 u) (same_Some _ v is.0))))
    only_relay P one (suc (suc (suc zero))) v is = absurd (true≢false
        (sym is.1 ∙ sym (ap (λ (u : Var). controlled 0 u) (same_Some _ v is.0))))
    only_relay P one (suc (suc (suc (suc x)))) v is = absurd (none-some v is.0)

pub refines : Laws → RelayRefines
refines L S is = for_each (relay (pos 100)) S is Refines (λ rest h allowed. (
  _,
  _,
  _,
  _,
  runs L (pos 100) rest h allowed,
  λ t below x v of. only_relay L (pos 100) rest h allowed
      (λ x. side_reading (set_of (relay (pos 100)) rest) side.Req
      (required L (pos 100) rest h allowed).0 t x
      ≡ reading_of (set_of (relay (pos 100)) rest) controlled
      (output L (pos 100) rest h allowed).0 t x)
      (relay_at L (pos 100) rest h allowed t below
      ∙ sym (put_out_at L (pos 100) rest h allowed t below)) x v of,
))

-- the switch is on at each scan, so a timer is at its hold once that is over
module _ (L : Laws) (rest : Rest (relay (pos 150))) where
  abbrev late : Tables
  late = set_of (relay (pos 150)) rest

  allowed : Allowed late on_thrice
  allowed = all_allowed late refl refl refl on_thrice
      (record { nonempty = λ e. nonempty e; values = list_is late monitored on_thrice refl })
    where
      nonempty : on_thrice ≡ [] → ⊥
      nonempty e = cc

  -- the switch is on at each scan of the list
  on_at : (t : ℕ) → t < 3 → is_on_at L (pos 150) rest on_thrice allowed t ≡ true
  on_at t below = ap (λ z. int_eq z (pos 1)) (given t below ∙ is_one t below)
    where
      given : (t : ℕ) → t < 3 → ρ L (pos 150) rest on_thrice allowed t 0
          ≡ reading_of late monitored on_thrice t 0
      given t below = (whole L (pos 150) rest on_thrice allowed).as_required t 0 _ below
          (refl, refl)
          ∙ (required L (pos 150) rest on_thrice allowed).1.is.same_given t 0 _
          (subst (λ n. t < n)
          (sym (required L (pos 150) rest on_thrice allowed).1.is.lengths) below) (refl, refl)

      is_one : (t : ℕ) → t < 3 → reading_of late monitored on_thrice t 0 ≡ pos 1
      is_one zero below = refl
      is_one (suc zero) below = refl
      is_one (suc (suc zero)) below = refl
      is_one (suc (suc (suc t))) below = absurd (omega (arith, below))

  relay_on : (t : ℕ) (below : t < 3) → side_reading late side.Req
      (required L (pos 150) rest on_thrice allowed).0 t 1
      ≡ cond (on_for (pos 100) t) (pos 1) (pos 0)
  relay_on t below = relay_at L (pos 150) rest on_thrice allowed t below
      ∙ ap (λ b. cond b (pos 1) (pos 0)) (L.same_held 0 (λ j. pos (t - j) *ℤ pos 50) (pos 100) _ (λ j. true) t
      (λ j low. on_at j (omega (arith, low, below))))

  output_on : (t : ℕ) (below : t < 3) → reading_of late controlled
      (output L (pos 150) rest on_thrice allowed).0 t 1
      ≡ cond (on_for (pos 150) t) (pos 1) (pos 0)
  output_on t below = put_out_at L (pos 150) rest on_thrice allowed t below
      ∙ ap (λ b. cond b (pos 1) (pos 0)) (L.same_held 0 (λ j. pos (t - j) *ℤ pos 50) (pos 150) _ (λ j. true) t
      (λ j low. on_at j (omega (arith, low, below))))

  pub differs : FirstDiffers late on_thrice 2
  differs = record {
    r = (required L (pos 150) rest on_thrice allowed).0;
    i = (input L (pos 150) rest on_thrice allowed).0;
    s = (design L (pos 150) rest on_thrice allowed).0;
    c = (output L (pos 150) rest on_thrice allowed).0;
    runs = runs L (pos 150) rest on_thrice allowed;
    in_list = omega arith;
    same_before = λ t below x v of. only_relay L (pos 150) rest on_thrice allowed
        (λ x. side_reading late side.Req (required L (pos 150) rest on_thrice allowed).0 t x
        ≡ reading_of late controlled (output L (pos 150) rest on_thrice allowed).0 t x)
        (same t below) x v of;
    variable = 1;
    declared = _;
    is_controlled = (refl, refl);
    differs = λ e. apart (sym (relay_on 2 (omega arith)) ∙ e ∙ output_on 2 (omega arith));
  }
    where
      same : (t : ℕ) → t < 2
          → side_reading late side.Req (required L (pos 150) rest on_thrice allowed).0 t 1
          ≡ reading_of late controlled (output L (pos 150) rest on_thrice allowed).0 t 1
      same zero below = relay_on 0 (omega arith) ∙ sym (output_on 0 (omega arith))
      same (suc zero) below = relay_on 1 (omega arith) ∙ sym (output_on 1 (omega arith))
      same (suc (suc t)) below = absurd (omega (arith, below))

      apart : pos 1 ≡ pos 0 → ⊥
      apart e = cc

pub late_differs : Laws → LateRelayDiffers
late_differs L S is =
    for_each (relay (pos 150)) S is (λ T. FirstDiffers T on_thrice 2) (λ rest. differs L rest)
