-- The tables of the mixer are proper, and one with two cells at one level isn't.
use Rattle.std.proofs.Common.{◌≡◌, sym, subst, refl, ℕ, zero, suc, ℤ, pos, negsuc, ◌*ℤ◌, int_le, int_lt, Bool, true, false, not, ◌&&◌}
use Rattle.std.proofs.Common.{List, [], ◌∷◌, slice_get, slice_index_or, Some, arith, true≢false}
use Rattle.std.specs.Ordering.{int_eq}
use Rattle.std.proofs.lemmas.Int.{ints}
use Rattle.std.proofs.lemmas.Bool.{and_parts}
use Rattle.std.proofs.lemmas.Option.{none-some, same_Some}
use Rattle.ft_base.specs.Division.{floor_of}
use Rattle.ft_base.specs.Interval.{IsWithin}
use Rattle.ft_core.specs.declared.tables.Tables.{Tables}
use Rattle.ft_core.specs.declared.tables.Var.{Var}
use Rattle.ft_core.specs.declared.tables.Memory.{Memory}
use Rattle.ft_mean.specs.meaning.Proper.{AllProper, IsProper, IsLinked}
use Rattle.ft_mean.specs.meaning.Value.{View}
use Rattle.ft_mean.specs.laws.Equations.{evaluation}
use Rattle.ft_core.specs.laws.Ranges.{is_within, within}
use Rattle.ft_worked.proofs.Passes.{passes}
use Rattle.ft_worked.specs.Mixer.{mixer, vars, memories, probe, valve_and_pump, trend, drive, gate, by_design, overlapping}
use Rattle.ft_worked.specs.Worked.{MixerIsProper}
use Rattle.ft_worked.proofs.MadeLemmas.{Rest, set_of, for_each}
use Rattle.ft_worked.proofs.ProperTests.{one_of, InRanges, OneFor, AllOneCell, proper_by_cells}

abbrev pub Within : ℕ → ℤ → Type 0
Within top = IsWithin (pos 0, pos top)

pub lt-not : (a b : ℤ) → int_lt a b ≡ not (int_le b a)
lt-not a b = grind (arith, ints)

le-not : (a b : ℤ) → int_le b a ≡ not (int_lt a b)
le-not a b = grind (arith, ints)

-- of two opposites one is true, and so of two with a row's condition and its opposite
pub two : (b c : Bool) → c ≡ not b → one_of ((b && true) ∷ (c && true) ∷ []) ≡ true
two true c e = subst (λ z. one_of (true ∷ (z && true) ∷ []) ≡ true) (sym e) refl
two false c e = subst (λ z. one_of (false ∷ (z && true) ∷ []) ≡ true) (sym e) refl

four : (m b c : Bool) → c ≡ not b
    → one_of ((m && (b && true)) ∷ (m && (c && true)) ∷ (not m && (b && true)) ∷ (not m && (c && true)) ∷ []) ≡ true
four m b c e = subst (λ z. one_of ((m && (b && true)) ∷ (m && (z && true)) ∷ (not m && (b && true)) ∷ (not m && (z && true)) ∷ []) ≡ true)
    (sym e) (at m b)
  where
    at : (m b : Bool) → one_of ((m && (b && true)) ∷ (m && (not b && true)) ∷ (not m && (b && true))
        ∷ (not m && (not b && true)) ∷ []) ≡ true
    at true true = refl
    at true false = refl
    at false true = refl
    at false false = refl

-- one number is below another, equal or above
three : (a b : ℤ) → one_of (int_lt a b ∷ int_eq a b ∷ int_lt b a ∷ []) ≡ true
three a b = at (int_lt a b) (int_eq a b) (int_lt b a) refl refl refl
  where
    at : (x y z : Bool) → int_lt a b ≡ x → int_eq a b ≡ y → int_lt b a ≡ z → one_of (x ∷ y ∷ z ∷ []) ≡ true
    at true false false e f g = refl
    at false true false e f g = refl
    at false false true e f g = refl
    at true true z e f g = absurd (grind (arith, ints, e, f))
    at true false true e f g = absurd (omega (arith, ints, e, g))
    at false true true e f g = absurd (grind (arith, ints, f, g))
    at false false false e f g = absurd (grind (arith, ints, e, f, g))

-- settled: it falls or doesn't; and else it falls, stays or rises
six : (m x g e u : Bool) → g ≡ not x → one_of (x ∷ e ∷ u ∷ []) ≡ true
    → one_of ((m && (x && true)) ∷ (m && (g && true)) ∷ (m && false) ∷ (not m && (x && true)) ∷ (not m && (e && true))
    ∷ (not m && (u && true)) ∷ []) ≡ true
six m x g e u opposite one =
    subst (λ z. one_of ((m && (x && true)) ∷ (m && (z && true)) ∷ (m && false) ∷ (not m && (x && true)) ∷ (not m && (e && true))
    ∷ (not m && (u && true)) ∷ []) ≡ true)
    (sym opposite) (at m x e u one)
  where
    at : (m x e u : Bool) → one_of (x ∷ e ∷ u ∷ []) ≡ true
        → one_of ((m && (x && true)) ∷ (m && (not x && true)) ∷ (m && false) ∷ (not m && (x && true)) ∷ (not m && (e && true))
        ∷ (not m && (u && true)) ∷ []) ≡ true
    at true true e u h = refl
    at true false e u h = refl
    at false true true u h = h
    at false true false true h = h
    at false true false false h = h
    at false false true true h = h
    at false false true false h = h
    at false false false true h = h
    at false false false false h = h

third : (a : ℤ) → Within 9 a → Within 3 (floor_of a (pos 3))
third (pos a) h = (grind (arith, ints, h.1), grind (arith, ints, h.1))
third (negsuc a) h = absurd (omega (arith, ints, h.0))

double : (a : ℤ) → Within 9 a → (int_lt a (pos 5) && true) ≡ true → Within 9 (pos 2 *ℤ a)
double a h e = let less = (and_parts (int_lt a (pos 5)) true e).0 in (omega (arith, ints, h.0), omega (arith, ints, less))

wider : (a : ℤ) → Within 2 a → Within 3 a
wider a h = (h.0, omega (arith, ints, h.1))

pub number : (n top : ℕ) → int_le (pos n) (pos top) ≡ true → Within top (pos n)
number n top e = (omega (arith, ints), omega (arith, ints, e))

module _ (V : View) (local : InRanges vars V) where
  probe_row : OneFor vars V probe.grid (3 ∷ [])
  probe_row = (
    record {
      one = simp evaluation (two (int_le (pos 5) (V.now 0)) (int_lt (V.now 0) (pos 5)) (lt-not (V.now 0) (pos 5)));
      fits = (
        (λ e. simp evaluation (local.now 0 _ refl)),
        ((λ e. simp evaluation (double (V.now 0) (local.now 0 _ refl) (simp evaluation at e))), tt),
      );
    },
    tt,
  )

  valve_and_pump_rows : OneFor vars V valve_and_pump.grid (1 ∷ 2 ∷ [])
  valve_and_pump_rows = (
    record {
      one = simp evaluation (two (V.memory 1) (not (V.memory 1)) refl);
      fits = ((λ e. simp evaluation (number 1 1 refl)), ((λ e. simp evaluation (number 0 1 refl)), tt));
    },
    (
      record {
        one = simp evaluation (two (V.memory 1) (not (V.memory 1)) refl);
        fits = ((λ e. simp evaluation (number 0 3 refl)), ((λ e. simp evaluation (third (V.before 0) (local.before 0 _ refl))), tt));
      },
      tt,
    ),
  )

  trend_rows : OneFor vars V trend.grid (6 ∷ [])
  trend_rows = (
    record {
      one = simp evaluation (six (V.memory 2) (int_lt (V.now 3) (V.before 3)) (int_le (V.before 3) (V.now 3))
          (int_eq (V.now 3) (V.before 3)) (int_lt (V.before 3) (V.now 3))
          (le-not (V.now 3) (V.before 3)) (three (V.now 3) (V.before 3)));
      fits = (
        (λ e. simp evaluation (number 0 2 refl)),
        (
          (λ e. simp evaluation (number 1 2 refl)),
          (
            (λ e. simp evaluation (number 2 2 refl)),
            (
              (λ e. simp evaluation (number 0 2 refl)),
              (
                (λ e. simp evaluation (number 1 2 refl)),
                ((λ e. simp evaluation (number 2 2 refl)), tt),
              ),
            ),
          ),
        ),
      );
    },
    tt,
  )

  drive_rows : OneFor vars V drive.grid (4 ∷ [])
  drive_rows = (
    record {
      one = simp evaluation (four (V.memory 2) (int_le (pos 1) (V.now 6)) (int_lt (V.now 6) (pos 1)) (lt-not (V.now 6) (pos 1)));
      fits = (
        (λ e. simp evaluation (wider (V.now 6) (local.now 6 _ refl))),
        (
          (λ e. simp evaluation (number 2 3 refl)),
          ((λ e. simp evaluation (local.before 4 _ refl)), ((λ e. simp evaluation (number 0 3 refl)), tt)),
        ),
      );
    },
    tt,
  )

  gate_rows : OneFor vars V gate.grid (5 ∷ [])
  gate_rows = (
    record {
      one = simp evaluation (two (int_le (V.now 4) (pos 1)) (int_lt (pos 1) (V.now 4)) (lt-not (pos 1) (V.now 4)));
      fits = ((λ e. simp evaluation (number 1 1 refl)), ((λ e. simp evaluation (number 0 1 refl)), tt));
    },
    tt,
  )

  by_design_rows : OneFor vars V by_design.grid (1 ∷ 2 ∷ [])
  by_design_rows = (
    record { one = simp evaluation; fits = ((λ e. simp evaluation (local.now 5 _ refl)), tt) },
    (record { one = simp evaluation; fits = ((λ e. simp evaluation (local.now 4 _ refl)), tt) }, tt),
  )

  each : AllOneCell vars V mixer.tables
  each = (probe_row, (valve_and_pump_rows, (trend_rows, (drive_rows, (gate_rows, (by_design_rows, tt))))))

-- level 5, and the others at their `init`
abbrev at_five : List ℤ
at_five = pos 5 ∷ pos 0 ∷ pos 0 ∷ pos 3 ∷ pos 3 ∷ pos 0 ∷ pos 0 ∷ []

abbrev five : View
five = record {
  now = λ x. slice_index_or at_five x (pos 0);
  before = λ x. slice_index_or at_five x (pos 0);
  age = λ m. negsuc 0;
  memory = λ m. false;
}

module _ (rest : Rest mixer) where
  abbrev S : Tables
  S = set_of mixer rest

  inside : (x : ℕ) (v : Var) → slice_get vars x ≡ Some v → IsWithin v.range (slice_index_or at_five x (pos 0))
  inside x v e = within v.range (slice_index_or at_five x (pos 0))
      (passes (λ x v. is_within v.range (slice_index_or at_five x (pos 0))) vars refl x v e)

  linked : (m : ℕ) (memory : Memory) → slice_get memories m ≡ Some memory → IsLinked five m memory
  linked zero memory e = subst (IsLinked five 0) (same_Some _ memory e) ((λ h. simp evaluation at h), (λ h. refl))
  linked (suc zero) memory e = subst (IsLinked five 1) (same_Some _ memory e) (λ h. absurd (true≢false (sym h)))
  linked (suc (suc zero)) memory e = subst (IsLinked five 2) (same_Some _ memory e) (λ h. absurd (true≢false (sym h)))
  linked (suc (suc (suc m))) memory e = absurd (none-some memory e)

  two_cells : IsProper S overlapping → ⊥
  two_cells p =
      let one = p five (record { now = inside; before = inside; linked = λ m memory e reads. linked m memory e }) 3 _ refl refl in
      let twice : 2 ≡ 1 = simp evaluation at one.one in
      omega (arith, twice)

  proper : AllProper S × (IsProper S overlapping → ⊥)
  proper = (proper_by_cells S each, two_cells)

pub is_proper : MixerIsProper
is_proper S is = for_each mixer S is (λ T. AllProper T × (IsProper T overlapping → ⊥)) proper
