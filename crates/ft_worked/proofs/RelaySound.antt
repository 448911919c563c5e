-- The relay, late or not, is sound and checked.
use Rattle.std.proofs.Common.{◌≡◌, ap, refl, ℕ, ℤ, pos, Bool, true, false, ◌&&◌, List, [], ◌∷◌, arith}
use Rattle.ft_core.specs.checked.Checked.{IsChecked}
use Rattle.ft_core.specs.laws.CheckedTests.{CheckedByTests, PassesChecks}
use Rattle.ft_core.specs.laws.SizeEquations.{sizes, lengths}
use Rattle.ft_worked.specs.Relay.{hold_of, memories, relay, tables, vars}
use Rattle.ft_worked.proofs.MadeLemmas.{IsSoundOf}
use Rattle.ft_core.specs.laws.Ranges.{is_within}
use Rattle.ft_worked.proofs.ReadingRules.{reading}
use Rattle.ft_worked.proofs.SoundTests.{Passes, sound_by}

-- switch, relay, input, output
abbrev of_vars : List ℕ
of_vars = 0 ∷ 2 ∷ 1 ∷ 3 ∷ []

-- the timers of the requirement and of the design
abbrev of_memories : List ℕ
of_memories = 1 ∷ 2 ∷ []

all_pass : (hold : ℤ) → is_within (pos 0, pos 1000000) hold ≡ true
    → Passes (pos 50) vars (memories hold) tables [] [] [] of_vars of_memories
all_pass hold fits = record {
  some_vars = omega arith;
  few_vars = omega arith;
  few_memories = omega arith;
  few_tables = omega arith;
  period_fits = refl;
  places = refl;
  inits = refl;
  limits = ap (λ b. b && true) fits;
  shapes = refl;
  sized_memories = simp sizes;
  sized_tables = simp sizes;
  few_clauses = omega arith;
  sized_clauses = refl;
  first_read = refl;
  always_read = refl;
  step_read = refl;
  tables_read = simp reading;
  memories_read = simp reading;
  has_table = refl;
  apart = refl;
  vars_below = refl;
  memories_below = refl;
  tables_fall = simp reading;
  memories_fall = simp reading;
}

fits : (late : Bool) → is_within (pos 0, pos 1000000) (hold_of late) ≡ true
fits true = refl
fits false = refl

pub sound : (late : Bool) → IsSoundOf (relay (hold_of late))
sound late = sound_by (pos 50) vars (memories (hold_of late)) tables [] [] [] of_vars of_memories (all_pass (hold_of late) (fits late))

all_checked : (hold : ℤ) → PassesChecks (107 ∷ []) 1000 4 vars (memories hold) tables [] [] [] []
all_checked hold = record {
  named = refl;
  differ = refl;
  numbers = refl;
  monitored_at = 0;
  some_monitored = refl;
  controlled_at = 1;
  some_controlled = refl;
  ranges = refl;
  bands = refl;
  typed = refl;
  targets = refl;
  short_memories = simp lengths;
  short_tables = simp lengths;
  short_clauses = refl;
  few_blocks = refl;
  each_block = refl;
}

pub checked : CheckedByTests → (hold : ℤ) → IsChecked (107 ∷ []) 1000 4 vars (memories hold) tables [] [] [] []
checked by_tests hold = by_tests (107 ∷ []) 1000 4 vars (memories hold) tables [] [] [] [] (all_checked hold)
