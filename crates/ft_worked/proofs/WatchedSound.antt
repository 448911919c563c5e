-- The two sets of what is watched are sound and checked.
use Rattle.std.proofs.Common.{◌≡◌, sym, subst, refl, pos, List, [], ◌∷◌, arith, ⊎_elim}
use Rattle.std.specs.Prelude.{◌⊎◌}
use Rattle.ft_core.specs.declared.tables.Var.{Var}
use Rattle.ft_core.specs.checked.Checked.{IsChecked}
use Rattle.ft_core.specs.laws.CheckedTests.{CheckedByTests, PassesChecks}
use Rattle.ft_core.specs.laws.SizeEquations.{sizes, lengths}
use Rattle.ft_worked.specs.Watched.{level_alone, level_and_mode, tables, watched}
use Rattle.ft_worked.proofs.MadeLemmas.{IsSoundOf}
use Rattle.ft_worked.proofs.ReadingRules.{reading}
use Rattle.ft_worked.proofs.SoundTests.{Passes, sound_by}

pass_level_alone : Passes (pos 50) level_alone [] tables [] [] [] (0 ∷ 0 ∷ []) []
pass_level_alone = record {
  some_vars = omega arith;
  few_vars = omega arith;
  few_memories = omega arith;
  few_tables = omega arith;
  period_fits = refl;
  places = refl;
  inits = refl;
  limits = refl;
  shapes = refl;
  sized_memories = refl;
  sized_tables = simp sizes;
  few_clauses = omega arith;
  sized_clauses = refl;
  first_read = refl;
  always_read = refl;
  step_read = refl;
  tables_read = simp reading;
  memories_read = refl;
  has_table = refl;
  apart = refl;
  vars_below = refl;
  memories_below = refl;
  tables_fall = simp reading;
  memories_fall = refl;
}

check_level_alone : PassesChecks (119 ∷ []) 1000 4 level_alone [] tables [] [] [] []
check_level_alone = record {
  named = refl;
  differ = refl;
  numbers = refl;
  monitored_at = 0;
  some_monitored = refl;
  controlled_at = 1;
  some_controlled = refl;
  ranges = refl;
  bands = refl;
  typed = refl;
  targets = refl;
  short_memories = refl;
  short_tables = simp lengths;
  short_clauses = refl;
  few_blocks = refl;
  each_block = refl;
}

pass_level_and_mode : Passes (pos 50) level_and_mode [] tables [] [] [] (0 ∷ 0 ∷ 0 ∷ []) []
pass_level_and_mode = record {
  some_vars = omega arith;
  few_vars = omega arith;
  few_memories = omega arith;
  few_tables = omega arith;
  period_fits = refl;
  places = refl;
  inits = refl;
  limits = refl;
  shapes = refl;
  sized_memories = refl;
  sized_tables = simp sizes;
  few_clauses = omega arith;
  sized_clauses = refl;
  first_read = refl;
  always_read = refl;
  step_read = refl;
  tables_read = simp reading;
  memories_read = refl;
  has_table = refl;
  apart = refl;
  vars_below = refl;
  memories_below = refl;
  tables_fall = simp reading;
  memories_fall = refl;
}

check_level_and_mode : PassesChecks (119 ∷ []) 1000 4 level_and_mode [] tables [] [] [] []
check_level_and_mode = record {
  named = refl;
  differ = refl;
  numbers = refl;
  monitored_at = 0;
  some_monitored = refl;
  controlled_at = 1;
  some_controlled = refl;
  ranges = refl;
  bands = refl;
  typed = refl;
  targets = refl;
  short_memories = refl;
  short_tables = simp lengths;
  short_clauses = refl;
  few_blocks = refl;
  each_block = refl;
}

-- the variables of one of the two
abbrev pub AreWatched : List Var → Type 0
AreWatched vars = (vars ≡ level_alone) ⊎ (vars ≡ level_and_mode)

pub sound : (vars : List Var) → AreWatched vars → IsSoundOf (watched vars)
sound vars = ⊎_elim
    (λ e. subst (λ (v : List Var). IsSoundOf (watched v)) (sym e)
    (sound_by (pos 50) level_alone [] tables [] [] [] (0 ∷ 0 ∷ []) [] pass_level_alone))
    (λ e. subst (λ (v : List Var). IsSoundOf (watched v)) (sym e)
    (sound_by (pos 50) level_and_mode [] tables [] [] [] (0 ∷ 0 ∷ 0 ∷ []) [] pass_level_and_mode))

pub checked : CheckedByTests → (vars : List Var) → AreWatched vars → IsChecked (119 ∷ []) 1000 4 vars [] tables [] [] [] []
checked by_tests vars = ⊎_elim
    (λ e. subst (λ (v : List Var). IsChecked (119 ∷ []) 1000 4 v [] tables [] [] [] []) (sym e)
    (by_tests (119 ∷ []) 1000 4 level_alone [] tables [] [] [] [] check_level_alone))
    (λ e. subst (λ (v : List Var). IsChecked (119 ∷ []) 1000 4 v [] tables [] [] [] []) (sym e)
    (by_tests (119 ∷ []) 1000 4 level_and_mode [] tables [] [] [] [] check_level_and_mode))
