-- The mixer with its name and its two blocks is sound and checked.
use Rattle.std.proofs.Common.{◌≡◌, sym, subst, refl, ℕ, List, [], ◌∷◌, arith}
use Rattle.ft_core.specs.declared.tables.Var.{Var}
use Rattle.ft_core.specs.declared.tables.Memory.{Memory}
use Rattle.ft_core.specs.declared.tables.Table.{Table}
use Rattle.ft_core.specs.declared.tables.Block.{Block}
use Rattle.ft_core.specs.declared.term.Cond.{Cond}
use Rattle.ft_core.specs.checked.Checked.{IsChecked}
use Rattle.ft_core.specs.laws.CheckedTests.{CheckedByTests, PassesChecks}
use Rattle.ft_core.specs.laws.SizeEquations.{sizes, lengths}
use Rattle.ft_worked.specs.Mixer.{mixer, blocks}
use Rattle.ft_worked.proofs.MadeLemmas.{IsSoundOf, checked_as}
use Rattle.ft_worked.proofs.ReadingRules.{reading}
use Rattle.ft_worked.proofs.SoundTests.{Passes, sound_by}

-- level, valve, pump, probe, drive, gate, trend
abbrev of_vars : List ℕ
of_vars = 0 ∷ 3 ∷ 3 ∷ 0 ∷ 3 ∷ 4 ∷ 2 ∷ []

-- high, full, settled
abbrev of_memories : List ℕ
of_memories = 1 ∷ 2 ∷ 1 ∷ []

all_pass : Passes mixer.period mixer.vars mixer.memories mixer.tables mixer.first mixer.always mixer.step of_vars of_memories
all_pass = record {
  some_vars = omega arith;
  few_vars = omega arith;
  few_memories = omega arith;
  few_tables = omega arith;
  period_fits = refl;
  places = refl;
  inits = refl;
  limits = refl;
  shapes = refl;
  sized_memories = simp sizes;
  sized_tables = simp sizes;
  few_clauses = omega arith;
  sized_clauses = simp sizes;
  first_read = simp reading;
  always_read = simp reading;
  step_read = simp reading;
  tables_read = simp reading;
  memories_read = simp reading;
  has_table = refl;
  apart = refl;
  vars_below = refl;
  memories_below = refl;
  tables_fall = simp reading;
  memories_fall = simp reading;
}

pub sound : IsSoundOf mixer
sound = sound_by mixer.period mixer.vars mixer.memories mixer.tables mixer.first mixer.always mixer.step of_vars of_memories all_pass

all_checked : PassesChecks (109 ∷ []) 1000 4 mixer.vars mixer.memories mixer.tables mixer.first mixer.always mixer.step blocks
all_checked = record {
  named = refl;
  differ = refl;
  numbers = refl;
  monitored_at = 0;
  some_monitored = refl;
  controlled_at = 1;
  some_controlled = refl;
  ranges = refl;
  bands = refl;
  typed = refl;
  targets = refl;
  short_memories = simp lengths;
  short_tables = simp lengths;
  short_clauses = simp lengths;
  few_blocks = refl;
  each_block = refl;
}

-- so is each set of equal parts
pub checked_of : CheckedByTests
    → {name : List ℕ} {vs : List Var} {ms : List Memory} {ts : List Table} {a b c : List Cond} {bs : List Block}
    → name ≡ 109 ∷ [] → vs ≡ mixer.vars → ms ≡ mixer.memories → ts ≡ mixer.tables → a ≡ mixer.first → b ≡ mixer.always → c ≡ mixer.step
    → bs ≡ blocks
    → IsChecked name 1000 4 vs ms ts a b c bs
checked_of by_tests {name = name} {vs = vs} {ms = ms} {ts = ts} {a = a} {b = b} {c = c} {bs = bs} en ev em et ea eb ec es =
    subst (λ n. IsChecked n 1000 4 vs ms ts a b c bs) (sym en)
    (subst (λ l. IsChecked (109 ∷ []) 1000 4 vs ms ts a b c l) (sym es)
    (checked_as (109 ∷ []) 1000 4 blocks ev em et ea eb ec
    (by_tests (109 ∷ []) 1000 4 mixer.vars mixer.memories mixer.tables mixer.first mixer.always mixer.step blocks all_checked)))
