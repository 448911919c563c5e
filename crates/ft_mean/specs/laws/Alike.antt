-- Views with the same values are alike where the clauses of a scan read, without a tactic.
use Rattle.std.proofs.Common.{◌≡◌, sym, ℕ, true, true≢false}
use Rattle.ft_core.specs.declared.tables.Tables.{Tables}
use Rattle.ft_core.specs.checked.Sound.{now_of, step_of}
use Rattle.ft_core.specs.meaning.Kinds.{monitored}
use Rattle.ft_core.specs.meaning.Reads.{Read, at_now, at_before, of_memory, of_age}
use Rattle.ft_mean.specs.laws.EvaluationLaws.{Same}
use Rattle.ft_mean.specs.meaning.Value.{View}

module _ (S : Tables) (V W : View) (now : (x : ℕ) → V.now x ≡ W.now x) where
  pub now_alike : (r : Read) → now_of S.vars monitored r ≡ true → Same V W r
  now_alike (at_now x) may = now x
  now_alike (at_before x) may = absurd (true≢false (sym may))
  now_alike (of_memory m) may = absurd (true≢false (sym may))
  now_alike (of_age m) may = absurd (true≢false (sym may))

  pub step_alike : ((x : ℕ) → V.before x ≡ W.before x) → (r : Read) → step_of S.vars monitored r ≡ true → Same V W r
  step_alike past (at_now x) may = now x
  step_alike past (at_before x) may = past x
  step_alike past (of_memory m) may = absurd (true≢false (sym may))
  step_alike past (of_age m) may = absurd (true≢false (sym may))
