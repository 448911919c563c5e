use Rattle.std.proofs.Common.{rules, ◌≤◌, ◌<◌, ℕ, ℤ, pos, sym, subst, length, unsigned_abs}
use Rattle.ft_farkas.specs.meaning.Rows.{row_of}
use Rattle.ft_farkas.proofs.CombineLemmas.{small-sum}
use Rattle.ft_farkas.proofs.mixing.mix.Goals as goal

pub returns-clause-small : goal.returns-clause-small
returns-clause-small c k below =
    subst (λ (z : ℤ). unsigned_abs z ≤ 42535295865117307932921825928971026432) (sym (c.columns.invariant.1 k (within k below)))
    (small-sum c.args.times_first c.args.times_second (row_of c.args.first.now k) (row_of c.args.second.now k) c.requires.times_first c.requires.times_second (c.requires.first k (pos 0) below) (c.requires.second k (pos 0) (subst (λ (n : ℕ). k < n) (sym c.requires.columns) below)))
  where
    within : (k : ℕ) → k < length c.args.first.now → k < c.columns.column
    within k below = search rules
