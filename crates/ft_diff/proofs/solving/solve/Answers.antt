use Rattle.std.proofs.Common.{arith, ap, sym, subst, ◌≤ℤ◌, ℤ, List, length, All}
use Rattle.ft_linear.specs.meaning.Form.{InArea}
use Rattle.ft_diff.specs.meaning.Differences.{Meets}
use Rattle.ft_diff.specs.narrowing.Outcome.{highs}
use Rattle.ft_diff.proofs.NarrowingLemmas.{of-area}
use Rattle.ft_diff.proofs.solving.solve.Goals as goal

pub returns-in-Met-clause-solved : goal.returns-in-Met-clause-solved
returns-in-Met-clause-solved c =
    let same = c.in-Met.ensures.outcome.0 in
    λ e. record {
      inside = c.rounds.invariant.1 (highs c.round.new.spans) (subst (λ (l : List (ℤ × ℤ)). InArea l (highs c.round.new.spans)) same
          c.round.ensures.high);
      met = subst (λ (l : List (ℤ × ℤ)). All (Meets (highs l)) c.args.list.now) (sym same) c.in-Met.ensures.outcome.1;
    }

pub returns-in-Met-clause-greatest : goal.returns-in-Met-clause-greatest
returns-in-Met-clause-greatest c = λ e x so u within.
    let long = ap length c.begin.ensures.same in
    let small = (of-area c.rounds.spans x u (c.rounds.invariant.0 x so.met so.inside) (omega (arith, within, long, c.rounds.auto.spans))).1
    in
    subst (λ (l : List (ℤ × ℤ)). x u ≤ℤ highs l u) (sym c.in-Met.ensures.outcome.0) small
