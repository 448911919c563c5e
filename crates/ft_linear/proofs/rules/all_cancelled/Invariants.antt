use Rattle.std.proofs.Common.{◌≡◌, true, take}
use Rattle.std.specs.List.{list_all}
use Rattle.ft_linear.specs.meaning.Rules.{factors_in, line_form}
use Rattle.ft_linear.specs.summing.Cancelling.{are_cancelled}
use Rattle.ft_linear.proofs.rules.all_cancelled.Given as goal

abbrev pub invariant-loop-line : goal.invariant-loop-line
invariant-loop-line l = list_all (λ one. are_cancelled l.kept l.totals (factors_in (line_form l.formula l.part one)))
    (take l.line-index l.lines) ≡ true
