use Rattle.std.proofs.Common.{sym, subst, All, List, ℤ, length}
use Rattle.ft_linear.specs.meaning.Form.{InArea, values_at}
use Rattle.ft_diff.specs.declared.diff.Diff.{Diff}
use Rattle.ft_diff.specs.meaning.Differences.{Meets}
use Rattle.ft_diff.proofs.LineLemmas.{lines-met, met-solves}
use Rattle.ft_diff.proofs.gathering.has_solution.Goals as goal

pub returns-clause-some : goal.returns-clause-some
returns-clause-some c so =
    let x = values_at c.differences.new.room in
    let solution = c.differences.ensures.solved so in
    met-solves c.args.formula.now c.args.part.now x (subst (λ (spans : List (ℤ × ℤ)). InArea spans x) c.area.ensures solution.inside)
    (subst (λ (ds : List Diff). All (Meets x) ds) c.gather-count.ensures.lines solution.met)

pub returns-clause-none : goal.returns-clause-none
returns-clause-none c so x solves =
    c.differences.ensures.none so x (record {
      inside = subst (λ (spans : List (ℤ × ℤ)). InArea spans x) (sym c.area.ensures) solves.inside;
      met = subst (λ (ds : List Diff). All (Meets x) ds) (sym c.gather-count.ensures.lines)
          (lines-met c.args.formula.now c.args.part.now x (length c.args.formula.now.atoms) solves);
    })

pub returns-clause-no_point : goal.returns-clause-no_point
returns-clause-no_point c so x point sat =
    c.differences.ensures.none so x (record {
      inside = subst (λ (spans : List (ℤ × ℤ)). InArea spans x) (sym c.area.ensures) point.0;
      met = subst (λ (ds : List Diff). All (Meets x) ds) (sym c.gather-count.ensures.lines)
          (lines-met c.args.formula.now c.args.part.now x (length c.args.formula.now.atoms)
          (c.part_laws.ensures.differences c.args.formula.now c.args.part.now x c.requires.over point sat));
    })
