use Rattle.std.proofs.Common.{◌∙◌, ap}
use Rattle.ft_oblige.specs.building.Stating.{said}
use Rattle.ft_oblige.proofs.stating.plain_cell.Goals as goal

pub returns : goal.returns
returns c =
    c.in_ok-whole.ensures
    ∙ ap (λ k. said c.args.tables.now c.args.frame.now c.args.aim.about c.args.aim.target k c.args.term.now) c.in_ok-condition.ensures
