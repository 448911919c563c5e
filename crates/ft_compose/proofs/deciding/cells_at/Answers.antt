use Rattle.std.proofs.Common.{◌∙◌, refl, subst, sym, false}
use Rattle.ft_core.specs.declared.tables.Fact.{Fact}
use Rattle.ft_cover.specs.building.KeptView.{kept_view}
use Rattle.ft_compose.specs.building.Deciding.{AreCellsBy, IsGoalThere}
use Rattle.ft_compose.proofs.deciding.cells_at.Goals as goal

pub goal_cells-requires-clause-there : goal.goal_cells-requires-clause-there
goal_cells-requires-clause-there c = subst (IsGoalThere c.args.tables.now) c.in-Goal.is c.requires.there

pub goal_cells-requires-clause-spans : goal.goal_cells-requires-clause-spans
goal_cells-requires-clause-spans c = c.as_slice-spans.ensures ∙ c.requires.shared.spans

pub returns-in-Invariant : goal.returns-in-Invariant
returns-in-Invariant c = subst (λ (g : Fact). AreCellsBy c.args.tables.now c.args.anew c.args.names.now
    (kept_view c.args.tables.now false c.args.anew c.args.slots.now c.args.values.now) g _) (sym c.in-Invariant.is) (refl, refl)

pub returns-in_ok-cells-in-Goal : goal.returns-in_ok-cells-in-Goal
returns-in_ok-cells-in-Goal c = subst (λ (g : Fact). AreCellsBy c.args.tables.now c.args.anew c.args.names.now
    (kept_view c.args.tables.now false c.args.anew c.args.slots.now c.args.values.now) g c.in_ok-cells-in-Goal.cells) (sym c.in-Goal.is)
    (c.in_ok-cells-in-Goal.ensures.req, c.in_ok-cells-in-Goal.ensures.out)
