use Rattle.std.proofs.Common.{◌∙◌, ap, sym, slice_get}
use Rattle.std.specs.Option.{option_map}
use Rattle.ft_core.specs.declared.tables.Var.{Var}
use Rattle.ft_oblige.specs.building.Stating.{beyond, said}
use Rattle.ft_oblige.proofs.stating.said.Goals as goal

pub returns-in-Holds : goal.returns-in-Holds
returns-in-Holds c =
    ap (λ a. said c.args.tables.now c.args.frame.now a c.args.aim.target c.args.condition c.args.term.now) (sym c.in-Holds.is)

pub returns-in_ok-whole-in-Outside : goal.returns-in_ok-whole-in-Outside
returns-in_ok-whole-in-Outside c =
    let range = c.range_of-range.ensures
    ∙ ap (λ vars. option_map (λ (v : Var). v.range) (slice_get vars c.args.aim.target)) c.as_slice.ensures in
    c.in_ok-whole-in-Outside.ensures
    ∙ ap (λ r. beyond c.args.tables.now c.args.frame.now r c.args.condition c.args.term.now) range
    ∙ ap (λ a. said c.args.tables.now c.args.frame.now a c.args.aim.target c.args.condition c.args.term.now) (sym c.in-Outside.is)

pub returns-in_ok-whole-in-Defines : goal.returns-in_ok-whole-in-Defines
returns-in_ok-whole-in-Defines c =
    c.in_ok-whole-in-Defines.ensures
    ∙ ap (λ a. said c.args.tables.now c.args.frame.now a c.args.aim.target c.args.condition c.args.term.now) (sym c.in-Defines.is)
