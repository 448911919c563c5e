use Rattle.std.proofs.Common.{◌∙◌, ap, Some, None}
use Rattle.std.proofs.lemmas.Option.{none-some}
use Rattle.ft_core.specs.declared.walk.Stage.{Stage}
use Rattle.ft_core.proofs.WalkSteps.{opens, empty-path, not-new}
use Rattle.ft_core.proofs.walk.Walk.walk_from.Goals as goal

pub run-requires-clause-walk : goal.run-requires-clause-walk
run-requires-clause-walk c =
    let w = c.args.self.now in
    let reads = c.args.reads.now in (
    opens reads None w c.open.new.self c.args.root c.requires.walk c.in_ok-open.ensures
    (c.get.ensures ∙ ap (λ (s : Stage). Some s) c.in-New.is) c.requires.item
    (λ k p at. absurd (empty-path reads None w c.requires.walk c.requires.empty k p at)) (λ x wrong. absurd (none-some x wrong))).0

pub returns-in_ok-run-clause-advances : goal.returns-in_ok-run-clause-advances
returns-in_ok-run-clause-advances c =
    let w = c.args.self.now in
    let reads = c.args.reads.now in λ k now. (
    opens reads None w c.open.new.self c.args.root c.requires.walk c.in_ok-open.ensures
    (c.get.ensures ∙ ap (λ (s : Stage). Some s) c.in-New.is) c.requires.item
    (λ j p at. absurd (empty-path reads None w c.requires.walk c.requires.empty j p at)) (λ x wrong. absurd (none-some x wrong))).1 k
    (c.in_ok-run.ensures.advances k now)

pub returns-in_ok-run-clause-met : goal.returns-in_ok-run-clause-met
returns-in_ok-run-clause-met c = λ now.
    not-new c.args.reads.now c.args.self.now c.open.new.self c.args.root c.in_ok-open.ensures
    (c.get.ensures ∙ ap (λ (s : Stage). Some s) c.in-New.is)
    (c.in_ok-run.ensures.advances c.args.root now)
