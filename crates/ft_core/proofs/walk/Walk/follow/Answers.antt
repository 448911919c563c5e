use Rattle.std.proofs.Common.{◌∙◌, ap, sym, Some}
use Rattle.std.proofs.lemmas.Option.{same_Some}
use Rattle.std.proofs.lemmas.Result.{on_ok_weaker}
use Rattle.ft_core.specs.declared.walk.Stage.{Stage}
use Rattle.ft_core.specs.walk.Walk.{IsOpened}
use Rattle.ft_core.proofs.WalkSteps.{all-lead, opens, joins-up, passes}
use Rattle.ft_core.proofs.walk.Walk.follow.Goals as goal

pub returns-in-New-clause-walk : goal.returns-in-New-clause-walk
returns-in-New-clause-walk c =
    let w = c.args.self.now in
    let reads = c.args.reads.now in
    on_ok_weaker c.open.result
    (λ (o : IsOpened reads c.args.item w c.open.new.self).
    (opens reads (Some c.args.item) w c.open.new.self c.args.item c.requires.walk o (c.get.ensures ∙ ap (λ (s : Stage). Some s) c.in-New.is)
    c.requires.item
    (all-lead reads w c.args.item c.requires.walk) (λ x e. same_Some x c.args.item (sym e))).0)
    c.open.ensures

pub returns-in-New-clause-advances : goal.returns-in-New-clause-advances
returns-in-New-clause-advances c =
    let w = c.args.self.now in
    let reads = c.args.reads.now in
    on_ok_weaker c.open.result
    (λ (o : IsOpened reads c.args.item w c.open.new.self).
    (opens reads (Some c.args.item) w c.open.new.self c.args.item c.requires.walk o (c.get.ensures ∙ ap (λ (s : Stage). Some s) c.in-New.is)
    c.requires.item
    (all-lead reads w c.args.item c.requires.walk) (λ x e. same_Some x c.args.item (sym e))).1)
    c.open.ensures

pub returns-in-New-clause-less : goal.returns-in-New-clause-less
returns-in-New-clause-less c =
    let w = c.args.self.now in
    let reads = c.args.reads.now in
    on_ok_weaker c.open.result
    (λ (o : IsOpened reads c.args.item w c.open.new.self).
    (opens reads (Some c.args.item) w c.open.new.self c.args.item c.requires.walk o (c.get.ensures ∙ ap (λ (s : Stage). Some s) c.in-New.is)
    c.requires.item
    (all-lead reads w c.args.item c.requires.walk) (λ x e. same_Some x c.args.item (sym e))).2)
    c.open.ensures

pub returns-in-Open-clause-walk : goal.returns-in-Open-clause-walk
returns-in-Open-clause-walk c =
    joins-up c.args.reads.now c.args.self.now c.args.item c.in-Open.at c.join.new.components c.requires.walk
    (c.get.ensures ∙ ap (λ (s : Stage). Some s) c.in-Open.is)
    c.join.ensures.joined c.join.ensures.top

pub returns-in-Done-clause-walk : goal.returns-in-Done-clause-walk
returns-in-Done-clause-walk c =
    passes c.args.reads.now c.args.self.now c.args.item c.in-Done.field-0 c.requires.walk
    (c.get.ensures ∙ ap (λ (s : Stage). Some s) c.in-Done.is)
