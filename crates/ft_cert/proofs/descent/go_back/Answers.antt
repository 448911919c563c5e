use Rattle.std.proofs.Common.{◌∙◌, ap, ◌∷◌, reverse}
use Rattle.ft_cert.specs.declared.descent.Undo.{Undo}
use Rattle.ft_cert.specs.walk.Steps.{waiting_of}
use Rattle.ft_cert.proofs.StepLemmas.{back-case, back-half}
use Rattle.ft_cert.proofs.descent.go_back.Goals as goal

pub returns-in-Half-clause-moved : goal.returns-in-Half-clause-moved
returns-in-Half-clause-moved c _ =
    let p = c.args.part.now in
    let items = c.args.undone.now.items in
    ap (λ (e : Undo). waiting_of p (e ∷ reverse items)) c.in-Half.is
    ∙ back-half p c.cut-in-Half.new.self items c.push.new.self.items c.in-Half.unknown c.in-Half.whole c.in-Half.second
    c.push.ensures.items c.cut-in-Half.ensures.spans c.cut-in-Half.ensures.decided

pub returns-in-Case-clause-moved : goal.returns-in-Case-clause-moved
returns-in-Case-clause-moved c _ =
    let p = c.args.part.now in
    let items = c.args.undone.now.items in
    ap (λ (e : Undo). waiting_of p (e ∷ reverse items)) c.in-Case.is
    ∙ back-case p c.decide-in-Case.new.self items c.push-in-Case.new.self.items c.in-Case.atom
    c.push-in-Case.ensures.items c.decide-in-Case.ensures.spans c.decide-in-Case.ensures.decided
