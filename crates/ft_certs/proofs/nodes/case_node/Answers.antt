use Rattle.std.proofs.Common.{[], ◌∷◌}
use Rattle.std.proofs.lemmas.Result.{err_from_is_err_and}
use Rattle.ft_certs.specs.building.Pieces.{Fields, NodeRests}
use Rattle.ft_certs.proofs.StuckLemmas.{stop-as}
use Rattle.ft_certs.proofs.NodeLemmas.{case-stuck, case-read}
use Rattle.ft_certs.proofs.nodes.case_node.Goals as goal

pub returns-in_err-atom-clause-stopped : goal.returns-in_err-atom-clause-stopped
returns-in_err-atom-clause-stopped c =
    let p = err_from_is_err_and c.from_residual.result c.from_residual.ensures.1 in
    rw (p.1, p.2)
    (stop-as c.in_err-atom.field-0.0 (Fields (10 ∷ [])) (NodeRests 67) c.args.bytes.now c.args.bytes.now
    (λ left s. case-stuck c.args.bytes.now left s) c.in_err-atom.ensures.stopped)

pub returns-clause-read : goal.returns-clause-read
returns-clause-read c =
    let r = c.in_ok-atom.ensures.read in
    (r.0, case-read c.in_ok-atom.atom c.in_ok-atom.field-0-1 c.args.bytes.now c.in_ok-atom.rest.now r.1 r.2)
