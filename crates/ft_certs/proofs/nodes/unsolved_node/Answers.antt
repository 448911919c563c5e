use Rattle.std.proofs.Common.{[], ◌∷◌}
use Rattle.std.proofs.lemmas.Result.{err_from_is_err_and}
use Rattle.ft_certs.specs.building.Pieces.{NodeRests, Word}
use Rattle.ft_certs.proofs.StuckLemmas.{stop-as}
use Rattle.ft_certs.proofs.NodeLemmas.{unsolved-stuck}
use Rattle.ft_certs.proofs.nodes.unsolved_node.Goals as goal

pub returns-in_err-rest-clause-stopped : goal.returns-in_err-rest-clause-stopped
returns-in_err-rest-clause-stopped c =
    let p = err_from_is_err_and c.from_residual.result c.from_residual.ensures.1 in
    rw (p.1, p.2)
    (stop-as c.in_err-rest.field-0.0 (Word (10 ∷ [])) (NodeRests 76) c.args.bytes.now c.args.bytes.now
    (λ left s. unsolved-stuck c.args.bytes.now left s) c.in_err-rest.ensures.stopped)
