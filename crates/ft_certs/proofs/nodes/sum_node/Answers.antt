use Rattle.std.specs.Prelude.{codes}
use Rattle.std.proofs.lemmas.Result.{err_from_is_err_and}
use Rattle.ft_certs.specs.building.Pieces.{Ends, NodeRests, Sums}
use Rattle.ft_certs.proofs.StuckLemmas.{stop-as}
use Rattle.ft_certs.proofs.NodeLemmas.{sum-first, sum-second, sum-read}
use Rattle.ft_certs.proofs.nodes.sum_node.Goals as goal

pub returns-in_err-end-clause-stopped : goal.returns-in_err-end-clause-stopped
returns-in_err-end-clause-stopped c =
    let p = err_from_is_err_and c.from_residual.result c.from_residual.ensures.1 in
    rw (p.1, p.2)
    (stop-as c.in_err-end.field-0.0 (Ends (codes " \n")) (NodeRests 83) c.args.bytes.now c.args.bytes.now
    (λ left s. sum-first c.args.bytes.now left s) c.in_err-end.ensures.stopped)

pub returns-in_err-lines-clause-stopped : goal.returns-in_err-lines-clause-stopped
returns-in_err-lines-clause-stopped c =
    let p = err_from_is_err_and c.from_residual-in_err-lines.result c.from_residual-in_err-lines.ensures.1 in
    rw (p.1, p.2)
    (stop-as c.in_err-lines.field-0.0 (Sums c.in_ok-end.end) (NodeRests 83) c.in_ok-end.rest.now c.args.bytes.now
    (λ left s. sum-second c.in_ok-end.end c.args.bytes.now c.in_ok-end.rest.now left c.in_ok-end.ensures.read.1 s) c.in_err-lines.ensures.stopped)

pub returns-clause-read : goal.returns-clause-read
returns-clause-read c =
    let r = c.in_ok-lines.ensures.read in
    (r.0, sum-read c.in_ok-lines.lines c.in_ok-end.end c.args.bytes.now c.in_ok-end.rest.now c.in_ok-lines.rest.now c.in_ok-end.ensures.read.1 r.1)
