use Rattle.std.specs.Prelude.{codes}
use Rattle.std.proofs.lemmas.Result.{err_from_is_err_and}
use Rattle.ft_certs.specs.building.Pieces.{Fields, NodeRests, Sums}
use Rattle.ft_certs.proofs.StuckLemmas.{stop-as}
use Rattle.ft_certs.proofs.NodeLemmas.{tight-first, tight-second, tight-read}
use Rattle.ft_certs.proofs.nodes.tight_node.Goals as goal

pub returns-in_err-unknown-clause-stopped : goal.returns-in_err-unknown-clause-stopped
returns-in_err-unknown-clause-stopped c =
    let p = err_from_is_err_and c.from_residual.result c.from_residual.ensures.1 in
    rw (p.1, p.2)
    (stop-as c.in_err-unknown.field-0.0 (Fields (codes " \n")) (NodeRests 84) c.args.bytes.now c.args.bytes.now
    (λ left s. tight-first c.args.bytes.now left s) c.in_err-unknown.ensures.stopped)

pub returns-in_err-lines-clause-stopped : goal.returns-in_err-lines-clause-stopped
returns-in_err-lines-clause-stopped c =
    let p = err_from_is_err_and c.from_residual-in_err-lines.result c.from_residual-in_err-lines.ensures.1 in
    rw (p.1, p.2)
    (stop-as c.in_err-lines.field-0.0 (Sums c.in_ok-unknown.end) (NodeRests 84) c.in_ok-unknown.rest.now c.args.bytes.now
    (λ left s. tight-second c.in_ok-unknown.unknown c.in_ok-unknown.end c.args.bytes.now c.in_ok-unknown.rest.now left c.in_ok-unknown.ensures.read.0
    c.in_ok-unknown.ensures.read.1 c.in_ok-unknown.ensures.read.2 s) c.in_err-lines.ensures.stopped)

pub returns-clause-read : goal.returns-clause-read
returns-clause-read c =
    let r = c.in_ok-unknown.ensures.read in
    let l = c.in_ok-lines.ensures.read in
    ((r.0, l.0), tight-read c.in_ok-unknown.unknown c.in_ok-unknown.end c.in_ok-lines.lines c.args.bytes.now c.in_ok-unknown.rest.now c.in_ok-lines.rest.now r.2 l.1)
