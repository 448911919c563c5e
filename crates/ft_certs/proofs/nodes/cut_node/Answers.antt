use Rattle.std.proofs.Common.{[], ◌∷◌}
use Rattle.std.proofs.lemmas.Result.{err_from_is_err_and}
use Rattle.ft_certs.specs.building.Pieces.{Fields, NodeRests, Signeds}
use Rattle.ft_certs.proofs.StuckLemmas.{stop-as}
use Rattle.ft_certs.proofs.NodeLemmas.{cut-field, cut-first, cut-second, cut-read, signed-fits}
use Rattle.std.proofs.Common.{w64}
use Rattle.std.specs.Prelude.{FitsSigned}
use Rattle.std.proofs.lemmas.Int.{to_z-of_z}
use Rattle.ft_certs.proofs.nodes.cut_node.Goals as goal

pub returns-in_err-unknown-clause-stopped : goal.returns-in_err-unknown-clause-stopped
returns-in_err-unknown-clause-stopped c =
    let p = err_from_is_err_and c.from_residual.result c.from_residual.ensures.1 in
    rw (p.1, p.2)
    (stop-as c.in_err-unknown.field-0.0 (Fields (32 ∷ [])) (NodeRests 82) c.args.bytes.now c.args.bytes.now
    (λ left s. cut-first c.args.bytes.now left s) c.in_err-unknown.ensures.stopped)

pub returns-in_err-value-clause-stopped : goal.returns-in_err-value-clause-stopped
returns-in_err-value-clause-stopped c =
    let p = err_from_is_err_and c.from_residual-in_err-value.result c.from_residual-in_err-value.ensures.1 in
    rw (p.1, p.2)
    (stop-as c.in_err-value.field-0.0 (Signeds (10 ∷ [])) (NodeRests 82) c.in_ok-unknown.rest.now c.args.bytes.now
    (λ left s. cut-second c.in_ok-unknown.unknown c.args.bytes.now c.in_ok-unknown.rest.now left c.in_ok-unknown.ensures.read.0
    (cut-field c.in_ok-unknown.unknown c.in_ok-unknown.field-0-1 c.args.bytes.now c.in_ok-unknown.rest.now c.in_ok-unknown.ensures.read.1 c.in_ok-unknown.ensures.read.2) s) c.in_err-value.ensures.stopped)

pub returns-clause-read : goal.returns-clause-read
returns-clause-read c =
    let r = c.in_ok-unknown.ensures.read in
    let v = c.in_ok-value.ensures.read in
    let fits : FitsSigned w64 c.in_ok-value.value = signed-fits c.in_ok-value.value v.0 in
    rw (to_z-of_z w64 c.in_ok-value.value fits) (
      (r.0, v.0),
      cut-read c.in_ok-unknown.unknown c.in_ok-value.value c.in_ok-value.field-0-1 c.args.bytes.now c.in_ok-unknown.rest.now c.in_ok-value.rest.now v.1
          (cut-field c.in_ok-unknown.unknown c.in_ok-unknown.field-0-1 c.args.bytes.now c.in_ok-unknown.rest.now r.1 r.2) v.2,
    )
