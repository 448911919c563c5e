use Rattle.std.proofs.Common.{[], ◌∷◌}
use Rattle.std.proofs.lemmas.Result.{err_from_is_err_and}
use Rattle.ft_certs.specs.building.Pieces.{Fields, Numbers, Word}
use Rattle.ft_certs.proofs.StuckLemmas.{stop-as}
use Rattle.ft_certs.proofs.NodeLemmas.{fields-first, fields-second}
use Rattle.ft_certs.proofs.nodes.field.Goals as goal

pub returns-in_err-rest-clause-stopped : goal.returns-in_err-rest-clause-stopped
returns-in_err-rest-clause-stopped c =
    let p = err_from_is_err_and c.from_residual.result c.from_residual.ensures.1 in
    rw (p.1, p.2)
    (stop-as c.in_err-rest.field-0.0 (Word (32 ∷ [])) (Fields c.args.ends.now) c.args.bytes.now c.args.bytes.now
    (λ left s. fields-first c.args.ends.now c.args.bytes.now left c.requires.0 s) c.in_err-rest.ensures.stopped)

pub returns-in_err-value-clause-stopped : goal.returns-in_err-value-clause-stopped
returns-in_err-value-clause-stopped c =
    let p = err_from_is_err_and c.from_residual-in_err-value.result c.from_residual-in_err-value.ensures.1 in
    rw (p.1, p.2)
    (stop-as c.in_err-value.field-0.0 (Numbers 0 4294967295 c.args.ends.now) (Fields c.args.ends.now) c.in_ok-rest.rest.now c.args.bytes.now
    (λ left s. fields-second c.args.ends.now c.args.bytes.now c.in_ok-rest.rest.now left c.in_ok-rest.ensures.read s) c.in_err-value.ensures.stopped)
