use Rattle.std.proofs.Common.{[], ◌∷◌}
use Rattle.std.proofs.lemmas.Result.{err_from_is_err_and}
use Rattle.ft_certs.specs.building.Pieces.{Numbers, SumLines}
use Rattle.ft_certs.proofs.StuckLemmas.{stop-as}
use Rattle.ft_certs.proofs.SumLemmas.{line-first, line-second}
use Rattle.ft_certs.proofs.sums.line.Goals as goal

pub returns-in_err-times-clause-stopped : goal.returns-in_err-times-clause-stopped
returns-in_err-times-clause-stopped c =
    let p = err_from_is_err_and c.from_residual.result c.from_residual.ensures.1 in
    rw (p.1, p.2)
    (stop-as c.in_err-times.field-0.0 (Numbers 0 18446744073709551615 (43 ∷ 45 ∷ 60 ∷ 62 ∷ [])) SumLines c.args.bytes.now c.args.bytes.now
    (λ left s. line-first c.args.bytes.now left s) c.in_err-times.ensures.stopped)

pub returns-in_err-number-clause-stopped : goal.returns-in_err-number-clause-stopped
returns-in_err-number-clause-stopped c =
    let p = err_from_is_err_and c.from_residual-in_err-number.result c.from_residual-in_err-number.ensures.1 in
    let r = c.in_ok-times.ensures.read in
    rw (p.1, p.2)
    (stop-as c.in_err-number.field-0.0 (Numbers 0 4294967295 (32 ∷ 10 ∷ [])) SumLines c.in_ok-times.rest.now c.args.bytes.now
    (λ left s. line-second c.args.bytes.now c.in_ok-times.rest.now left c.in_ok-times.times c.in_ok-times.kind r.1 r.2 r.3 s) c.in_err-number.ensures.stopped)
