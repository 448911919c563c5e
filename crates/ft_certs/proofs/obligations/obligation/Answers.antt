use Rattle.std.proofs.Common.{◌≡◌, ◌∙◌, ap, subst, ℕ, List, ◌++◌}
use Rattle.std.proofs.lemmas.Result.{err_from_is_err_and}
use Rattle.ft_certs.specs.building.Pieces.{Obligation, Rows, Word, heading_text}
use Rattle.ft_certs.specs.building.Stuck.{Stuck}
use Rattle.ft_certs.proofs.StuckLemmas.{stop-as, stopped-as}
use Rattle.ft_certs.proofs.ReadingLemmas.{obligation-first, obligation-second}
use Rattle.ft_certs.proofs.obligations.obligation.Goals as goal

pub returns-in_err-rest-clause-stopped : goal.returns-in_err-rest-clause-stopped
returns-in_err-rest-clause-stopped c =
    let p = err_from_is_err_and c.from_residual-in_err-rest.result c.from_residual-in_err-rest.ensures.1 in
    let same : c.as_slice.result.now ≡ heading_text c.args.count = c.as_slice.ensures ∙ c.in_ok-heading.ensures in
    rw (p.1, p.2)
    (stop-as c.in_err-rest.field-0.0 (Word c.as_slice.result.now) (Obligation c.args.count) c.args.bytes.now c.args.bytes.now
    (λ left s. obligation-first c.args.count c.args.bytes.now left (subst (λ (h : List ℕ). Stuck (Word h) c.args.bytes.now left) same s)) c.in_err-rest.ensures.stopped)

pub returns-clause-stopped : goal.returns-clause-stopped
returns-clause-stopped c =
    let same : c.as_slice.result.now ≡ heading_text c.args.count = c.as_slice.ensures ∙ c.in_ok-heading.ensures in
    let parts : c.args.bytes.now ≡ heading_text c.args.count ++ c.in_ok-rest.rest.now =
    c.in_ok-rest.ensures.read ∙ ap (λ (h : List ℕ). h ++ c.in_ok-rest.rest.now) same in
    stopped-as c.tree.result (Rows 1) (Obligation c.args.count) c.in_ok-rest.rest.now c.args.bytes.now
    (λ left s. obligation-second c.args.count c.args.bytes.now c.in_ok-rest.rest.now left parts s) c.tree.ensures.stopped
