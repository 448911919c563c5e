use Rattle.std.proofs.Common.{◌≡◌, ◌∙◌, sym, ap, subst, ℕ, ◌+◌, ◌-◌, suc, ℤ, List, [], ◌∷◌, ◌++◌, length, arith}
use Rattle.std.specs.List.{All}
use Rattle.std.proofs.lemmas.Result.{err_from_is_err_and}
use Rattle.std.proofs.lemmas.List.{length-append}
use Rattle.std.proofs.lemmas.List.Elements.{All-push}
use Rattle.ft_certs.specs.meaning.Text.{IsScan, scans_text}
use Rattle.ft_certs.specs.building.Pieces.{Scans, Values}
use Rattle.ft_certs.proofs.StuckLemmas.{stop-as}
use Rattle.ft_certs.proofs.ScanLemmas.{at-count, scans-first, scans-push, scans-second}
use Rattle.ft_certs.proofs.scans.scans.Goals as goal

pub returns-in_err-values-clause-stopped : goal.returns-in_err-values-clause-stopped
returns-in_err-values-clause-stopped c =
    let p = err_from_is_err_and c.from_residual.result c.from_residual.ensures.1 in
    let one : suc (c.args.count - (c.scans._scan + 1)) ≡ c.args.count - c.scans._scan = omega (arith, c.scans-test.true) in
    rw (p.1, p.2)
    (stop-as c.in_err-values.field-0.0 (Values 44) (Scans c.args.count) c.scans.rest.now c.args.bytes.now
    (λ left s. c.scans.invariant.3 left (at-count (suc (c.args.count - (c.scans._scan + 1))) (c.args.count - c.scans._scan) c.scans.rest.now left one
    (scans-first (c.args.count - (c.scans._scan + 1)) c.scans.rest.now left s)))
    c.in_err-values.ensures.stopped)

pub scans-preserved : goal.scans-preserved
scans-preserved c =
    let inv = c.scans.invariant in
    let r = c.in_ok-values.ensures.read in
    let vs : List ℤ = c.in_ok-values.values in
    let rest : List ℕ = c.scans.rest.now in
    let more : List ℕ = c.in_ok-values.more.now in
    let now : c.add.new.self ≡ c.scans.list ++ vs ∷ [] = c.in_ok-add.ensures.ok ∙ ap (λ (us : List ℤ). c.scans.list ++ us ∷ []) c.as_slice.ensures in
    let one : suc (c.args.count - (c.scans._scan + 1)) ≡ c.args.count - c.scans._scan = omega (arith, c.scans-test.true) in (
      omega (arith, ap length now, length-append c.scans.list (vs ∷ []), inv.0),
      subst (All IsScan) (sym now) (All-push IsScan c.scans.list vs inv.1 r.0),
      scans-push c.scans.list vs c.args.bytes.now rest more inv.2 r.1 ∙ ap (λ (ss : List (List ℤ)). scans_text ss ++ more) (sym now),
      λ left s. inv.3 left (at-count (suc (c.args.count - (c.scans._scan + 1))) (c.args.count - c.scans._scan) rest left one
          (scans-second (c.args.count - (c.scans._scan + 1)) vs rest more left r.0 r.1 s)),
    )
