use Rattle.std.proofs.Common.{◌≡◌, ◌∙◌, sym, ap, subst, ℕ, List, [], ◌∷◌, ◌++◌}
use Rattle.std.proofs.lemmas.Result.{err_from_is_err_and}
use Rattle.std.proofs.lemmas.List.Elements.{All-push}
use Rattle.std.specs.List.{All}
use Rattle.ft_linear.specs.declared.lines.Line.{Line}
use Rattle.ft_certs.specs.meaning.Text.{IsLine, lines_text}
use Rattle.ft_certs.specs.building.Pieces.{SumLines, Sums}
use Rattle.ft_certs.specs.building.Stuck.{Stuck}
use Rattle.ft_certs.proofs.StuckLemmas.{stop-as}
use Rattle.ft_certs.proofs.SumLemmas.{sums-first, sums-push, sums-second}
use Rattle.ft_certs.proofs.sums.lines.Goals as goal

pub returns-in_err-line-clause-stopped : goal.returns-in_err-line-clause-stopped
returns-in_err-line-clause-stopped c =
    let p = err_from_is_err_and c.from_residual.result c.from_residual.ensures.1 in
    rw (p.1, p.2)
    (stop-as c.in_err-line.field-0.0 SumLines (Sums c.args.end) c.lines.rest.now c.args.bytes.now
    (λ left s. c.lines.invariant.3 left (subst (λ (e : ℕ). Stuck (Sums e) c.lines.rest.now left) (sym c.lines-test.true) (sums-first c.lines.rest.now left s)))
    c.in_err-line.ensures.stopped)

pub lines-preserved : goal.lines-preserved
lines-preserved c =
    let r = c.in_ok-line.ensures.read in
    let now : c.push.new.self ≡ c.lines.lines ++ c.in_ok-line.line ∷ [] = c.in_ok-push.ensures.ok in
    let rest : List ℕ = c.lines.rest.now in
    let before : c.args.end ∷ c.args.bytes.now ≡ lines_text c.lines.lines ++ 32 ∷ rest =
    c.lines.invariant.2 ∙ ap (λ (e : ℕ). lines_text c.lines.lines ++ e ∷ rest) c.lines-test.true in (
      r.1,
      subst (All IsLine) (sym now) (All-push IsLine c.lines.lines c.in_ok-line.line c.lines.invariant.1 r.0),
      sums-push c.lines.lines c.in_ok-line.line c.in_ok-line.next (c.args.end ∷ c.args.bytes.now) rest c.in_ok-line.more.now before r.2
          ∙ ap (λ (ls : List Line). lines_text ls ++ c.in_ok-line.next ∷ c.in_ok-line.more.now) (sym now),
      λ left s. c.lines.invariant.3 left (subst (λ (e : ℕ). Stuck (Sums e) rest left) (sym c.lines-test.true)
          (sums-second c.in_ok-line.line c.in_ok-line.next rest c.in_ok-line.more.now left r.0 r.1 r.2 s)),
    )
