use Rattle.std.proofs.Common.{◌∙◌, ap, ℕ, List, ◌++◌}
use Rattle.ft_certs.proofs.WritingLemmas.{one-more}
use Rattle.ft_certs.proofs.writing.certs_piece.Goals as goal

pub loop-at-preserved : goal.loop-at-preserved
loop-at-preserved c =
    c.in_ok-extend.ensures.ok ∙ ap (λ (t : List ℕ). c.loop-at.text ++ t) (c.as_slice.ensures ∙ c.in_ok-piece.ensures)
    ∙ one-more c.args.certs.now c.loop-at.at c.index-certs-at.result c.index-certs-at.result c.loop-at.text
    c.loop-at-test.true c.index-certs-at.is c.loop-at.invariant
