use Rattle.std.proofs.Common.{rules, ◌≡◌, ◌∙◌, sym, slice_index_or, pos, ◌+ℤ◌}
use Rattle.std.specs.Int.{w128}
use Rattle.std.proofs.lemmas.Int.{to_z-of_z}
use Rattle.std.proofs.lemmas.List.{get_or_read}
use Rattle.ft_linear.specs.meaning.Form.{Factor, low_end, span_at}
use Rattle.ft_linear.proofs.FormLemmas.{small-at, small-same, small-read, least-more}
use mir.Val.{SFits}
use Rattle.ft_linear.proofs.sums.least_of.Goals as goal

pub lowest-requires : goal.lowest-requires
lowest-requires c = small-read (slice_index_or c.args.factors.now c.factors.at (0, pos 0)).1
    (small-at 0 c.args.factors.now c.factors.at (0, pos 0) c.requires.rising c.factors-test.true)

pub factors-preserved : goal.factors-preserved
factors-preserved c =
    let d : Factor = (0, pos 0) in
    let g : Factor = slice_index_or c.args.factors.now c.factors.at d in
    let factor = small-same g.1 (small-at 0 c.args.factors.now c.factors.at d c.requires.rising c.factors-test.true) in
    let span = get_or_read c.args.spans.now g.0 c.index-spans-factor.result (c.requires.over c.factors.at d c.factors-test.true)
    c.index-spans-factor.is (pos 0, pos 0) in
    let term : c.lowest.result ≡ low_end g.1 (span_at c.args.spans.now g.0) = c.lowest.ensures.value ∙ (λ i. low_end (factor i) (span i)) in
    let fits : SFits w128 c.plus-total.result = search rules in
    let fits_term : SFits w128 c.lowest.result = search rules in
    let sum = rw (to_z-of_z w128 c.lowest.result fits_term) at c.plus-total.ensures.sum in
    let before = c.factors.invariant.0 in
    rw (to_z-of_z w128 c.plus-total.result fits) (
      sum ∙ (λ i. before i +ℤ term i) ∙ sym (least-more c.args.factors.now c.factors.at d c.factors-test.true c.args.spans.now),
      c.plus-total.ensures.small,
    )
