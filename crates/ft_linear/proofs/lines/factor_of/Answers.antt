use Rattle.std.proofs.Common.{◌∙◌, sym, ap, pos, drop, slice_index_or}
use Rattle.ft_linear.specs.meaning.Form.{Factor}
use Rattle.ft_linear.specs.meaning.Rules.{factor_of}
use Rattle.ft_linear.proofs.FormLemmas.{small-at, small-same, small-read}
use Rattle.ft_linear.proofs.RuleLemmas.{first-found}
use Rattle.ft_linear.proofs.lines.factor_of.Goals as goal

pub returns-then-factor-unknown-clause-value : goal.returns-then-factor-unknown-clause-value
returns-then-factor-unknown-clause-value c =
    let fs = c.args.factors.now in
    let i = c.loop-factor.factor-index in
    let d : Factor = (0, pos 0) in
    small-same (slice_index_or fs i d).1 (small-at 0 fs i d c.requires c.loop-factor-test.true)
    ∙ sym (c.loop-factor.invariant ∙ ap (λ u. factor_of u (drop i fs)) (sym c.if-factor-unknown.true)
    ∙ first-found 0 fs i d c.requires c.loop-factor-test.true)

pub returns-then-factor-unknown-clause-small : goal.returns-then-factor-unknown-clause-small
returns-then-factor-unknown-clause-small c = small-read (slice_index_or c.args.factors.now c.loop-factor.factor-index (0, pos 0)).1
    (small-at 0 c.args.factors.now c.loop-factor.factor-index (0, pos 0) c.requires c.loop-factor-test.true)
