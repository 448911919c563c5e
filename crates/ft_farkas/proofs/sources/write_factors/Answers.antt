use Rattle.std.proofs.Common.{◌+◌, ◌≡◌, ◌∙◌, sym, ap, subst, pos, slice_index_or, arith}
use Rattle.ft_linear.specs.meaning.Form.{Factor, IsSmall}
use Rattle.ft_farkas.specs.meaning.Rows.{row_of}
use Rattle.ft_farkas.specs.building.Forms.{turned_by}
use Rattle.ft_farkas.proofs.SourceRowLemmas.{small-same, written-more}
use Rattle.ft_farkas.proofs.sources.write_factors.Goals as goal

pub write_factor-requires-clause-small : goal.write_factor-requires-clause-small
write_factor-requires-clause-small c =
    let small = c.form_laws.ensures.small 0 c.args.factors.now c.factors.factor-index (0, pos 0) c.requires.rising c.factors-test.true in
    subst IsSmall (sym (small-same (slice_index_or c.args.factors.now c.factors.factor-index (0, pos 0)).1 small)) small

pub factors-preserved : goal.factors-preserved
factors-preserved c =
    let d : Factor = (0, pos 0) in
    let g : Factor = slice_index_or c.args.factors.now c.factors.factor-index d in
    let same = small-same g.1 (c.form_laws.ensures.small 0 c.args.factors.now c.factors.factor-index d c.requires.rising c.factors-test.true) in (
      c.write_factor.ensures.columns ∙ c.factors.invariant.0,
      c.write_factor.ensures.others 0 (λ (e : 0 ≡ g.0 + 1). omega (arith, e)) ∙ c.factors.invariant.1,
      written-more c.args.value c.args.factors.now c.factors.factor-index d (row_of c.factors.row) (row_of c.write_factor.new.row) c.requires.rising c.factors-test.true
          c.factors.invariant.2 (c.write_factor.ensures.own ∙ ap (turned_by c.args.value) same) c.write_factor.ensures.others,
      c.write_factor.ensures.narrow,
    )
