use Rattle.std.proofs.Common.{◌∙◌, ap, sym, subst, true}
use Rattle.ft_claims.specs.laws.FormulaLaws.{AreGood}
use Rattle.ft_claims.specs.laws.PointLaws.{cover_obliged}
use Rattle.ft_claims.specs.meaning.Areas.{finished}
use Rattle.ft_claims.specs.meaning.Coverage.{cover_parts}
use Rattle.ft_claims.specs.meaning.Spans.{cover_spans}
use Rattle.ft_settle.specs.meaning.Settled.{settled}
use Rattle.ft_oblige.specs.meaning.Made.{meant}
use Rattle.ft_oblige.proofs.MadeLemmas.{form-made}
use Rattle.ft_oblige.proofs.numbered.coverage.Goals as goal

pub oblige-requires : goal.oblige-requires
oblige-requires c =
    let S = c.args.tables.now in
    let fault = meant c.args.fault in
    let spans = c.as_slice-2.ensures ∙ c.in_ok-spans.ensures in
    let parts = c.as_slice-3.ensures ∙ c.in_ok-parts.ensures ∙ ap (cover_parts S fault c.get.result.now.grid) c.as_slice.ensures in
    record {
      good = subst (λ s. AreGood s c.as_slice-3.result.now) (sym spans) (subst (AreGood (cover_spans S)) (sym parts)
          (c.point_laws.ensures.good S c.args.table c.get.result.now c.get.ensures c.in_ok-memories.memories
          c.in_ok-memories.ensures fault));
    }

pub returns : goal.returns
returns c =
    let S = c.args.tables.now in
    let fault = meant c.args.fault in
    let spans = c.as_slice-2.ensures ∙ c.in_ok-spans.ensures in
    let parts = c.as_slice-3.ensures ∙ c.in_ok-parts.ensures ∙ ap (cover_parts S fault c.get.result.now.grid) c.as_slice.ensures in
    record {
      table = c.get.result.now;
      its = c.get.ensures;
      memories = c.in_ok-memories.memories;
      read = c.in_ok-memories.ensures;
      form = form-made S true c.in_ok-obliged.obliged (cover_obliged S fault c.get.result.now.grid c.in_ok-memories.memories)
          c.in_ok-made.made c.in_ok-made.ensures
          (c.in_ok-obliged.ensures.formula ∙ (λ i. settled (finished (spans i) (parts i)).formula))
          (c.in_ok-obliged.ensures.spans ∙ (λ i. (finished (spans i) (parts i)).spans))
          (c.in_ok-obliged.ensures.names ∙ (λ i. (finished (spans i) (parts i)).names))
          c.in_ok-obliged.ensures.over;
    }
