use Rattle.ft_search.proofs.SizeLemmas.{doubled-more}
use Rattle.ft_search.proofs.budget.doubled.Goals as goal

pub loop-atom-preserved : goal.loop-atom-preserved
loop-atom-preserved c = record {
  product = doubled-more c.loop-atom.choices c.args.count c.loop-atom.atom c.loop-atom.invariant.product;
  small = c.if-choices-limit.false;
}
