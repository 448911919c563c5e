use Rattle.ft_measure.proofs.EnvLemmas.{answers-env}
use Rattle.ft_measure.proofs.judging.judge_slopes.Goals as goal

pub returns : goal.returns
returns c = record {
  answers = answers-env c.judge_set.result c.args.cards.now c.args.tree.now.items c.as_slice.result.now c.requires c.as_slice.ensures
      c.judge_set.ensures.answers;
}
