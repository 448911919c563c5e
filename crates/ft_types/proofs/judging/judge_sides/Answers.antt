use Rattle.ft_types.specs.meaning.Sides.{side_spot}
use Rattle.ft_types.proofs.EnvLemmas.{answers-env}
use Rattle.ft_types.proofs.judging.judge_sides.Goals as goal

pub returns : goal.returns
returns c = record {
  answers = answers-env c.judge_set.result side_spot c.args.cards.now c.args.tree.now.items c.as_slice.result.now c.requires
      c.as_slice.ensures
      c.judge_set.ensures.answers;
}
