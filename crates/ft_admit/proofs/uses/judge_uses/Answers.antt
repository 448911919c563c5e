use Rattle.ft_admit.specs.meaning.Uses.{use_spot}
use Rattle.ft_admit.proofs.UsesLemmas.{answers-env}
use Rattle.ft_admit.proofs.uses.judge_uses.Goals as goal

pub returns : goal.returns
returns c = record {
  answers = answers-env c.judge_set.result use_spot c.args.cards.now c.args.tree.now.items c.as_slice.result.now c.requires
      c.as_slice.ensures c.judge_set.ensures.answers;
}
