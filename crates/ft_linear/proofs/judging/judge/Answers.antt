use Rattle.std.proofs.Common.{◌∙◌, sym}
use Rattle.ft_linear.proofs.PartLaws.{no-point, forced-point, yes-point}
use Rattle.ft_linear.proofs.judging.judge.Goals as goal

pub returns-clause-none : goal.returns-clause-none
returns-clause-none c is x point sat = no-point c.args.formula.now c.args.part.now x c.requires.over point
    (sym c.judge_in.ensures.truth ∙ is) sat

pub returns-clause-forced : goal.returns-clause-forced
returns-clause-forced c x a s point sat is = forced-point c.args.formula.now c.args.part.now x c.requires.over point a s sat is

pub returns-clause-all : goal.returns-clause-all
returns-clause-all c is x area = yes-point c.args.formula.now c.args.part.now x c.requires.over c.requires.opened.decided area
    (sym c.judge_in.ensures.truth ∙ is)
