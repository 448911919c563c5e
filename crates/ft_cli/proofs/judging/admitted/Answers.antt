use Rattle.std.proofs.Common.{subst, sym}
use Rattle.ft_cli.specs.meaning.Judgement.{IsJudgement}
use Rattle.ft_cli.proofs.TopLemmas.{refused}
use Rattle.ft_cli.proofs.judging.admitted.Goals as goal

pub returns-in-Err-clause-stopped : goal.returns-in-Err-clause-stopped
returns-in-Err-clause-stopped c = subst (IsJudgement c.args.text.now) (sym c.refused.ensures.is)
    (refused c.args.text.now c.in-Err.fault c.in-Err.ensures.fault c.in-Err.ensures.only)
