use Rattle.std.proofs.Common.{subst, sym, IfOk}
use Rattle.ft_core.specs.declared.tables.Tables.{Tables}
use Rattle.ft_mean.specs.meaning.Proper.{AllProper}
use Rattle.ft_cli.specs.stages.Judging.{IsReportOn}
use Rattle.ft_cli.proofs.judging.judged.Goals as goal

pub decide_blocks-requires-clause-proper : goal.decide_blocks-requires-clause-proper
decide_blocks-requires-clause-proper c = subst AllProper (sym c.in_ok-tables.ensures.listed.0) c.requires.proper

pub decided-requires-clause-proper : goal.decided-requires-clause-proper
decided-requires-clause-proper c = subst AllProper (sym c.in_ok-tables.ensures.listed.0) c.requires.proper

pub returns-clause-ended : goal.returns-clause-ended
returns-clause-ended c =
    subst (λ (S : Tables). IfOk c.decided.result (IsReportOn S)) c.in_ok-tables.ensures.listed.0 c.decided.ensures.ended
