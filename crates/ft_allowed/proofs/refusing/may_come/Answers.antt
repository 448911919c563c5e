use Rattle.std.proofs.Common.{◌∙◌}
use Rattle.ft_allowed.proofs.RowLemmas.{at-first, at-later}
use Rattle.ft_allowed.proofs.refusing.may_come.Goals as goal

pub returns-then-scan-eq0 : goal.returns-then-scan-eq0
returns-then-scan-eq0 c = c.allowed_step.ensures
    ∙ at-first c.laws.ensures.by_scan c.args.tables.now c.args.list.now c.args.scan _ c.if-scan-eq0.true c.row-now.ensures

pub returns-else-scan-eq0 : goal.returns-else-scan-eq0
returns-else-scan-eq0 c = c.allowed_step-else-scan-eq0.ensures
    ∙ at-later c.laws.ensures.by_scan c.args.tables.now c.args.list.now c.args.scan _ _ c.if-scan-eq0.false c.row.ensures c.row-now.ensures
