use Rattle.std.proofs.Common.{sym, subst, [], true, true≢false}
use Rattle.ft_core.specs.meaning.Kinds.{monitored}
use Rattle.ft_scan.specs.steps.Rows.{row_view}
use Rattle.ft_mean.specs.judge.Safe.{AreSafeConds}
use Rattle.ft_scan.proofs.RowLemmas.{safe_first, safe_always}
use Rattle.ft_scan.proofs.allowing.may_begin.Goals as goal

pub all_hold-requires : goal.all_hold-requires
all_hold-requires c = subst (AreSafeConds (row_view c.args.tables.now monitored c.args.now.now [] true)) (sym c.as_slice.ensures)
    ((safe_always c.laws.ensures) c.args.tables.now monitored c.args.now.now [] true c.requires (λ e. absurd (true≢false e)))

pub all_hold-requires-then-all_hold : goal.all_hold-requires-then-all_hold
all_hold-requires-then-all_hold c = subst (AreSafeConds (row_view c.args.tables.now monitored c.args.now.now [] true))
    (sym c.as_slice-then-all_hold.ensures)
    ((safe_first c.laws.ensures) c.args.tables.now monitored c.args.now.now [] true c.requires (λ e. absurd (true≢false e)))
