use Rattle.std.proofs.Common.{sym, subst, false}
use Rattle.ft_core.specs.meaning.Kinds.{monitored}
use Rattle.ft_scan.specs.steps.Rows.{row_view}
use Rattle.ft_mean.specs.judge.Safe.{AreSafeConds}
use Rattle.ft_scan.proofs.RowLemmas.{safe_step, safe_always}
use Rattle.ft_scan.proofs.allowing.may_follow.Goals as goal

pub all_hold-requires : goal.all_hold-requires
all_hold-requires c = subst (AreSafeConds (row_view c.args.tables.now monitored c.args.now.now c.args.earlier.now false))
    (sym c.as_slice.ensures)
    ((safe_always c.laws.ensures) c.args.tables.now monitored c.args.now.now c.args.earlier.now false c.requires.now
    (λ e. c.requires.earlier))

pub all_hold-requires-then-all_hold : goal.all_hold-requires-then-all_hold
all_hold-requires-then-all_hold c = subst (AreSafeConds (row_view c.args.tables.now monitored c.args.now.now c.args.earlier.now false))
    (sym c.as_slice-then-all_hold.ensures)
    ((safe_step c.laws.ensures) c.args.tables.now monitored c.args.now.now c.args.earlier.now false c.requires.now
    (λ e. c.requires.earlier))
