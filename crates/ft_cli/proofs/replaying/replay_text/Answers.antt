use Rattle.std.proofs.Common.{subst, sym}
use Rattle.ft_cli.specs.meaning.Replay.{IsRun}
use Rattle.ft_cli.proofs.ReplayLemmas.{refused-ran, streamed-ran}
use Rattle.ft_cli.proofs.replaying.replay_text.Goals as goal

pub returns-in-Ok : goal.returns-in-Ok
returns-in-Ok c = subst (λ bytes. IsRun c.args.tables.now bytes c.streamed.result) c.after_mark.ensures
    (subst (IsRun c.args.tables.now c.after_mark.result.now) (sym c.streamed.ensures)
    (streamed-ran c.args.tables.now c.after_mark.result.now c.in-Ok.found c.in-Ok.ensures.told))

pub returns-in-Err : goal.returns-in-Err
returns-in-Err c = subst (λ bytes. IsRun c.args.tables.now bytes c.trace_refused.result) c.after_mark.ensures
    (subst (IsRun c.args.tables.now c.after_mark.result.now) (sym c.trace_refused.ensures)
    (refused-ran c.args.tables.now c.after_mark.result.now c.in-Err.fault c.in-Err.ensures.fault c.in-Err.ensures.only))
