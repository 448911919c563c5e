use Rattle.std.proofs.Common.{◌∙◌, sym, subst}
use Rattle.ft_core.specs.declared.tables.Tables.{Tables}
use Rattle.ft_mean.specs.meaning.Reading.{Scans}
use Rattle.ft_mean.specs.meaning.Refines.{FirstDiffers}
use Rattle.ft_replay.proofs.replaying.replay.Goals as goal

pub returns-clause-agree : goal.returns-clause-agree
returns-clause-agree c = λ scan d.
    let r = c.replay_all.new.replayer in
    c.in-None.ensures.none scan
    (subst (λ (s : Tables). FirstDiffers s r.list scan) (sym (c.replay_all.ensures.set ∙ c.in_ok-replayer.ensures.set))
    (subst (λ (h : Scans). FirstDiffers c.args.tables.now h scan) (sym c.replay_all.ensures.list) d))
