use Rattle.std.proofs.Common.{◌∙◌, sym, subst, ◌<◌, length, arith, take, []}
use Rattle.std.specs.Prelude.{IsTrue, None}
use Rattle.std.specs.List.{last_or}
use Rattle.std.proofs.lemmas.List.{get_or-take, length-take-le}
use Rattle.ft_core.specs.declared.tables.Tables.{Tables}
use Rattle.ft_mean.specs.meaning.Reading.{Scans}
use Rattle.ft_scan.specs.meaning.Allowing.{nat_after}
use Rattle.ft_replay.proofs.FirstLemmas.{nat-at-end}
use Rattle.ft_replay.proofs.replaying.replay_all.Goals as goal

pub scan-requires-clause-allowed : goal.scan-requires-clause-allowed
scan-requires-clause-allowed c =
    let S = c.args.replayer.now.set in
    let h = c.args.history.now in
    let t = c.loop-scan.scan in
    let less : t < length h = omega (arith, c.loop-scan-test.true, c.scans-scan-end.ensures) in
    let as_after = nat-at-end c.laws.ensures.allowed_by_scan S (take t h) h c.row.result.now t (length-take-le t h (omega (arith, less)))
    (λ j l. sym (get_or-take t h j [] l)) (sym c.row.ensures) in
    subst (λ (s : Tables). IsTrue (nat_after s (last_or None c.loop-scan.replayer.list) c.row.result.now)) (sym c.loop-scan.invariant.set)
    (subst (λ (g : Scans). IsTrue (nat_after S (last_or None g) c.row.result.now)) (sym c.loop-scan.invariant.list)
    (sym as_after ∙ c.requires.allowed.clauses t less))
