use Rattle.std.proofs.Common.{sym, arith, suc, ◌-◌, ◌&&◌, FitsSigned, w64, rules}
use Rattle.std.specs.Prelude.{int_le}
use Rattle.std.specs.List.{list_all}
use Rattle.std.proofs.lemmas.Int.{to_z-of_z}
use Rattle.ft_mean.specs.judge.Scope.{reading_by}
use Rattle.ft_mean.specs.meaning.Past.{scans}
use Rattle.ft_mean.specs.meaning.Reading.{since}
use Rattle.ft_mean.specs.judge.Seen.{view_at}
use Rattle.ft_mean.specs.meaning.Value.{truth}
use Rattle.ft_mean.proofs.RecallLemmas.{none_next, some_at}
use Rattle.ft_mean.proofs.recall.was_held.Goals as goal

pub returns-then-was_held_from : goal.returns-then-was_held_from
returns-then-was_held_from c =
    let hold : FitsSigned w64 c.args.hold = search rules in
    let here = simp to_z-of_z at c.if-was_held_from.ensures in
    sym (some_at (λ j. int_le c.args.hold (since c.args.known.now.tables.now
    (reading_by c.args.known.now.tables.now c.args.known.now.scope c.args.known.now.scans.now) j c.args.scan)
    && list_all (λ k. truth (view_at c.args.seen.now k) c.args.cond.now) (scans j c.args.scan))
    c.args.begun (suc c.args.scan - c.args.begun) c.loop-from.from c.loop-from.auto.from
    (omega (arith, c.loop-from-test.true, c.loop-from.auto.from)) (sym here))

pub loop-from-preserved : goal.loop-from-preserved
loop-from-preserved c =
    let hold : FitsSigned w64 c.args.hold = search rules in
    let here = simp to_z-of_z at c.if-was_held_from.ensures in
    let past = simp to_z-of_z at c.loop-from.invariant in
    simp to_z-of_z (none_next (λ j. int_le c.args.hold (since c.args.known.now.tables.now
    (reading_by c.args.known.now.tables.now c.args.known.now.scope c.args.known.now.scans.now) j c.args.scan)
    && list_all (λ k. truth (view_at c.args.seen.now k) c.args.cond.now) (scans j c.args.scan))
    c.args.begun c.loop-from.from c.loop-from.auto.from past (sym here))
