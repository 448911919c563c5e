use Rattle.std.proofs.Common.{FitsSigned, w64, rules}
use Rattle.std.proofs.lemmas.Int.{to_z-of_z}
use Rattle.ft_mean.specs.judge.Scope.{kinds_of}
use Rattle.ft_mean.specs.meaning.Reading.{reading_of}
use Rattle.ft_mean.proofs.RecallLemmas.{made_next}
use Rattle.ft_mean.proofs.telling.row_now.Goals as goal

pub loop-variable-preserved : goal.loop-variable-preserved
loop-variable-preserved c =
    let fits : FitsSigned w64 c.recorded.result = search rules in
    let pushed = simp to_z-of_z at c.in_ok-push.ensures.ok in
    made_next (reading_of c.args.tables.now (kinds_of c.args.scope) c.args.scans.now c.args.scan) c.loop-variable.row c.push.new.self
    c.loop-variable.variable c.recorded.result
    c.loop-variable.invariant c.recorded.ensures pushed
