use Rattle.std.proofs.Common.{◌∙◌, sym, ap, arith, FitsSigned, w64, rules}
use Rattle.std.specs.Prelude.{int_le}
use Rattle.std.proofs.lemmas.Int.{to_z-of_z}
use Rattle.ft_mean.specs.judge.Seen.{view_at}
use Rattle.ft_mean.specs.meaning.Value.{value}
use Rattle.ft_mean.proofs.RecallLemmas.{band_up, band_down, band_between}
use Rattle.ft_mean.proofs.recall.was_met.Goals as goal

pub returns-then-number-hi : goal.returns-then-number-hi
returns-then-number-hi c =
    let lo : FitsSigned w64 c.args.lo = search rules in
    let hi : FitsSigned w64 c.args.hi = search rules in
    let number : FitsSigned w64 c.value_of-number.result = search rules in
    let past = simp to_z-of_z at c.loop-back.invariant in
    let is = sym c.value_of-number.ensures in
    let up = simp to_z-of_z at c.if-number-hi.true in
    sym (past ∙ band_up c.args.lo c.args.hi c.args.start (λ j. value (view_at c.args.seen.now j) c.args.term.now) c.args.begun c.args.scan
    c.loop-back.back (omega (arith, c.loop-back-test.true))
    (ap (int_le c.args.hi) is ∙ up))

pub returns-then-number-lo : goal.returns-then-number-lo
returns-then-number-lo c =
    let lo : FitsSigned w64 c.args.lo = search rules in
    let hi : FitsSigned w64 c.args.hi = search rules in
    let number : FitsSigned w64 c.value_of-number.result = search rules in
    let past = simp to_z-of_z at c.loop-back.invariant in
    let is = sym c.value_of-number.ensures in
    let up = simp to_z-of_z at c.if-number-hi.false in
    let down = simp to_z-of_z at c.if-number-lo.true in
    sym (past ∙ band_down c.args.lo c.args.hi c.args.start (λ j. value (view_at c.args.seen.now j) c.args.term.now) c.args.begun c.args.scan
    c.loop-back.back (omega (arith, c.loop-back-test.true))
    (ap (int_le c.args.hi) is ∙ up) (ap (λ z. int_le z c.args.lo) is ∙ down))

pub loop-back-preserved : goal.loop-back-preserved
loop-back-preserved c =
    let lo : FitsSigned w64 c.args.lo = search rules in
    let hi : FitsSigned w64 c.args.hi = search rules in
    let number : FitsSigned w64 c.value_of-number.result = search rules in
    let past = simp to_z-of_z at c.loop-back.invariant in
    let is = sym c.value_of-number.ensures in
    let up = simp to_z-of_z at c.if-number-hi.false in
    let down = simp to_z-of_z at c.if-number-lo.false in
    simp to_z-of_z (past ∙ band_between c.args.lo c.args.hi c.args.start (λ j. value (view_at c.args.seen.now j) c.args.term.now)
    c.args.begun c.args.scan c.loop-back.back (omega (arith, c.loop-back-test.true))
    (ap (int_le c.args.hi) is ∙ up) (ap (λ z. int_le z c.args.lo) is ∙ down))
