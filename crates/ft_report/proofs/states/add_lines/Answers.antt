use Rattle.std.proofs.Common.{◌<◌, ◌∙◌, ap, sym, arith, length, pos, rules, w64, FitsSigned}
use Rattle.std.specs.Prelude.{Some, slice_index_or}
use Rattle.std.proofs.lemmas.Int.{to_z-of_z}
use Rattle.std.proofs.lemmas.Option.{slice_get-get_or}
use Rattle.ft_report.specs.meaning.States.{value_line}
use Rattle.ft_report.proofs.StateLemmas.{pieces-all, pieces-next}
use Rattle.ft_report.proofs.states.add_lines.Goals as goal

pub loop-at-preserved : goal.loop-at-preserved
loop-at-preserved c =
    let within : c.loop-at.at < length c.args.labels.now = omega (arith, c.loop-at-test.true, c.min-at-end.ensures) in
    let within' : c.loop-at.at < length c.args.values.now = omega (arith, c.loop-at-test.true, c.min-at-end.ensures) in
    let value = slice_index_or c.args.values.now c.loop-at.at (pos 0) in
    let fits : FitsSigned w64 value = search rules in
    pieces-next (λ entry. value_line entry.0 entry.1) c.args.labels.now c.args.values.now c.loop-at.at c.index-labels-at.result
    value c.args.text.now c.loop-at.text c.add_line.new.text
    (slice_get-get_or c.args.labels.now c.loop-at.at c.index-labels-at.result within ∙ ap Some (sym c.index-labels-at.is))
    (slice_get-get_or c.args.values.now c.loop-at.at (pos 0) within') c.loop-at.invariant (simp to_z-of_z at c.in_ok-add_line.ensures)

pub returns : goal.returns
returns c = pieces-all (λ entry. value_line entry.0 entry.1) c.args.labels.now c.args.values.now c.loop-at.at c.args.text.now c.loop-at.text
    (omega (arith, c.loop-at-test.false, c.min-at-end.ensures)) c.loop-at.invariant
