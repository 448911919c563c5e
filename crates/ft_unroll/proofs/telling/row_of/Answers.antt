use Rattle.std.proofs.Common.{◌∙◌, sym, ap, refl, length, arith}
use Rattle.ft_core.specs.laws.Places.{item-there}
use Rattle.ft_unroll.proofs.TellLemmas.{row-more, row-same, row-all}
use Rattle.ft_unroll.proofs.telling.row_of.Goals as goal
use Rattle.ft_unroll.proofs.telling.row_of.Goals.{then-is_monitored+in_ok-add_told, else-is_monitored}

pub loop-variable-preserved : goal.loop-variable-preserved
loop-variable-preserved c =
    let there = item-there c.args.tables.now.vars c.as_slice-var-items.result.now c.loop-variable.variable c.var-item.result
    c.as_slice-var-items.ensures c.loop-variable-test.true c.var-item.is in
    elim c.if-is_monitored.branch [
      | then-is_monitored+in_ok-add_told w ↦
          row-more c.args.tables.now c.args.names.now c.args.values.now c.args.base c.loop-variable.variable c.var-item.result there
          c.loop-variable.row c.if-is_monitored.row c.loop-variable.invariant _
          (sym c.is_monitored.ensures ∙ w.if-is_monitored.true) refl (w.row-is ∙ w.in_ok-add_told.ensures)
      | else-is_monitored w ↦
          row-same c.args.tables.now c.args.names.now c.args.values.now c.args.base c.loop-variable.variable c.var-item.result there
          c.loop-variable.row c.if-is_monitored.row c.loop-variable.invariant
          (sym c.is_monitored.ensures ∙ w.if-is_monitored.false) w.row-is
    ]

pub returns : goal.returns
returns c = row-all c.args.tables.now c.args.names.now c.args.values.now c.args.base c.loop-variable.variable c.loop-variable.row
    (let long = ap length c.as_slice-var-items.ensures in omega (arith, long, c.loop-variable-test.false)) c.loop-variable.invariant
