use Rattle.std.proofs.Common.{◌∙◌, sym, ap, length, pos, arith}
use Rattle.std.proofs.lemmas.List.{length_push, take_all}
use Rattle.ft_core.specs.laws.Places.{item-there}
use Rattle.ft_core.specs.laws.VarPlaces.{counted, passed}
use Rattle.ft_core.specs.meaning.Kinds.{count_of, monitored}
use Rattle.ft_stream.proofs.rows.zeros.Goals as goal
use Rattle.ft_stream.proofs.rows.zeros.Goals.{then-is_monitored+in_ok-push, else-is_monitored}

pub loop-var-preserved : goal.loop-var-preserved
loop-var-preserved c =
    let vars = c.args.tables.now.vars in
    let at = c.loop-var.var-index in
    let there = item-there vars c.as_slice-var-items.result.now at c.var-item.result c.as_slice-var-items.ensures c.loop-var-test.true
    c.var-item.is in
    elim c.if-is_monitored.branch [
      | then-is_monitored+in_ok-push w ↦
          let one = counted monitored vars at c.var-item.result there (sym c.is_monitored.ensures ∙ w.if-is_monitored.true) in
          let longer = ap length w.in_ok-push.ensures.items ∙ length_push c.loop-var.row.items (pos 0) in
          ap (λ row. length row.items) w.row-is ∙ omega (arith, longer, one, c.loop-var.invariant)
      | else-is_monitored w ↦
          let same = passed monitored vars at c.var-item.result there (sym c.is_monitored.ensures ∙ w.if-is_monitored.false) in
          ap (λ row. length row.items) w.row-is ∙ omega (arith, same, c.loop-var.invariant)
    ]

pub returns : goal.returns
returns c = c.loop-var.invariant ∙ ap (count_of monitored) (take_all c.loop-var.var-index c.args.tables.now.vars
    (let long = ap length c.as_slice-var-items.ensures in omega (arith, long, c.loop-var-test.false)))
