use Rattle.std.proofs.Common.{◌∙◌, sym, ap, length, pos, arith}
use Rattle.std.proofs.lemmas.List.{length_push}
use Rattle.ft_replay.specs.scans.Rows.{class_of}
use Rattle.ft_core.specs.laws.Places.{item-there}
use Rattle.ft_core.specs.laws.VarPlaces.{counted, passed}
use Rattle.ft_replay.proofs.CountLemmas.{all-counted}
use Rattle.ft_replay.proofs.rows.zeros.Goals as goal
use Rattle.ft_replay.proofs.rows.zeros.Goals.{then-has+in_ok-push, else-has}

pub loop-variable-preserved : goal.loop-variable-preserved
loop-variable-preserved c =
    let there = item-there c.args.tables.now.vars c.as_slice-var-items.result.now c.loop-variable.variable c.var-item.result
    c.as_slice-var-items.ensures c.loop-variable-test.true c.var-item.is in
    elim c.if-has.branch [
      | then-has+in_ok-push w ↦
          let one = counted (class_of c.args.class) c.args.tables.now.vars c.loop-variable.variable c.var-item.result there
          (sym c.has.ensures ∙ w.if-has.true) in
          let longer = ap length w.in_ok-push.ensures.items ∙ length_push c.loop-variable.row.items (pos 0) in
          ap (λ row. length row.items) w.row-is ∙ omega (arith, longer, one, c.loop-variable.invariant)
      | else-has w ↦
          let same = passed (class_of c.args.class) c.args.tables.now.vars c.loop-variable.variable c.var-item.result there
          (sym c.has.ensures ∙ w.if-has.false) in
          ap (λ row. length row.items) w.row-is ∙ omega (arith, same, c.loop-variable.invariant)
    ]

pub returns : goal.returns
returns c = c.loop-variable.invariant ∙ all-counted (class_of c.args.class) c.args.tables.now.vars c.loop-variable.variable
    (let e = ap length c.as_slice-var-items.ensures in omega (arith, e, c.loop-variable-test.false, c.loop-variable.auto.variable-end))
