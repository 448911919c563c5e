use Rattle.std.proofs.Common.{◌∙◌, ap, length, arith}
use Rattle.ft_core.specs.declared.tables.Side.TheVariants as side
use Rattle.ft_core.specs.laws.Places.{item-there}
use Rattle.ft_replay.proofs.RowLemmas.{all-put-out, output-places, place-more, put-more}
use Rattle.ft_replay.proofs.telling.tell_outputs.Goals as goal

pub tell_output-requires : goal.tell_output-requires
tell_output-requires c = output-places c.laws.ensures c.args.tables.now c.vars.variable c.var-item.result
    (item-there c.args.tables.now.vars c.as_slice-var-items.result.now c.vars.variable c.var-item.result c.as_slice-var-items.ensures
    c.vars-test.true c.var-item.is)
    c.args.design.now c.vars.row c.vars.at c.vars.invariant.place c.requires.width (c.vars.auto.row ∙ c.requires.room)

pub vars-preserved : goal.vars-preserved
vars-preserved c =
    let there = item-there c.args.tables.now.vars c.as_slice-var-items.result.now c.vars.variable c.var-item.result
    c.as_slice-var-items.ensures c.vars-test.true c.var-item.is in
    record {
      place = place-more c.args.tables.now side.Sof c.vars.variable c.vars.at c.next_place-at.result c.var-item.result there
          c.vars.invariant.place c.next_place-at.ensures;
      put = put-more c.laws.ensures c.args.tables.now c.vars.variable c.var-item.result there c.args.design.now c.args.row.now c.vars.row
          c.tell_output.new.row c.vars.at
          c.vars.invariant.place c.requires.room c.vars.invariant.put c.tell_output.ensures;
    }

pub returns-clause-told : goal.returns-clause-told
returns-clause-told c = all-put-out c.laws.ensures c.args.tables.now c.vars.variable
    (let e = ap length c.as_slice-var-items.ensures in omega (arith, e, c.vars-test.false, c.vars.auto.variable-end))
    c.args.design.now c.args.row.now c.vars.row c.vars.invariant.put
