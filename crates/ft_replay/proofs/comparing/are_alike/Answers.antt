use Rattle.std.proofs.Common.{ap, length, arith}
use Rattle.ft_core.specs.declared.tables.Side.TheVariants as side
use Rattle.ft_core.specs.laws.Places.{item-there}
use Rattle.ft_replay.proofs.RowLemmas.{alike-more, all-alike, controlled-places, differ-here, place-more}
use Rattle.ft_replay.proofs.comparing.are_alike.Goals as goal

pub is_alike-requires : goal.is_alike-requires
is_alike-requires c = controlled-places c.laws.ensures c.args.tables.now c.vars.variable c.var-item.result
    (item-there c.args.tables.now.vars c.as_slice-var-items.result.now c.vars.variable c.var-item.result c.as_slice-var-items.ensures
    c.vars-test.true c.var-item.is)
    c.args.required.now c.args.row.now c.vars.at c.vars.invariant.place c.requires.width c.requires.room

pub returns-then-not-is_alike : goal.returns-then-not-is_alike
returns-then-not-is_alike c = differ-here c.laws.ensures c.args.tables.now c.vars.variable c.var-item.result
    (item-there c.args.tables.now.vars c.as_slice-var-items.result.now c.vars.variable c.var-item.result c.as_slice-var-items.ensures
    c.vars-test.true c.var-item.is)
    c.args.required.now c.args.row.now c.vars.at c.vars.invariant.place c.if-not-is_alike.ensures

pub vars-preserved : goal.vars-preserved
vars-preserved c =
    let there = item-there c.args.tables.now.vars c.as_slice-var-items.result.now c.vars.variable c.var-item.result
    c.as_slice-var-items.ensures c.vars-test.true c.var-item.is in
    record {
      place = place-more c.args.tables.now side.Req c.vars.variable c.vars.at c.next_place-at.result c.var-item.result there
          c.vars.invariant.place c.next_place-at.ensures;
      alike = alike-more c.laws.ensures c.args.tables.now c.vars.variable c.var-item.result there c.args.required.now c.args.row.now
          c.vars.at
          c.vars.invariant.place c.vars.invariant.alike c.if-not-is_alike.ensures;
    }

pub returns : goal.returns
returns c = all-alike c.laws.ensures c.args.tables.now c.vars.variable
    (let e = ap length c.as_slice-var-items.ensures in omega (arith, e, c.vars-test.false, c.vars.auto.variable-end))
    c.args.required.now c.args.row.now c.vars.invariant.alike
