use Rattle.std.proofs.Common.{◌∙◌}
use Rattle.csv.specs.Records.{fields_of}
use Rattle.ft_core.specs.laws.Places.{item-there}
use Rattle.ft_trace.proofs.RowLemmas.{has-place, one-more, stops}
use Rattle.ft_trace.proofs.row.read_fields.Goals as goal

pub read_field-requires-clause-field : goal.read_field-requires-clause-field
read_field-requires-clause-field c = has-place c.args.tables.now (fields_of c.args.row.now) c.vars.values c.vars.values c.vars.at
    c.var-item.result
    (item-there _ _ c.vars.at c.var-item.result c.as_slice-var-items.ensures c.vars-test.true c.var-item.is)
    (c.vars.invariant.room ∙ c.requires.room) c.vars.invariant.spells (fields_of c.args.row.now) c.requires.width

pub read_field-requires-clause-room : goal.read_field-requires-clause-room
read_field-requires-clause-room c = has-place c.args.tables.now (fields_of c.args.row.now) c.vars.values c.vars.values c.vars.at
    c.var-item.result
    (item-there _ _ c.vars.at c.var-item.result c.as_slice-var-items.ensures c.vars-test.true c.var-item.is)
    (c.vars.invariant.room ∙ c.requires.room) c.vars.invariant.spells c.vars.values (c.vars.invariant.room ∙ c.requires.room)

pub returns-in-Err-clause-fault : goal.returns-in-Err-clause-fault
returns-in-Err-clause-fault c = stops c.args.tables.now (fields_of c.args.row.now) c.vars.values c.vars.values c.vars.at c.var-item.result
    (item-there _ _ c.vars.at c.var-item.result c.as_slice-var-items.ensures c.vars-test.true c.var-item.is)
    (c.vars.invariant.room ∙ c.requires.room) c.vars.invariant.spells c.args.scan c.in-Err.fault c.requires.width c.in-Err.ensures.fault

pub vars-preserved : goal.vars-preserved
vars-preserved c =
    let more = one-more c.args.tables.now (fields_of c.args.row.now) c.vars.values c.read_field.new.values c.vars.at c.var-item.result
    (item-there _ _ c.vars.at c.var-item.result c.as_slice-var-items.ensures c.vars-test.true c.var-item.is)
    (c.vars.invariant.room ∙ c.requires.room) c.vars.invariant.spells c.in-Ok.ensures.ok in
    record { room = more.0 ∙ c.vars.invariant.room; spells = more.1 }
