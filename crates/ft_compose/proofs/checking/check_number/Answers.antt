use Rattle.ft_compose.proofs.CertsLemmas.{closed_where_ok, refusal_where_err}
use Rattle.ft_compose.proofs.checking.check_number.Goals as goal

pub check-checked-requires-clause-over : goal.check-checked-requires-clause-over
check-checked-requires-clause-over c = c.in_ok-made.ensures.form.over

pub check-checked-requires-clause-nodes : goal.check-checked-requires-clause-nodes
check-checked-requires-clause-nodes c = c.requires.nodes

pub returns-in-Ok-clause-closed : goal.returns-in-Ok-clause-closed
returns-in-Ok-clause-closed c =
    closed_where_ok c.args.tables.now c.args.number c.in_ok-made.made c.in_ok-made.ensures c.args.cert.now c.deciding_laws.ensures
    c.check-checked.result _ c.in-Ok.is c.check-checked.ensures.ok c.check-checked.ensures.none

pub returns-clause-refused : goal.returns-clause-refused
returns-clause-refused c =
    refusal_where_err c.args.tables.now c.args.number c.in_ok-made.made c.in_ok-made.ensures c.args.cert.now
    c.check-checked.result c.in-Err.fault c.in-Err.is c.check-checked.ensures.fault c.told.result c.told.ensures
