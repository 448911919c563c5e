use Rattle.std.proofs.Common.{◌+◌, subst}
use Rattle.ft_compose.specs.building.Deciding.{IsAttempt}
use Rattle.ft_compose.proofs.DecideLemmas.{more_closed, stopped}
use Rattle.ft_compose.proofs.deciding.go_on.Goals as goal

pub returns-in_ok-add_cert-in-Closed : goal.returns-in_ok-add_cert-in-Closed
returns-in_ok-add_cert-in-Closed c = more_closed c.args.tables.now c.args.keep c.args.before c.args.certs.now
    c.add_cert.new.certs c.in-Closed.cert c.requires.closed
    (subst (IsAttempt c.args.tables.now (c.args.before + 1)) c.in-Closed.is c.in_ok-tried.ensures)
    c.in_ok-add_cert-in-Closed.ensures

pub returns-in-Stopped : goal.returns-in-Stopped
returns-in-Stopped c = stopped c.deciding_laws.ensures c.args.tables.now c.requires.proper c.args.keep c.args.before c.args.certs.now
    c.in-Stopped.found c.requires.closed
    (subst (IsAttempt c.args.tables.now (c.args.before + 1)) c.in-Stopped.is c.in_ok-tried.ensures)
