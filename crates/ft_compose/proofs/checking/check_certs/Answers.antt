use Rattle.std.proofs.lemmas.Result.{on_ok_weaker, IfErr-weaker}
use Rattle.ft_compose.specs.meaning.Checked.{IsCertsFault}
use Rattle.ft_compose.proofs.CertsLemmas.{all_certs, all_close, all_proper, memory_only}
use Rattle.ft_compose.proofs.checking.check_certs.Goals as goal

pub returns-clause-all : goal.returns-clause-all
returns-clause-all c = on_ok_weaker c.check_all.result (all_certs c.args.tables.now c.args.certs.now) c.check_all.ensures.closed

pub returns-clause-close : goal.returns-clause-close
returns-clause-close c = on_ok_weaker c.check_all.result (all_close c.args.tables.now c.args.certs.now) c.check_all.ensures.closed

pub returns-clause-proper : goal.returns-clause-proper
returns-clause-proper c =
    on_ok_weaker c.check_all.result (all_proper c.closed_laws.ensures c.args.tables.now c.args.certs.now) c.check_all.ensures.closed

pub returns-clause-refused : goal.returns-clause-refused
returns-clause-refused c = c.check_all.ensures.refused

pub returns-clause-only : goal.returns-clause-only
returns-clause-only c = λ all. IfErr-weaker c.check_all.result (IsCertsFault c.args.tables.now c.args.certs.now) _
    (memory_only c.args.tables.now c.args.certs.now all) c.check_all.ensures.refused
