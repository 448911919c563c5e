use Rattle.ft_cert.proofs.SoundLemmas.{none-where-holds}
use Rattle.ft_cert.proofs.WaitingLemmas.{all-placed, placed-in-order}
use Rattle.ft_cert.proofs.law.cert_laws.Goals as goal

pub returns-clause-none : goal.returns-clause-none
returns-clause-none c f p t x over holds point sat =
    let parts = c.part_laws.ensures in
    let sums = c.sum_laws.ensures in
    none-where-holds f x parts.spans parts.none parts.forced parts.differences sums.contradicted sums.tightened sat p t over holds point

pub returns-clause-in_order : goal.returns-clause-in_order
returns-clause-in_order c = placed-in-order

pub returns-clause-all : goal.returns-clause-all
returns-clause-all c = all-placed
