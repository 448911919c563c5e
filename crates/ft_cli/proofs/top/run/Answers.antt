use Rattle.ft_cli.proofs.CompleteLemmas.{complete, decides, refutes, verifies}
use Rattle.ft_cli.proofs.TopLemmas.{answered, demonstration, generates, headline, of-each, prints, refutation}
use Rattle.ft_cli.proofs.ReplayedLemmas.{agreement, replays-all, replays-refuted}
use Rattle.ft_cli.proofs.top.run.Goals as goal

pub returns-clause-headline : goal.returns-clause-headline
returns-clause-headline g c =
    headline _ _ c.answer.result c.answer.ensures.status _ _ (answered _ _ _ _ c.report_on-report.ensures.outcome c.answer.ensures.report)

pub returns-clause-refutation : goal.returns-clause-refutation
returns-clause-refutation g c =
    refutation _ _ c.answer.result c.answer.ensures.status _ _ (answered _ _ _ _ c.report_on-report.ensures.outcome c.answer.ensures.report)

pub returns-clause-complete : goal.returns-clause-complete
returns-clause-complete g c =
    of-each _ (complete c.laws.ensures) _ _ _ (answered _ _ _ _ c.report_on-report.ensures.outcome c.answer.ensures.report)

pub returns-clause-verifies : goal.returns-clause-verifies
returns-clause-verifies g c =
    of-each _ (verifies c.laws.ensures) _ _ _ (answered _ _ _ _ c.report_on-report.ensures.outcome c.answer.ensures.report)

pub returns-clause-refutes : goal.returns-clause-refutes
returns-clause-refutes g c =
    of-each _ (refutes c.laws.ensures) _ _ _ (answered _ _ _ _ c.report_on-report.ensures.outcome c.answer.ensures.report)

pub returns-clause-decides : goal.returns-clause-decides
returns-clause-decides g c =
    of-each _ (decides c.laws.ensures) _ _ _ (answered _ _ _ _ c.report_on-report.ensures.outcome c.answer.ensures.report)

pub returns-clause-prints : goal.returns-clause-prints
returns-clause-prints g c = prints _ _ _ (answered _ _ _ _ c.report_on-report.ensures.outcome c.answer.ensures.report)

pub returns-clause-replays : goal.returns-clause-replays
returns-clause-replays g c =
    agreement _ _ c.answer.result c.answer.ensures.status _ _ (answered _ _ _ _ c.report_on-report.ensures.outcome c.answer.ensures.report)

pub returns-clause-replays_all : goal.returns-clause-replays_all
returns-clause-replays_all g c =
    replays-all c.laws.ensures _ _ _ (answered _ _ _ _ c.report_on-report.ensures.outcome c.answer.ensures.report)

pub returns-clause-replays_refuted : goal.returns-clause-replays_refuted
returns-clause-replays_refuted g c =
    replays-refuted c.laws.ensures _ _ _ (answered _ _ _ _ c.report_on-report.ensures.outcome c.answer.ensures.report)

pub returns-clause-outcome : goal.returns-clause-outcome
returns-clause-outcome g c = answered _ _ _ _ c.report_on-report.ensures.outcome c.answer.ensures.report

pub returns-clause-others : goal.returns-clause-others
returns-clause-others g c = c.report_on-report.ensures.others

pub returns-clause-status : goal.returns-clause-status
returns-clause-status g c = c.answer.ensures.status

pub returns-clause-generates : goal.returns-clause-generates
returns-clause-generates g c = generates _ _ _ (answered _ _ _ _ c.report_on-report.ensures.outcome c.answer.ensures.report)

pub returns-clause-demonstrates : goal.returns-clause-demonstrates
returns-clause-demonstrates g c =
    demonstration _ _ c.answer.result c.answer.ensures.status _ _ (answered _ _ _ _ c.report_on-report.ensures.outcome c.answer.ensures.report)

pub returns-clause-written : goal.returns-clause-written
returns-clause-written g c = rw c.of_words.ensures at c.answer.ensures.written

pub returns-clause-once : goal.returns-clause-once
returns-clause-once g c = c.answer.ensures.once

pub returns-clause-content : goal.returns-clause-content
returns-clause-content g c = c.report_on-report.ensures.content

pub returns-clause-names : goal.returns-clause-names
returns-clause-names g c = c.report_on-report.ensures.names

pub report_on-report-requires : goal.report_on-report-requires
report_on-report-requires g c = c.requires

pub answer-requires : goal.answer-requires
answer-requires g c = c.report_on-report.ensures.fitting
