use Rattle.ft_oblige.proofs.number_law.number_laws.Goals as goal
use Rattle.ft_oblige.proofs.NumberLemmas.{subjects-long, tables_numbered, facts_numbered}
use Rattle.ft_oblige.proofs.OneLemmas.{one_obligation}

pub returns-clause-count : goal.returns-clause-count
returns-clause-count c = subjects-long

pub returns-clause-tables : goal.returns-clause-tables
returns-clause-tables c = tables_numbered

pub returns-clause-facts : goal.returns-clause-facts
returns-clause-facts c = facts_numbered

pub returns-clause-one : goal.returns-clause-one
returns-clause-one c = one_obligation
