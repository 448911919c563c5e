use Rattle.ft_mean.proofs.SizeKeeping.{views_keep, looks_keep, lists_tell, clauses_safe, tables_safe, memories_safe, by_less}
use Rattle.ft_mean.proofs.law.safety_laws.Goals as goal

pub returns-clause-views : goal.returns-clause-views
returns-clause-views c = views_keep

pub returns-clause-looks : goal.returns-clause-looks
returns-clause-looks c = looks_keep

pub returns-clause-lists : goal.returns-clause-lists
returns-clause-lists c = lists_tell

pub returns-clause-clauses : goal.returns-clause-clauses
returns-clause-clauses c = clauses_safe

pub returns-clause-tables : goal.returns-clause-tables
returns-clause-tables c = tables_safe

pub returns-clause-memories : goal.returns-clause-memories
returns-clause-memories c = memories_safe

pub returns-clause-by_less : goal.returns-clause-by_less
returns-clause-by_less c = by_less
