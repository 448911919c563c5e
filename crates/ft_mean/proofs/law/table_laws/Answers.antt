use Rattle.ft_mean.proofs.CellLemmas.{own_reads}
use Rattle.ft_mean.proofs.CellReads.{cells_read_theirs}
use Rattle.ft_mean.proofs.TableReads.{has_table, cells_are, cells_may_read, defined_alike, sections_told, one_value}
use Rattle.ft_mean.proofs.law.table_laws.Goals as goal

pub returns-clause-has_table : goal.returns-clause-has_table
returns-clause-has_table c = has_table

pub returns-clause-cells_are : goal.returns-clause-cells_are
returns-clause-cells_are c = cells_are

pub returns-clause-cells_read : goal.returns-clause-cells_read
returns-clause-cells_read c = cells_read_theirs

pub returns-clause-own_reads : goal.returns-clause-own_reads
returns-clause-own_reads c = own_reads

pub returns-clause-may_read : goal.returns-clause-may_read
returns-clause-may_read c = cells_may_read

pub returns-clause-same_defined : goal.returns-clause-same_defined
returns-clause-same_defined c = defined_alike

pub returns-clause-sections : goal.returns-clause-sections
returns-clause-sections c = sections_told

pub returns-clause-one_value : goal.returns-clause-one_value
returns-clause-one_value c = one_value
