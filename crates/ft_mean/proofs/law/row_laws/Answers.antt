use Rattle.ft_mean.proofs.RowReads.{inside, taken, rows_alike, at_place, in_range, in_front, has_rows, side_cases}
use Rattle.ft_mean.proofs.law.row_laws.Goals as goal

pub returns-clause-inside : goal.returns-clause-inside
returns-clause-inside c = inside

pub returns-clause-taken : goal.returns-clause-taken
returns-clause-taken c = taken

pub returns-clause-same_rows : goal.returns-clause-same_rows
returns-clause-same_rows c = rows_alike

pub returns-clause-at_place : goal.returns-clause-at_place
returns-clause-at_place c = at_place

pub returns-clause-in_range : goal.returns-clause-in_range
returns-clause-in_range c = in_range

pub returns-clause-in_front : goal.returns-clause-in_front
returns-clause-in_front c = in_front

pub returns-clause-has_rows : goal.returns-clause-has_rows
returns-clause-has_rows c = has_rows

pub returns-clause-given_or_defined : goal.returns-clause-given_or_defined
returns-clause-given_or_defined c = side_cases
