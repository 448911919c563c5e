use Rattle.ft_claims.proofs.cells.cell_laws.Goals as goal
use Rattle.ft_claims.proofs.CellAlikeLemmas.{overlaps_alike, ranges_alike, has_two, has_one}
use Rattle.ft_claims.proofs.KeptLemmas.{kept_is_values, names_once}
use Rattle.ft_claims.proofs.OverlapLemmas.{of_one}
use Rattle.ft_claims.proofs.PartAlikeLemmas.{parts_alike}

pub returns-clause-parts : goal.returns-clause-parts
returns-clause-parts c = parts_alike

pub returns-clause-overlaps : goal.returns-clause-overlaps
returns-clause-overlaps c = overlaps_alike c.laws.ensures

pub returns-clause-ranges : goal.returns-clause-ranges
returns-clause-ranges c = ranges_alike c.laws.ensures

pub returns-clause-two : goal.returns-clause-two
returns-clause-two c = has_two

pub returns-clause-one : goal.returns-clause-one
returns-clause-one c = has_one

pub returns-clause-kept : goal.returns-clause-kept
returns-clause-kept c = kept_is_values

pub returns-clause-once : goal.returns-clause-once
returns-clause-once c = names_once

pub returns-clause-of_one : goal.returns-clause-of_one
returns-clause-of_one c = of_one c.laws.ensures
