use Rattle.ft_cover.proofs.SlotLemmas.{differ, have_values, are_kept}
use Rattle.ft_cover.proofs.law.kept_laws.Goals as goal

pub returns-clause-differ : goal.returns-clause-differ
returns-clause-differ c = differ

pub returns-clause-values : goal.returns-clause-values
returns-clause-values c = have_values

pub returns-clause-kept : goal.returns-clause-kept
returns-clause-kept c = are_kept
