use Rattle.ft_oblige.proofs.part_law.part_laws.Goals as goal
use Rattle.ft_oblige.proofs.PartLemmas.{parts_good, all_others_good}
use Rattle.ft_oblige.proofs.SpanLemmas.{slots_long, slots_in_area, slots_from_area, some_in_span}

pub returns-clause-good : goal.returns-clause-good
returns-clause-good c = parts_good c.goods.ensures

pub returns-clause-others : goal.returns-clause-others
returns-clause-others c = all_others_good c.goods.ensures

pub returns-clause-names : goal.returns-clause-names
returns-clause-names c = slots_long

pub returns-clause-some : goal.returns-clause-some
returns-clause-some c = some_in_span

pub returns-clause-spans : goal.returns-clause-spans
returns-clause-spans c S σ = (slots_in_area S σ, slots_from_area S σ)
