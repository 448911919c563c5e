use Rattle.ft_oblige.proofs.list_law.list_part_laws.Goals as goal
use Rattle.ft_oblige.proofs.ListGoodLemmas.{lists_good, differences_good}
use Rattle.ft_oblige.proofs.ListSpanLemmas.{lists_long, lists_have_some, list_in_area, list_from_area}

pub returns-clause-lists : goal.returns-clause-lists
returns-clause-lists c = lists_good c.goods.ensures

pub returns-clause-differences : goal.returns-clause-differences
returns-clause-differences c = differences_good c.goods.ensures

pub returns-clause-names : goal.returns-clause-names
returns-clause-names c = lists_long

pub returns-clause-some : goal.returns-clause-some
returns-clause-some c = lists_have_some

pub returns-clause-spans : goal.returns-clause-spans
returns-clause-spans c S n σ = (list_in_area S n σ, list_from_area S n σ)
