use Rattle.ft_claims.proofs.law.cover_laws.Goals as goal
use Rattle.ft_claims.proofs.ShownLemmas.{nodes_say, met_shown, shown_met, proper_none, proper_unmet}

pub returns-clause-nodes : goal.returns-clause-nodes
returns-clause-nodes c = nodes_say

pub returns-clause-met_shown : goal.returns-clause-met_shown
returns-clause-met_shown c = met_shown c.laws.ensures

pub returns-clause-shown_met : goal.returns-clause-shown_met
returns-clause-shown_met c = shown_met c.laws.ensures

pub returns-clause-proper_shows_none : goal.returns-clause-proper_shows_none
returns-clause-proper_shows_none c = proper_none

pub returns-clause-proper_unmet : goal.returns-clause-proper_unmet
returns-clause-proper_unmet c = proper_unmet c.laws.ensures
