use Rattle.ft_compose.proofs.facts.fact_obligation.Goals as goal

pub returns : goal.returns
returns c = c.in_ok-made.ensures.form
