use Rattle.ft_mean.proofs.AgeLemmas.{same_age, age_first, age_next, held_is}
use Rattle.ft_mean.proofs.PastLemmas.{same_held, same_hyst, hyst_first, hyst_next}
use Rattle.ft_mean.proofs.law.past_laws.Goals as goal

pub returns-clause-same_held : goal.returns-clause-same_held
returns-clause-same_held c = same_held

pub returns-clause-same_age : goal.returns-clause-same_age
returns-clause-same_age c = same_age

pub returns-clause-same_hyst : goal.returns-clause-same_hyst
returns-clause-same_hyst c = same_hyst

pub returns-clause-hyst_begins : goal.returns-clause-hyst_begins
returns-clause-hyst_begins c = hyst_first

pub returns-clause-hyst_goes_on : goal.returns-clause-hyst_goes_on
returns-clause-hyst_goes_on c = hyst_next

pub returns-clause-age_begins : goal.returns-clause-age_begins
returns-clause-age_begins c = age_first

pub returns-clause-age_goes_on : goal.returns-clause-age_goes_on
returns-clause-age_goes_on c = λ from hold elapsed low up past now t start there later none condition. age_next from hold elapsed low up
    past now t start there later none condition

pub returns-clause-held_by_age : goal.returns-clause-held_by_age
returns-clause-held_by_age c = held_is
