use Rattle.ft_admit.proofs.terms.Lawful.{terms-lawful}
use Rattle.ft_admit.proofs.terms_law.lawful_terms.Goals as goal

pub returns : goal.returns
returns c = terms-lawful c.values_bounded.ensures c.linear_is_small.ensures
