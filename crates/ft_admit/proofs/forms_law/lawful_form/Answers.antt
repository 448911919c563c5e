use Rattle.ft_admit.proofs.forms.Whole.{lawful}
use Rattle.ft_admit.proofs.forms_law.lawful_form.Goals as goal

pub returns : goal.returns
returns c = lawful c.names_differ.ensures
