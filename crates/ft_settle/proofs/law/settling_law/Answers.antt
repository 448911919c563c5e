use Rattle.std.proofs.Common.{[]}
use Rattle.ft_settle.specs.meaning.Settled.{forms_of, with_forms}
use Rattle.ft_settle.proofs.SettleLemmas.{has-all, is-placed}
use Rattle.ft_settle.proofs.law.settling_law.Goals as goal

pub returns : goal.returns
returns c raw well x =
    (is-placed c.form_laws.ensures.literal c.form_laws.ensures.divided c.form_laws.ensures.quotient (with_forms [] (forms_of raw)) x raw
    (has-all [] (forms_of raw)) well).same
