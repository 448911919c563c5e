use Rattle.ft_linear.proofs.FormLaws.{divided-holds, literals-hold, quotient-exact}
use Rattle.ft_linear.proofs.FormLemmas.{small-at}
use Rattle.ft_linear.proofs.law.form_laws.Goals as goal

pub returns-clause-small : goal.returns-clause-small
returns-clause-small c = small-at

pub returns-clause-literal : goal.returns-clause-literal
returns-clause-literal c = literals-hold

pub returns-clause-divided : goal.returns-clause-divided
returns-clause-divided c = divided-holds

pub returns-clause-quotient : goal.returns-clause-quotient
returns-clause-quotient c = quotient-exact
