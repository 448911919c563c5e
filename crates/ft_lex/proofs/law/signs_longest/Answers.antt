use Rattle.ft_lex.proofs.SignLemmas.{sign_len-longest}
use Rattle.ft_lex.proofs.law.signs_longest.Goals as goal

pub returns : goal.returns
returns c = sign_len-longest
