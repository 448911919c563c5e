use Rattle.ft_lex.proofs.TokenLemmas.{one-list}
use Rattle.ft_lex.proofs.law.one_tokens.Goals as goal

pub returns : goal.returns
returns c = λ text tokens others h k. one-list text 0 tokens others h k
