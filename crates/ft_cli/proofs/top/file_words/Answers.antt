use Rattle.std.proofs.Common.{string_bytes}
use Rattle.ft_cli.proofs.TopLemmas.{known-words}
use Rattle.ft_cli.proofs.top.file_words.Goals as goal

pub returns-in-len1-up-clause-names : goal.returns-in-len1-up-clause-names
returns-in-len1-up-clause-names c = known-words string_bytes c.args.words.now
