use Rattle.std.proofs.Common.{◌≡◌, ◌++◌, take}
use Rattle.ft_certs.proofs.words.word.Given as goal

abbrev pub invariant-word : goal.invariant-word
invariant-word l = l.bytes ≡ take l.byte-index l.word ++ l.rest
