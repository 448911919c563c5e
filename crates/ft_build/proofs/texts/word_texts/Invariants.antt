use Rattle.std.proofs.Common.{◌≡◌, take, map}
use Rattle.ft_build.proofs.texts.word_texts.Given as goal

abbrev pub invariant-loop-word : goal.invariant-loop-word
invariant-loop-word l = l.list ≡ map (λ word. word.text) (take l.word-index l.words)
