use Rattle.std.proofs.Common.{◌≡◌, take, map}
use Rattle.ft_names.specs.meaning.Cards.{under}
use Rattle.ft_build.specs.meaning.Blocks.{take_of}
use Rattle.ft_build.proofs.blocks.build_takes.Given as goal

abbrev pub invariant-loop-word : goal.invariant-loop-word
invariant-loop-word l = l.list ≡ map (take_of (under l.cards)) (take l.word-index l.words)
