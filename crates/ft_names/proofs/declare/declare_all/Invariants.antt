use Rattle.std.proofs.Common.{◌≡◌, ◌++◌, take, None}
use Rattle.ft_names.specs.meaning.Declared.{entries}
use Rattle.ft_names.proofs.DeclareLemmas.{repeat_in}
use Rattle.ft_names.proofs.declare.declare_all.Given as goal

abbrev pub invariant-loop-word : goal.invariant-loop-word
invariant-loop-word l = record {
  made : l.names ≡ l.initial.names ++ entries l.number (take l.word-index l.words);
  none : repeat_in l.initial.names (take l.word-index l.words) ≡ None;
}
