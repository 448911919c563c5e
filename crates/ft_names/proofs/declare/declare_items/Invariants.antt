use Rattle.std.proofs.Common.{◌≡◌, take, None}
use Rattle.ft_names.specs.meaning.Declared.{listing}
use Rattle.ft_names.proofs.DeclareLemmas.{item_repeat}
use Rattle.ft_names.proofs.declare.declare_items.Given as goal

abbrev pub invariant-loop-number : goal.invariant-loop-number
invariant-loop-number l = record {
  made : l.names ≡ listing 0 (take l.number l.items);
  none : item_repeat (take l.number l.items) ≡ None;
}
