use Rattle.std.proofs.Common.{◌≡◌, take}
use Rattle.ft_names.specs.meaning.Cards.{cards_from}
use Rattle.ft_names.specs.naming.Counting.{cards_in, counts_before}
use Rattle.ft_names.proofs.carding.card_list.Given as goal

abbrev pub invariant-loop-number : goal.invariant-loop-number
invariant-loop-number l = record {
  made : l.list ≡ cards_in (cards_from l.items 0 (take l.number l.items));
  counted : l.counts ≡ counts_before l.items l.number;
}
