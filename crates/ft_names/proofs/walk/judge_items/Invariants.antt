use Rattle.std.proofs.Common.{◌≡◌, take, None}
use Rattle.ft_names.specs.meaning.First.{first_of}
use Rattle.ft_names.specs.meaning.Spots.{item_spots}
use Rattle.ft_names.proofs.walk.judge_items.Given as goal

abbrev pub invariant-loop-item : goal.invariant-loop-item
invariant-loop-item g l = first_of (λ x. first_of (g.J.Judge.test l.judge) (item_spots x)) (take l.item-index l.items) ≡ None
