use Rattle.std.proofs.Common.{◌≡◌, true, take}
use Rattle.std.specs.List.{list_all}
use Rattle.ft_settle.specs.meaning.Raw.{is_moderate}
use Rattle.ft_settle.proofs.settling.+is_moderate.Given as goal

abbrev pub invariant-all_moderate-loop-part : goal.invariant-all_moderate-loop-part
invariant-all_moderate-loop-part l = list_all is_moderate (take l.part-index l.parts) ≡ true
