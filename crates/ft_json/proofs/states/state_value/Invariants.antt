use Rattle.std.proofs.Common.{◌≡◌, length, take}
use Rattle.std.specs.List.{fold, zip}
use Rattle.serde_json.specs.Data.{no_members}
use Rattle.serde_json.specs.View.{members_view}
use Rattle.ft_json.specs.meaning.Values.{with_label}
use Rattle.ft_json.proofs.states.state_value.Given as goal

abbrev pub invariant-labels : goal.invariant-labels
invariant-labels l = members_view l.members.entries ≡ fold with_label no_members (take (length l.yielded) (zip l.state.labels l.state.values))
