use Rattle.std.proofs.Common.{◌≡◌, ◌++◌}
use Rattle.ft_settle.proofs.atoms.Atoms.into_list.Given as goal

-- what is made, and then what is left, is the whole
abbrev pub invariant-loop-key : goal.invariant-loop-key
invariant-loop-key l = l.forms ++ l.key-iterator ≡ l.fn.self
