use Rattle.std.proofs.Common.{◌≡◌, ◌+◌, drop}
use Rattle.ft_lex.specs.lexing.Lexing.{space_from, space_len}
use Rattle.ft_lex.proofs.space.space.Given as goal

abbrev pub invariant-loop-i : goal.invariant-loop-i
invariant-loop-i l = space_len l.bytes ≡ l.i + space_from l.within (drop l.i l.bytes)
