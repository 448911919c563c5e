use Rattle.std.proofs.Common.{◌≡◌, drop}
use Rattle.ft_lex.specs.lexing.Lexing.{first_len}
use Rattle.ft_lex.proofs.words.first_match.Given as goal

-- no text before this one begins the bytes
abbrev pub invariant-loop-text : goal.invariant-loop-text
invariant-loop-text l = first_len (λ text. text.now) l.texts l.bytes ≡ first_len (λ text. text.now) (drop l.text-index l.texts) l.bytes
