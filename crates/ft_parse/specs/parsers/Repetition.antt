-- Reading a part again and again, as long as the next token passes a test.
use Rattle.std.specs.Prelude.{ℕ, zero, suc, Bool, length, Ok, if◌then◌else◌}
use Rattle.ft_read.specs.meaning.Lexeme.{Lexeme}
use Rattle.ft_read.specs.parsers.Combinators.{Parser, bind, begins}

-- a part as long as the first token passes the test, at most n times
unfoldable pub many_by : {A : Type 0} → ℕ → (Lexeme → Bool) → (A → Parser A) → A → Parser A
many_by zero test part a s = (Ok a, s)
many_by (suc n) test part a s = if begins test s.rest then bind (many_by n test part) (part a s) else (Ok a, s)

abbrev pub many : {A : Type 0} → (Lexeme → Bool) → (A → Parser A) → A → Parser A
many test part a s = many_by (length s.rest) test part a s
