-- What the reader's own types stand for.
use Rattle.std.specs.Prelude.{ℕ, ◌≡◌, suc, List, [], ◌∷◌, Option, Some, None}
use Rattle.ft_read.specs.meaning.Lexeme.{Lexeme}
use Rattle.ft_read.specs.meaning.Limit.{Passes, no_pass, lexical_passes, counted, counted_at, opening, lexical_pass, within}
use Rattle.ft_read.specs.parsers.Combinators.{ParserState, is_some, state}
use Rattle.ft_read.specs.declared.limits.Limits.{Limits}
use Rattle.ft_read.specs.declared.limits.Limits.TheVariants as limits

-- the passes that limits stand for
abbrev pub passes_of : Limits → Passes
passes_of limits.Free = no_pass
passes_of limits.Lexical = lexical_passes
passes_of (limits.Counted is_full which) = counted is_full which
passes_of (limits.CountedAt is_full which place) = counted_at is_full which place
passes_of (limits.Within site) = within site
passes_of (limits.Opening site room) = opening site room

-- the first one
abbrev pub head : List Lexeme → Option Lexeme
head [] = None
head (lexeme ∷ rest) = Some lexeme

-- what the first one is read as
abbrev pub read_first : {A : Type 0} → (Lexeme → Option A) → List Lexeme → Option A
read_first read [] = None
read_first read (lexeme ∷ rest) = read lexeme

-- what a token was read as: that, unless the token by itself passes a limit
pub record ReadsAs {A : Type 0} (read : Lexeme → Option A) (lexeme : Lexeme) (found : Option A) : Type 0 where
  pub same : lexical_pass lexeme ≡ None → found ≡ read lexeme
  pub some : is_some found ≡ is_some (read lexeme)

abbrev pub advanced_from : ℕ → List Lexeme → ParserState
advanced_from at [] = state at []
advanced_from at (lexeme ∷ rest) = state (suc at) rest

-- past the first token
abbrev pub advanced : ParserState → ParserState
advanced s = advanced_from s.at s.rest

-- what the first one was read as
abbrev pub ReadsFirst : {A : Type 0} → (Lexeme → Option A) → List Lexeme → Option A → Type 0
ReadsFirst read [] found = found ≡ None
ReadsFirst read (lexeme ∷ rest) found = ReadsAs read lexeme found
