-- Reading from left to right, up to the first token that stops it.
use Rattle.std.specs.Prelude.{◌≡◌, ℕ, suc, Bool, true, false, List, [], ◌∷◌, Option, Some, None, Result, Ok, Err, if◌then◌else◌}
use Rattle.ft_read.specs.meaning.Lexeme.{Lexeme}
use Rattle.ft_read.specs.meaning.Limit.{Passes}
use Rattle.ft_read.specs.declared.stop.Pass.{Pass}
use Rattle.ft_read.specs.declared.stop.Stop.{Stop}
use Rattle.ft_read.specs.declared.stop.Stop.TheVariants.{Syntax, Limit, NoMemory}

-- how many tokens were taken, and those that are left
pub record ParserState : Type 0 where
  pub at : ℕ
  pub rest : List Lexeme

abbrev pub state : ℕ → List Lexeme → ParserState
state at rest = record { at = at; rest = rest }

-- what was read, or why reading stopped, and what is left
abbrev pub Outcome : Type 0 → Type 0
Outcome A = Result A Stop × ParserState

abbrev pub Parser : Type 0 → Type 0
Parser A = ParserState → Outcome A

abbrev pub give : {A : Type 0} → A → Parser A
give a s = (Ok a, s)

abbrev pub bind : {A B : Type 0} → (A → Parser B) → Outcome A → Outcome B
bind next (Ok a, s) = next a s
bind next (Err stop, s) = (Err stop, s)

infixr 5 ◌▶◌
abbrev pub ◌▶◌ : {A B : Type 0} → Parser A → (A → Parser B) → Parser B
◌▶◌ first next s = bind next (first s)

-- a token that was read so, and passes this
abbrev pub token_as : {A : Type 0} → Option A → Option Pass → ℕ → Lexeme → List Lexeme → Outcome A
token_as None pass at lexeme rest = (Err Syntax, state at (lexeme ∷ rest))
token_as (Some a) None at lexeme rest = (Ok a, state (suc at) rest)
token_as (Some a) (Some pass) at lexeme rest = (Err (Limit pass), state at (lexeme ∷ rest))

abbrev pub token_of : {A : Type 0} → (Lexeme → Option A) → Passes → ℕ → List Lexeme → Outcome A
token_of read passes at [] = (Err Syntax, state at [])
token_of read passes at (lexeme ∷ rest) = token_as (read lexeme) (passes at lexeme) at lexeme rest

-- one token
abbrev pub read_token : {A : Type 0} → (Lexeme → Option A) → Passes → Parser A
read_token read passes s = token_of read passes s.at s.rest

-- whether the first token passes the test
abbrev pub begins : (Lexeme → Bool) → List Lexeme → Bool
begins test [] = false
begins test (lexeme ∷ rest) = test lexeme

abbrev pub is_some : {A : Type 0} → Option A → Bool
is_some None = false
is_some (Some a) = true

-- whether a token can be read so
abbrev pub can : {A : Type 0} → (Lexeme → Option A) → Lexeme → Bool
can read lexeme = is_some (read lexeme)

-- the one where the first token passes the test, and else the other
abbrev pub alternative_by : {A : Type 0} → (Lexeme → Bool) → Parser A → Parser A → Parser A
alternative_by test one other s = if begins test s.rest then one s else other s

-- what a function returned, seen by view, and left is what reading gives, unless memory ran out
abbrev pub Stops : {B : Type 0} → Stop → ParserState → Outcome B → Type 0
Stops Syntax left read = read ≡ (Err Syntax, left)
Stops (Limit pass) left read = read ≡ (Err (Limit pass), left)
Stops NoMemory left read = Unit {0}

abbrev pub Gives : {A B : Type 0} → (A → B) → Result A Stop → ParserState → Outcome B → Type 0
Gives view (Ok a) left read = read ≡ (Ok (view a), left)
Gives view (Err stop) left read = Stops stop left read
