-- Parts of a grammar: which tokens spell which value, and which of them pass a limit.
use Rattle.std.specs.Prelude.{ℕ, zero, suc, ◌+◌, ◌≡◌, ◌⊎◌, List, [], ◌∷◌, ◌++◌, length, map, Option, Some, None}
use Rattle.ft_read.specs.meaning.Lexeme.{Lexeme}
use Rattle.ft_read.specs.declared.stop.Pass.{Pass}
use Rattle.ft_read.specs.meaning.Limit.{Passes}

-- a token of a text, with the first limit that it passes
pub record Step : Type 0 where
  pub lexeme : Lexeme
  pub pass : Option Pass

abbrev pub step : Lexeme → Option Pass → Step
step lexeme pass = record { lexeme = lexeme; pass = pass }

-- the tokens alone
abbrev pub lexemes : List Step → List Lexeme
lexemes steps = map (λ s. s.lexeme) steps

-- no limit is passed
abbrev pub PassNoLimit : List Step → Type 0
PassNoLimit [] = Unit {0}
PassNoLimit (s ∷ more) = (s.pass ≡ None) × PassNoLimit more

-- which steps spell which value, where so many tokens stand before them
abbrev pub Language : Type 0 → Type 1
Language A = ℕ → List Step → A → Type 0

-- a token that can be read so
abbrev pub token : {A : Type 0} → (Lexeme → Option A) → Passes → Language A
token read passes at steps a = (lexeme : Lexeme) × (steps ≡ step lexeme (passes at lexeme) ∷ []) × (read lexeme ≡ Some a)

-- no token
abbrev pub nothing : {A : Type 0} → A → Language A
nothing a at steps b = (steps ≡ []) × (a ≡ b)

-- one part, and then another, which may look at the first one's value
infixr 5 ◌▷◌
unfoldable pub ◌▷◌ : {A B : Type 0} → Language A → (A → Language B) → Language B
◌▷◌ {A} first next at steps b =
    (a : A) × (before after : List Step) × (steps ≡ before ++ after) × first at before a × next a (at + length before) after b

-- the one or the other
abbrev pub alternative : {A : Type 0} → Language A → Language A → Language A
alternative one other at steps a = one at steps a ⊎ other at steps a

-- a part so many times, each time going on from what was made so far
unfoldable pub times : {A : Type 0} → ℕ → (A → Language A) → A → Language A
times zero part a at steps b = nothing a at steps b
times (suc n) part a at steps b = (part a ▷ times n part) at steps b

-- a part any number of times
abbrev pub repeated : {A : Type 0} → (A → Language A) → A → Language A
repeated part a at steps b = (n : ℕ) × times n part a at steps b
