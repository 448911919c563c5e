-- Which bytes spell which tree, and where reading stops.
use Rattle.std.specs.Prelude.{ℕ, ◌≡◌, List, ◌∷◌, ◌++◌, Some, Result, Ok, Err}
use Rattle.ft_base.specs.declared.place.Place.{Place}
use Rattle.ft_lex.specs.declared.token.Token.{Token}
use Rattle.ft_lex.specs.meaning.Tokens.{IsTokens}
use Rattle.ft_tree.specs.declared.tree.Tree.{Tree}
use Rattle.ft_tree.specs.meaning.Bare.{IsSameTree}
use Rattle.ft_read.specs.meaning.Lexeme.{Lexeme, lexemes_of}
use Rattle.ft_read.specs.declared.stop.Pass.{Pass}
use Rattle.ft_parse.specs.meaning.Language.{PassNoLimit, Step, lexemes, step}
use Rattle.ft_parse.specs.meaning.Items.{set}
use Rattle.ft_parse.specs.declared.parts.Parts.{Parts}
use Rattle.ft_parse.specs.declared.fault.ParseFault.{ParseFault}
use Rattle.ft_parse.specs.declared.fault.ParseFault.TheVariants.{Syntax, Limit, NoMemory}

-- the lexemes of a text
abbrev pub AreLexemes : List ℕ → List Lexeme → Type 0
AreLexemes text ls = (tokens : List Token) × IsTokens text tokens × (lexemes_of text tokens ≡ ls)

abbrev pub parts_of : Tree → Parts
parts_of tree = record { name = tree.name; period = tree.period; splits = tree.splits; depth = tree.depth; items = tree.items }

-- the text spells the tree, within the limits
pub record Spells (text : List ℕ) (tree : Tree) : Type 0 where
  pub steps : List Step
  pub are : AreLexemes text (lexemes steps)
  pub grammar : set 0 steps (parts_of tree)
  pub no_limit : PassNoLimit steps

-- some set's text goes on so, and these first tokens of it pass no limit
abbrev pub GoesOn : List Lexeme → Type 0
GoesOn front = (before after : List Step) × (parts : Parts) × (lexemes before ≡ front) × PassNoLimit before × set 0 (before ++ after) parts

-- The tokens before the place begin some set's text and pass no limit, and with the token at the place they begin none.
pub record IsSyntaxFault (text : List ℕ) (place : Place) : Type 0 where
  pub front : List Lexeme
  pub bad : Lexeme
  pub rest : List Lexeme
  pub are : AreLexemes text (front ++ bad ∷ rest)
  pub at : bad.place ≡ place
  pub begins : GoesOn front
  pub ends : (steps : List Step) (others : List Lexeme) (parts : Parts) → lexemes steps ≡ front ++ bad ∷ others → set 0 steps parts → ⊥

-- The tokens before one begin some set's text and pass no limit; with it they begin one too, and in each text that they begin it is the
-- first that passes a limit, and this limit at this place.
pub record IsLimitFault (text : List ℕ) (pass : Pass) : Type 0 where
  pub front : List Lexeme
  pub late : Lexeme
  pub rest : List Lexeme
  pub are : AreLexemes text (front ++ late ∷ rest)
  pub before : List Step
  pub no_limit : PassNoLimit before
  pub same : lexemes before ≡ front
  pub begins : (after : List Step) × (parts : Parts) × set 0 (before ++ step late (Some pass) ∷ after) parts
  pub always : (steps : List Step) (others : List Lexeme) (parts : Parts) → lexemes steps ≡ front ++ late ∷ others → set 0 steps parts
      → (b a : List Step) × PassNoLimit b × (lexemes b ≡ front) × (steps ≡ b ++ step late (Some pass) ∷ a)

-- why a text isn't read; want of memory is free
abbrev pub IsFault : List ℕ → ParseFault → Type 0
IsFault text (Syntax place) = IsSyntaxFault text place
IsFault text (Limit which place) = IsLimitFault text (record { which = which; place = place })
IsFault text NoMemory = Unit {0}

-- where the text spells this tree: it is the one that is read, and only want of memory is in the way of that
abbrev pub Reads : Result Tree ParseFault → Tree → Type 0
Reads (Ok read) tree = read ≡ tree
Reads (Err (Syntax place)) tree = ⊥
Reads (Err (Limit which place)) tree = ⊥
Reads (Err NoMemory) tree = Unit {0}

-- where the text is the canonical one of this tree: that tree is read, but for places, and only want of memory is in the way of that
abbrev pub ReadsSame : Result Tree ParseFault → Tree → Type 0
ReadsSame (Ok read) tree = IsSameTree read tree
ReadsSame (Err (Syntax place)) tree = ⊥
ReadsSame (Err (Limit which place)) tree = ⊥
ReadsSame (Err NoMemory) tree = Unit {0}
