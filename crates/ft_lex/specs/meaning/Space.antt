-- The space between tokens.
use Rattle.std.specs.Prelude.{ℕ, List, [], ◌∷◌, ◌++◌, ◌≡◌, true}
use Rattle.std.specs.List.{list_all}
use Rattle.ft_lex.specs.meaning.Bytes.{is_blank, is_within_line}

-- a blank byte, or a comment: `#` and the bytes after it in its line
pub data Piece : Type 0 where
  blank : ℕ → Piece
  comment : List ℕ → Piece

-- the text of pieces of space with a rest after them
abbrev pub spaced : List Piece → List ℕ → List ℕ
spaced [] rest = rest
spaced (blank b ∷ more) rest = b ∷ spaced more rest
spaced (comment line ∷ more) rest = 35 ∷ (line ++ spaced more rest)

-- a line ends before these bytes: they are none, or begin with LF
abbrev pub IsLineEnd : List ℕ → Type 0
IsLineEnd [] = Unit {0}
IsLineEnd (b ∷ _) = b ≡ 10

-- the pieces are what they say: each blank is one, and each comment goes to its line's end
abbrev pub ArePieces : List Piece → List ℕ → Type 0
ArePieces [] rest = Unit {0}
ArePieces (blank b ∷ more) rest = (is_blank b ≡ true) × ArePieces more rest
ArePieces (comment line ∷ more) rest = (list_all is_within_line line ≡ true) × IsLineEnd (spaced more rest) × ArePieces more rest

-- the text is space with that rest after it
pub record IsSpaceBefore (text rest : List ℕ) : Type 0 where
  pub pieces : List Piece
  pub written : spaced pieces rest ≡ text
  pub are : ArePieces pieces rest
