-- The layout of a line of tokens.
use Rattle.std.specs.Prelude.{ℕ, Bool, true, false, List, [], ◌∷◌, ◌++◌, ◌&&◌, ◌||◌, codes, if◌then◌else◌}
use Rattle.std.specs.Str.{bytes_eq}

-- a token of a line: its bytes, or the `-` before an operand, which is no operator
pub data Piece : Type 0 where
  token : List ℕ → Piece
  minus : Piece

abbrev pub piece_text : Piece → List ℕ
piece_text (token bytes) = bytes
piece_text minus = codes "-"

-- no space stands before `;`, `,`, `)` and `..`
unfoldable pub hugs_before : Piece → Bool
hugs_before (token bytes) = bytes_eq bytes (codes ";") || bytes_eq bytes (codes ",") || bytes_eq bytes (codes ")")
    || bytes_eq bytes (codes "..")
hugs_before minus = false

-- no space stands after `(`, `..` and a `-` before an operand
unfoldable pub hugs_after : Piece → Bool
hugs_after (token bytes) = bytes_eq bytes (codes "(") || bytes_eq bytes (codes "..")
hugs_after minus = true

unfoldable pub is_open : Piece → Bool
is_open (token bytes) = bytes_eq bytes (codes "(")
is_open minus = false

-- `prev` and `age`, with no space before their `(`
unfoldable pub is_history : Piece → Bool
is_history (token bytes) = bytes_eq bytes (codes "prev") || bytes_eq bytes (codes "age")
is_history minus = false

-- what stands between two tokens of a line: one space or nothing
abbrev pub gap : Piece → Piece → List ℕ
gap before next = if hugs_after before || hugs_before next || (is_history before && is_open next) then [] else codes " "

-- the text of the tokens after one
abbrev pub text_after : Piece → List Piece → List ℕ
text_after before [] = []
text_after before (next ∷ more) = gap before next ++ (piece_text next ++ text_after next more)

-- the text of a line's tokens
abbrev pub line_text : List Piece → List ℕ
line_text [] = []
line_text (first ∷ more) = piece_text first ++ text_after first more

-- a line: an inner one stands after two spaces
pub record Line : Type 0 where
  pub is_inner : Bool
  pub pieces : List Piece

abbrev pub outer : List Piece → Line
outer pieces = record { is_inner = false; pieces = pieces }

abbrev pub inner : List Piece → Line
inner pieces = record { is_inner = true; pieces = pieces }

-- the line, ended by LF
abbrev pub line_bytes : Line → List ℕ
line_bytes line = (if line.is_inner then codes "  " else []) ++ (line_text line.pieces ++ 10 ∷ [])
