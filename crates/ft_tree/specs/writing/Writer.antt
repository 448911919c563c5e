-- A text that grows token by token and line by line.
use Rattle.std.specs.Prelude.{ℕ, Bool, true, false, List, [], ◌∷◌, ◌++◌, ◌||◌, codes, if◌then◌else◌}
use Rattle.std.specs.declared.alloc.Global.{Global}
use Rattle.ft_tree.specs.declared.writer.Last.{Last}
use Rattle.ft_tree.specs.declared.writer.Last.TheVariants.{Start, Open, History, Other}
use Rattle.ft_tree.specs.declared.writer.Writer.{Writer}
use Rattle.ft_tree.specs.meaning.Line.{Line, Piece, hugs_after, hugs_before, is_history, is_open, piece_text}

abbrev pub empty_writer : Global → Writer
empty_writer alloc = record { alloc = alloc; text = []; last = Start }

abbrev pub last_of : Piece → Last
last_of piece = if hugs_after piece then Open else if is_history piece then History else Other

abbrev pub gap_of : Last → Piece → List ℕ
gap_of Start next = []
gap_of Open next = []
gap_of History next = if hugs_before next || is_open next then [] else codes " "
gap_of Other next = if hugs_before next then [] else codes " "

-- one token more
unfoldable pub put : Writer → Piece → Writer
put w piece = record w { text = (w.text ++ gap_of w.last piece) ++ piece_text piece; last = last_of piece }

-- tokens more
unfoldable pub put_all : Writer → List Piece → Writer
put_all w [] = w
put_all w (piece ∷ more) = put_all (put w piece) more

-- a line that may be an inner one begins
unfoldable pub indented : Bool → Writer → Writer
indented true w = record w { text = w.text ++ codes "  " }
indented false w = w

-- a line ends
unfoldable pub closed : Writer → Writer
closed w = record w { text = w.text ++ 10 ∷ []; last = Start }

-- a line more
abbrev pub with_line : Writer → Line → Writer
with_line w line = closed (put_all (indented line.is_inner w) line.pieces)

-- lines more
unfoldable pub with_lines : Writer → List Line → Writer
with_lines w [] = w
with_lines w (line ∷ more) = with_lines (with_line w line) more
