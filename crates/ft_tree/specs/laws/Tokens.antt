-- The tokens that a tree is written with.
use Rattle.std.specs.Prelude.{ℕ, ◌≡◌, List, [], ◌∷◌, ◌++◌, map, if◌then◌else◌}
use Rattle.std.specs.List.{flat_map}
use Rattle.ft_lex.specs.declared.token.Token.{Token}
use Rattle.ft_lex.specs.declared.token.TokenKind.{TokenKind}
use Rattle.ft_lex.specs.declared.token.TokenKind.TheVariants.{Name, Number, Word, Sign, End}
use Rattle.ft_base.specs.Digits.{begins_by_digit}
use Rattle.ft_lex.specs.meaning.Tokens.{IsTokens, token_text}
use Rattle.ft_base.specs.Names.{begins_by_letter, is_reserved_word}
use Rattle.ft_tree.specs.declared.tree.Tree.{Tree}
use Rattle.ft_tree.specs.meaning.Canonical.{canonical, tree_lines}
use Rattle.ft_tree.specs.meaning.Line.{Piece, piece_text}

-- the kind of a token of these bytes, which are a reserved word, a name, digits or a sign
abbrev pub kind_of : List ℕ → TokenKind
kind_of bytes =
    if is_reserved_word bytes then Word
    else if begins_by_letter bytes then Name
    else if begins_by_digit bytes then Number
    else Sign

-- a kind, and the bytes of a token
abbrev pub Shape : Type 0
Shape = TokenKind × List ℕ

abbrev pub piece_shape : Piece → Shape
piece_shape piece = (kind_of (piece_text piece), piece_text piece)

abbrev pub token_shape : List ℕ → Token → Shape
token_shape text token = (token.kind, token_text text token)

-- the pieces that a tree is written with, line by line
abbrev pub tree_pieces : Tree → List Piece
tree_pieces tree = flat_map (λ line. line.pieces) (tree_lines tree)

-- the tokens of a canonical text are the pieces that its tree was written with, and End
abbrev pub CanonicalTokens : Type 0
CanonicalTokens =
    (tree : Tree) → (tokens : List Token)
    × IsTokens (canonical tree) tokens
    × (map (token_shape (canonical tree)) tokens ≡ map piece_shape (tree_pieces tree) ++ (End, []) ∷ [])
