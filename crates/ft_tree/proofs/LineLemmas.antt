-- A text of lines is made of their tokens.
use Rattle.std.proofs.Common.{◌≡◌, ◌∙◌, sym, ap, subst, refl, ℕ, List, [], ◌∷◌, ◌++◌, Bool, true, false, codes, cond, map, append_assoc}
use Rattle.std.specs.List.{flat_map, list_all}
use Rattle.std.proofs.lemmas.Bool.{and_parts}
use Rattle.std.proofs.lemmas.List.{map-append}
use Rattle.std.proofs.lemmas.List.Concat.{flat_map-cons}
use Rattle.ft_lex.specs.meaning.Bytes.{is_blank}
use Rattle.ft_lex.specs.lexing.Lexing.{SignsLongest}
use Rattle.ft_tree.specs.meaning.Line.{Line, Piece, line_bytes, line_text}
use Rattle.ft_tree.specs.laws.Tokens.{Shape, piece_shape}
use Rattle.ft_tree.proofs.MadeLemmas.{IsMade, made-after_blanks}
use Rattle.ft_tree.proofs.PieceLemmas.{is_sound, made-after}

made-line : SignsLongest → (pieces : List Piece) (rest : List ℕ) (shapes : List Shape) → list_all is_sound pieces ≡ true
    → IsMade rest shapes
    → IsMade (line_text pieces ++ (10 ∷ rest)) (map piece_shape pieces ++ shapes)
made-line law [] rest shapes h made = made-after_blanks shapes (10 ∷ []) rest refl made
made-line law (first ∷ more) rest shapes h made =
    made-after law first more (10 ∷ rest) shapes h refl (made-after_blanks shapes (10 ∷ []) rest refl made)

indent-blank : (is_inner : Bool) → list_all is_blank (cond is_inner (codes "  ") []) ≡ true
indent-blank true = refl
indent-blank false = refl

line-parts : (line : Line) (rest : List ℕ)
    → cond line.is_inner (codes "  ") [] ++ (line_text line.pieces ++ (10 ∷ rest)) ≡ line_bytes line ++ rest
line-parts line rest =
    ap (λ (l : List ℕ). cond line.is_inner (codes "  ") [] ++ l) (sym (append_assoc (line_text line.pieces) (10 ∷ []) rest))
    ∙ sym (append_assoc (cond line.is_inner (codes "  ") []) (line_text line.pieces ++ 10 ∷ []) rest)

-- whether each piece of a line is the text of one token
abbrev pub is_sound_line : Line → Bool
is_sound_line line = list_all is_sound line.pieces

abbrev line_pieces : Line → List Piece
line_pieces line = line.pieces

line-shapes : (line : Line) (more : List Line)
    → map piece_shape line.pieces ++ map piece_shape (flat_map line_pieces more)
    ≡ map piece_shape (flat_map line_pieces (line ∷ more))
line-shapes line more =
    sym (map-append piece_shape line.pieces (flat_map line_pieces more))
    ∙ ap (map piece_shape) (sym (flat_map-cons line_pieces line more))

pub made-lines : SignsLongest → (lines : List Line) → list_all is_sound_line lines ≡ true
    → IsMade (flat_map line_bytes lines) (map piece_shape (flat_map (λ line. line.pieces) lines))
made-lines law [] h = refl
made-lines law (line ∷ more) h =
    let (sound, sounds) = and_parts (is_sound_line line) (list_all is_sound_line more) h in
    let rest : List ℕ = flat_map line_bytes more in
    let indent : List ℕ = cond line.is_inner (codes "  ") [] in
    let whole = made-line law line.pieces rest _ sound (made-lines law more sounds) in
    let made = made-after_blanks _ indent _ (indent-blank line.is_inner) whole in
    subst (λ (l : List ℕ). IsMade l (map piece_shape (flat_map line_pieces (line ∷ more))))
    (line-parts line rest ∙ sym (flat_map-cons line_bytes line more))
    (subst (λ (s : List Shape). IsMade (indent ++ (line_text line.pieces ++ (10 ∷ rest))) s) (line-shapes line more) made)
