-- Lines that are written token by token have their layout.
use Rattle.std.proofs.Common.{◌≡◌, ◌∙◌, sym, ap, refl, ℕ, Bool, true, false, inl, inr, List, [], ◌∷◌, ◌++◌, cond, codes, append_assoc}
use Rattle.std.specs.List.{flat_map}
use Rattle.std.proofs.lemmas.Bool.{cases_Bool}
use Rattle.std.proofs.lemmas.List.{append-nil}
use Rattle.std.proofs.lemmas.List.Concat.{flat_map-cons}
use Rattle.ft_tree.specs.declared.writer.Last.{Last}
use Rattle.ft_tree.specs.declared.writer.Last.TheVariants.{Start}
use Rattle.ft_tree.specs.declared.writer.Writer.{Writer}
use Rattle.ft_tree.specs.meaning.Line.{Line, Piece, gap, hugs_after, hugs_before, is_history, line_bytes, line_text, piece_text}
use Rattle.ft_tree.specs.meaning.Line.{text_after}
use Rattle.ft_tree.specs.writing.Writer.{put_all, closed, gap_of, indented, last_of, put, with_line, with_lines}
use Rattle.ft_tree.proofs.WritingLemmas.{put_all-cons, put_all-none, lines-cons, lines-none}

-- what is known of the last token tells the space after it
gap-of : (before next : Piece) → gap_of (last_of before) next ≡ gap before next
gap-of before next = elim (cases_Bool (hugs_after before)) [
  | inl hugs ↦ rw hugs refl
  | inr free ↦ elim (cases_Bool (is_history before)) [
    | inl is ↦ rw (free, is) refl
    | inr other ↦ elim (cases_Bool (hugs_before next)) [
      | inl hugs ↦ rw (free, other, hugs) refl
      | inr no_hug
          ↦ rw (free, other, no_hug) refl
    ]
  ]
]

put-text : (w : Writer) (piece : Piece) → (put w piece).text ≡ (w.text ++ gap_of w.last piece) ++ piece_text piece
unfolding put
put-text w piece = refl

put-last : (w : Writer) (piece : Piece) → (put w piece).last ≡ last_of piece
unfolding put
put-last w piece = refl

text-after : (w : Writer) (before : Piece) (pieces : List Piece) → w.last ≡ last_of before
    → (put_all w pieces).text ≡ w.text ++ text_after before pieces
text-after w before [] h = ap (λ (v : Writer). v.text) (put_all-none w) ∙ sym (append-nil w.text)
text-after w before (next ∷ more) h =
    ap (λ (v : Writer). v.text) (put_all-cons w next more)
    ∙ text-after (put w next) next more (put-last w next)
    ∙ ap (λ (l : List ℕ). l ++ text_after next more) (put-text w next)
    ∙ append_assoc (w.text ++ gap_of w.last next) (piece_text next) (text_after next more)
    ∙ append_assoc w.text (gap_of w.last next) (piece_text next ++ text_after next more)
    ∙ ap (λ (g : List ℕ). w.text ++ (g ++ (piece_text next ++ text_after next more)))
    (ap (λ (l : Last). gap_of l next) h ∙ gap-of before next)

text-line : (w : Writer) (pieces : List Piece) → w.last ≡ Start → (put_all w pieces).text ≡ w.text ++ line_text pieces
text-line w [] h = ap (λ (v : Writer). v.text) (put_all-none w) ∙ sym (append-nil w.text)
text-line w (first ∷ more) h =
    ap (λ (v : Writer). v.text) (put_all-cons w first more)
    ∙ text-after (put w first) first more (put-last w first)
    ∙ ap (λ (l : List ℕ). l ++ text_after first more) (put-text w first)
    ∙ append_assoc (w.text ++ gap_of w.last first) (piece_text first) (text_after first more)
    ∙ append_assoc w.text (gap_of w.last first) (piece_text first ++ text_after first more)
    ∙ ap (λ (l : Last). w.text ++ (gap_of l first ++ (piece_text first ++ text_after first more))) h

closed-text : (w : Writer) → (closed w).text ≡ w.text ++ 10 ∷ []
unfolding closed
closed-text w = refl

closed-last : (w : Writer) → (closed w).last ≡ Start
unfolding closed
closed-last w = refl

indented-last : (is_inner : Bool) (w : Writer) → (indented is_inner w).last ≡ w.last
unfolding indented
indented-last true w = refl
indented-last false w = refl

indented-text : (is_inner : Bool) (w : Writer) → (indented is_inner w).text ≡ w.text ++ cond is_inner (codes "  ") []
unfolding indented
indented-text true w = refl
indented-text false w = sym (append-nil w.text)

line-text : (w : Writer) (line : Line) → w.last ≡ Start → (with_line w line).text ≡ w.text ++ line_bytes line
line-text w line h =
    closed-text (put_all (indented line.is_inner w) line.pieces)
    ∙ ap (λ (l : List ℕ). l ++ 10 ∷ []) (text-line (indented line.is_inner w) line.pieces (indented-last line.is_inner w ∙ h))
    ∙ append_assoc (indented line.is_inner w).text (line_text line.pieces) (10 ∷ [])
    ∙ ap (λ (l : List ℕ). l ++ (line_text line.pieces ++ 10 ∷ [])) (indented-text line.is_inner w)
    ∙ append_assoc w.text (cond line.is_inner (codes "  ") []) (line_text line.pieces ++ 10 ∷ [])

-- lines from a line's start on have their bytes
pub lines-text : (w : Writer) (lines : List Line) → w.last ≡ Start → (with_lines w lines).text ≡ w.text ++ flat_map line_bytes lines
lines-text w [] h = ap (λ (v : Writer). v.text) (lines-none w) ∙ sym (append-nil w.text)
lines-text w (line ∷ more) h =
    ap (λ (v : Writer). v.text) (lines-cons w line more)
    ∙ lines-text (with_line w line) more (closed-last (put_all (indented line.is_inner w) line.pieces))
    ∙ ap (λ (l : List ℕ). l ++ flat_map line_bytes more) (line-text w line h)
    ∙ append_assoc w.text (line_bytes line) (flat_map line_bytes more)
    ∙ ap (λ (l : List ℕ). w.text ++ l) (sym (flat_map-cons line_bytes line more))
