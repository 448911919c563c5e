-- Tokens written one after another.
use Rattle.std.proofs.Common.{◌≡◌, ◌∙◌, sym, ap, refl, ℕ, ◌+◌, ◌<◌, ◌≤◌, codes, List, [], ◌∷◌, ◌++◌, false, length, take, get_or, map}
use Rattle.std.specs.List.{flat_map}
use Rattle.std.proofs.lemmas.Grind.{flat_map-append}
use Rattle.std.proofs.lemmas.List.{append-nil, map-append, take_all, take_more}
use Rattle.std.proofs.lemmas.List.Concat.{flat_map-cons}
use Rattle.ft_tree.specs.declared.writer.Writer.{Writer}
use Rattle.ft_tree.specs.meaning.Line.{Line, Piece, token}
use Rattle.ft_tree.specs.meaning.Lines.{listed}
use Rattle.ft_tree.specs.writing.Writer.{put_all, closed, indented, put, with_line, with_lines}

pub put_all-none : (w : Writer) → put_all w [] ≡ w
unfolding put_all
put_all-none w = refl

pub put_all-cons : (w : Writer) (piece : Piece) (more : List Piece) → put_all w (piece ∷ more) ≡ put_all (put w piece) more
unfolding put_all
put_all-cons w piece more = refl

pub put_all-append : (w : Writer) (xs ys : List Piece) → put_all w (xs ++ ys) ≡ put_all (put_all w xs) ys
unfolding put_all
put_all-append w [] ys = refl
put_all-append w (x ∷ xs) ys = put_all-append (put w x) xs ys

pub outer-is : (w : Writer) → indented false w ≡ w
unfolding indented
outer-is w = refl

pub lines-none : (w : Writer) → with_lines w [] ≡ w
unfolding with_lines
lines-none w = refl

pub lines-cons : (w : Writer) (line : Line) (more : List Line)
    → with_lines w (line ∷ more) ≡ with_lines (closed (put_all (indented line.is_inner w) line.pieces)) more
unfolding with_lines
lines-cons w line more = refl

pub lines-append : (w : Writer) (xs ys : List Line) → with_lines w (xs ++ ys) ≡ with_lines (with_lines w xs) ys
unfolding with_lines
lines-append w [] ys = refl
lines-append w (x ∷ xs) ys = lines-append (closed (put_all (indented x.is_inner w) x.pieces)) xs ys

-- tokens and lines are written one by one
pub ruleset steps = (put_all-none, put_all-cons, put_all-append, outer-is, lines-none, lines-cons, lines-append)

-- one line more of a list
pub lines-more : {X : Type 0} (line : X → Line) (w v u : Writer) (xs : List X) (i : ℕ) (x : X) → i < length xs → x ≡ get_or xs i x
    → v ≡ with_lines w (map line (take i xs)) → u ≡ with_line v (line x) → u ≡ with_lines w (map line (take (i + 1) xs))
lines-more line w v u xs i x h is before here =
    let taken = take_more xs i x h ∙ ap (λ y. take i xs ++ y ∷ []) (sym is) in
    let parts = ap (map line) taken ∙ map-append line (take i xs) (x ∷ []) in
    here ∙ ap (λ (z : Writer). with_line z (line x)) before
    ∙ sym (lines-append w (map line (take i xs)) (line x ∷ []) ∙ lines-cons (with_lines w (map line (take i xs))) (line x) []
    ∙ lines-none _)
    ∙ ap (with_lines w) (sym parts)

-- the lines of one element more
pub groups-more : {X : Type 0} (lines : X → List Line) (w v u : Writer) (xs : List X) (i : ℕ) (x : X) → i < length xs → x ≡ get_or xs i x
    → v ≡ with_lines w (flat_map lines (take i xs)) → u ≡ with_lines v (lines x) → u ≡ with_lines w (flat_map lines (take (i + 1) xs))
groups-more lines w v u xs i x h is before here =
    let taken = take_more xs i x h ∙ ap (λ y. take i xs ++ y ∷ []) (sym is) in
    let groups = ap (flat_map lines) taken ∙ flat_map-append lines (take i xs) (x ∷ []) in
    let one : flat_map lines (x ∷ []) ≡ lines x = flat_map-cons lines x [] ∙ append-nil (lines x) in
    here ∙ ap (λ (z : Writer). with_lines z (lines x)) before
    ∙ ap (with_lines (with_lines w (flat_map lines (take i xs)))) (sym one)
    ∙ sym (lines-append w (flat_map lines (take i xs)) (flat_map lines (x ∷ [])))
    ∙ ap (with_lines w) (sym groups)

-- a part of a line more, after its comma
pub parts-more : {X : Type 0} (pieces : X → List Piece) (comma : Piece) (w v u t : Writer) (xs : List X) (i : ℕ) (x : X) → i < length xs → x
    ≡ get_or xs i x
    → v ≡ put_all w (flat_map (λ y. comma ∷ pieces y) (take i xs)) → u ≡ put v comma → t ≡ put_all u (pieces x)
    → t ≡ put_all w (flat_map (λ y. comma ∷ pieces y) (take (i + 1) xs))
parts-more pieces comma w v u t xs i x h is before put_comma here =
    let f : _ → List Piece = λ y. comma ∷ pieces y in
    let taken = take_more xs i x h ∙ ap (λ y. take i xs ++ y ∷ []) (sym is) in
    let parts = ap (flat_map f) taken ∙ flat_map-append f (take i xs) (x ∷ []) in
    let one : flat_map f (x ∷ []) ≡ comma ∷ pieces x = flat_map-cons f x [] ∙ append-nil (comma ∷ pieces x) in
    here ∙ ap (λ (z : Writer). put_all z (pieces x)) (put_comma ∙ ap (λ (z : Writer). put z comma) before)
    ∙ sym (put_all-cons (put_all w (flat_map f (take i xs))) comma (pieces x))
    ∙ ap (put_all (put_all w (flat_map f (take i xs)))) (sym one)
    ∙ sym (put_all-append w (flat_map f (take i xs)) (flat_map f (x ∷ [])))
    ∙ ap (put_all w) (sym parts)

-- five groups of lines
pub lines-five : (w w1 w2 w3 w4 w5 : Writer) (xs1 xs2 xs3 xs4 xs5 : List Line)
    → w1 ≡ with_lines w xs1 → w2 ≡ with_lines w1 xs2 → w3 ≡ with_lines w2 xs3 → w4 ≡ with_lines w3 xs4 → w5 ≡ with_lines w4 xs5
    → w5 ≡ with_lines w (xs1 ++ (xs2 ++ (xs3 ++ (xs4 ++ xs5))))
lines-five w w1 w2 w3 w4 w5 xs1 xs2 xs3 xs4 xs5 h1 h2 h3 h4 h5 = simp lines-append (cc)

-- all parts of a list, the first with no comma
pub parts-all : {X : Type 0} (pieces : X → List Piece) (w v u : Writer) (xs more : List X) (first : X) (i : ℕ) → xs ≡ first ∷ more
    → length more ≤ i
    → v ≡ put_all w (pieces first) → u ≡ put_all v (flat_map (λ y. token (codes ",") ∷ pieces y) (take i more))
    → u ≡ put_all w (listed pieces xs)
parts-all pieces w v u xs more first i split over head rest =
    let f : _ → List Piece = λ y. token (codes ",") ∷ pieces y in
    rest ∙ ap (λ l. put_all v (flat_map f l)) (take_all i more over) ∙ ap (λ (z : Writer). put_all z (flat_map f more)) head
    ∙ sym (put_all-append w (pieces first) (flat_map f more)) ∙ ap (λ l. put_all w (listed pieces l)) (sym split)
