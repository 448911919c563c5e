-- What is asked of the trees of drafts, as it computes from the drafts.
use Rattle.std.proofs.Common.{◌≡◌, ◌∙◌, sym, ap, refl, ℕ, nat_le, ◌&&◌, Bool, true, List, [], ◌∷◌, ◌++◌, codes, length, map}
use Rattle.std.specs.List.{flat_map, list_all}
use Rattle.ft_tree.specs.declared.expr.Expr.{Expr-F, fold-Expr, fold-roll-Expr}
use Rattle.ft_tree.specs.declared.expr.Expr.TheOpen as layer
use Rattle.ft_tree.specs.declared.expr.Expr.TheVariants.{rolls-Num, rolls-Name, rolls-Truth}
use Rattle.ft_tree.specs.declared.expr.Expr.TheVariants.{rolls-Prev, rolls-Age, rolls-Not, rolls-Neg, rolls-Two}
use Rattle.ft_tree.specs.declared.item.Item.TheVariants.{Variable, Block}
use Rattle.ft_tree.specs.declared.item.FactItem.TheVariants.{Goal}
use Rattle.ft_tree.specs.declared.item.SectionWord.TheVariants.{Req}
use Rattle.ft_tree.specs.meaning.Bare.{start}
use Rattle.ft_tree.specs.meaning.Expression.{Spelled, expr_pieces, spelled, spelled_layer}
use Rattle.ft_tree.specs.meaning.Limits.{Nested, are_listed, is_count, is_expr, is_hold, is_item, is_lawful, is_row, is_side}
use Rattle.ft_tree.specs.meaning.Limits.{is_word, lawful_layer, nested, nested_layer}
use Rattle.ft_tree.specs.meaning.Line.{Line, Piece, inner, token}
use Rattle.ft_tree.specs.meaning.Lines.{block_lines, body_lines, hold_pieces, item_lines, memory_head, one_line, part_lines, row_line}
use Rattle.ft_tree.specs.meaning.Lines.{table_head, terminated}
use Rattle.ft_gen.specs.building.Drafts.{Draft, number, name, truth, before, aged, denied, negated, joined, RowDraft, expr_of, row_of}
use Rattle.ft_gen.specs.building.Drafts.{ItemDraft, variable, memory, table, shown, aimed, item_of, number_bound, word_of}

-- a fold over the draft's expression
abbrev pub fold_draft : (A : Type 0) → (Expr-F A → A) → Draft → A
fold_draft A f (number value) = f (layer.Num value start)
fold_draft A f (name text) = f (layer.Name text start)
fold_draft A f (truth value) = f (layer.Truth value start)
fold_draft A f (before text) = f (layer.Prev text start)
fold_draft A f (aged text) = f (layer.Age text start)
fold_draft A f (denied part) = f (layer.Not (fold_draft A f part) start)
fold_draft A f (negated part) = f (layer.Neg (fold_draft A f part) start)
fold_draft A f (joined op left right) = f (layer.Two op (fold_draft A f left) (fold_draft A f right) start)

pub folded : (A : Type 0) (f : Expr-F A → A) (d : Draft) → fold-Expr A f (expr_of d) ≡ fold_draft A f d
folded A f (number value) = ap (fold-Expr A f) (sym (rolls-Num value start)) ∙ fold-roll-Expr A f (layer.Num value start)
folded A f (name text) = ap (fold-Expr A f) (sym (rolls-Name text start)) ∙ fold-roll-Expr A f (layer.Name text start)
folded A f (truth value) = ap (fold-Expr A f) (sym (rolls-Truth value start)) ∙ fold-roll-Expr A f (layer.Truth value start)
folded A f (before text) = ap (fold-Expr A f) (sym (rolls-Prev text start)) ∙ fold-roll-Expr A f (layer.Prev text start)
folded A f (aged text) = ap (fold-Expr A f) (sym (rolls-Age text start)) ∙ fold-roll-Expr A f (layer.Age text start)
folded A f (denied part) =
    ap (fold-Expr A f) (sym (rolls-Not (expr_of part) start)) ∙ fold-roll-Expr A f (layer.Not (expr_of part) start)
    ∙ ap (λ (a : A). f (layer.Not a start)) (folded A f part)
folded A f (negated part) =
    ap (fold-Expr A f) (sym (rolls-Neg (expr_of part) start)) ∙ fold-roll-Expr A f (layer.Neg (expr_of part) start)
    ∙ ap (λ (a : A). f (layer.Neg a start)) (folded A f part)
folded A f (joined op left right) =
    ap (fold-Expr A f) (sym (rolls-Two op (expr_of left) (expr_of right) start))
    ∙ fold-roll-Expr A f (layer.Two op (expr_of left) (expr_of right) start)
    ∙ ap (λ (a : A). f (layer.Two op a (fold-Expr A f (expr_of right)) start)) (folded A f left)
    ∙ ap (λ (a : A). f (layer.Two op (fold_draft A f left) a start)) (folded A f right)

-- its tokens, and how tightly it binds
abbrev pub read : Draft → Spelled
read d = fold_draft Spelled spelled_layer d

abbrev pub draft_pieces : Draft → List Piece
draft_pieces d = (read d).pieces

spelled-draft : (d : Draft) → spelled (expr_of d) ≡ read d
unfolding spelled
spelled-draft d = folded Spelled spelled_layer d

pieces-draft : (d : Draft) → expr_pieces (expr_of d) ≡ draft_pieces d
pieces-draft d = ap (λ (s : Spelled). s.pieces) (spelled-draft d)

nested-draft : (d : Draft) → nested (expr_of d) ≡ fold_draft Nested nested_layer d
unfolding nested
nested-draft d = folded Nested nested_layer d

lawful-draft : (d : Draft) → is_lawful (expr_of d) ≡ fold_draft Bool lawful_layer d
unfolding is_lawful
lawful-draft d = folded Bool lawful_layer d

-- whether its expression is one
abbrev pub passes : Draft → Bool
passes d = fold_draft Bool lawful_layer d && nat_le (length (draft_pieces d)) 1000 && nat_le (fold_draft Nested nested_layer d).depth 64

passes-draft : (d : Draft) → is_expr (expr_of d) ≡ passes d
passes-draft d =
    ap (λ b. b && nat_le (length (expr_pieces (expr_of d))) 1000 && nat_le (nested (expr_of d)).depth 64) (lawful-draft d)
    ∙ ap (λ pieces. fold_draft Bool lawful_layer d && nat_le (length {A = Piece} pieces) 1000 && nat_le (nested (expr_of d)).depth 64)
    (pieces-draft d)
    ∙ ap (λ (n : Nested). fold_draft Bool lawful_layer d && nat_le (length (draft_pieces d)) 1000 && nat_le n.depth 64) (nested-draft d)

-- the line of a row
abbrev pub row_line_of : List Piece → List Piece → Line
row_line_of head entry = inner (token (codes "row") ∷ (head ++ token (codes ":") ∷ terminated (entry ++ [])))

abbrev pub draft_row_line : RowDraft → Line
draft_row_line row = row_line_of (draft_pieces row.head) (draft_pieces row.entry)

rows-draft : (rows : List RowDraft) → map row_line (map row_of rows) ≡ map draft_row_line rows
rows-draft [] = refl
rows-draft (row ∷ rows) =
    ap (λ head. row_line_of head (expr_pieces (expr_of row.entry)) ∷ map row_line (map row_of rows)) (pieces-draft row.head)
    ∙ ap (λ entry. row_line_of (draft_pieces row.head) entry ∷ map row_line (map row_of rows)) (pieces-draft row.entry)
    ∙ ap (λ lines. draft_row_line row ∷ lines) (rows-draft rows)

-- the line of a header of one entry
abbrev pub columns_line : List Piece → Line
columns_line entry = inner (token (codes "columns") ∷ terminated (entry ++ []))

-- the line of a fact that is shown
abbrev pub shows_line_of : List ℕ → List Piece → Line
shows_line_of text cond = inner (token (codes "shows") ∷ token text ∷ token (codes ":") ∷ terminated cond)

-- the lines of its item
abbrev pub draft_lines : ItemDraft → List Line
draft_lines (variable word text of init) = item_lines (Variable word (word_of text) of init)
draft_lines (memory text cond hold) = one_line (memory_head Req (codes "held") (word_of text)
    ++ (draft_pieces cond ++ token (codes ",") ∷ hold_pieces (number_bound hold)))
draft_lines (table section target rows) = body_lines (table_head section (codes "normal") (word_of target))
    (columns_line (draft_pieces (truth true)) ∷ map draft_row_line rows)
draft_lines (shown text takes shows cond) = body_lines (token (codes "block") ∷ token text ∷ [])
    (part_lines (codes "takes") takes ++ shows_line_of shows (draft_pieces cond) ∷ [])
draft_lines (aimed text takes uses goal) = block_lines (word_of text) takes uses (Goal (word_of goal) ∷ [])

pub lines-draft : (d : ItemDraft) → item_lines (item_of d) ≡ draft_lines d
lines-draft (variable word text of init) = refl
lines-draft (memory text cond hold) = ap (λ pieces. one_line (memory_head Req (codes "held") (word_of text)
    ++ (pieces ++ token (codes ",") ∷ hold_pieces (number_bound hold)))) (pieces-draft cond)
lines-draft (table section target rows) =
    ap (λ entry. body_lines (table_head section (codes "normal") (word_of target)) (columns_line entry ∷ map row_line (map row_of rows)))
    (pieces-draft (truth true))
    ∙ ap (λ lines. body_lines (table_head section (codes "normal") (word_of target)) (columns_line (draft_pieces (truth true)) ∷ lines))
    (rows-draft rows)
lines-draft (shown text takes shows cond) = ap (λ pieces. body_lines (token (codes "block") ∷ token text ∷ [])
    (part_lines (codes "takes") takes ++ shows_line_of shows pieces ∷ [])) (pieces-draft cond)
lines-draft (aimed text takes uses goal) = refl

pub all_lines-drafts : (ds : List ItemDraft) → flat_map item_lines (map item_of ds) ≡ flat_map draft_lines ds
all_lines-drafts [] = refl
all_lines-drafts (d ∷ ds) =
    ap (λ lines. lines ++ flat_map item_lines (map item_of ds)) (lines-draft d) ∙ ap (λ lines. draft_lines d ++ lines) (all_lines-drafts ds)

abbrev pub row_passes : RowDraft → Bool
row_passes row = passes row.head && (is_count 32 1 && (passes row.entry && true))

rows-pass : (rows : List RowDraft) → list_all is_row (map row_of rows) ≡ list_all row_passes rows
rows-pass [] = refl
rows-pass (row ∷ rows) =
    ap (λ b. (b && (is_count 32 1 && (is_expr (expr_of row.entry) && true))) && list_all is_row (map row_of rows)) (passes-draft row.head)
    ∙ ap (λ b. (passes row.head && (is_count 32 1 && (b && true))) && list_all is_row (map row_of rows)) (passes-draft row.entry)
    ∙ ap (λ b. row_passes row && b) (rows-pass rows)

-- whether its item is one
abbrev pub item_passes : ItemDraft → Bool
item_passes (variable word text of init) = is_item (Variable word (word_of text) of init)
item_passes (memory text cond hold) = is_side Req && is_word (word_of text) && passes cond && is_hold (number_bound hold)
item_passes (table section target rows) = is_word (word_of target) && (is_count 32 1 && (passes (truth true) && true))
    && is_count 32 (length (map row_of rows)) && list_all row_passes rows
item_passes (shown text takes shows cond) = is_word (word_of text) && are_listed takes && are_listed [] && nat_le 1 1
    && ((is_word (word_of shows) && passes cond) && true)
item_passes (aimed text takes uses goal) = is_item (Block (word_of text) takes uses (Goal (word_of goal) ∷ []))

item-passes : (d : ItemDraft) → is_item (item_of d) ≡ item_passes d
item-passes (variable word text of init) = refl
item-passes (memory text cond hold) =
    ap (λ b. is_side Req && is_word (word_of text) && b && is_hold (number_bound hold)) (passes-draft cond)
item-passes (table section target rows) =
    ap (λ b. is_word (word_of target) && (is_count 32 1 && (b && true)) && is_count 32 (length (map row_of rows))
    && list_all is_row (map row_of rows)) (passes-draft (truth true))
    ∙ ap (λ b. is_word (word_of target) && (is_count 32 1 && (passes (truth true) && true)) && is_count 32 (length (map row_of rows)) && b)
    (rows-pass rows)
item-passes (shown text takes shows cond) =
    ap (λ b. is_word (word_of text) && are_listed takes && are_listed [] && nat_le 1 1 && ((is_word (word_of shows) && b) && true))
    (passes-draft cond)
item-passes (aimed text takes uses goal) = refl

pub all-pass : (ds : List ItemDraft) → list_all is_item (map item_of ds) ≡ list_all item_passes ds
all-pass [] = refl
all-pass (d ∷ ds) =
    ap (λ b. b && list_all is_item (map item_of ds)) (item-passes d) ∙ ap (λ b. item_passes d && b) (all-pass ds)
