-- The lines of an item are spelled as the same item but for places.
use Rattle.std.proofs.Common.{◌≡◌, ◌∙◌, ℕ, suc, ◌+◌, ◌≤◌, ◌<◌, Bool, true, false, not, List, [], ◌∷◌, ◌++◌, codes, decimal, length, map}
use Rattle.std.proofs.Common.{nat_le, refl, sym, ap, append_assoc}
use Rattle.std.specs.List.{flat_map, list_all, sum_by}
use Rattle.std.proofs.lemmas.Bool.{and_from, and_parts, le-leb, lt-leb, not-true, true≢false}
use Rattle.std.proofs.lemmas.List.{append-nil, map-append}
use Rattle.std.proofs.lemmas.List.Concat.{flat_map-cons}
use native.Mathlib.Omega.{arith}
use Rattle.ft_base.specs.declared.place.Place.{Place}
use Rattle.ft_lex.specs.declared.token.TokenKind.TheVariants as token_kind
use Rattle.ft_base.specs.Names.{is_reserved_word, reserved_words}
use Rattle.ft_tree.specs.declared.expr.Expr.{Expr}
use Rattle.ft_tree.specs.declared.item.Word.{Word}
use Rattle.ft_tree.specs.declared.item.Number.{Number}
use Rattle.ft_tree.specs.declared.item.Bound.{Bound}
use Rattle.ft_tree.specs.declared.item.Kind.{Kind}
use Rattle.ft_tree.specs.declared.item.Row.{Row}
use Rattle.ft_tree.specs.declared.item.VRow.{VRow}
use Rattle.ft_tree.specs.declared.item.VarWord.{VarWord}
use Rattle.ft_tree.specs.declared.item.VarWord.TheVariants as var
use Rattle.ft_tree.specs.declared.item.SectionWord.{SectionWord}
use Rattle.ft_tree.specs.declared.item.SectionWord.TheVariants as section
use Rattle.ft_tree.specs.declared.item.NatWord.{NatWord}
use Rattle.ft_tree.specs.declared.item.NatWord.TheVariants as moment
use Rattle.ft_tree.specs.declared.item.FactItem.{FactItem}
use Rattle.ft_tree.specs.declared.item.FactItem.TheVariants as fact
use Rattle.ft_tree.specs.declared.item.Item.{Item}
use Rattle.ft_tree.specs.declared.item.Item.TheVariants as item
use Rattle.ft_tree.specs.meaning.Expression.{expr_pieces, truth_word}
use Rattle.ft_tree.specs.meaning.Limits.{are_entries, are_listed, constants, types, variables, memories, tables, clauses, blocks, facts_of}
use Rattle.ft_tree.specs.meaning.Limits.{is_bound, is_count, is_expr, is_fact, is_hold, is_init, is_item, is_kind, is_number, is_row}
use Rattle.ft_tree.specs.meaning.Limits.{is_side, is_vrow, is_word, sort_of}
use Rattle.ft_tree.specs.meaning.Line
use Rattle.ft_tree.specs.meaning.Line.{Line, Piece, outer}
use Rattle.ft_tree.specs.meaning.Lines.{body_lines, bound_pieces, brace_line, terminated, exprs_line, exprs_pieces, fact_line, head_line}
use Rattle.ft_tree.specs.meaning.Lines.{item_lines, kind_pieces, moment_text, names_pieces, nat_pieces, one_line, part_lines, plain_text}
use Rattle.ft_tree.specs.meaning.Lines.{row_line, section_text, sign_pieces, table_head, table_lines, var_pieces, vector_head, vrow_line}
use Rattle.ft_tree.specs.laws.Tokens.{Shape, kind_of}
use Rattle.ft_read.specs.meaning.Lexeme.{as_word}
use Rattle.ft_parse.specs.meaning.Language.{Language, alternative, nothing, token, ◌▷◌}
use Rattle.ft_read.specs.meaning.Limit.{no_pass, counted, counted_at}
use Rattle.ft_parse.specs.meaning.Room.{is_full, no_more_facts}
use Rattle.ft_parse.specs.meaning.Expressions.{expression}
use Rattle.ft_parse.specs.meaning.Items
use Rattle.ft_tree.specs.meaning.Bare.{bare_bound, bare_expr, bare_fact, bare_item, bare_kind, bare_row, bare_vrow, bare_word, start}
use Rattle.ft_read.specs.declared.parts.SectionAt.{SectionAt}
use Rattle.ft_read.specs.declared.stop.LimitWord.TheVariants as limit
use Rattle.ft_parse.proofs.ExprWritten.{Same, expr-written}
use Rattle.ft_parse.proofs.Marks.{mark}
use Rattle.ft_parse.proofs.PartsWritten.{a-counted, a-name, a-number, a-sign, before-one, bound-written, count-most, entries-written}
use Rattle.ft_parse.proofs.PartsWritten.{kind-written, names-written, one-of, plain-written, same-bound, several-written, sh, skip-sign}
use Rattle.ft_parse.proofs.PartsWritten.{skip-word, two-shapes, upper-written, value-written}
use Rattle.ft_parse.proofs.Writes.{Writes, and_then, left, made, next, none, right, shaped, shapes, weaker}
use Rattle.ft_read.specs.meaning.Choices.{as_map, as_side, as_start, as_var_word, as_moment}
use Rattle.ft_tree.specs.laws.Chains.{three-hold, four-hold, five-hold}

-- the shapes of lines
unfoldable pub line_shapes : List Line → List Shape
line_shapes lines = shapes (flat_map (λ line. line.pieces) lines)

pub lines-none : line_shapes [] ≡ []
unfolding line_shapes
lines-none = refl

pub lines-cons : (line : Line) (lines : List Line) → line_shapes (line ∷ lines) ≡ shapes line.pieces ++ line_shapes lines
unfolding line_shapes
lines-cons line lines =
    ap shapes (flat_map-cons (λ (l : Line). l.pieces) line lines)
    ∙ two-shapes line.pieces (flat_map (λ (l : Line). l.pieces) lines)

pub lines-append : (xs ys : List Line) → line_shapes (xs ++ ys) ≡ line_shapes xs ++ line_shapes ys
lines-append [] ys = rw lines-none refl
lines-append (x ∷ xs) ys =
    lines-cons x (xs ++ ys) ∙ ap (λ (ss : List Shape). shapes x.pieces ++ ss) (lines-append xs ys)
    ∙ sym (append_assoc (shapes x.pieces) (line_shapes xs) (line_shapes ys))
    ∙ ap (λ (ss : List Shape). ss ++ line_shapes ys) (sym (lines-cons x xs))

pub lines-map : {X : Type 0} (line : X → Line) (xs : List X) → line_shapes (map line xs)
    ≡ flat_map (λ x. shapes (line x).pieces) xs
lines-map line [] = lines-none
lines-map line (x ∷ xs) =
    lines-cons (line x) (map line xs) ∙ ap (λ (ss : List Shape). shapes (line x).pieces ++ ss) (lines-map line xs)
    ∙ sym (flat_map-cons (λ y. shapes (line y).pieces) x xs)

ruleset layout = (lines-none, lines-cons, lines-append, lines-map, append_assoc, append-nil, map-append)

pub one-line : (pieces : List Piece) → line_shapes (one_line pieces) ≡ shapes pieces ++ sh (codes ";") ∷ []
one-line pieces =
    lines-cons (outer (terminated pieces)) [] ∙ ap (λ (ss : List Shape). shapes (terminated pieces) ++ ss) lines-none
    ∙ append-nil (shapes (terminated pieces)) ∙ two-shapes pieces (Line.token (codes ";") ∷ [])

last-line : line_shapes (brace_line ∷ []) ≡ sh (codes "}") ∷ []
last-line = lines-cons brace_line [] ∙ ap (λ (ss : List Shape). sh (codes "}") ∷ ss) lines-none

-- a table or block
body-shapes : (head : List Piece) (lines : List Line) → line_shapes (body_lines head lines)
    ≡ (shapes head ++ sh (codes "{") ∷ []) ++ (line_shapes lines ++ sh (codes "}") ∷ [])
body-shapes head lines =
    lines-cons (head_line head) (lines ++ brace_line ∷ [])
    ∙ ap (λ (ss : List Shape). ss ++ line_shapes (lines ++ brace_line ∷ [])) (two-shapes head (Line.token (codes "{") ∷ []))
    ∙ ap (λ (ss : List Shape). (shapes head ++ sh (codes "{") ∷ []) ++ ss) (lines-append lines (brace_line ∷ [])
    ∙ ap (λ (ss : List Shape). line_shapes lines ++ ss) last-line)

table-shapes : {X : Type 0} (line : X → Line) (head : List Piece) (word : List ℕ) (header : List Expr) (rows : List X)
    → line_shapes (table_lines line head word header rows)
    ≡ (shapes head ++ sh (codes "{") ∷ []) ++ ((sh word ∷ (shapes (exprs_pieces header) ++ sh (codes ";") ∷ []))
    ++ (flat_map (λ x. shapes (line x).pieces) rows ++ sh (codes "}") ∷ []))
table-shapes {X} line head word header rows =
    let first : List Shape = sh word ∷ (shapes (exprs_pieces header) ++ sh (codes ";") ∷ []) in
    let later : List Shape = flat_map (λ x. shapes (line x).pieces) rows in
    let inside : line_shapes (exprs_line word header ∷ map line rows) ≡ first ++ later =
    lines-cons (exprs_line word header) (map line rows)
    ∙ (λ i. (sh word ∷ two-shapes (exprs_pieces header) (Line.token (codes ";") ∷ []) i) ++ lines-map line rows i) in
    body-shapes head (exprs_line word header ∷ map line rows)
    ∙ ap (λ (ss : List Shape). (shapes head ++ sh (codes "{") ∷ []) ++ ss)
    (ap (λ (ss : List Shape). ss ++ sh (codes "}") ∷ []) inside ∙ append_assoc first later (sh (codes "}") ∷ []))

block-shapes : (head : List Piece) (takes uses : List Line) (facts : List FactItem)
    → line_shapes (body_lines head (takes ++ (uses ++ map fact_line facts)))
    ≡ (shapes head ++ sh (codes "{") ∷ [])
    ++ (line_shapes takes ++ (line_shapes uses ++ (flat_map (λ f. shapes (fact_line f).pieces) facts ++ sh (codes "}") ∷ [])))
block-shapes head takes uses facts =
    let later : List Shape = flat_map (λ f. shapes (fact_line f).pieces) facts in
    let inside : line_shapes (takes ++ (uses ++ map fact_line facts)) ≡ line_shapes takes ++ (line_shapes uses ++ later) =
    lines-append takes (uses ++ map fact_line facts) ∙ ap (λ (ss : List Shape). line_shapes takes ++ ss)
    (lines-append uses (map fact_line facts) ∙ ap (λ (ss : List Shape). line_shapes uses ++ ss) (lines-map fact_line facts)) in
    body-shapes head (takes ++ (uses ++ map fact_line facts))
    ∙ ap (λ (ss : List Shape). (shapes head ++ sh (codes "{") ∷ []) ++ ss)
    (ap (λ (ss : List Shape). ss ++ sh (codes "}") ∷ []) inside
    ∙ append_assoc (line_shapes takes) (line_shapes uses ++ later) (sh (codes "}") ∷ [])
    ∙ ap (λ (ss : List Shape). line_shapes takes ++ ss) (append_assoc (line_shapes uses) later (sh (codes "}") ∷ [])))

bare-text : (w v : Word) → w.text ≡ v.text → bare_word w ≡ bare_word v
bare-text w v e = λ i. record { text = e i; place = start }

-- where an item stands in the grammar
module _ (before : List Item) where
  abbrev typed : Language Item
  typed = Items.type_item before

  abbrev worded : Language Item
  worded = token as_var_word no_pass ▷ Items.variable before

  abbrev sides : Language Item
  sides = token as_side no_pass ▷ Items.sided before

  abbrev maps : Language Item
  maps = token as_map no_pass ▷ Items.table before

  abbrev late : Language Item
  late = alternative (Items.clause before) (Items.block before)

  as-constant : {at : ℕ} {ss : List Shape} {G : Item → Type 0} → Writes (Items.constant before) at ss G
      → Writes (Items.item_part before) at ss G
  as-constant w = left (alternative typed (alternative worded (alternative sides (alternative maps late)))) w

  as-type : {at : ℕ} {ss : List Shape} {G : Item → Type 0} → Writes typed at ss G → Writes (Items.item_part before) at ss G
  as-type w = right (Items.constant before) (left (alternative worded (alternative sides (alternative maps late))) w)

  as-worded : {at : ℕ} {ss : List Shape} {G : Item → Type 0} → Writes worded at ss G → Writes (Items.item_part before) at ss G
  as-worded w = right (Items.constant before) (right typed (left (alternative sides (alternative maps late)) w))

  as-sides : {at : ℕ} {ss : List Shape} {G : Item → Type 0} → Writes sides at ss G → Writes (Items.item_part before) at ss G
  as-sides w = right (Items.constant before) (right typed (right worded (left (alternative maps late) w)))

  as-maps : {at : ℕ} {ss : List Shape} {G : Item → Type 0} → Writes maps at ss G → Writes (Items.item_part before) at ss G
  as-maps w = right (Items.constant before) (right typed (right worded (right sides (left late w))))

  as-clause : {at : ℕ} {ss : List Shape} {G : Item → Type 0} → Writes (Items.clause before) at ss G
      → Writes (Items.item_part before) at ss G
  as-clause w =
      right (Items.constant before) (right typed (right worded (right sides (right maps (left (Items.block before) w)))))

  as-block : {at : ℕ} {ss : List Shape} {G : Item → Type 0} → Writes (Items.block before) at ss G
      → Writes (Items.item_part before) at ss G
  as-block w =
      right (Items.constant before) (right typed (right worded (right sides (right maps (right (Items.clause before) w)))))

  -- the same item but for places
  abbrev SameItem : Item → Item → Type 0
  SameItem x made = bare_item made ≡ bare_item x

  number-of : {at : ℕ} (sign : Bool) (value : ℕ) → is_number value ≡ true
      → Writes Items.signed_number at (shapes (sign_pieces sign ++ Line.token (decimal value) ∷ [])) (λ n. (n.0 ≡ sign)
      × (n.1.value ≡ value))
  unfolding is_reserved_word reserved_words
  number-of true value h =
      left (Items.number ▷ λ n. nothing (false, n)) (next {G = λ _. Unit {0}} (a-sign (codes "-") refl)
      (λ _ _. made {G = λ n. n.value ≡ value} (λ n. (true, n)) (a-number value h) (λ n is. (refl, is))))
  number-of false value h =
      right (Items.sign (codes "-") ▷ λ _. Items.number ▷ λ n. nothing (true, n)) (made {G = λ n. n.value ≡ value}
      (λ n. (false, n)) (a-number value h) (λ n is. (refl, is)))

  constant-written : {at : ℕ} (name : Word) (sign : Bool) (value : Number) → is_full constants before ≡ false
      → is_word name ≡ true → is_number value.value ≡ true
      → Writes (Items.item_part before) at (line_shapes (item_lines (item.Constant name sign value)))
      (SameItem (item.Constant name sign value))
  unfolding is_reserved_word reserved_words
  constant-written name sign value room named small =
      let pieces : List Piece = sign_pieces sign ++ Line.token (decimal value.value) ∷ [] in
      let layed : sh (codes "const") ∷ sh name.text ∷ sh (codes "=") ∷ (shapes pieces ++ sh (codes ";") ∷ [])
      ≡ line_shapes (item_lines (item.Constant name sign value)) = simp layout in
      shaped layed (as-constant (skip-word (codes "const") refl (λ _.
      next {G = λ w. w.text ≡ name.text} (a-counted (is_full constants before) limit.Constants name.text room named) (λ w text.
      skip-sign (codes "=") refl
      (λ _. and_then {G = λ n. (n.0 ≡ sign) × (n.1.value ≡ value.value)} (number-of sign value.value small) (λ n is.
      skip-sign (codes ";") refl
      (λ _. none (λ i. item.Constant (bare-text w name text i) (is.0 i) (record { value = is.1 i; place = start })))))))))

  range_type-of : {at : ℕ} (name w : Word) (lo hi : Bound) → w.text ≡ name.text → is_bound lo ≡ true → is_bound hi ≡ true
      → Writes (Items.range_type w) at (shapes (bound_pieces lo) ++ sh (codes "..") ∷ shapes (bound_pieces hi))
      (SameItem (item.RangeType name lo hi))
  range_type-of name w lo hi text low high =
      and_then {G = λ m. bare_bound m ≡ bare_bound lo} (bound-written lo low)
      (λ b from. made {G = λ m. bare_bound m ≡ bare_bound hi} (item.RangeType w b) (upper-written hi high)
      (λ m to. λ i. item.RangeType (bare-text w name text i) (from i) (to i)))

  range_type-written : {at : ℕ} (name : Word) (lo hi : Bound) → is_full types before ≡ false → is_word name ≡ true
      → is_bound lo ≡ true → is_bound hi ≡ true
      → Writes (Items.item_part before) at (line_shapes (item_lines (item.RangeType name lo hi)))
      (SameItem (item.RangeType name lo hi))
  unfolding is_reserved_word reserved_words
  range_type-written name lo hi room named low high =
      let layed : sh (codes "type") ∷ sh name.text ∷ sh (codes "=")
      ∷ ((shapes (bound_pieces lo) ++ sh (codes "..") ∷ shapes (bound_pieces hi)) ++ sh (codes ";") ∷ [])
      ≡ line_shapes (item_lines (item.RangeType name lo hi)) = simp layout in
      shaped layed (as-type (skip-word (codes "type") refl (λ _.
      next {G = λ w. w.text ≡ name.text} (a-counted (is_full types before) limit.Types name.text room named) (λ w text.
      skip-sign (codes "=") refl
      (λ _. and_then {G = SameItem (item.RangeType name lo hi)}
      (right (Items.members w) (range_type-of name w lo hi text low high)) (λ m same.
      skip-sign (codes ";") refl (λ _. none same)))))))

  members-of : {at : ℕ} (name w : Word) (members : List Word) → w.text ≡ name.text → is_count 64 (length members) ≡ true
      → list_all is_word members ≡ true
      → Writes (Items.members w) at (sh (codes "{") ∷ (shapes (names_pieces members) ++ sh (codes "}") ∷ []))
      (SameItem (item.EnumType name members))
  unfolding is_reserved_word reserved_words
  members-of name w members text sized all =
      skip-sign (codes "{") refl
      (λ _. and_then {G = λ ms. map bare_word ms ≡ map bare_word members} (names-written 64 limit.Members members sized all)
      (λ ms same.
      skip-sign (codes "}") refl (λ _. none (λ i. item.EnumType (bare-text w name text i) (same i)))))

  enum_type-written : {at : ℕ} (name : Word) (members : List Word) → is_full types before ≡ false → is_word name ≡ true
      → is_count 64 (length members) ≡ true → list_all is_word members ≡ true
      → Writes (Items.item_part before) at (line_shapes (item_lines (item.EnumType name members)))
      (SameItem (item.EnumType name members))
  unfolding is_reserved_word reserved_words
  enum_type-written name members room named sized all =
      let layed : sh (codes "type") ∷ sh name.text ∷ sh (codes "=")
      ∷ ((sh (codes "{") ∷ (shapes (names_pieces members) ++ sh (codes "}") ∷ [])) ++ sh (codes ";") ∷ [])
      ≡ line_shapes (item_lines (item.EnumType name members)) = simp layout in
      shaped layed (as-type (skip-word (codes "type") refl (λ _.
      next {G = λ w. w.text ≡ name.text} (a-counted (is_full types before) limit.Types name.text room named) (λ w text.
      skip-sign (codes "=") refl
      (λ _. and_then {G = SameItem (item.EnumType name members)}
      (left (Items.range_type w) (members-of name w members text sized all)) (λ m same.
      skip-sign (codes ";") refl (λ _. none same)))))))

  -- a variable after its words
  abbrev variable_shapes : Word → Kind → Bound → List Shape
  variable_shapes name of init =
      sh name.text ∷ sh (codes ":") ∷ (shapes (kind_pieces of) ++ sh (codes "init")
      ∷ (shapes (bound_pieces init) ++ sh (codes ";") ∷ []))

  variable-of : {at : ℕ} (words wrote : VarWord) (name : Word) (of : Kind) (init : Bound) → wrote ≡ words
      → is_full variables before ≡ false → is_word name ≡ true → is_kind of ≡ true → is_init init ≡ true
      → Writes (Items.variable before wrote) at (variable_shapes name of init) (SameItem (item.Variable words name of init))
  unfolding is_reserved_word reserved_words
  variable-of words wrote name of init is room named lawful begins =
      next {G = λ w. w.text ≡ name.text} (a-counted (is_full variables before) limit.Variables name.text room named) (λ w text.
      skip-sign (codes ":") refl (λ _. and_then {G = λ k. bare_kind k ≡ bare_kind of} (kind-written of lawful) (λ k same.
      skip-word (codes "init") refl (λ _. and_then {G = λ b. bare_bound b ≡ bare_bound init} (value-written init begins)
      (λ b same_init.
      skip-sign (codes ";") refl (λ _. none (λ i. item.Variable (is i) (bare-text w name text i) (same i) (same_init i))))))))

  -- the word of a side or section
  side-mark : {at : ℕ} (side : SectionWord) → is_side side ≡ true
      → Writes (token as_side no_pass) at (sh (section_text side) ∷ []) (λ s. s.word ≡ side)
  unfolding is_reserved_word reserved_words
  side-mark section.Req h =
      mark (codes "req") token_kind.Word refl (λ place. (record { word = section.Req; place = place }, refl, refl, refl))
  side-mark section.Sof h =
      mark (codes "sof") token_kind.Word refl (λ place. (record { word = section.Sof; place = place }, refl, refl, refl))
  side-mark section.In h = absurd (true≢false (sym h))
  side-mark section.Out h = absurd (true≢false (sym h))

  map-mark : {at : ℕ} (s : SectionWord) → is_side s ≡ false → Writes (token as_map no_pass) at (sh (section_text s) ∷ [])
      (λ x. x.word ≡ s)
  unfolding is_reserved_word reserved_words
  map-mark section.In h =
      mark (codes "in") token_kind.Word refl (λ place. (record { word = section.In; place = place }, refl, refl, refl))
  map-mark section.Out h =
      mark (codes "out") token_kind.Word refl (λ place. (record { word = section.Out; place = place }, refl, refl, refl))
  map-mark section.Req h = absurd (true≢false h)
  map-mark section.Sof h = absurd (true≢false h)

  in-side : {at : ℕ} {ss : List Shape} {G : Item → Type 0} (side : SectionWord) → is_side side ≡ true
      → ((s : SectionAt) → s.word ≡ side → Writes (Items.sided before s) (at + 1) ss G)
      → Writes (Items.item_part before) at (sh (section_text side) ∷ ss) G
  in-side side h more = as-sides (next {G = λ s. s.word ≡ side} (side-mark side h) more)

  in-map : {at : ℕ} {ss : List Shape} {G : Item → Type 0} (s : SectionWord) → is_side s ≡ false
      → ((x : SectionAt) → x.word ≡ s → Writes (Items.table before x) (at + 1) ss G)
      → Writes (Items.item_part before) at (sh (section_text s) ∷ ss) G
  in-map s h more = as-maps (next {G = λ x. x.word ≡ s} (map-mark s h) more)

  abbrev held_or : SectionAt → Language Item
  held_or s =
      alternative (Items.word (codes "held") ▷ λ _. Items.held before s.word)
      (alternative (Items.word (codes "hyst") ▷ λ _. Items.hyst before s.word) (Items.table before s))

  in-table : {at : ℕ} {ss : List Shape} {G : Item → Type 0} (s : SectionAt) → Writes (Items.table before s) at ss G
      → Writes (Items.sided before s) at ss G
  in-table s w =
      right (Items.word (codes "var") ▷ λ _. Items.variable before (Items.inner_variable s.word))
      (right (Items.word (codes "held") ▷ λ _. Items.held before s.word)
      (right (Items.word (codes "hyst") ▷ λ _. Items.hyst before s.word) w))

  in-section : {ss : List Shape} {G : Item → Type 0} (at : ℕ) (s : SectionWord)
      → ((x : SectionAt) → x.word ≡ s → Writes (Items.table before x) (at + 1) ss G)
      → Writes (Items.item_part before) at (sh (section_text s) ∷ ss) G
  in-section at section.In more = in-map section.In refl more
  in-section at section.Out more = in-map section.Out refl more
  in-section at section.Req more = in-side section.Req refl (λ s is. in-table s (more s is))
  in-section at section.Sof more = in-side section.Sof refl (λ s is. in-table s (more s is))

  worded-as : {at : ℕ} (words : VarWord) (name : Word) (of : Kind) (init : Bound) → is_full variables before ≡ false
      → is_word name ≡ true → is_kind of ≡ true → is_init init ≡ true
      → Writes (Items.item_part before) at (shapes (var_pieces words) ++ variable_shapes name of init)
      (SameItem (item.Variable words name of init))
  unfolding is_reserved_word reserved_words
  worded-as var.Mon name of init room named lawful begins =
      as-worded (next {G = λ v. v ≡ var.Mon} (mark (codes "mon") token_kind.Word refl (λ place. (var.Mon, refl, refl, refl)))
      (λ v is. variable-of var.Mon v name of init is room named lawful begins))
  worded-as var.Con name of init room named lawful begins =
      as-worded (next {G = λ v. v ≡ var.Con} (mark (codes "con") token_kind.Word refl (λ place. (var.Con, refl, refl, refl)))
      (λ v is. variable-of var.Con v name of init is room named lawful begins))
  worded-as var.Input name of init room named lawful begins =
      as-worded (next {G = λ v. v ≡ var.Input} (mark (codes "input") token_kind.Word refl
      (λ place. (var.Input, refl, refl, refl))) (λ v is. variable-of var.Input v name of init is room named lawful begins))
  worded-as var.Output name of init room named lawful begins =
      as-worded (next {G = λ v. v ≡ var.Output} (mark (codes "output") token_kind.Word refl
      (λ place. (var.Output, refl, refl, refl))) (λ v is. variable-of var.Output v name of init is room named lawful begins))
  worded-as var.ReqVar name of init room named lawful begins =
      in-side section.Req refl
      (λ s is. left (held_or s) (skip-word (codes "var") refl
      (λ _. variable-of var.ReqVar (Items.inner_variable s.word) name of init
      (ap Items.inner_variable is) room named lawful begins)))
  worded-as var.SofVar name of init room named lawful begins =
      in-side section.Sof refl
      (λ s is. left (held_or s) (skip-word (codes "var") refl
      (λ _. variable-of var.SofVar (Items.inner_variable s.word) name of init
      (ap Items.inner_variable is) room named lawful begins)))

  variable-written : {at : ℕ} (words : VarWord) (name : Word) (of : Kind) (init : Bound) → is_full variables before ≡ false
      → is_word name ≡ true → is_kind of ≡ true → is_init init ≡ true
      → Writes (Items.item_part before) at (line_shapes (item_lines (item.Variable words name of init)))
      (SameItem (item.Variable words name of init))
  variable-written words name of init room named lawful begins =
      let layed : shapes (var_pieces words) ++ variable_shapes name of init
      ≡ line_shapes (item_lines (item.Variable words name of init)) = simp layout in
      shaped layed (worded-as words name of init room named lawful begins)

  -- a hold has no minus
  hold-shapes : (hold : Bound) → hold.minus ≡ false → sh (plain_text hold.value) ∷ [] ≡ shapes (bound_pieces hold)
  hold-shapes hold is = ap (λ (b : Bool). shapes (sign_pieces b ++ Line.token (plain_text hold.value) ∷ [])) (sym is)

  hold-written : {at : ℕ} (hold : Bound) → is_hold hold ≡ true → Writes Items.plain_bound at (shapes (bound_pieces hold))
      (λ b. bare_bound b ≡ bare_bound hold)
  hold-written hold h =
      let (lawful, plus) = and_parts (is_bound hold) (not hold.minus) h in
      let is = not-true hold.minus plus in
      shaped (hold-shapes hold is) (weaker (λ b same. same-bound hold b (same.0 ∙ sym is, same.1))
      (plain-written hold.value lawful))

  held-written : {at : ℕ} (side : SectionWord) (name : Word) (cond : Expr) (hold : Bound) → is_full memories before ≡ false
      → is_side side ≡ true → is_word name ≡ true → is_expr cond ≡ true → is_hold hold ≡ true
      → Writes (Items.item_part before) at (line_shapes (item_lines (item.Held side name cond hold)))
      (SameItem (item.Held side name cond hold))
  unfolding is_reserved_word reserved_words
  held-written side name cond hold room sided named lawful held =
      let layed : sh (section_text side) ∷ sh (codes "held") ∷ sh name.text ∷ sh (codes "(")
      ∷ (shapes (expr_pieces cond) ++ sh (codes ",") ∷ (shapes (bound_pieces hold) ++ sh (codes "ms") ∷ sh (codes ")") ∷ sh
      (codes ";") ∷ []))
      ≡ line_shapes (item_lines (item.Held side name cond hold)) = simp layout in
      shaped layed (in-side side sided
      (λ s is. right (Items.word (codes "var") ▷ λ _. Items.variable before (Items.inner_variable s.word))
      (left (alternative (Items.word (codes "hyst") ▷ λ _. Items.hyst before s.word) (Items.table before s))
      (skip-word (codes "held") refl (λ _.
      next {G = λ w. w.text ≡ name.text} (a-counted (is_full memories before) limit.Memories name.text room named) (λ w text.
      skip-sign (codes "(") refl (λ _. and_then {G = Same cond} (expr-written cond false refl lawful) (λ e same.
      skip-sign (codes ",") refl (λ _. and_then {G = λ b. bare_bound b ≡ bare_bound hold} (hold-written hold held) (λ b same_hold.
      skip-word (codes "ms") refl (λ _. skip-sign (codes ")") refl (λ _. skip-sign (codes ";") refl (λ _.
      none (λ i. item.Held (is i) (bare-text w name text i) (same i) (same_hold i)))))))))))))))

  start-written : {at : ℕ} (begins : Bool) → Writes (token as_start no_pass) at (sh (truth_word begins) ∷ [])
      (λ b. b ≡ begins)
  unfolding is_reserved_word reserved_words
  start-written true = mark (codes "true") token_kind.Word refl (λ place. (true, refl, refl, refl))
  start-written false = mark (codes "false") token_kind.Word refl (λ place. (false, refl, refl, refl))

  hyst-written : {at : ℕ} (side : SectionWord) (name : Word) (term : Expr) (lo hi : Bound) (begins : Bool)
      → is_full memories before ≡ false → is_side side ≡ true → is_word name ≡ true → is_expr term ≡ true → is_bound lo ≡ true
      → is_bound hi ≡ true
      → Writes (Items.item_part before) at (line_shapes (item_lines (item.Hyst side name term lo hi begins)))
      (SameItem (item.Hyst side name term lo hi begins))
  unfolding is_reserved_word reserved_words
  hyst-written side name term lo hi begins room sided named lawful low high =
      let layed : sh (section_text side) ∷ sh (codes "hyst") ∷ sh name.text ∷ sh (codes "(")
      ∷ (shapes (expr_pieces term) ++ sh (codes ",") ∷ (shapes (bound_pieces lo)
      ++ sh (codes ",") ∷ (shapes (bound_pieces hi) ++ sh (codes ",") ∷ sh (truth_word begins) ∷ sh (codes ")") ∷ sh
      (codes ";") ∷ [])))
      ≡ line_shapes (item_lines (item.Hyst side name term lo hi begins)) = simp layout in
      shaped layed (in-side side sided
      (λ s is. right (Items.word (codes "var") ▷ λ _. Items.variable before (Items.inner_variable s.word))
      (right (Items.word (codes "held") ▷ λ _. Items.held before s.word)
      (left (Items.table before s) (skip-word (codes "hyst") refl (λ _.
      next {G = λ w. w.text ≡ name.text} (a-counted (is_full memories before) limit.Memories name.text room named) (λ w text.
      skip-sign (codes "(") refl (λ _. and_then {G = Same term} (expr-written term false refl lawful) (λ e same.
      skip-sign (codes ",") refl (λ _. and_then {G = λ b. bare_bound b ≡ bare_bound lo} (bound-written lo low) (λ l same_lo.
      skip-sign (codes ",") refl (λ _. and_then {G = λ b. bare_bound b ≡ bare_bound hi} (bound-written hi high) (λ h same_hi.
      skip-sign (codes ",") refl (λ _. next {G = λ b. b ≡ begins} (start-written begins) (λ b same_start.
      skip-sign (codes ")") refl (λ _. skip-sign (codes ";") refl (λ _.
      none (λ i. item.Hyst (is i) (bare-text w name text i) (same i) (same_lo i) (same_hi i) (same_start i)))))))))))))))))))

  -- the rows of a table
  row-mark : {at : ℕ} (n : ℕ) → n < 32 → Writes (Items.row_word n) at (sh (codes "row") ∷ []) (λ _. Unit {0})
  unfolding is_reserved_word reserved_words
  row-mark n few = mark (codes "row") token_kind.Word refl (λ place. (place, refl, rw (lt-leb 32 n few) refl, tt))

  row-written : (at n : ℕ) (r : Row) → n < 32 → is_row r ≡ true → Writes (Items.row n) at (shapes (row_line r).pieces)
      (λ m. bare_row m ≡ bare_row r)
  unfolding is_reserved_word reserved_words
  row-written at n r few h =
      let (lawful, cells_lawful) = and_parts (is_expr r.head) (are_entries r.entries) h in
      let layed : sh (codes "row") ∷ (shapes (expr_pieces r.head) ++ sh (codes ":")
      ∷ (shapes (exprs_pieces r.entries) ++ sh (codes ";") ∷ [])) ≡ shapes (row_line r).pieces = simp layout in
      shaped layed (next {G = λ _. Unit {0}} (row-mark n few)
      (λ place _. and_then {G = Same r.head} (expr-written r.head false refl lawful) (λ e same.
      skip-sign (codes ":") refl (λ _. and_then {G = λ cells. map bare_expr cells ≡ map bare_expr r.entries}
      (entries-written r.entries cells_lawful) (λ cells same_cells.
      skip-sign (codes ";") refl (λ _. none (λ i. record { place = start; head = same i; entries = same_cells i })))))))

  vrow-written : (at n : ℕ) (r : VRow) → n < 32 → is_vrow r ≡ true → Writes (Items.vrow n) at (shapes (vrow_line r).pieces)
      (λ m. bare_vrow m ≡ bare_vrow r)
  unfolding is_reserved_word reserved_words
  vrow-written at n r few h =
      let (named, cells_lawful) = and_parts (is_word r.target) (are_entries r.entries) h in
      let layed : sh (codes "row") ∷ sh r.target.text ∷ sh (codes ":") ∷ (shapes (exprs_pieces r.entries) ++ sh (codes ";") ∷ [])
      ≡ shapes (vrow_line r).pieces = simp layout in
      shaped layed (next {G = λ _. Unit {0}} (row-mark n few)
      (λ place _. next {G = λ w. w.text ≡ r.target.text} (a-name r.target.text named) (λ w text.
      skip-sign (codes ":") refl (λ _. and_then {G = λ cells. map bare_expr cells ≡ map bare_expr r.entries}
      (entries-written r.entries cells_lawful) (λ cells same_cells.
      skip-sign (codes ";") refl
      (λ _. none (λ i. record { place = start; target = bare-text w r.target text i; entries = same_cells i })))))))

  rows-written : {at : ℕ} (rows : List Row) → is_count 32 (length rows) ≡ true → list_all is_row rows ≡ true
      → Writes (Items.several Items.row) at (flat_map (λ r. shapes (row_line r).pieces) rows) (λ rs. map bare_row rs
      ≡ map bare_row rows)
  rows-written rows sized all =
      let (some, _) = and_parts (nat_le 1 (length rows)) (nat_le (length rows) 32) sized in
      let most = count-most 32 (length rows) sized in
      several-written Items.row (λ r. shapes (row_line r).pieces) bare_row rows some
      (λ k n front rest x is same. row-written k n x (omega (arith, same, before-one rows front rest x is, most))
      (one-of is_row rows front rest x is all))

  vrows-written : {at : ℕ} (rows : List VRow) → is_count 32 (length rows) ≡ true → list_all is_vrow rows ≡ true
      → Writes (Items.several Items.vrow) at (flat_map (λ r. shapes (vrow_line r).pieces) rows) (λ rs. map bare_vrow rs
      ≡ map bare_vrow rows)
  vrows-written rows sized all =
      let (some, _) = and_parts (nat_le 1 (length rows)) (nat_le (length rows) 32) sized in
      let most = count-most 32 (length rows) sized in
      several-written Items.vrow (λ r. shapes (vrow_line r).pieces) bare_vrow rows some
      (λ k n front rest x is same. vrow-written k n x (omega (arith, same, before-one rows front rest x is, most))
      (one-of is_vrow rows front rest x is all))

  abbrev header_shapes : List ℕ → List Expr → List Shape
  header_shapes text cells = sh text ∷ (shapes (exprs_pieces cells) ++ sh (codes ";") ∷ [])

  header-written : {at : ℕ} (text : List ℕ) (cells : List Expr) → kind_of text ≡ token_kind.Word → are_entries cells ≡ true
      → Writes (Items.header text) at (header_shapes text cells) (λ es. map bare_expr es ≡ map bare_expr cells)
  unfolding is_reserved_word reserved_words
  header-written text cells is lawful =
      skip-word text is (λ _. and_then {G = λ es. map bare_expr es ≡ map bare_expr cells} (entries-written cells lawful)
      (λ es same.
      skip-sign (codes ";") refl (λ _. none same)))

  abbrev grid_shapes : Word → List ℕ → List Expr → List Row → List Shape
  grid_shapes target text cells rows =
      sh target.text ∷ sh (codes "{")
      ∷ (header_shapes text cells ++ (flat_map (λ r. shapes (row_line r).pieces) rows ++ sh (codes "}") ∷ []))

  grid-written : {at : ℕ} (target : Word) (text : List ℕ) (cells : List Expr) (rows : List Row) (make : Word → List Expr
      → List Row → Item) (G : Item → Type 0)
      → kind_of text ≡ token_kind.Word → is_full tables before ≡ false → is_word target ≡ true → are_entries cells ≡ true
      → is_count 32 (length rows) ≡ true → list_all is_row rows ≡ true
      → ((w : Word) (es : List Expr) (rs : List Row) → w.text ≡ target.text → map bare_expr es ≡ map bare_expr cells
      → map bare_row rs ≡ map bare_row rows → G (make w es rs))
      → Writes (Items.grid before text make) at (grid_shapes target text cells rows) G
  unfolding is_reserved_word reserved_words
  grid-written target text cells rows make G is room named lawful sized all good =
      next {G = λ w. w.text ≡ target.text} (a-counted (is_full tables before) limit.Tables target.text room named) (λ w same_text.
      skip-sign (codes "{") refl
      (λ _. and_then {G = λ es. map bare_expr es ≡ map bare_expr cells} (header-written text cells is lawful) (λ es same.
      and_then {G = λ rs. map bare_row rs ≡ map bare_row rows} (rows-written rows sized all) (λ rs same_rows.
      skip-sign (codes "}") refl (λ _. none (good w es rs same_text same same_rows))))))

  abbrev inverted_or_vector : SectionAt → Language Item
  inverted_or_vector s =
      alternative (Items.word (codes "inverted") ▷ λ _. Items.grid before (codes "terms") (item.Inverted s.word))
      (token (as_word (codes "vector")) (counted_at (is_full tables before) limit.Tables s.place) ▷ λ _. Items.vector_grid s.word)

  normal-written : {at : ℕ} (s : SectionWord) (target : Word) (cells : List Expr) (rows : List Row)
      → is_full tables before ≡ false → is_word target ≡ true → are_entries cells ≡ true
      → is_count 32 (length rows) ≡ true → list_all is_row rows ≡ true
      → Writes (Items.item_part before) at (line_shapes (item_lines (item.Normal s target cells rows)))
      (SameItem (item.Normal s target cells rows))
  unfolding is_reserved_word reserved_words
  normal-written {at} s target cells rows room named lawful sized all =
      let layed : sh (section_text s) ∷ sh (codes "normal") ∷ grid_shapes target (codes "columns") cells rows
      ≡ line_shapes (item_lines (item.Normal s target cells rows)) = sym
      (table-shapes row_line (table_head s (codes "normal") target) (codes "columns") cells rows) in
      shaped layed (in-section at s (λ x is. left (inverted_or_vector x) (skip-word (codes "normal") refl (λ _.
      grid-written target (codes "columns") cells rows (item.Normal x.word)
      (SameItem (item.Normal s target cells rows)) refl room named lawful sized all
      (λ w es rs text same same_rows. λ i. item.Normal (is i) (bare-text w target text i) (same i) (same_rows i))))))

  inverted-written : {at : ℕ} (s : SectionWord) (target : Word) (cells : List Expr) (rows : List Row)
      → is_full tables before ≡ false → is_word target ≡ true → are_entries cells ≡ true
      → is_count 32 (length rows) ≡ true → list_all is_row rows ≡ true
      → Writes (Items.item_part before) at (line_shapes (item_lines (item.Inverted s target cells rows)))
      (SameItem (item.Inverted s target cells rows))
  unfolding is_reserved_word reserved_words
  inverted-written {at} s target cells rows room named lawful sized all =
      let layed : sh (section_text s) ∷ sh (codes "inverted") ∷ grid_shapes target (codes "terms") cells rows
      ≡ line_shapes (item_lines (item.Inverted s target cells rows)) = sym
      (table-shapes row_line (table_head s (codes "inverted") target) (codes "terms") cells rows) in
      shaped layed (in-section at s
      (λ x is. right (Items.word (codes "normal") ▷ λ _. Items.grid before (codes "columns") (item.Normal x.word))
      (left (token (as_word (codes "vector"))
      (counted_at (is_full tables before) limit.Tables x.place) ▷ λ _. Items.vector_grid x.word)
      (skip-word (codes "inverted") refl (λ _.
      grid-written target (codes "terms") cells rows (item.Inverted x.word)
      (SameItem (item.Inverted s target cells rows)) refl room named lawful sized all
      (λ w es rs text same same_rows. λ i. item.Inverted (is i) (bare-text w target text i) (same i) (same_rows i)))))))

  vector-mark : {at : ℕ} (place : Place) → is_full tables before ≡ false
      → Writes (token (as_word (codes "vector")) (counted_at (is_full tables before) limit.Tables place)) at
      (sh (codes "vector") ∷ []) (λ _. Unit {0})
  unfolding is_reserved_word reserved_words
  vector-mark place room = mark (codes "vector") token_kind.Word refl (λ p. (p, refl, rw room refl, tt))

  vector-written : {at : ℕ} (s : SectionWord) (cells : List Expr) (rows : List VRow) → is_full tables before ≡ false
      → are_entries cells ≡ true
      → is_count 32 (length rows) ≡ true → list_all is_vrow rows ≡ true
      → Writes (Items.item_part before) at (line_shapes (item_lines (item.Vector s cells rows)))
      (SameItem (item.Vector s cells rows))
  unfolding is_reserved_word reserved_words
  vector-written {at} s cells rows room lawful sized all =
      let layed : sh (section_text s) ∷ sh (codes "vector") ∷ sh (codes "{")
      ∷ (header_shapes (codes "columns") cells ++ (flat_map (λ r. shapes (vrow_line r).pieces) rows ++ sh (codes "}") ∷ []))
      ≡ line_shapes (item_lines (item.Vector s cells rows)) = sym
      (table-shapes vrow_line (vector_head s) (codes "columns") cells rows) in
      shaped layed (in-section at s
      (λ x is. right (Items.word (codes "normal") ▷ λ _. Items.grid before (codes "columns") (item.Normal x.word))
      (right (Items.word (codes "inverted") ▷ λ _. Items.grid before (codes "terms") (item.Inverted x.word))
      (next {G = λ _. Unit {0}} (vector-mark x.place room) (λ _ _.
      skip-sign (codes "{") refl
      (λ _. and_then {G = λ es. map bare_expr es ≡ map bare_expr cells} (header-written (codes "columns") cells refl lawful)
      (λ es same.
      and_then {G = λ rs. map bare_vrow rs ≡ map bare_vrow rows} (vrows-written rows sized all) (λ rs same_rows.
      skip-sign (codes "}") refl (λ _. none (λ i. item.Vector (is i) (same i) (same_rows i)))))))))))

  moment-written : {at : ℕ} (m : NatWord) → Writes (token as_moment no_pass) at (sh (moment_text m) ∷ []) (λ x. x ≡ m)
  unfolding is_reserved_word reserved_words
  moment-written moment.First = mark (codes "first") token_kind.Word refl (λ place. (moment.First, refl, refl, refl))
  moment-written moment.Always = mark (codes "always") token_kind.Word refl (λ place. (moment.Always, refl, refl, refl))
  moment-written moment.Step = mark (codes "step") token_kind.Word refl (λ place. (moment.Step, refl, refl, refl))

  nat-mark : {at : ℕ} → is_full clauses before ≡ false
      → Writes (token (as_word (codes "nat")) (counted (is_full clauses before) limit.Nat)) at (sh (codes "nat") ∷ [])
      (λ _. Unit {0})
  unfolding is_reserved_word reserved_words
  nat-mark room = mark (codes "nat") token_kind.Word refl (λ p. (p, refl, rw room refl, tt))

  nat-written : {at : ℕ} (m : NatWord) (cond : Expr) → is_full clauses before ≡ false → is_expr cond ≡ true
      → Writes (Items.item_part before) at (line_shapes (item_lines (item.Nat m cond))) (SameItem (item.Nat m cond))
  unfolding is_reserved_word reserved_words
  nat-written m cond room lawful =
      let layed : sh (codes "nat") ∷ sh (moment_text m) ∷ (shapes (expr_pieces cond) ++ sh (codes ";") ∷ [])
      ≡ line_shapes (item_lines (item.Nat m cond)) = sym (one-line (nat_pieces m cond)) in
      shaped layed (as-clause (next {G = λ _. Unit {0}} (nat-mark room) (λ _ _. next {G = λ x. x ≡ m} (moment-written m) (λ x is.
      and_then {G = Same cond} (expr-written cond false refl lawful)
      (λ e same. skip-sign (codes ";") refl (λ _. none (λ i. item.Nat (is i) (same i))))))))

  -- a part of a block that may be absent
  listed-written : {at : ℕ} (text : List ℕ) (words : List Word) → kind_of text ≡ token_kind.Word → are_listed words ≡ true
      → Writes (Items.listed text) at (line_shapes (part_lines text words)) (λ ws. map bare_word ws ≡ map bare_word words)
  unfolding is_reserved_word reserved_words
  listed-written text [] is h =
      shaped (sym lines-none)
      (right (Items.word text ▷ λ _. Items.names 300 limit.List ▷ λ ws. Items.sign (codes ";") ▷ λ _. nothing ws) (none refl))
  listed-written text (w ∷ more) is h =
      let words : List Word = w ∷ more in
      let (few, all) = and_parts (nat_le (length words) 300) (list_all is_word words) h in
      let layed : sh text ∷ (shapes (names_pieces words) ++ sh (codes ";") ∷ [])
      ≡ line_shapes (part_lines text words) = simp layout in
      shaped layed (left (nothing []) (skip-word text is
      (λ _. and_then {G = λ ws. map bare_word ws ≡ map bare_word words}
      (names-written 300 limit.List words (and_from (nat_le 1 (length words)) (nat_le (length words) 300)
      (le-leb 1 (suc (length more)) (omega arith)) few) all) (λ ws same.
      skip-sign (codes ";") refl (λ _. none same)))))

  fact-written : (at n : ℕ) (f : FactItem) → no_more_facts before n ≡ false → is_fact f ≡ true
      → Writes (Items.fact_part before n) at (shapes (fact_line f).pieces) (λ m. bare_fact m ≡ bare_fact f)
  unfolding is_reserved_word reserved_words
  fact-written at n (fact.Shows name cond) room h =
      let (named, lawful) = and_parts (is_word name) (is_expr cond) h in
      let layed : sh (codes "shows") ∷ sh name.text ∷ sh (codes ":") ∷ (shapes (expr_pieces cond) ++ sh (codes ";") ∷ [])
      ≡ shapes (fact_line (fact.Shows name cond)).pieces = simp layout in
      shaped layed (left (Items.word (codes "goal") ▷ λ _. Items.fact_name before n ▷ λ w. Items.sign (codes ";") ▷ λ _. nothing
      (fact.Goal w)) (skip-word (codes "shows") refl (λ _.
      next {G = λ w. w.text ≡ name.text} (a-counted (no_more_facts before n) limit.Facts name.text room named) (λ w text.
      skip-sign (codes ":") refl (λ _. and_then {G = Same cond} (expr-written cond false refl lawful) (λ e same.
      skip-sign (codes ";") refl (λ _. none (λ i. fact.Shows (bare-text w name text i) (same i)))))))))
  fact-written at n (fact.Goal con) room h =
      right (Items.word (codes "shows") ▷ λ _. Items.fact_name before n ▷ λ w. Items.sign
      (codes ":") ▷ λ _. expression false ▷ λ cond. Items.sign (codes ";") ▷ λ _. nothing (fact.Shows w cond))
      (skip-word (codes "goal") refl
      (λ _. next {G = λ w. w.text ≡ con.text} (a-counted (no_more_facts before n) limit.Facts con.text room h) (λ w text.
      skip-sign (codes ";") refl (λ _. none (λ i. fact.Goal (bare-text w con text i))))))

  facts-written : {at : ℕ} (facts : List FactItem) → sum_by facts_of before + length facts ≤ 300 → nat_le 1 (length facts) ≡ true
      → list_all is_fact facts ≡ true
      → Writes (Items.several (Items.fact_part before)) at (flat_map (λ f. shapes (fact_line f).pieces) facts)
      (λ fs. map bare_fact fs ≡ map bare_fact facts)
  facts-written facts few some all =
      several-written (Items.fact_part before) (λ f. shapes (fact_line f).pieces) bare_fact facts some
      (λ k n front rest x is same. fact-written k n x
      (lt-leb 300 (sum_by facts_of before + n) (omega (arith, same, before-one facts front rest x is, few)))
      (one-of is_fact facts front rest x is all))

  block-written : {at : ℕ} (name : Word) (takes uses : List Word) (facts : List FactItem) → is_full blocks before ≡ false
      → sum_by facts_of before + length facts ≤ 300
      → is_word name ≡ true → are_listed takes ≡ true → are_listed uses ≡ true → nat_le 1 (length facts) ≡ true
      → list_all is_fact facts ≡ true
      → Writes (Items.item_part before) at (line_shapes (item_lines (item.Block name takes uses facts)))
      (SameItem (item.Block name takes uses facts))
  unfolding is_reserved_word reserved_words
  block-written name takes uses facts room few named taken used some all =
      let layed : sh (codes "block") ∷ sh name.text ∷ sh (codes "{") ∷ (line_shapes (part_lines (codes "takes") takes)
      ++ (line_shapes (part_lines (codes "uses") uses)
      ++ (flat_map (λ f. shapes (fact_line f).pieces) facts ++ sh (codes "}") ∷ [])))
      ≡ line_shapes (item_lines (item.Block name takes uses facts))
      = sym (block-shapes (Line.token (codes "block") ∷ Line.token name.text ∷ []) (part_lines (codes "takes") takes)
      (part_lines (codes "uses") uses) facts) in
      shaped layed (as-block (skip-word (codes "block") refl
      (λ _. next {G = λ w. w.text ≡ name.text} (a-counted (is_full blocks before) limit.Blocks name.text room named)
      (λ w text.
      skip-sign (codes "{") refl
      (λ _. and_then {G = λ ws. map bare_word ws ≡ map bare_word takes} (listed-written (codes "takes") takes refl taken)
      (λ ts same_takes.
      and_then {G = λ ws. map bare_word ws ≡ map bare_word uses} (listed-written (codes "uses") uses refl used) (λ us same_uses.
      and_then {G = λ fs. map bare_fact fs ≡ map bare_fact facts} (facts-written facts few some all) (λ fs same_facts.
      skip-sign (codes "}") refl
      (λ _. none (λ i. item.Block (bare-text w name text i) (same_takes i) (same_uses i) (same_facts i)))))))))))

  -- an item after these, where there is room for it and its facts
  pub item-written : {at : ℕ} (x : Item) → is_item x ≡ true → is_full (sort_of x) before ≡ false
      → sum_by facts_of before + facts_of x ≤ 300
      → Writes (Items.item_part before) at (line_shapes (item_lines x)) (SameItem x)
  item-written (item.Constant name sign value) h room few =
      let (named, small) = and_parts (is_word name) (is_number value.value) h in
      constant-written name sign value room named small
  item-written (item.RangeType name lo hi) h room few =
      let (named, low, high) = three-hold (is_word name) (is_bound lo) (is_bound hi) h in
      range_type-written name lo hi room named low high
  item-written (item.EnumType name members) h room few =
      let (named, sized, all) = three-hold (is_word name) (is_count 64 (length members)) (list_all is_word members) h in
      enum_type-written name members room named sized all
  item-written (item.Variable words name of init) h room few =
      let (named, lawful, begins) = three-hold (is_word name) (is_kind of) (is_init init) h in
      variable-written words name of init room named lawful begins
  item-written (item.Held side name cond hold) h room few =
      let (sided, named, lawful, held) = four-hold (is_side side) (is_word name) (is_expr cond) (is_hold hold) h in
      held-written side name cond hold room sided named lawful held
  item-written (item.Hyst side name term lo hi begins) h room few =
      let (sided, named, lawful, low, high) = five-hold (is_side side) (is_word name) (is_expr term) (is_bound lo) (is_bound hi) h in
      hyst-written side name term lo hi begins room sided named lawful low high
  item-written (item.Normal s target cells rows) h room few =
      let (named, lawful, sized, all) = four-hold (is_word target) (are_entries cells) (is_count 32 (length rows))
      (list_all is_row rows) h in
      normal-written s target cells rows room named lawful sized all
  item-written (item.Inverted s target cells rows) h room few =
      let (named, lawful, sized, all) = four-hold (is_word target) (are_entries cells) (is_count 32 (length rows))
      (list_all is_row rows) h in
      inverted-written s target cells rows room named lawful sized all
  item-written (item.Vector s cells rows) h room few =
      let (lawful, sized, all) = three-hold (are_entries cells) (is_count 32 (length rows)) (list_all is_vrow rows) h in
      vector-written s cells rows room lawful sized all
  item-written (item.Nat m cond) h room few = nat-written m cond room h
  item-written (item.Block name takes uses facts) h room few =
      let (named, taken, used, some, all) = five-hold (is_word name) (are_listed takes) (are_listed uses) (nat_le 1 (length facts))
      (list_all is_fact facts) h in
      block-written name takes uses facts room few named taken used some all
