-- Each piece of a tree's lines is the text of one token.
use Rattle.std.proofs.Common.{◌≡◌, ◌∙◌, sym, subst, refl, ℕ, List, [], ◌∷◌, ◌++◌, ◌&&◌, not, nat_le, Bool, true, false, codes, decimal}
use Rattle.std.proofs.Common.{length, map, Option, Some, None}
use Rattle.std.specs.List.{flat_map, list_all}
use Rattle.std.proofs.lemmas.Bool.{and_parts, and_from, true≢false}
use Rattle.std.proofs.lemmas.List.Concat.{flat_map-cons}
use Rattle.std.proofs.lemmas.List.Folds.{list_all-append}
use Rattle.ft_lex.specs.meaning.Signs.{signs}
use Rattle.ft_tree.specs.declared.expr.Expr.{Expr}
use Rattle.ft_tree.specs.declared.item.Word.{Word}
use Rattle.ft_tree.specs.declared.item.Number.{Number}
use Rattle.ft_tree.specs.declared.item.Plain.{Plain}
use Rattle.ft_tree.specs.declared.item.Plain.TheVariants as plain
use Rattle.ft_tree.specs.declared.item.Bound.{Bound}
use Rattle.ft_tree.specs.declared.item.Kind.{Kind}
use Rattle.ft_tree.specs.declared.item.Kind.TheVariants as kind
use Rattle.ft_tree.specs.declared.item.VarWord.{VarWord}
use Rattle.ft_tree.specs.declared.item.VarWord.TheVariants.{Mon, Con, Input, Output, ReqVar, SofVar}
use Rattle.ft_tree.specs.declared.item.SectionWord.{SectionWord}
use Rattle.ft_tree.specs.declared.item.SectionWord.TheVariants.{In, Req, Sof, Out}
use Rattle.ft_tree.specs.declared.item.NatWord.{NatWord}
use Rattle.ft_tree.specs.declared.item.NatWord.TheVariants.{First, Always, Step}
use Rattle.ft_tree.specs.declared.item.Row.{Row}
use Rattle.ft_tree.specs.declared.item.VRow.{VRow}
use Rattle.ft_tree.specs.declared.item.FactItem.{FactItem}
use Rattle.ft_tree.specs.declared.item.FactItem.TheVariants.{Shows, Goal}
use Rattle.ft_tree.specs.declared.item.Item.{Item}
use Rattle.ft_tree.specs.declared.item.Item.TheVariants.{Constant, RangeType, EnumType, Variable, Held, Hyst, Normal, Inverted, Vector}
use Rattle.ft_tree.specs.declared.item.Item.TheVariants.{Nat, Block}
use Rattle.ft_tree.specs.meaning.Expression.{expr_pieces, truth_word}
use Rattle.ft_base.specs.Names.{is_name}
use Rattle.ft_tree.specs.meaning.Limits.{IsSet, are_entries, are_listed, is_bound, is_count, is_expr, is_fact, is_hold, is_init}
use Rattle.ft_tree.specs.meaning.Limits.{is_init_value, is_item, is_kind, is_lawful, is_number, is_option, is_plain, is_row, is_side}
use Rattle.ft_tree.specs.meaning.Limits.{is_vrow, is_word, nested}
use Rattle.ft_tree.specs.meaning.Line.{Line, Piece, outer, token}
use Rattle.ft_tree.specs.meaning.Lines.{band_pieces, block_lines, body_lines, bound_pieces, brace_line, constant_pieces, terminated}
use Rattle.ft_tree.specs.meaning.Lines.{enum_type_pieces, exprs_line, exprs_pieces, fact_line, head_line, held_pieces, hyst_pieces}
use Rattle.ft_tree.specs.meaning.Lines.{item_lines, kind_pieces, memory_head, moment_text, names_pieces, nat_pieces, one_line}
use Rattle.ft_tree.specs.meaning.Lines.{option_lines, part_lines, period_pieces, plain_text, range_pieces, range_type_pieces, row_line}
use Rattle.ft_tree.specs.meaning.Lines.{section_text, set_lines, set_pieces, sign_pieces, table_head, table_lines, var_pieces}
use Rattle.ft_tree.specs.meaning.Lines.{variable_pieces, vector_head, vrow_line, word_pieces}
use Rattle.ft_tree.proofs.LineLemmas.{is_sound_line}
use Rattle.ft_tree.proofs.PieceLemmas.{is_token}
use Rattle.ft_tree.proofs.SoundLemmas.{AreSound, expr-sound, listed-sound, more-pieces, more-minus, more-token, one-token, name-token}
use Rattle.ft_tree.proofs.SoundLemmas.{no-pieces, number-token, truth-token}
use Rattle.ft_tree.specs.laws.Chains.{three-hold, four-hold, five-hold}

pub record AreSoundLines (lines : List Line) : Type 0 where
  pub all : list_all is_sound_line lines ≡ true

no-lines : AreSoundLines []
no-lines = record { all = refl }

more-line : (line : Line) (lines : List Line) → AreSound line.pieces → AreSoundLines lines → AreSoundLines (line ∷ lines)
more-line line lines h later = record { all = and_from (is_sound_line line) _ h.all later.all }

more-lines : (lines more : List Line) → AreSoundLines lines → AreSoundLines more → AreSoundLines (lines ++ more)
more-lines lines more h later = record { all = list_all-append is_sound_line lines more ∙ and_from _ _ h.all later.all }

-- a line for each element, and lines for each
map-lines : {X : Type 0} (line : X → Line) (test : X → Bool) → ((x : X) → test x ≡ true → AreSound (line x).pieces)
    → (xs : List X) → list_all test xs ≡ true → AreSoundLines (map line xs)
map-lines line test each [] h = no-lines
map-lines line test each (x ∷ xs) h =
    let (first, later) = and_parts (test x) (list_all test xs) h in
    more-line (line x) _ (each x first) (map-lines line test each xs later)

flat-lines : {X : Type 0} (lines : X → List Line) (test : X → Bool) → ((x : X) → test x ≡ true → AreSoundLines (lines x))
    → (xs : List X) → list_all test xs ≡ true → AreSoundLines (flat_map lines xs)
flat-lines lines test each [] h = no-lines
flat-lines lines test each (x ∷ xs) h =
    let (first, later) = and_parts (test x) (list_all test xs) h in
    subst AreSoundLines (sym (flat_map-cons lines x xs))
    (more-lines (lines x) _ (each x first) (flat-lines lines test each xs later))

-- a name, and a number
more-name : (name : List ℕ) (pieces : List Piece) → is_name name ≡ true → AreSound pieces → AreSound (token name ∷ pieces)
more-name name pieces h later = more-token name pieces (name-token name h) later

more-number : (value : ℕ) (pieces : List Piece) → is_number value ≡ true → AreSound pieces
    → AreSound (token (decimal value) ∷ pieces)
more-number value pieces h later = more-token (decimal value) pieces (number-token value h) later

word-sound : (word : Word) → is_word word ≡ true → AreSound (word_pieces word)
word-sound word h = one-token word.text (name-token word.text h)

names-sound : (words : List Word) → list_all is_word words ≡ true → AreSound (names_pieces words)
names-sound words h = listed-sound word_pieces is_word word-sound words h

lawful-sound : (expr : Expr) → is_expr expr ≡ true → AreSound (expr_pieces expr)
lawful-sound expr h =
    let (short, _) = and_parts (is_lawful expr && nat_le (length (expr_pieces expr)) 1000) (nat_le (nested expr).depth 64) h in
    let (lawful, _) = and_parts (is_lawful expr) (nat_le (length (expr_pieces expr)) 1000) short in
    expr-sound expr lawful

entries-sound : (exprs : List Expr) → are_entries exprs ≡ true → AreSound (exprs_pieces exprs)
entries-sound exprs h =
    let (_, all) = and_parts (is_count 32 (length exprs)) (list_all is_expr exprs) h in
    listed-sound expr_pieces is_expr lawful-sound exprs all

sign-sound : (sign : Bool) → AreSound (sign_pieces sign)
sign-sound true = more-minus [] no-pieces
sign-sound false = no-pieces

plain-token : (sign : Bool) (value : Plain) → is_init_value sign value ≡ true → is_token (plain_text value) ≡ true
plain-token sign (plain.Number value) h = number-token value h
plain-token sign (plain.Name name) h = name-token name h
plain-token sign (plain.Truth value) h = truth-token value

plain-init : (sign : Bool) (value : Plain) → is_plain value ≡ true → is_init_value sign value ≡ true
plain-init sign (plain.Number value) h = h
plain-init sign (plain.Name name) h = h
plain-init sign (plain.Truth value) h = absurd (true≢false (sym h))

init-sound : (bound : Bound) → is_init bound ≡ true → AreSound (bound_pieces bound)
init-sound bound h =
    more-pieces (sign_pieces bound.minus) _ (sign-sound bound.minus)
    (one-token (plain_text bound.value) (plain-token bound.minus bound.value h))

bound-sound : (bound : Bound) → is_bound bound ≡ true → AreSound (bound_pieces bound)
bound-sound bound h = init-sound bound (plain-init bound.minus bound.value h)

range-sound : (lo hi : Bound) → is_bound lo ≡ true → is_bound hi ≡ true → AreSound (range_pieces lo hi)
unfolding is_token signs
range-sound lo hi h k = more-pieces (bound_pieces lo) _ (bound-sound lo h) (more-token (codes "..") _ refl (bound-sound hi k))

kind-sound : (of : Kind) → is_kind of ≡ true → AreSound (kind_pieces of)
unfolding is_token
kind-sound (kind.Range lo hi) h = let (low, high) = and_parts (is_bound lo) (is_bound hi) h in range-sound lo hi low high
kind-sound (kind.Named word) h = word-sound word h
kind-sound kind.Bool h = one-token (codes "bool") refl

var-sound : (word : VarWord) → AreSound (var_pieces word)
unfolding is_token
var-sound Mon = one-token (codes "mon") refl
var-sound Con = one-token (codes "con") refl
var-sound Input = one-token (codes "input") refl
var-sound Output = one-token (codes "output") refl
var-sound ReqVar = more-token (codes "req") _ refl (one-token (codes "var") refl)
var-sound SofVar = more-token (codes "sof") _ refl (one-token (codes "var") refl)

section-token : (section : SectionWord) → is_token (section_text section) ≡ true
unfolding is_token
section-token In = refl
section-token Req = refl
section-token Sof = refl
section-token Out = refl

moment-token : (moment : NatWord) → is_token (moment_text moment) ≡ true
unfolding is_token
moment-token First = refl
moment-token Always = refl
moment-token Step = refl

terminated-sound : (pieces : List Piece) → AreSound pieces → AreSound (terminated pieces)
unfolding is_token signs
terminated-sound pieces h = more-pieces pieces _ h (one-token (codes ";") refl)

one-sound : (pieces : List Piece) → AreSound pieces → AreSoundLines (one_line pieces)
one-sound pieces h = more-line (outer (terminated pieces)) [] (terminated-sound pieces h) no-lines

constant-sound : (name : Word) (sign : Bool) (value : Number) → is_word name ≡ true → is_number value.value ≡ true
    → AreSound (constant_pieces name sign value)
unfolding is_token signs
constant-sound name sign value h k =
    more-token (codes "const") _ refl (more-name name.text _ h (more-token (codes "=") _ refl
    (more-pieces (sign_pieces sign) _ (sign-sound sign) (one-token _ (number-token value.value k)))))

range_type-sound : (name : Word) (lo hi : Bound) → is_word name ≡ true → is_bound lo ≡ true → is_bound hi ≡ true
    → AreSound (range_type_pieces name lo hi)
unfolding is_token signs
range_type-sound name lo hi h low high =
    more-token (codes "type") _ refl (more-name name.text _ h (more-token (codes "=") _ refl (range-sound lo hi low high)))

enum_type-sound : (name : Word) (members : List Word) → is_word name ≡ true → list_all is_word members ≡ true
    → AreSound (enum_type_pieces name members)
unfolding is_token signs
enum_type-sound name members h k =
    more-token (codes "type") _ refl (more-name name.text _ h (more-token (codes "=") _ refl (more-token (codes "{") _ refl
    (more-pieces (names_pieces members) _ (names-sound members k) (one-token (codes "}") refl)))))

variable-sound : (word : VarWord) (name : Word) (of : Kind) (init : Bound) → is_word name ≡ true → is_kind of ≡ true
    → is_init init ≡ true → AreSound (variable_pieces word name of init)
unfolding is_token signs
variable-sound word name of init h k j =
    more-pieces (var_pieces word) _ (var-sound word) (more-name name.text _ h (more-token (codes ":") _ refl
    (more-pieces (kind_pieces of) _ (kind-sound of k) (more-token (codes "init") _ refl (init-sound init j)))))

memory-sound : (side : SectionWord) (word : List ℕ) (name : Word) → is_token word ≡ true → is_word name ≡ true
    → AreSound (memory_head side word name)
unfolding is_token signs
memory-sound side word name h k =
    more-token (section_text side) _ (section-token side)
    (more-token word _ h (more-name name.text _ k (one-token (codes "(") refl)))

held-sound : (side : SectionWord) (name : Word) (cond : Expr) (hold : Bound) → is_word name ≡ true → is_expr cond ≡ true
    → is_bound hold ≡ true → AreSound (held_pieces side name cond hold)
unfolding is_token signs
held-sound side name cond hold h k j =
    more-pieces (memory_head side (codes "held") name) _ (memory-sound side (codes "held") name refl h)
    (more-pieces (expr_pieces cond) _ (lawful-sound cond k) (more-token (codes ",") _ refl
    (more-pieces (bound_pieces hold) _ (bound-sound hold j) (more-token (codes "ms") _ refl (one-token (codes ")") refl)))))

band-sound : (lo hi : Bound) (start : Bool) → is_bound lo ≡ true → is_bound hi ≡ true → AreSound (band_pieces lo hi start)
unfolding is_token signs
band-sound lo hi start h k =
    more-pieces (bound_pieces lo) _ (bound-sound lo h) (more-token (codes ",") _ refl
    (more-pieces (bound_pieces hi) _ (bound-sound hi k) (more-token (codes ",") _ refl
    (more-token (truth_word start) _ (truth-token start) (one-token (codes ")") refl)))))

hyst-sound : (side : SectionWord) (name : Word) (term : Expr) (lo hi : Bound) (start : Bool) → is_word name ≡ true
    → is_expr term ≡ true → is_bound lo ≡ true → is_bound hi ≡ true → AreSound (hyst_pieces side name term lo hi start)
unfolding is_token signs
hyst-sound side name term lo hi start h k low high =
    more-pieces (memory_head side (codes "hyst") name) _ (memory-sound side (codes "hyst") name refl h)
    (more-pieces (expr_pieces term) _ (lawful-sound term k) (more-token (codes ",") _ refl (band-sound lo hi start low high)))

nat-sound : (moment : NatWord) (cond : Expr) → is_expr cond ≡ true → AreSound (nat_pieces moment cond)
unfolding is_token
nat-sound moment cond h =
    more-token (codes "nat") _ refl (more-token (moment_text moment) _ (moment-token moment) (lawful-sound cond h))

-- the inner lines of tables and blocks
exprs_line-sound : (word : List ℕ) (exprs : List Expr) → is_token word ≡ true → are_entries exprs ≡ true
    → AreSound (exprs_line word exprs).pieces
exprs_line-sound word exprs h k = more-token word _ h (terminated-sound (exprs_pieces exprs) (entries-sound exprs k))

row-sound : (row : Row) → is_row row ≡ true → AreSound (row_line row).pieces
unfolding is_token signs
row-sound row h =
    let (head, entries) = and_parts (is_expr row.head) (are_entries row.entries) h in
    more-token (codes "row") _ refl (more-pieces (expr_pieces row.head) _ (lawful-sound row.head head)
    (more-token (codes ":") _ refl (terminated-sound (exprs_pieces row.entries) (entries-sound row.entries entries))))

vrow-sound : (row : VRow) → is_vrow row ≡ true → AreSound (vrow_line row).pieces
unfolding is_token signs
vrow-sound row h =
    let (target, entries) = and_parts (is_word row.target) (are_entries row.entries) h in
    more-token (codes "row") _ refl (more-name row.target.text _ target
    (more-token (codes ":") _ refl (terminated-sound (exprs_pieces row.entries) (entries-sound row.entries entries))))

fact-sound : (fact : FactItem) → is_fact fact ≡ true → AreSound (fact_line fact).pieces
unfolding is_token signs
fact-sound (Shows name cond) h =
    let (named, lawful) = and_parts (is_word name) (is_expr cond) h in
    let ends = terminated-sound (expr_pieces cond) (lawful-sound cond lawful) in
    more-token (codes "shows") _ refl (more-name name.text _ named (more-token (codes ":") _ refl ends))
fact-sound (Goal con) h = more-token (codes "goal") _ refl (terminated-sound (word_pieces con) (word-sound con h))

part-sound : (word : List ℕ) (names : List Word) → is_token word ≡ true → are_listed names ≡ true
    → AreSoundLines (part_lines word names)
part-sound word [] h k = no-lines
part-sound word (first ∷ more) h k =
    let (_, all) = and_parts (nat_le (length (first ∷ more)) 300) (list_all is_word (first ∷ more)) k in
    more-line _ [] (more-token word _ h (terminated-sound (names_pieces (first ∷ more)) (names-sound (first ∷ more) all))) no-lines

body-sound : (head : List Piece) (lines : List Line) → AreSound head → AreSoundLines lines → AreSoundLines (body_lines head lines)
unfolding is_token signs
body-sound head lines h k =
    more-line (head_line head) _ (more-pieces head _ h (one-token (codes "{") refl))
    (more-lines lines _ k (more-line brace_line [] (one-token (codes "}") refl) no-lines))

table-sound : {X : Type 0} (line : X → Line) (test : X → Bool) → ((x : X) → test x ≡ true → AreSound (line x).pieces)
    → (head : List Piece) (word : List ℕ) (header : List Expr) (rows : List X) → AreSound head → is_token word ≡ true
    → are_entries header ≡ true → list_all test rows ≡ true → AreSoundLines (table_lines line head word header rows)
table-sound line test each head word header rows h k entries all =
    let first = exprs_line-sound word header k entries in
    body-sound head _ h (more-line (exprs_line word header) _ first (map-lines line test each rows all))

head-sound : (section : SectionWord) (word : List ℕ) (target : Word) → is_token word ≡ true → is_word target ≡ true
    → AreSound (table_head section word target)
head-sound section word target h k =
    more-token (section_text section) _ (section-token section) (more-token word _ h (word-sound target k))

vector-sound : (section : SectionWord) → AreSound (vector_head section)
unfolding is_token
vector-sound section = more-token (section_text section) _ (section-token section) (one-token (codes "vector") refl)

block-sound : (name : Word) (takes uses : List Word) (facts : List FactItem) → is_word name ≡ true → are_listed takes ≡ true
    → are_listed uses ≡ true → list_all is_fact facts ≡ true → AreSoundLines (block_lines name takes uses facts)
unfolding is_token
block-sound name takes uses facts h k j all =
    body-sound _ _ (more-token (codes "block") _ refl (word-sound name h))
    (more-lines (part_lines (codes "takes") takes) _ (part-sound (codes "takes") takes refl k)
    (more-lines (part_lines (codes "uses") uses) _ (part-sound (codes "uses") uses refl j)
    (map-lines fact_line is_fact fact-sound facts all)))

item-sound : (item : Item) → is_item item ≡ true → AreSoundLines (item_lines item)
unfolding is_token signs
item-sound (Constant name sign value) h =
    let (named, number) = and_parts (is_word name) (is_number value.value) h in
    one-sound _ (constant-sound name sign value named number)
item-sound (RangeType name lo hi) h =
    let (named, low, high) = three-hold (is_word name) (is_bound lo) (is_bound hi) h in
    one-sound _ (range_type-sound name lo hi named low high)
item-sound (EnumType name members) h =
    let (named, _, all) = three-hold (is_word name) (is_count 64 (length members)) (list_all is_word members) h in
    one-sound _ (enum_type-sound name members named all)
item-sound (Variable word name of init) h =
    let (named, lawful, begins) = three-hold (is_word name) (is_kind of) (is_init init) h in
    one-sound _ (variable-sound word name of init named lawful begins)
item-sound (Held side name cond hold) h =
    let (_, named, lawful, held) = four-hold (is_side side) (is_word name) (is_expr cond) (is_hold hold) h in
    let (bound, _) = and_parts (is_bound hold) (not hold.minus) held in
    one-sound _ (held-sound side name cond hold named lawful bound)
item-sound (Hyst side name term lo hi start) h =
    let (_, named, lawful, low, high) = five-hold (is_side side) (is_word name) (is_expr term) (is_bound lo) (is_bound hi) h in
    one-sound _ (hyst-sound side name term lo hi start named lawful low high)
item-sound (Normal section target columns rows) h =
    let (named, header, _, all) =
    four-hold (is_word target) (are_entries columns) (is_count 32 (length rows)) (list_all is_row rows) h in
    let head = head-sound section (codes "normal") target refl named in
    table-sound row_line is_row row-sound _ (codes "columns") columns rows head refl header all
item-sound (Inverted section target terms rows) h =
    let (named, header, _, all) =
    four-hold (is_word target) (are_entries terms) (is_count 32 (length rows)) (list_all is_row rows) h in
    let head = head-sound section (codes "inverted") target refl named in
    table-sound row_line is_row row-sound _ (codes "terms") terms rows head refl header all
item-sound (Vector section columns rows) h =
    let (header, _, all) = three-hold (are_entries columns) (is_count 32 (length rows)) (list_all is_vrow rows) h in
    table-sound vrow_line is_vrow vrow-sound _ (codes "columns") columns rows (vector-sound section) refl header all
item-sound (Nat moment cond) h = one-sound _ (nat-sound moment cond h)
item-sound (Block name takes uses facts) h =
    let (named, taken, used, _, all) =
    five-hold (is_word name) (are_listed takes) (are_listed uses) (nat_le 1 (length facts)) (list_all is_fact facts) h in
    block-sound name takes uses facts named taken used all

option-sound : (word : List ℕ) (number : Option Number) → is_token word ≡ true → is_option number ≡ true
    → AreSoundLines (option_lines word number)
option-sound word None h k = no-lines
option-sound word (Some number) h k = one-sound _ (more-token word _ h (one-token _ (number-token number.value k)))

-- the lines of a lawful set
pub set-sound : (name : List ℕ) (period : Number) (splits depth : Option Number) (items : List Item)
    → IsSet name period splits depth items → AreSoundLines (set_lines name period splits depth items)
unfolding is_token
set-sound name period splits depth items h =
    let (counted, split, deep) = three-hold (is_number period.value) (is_option splits) (is_option depth) h.numbers in
    more-lines (one_line (set_pieces name)) _
    (one-sound _ (more-token (codes "set") _ refl (one-token name (name-token name h.named))))
    (more-lines (one_line (period_pieces period)) _
    (one-sound _ (more-token (codes "period") _ refl (more-number period.value _ counted (one-token (codes "ms") refl))))
    (more-lines (option_lines (codes "splits") splits) _ (option-sound (codes "splits") splits refl split)
    (more-lines (option_lines (codes "depth") depth) _ (option-sound (codes "depth") depth refl deep)
    (flat-lines item_lines is_item item-sound items h.parts))))
