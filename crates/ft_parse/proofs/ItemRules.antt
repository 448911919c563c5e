-- Each part of the grammar of sets and items with the parser that reads it.
use Rattle.std.proofs.Common.{◌≡◌, ◌∙◌, ◌⊎◌, inl, inr, ℕ, zero, suc, ◌+◌, Bool, true, false, ◌||◌, List, [], ◌∷◌, ◌++◌, codes, length}
use Rattle.std.proofs.Common.{nat_le, Option, Some, None, refl, sym, ap}
use Rattle.std.proofs.lemmas.Bool.{or_cases}
use Rattle.ft_lex.specs.declared.token.TokenKind.TheVariants as token_kind
use Rattle.ft_base.specs.declared.place.Place.{Place}
use Rattle.ft_tree.specs.declared.expr.Expr.{Expr}
use Rattle.ft_tree.specs.declared.item.Word.{Word}
use Rattle.ft_tree.specs.declared.item.Number.{Number}
use Rattle.ft_tree.specs.declared.item.Plain.TheVariants as plain
use Rattle.ft_tree.specs.declared.item.Bound.{Bound}
use Rattle.ft_tree.specs.declared.item.Kind.TheVariants as kind
use Rattle.ft_tree.specs.declared.item.VarWord.{VarWord}
use Rattle.ft_tree.specs.declared.item.VarWord.TheVariants as var
use Rattle.ft_tree.specs.declared.item.SectionWord.{SectionWord}
use Rattle.ft_tree.specs.declared.item.SectionWord.TheVariants as section
use Rattle.ft_tree.specs.declared.item.NatWord.TheVariants as moment
use Rattle.ft_tree.specs.declared.item.Row.{Row}
use Rattle.ft_tree.specs.declared.item.FactItem.TheVariants as fact
use Rattle.ft_tree.specs.declared.item.Item.{Item}
use Rattle.ft_tree.specs.declared.item.Item.TheVariants as item
use Rattle.ft_tree.specs.meaning.Limits.{Sort, tables}
use Rattle.ft_read.specs.meaning.Lexeme.{Lexeme, as_end, as_name, as_number, as_sign, as_word, or_else}
use Rattle.ft_parse.specs.meaning.Language.{Language, Step, alternative, nothing, repeated, times, token, ◌▷◌}
use Rattle.ft_read.specs.meaning.Limit.{Passes, no_pass, lexical_passes, counted, counted_at}
use Rattle.ft_parse.specs.meaning.Room.{is_full}
use Rattle.ft_parse.specs.meaning.Expressions.{expression}
use Rattle.ft_read.specs.meaning.Choices.{as_map, as_moment, as_plain, as_side, as_start, as_truth, as_var_word}
use Rattle.ft_parse.specs.meaning.Items.{block, bound, clause, constant, declared, entries, fact_name, fact_part, grid, header, held, hyst}
use Rattle.ft_parse.specs.meaning.Items.{inner_variable, item_part, kind_of_name, kind_part, listed, members, minus_bound, more_entries}
use Rattle.ft_parse.specs.meaning.Items.{more_items, more_names, name, names, number, number_bound, plain_bound, range_after, range_type}
use Rattle.ft_parse.specs.meaning.Items.{row, row_word, set, setting, several, sided, sign, signed_number, table, type_item, upper, value}
use Rattle.ft_parse.specs.meaning.Items.{variable, vector_grid, vrow, word}
use Rattle.ft_read.specs.parsers.Combinators.{Parser, can, alternative_by, give, is_some, read_token, ◌▶◌}
use Rattle.ft_parse.specs.parsers.Repetition.{many}
use Rattle.ft_parse.specs.parsers.Expressions.{expression_by}
use Rattle.ft_parse.specs.parsers.Items.{as_fact_word, block_by, clause_by, constant_by, declared_by, entries_by, fact_name_by}
use Rattle.ft_parse.specs.parsers.Items.{fact_part_by, grid_by, header_by, held_by, hyst_by, is_item_start, item_part_by, listed_by}
use Rattle.ft_parse.specs.parsers.Items.{members_by, more_entries_by, more_items_by, more_names_by, names_by, range_type_by, row_by}
use Rattle.ft_parse.specs.parsers.Items.{row_word_by, set_by, setting_by, several_by, sided_by, signed_number_by, table_by, type_item_by}
use Rattle.ft_parse.specs.parsers.Items.{variable_by, vector_grid_by, vrow_by}
use Rattle.ft_read.specs.parsers.Parts.{bound_by, kind_of_name_by, kind_part_by, minus_bound_by, name_by, number_by, number_bound_by}
use Rattle.ft_read.specs.parsers.Parts.{plain_bound_by, range_after_by, sign_by, upper_by, value_by, word_by}
use Rattle.ft_parse.specs.declared.parts.Parts.{Parts}
use Rattle.ft_read.specs.declared.parts.SectionAt.{SectionAt}
use Rattle.ft_read.specs.declared.stop.LimitWord.{LimitWord}
use Rattle.ft_read.specs.declared.stop.LimitWord.TheVariants as limit
use Rattle.ft_parse.proofs.ExpressionRules.{apart-first, choose, heads-first, heads-one, heads-two, here, itself, or_forms, rule-done}
use Rattle.ft_parse.proofs.ExpressionRules.{rule-map, some_name_token, some_number_token, some_sign, some_word, under-left, under-right}
use Rattle.ft_parse.proofs.ExpressionRules.{under-same}
use Rattle.ft_parse.proofs.Forms as forms
use Rattle.ft_parse.proofs.Forms.{Form, Looks, all_differ, any, apart, looks-end, looks-map, looks-name, looks-number, looks-or}
use Rattle.ft_parse.proofs.Forms.{looks-sign, looks-word, some_end, some_name, some_number, under-both}
use Rattle.ft_parse.proofs.Many.{Heads}
use Rattle.ft_parse.proofs.NestedRules.{rule-expression}
use Rattle.ft_parse.proofs.Rule.{Rule, before, heads-alternative, heads-then, heads-token, heads-weaker, next, rule-alternative, rule-give}
use Rattle.ft_parse.proofs.Rule.{rule-many, rule-token, rule-weaker}
use Rattle.ft_parse.proofs.Whole.{Apart, Under, calms-by-heads, calms-many, calms-nothing, never}

-- a part that may go on, and then a token with which it doesn't
until : {A B C : Type 0} {L : Language A} {p : Parser A} {q : A → Parser C} {after : Lexeme → Bool} (xs ys : List Form)
    (read : Lexeme → Option B) (passes : Passes) (K : A → B → Language C)
    → Looks read ys → all_differ ys xs ≡ true → Rule L p (any xs) → ((a : A) → Rule (token read passes ▷ K a) (q a) after)
    → Rule (L ▷ λ a. token read passes ▷ K a) (p ▶ q) after
until {A} {B} {C} {L} {p} {q} {after} xs ys read passes K looks differ r t =
    before (λ a. calms-by-heads (token read passes ▷ K a) (any ys) (any xs) after (heads-first read passes (K a) ys looks)
    (apart ys xs differ)) r t

rule-word : (w : List ℕ) → Rule (word w) (word_by w) never
unfolding word_by
rule-word w = rule-token (as_word w) no_pass (some_word w) here (itself w)

same-sign : (w : List ℕ) → as_sign w (some_sign w) ≡ Some here
same-sign w = rw (forms.itself-bytes w) refl

rule-sign : (w : List ℕ) → Rule (sign w) (sign_by w) never
unfolding sign_by
rule-sign w = rule-token (as_sign w) no_pass (some_sign w) here (same-sign w)

rule-number : Rule number number_by never
unfolding number_by
rule-number = rule-token as_number lexical_passes some_number_token _ refl

rule-name : Rule name name_by never
unfolding name_by
rule-name = rule-token as_name lexical_passes some_name_token _ refl

rule-declared : (sort : Sort) (which : LimitWord) (items : List Item) → Rule (declared sort which items) (declared_by sort which items)
    never
unfolding declared_by
rule-declared sort which items = rule-token as_name _ some_name_token _ refl

pub looks-plain : Looks as_plain (some_number ∷ some_name ∷ [])
looks-plain = looks-or (looks-map (λ n. record { minus = false; value = plain.Number n.value; place = n.place }) looks-number)
    (looks-map (λ w. record { minus = false; value = plain.Name w.text; place = w.place }) looks-name)

rule-plain : Rule plain_bound plain_bound_by never
unfolding plain_bound_by
rule-plain = rule-token as_plain lexical_passes some_number_token _ refl

rule-minus : Rule minus_bound minus_bound_by never
unfolding minus_bound_by
rule-minus = next (rule-sign (codes "-")) (λ place. rule-map plain_bound plain_bound_by
    (λ b. record { minus = true; value = b.value; place = place }) never rule-plain)

heads-minus : Heads minus_bound (any (forms.sign (codes "-") ∷ []))
heads-minus = heads-first (as_sign (codes "-")) no_pass _ (forms.sign (codes "-") ∷ []) (looks-sign (codes "-"))

from-sign : {A : Type 0} (w : List ℕ) (M : Place → Language A) → Heads (sign w ▷ M) (can (as_sign w))
from-sign w M = heads-then (token (as_sign w) no_pass) M (can (as_sign w)) (heads-token (as_sign w) no_pass)

from-word : {A : Type 0} (w : List ℕ) (M : Place → Language A) → Heads (word w ▷ M) (can (as_word w))
from-word w M = heads-then (token (as_word w) no_pass) M (can (as_word w)) (heads-token (as_word w) no_pass)

heads-plain : Heads plain_bound (any (some_number ∷ some_name ∷ []))
heads-plain = heads-one as_plain lexical_passes (some_number ∷ some_name ∷ []) looks-plain

rule-bound : Rule bound bound_by never
unfolding bound_by
rule-bound =
    choose minus_bound plain_bound (as_sign (codes "-")) _ _ never (forms.sign (codes "-") ∷ []) (some_number ∷ some_name ∷ [])
    (looks-sign (codes "-")) (from-sign (codes "-") _) heads-plain refl
    rule-minus rule-plain

abbrev bound_forms : List Form
bound_forms = forms.sign (codes "-") ∷ some_number ∷ some_name ∷ []

heads-bound : Heads bound (any bound_forms)
heads-bound = heads-two minus_bound plain_bound (forms.sign (codes "-") ∷ []) (some_number ∷ some_name ∷ []) heads-minus heads-plain

pub looks-truth : Looks as_truth (forms.word (codes "true") ∷ forms.word (codes "false") ∷ [])
looks-truth = looks-or (looks-map (λ place. record { minus = false; value = plain.Truth true; place = place }) (looks-word (codes "true")))
    (looks-map (λ place. record { minus = false; value = plain.Truth false; place = place }) (looks-word (codes "false")))

rule-value : Rule value value_by never
unfolding value_by
rule-value =
    choose (token as_truth no_pass) bound as_truth _ _ never (forms.word (codes "true") ∷ forms.word (codes "false") ∷ []) bound_forms
    looks-truth (heads-token as_truth no_pass) heads-bound refl
    (rule-token as_truth no_pass (some_word (codes "true")) _ refl) rule-bound

rule-upper : Rule upper upper_by never
unfolding upper_by
rule-upper = next (rule-sign (codes "..")) (λ _. rule-bound)

abbrev dots : List Form
dots = forms.sign (codes "..") ∷ []

rule-kind-of-name : (w : Word) → Rule (kind_of_name w) (kind_of_name_by w) (any dots)
unfolding kind_of_name_by
rule-kind-of-name w =
    rule-alternative (upper ▷ λ hi. nothing (kind.Range (record { minus = false; value = plain.Name w.text; place = w.place }) hi))
    (nothing (kind.Named w)) (can (as_sign (codes "..")))
    _ _ (any dots) (heads-then upper _ (can (as_sign (codes ".."))) (from-sign (codes "..") _))
    (calms-nothing (kind.Named w) (can (as_sign (codes ".."))) (any dots) (looks-sign (codes "..")).under)
    (rule-weaker _ _ never (any dots) (λ l e. cc e) (rule-map upper upper_by
    (λ hi. kind.Range (record { minus = false; value = plain.Name w.text; place = w.place }) hi) never rule-upper))
    (rule-done (kind.Named w) (any dots))

rule-number-bound : Rule number_bound number_bound_by never
unfolding number_bound_by
rule-number-bound = rule-map number number_by (λ n. record { minus = false; value = plain.Number n.value; place = n.place }) never
    rule-number

rule-range-after : (lo : Bound) → Rule (range_after lo) (range_after_by lo) never
unfolding range_after_by
rule-range-after lo = rule-map upper upper_by (λ hi. kind.Range lo hi) never rule-upper

heads-number-bound : Heads number_bound (any (some_number ∷ []))
heads-number-bound = heads-first as_number lexical_passes _ (some_number ∷ []) looks-number

abbrev number_forms : List Form
number_forms = forms.sign (codes "-") ∷ some_number ∷ []

heads-range : Heads (alternative minus_bound number_bound ▷ range_after) (any number_forms)
heads-range = heads-then (alternative minus_bound number_bound) range_after (any number_forms)
    (heads-two minus_bound number_bound (forms.sign (codes "-") ∷ []) (some_number ∷ []) heads-minus heads-number-bound)

heads-named : Heads (name ▷ kind_of_name) (any (some_name ∷ []))
heads-named = heads-first as_name lexical_passes kind_of_name (some_name ∷ []) looks-name

rule-kind-part : Rule kind_part kind_part_by (any dots)
unfolding kind_part_by
rule-kind-part =
    choose (word (codes "bool") ▷ λ _. nothing kind.Bool) (alternative (name ▷ kind_of_name)
    (alternative minus_bound number_bound ▷ range_after)) (as_word (codes "bool")) _ _ (any dots)
    (forms.word (codes "bool") ∷ []) (some_name ∷ number_forms) (looks-word (codes "bool")) (from-word (codes "bool") _)
    (heads-two (name ▷ kind_of_name) (alternative minus_bound number_bound ▷ range_after) (some_name ∷ []) number_forms heads-named
    heads-range) refl
    (next (rule-word (codes "bool")) (λ _. rule-done kind.Bool (any dots)))
    (choose (name ▷ kind_of_name) (alternative minus_bound number_bound ▷ range_after) as_name _ _ (any dots) (some_name ∷ []) number_forms
    looks-name
    (heads-then name kind_of_name (can as_name) (heads-token as_name lexical_passes)) heads-range refl
    (next rule-name rule-kind-of-name)
    (rule-weaker _ _ never (any dots) (λ l e. cc e)
    (next (choose minus_bound number_bound (as_sign (codes "-")) _ _ never (forms.sign (codes "-") ∷ []) (some_number ∷ [])
    (looks-sign (codes "-")) (from-sign (codes "-") _) heads-number-bound refl
    rule-minus rule-number-bound) rule-range-after)))

-- a part, and then others as long as a token of their own follows
module _ {A B C : Type 0} (L : Language A) (p : Parser A) (start : A → B) (part : B → Language B) (part_by : B → Parser B)
    (read : Lexeme → Option C) (leading inner : List Form)
    (looks : Looks read leading) (differ : all_differ leading inner ≡ true) (heads : (b : B) → Heads (part b) (can read))
    (rules : (b : B) → Rule (part b) (part_by b) (any inner)) where
  apart-read : Apart (can read) (any inner)
  apart-read = apart-first (can read) (any leading) (any inner) looks.under (apart leading inner differ)

  read-under : Under (can read) (any (leading ++ inner))
  read-under = under-both (can read) (any leading) (any (leading ++ inner)) looks.under (under-left leading inner)

  rule-list : Rule L p (any inner)
      → Rule (L ▷ λ a. repeated part (start a)) (p ▶ λ a. many (can read) part_by (start a)) (any (leading ++ inner))
  rule-list r =
      before (λ a. calms-many part (can read) part_by (any inner) (any (leading ++ inner)) (λ b s. (rules b).faithful s) heads apart-read
      (under-right leading inner) read-under (start a)) r
      (λ a. rule-many part (can read) part_by (any inner) (any (leading ++ inner)) heads apart-read (under-right leading inner) read-under
      rules (start a))

abbrev comma : List Form
comma = forms.sign (codes ",") ∷ []

abbrev entries_forms : List Form
entries_forms = comma ++ or_forms

rule-more-entries : (es : List Expr) → Rule (more_entries es) (more_entries_by es) (any or_forms)
unfolding more_entries_by
rule-more-entries es =
    next (rule-sign (codes ",")) (λ _. rule-map (expression (nat_le 32 (length es))) (expression_by (nat_le 32 (length es)))
    (λ e. es ++ e ∷ []) (any or_forms) (rule-expression (nat_le 32 (length es))))

rule-entries : Rule entries entries_by (any entries_forms)
unfolding entries_by
rule-entries =
    rule-list (expression false) (expression_by false) (λ e. e ∷ []) more_entries more_entries_by (as_sign (codes ",")) comma or_forms
    (looks-sign (codes ",")) refl
    (λ es. from-sign (codes ",") _) rule-more-entries (rule-expression false)

rule-more-names : (most : ℕ) (which : LimitWord) (ws : List Word) → Rule (more_names most which ws) (more_names_by most which ws) never
unfolding more_names_by
rule-more-names most which ws =
    next (rule-sign (codes ",")) (λ _. rule-map (token as_name (counted (nat_le most (length ws)) which))
    (read_token as_name (counted (nat_le most (length ws)) which)) (λ w. ws ++ w ∷ []) never
    (rule-token as_name _ some_name_token _ refl))

rule-names : (most : ℕ) (which : LimitWord) → Rule (names most which) (names_by most which) (any comma)
unfolding names_by
rule-names most which =
    rule-list name name_by (λ w. w ∷ []) (more_names most which) (more_names_by most which) (as_sign (codes ",")) comma []
    (looks-sign (codes ",")) refl
    (λ ws. from-sign (codes ",") _) (rule-more-names most which) rule-name

rule-several : {A C : Type 0} (part : ℕ → Language A) (part_by : ℕ → Parser A) (read : Lexeme → Option C) (leading : List Form)
    → Looks read leading → all_differ leading [] ≡ true
    → ((n : ℕ) → Heads (part n) (can read)) → ((n : ℕ) → Rule (part n) (part_by n) never)
    → Rule (several part) (several_by (can read) part_by) (any (leading ++ []))
unfolding several_by
rule-several part part_by read leading looks differ heads rules =
    rule-list (part 0) (part_by 0) (λ a. a ∷ []) (λ done. part (length done) ▷ λ b. nothing (done ++ b ∷ []))
    (λ done. part_by (length done) ▶ λ b. give (done ++ b ∷ [])) read leading [] looks differ
    (λ done. heads-then (part (length done)) _ (can read) (heads (length done)))
    (λ done. rule-map (part (length done)) (part_by (length done)) (λ b. done ++ b ∷ []) never (rules (length done))) (rules 0)

rule-row-word : (n : ℕ) → Rule (row_word n) (row_word_by n) never
unfolding row_word_by
rule-row-word n = rule-token (as_word (codes "row")) _ (some_word (codes "row")) here refl

-- entries and the `;` after them
rule-cells : {B : Type 0} (make : List Expr → B) → Rule (entries ▷ λ cells. sign (codes ";") ▷ λ _. nothing (make cells))
    (entries_by ▶ λ cells. sign_by (codes ";") ▶ λ _. give (make cells)) never
rule-cells make =
    until entries_forms (forms.sign (codes ";") ∷ []) (as_sign (codes ";")) no_pass _ (looks-sign (codes ";")) refl rule-entries
    (λ cells. next (rule-sign (codes ";")) (λ _. rule-give (make cells)))

rule-row : (n : ℕ) → Rule (row n) (row_by n) never
unfolding row_by
rule-row n =
    next (rule-row-word n) (λ place.
    until or_forms (forms.sign (codes ":") ∷ []) (as_sign (codes ":")) no_pass _ (looks-sign (codes ":")) refl (rule-expression false)
    (λ head.
    next (rule-sign (codes ":")) (λ _.
    rule-cells (λ cells. record { place = place; head = head; entries = cells }))))

rule-vrow : (n : ℕ) → Rule (vrow n) (vrow_by n) never
unfolding vrow_by
rule-vrow n =
    next (rule-row-word n) (λ place. next rule-name (λ target. next (rule-sign (codes ":"))
    (λ _. rule-cells (λ cells. record { place = place; target = target; entries = cells }))))

rule-header : (text : List ℕ) → Rule (header text) (header_by text) never
unfolding header_by
rule-header text = next (rule-word text) (λ _. rule-cells (λ cells. cells))

abbrev row_forms : List Form
row_forms = forms.word (codes "row") ∷ []

rule-rows : Rule (several row) (several_by (can (as_word (codes "row"))) row_by) (any row_forms)
rule-rows = rule-several row row_by (as_word (codes "row")) row_forms (looks-word (codes "row")) refl
    (λ n. heads-then (row_word n) _ (can (as_word (codes "row"))) (heads-token (as_word (codes "row")) _)) rule-row

rule-vrows : Rule (several vrow) (several_by (can (as_word (codes "row"))) vrow_by) (any row_forms)
rule-vrows = rule-several vrow vrow_by (as_word (codes "row")) row_forms (looks-word (codes "row")) refl
    (λ n. heads-then (row_word n) _ (can (as_word (codes "row"))) (heads-token (as_word (codes "row")) _)) rule-vrow

abbrev brace : List Form
brace = forms.sign (codes "}") ∷ []

rule-grid : (items : List Item) (text : List ℕ) (make : Word → List Expr → List Row → Item)
    → Rule (grid items text make) (grid_by items text make) never
unfolding grid_by
rule-grid items text make =
    next (rule-declared _ _ items) (λ target. next (rule-sign (codes "{")) (λ _. next (rule-header text) (λ cells.
    until row_forms brace (as_sign (codes "}")) no_pass _ (looks-sign (codes "}")) refl rule-rows
    (λ rows. next (rule-sign (codes "}")) (λ _. rule-give (make target cells rows))))))

rule-vector-grid : (s : SectionWord) → Rule (vector_grid s) (vector_grid_by s) never
unfolding vector_grid_by
rule-vector-grid s =
    next (rule-sign (codes "{")) (λ _. next (rule-header (codes "columns")) (λ cells.
    until row_forms brace (as_sign (codes "}")) no_pass _ (looks-sign (codes "}")) refl rule-vrows
    (λ rows. next (rule-sign (codes "}")) (λ _. rule-give (item.Vector s cells rows)))))

heads-vector : (items : List Item) (s : SectionAt)
    → Heads (token (as_word (codes "vector")) (counted_at (is_full tables items) limit.Tables s.place) ▷ λ _. vector_grid s.word)
    (any (forms.word (codes "vector") ∷ []))
heads-vector items s = heads-first (as_word (codes "vector")) _ _ (forms.word (codes "vector") ∷ []) (looks-word (codes "vector"))

rule-table : (items : List Item) (s : SectionAt) → Rule (table items s) (table_by items s) never
unfolding table_by
rule-table items s =
    choose (word (codes "normal") ▷ λ _. grid items (codes "columns") (item.Normal s.word)) _ (as_word (codes "normal")) _ _ never
    (forms.word (codes "normal") ∷ [])
    (forms.word (codes "inverted") ∷ forms.word (codes "vector") ∷ []) (looks-word (codes "normal")) (from-word (codes "normal") _)
    (heads-two (word (codes "inverted") ▷ λ _. grid items (codes "terms") (item.Inverted s.word)) _ (forms.word (codes "inverted") ∷ [])
    (forms.word (codes "vector") ∷ [])
    (heads-first (as_word (codes "inverted")) no_pass _ (forms.word (codes "inverted") ∷ []) (looks-word (codes "inverted")))
    (heads-vector items s)) refl
    (next (rule-word (codes "normal")) (λ _. rule-grid items (codes "columns") (item.Normal s.word)))
    (choose (word (codes "inverted") ▷ λ _. grid items (codes "terms") (item.Inverted s.word)) _ (as_word (codes "inverted")) _ _ never
    (forms.word (codes "inverted") ∷ [])
    (forms.word (codes "vector") ∷ []) (looks-word (codes "inverted")) (from-word (codes "inverted") _) (heads-vector items s) refl
    (next (rule-word (codes "inverted")) (λ _. rule-grid items (codes "terms") (item.Inverted s.word)))
    (next (rule-token (as_word (codes "vector")) _ (some_word (codes "vector")) here refl) (λ _. rule-vector-grid s.word)))

abbrev table_forms : List Form
table_forms = forms.word (codes "normal") ∷ forms.word (codes "inverted") ∷ forms.word (codes "vector") ∷ []

rule-variable : (items : List Item) (words : VarWord) → Rule (variable items words) (variable_by items words) never
unfolding variable_by
rule-variable items words =
    next (rule-declared _ _ items) (λ w. next (rule-sign (codes ":")) (λ _.
    until dots (forms.word (codes "init") ∷ []) (as_word (codes "init")) no_pass _ (looks-word (codes "init")) refl rule-kind-part (λ of.
    next (rule-word (codes "init")) (λ _. next rule-value (λ init. next (rule-sign (codes ";"))
    (λ _. rule-give (item.Variable words w of init)))))))

rule-held : (items : List Item) (side : SectionWord) → Rule (held items side) (held_by items side) never
unfolding held_by
rule-held items side =
    next (rule-declared _ _ items) (λ w. next (rule-sign (codes "(")) (λ _.
    until or_forms comma (as_sign (codes ",")) no_pass _ (looks-sign (codes ",")) refl (rule-expression false) (λ cond.
    next (rule-sign (codes ",")) (λ _. next rule-plain (λ hold. next (rule-word (codes "ms"))
    (λ _. next (rule-sign (codes ")")) (λ _. next (rule-sign (codes ";")) (λ _.
    rule-give (item.Held side w cond hold)))))))))

pub looks-start : Looks as_start (forms.word (codes "true") ∷ forms.word (codes "false") ∷ [])
looks-start = looks-or (looks-map (λ place. true) (looks-word (codes "true"))) (looks-map (λ place. false) (looks-word (codes "false")))

rule-hyst : (items : List Item) (side : SectionWord) → Rule (hyst items side) (hyst_by items side) never
unfolding hyst_by
rule-hyst items side =
    next (rule-declared _ _ items) (λ w. next (rule-sign (codes "(")) (λ _.
    until or_forms comma (as_sign (codes ",")) no_pass _ (looks-sign (codes ",")) refl (rule-expression false) (λ term.
    next (rule-sign (codes ",")) (λ _. next rule-bound (λ lo. next (rule-sign (codes ","))
    (λ _. next rule-bound (λ hi. next (rule-sign (codes ",")) (λ _.
    next (rule-token as_start no_pass (some_word (codes "true")) _ refl)
    (λ start. next (rule-sign (codes ")")) (λ _. next (rule-sign (codes ";")) (λ _.
    rule-give (item.Hyst side w term lo hi start))))))))))))

heads-table : (items : List Item) (s : SectionAt) → Heads (table items s) (any table_forms)
heads-table items s =
    heads-two (word (codes "normal") ▷ λ _. grid items (codes "columns") (item.Normal s.word)) _ (forms.word (codes "normal") ∷ [])
    (forms.word (codes "inverted") ∷ forms.word (codes "vector") ∷ [])
    (heads-first (as_word (codes "normal")) no_pass _ (forms.word (codes "normal") ∷ []) (looks-word (codes "normal")))
    (heads-two (word (codes "inverted") ▷ λ _. grid items (codes "terms") (item.Inverted s.word)) _ (forms.word (codes "inverted") ∷ [])
    (forms.word (codes "vector") ∷ [])
    (heads-first (as_word (codes "inverted")) no_pass _ (forms.word (codes "inverted") ∷ []) (looks-word (codes "inverted")))
    (heads-vector items s))

abbrev hyst_forms : List Form
hyst_forms = forms.word (codes "hyst") ∷ table_forms

abbrev held_forms : List Form
held_forms = forms.word (codes "held") ∷ hyst_forms

heads-hyst : (items : List Item) (s : SectionAt)
    → Heads (alternative (word (codes "hyst") ▷ λ _. hyst items s.word) (table items s)) (any hyst_forms)
heads-hyst items s =
    heads-two (word (codes "hyst") ▷ λ _. hyst items s.word) (table items s) (forms.word (codes "hyst") ∷ []) table_forms
    (heads-first (as_word (codes "hyst")) no_pass _ (forms.word (codes "hyst") ∷ []) (looks-word (codes "hyst"))) (heads-table items s)

rule-sided : (items : List Item) (s : SectionAt) → Rule (sided items s) (sided_by items s) never
unfolding sided_by
rule-sided items s =
    choose (word (codes "var") ▷ λ _. variable items (inner_variable s.word))
    (alternative (word (codes "held") ▷ λ _. held items s.word) (alternative (word (codes "hyst") ▷ λ _. hyst items s.word)
    (table items s)))
    (as_word (codes "var")) _ _ never (forms.word (codes "var") ∷ []) held_forms (looks-word (codes "var")) (from-word (codes "var") _)
    (heads-two (word (codes "held") ▷ λ _. held items s.word) (alternative (word (codes "hyst") ▷ λ _. hyst items s.word) (table items s))
    (forms.word (codes "held") ∷ []) hyst_forms
    (heads-first (as_word (codes "held")) no_pass _ (forms.word (codes "held") ∷ []) (looks-word (codes "held"))) (heads-hyst items s)) refl
    (next (rule-word (codes "var")) (λ _. rule-variable items (inner_variable s.word)))
    (choose (word (codes "held") ▷ λ _. held items s.word) (alternative (word (codes "hyst") ▷ λ _. hyst items s.word) (table items s))
    (as_word (codes "held")) _ _ never (forms.word (codes "held") ∷ []) hyst_forms (looks-word (codes "held")) (from-word (codes "held") _)
    (heads-hyst items s) refl
    (next (rule-word (codes "held")) (λ _. rule-held items s.word))
    (choose (word (codes "hyst") ▷ λ _. hyst items s.word) (table items s)
    (as_word (codes "hyst")) _ _ never (forms.word (codes "hyst") ∷ []) table_forms (looks-word (codes "hyst")) (from-word (codes "hyst") _)
    (heads-table items s) refl
    (next (rule-word (codes "hyst")) (λ _. rule-hyst items s.word)) (rule-table items s)))

rule-signed-number : Rule signed_number signed_number_by never
unfolding signed_number_by
rule-signed-number =
    choose (sign (codes "-") ▷ λ _. number ▷ λ n. nothing (true, n)) (number ▷ λ n. nothing (false, n)) (as_sign (codes "-")) _ _ never
    (forms.sign (codes "-") ∷ []) (some_number ∷ [])
    (looks-sign (codes "-")) (from-sign (codes "-") _) (heads-first as_number lexical_passes _ (some_number ∷ []) looks-number) refl
    (next (rule-sign (codes "-")) (λ _. rule-map number number_by (λ n. (true, n)) never rule-number))
    (rule-map number number_by (λ n. (false, n)) never rule-number)

rule-constant : (items : List Item) → Rule (constant items) (constant_by items) never
unfolding constant_by
rule-constant items =
    next (rule-word (codes "const")) (λ _. next (rule-declared _ _ items)
    (λ w. next (rule-sign (codes "=")) (λ _. next rule-signed-number (λ n. next (rule-sign (codes ";")) (λ _.
    rule-give (item.Constant w n.0 n.1))))))

rule-members : (w : Word) → Rule (members w) (members_by w) never
unfolding members_by
rule-members w =
    next (rule-sign (codes "{")) (λ _. until comma brace (as_sign (codes "}")) no_pass _ (looks-sign (codes "}")) refl (rule-names 64 _)
    (λ ms. next (rule-sign (codes "}")) (λ _. rule-give (item.EnumType w ms))))

rule-range-type : (w : Word) → Rule (range_type w) (range_type_by w) never
unfolding range_type_by
rule-range-type w = next rule-bound (λ lo. rule-map upper upper_by (λ hi. item.RangeType w lo hi) never rule-upper)

rule-type-item : (items : List Item) → Rule (type_item items) (type_item_by items) never
unfolding type_item_by
rule-type-item items =
    next (rule-word (codes "type")) (λ _. next (rule-declared _ _ items) (λ w. next (rule-sign (codes "=")) (λ _.
    next (choose (members w) (range_type w) (as_sign (codes "{")) _ _ never (forms.sign (codes "{") ∷ []) bound_forms
    (looks-sign (codes "{")) (from-sign (codes "{") _)
    (heads-then bound _ (any bound_forms) heads-bound) refl (rule-members w) (rule-range-type w)) (λ made.
    next (rule-sign (codes ";")) (λ _. rule-give made)))))

pub looks-moment : Looks as_moment (forms.word (codes "first") ∷ forms.word (codes "always") ∷ forms.word (codes "step") ∷ [])
looks-moment = looks-or (looks-map (λ place. moment.First) (looks-word (codes "first")))
    (looks-or (looks-map (λ place. moment.Always) (looks-word (codes "always")))
    (looks-map (λ place. moment.Step) (looks-word (codes "step"))))

rule-clause : (items : List Item) → Rule (clause items) (clause_by items) never
unfolding clause_by
rule-clause items =
    next (rule-token (as_word (codes "nat")) _ (some_word (codes "nat")) here refl)
    (λ _. next (rule-token as_moment no_pass (some_word (codes "first")) _ refl) (λ moment.
    until or_forms (forms.sign (codes ";") ∷ []) (as_sign (codes ";")) no_pass _ (looks-sign (codes ";")) refl (rule-expression false)
    (λ cond.
    next (rule-sign (codes ";")) (λ _. rule-give (item.Nat moment cond)))))

-- a part that may be absent
module _ {A : Type 0} (L : Language A) (p : Parser A) (w : List ℕ) (none : A) (heads : Heads L (can (as_word w))) (r : Rule L p never) where
  rule-optional : Rule (alternative L (nothing none)) (alternative_by (can (as_word w)) p (give none)) (any (forms.word w ∷ []))
  rule-optional =
      rule-alternative L (nothing none) (can (as_word w)) p (give none) (any (forms.word w ∷ [])) heads
      (calms-nothing none (can (as_word w)) (any (forms.word w ∷ [])) (looks-word w).under)
      (rule-weaker L p never (any (forms.word w ∷ [])) (λ l e. cc e) r) (rule-done none (any (forms.word w ∷ [])))

rule-listed : (w : List ℕ) → Rule (listed w) (listed_by w) (any (forms.word w ∷ []))
unfolding listed_by
rule-listed w =
    rule-optional (word w ▷ λ _. names 300 limit.List ▷ λ ws. sign (codes ";") ▷ λ _. nothing ws) _ w [] (from-word w _)
    (next (rule-word w) (λ _. until comma (forms.sign (codes ";") ∷ []) (as_sign (codes ";")) no_pass _ (looks-sign (codes ";")) refl
    (rule-names 300 limit.List) (λ ws. next (rule-sign (codes ";")) (λ _. rule-give ws))))

rule-setting : (w : List ℕ) → Rule (setting w) (setting_by w) (any (forms.word w ∷ []))
unfolding setting_by
rule-setting w =
    rule-optional (word w ▷ λ _. number ▷ λ n. sign (codes ";") ▷ λ _. nothing (Some n)) _ w None (from-word w _)
    (next (rule-word w) (λ _. next rule-number (λ n. next (rule-sign (codes ";")) (λ _. rule-give (Some n)))))

rule-fact-name : (items : List Item) (n : ℕ) → Rule (fact_name items n) (fact_name_by items n) never
unfolding fact_name_by
rule-fact-name items n = rule-token as_name _ some_name_token _ refl

abbrev goal_forms : List Form
goal_forms = forms.word (codes "goal") ∷ []

abbrev fact_forms : List Form
fact_forms = forms.word (codes "shows") ∷ goal_forms

rule-fact-part : (items : List Item) (n : ℕ) → Rule (fact_part items n) (fact_part_by items n) never
unfolding fact_part_by
rule-fact-part items n =
    choose (word (codes "shows") ▷ λ _. fact_name items n ▷ λ w. sign (codes ":") ▷ λ _. expression false ▷ λ cond. sign (codes ";") ▷ λ _.
    nothing (fact.Shows w cond))
    (word (codes "goal") ▷ λ _. fact_name items n ▷ λ w. sign (codes ";") ▷ λ _. nothing (fact.Goal w)) (as_word (codes "shows")) _ _ never
    (forms.word (codes "shows") ∷ []) goal_forms
    (looks-word (codes "shows")) (from-word (codes "shows") _) (heads-first (as_word (codes "goal")) no_pass _ goal_forms
    (looks-word (codes "goal"))) refl
    (next (rule-word (codes "shows")) (λ _. next (rule-fact-name items n) (λ w. next (rule-sign (codes ":")) (λ _.
    until or_forms (forms.sign (codes ";") ∷ []) (as_sign (codes ";")) no_pass _ (looks-sign (codes ";")) refl (rule-expression false)
    (λ cond.
    next (rule-sign (codes ";")) (λ _. rule-give (fact.Shows w cond)))))))
    (next (rule-word (codes "goal")) (λ _. next (rule-fact-name items n)
    (λ w. next (rule-sign (codes ";")) (λ _. rule-give (fact.Goal w)))))

some-or : {A : Type 0} (x y : Option A) → (is_some x ≡ true) ⊎ (is_some y ≡ true) → is_some (or_else x y) ≡ true
some-or (Some a) y e = refl
some-or None y (inl e) = cc e
some-or None y (inr e) = e

heads-fact : (items : List Item) (n : ℕ) → Heads (fact_part items n) (can as_fact_word)
heads-fact items n =
    heads-alternative (word (codes "shows") ▷ λ _. fact_name items n ▷ λ w. sign (codes ":") ▷ λ _. expression false ▷ λ cond. sign
    (codes ";") ▷ λ _. nothing (fact.Shows w cond))
    (word (codes "goal") ▷ λ _. fact_name items n ▷ λ w. sign (codes ";") ▷ λ _. nothing (fact.Goal w)) (can as_fact_word)
    (heads-weaker _ (can (as_word (codes "shows"))) (can as_fact_word)
    (λ l e. some-or (as_word (codes "shows") l) (as_word (codes "goal") l) (inl e)) (from-word (codes "shows") _))
    (heads-weaker _ (can (as_word (codes "goal"))) (can as_fact_word) (λ l e. some-or (as_word (codes "shows") l) (as_word (codes "goal") l)
    (inr e)) (from-word (codes "goal") _))

pub looks-fact : Looks as_fact_word fact_forms
looks-fact = looks-or (looks-word (codes "shows")) (looks-word (codes "goal"))

rule-facts : (items : List Item) → Rule (several (fact_part items)) (several_by (can as_fact_word) (fact_part_by items)) (any fact_forms)
rule-facts items = rule-several (fact_part items) (fact_part_by items) as_fact_word fact_forms looks-fact refl (heads-fact items)
    (rule-fact-part items)

heads-facts : (items : List Item) → Heads (several (fact_part items)) (any fact_forms)
heads-facts items = heads-then (fact_part items 0) _ (any fact_forms) (heads-weaker (fact_part items 0) (can as_fact_word) (any fact_forms)
    looks-fact.under (heads-fact items 0))

-- a part that may be absent, and one after it
heads-after : {A B : Type 0} (L : Language A) (none : A) (M : A → Language B) (xs ys : List Form) → Heads L (any xs)
    → ((a : A) → Heads (M a) (any ys)) → Heads (alternative L (nothing none) ▷ M) (any (xs ++ ys))
unfolding ◌▷◌
heads-after L none M xs ys first others at steps b (a, us, vs, is, inl h, k) =
    let (s, more, head, e) = first at us a h in
    (s, more ++ vs, is ∙ ap (λ (zs : List Step). zs ++ vs) head, under-left xs ys s.lexeme e)
heads-after L none M xs ys first others at steps b (a, us, vs, is, inr (empty, same), k) =
    let (s, more, head, e) = others a (at + length us) vs b k in
    (s, more, is ∙ ap (λ (zs : List Step). zs ++ vs) empty ∙ head, under-right xs ys s.lexeme e)

rule-end-of-block : (w : Word) (takes uses : List Word) (items : List Item)
    → Rule (several (fact_part items) ▷ λ facts. sign (codes "}") ▷ λ _. nothing (item.Block w takes uses facts))
    (several_by (can as_fact_word) (fact_part_by items) ▶ λ facts. sign_by (codes "}") ▶ λ _. give (item.Block w takes uses facts)) never
rule-end-of-block w takes uses items =
    until fact_forms brace (as_sign (codes "}")) no_pass _ (looks-sign (codes "}")) refl (rule-facts items)
    (λ facts. next (rule-sign (codes "}")) (λ _. rule-give (item.Block w takes uses facts)))

rule-uses : (w : Word) (takes : List Word) (items : List Item)
    → Rule (listed (codes "uses") ▷ λ uses. several (fact_part items) ▷ λ facts. sign (codes "}") ▷ λ _. nothing
    (item.Block w takes uses facts))
    (listed_by (codes "uses") ▶ λ uses. several_by (can as_fact_word) (fact_part_by items) ▶ λ facts. sign_by (codes "}") ▶ λ _. give
    (item.Block w takes uses facts)) never
rule-uses w takes items =
    before (λ uses. calms-by-heads _ (any fact_forms) (any (forms.word (codes "uses") ∷ [])) never
    (heads-then (several (fact_part items)) _ (any fact_forms) (heads-facts items))
    (apart fact_forms (forms.word (codes "uses") ∷ []) refl))
    (rule-listed (codes "uses")) (λ uses. rule-end-of-block w takes uses items)

heads-uses : (w : Word) (takes : List Word) (items : List Item)
    → Heads (listed (codes "uses") ▷ λ uses. several (fact_part items) ▷ λ facts. sign (codes "}") ▷ λ _. nothing
    (item.Block w takes uses facts)) (any (forms.word (codes "uses") ∷ fact_forms))
heads-uses w takes items =
    heads-after (word (codes "uses") ▷ λ _. names 300 limit.List ▷ λ ws. sign (codes ";") ▷ λ _. nothing ws) []
    (λ uses. several (fact_part items) ▷ λ facts. sign (codes "}") ▷ λ _. nothing (item.Block w takes uses facts))
    (forms.word (codes "uses") ∷ []) fact_forms (heads-first (as_word (codes "uses")) no_pass _ (forms.word (codes "uses") ∷ [])
    (looks-word (codes "uses")))
    (λ uses. heads-then (several (fact_part items)) _ (any fact_forms) (heads-facts items))

rule-block : (items : List Item) → Rule (block items) (block_by items) never
unfolding block_by
rule-block items =
    next (rule-word (codes "block")) (λ _. next (rule-declared _ _ items) (λ w. next (rule-sign (codes "{")) (λ _.
    before (λ takes. calms-by-heads _ (any (forms.word (codes "uses") ∷ fact_forms)) (any (forms.word (codes "takes") ∷ [])) never
    (heads-uses w takes items)
    (apart (forms.word (codes "uses") ∷ fact_forms) (forms.word (codes "takes") ∷ []) refl))
    (rule-listed (codes "takes")) (λ takes. rule-uses w takes items))))

pub looks-var-word : Looks as_var_word (forms.word (codes "mon") ∷ forms.word (codes "con") ∷ forms.word (codes "input")
    ∷ forms.word (codes "output") ∷ [])
looks-var-word =
    looks-or (looks-map (λ place. var.Mon) (looks-word (codes "mon"))) (looks-or (looks-map (λ place. var.Con) (looks-word (codes "con")))
    (looks-or (looks-map (λ place. var.Input) (looks-word (codes "input")))
    (looks-map (λ place. var.Output) (looks-word (codes "output")))))

pub looks-side : Looks as_side (forms.word (codes "req") ∷ forms.word (codes "sof") ∷ [])
looks-side = looks-or (looks-map (λ place. record { word = section.Req; place = place }) (looks-word (codes "req")))
    (looks-map (λ place. record { word = section.Sof; place = place }) (looks-word (codes "sof")))

pub looks-map-word : Looks as_map (forms.word (codes "in") ∷ forms.word (codes "out") ∷ [])
looks-map-word = looks-or (looks-map (λ place. record { word = section.In; place = place }) (looks-word (codes "in")))
    (looks-map (λ place. record { word = section.Out; place = place }) (looks-word (codes "out")))

abbrev block_forms : List Form
block_forms = forms.word (codes "block") ∷ []

abbrev nat_forms : List Form
nat_forms = forms.word (codes "nat") ∷ block_forms

abbrev map_words : List Form
map_words = forms.word (codes "in") ∷ forms.word (codes "out") ∷ []

abbrev map_forms : List Form
map_forms = map_words ++ nat_forms

abbrev side_words : List Form
side_words = forms.word (codes "req") ∷ forms.word (codes "sof") ∷ []

abbrev side_forms : List Form
side_forms = side_words ++ map_forms

abbrev var_words : List Form
var_words = forms.word (codes "mon") ∷ forms.word (codes "con") ∷ forms.word (codes "input") ∷ forms.word (codes "output") ∷ []

abbrev var_forms : List Form
var_forms = var_words ++ side_forms

abbrev type_forms : List Form
type_forms = forms.word (codes "type") ∷ var_forms

abbrev item_forms : List Form
item_forms = forms.word (codes "const") ∷ type_forms

-- the alternatives of an item, from the last
abbrev from_nat : List Item → Language Item
from_nat items = alternative (clause items) (block items)

abbrev from_map : List Item → Language Item
from_map items = alternative (token as_map no_pass ▷ table items) (from_nat items)

abbrev from_side : List Item → Language Item
from_side items = alternative (token as_side no_pass ▷ sided items) (from_map items)

abbrev from_var : List Item → Language Item
from_var items = alternative (token as_var_word no_pass ▷ variable items) (from_side items)

abbrev from_type : List Item → Language Item
from_type items = alternative (type_item items) (from_var items)

heads-block : (items : List Item) → Heads (block items) (any block_forms)
heads-block items = heads-first (as_word (codes "block")) no_pass _ block_forms (looks-word (codes "block"))

heads-nat : (items : List Item) → Heads (from_nat items) (any nat_forms)
heads-nat items = heads-two (clause items) (block items) (forms.word (codes "nat") ∷ []) block_forms
    (heads-first (as_word (codes "nat")) _ _ (forms.word (codes "nat") ∷ []) (looks-word (codes "nat"))) (heads-block items)

heads-map : (items : List Item) → Heads (from_map items) (any map_forms)
heads-map items = heads-two (token as_map no_pass ▷ table items) (from_nat items) map_words nat_forms
    (heads-first as_map no_pass (table items) map_words looks-map-word) (heads-nat items)

heads-side : (items : List Item) → Heads (from_side items) (any side_forms)
heads-side items = heads-two (token as_side no_pass ▷ sided items) (from_map items) side_words map_forms
    (heads-first as_side no_pass (sided items) side_words looks-side) (heads-map items)

heads-var : (items : List Item) → Heads (from_var items) (any var_forms)
heads-var items = heads-two (token as_var_word no_pass ▷ variable items) (from_side items) var_words side_forms
    (heads-first as_var_word no_pass (variable items) var_words looks-var-word) (heads-side items)

heads-type : (items : List Item) → Heads (from_type items) (any type_forms)
heads-type items = heads-two (type_item items) (from_var items) (forms.word (codes "type") ∷ []) var_forms
    (heads-first (as_word (codes "type")) no_pass _ (forms.word (codes "type") ∷ []) (looks-word (codes "type"))) (heads-var items)

heads-item : (items : List Item) → Heads (item_part items) (any item_forms)
heads-item items = heads-two (constant items) (from_type items) (forms.word (codes "const") ∷ []) type_forms
    (heads-first (as_word (codes "const")) no_pass _ (forms.word (codes "const") ∷ []) (looks-word (codes "const"))) (heads-type items)

rule-item : (items : List Item) → Rule (item_part items) (item_part_by items) never
unfolding item_part_by
rule-item items =
    choose (constant items) (from_type items) (as_word (codes "const")) _ _ never (forms.word (codes "const") ∷ []) type_forms
    (looks-word (codes "const")) (from-word (codes "const") _) (heads-type items) refl (rule-constant items)
    (choose (type_item items) (from_var items) (as_word (codes "type")) _ _ never (forms.word (codes "type") ∷ []) var_forms
    (looks-word (codes "type")) (from-word (codes "type") _) (heads-var items) refl (rule-type-item items)
    (choose (token as_var_word no_pass ▷ variable items) (from_side items) as_var_word _ _ never var_words side_forms looks-var-word
    (heads-then (token as_var_word no_pass) (variable items) (can as_var_word) (heads-token as_var_word no_pass)) (heads-side items)
    refl
    (next (rule-token as_var_word no_pass (some_word (codes "mon")) _ refl) (rule-variable items))
    (choose (token as_side no_pass ▷ sided items) (from_map items) as_side _ _ never side_words map_forms looks-side
    (heads-then (token as_side no_pass) (sided items) (can as_side) (heads-token as_side no_pass)) (heads-map items) refl
    (next (rule-token as_side no_pass (some_word (codes "req")) _ refl) (rule-sided items))
    (choose (token as_map no_pass ▷ table items) (from_nat items) as_map _ _ never map_words nat_forms looks-map-word
    (heads-then (token as_map no_pass) (table items) (can as_map) (heads-token as_map no_pass)) (heads-nat items) refl
    (next (rule-token as_map no_pass (some_word (codes "in")) _ refl) (rule-table items))
    (choose (clause items) (block items) (as_word (codes "nat")) _ _ never (forms.word (codes "nat") ∷ []) block_forms
    (looks-word (codes "nat"))
    (heads-then (token (as_word (codes "nat")) _) _ (can (as_word (codes "nat"))) (heads-token (as_word (codes "nat")) _))
    (heads-block items) refl
    (rule-clause items) (rule-block items))))))

or-left : (x y : Bool) → x ≡ true → (x || y) ≡ true
or-left true y e = refl
or-left false y e = cc e

or-right : (x y : Bool) → y ≡ true → (x || y) ≡ true
or-right true y e = refl
or-right false y e = e

-- how each item begins
abbrev is_block_start : Lexeme → Bool
is_block_start l = can (as_word (codes "block")) l

abbrev is_nat_start : Lexeme → Bool
is_nat_start l = can (as_word (codes "nat")) l || is_block_start l

abbrev is_map_start : Lexeme → Bool
is_map_start l = can as_map l || is_nat_start l

abbrev is_side_start : Lexeme → Bool
is_side_start l = can as_side l || is_map_start l

abbrev is_var_start : Lexeme → Bool
is_var_start l = can as_var_word l || is_side_start l

abbrev is_type_start : Lexeme → Bool
is_type_start l = can (as_word (codes "type")) l || is_var_start l

regrouped : (a b c d e f g : Bool) → (a || b || c || d || e || f || g) ≡ (a || (b || (c || (d || (e || (f || g))))))
regrouped true b c d e f g = refl
regrouped false true c d e f g = refl
regrouped false false true d e f g = refl
regrouped false false false true e f g = refl
regrouped false false false false true f g = refl
regrouped false false false false false f g = refl

abbrev starts : Lexeme → Bool
starts l = can (as_word (codes "const")) l || is_type_start l

same-start : (l : Lexeme) → is_item_start l ≡ starts l
same-start l = regrouped (can (as_word (codes "const")) l) (can (as_word (codes "type")) l) (can as_var_word l) (can as_side l)
    (can as_map l) (can (as_word (codes "nat")) l) (can (as_word (codes "block")) l)

-- the one, or the other
start-two : {A B : Type 0} (L M : Language A) (read : Lexeme → Option B) (test : Lexeme → Bool) → Heads L (can read) → Heads M test
    → Heads (alternative L M) (λ l. can read l || test l)
start-two L M read test one other =
    heads-alternative L M (λ l. can read l || test l) (heads-weaker L (can read) (λ l. can read l || test l)
    (λ l e. or-left (can read l) (test l) e) one)
    (heads-weaker M test (λ l. can read l || test l) (λ l e. or-right (can read l) (test l) e) other)

starts-item : (items : List Item) → Heads (item_part items) is_item_start
starts-item items =
    heads-weaker (item_part items) starts is_item_start (λ l e. same-start l ∙ e)
    (start-two (constant items) (from_type items) (as_word (codes "const")) is_type_start (from-word (codes "const") _)
    (start-two (type_item items) (from_var items) (as_word (codes "type")) is_var_start (from-word (codes "type") _)
    (start-two (token as_var_word no_pass ▷ variable items) (from_side items) as_var_word is_side_start
    (heads-then (token as_var_word no_pass) (variable items) (can as_var_word) (heads-token as_var_word no_pass))
    (start-two (token as_side no_pass ▷ sided items) (from_map items) as_side is_map_start
    (heads-then (token as_side no_pass) (sided items) (can as_side) (heads-token as_side no_pass))
    (start-two (token as_map no_pass ▷ table items) (from_nat items) as_map is_nat_start
    (heads-then (token as_map no_pass) (table items) (can as_map) (heads-token as_map no_pass))
    (start-two (clause items) (block items) (as_word (codes "nat")) is_block_start
    (heads-then (token (as_word (codes "nat")) _) _ (can (as_word (codes "nat"))) (heads-token (as_word (codes "nat")) _))
    (from-word (codes "block") _)))))))

-- a token that begins an item
start-forms : {B : Type 0} (read : Lexeme → Option B) (test : Lexeme → Bool) (xs ys : List Form) → Looks read xs → Under test (any ys)
    → Under (λ l. can read l || test l) (any (xs ++ ys))
start-forms read test xs ys looks under l e = elim (or_cases (can read l) (test l) e) [
  | inl f ↦ under-left xs ys l (looks.under l f)
  | inr f ↦ under-right xs ys l (under l f)
]

item-start : Under is_item_start (any item_forms)
item-start l e = starts-under l (sym (same-start l) ∙ e) where
  starts-under : Under starts (any item_forms)
  starts-under =
      start-forms (as_word (codes "const")) is_type_start (forms.word (codes "const") ∷ []) type_forms (looks-word (codes "const"))
      (start-forms (as_word (codes "type")) is_var_start (forms.word (codes "type") ∷ []) var_forms (looks-word (codes "type"))
      (start-forms as_var_word is_side_start var_words side_forms looks-var-word
      (start-forms as_side is_map_start side_words map_forms looks-side
      (start-forms as_map is_nat_start map_words nat_forms looks-map-word
      (start-forms (as_word (codes "nat")) is_block_start (forms.word (codes "nat") ∷ []) block_forms (looks-word (codes "nat"))
      (looks-word (codes "block")).under)))))

rule-more-items : (items : List Item) → Rule (more_items items) (more_items_by items) never
unfolding more_items_by
rule-more-items items = rule-map (item_part items) (item_part_by items) (λ made. items ++ made ∷ []) never (rule-item items)

rule-items : Rule (repeated more_items []) (many is_item_start more_items_by []) is_item_start
rule-items =
    rule-many more_items is_item_start more_items_by never is_item_start
    (λ items. heads-then (item_part items) _ is_item_start (starts-item items)) (λ l e. refl) (λ l e. cc e) (under-same is_item_start)
    rule-more-items []

abbrev end_forms : List Form
end_forms = some_end ∷ []

-- the end of a set's text
rule-ended : (parts : Parts) → Rule (token as_end no_pass ▷ λ _. nothing parts) (read_token as_end no_pass ▶ λ _. give parts) never
rule-ended parts = next (rule-token as_end no_pass (record { kind = token_kind.End; text = []; place = here }) here refl)
    (λ _. rule-give parts)

heads-ended : (parts : Parts) → Heads (token as_end no_pass ▷ λ _. nothing parts) (any end_forms)
heads-ended parts = heads-first as_end no_pass _ end_forms looks-end

module _ (w : Word) (period : Number) (splits depth : Option Number) where
  abbrev parts_with : List Item → Parts
  parts_with items = record { name = w.text; period = period; splits = splits; depth = depth; items = items }

  abbrev set_items : Language Parts
  set_items = repeated more_items [] ▷ λ items. token as_end no_pass ▷ λ _. nothing (parts_with items)

  rule-set-items : Rule set_items (many is_item_start more_items_by [] ▶ λ items. read_token as_end no_pass ▶ λ _. give (parts_with items))
      never
  rule-set-items =
      before (λ items. calms-by-heads (token as_end no_pass ▷ λ _. nothing (parts_with items)) (any end_forms) is_item_start never
      (heads-ended (parts_with items))
      (forms.apart-under (any end_forms) is_item_start (any item_forms) (apart end_forms item_forms refl) item-start))
      rule-items (λ items. rule-ended (parts_with items))

  -- items, or the end at once
  heads-set-items : Heads set_items (any (item_forms ++ end_forms))
  unfolding ◌▷◌ times
  heads-set-items at steps parts (items, us, vs, is, (zero, (empty, same)), k) =
      let (s, more, head, e) = heads-ended (parts_with items) (at + length us) vs parts k in
      (s, more, is ∙ ap (λ (zs : List Step). zs ++ vs) empty ∙ head, under-right item_forms end_forms s.lexeme e)
  heads-set-items at steps parts (items, us, vs, is, (suc n, (made, xs, ys, both, (one, zs, rest, parted, h, l), m)), k) =
      let (s, more, head, e) = heads-item [] at zs one h in (
        s,
        ((more ++ rest) ++ ys) ++ vs,
        is ∙ ap (λ (qs : List Step). qs ++ vs) (both ∙ ap (λ (qs : List Step). qs ++ ys)
            (parted ∙ ap (λ (qs : List Step). qs ++ rest) head)),
        under-left item_forms end_forms s.lexeme e,
      )

abbrev depth_forms : List Form
depth_forms = forms.word (codes "depth") ∷ (item_forms ++ end_forms)

abbrev setting_body : List ℕ → Language (Option Number)
setting_body w = word w ▷ λ _. number ▷ λ n. sign (codes ";") ▷ λ _. nothing (Some n)

module _ (w : Word) (period : Number) where
  -- what stands after the head of a set
  after_splits : Option Number → Language Parts
  after_splits splits = setting (codes "depth") ▷ λ depth. set_items w period splits depth

  after_splits_by : Option Number → Parser Parts
  after_splits_by splits = setting_by (codes "depth") ▶ λ depth. many is_item_start more_items_by [] ▶ λ items. read_token as_end no_pass ▶
      λ _. give (parts_with w period splits depth items)

  rule-after-splits : (splits : Option Number) → Rule (after_splits splits) (after_splits_by splits) never
  unfolding after_splits after_splits_by
  rule-after-splits splits =
      before (λ depth. calms-by-heads (set_items w period splits depth) (any (item_forms ++ end_forms))
      (any (forms.word (codes "depth") ∷ [])) never (heads-set-items w period splits depth)
      (apart (item_forms ++ end_forms) (forms.word (codes "depth") ∷ []) refl))
      (rule-setting (codes "depth")) (λ depth. rule-set-items w period splits depth)

  heads-after-splits : (splits : Option Number) → Heads (after_splits splits) (any depth_forms)
  unfolding after_splits
  heads-after-splits splits =
      heads-after (setting_body (codes "depth")) None (λ depth. set_items w period splits depth) (forms.word (codes "depth") ∷ [])
      (item_forms ++ end_forms)
      (heads-first (as_word (codes "depth")) no_pass _ (forms.word (codes "depth") ∷ []) (looks-word (codes "depth")))
      (λ depth. heads-set-items w period splits depth)

  after_head : Language Parts
  after_head = setting (codes "splits") ▷ after_splits

  rule-after-head : Rule after_head (setting_by (codes "splits") ▶ after_splits_by) never
  unfolding after_head
  rule-after-head =
      before (λ splits. calms-by-heads (after_splits splits) (any depth_forms) (any (forms.word (codes "splits") ∷ [])) never
      (heads-after-splits splits)
      (apart depth_forms (forms.word (codes "splits") ∷ []) refl))
      (rule-setting (codes "splits")) rule-after-splits

-- a set's text is read
pub rule-set : Rule set set_by never
unfolding set_by after_head after_splits after_splits_by
rule-set =
    next (rule-word (codes "set")) (λ _. next rule-name (λ w. next (rule-sign (codes ";"))
    (λ _. next (rule-word (codes "period")) (λ _. next rule-number (λ period. next (rule-word (codes "ms")) (λ _.
    next (rule-sign (codes ";")) (λ _. rule-after-head w period)))))))
