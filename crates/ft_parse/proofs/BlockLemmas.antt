-- The parts of items take tokens away, and how facts and items begin.
use Rattle.std.proofs.Common.{◌≡◌, ◌||◌, refl, ℕ, ◌<◌, true, false, List, [], ◌∷◌, ◌++◌, length, Option, Some, None, Ok, codes}
use Rattle.ft_tree.specs.declared.expr.Expr.{Expr}
use Rattle.ft_tree.specs.declared.item.Bound.{Bound}
use Rattle.ft_tree.specs.declared.item.FactItem.{FactItem}
use Rattle.ft_tree.specs.declared.item.FactItem.TheVariants as fact
use Rattle.ft_tree.specs.declared.item.Item.{Item}
use Rattle.ft_tree.specs.declared.item.Item.TheVariants as item
use Rattle.ft_tree.specs.declared.item.Kind.TheVariants as kind
use Rattle.ft_tree.specs.declared.item.Plain.TheVariants as plain
use Rattle.ft_tree.specs.declared.item.Row.{Row}
use Rattle.ft_tree.specs.declared.item.SectionWord.{SectionWord}
use Rattle.ft_tree.specs.declared.item.VarWord.{VarWord}
use Rattle.ft_tree.specs.declared.item.Word.{Word}
use Rattle.ft_tree.specs.meaning.Limits.{Sort, blocks, clauses, constants, memories, tables, types, variables}
use Rattle.ft_read.specs.meaning.Lexeme.{Lexeme, as_name, as_word, or_else}
use Rattle.ft_read.specs.meaning.Limit.{no_pass, lexical_passes, counted, counted_at}
use Rattle.ft_parse.specs.meaning.Room.{is_full, no_more_facts}
use Rattle.ft_read.specs.meaning.Choices.{as_map, as_moment, as_plain, as_side, as_start, as_truth, as_var_word}
use Rattle.ft_parse.specs.meaning.Items.{inner_variable}
use Rattle.ft_parse.specs.parsers.Items.{as_fact_word, block_by, clause_by, constant_by, declared_by, fact_name_by, fact_part_by, grid_by}
use Rattle.ft_parse.specs.parsers.Items.{header_by, held_by, hyst_by, is_item_start, item_part_by, listed_by, members_by, more_items_by}
use Rattle.ft_parse.specs.parsers.Items.{range_type_by, row_by, several_by, sided_by, signed_number_by, table_by, type_item_by}
use Rattle.ft_parse.specs.parsers.Items.{variable_by, vector_grid_by, vrow_by}
use Rattle.ft_read.specs.parsers.Parts.{bound_by, kind_of_name_by, kind_part_by, minus_bound_by, number_bound_by, plain_bound_by}
use Rattle.ft_read.specs.parsers.Parts.{range_after_by, upper_by, value_by}
use Rattle.ft_read.specs.parsers.Combinators.{ParserState, begins, can, bind, is_some}
use Rattle.ft_parse.specs.parsers.Repetition.{many}
use Rattle.ft_parse.specs.parsers.Steps.{one_more}
use Rattle.ft_read.specs.declared.parts.SectionAt.{SectionAt}
use Rattle.ft_read.specs.declared.stop.LimitWord.{LimitWord}
use Rattle.ft_read.specs.declared.stop.LimitWord.TheVariants as limit
use Rattle.ft_parse.proofs.Shorter.{Keeps, Shortens, alternative-keeps, alternative-shortens, repetition-end, gives, keeps, less, part-then}
use Rattle.ft_parse.proofs.Shorter.{token, turn}
use Rattle.ft_parse.proofs.PrecedenceLemmas.{expression-shortens}
use Rattle.ft_parse.proofs.ListLemmas.{begin, entries-shortens, name-shortens, names-shortens, next, number-shortens, sign-shortens}
use Rattle.ft_parse.proofs.ListLemmas.{word-shortens}
use Rattle.ft_parse.proofs.TableLemmas.{row-shortens, several-end, several-is, several-less, several-shortens, several-turn, vrow-shortens}

-- either of two tests, on the first token
some-or : {A : Type 0} (a b : Option A) → is_some (or_else a b) ≡ (is_some a || is_some b)
some-or (Some a) b = refl
some-or None b = refl

pub fact_starts : (rest : List Lexeme) → begins (can as_fact_word) rest
    ≡ (begins (can (as_word (codes "shows"))) rest || begins (can (as_word (codes "goal"))) rest)
fact_starts [] = refl
fact_starts (l ∷ rest) = some-or (as_word (codes "shows") l) (as_word (codes "goal") l)

pub item_starts : (rest : List Lexeme) → begins is_item_start rest
    ≡ (begins (can (as_word (codes "const"))) rest || begins (can (as_word (codes "type"))) rest || begins (can as_var_word) rest
    || begins (can as_side) rest
    || begins (can as_map) rest || begins (can (as_word (codes "nat"))) rest || begins (can (as_word (codes "block"))) rest)
item_starts [] = refl
item_starts (l ∷ rest) = refl

pub ruleset starts = (fact_starts, item_starts)

declared-shortens : (sort : Sort) (which : LimitWord) (before : List Item) → Shortens (declared_by sort which before)
unfolding declared_by
declared-shortens sort which before = token as_name (counted (is_full sort before) which)

plain-shortens : Shortens plain_bound_by
unfolding plain_bound_by
plain-shortens = token as_plain lexical_passes

minus-shortens : Shortens minus_bound_by
unfolding minus_bound_by
minus-shortens = begin (sign-shortens (codes "-")) (λ place. next plain-shortens
    (λ b. gives (record { minus = true; value = b.value; place = place })))

bound-shortens : Shortens bound_by
unfolding bound_by
bound-shortens = alternative-shortens _ _ _ minus-shortens plain-shortens

value-shortens : Shortens value_by
unfolding value_by
value-shortens = alternative-shortens _ _ _ (token as_truth no_pass) bound-shortens

upper-shortens : Shortens upper_by
unfolding upper_by
upper-shortens = begin (sign-shortens (codes "..")) (λ _. keeps _ bound-shortens)

range-after-shortens : (lo : Bound) → Shortens (range_after_by lo)
unfolding range_after_by
range-after-shortens lo = begin upper-shortens (λ hi. gives (kind.Range lo hi))

kind-of-name-keeps : (w : Word) → Keeps (kind_of_name_by w)
unfolding kind_of_name_by
kind-of-name-keeps w =
    alternative-keeps _ _ _ (next upper-shortens (λ hi. gives (kind.Range
    (record { minus = false; value = plain.Name w.text; place = w.place }) hi))) (gives (kind.Named w))

number-bound-shortens : Shortens number_bound_by
unfolding number_bound_by
number-bound-shortens = begin number-shortens (λ n. gives (record { minus = false; value = plain.Number n.value; place = n.place }))

kind-shortens : Shortens kind_part_by
unfolding kind_part_by
kind-shortens =
    alternative-shortens _ _ _ (begin (word-shortens (codes "bool")) (λ _. gives kind.Bool))
    (alternative-shortens _ _ _ (begin name-shortens kind-of-name-keeps)
    (begin (alternative-shortens _ _ _ minus-shortens number-bound-shortens) (λ lo. keeps _ (range-after-shortens lo))))

header-shortens : (text : List ℕ) → Shortens (header_by text)
unfolding header_by
header-shortens text = begin (word-shortens text) (λ _. next entries-shortens
    (λ cells. next (sign-shortens (codes ";")) (λ _. gives cells)))

grid-shortens : (before : List Item) (text : List ℕ) (make : Word → List Expr → List Row → Item) → Shortens (grid_by before text make)
unfolding grid_by
grid-shortens before text make =
    begin (declared-shortens tables limit.Tables before) (λ target. next (sign-shortens (codes "{"))
    (λ _. next (header-shortens text) (λ cells.
    next (several-shortens (can (as_word (codes "row"))) row_by row-shortens)
    (λ rows. next (sign-shortens (codes "}")) (λ _. gives (make target cells rows))))))

vector-grid-shortens : (s : SectionWord) → Shortens (vector_grid_by s)
unfolding vector_grid_by
vector-grid-shortens s =
    begin (sign-shortens (codes "{")) (λ _. next (header-shortens (codes "columns")) (λ cells.
    next (several-shortens (can (as_word (codes "row"))) vrow_by vrow-shortens)
    (λ rows. next (sign-shortens (codes "}")) (λ _. gives (item.Vector s cells rows)))))

table-shortens : (before : List Item) (s : SectionAt) → Shortens (table_by before s)
unfolding table_by
table-shortens before s =
    alternative-shortens _ _ _ (begin (word-shortens (codes "normal"))
    (λ _. keeps _ (grid-shortens before (codes "columns") (item.Normal s.word))))
    (alternative-shortens _ _ _ (begin (word-shortens (codes "inverted"))
    (λ _. keeps _ (grid-shortens before (codes "terms") (item.Inverted s.word))))
    (begin (token (as_word (codes "vector")) (counted_at (is_full tables before) limit.Tables s.place))
    (λ _. keeps _ (vector-grid-shortens s.word))))

variable-shortens : (before : List Item) (words : VarWord) → Shortens (variable_by before words)
unfolding variable_by
variable-shortens before words =
    begin (declared-shortens variables limit.Variables before) (λ w. next (sign-shortens (codes ":")) (λ _. next kind-shortens (λ of.
    next (word-shortens (codes "init")) (λ _. next value-shortens (λ init. next (sign-shortens (codes ";"))
    (λ _. gives (item.Variable words w of init)))))))

held-shortens : (before : List Item) (side : SectionWord) → Shortens (held_by before side)
unfolding held_by
held-shortens before side =
    begin (declared-shortens memories limit.Memories before) (λ w. next (sign-shortens (codes "("))
    (λ _. next (expression-shortens false) (λ cond.
    next (sign-shortens (codes ",")) (λ _. next plain-shortens (λ hold. next (word-shortens (codes "ms"))
    (λ _. next (sign-shortens (codes ")")) (λ _.
    next (sign-shortens (codes ";")) (λ _. gives (item.Held side w cond hold)))))))))

hyst-shortens : (before : List Item) (side : SectionWord) → Shortens (hyst_by before side)
unfolding hyst_by
hyst-shortens before side =
    begin (declared-shortens memories limit.Memories before) (λ w. next (sign-shortens (codes "("))
    (λ _. next (expression-shortens false) (λ term.
    next (sign-shortens (codes ",")) (λ _. next bound-shortens (λ lo. next (sign-shortens (codes ",")) (λ _. next bound-shortens (λ hi.
    next (sign-shortens (codes ",")) (λ _. next (token as_start no_pass) (λ start. next (sign-shortens (codes ")")) (λ _.
    next (sign-shortens (codes ";")) (λ _. gives (item.Hyst side w term lo hi start))))))))))))

sided-shortens : (before : List Item) (s : SectionAt) → Shortens (sided_by before s)
unfolding sided_by
sided-shortens before s =
    alternative-shortens _ _ _ (begin (word-shortens (codes "var")) (λ _. keeps _ (variable-shortens before (inner_variable s.word))))
    (alternative-shortens _ _ _ (begin (word-shortens (codes "held")) (λ _. keeps _ (held-shortens before s.word)))
    (alternative-shortens _ _ _ (begin (word-shortens (codes "hyst")) (λ _. keeps _ (hyst-shortens before s.word)))
    (table-shortens before s)))

signed-number-shortens : Shortens signed_number_by
unfolding signed_number_by
signed-number-shortens =
    alternative-shortens _ _ _ (begin (sign-shortens (codes "-")) (λ _. next number-shortens (λ n. gives (true, n))))
    (begin number-shortens (λ n. gives (false, n)))

constant-shortens : (before : List Item) → Shortens (constant_by before)
unfolding constant_by
constant-shortens before =
    begin (word-shortens (codes "const")) (λ _. next (declared-shortens constants limit.Constants before)
    (λ w. next (sign-shortens (codes "=")) (λ _.
    next signed-number-shortens (λ n. next (sign-shortens (codes ";")) (λ _. gives (item.Constant w n.0 n.1))))))

members-shortens : (w : Word) → Shortens (members_by w)
unfolding members_by
members-shortens w =
    begin (sign-shortens (codes "{")) (λ _. next (names-shortens 64 limit.Members)
    (λ ms. next (sign-shortens (codes "}")) (λ _. gives (item.EnumType w ms))))

range-type-shortens : (w : Word) → Shortens (range_type_by w)
unfolding range_type_by
range-type-shortens w = begin bound-shortens (λ lo. next upper-shortens (λ hi. gives (item.RangeType w lo hi)))

type-shortens : (before : List Item) → Shortens (type_item_by before)
unfolding type_item_by
type-shortens before =
    begin (word-shortens (codes "type")) (λ _. next (declared-shortens types limit.Types before)
    (λ w. next (sign-shortens (codes "=")) (λ _.
    next (alternative-shortens _ _ _ (members-shortens w) (range-type-shortens w))
    (λ made. next (sign-shortens (codes ";")) (λ _. gives made)))))

clause-shortens : (before : List Item) → Shortens (clause_by before)
unfolding clause_by
clause-shortens before =
    begin (token (as_word (codes "nat")) (counted (is_full clauses before) limit.Nat)) (λ _. next (token as_moment no_pass) (λ moment.
    next (expression-shortens false) (λ cond. next (sign-shortens (codes ";")) (λ _. gives (item.Nat moment cond)))))

listed-keeps : (text : List ℕ) → Keeps (listed_by text)
unfolding listed_by
listed-keeps text =
    alternative-keeps _ _ _ (next (word-shortens text) (λ _. next (names-shortens 300 limit.List)
    (λ ws. next (sign-shortens (codes ";")) (λ _. gives ws)))) (gives [])

fact-name-shortens : (before : List Item) (facts : ℕ) → Shortens (fact_name_by before facts)
unfolding fact_name_by
fact-name-shortens before facts = token as_name (counted (no_more_facts before facts) limit.Facts)

fact-shortens : (before : List Item) (facts : ℕ) → Shortens (fact_part_by before facts)
unfolding fact_part_by
fact-shortens before facts =
    alternative-shortens _ _ _ (begin (word-shortens (codes "shows")) (λ _. next (fact-name-shortens before facts)
    (λ w. next (sign-shortens (codes ":")) (λ _.
    next (expression-shortens false) (λ cond. next (sign-shortens (codes ";")) (λ _. gives (fact.Shows w cond)))))))
    (begin (word-shortens (codes "goal")) (λ _. next (fact-name-shortens before facts)
    (λ w. next (sign-shortens (codes ";")) (λ _. gives (fact.Goal w)))))

block-shortens : (before : List Item) → Shortens (block_by before)
unfolding block_by
block-shortens before =
    begin (word-shortens (codes "block")) (λ _. next (declared-shortens blocks limit.Blocks before)
    (λ w. next (sign-shortens (codes "{")) (λ _.
    part-then _ _ (listed-keeps (codes "takes")) (λ takes. part-then _ _ (listed-keeps (codes "uses")) (λ uses.
    next (several-shortens (can as_fact_word) (fact_part_by before) (fact-shortens before)) (λ facts. next (sign-shortens (codes "}")) (λ _.
    gives (item.Block w takes uses facts))))))))

item-shortens : (before : List Item) → Shortens (item_part_by before)
unfolding item_part_by
item-shortens before =
    alternative-shortens _ _ _ (constant-shortens before)
    (alternative-shortens _ _ _ (type-shortens before)
    (alternative-shortens _ _ _ (begin (token as_var_word no_pass) (λ words. keeps _ (variable-shortens before words)))
    (alternative-shortens _ _ _ (begin (token as_side no_pass) (λ s. keeps _ (sided-shortens before s)))
    (alternative-shortens _ _ _ (begin (token as_map no_pass) (λ s. keeps _ (table-shortens before s)))
    (alternative-shortens _ _ _ (clause-shortens before) (block-shortens before))))))

more-items : (before : List Item) → Shortens (more_items_by before)
unfolding more_items_by
more-items before = begin (item-shortens before) (λ made. gives (before ++ made ∷ []))

pub items_turn : (before : List Item) (s : ParserState) → begins is_item_start s.rest ≡ true
    → many is_item_start more_items_by before s ≡ bind (many is_item_start more_items_by) (more_items_by before s)
items_turn before s e = turn is_item_start more_items_by more-items before s.at s.rest e

pub items_end : (before : List Item) (s : ParserState) → begins is_item_start s.rest ≡ false
    → many is_item_start more_items_by before s ≡ (Ok before, s)
items_end before s e = repetition-end is_item_start more_items_by more-items before s.at s.rest e

pub items_less : (before next : List Item) (s after : ParserState) → begins is_item_start s.rest ≡ true
    → more_items_by before s ≡ (Ok next, after)
    → length after.rest < length s.rest
items_less before next s after e f = less is_item_start (more_items_by before) (more-items before) s.at s.rest next after e f

pub ruleset items = (items_turn, items_end)

pub facts_is : (items : List Item) (s : ParserState)
    → several_by (can as_fact_word) (fact_part_by items) s
    ≡ bind (many (can as_fact_word) (one_more (fact_part_by items))) (one_more (fact_part_by items) [] s)
facts_is items = several-is (can as_fact_word) (fact_part_by items) (fact-shortens items)

pub facts_turn : (items : List Item) (before : List FactItem) (s : ParserState) → begins (can as_fact_word) s.rest ≡ true
    → many (can as_fact_word) (one_more (fact_part_by items)) before s
    ≡ bind (many (can as_fact_word) (one_more (fact_part_by items))) (one_more (fact_part_by items) before s)
facts_turn items = several-turn (can as_fact_word) (fact_part_by items) (fact-shortens items)

pub facts_end : (items : List Item) (before : List FactItem) (s : ParserState) → begins (can as_fact_word) s.rest ≡ false
    → many (can as_fact_word) (one_more (fact_part_by items)) before s ≡ (Ok before, s)
facts_end items = several-end (can as_fact_word) (fact_part_by items) (fact-shortens items)

pub facts_less : (items : List Item) (before after : List FactItem) (s left : ParserState) → begins (can as_fact_word) s.rest ≡ true
    → one_more (fact_part_by items) before s ≡ (Ok after, left)
    → length left.rest < length s.rest
facts_less items = several-less (can as_fact_word) (fact_part_by items) (fact-shortens items)

pub ruleset facts = (facts_is, facts_turn, facts_end)
