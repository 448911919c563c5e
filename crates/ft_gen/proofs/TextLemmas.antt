-- The text of the items for each number, and that they are items.
use Rattle.std.proofs.Common.{◌≡◌, ◌∙◌, sym, ap, subst, refl, ℕ, zero, suc, ◌+◌, ◌*◌, ◌<◌, ◌≤◌, Bool, true, List, ◌++◌, ◌&&◌}
use Rattle.std.proofs.Common.{codes, inl, inr, None, cond, arith}
use Rattle.std.specs.List.{flat_map, list_all, range_with_len, sum_by}
use Rattle.std.specs.Fmt.{digits}
use Rattle.std.specs.Str.{bytes_eq}
use Rattle.std.proofs.Math.Nat.{eq-or-lt_of_le}
use Rattle.std.proofs.lemmas.Bool.{and_parts}
use Rattle.std.proofs.lemmas.Grind.{flat_map-append}
use Rattle.std.proofs.lemmas.List.Folds.{list_all-append}
use Rattle.std.proofs.lemmas.List.Sums.{sum_by-append, sum_by-cons}
use Rattle.std.proofs.lemmas.Slice.Eq.{bytes_eq-Decides}
use Rattle.ft_base.specs.Names.{is_name, is_reserved_word, reserved_words}
use Rattle.ft_tree.specs.declared.item.Item.{Item}
use Rattle.ft_tree.specs.declared.item.Number.{Number}
use Rattle.ft_tree.specs.meaning.Bare.{start}
use Rattle.ft_tree.specs.meaning.Expression.{operand}
use Rattle.ft_tree.specs.meaning.Limits.{IsSet, Sort, constants, types, variables, memories, tables, clauses, blocks, facts_of, is_item}
use Rattle.ft_tree.specs.meaning.Limits.{is_same_sort, limit_of, sort_of}
use Rattle.ft_tree.specs.meaning.Line.{Line, hugs_after, hugs_before, is_history, is_open, line_bytes}
use Rattle.ft_tree.specs.meaning.Lines.{item_lines, one_line, period_pieces, set_lines, set_pieces}
use Rattle.ft_gen.specs.building.Items.{drafts, items_for, items_of, numbered, switch_type}
use Rattle.ft_gen.specs.meaning.Generated.{generated, head_template, items_template, lines_for}
use Rattle.ft_gen.proofs.DraftLemmas.{draft_lines, item_passes, all_lines-drafts, all-pass}

abbrev pub period : Number
period = record { value = 50; place = start }

-- the lines of the head
abbrev head_lines : ℕ → List Line
head_lines n = one_line (set_pieces (numbered (codes "gen") n)) ++ (one_line (period_pieces period) ++ item_lines switch_type)

-- whether the drafts for a number have the template's text
abbrev has_text : ℕ → Bool
has_text k = bytes_eq (flat_map line_bytes (flat_map draft_lines (drafts k))) (lines_for k items_template)

abbrev has_head : ℕ → Bool
has_head n = bytes_eq (flat_map line_bytes (head_lines n)) (lines_for n head_template)

abbrev are_items : ℕ → Bool
are_items k = list_all item_passes (drafts k)

abbrev is_set_name : ℕ → Bool
is_set_name n = is_name (numbered (codes "gen") n)

have-text : list_all has_text (range_with_len 1 60) ≡ true
unfolding digits operand hugs_after hugs_before is_history is_open
have-text = refl

have-head : list_all has_head (range_with_len 1 60) ≡ true
unfolding digits hugs_after hugs_before is_history is_open
have-head = refl

all-items : list_all are_items (range_with_len 1 60) ≡ true
unfolding digits operand is_reserved_word reserved_words
all-items = refl

set-names : list_all is_set_name (range_with_len 1 60) ≡ true
unfolding digits is_reserved_word reserved_words
set-names = refl

switch-passes : is_item switch_type ≡ true
unfolding is_reserved_word reserved_words
switch-passes = refl

-- what passes for each number of a range
at-one : (test : ℕ → Bool) (from count k : ℕ) → list_all test (range_with_len from count) ≡ true → from ≤ k → k < from + count
    → test k ≡ true
at-one test from zero k h low high = absurd (omega arith)
at-one test from (suc count) k h low high =
    let both = and_parts (test from) (list_all test (range_with_len (from + 1) count)) h in
    elim (eq-or-lt_of_le low) [
      | inl same ↦ subst (λ (j : ℕ). test j ≡ true) same both.0
      | inr above ↦ at-one test (from + 1) count k both.1 (omega arith) (omega arith)
    ]

text-at : (k : ℕ) → 1 ≤ k → k ≤ 60 → flat_map line_bytes (flat_map item_lines (items_for k)) ≡ lines_for k items_template
text-at k low high =
    ap (flat_map line_bytes) (all_lines-drafts (drafts k)) ∙ (bytes_eq-Decides _ _).0 (at-one has_text 1 60 k have-text low (omega arith))

head-at : (n : ℕ) → 1 ≤ n → n ≤ 60 → flat_map line_bytes (head_lines n) ≡ lines_for n head_template
head-at n low high = (bytes_eq-Decides _ _).0 (at-one has_head 1 60 n have-head low (omega arith))

items-at : (k : ℕ) → 1 ≤ k → k ≤ 60 → list_all is_item (items_for k) ≡ true
items-at k low high = all-pass (drafts k) ∙ at-one are_items 1 60 k all-items low (omega arith)

module _ (made : ℕ → List Item) where
  texts-from : (text : ℕ → List ℕ) → ((k : ℕ) → 1 ≤ k → k ≤ 60 → flat_map line_bytes (flat_map item_lines (made k)) ≡ text k)
      → (from count : ℕ) → 1 ≤ from → from + count ≤ 61
      → flat_map line_bytes (flat_map item_lines (flat_map made (range_with_len from count))) ≡ flat_map text (range_with_len from count)
  texts-from text each from zero low high = refl
  texts-from text each from (suc count) low high =
      let rest = flat_map made (range_with_len (from + 1) count) in
      ap (flat_map line_bytes) (flat_map-append item_lines (made from) rest)
      ∙ flat_map-append line_bytes (flat_map item_lines (made from)) (flat_map item_lines rest)
      ∙ ap (λ bytes. bytes ++ flat_map line_bytes (flat_map item_lines rest)) (each from low (omega arith))
      ∙ ap (λ bytes. text from ++ bytes) (texts-from text each (from + 1) count (omega arith) (omega arith))

  items-from : ((k : ℕ) → 1 ≤ k → k ≤ 60 → list_all is_item (made k) ≡ true) → (from count : ℕ) → 1 ≤ from → from + count ≤ 61
      → list_all is_item (flat_map made (range_with_len from count)) ≡ true
  items-from each from zero low high = refl
  items-from each from (suc count) low high =
      list_all-append is_item (made from) (flat_map made (range_with_len (from + 1) count))
      ∙ ap (λ b. b && list_all is_item (flat_map made (range_with_len (from + 1) count))) (each from low (omega arith))
      ∙ items-from each (from + 1) count (omega arith) (omega arith)

  sums-from : (weight : Item → ℕ) (each : ℕ) → ((k : ℕ) → sum_by weight (made k) ≡ each) → (from count : ℕ)
      → sum_by weight (flat_map made (range_with_len from count)) ≡ count * each
  sums-from weight each same from zero = omega arith
  sums-from weight each same from (suc count) =
      let here = same from in
      let there = sums-from weight each same (from + 1) count in
      sum_by-append weight (made from) (flat_map made (range_with_len (from + 1) count)) ∙ omega arith

-- a sum over the items of the set
sum-within : (weight : Item → ℕ) (each limit n : ℕ) → ((k : ℕ) → sum_by weight (items_for k) ≡ each)
    → weight switch_type + n * each ≤ limit → sum_by weight (items_of n) ≤ limit
sum-within weight each limit n same fits =
    let total = sums-from items_for weight each same 1 n in
    let first = sum_by-cons weight switch_type (flat_map items_for (range_with_len 1 n)) in
    omega arith

-- how much an item counts in a sort
abbrev counted : Sort → Item → ℕ
counted sort item = cond {A = ℕ} (is_same_sort sort (sort_of item)) 1 0

counts-at : (n : ℕ) → n ≤ 60 → (sort : Sort) → sum_by (counted sort) (items_of n) ≤ limit_of sort
counts-at n high constants = sum-within (counted constants) 0 200 n (λ k. refl) (omega arith)
counts-at n high types = sum-within (counted types) 0 200 n (λ k. refl) (omega arith)
counts-at n high variables = sum-within (counted variables) 5 500 n (λ k. refl) (omega arith)
counts-at n high memories = sum-within (counted memories) 1 200 n (λ k. refl) (omega arith)
counts-at n high tables = sum-within (counted tables) 5 300 n (λ k. refl) (omega arith)
counts-at n high clauses = sum-within (counted clauses) 0 100 n (λ k. refl) (omega arith)
counts-at n high blocks = sum-within (counted blocks) 2 300 n (λ k. refl) (omega arith)

set-at : (n : ℕ) → 1 ≤ n → n ≤ 60 → IsSet (numbered (codes "gen") n) period None None (items_of n)
set-at n low high = record {
  named = at-one is_set_name 1 60 n set-names low (omega arith);
  numbers = refl;
  parts = ap (λ b. b && list_all is_item (flat_map items_for (range_with_len 1 n))) switch-passes
      ∙ items-from items_for items-at 1 n (omega arith) (omega arith);
  counts = counts-at n high;
  facts = sum-within facts_of 2 300 n (λ k. refl) (omega arith);
}

pub set-made : (n : ℕ) (name : List ℕ) (items : List Item) → 1 ≤ n → n ≤ 60 → name ≡ numbered (codes "gen") n → items ≡ items_of n
    → IsSet name period None None items
set-made n name items low high named listed =
    subst (λ (own : List ℕ). IsSet own period None None items) (sym named)
    (subst (λ (own : List Item). IsSet (numbered (codes "gen") n) period None None own) (sym listed) (set-at n low high))

pub text-made : (n : ℕ) (name : List ℕ) (items : List Item) → 1 ≤ n → n ≤ 60 → name ≡ numbered (codes "gen") n → items ≡ items_of n
    → flat_map line_bytes (set_lines name period None None items) ≡ generated n
text-made n name items low high named listed =
    ap (λ (own : List ℕ). flat_map line_bytes (set_lines own period None None items)) named
    ∙ ap (λ (own : List Item). flat_map line_bytes (set_lines (numbered (codes "gen") n) period None None own)) listed
    ∙ flat_map-append line_bytes (head_lines n) (flat_map item_lines (flat_map items_for (range_with_len 1 n)))
    ∙ ap (λ bytes. bytes ++ flat_map line_bytes (flat_map item_lines (flat_map items_for (range_with_len 1 n)))) (head-at n low high)
    ∙ ap (λ bytes. lines_for n head_template ++ bytes)
    (texts-from items_for (λ k. lines_for k items_template) text-at 1 n (omega arith) (omega arith))
