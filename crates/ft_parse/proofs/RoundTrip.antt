-- The canonical text of a tree spells a tree that is the same but for places.
use Rattle.std.proofs.Common.{◌≡◌, ◌∙◌, ℕ, ◌+◌, ◌≤◌, ◌&&◌, Bool, true, false, cond, List, [], ◌∷◌, ◌++◌, codes, decimal, map, Option, Some}
use Rattle.std.proofs.Common.{None, refl, sym, ap, append_assoc}
use Rattle.std.specs.List.{count_by, flat_map, list_all, sum_by}
use Rattle.std.proofs.lemmas.Bool.{and_parts, lt-leb}
use Rattle.std.proofs.lemmas.List.{length-map}
use Rattle.std.proofs.lemmas.Simd.{map-map}
use Rattle.std.proofs.lemmas.List.Concat.{flat_map-cons}
use Rattle.std.proofs.lemmas.List.Sums.{sum_by-append, sum_by-cons}
use native.Mathlib.Omega.{arith}
use Rattle.ft_lex.specs.declared.token.TokenKind.TheVariants as token_kind
use Rattle.ft_base.specs.Names.{is_reserved_word, reserved_words}
use Rattle.ft_tree.specs.declared.item.Item.{Item}
use Rattle.ft_tree.specs.declared.item.Item.TheVariants as item
use Rattle.ft_tree.specs.declared.item.Number.{Number}
use Rattle.ft_tree.specs.declared.tree.Tree.{Tree}
use Rattle.ft_tree.specs.meaning.Canonical.{canonical}
use Rattle.ft_tree.specs.meaning.Limits.{IsSet, Sort, constants, types, variables, memories, tables, clauses, blocks, facts_of, is_item}
use Rattle.ft_tree.specs.meaning.Limits.{is_number, is_option, is_same_sort, limit_of, sort_of}
use Rattle.ft_tree.specs.meaning.Line
use Rattle.ft_tree.specs.meaning.Line.{Line}
use Rattle.ft_tree.specs.meaning.Lines.{item_lines, one_line, option_lines, period_pieces, set_lines, set_pieces}
use Rattle.ft_tree.specs.laws.Tokens.{CanonicalTokens, Shape, kind_of}
use Rattle.ft_read.specs.meaning.Lexeme.{Lexeme, lexeme_of, lexemes_of}
use Rattle.ft_parse.specs.meaning.Language.{PassNoLimit, Step, lexemes, nothing, repeated, ◌▷◌}
use Rattle.ft_parse.specs.meaning.Room.{is_full}
use Rattle.ft_parse.specs.meaning.Items
use Rattle.ft_parse.specs.meaning.Items.{set}
use Rattle.ft_parse.specs.meaning.Parse.{AreLexemes, parts_of}
use Rattle.ft_tree.specs.meaning.Bare.{BareSet, bare_fact, bare_item, bare_option, bare_set, start}
use Rattle.ft_parse.specs.declared.parts.Parts.{Parts}
use Rattle.ft_parse.proofs.ItemsWritten.{item-written, line_shapes, lines-append, lines-none, one-line}
use Rattle.ft_parse.proofs.PartsWritten.{a-name, a-number, more-same, one-of, sh, skip-sign, skip-word}
use Rattle.ft_parse.proofs.Writes.{Writes, and_then, left, made, many, next, none, one, right, shape, shaped, shapes}

abbrev pub bare_parts : Parts → BareSet
bare_parts parts = bare_set parts.name parts.period parts.splits parts.depth parts.items

-- what the limits count is the same of bare items
bare-sort : (x : Item) → sort_of (bare_item x) ≡ sort_of x
bare-sort (item.Constant name sign value) = refl
bare-sort (item.RangeType name lo hi) = refl
bare-sort (item.EnumType name members) = refl
bare-sort (item.Variable words name of init) = refl
bare-sort (item.Held side name cond hold) = refl
bare-sort (item.Hyst side name term lo hi begins) = refl
bare-sort (item.Normal s target cells rows) = refl
bare-sort (item.Inverted s target cells rows) = refl
bare-sort (item.Vector s cells rows) = refl
bare-sort (item.Nat m cond) = refl
bare-sort (item.Block name takes uses facts) = refl

bare-facts : (x : Item) → facts_of (bare_item x) ≡ facts_of x
bare-facts (item.Constant name sign value) = refl
bare-facts (item.RangeType name lo hi) = refl
bare-facts (item.EnumType name members) = refl
bare-facts (item.Variable words name of init) = refl
bare-facts (item.Held side name cond hold) = refl
bare-facts (item.Hyst side name term lo hi begins) = refl
bare-facts (item.Normal s target cells rows) = refl
bare-facts (item.Inverted s target cells rows) = refl
bare-facts (item.Vector s cells rows) = refl
bare-facts (item.Nat m cond) = refl
bare-facts (item.Block name takes uses facts) = length-map facts bare_fact

same-sort : (sort : Sort) → is_same_sort sort sort ≡ true
same-sort constants = refl
same-sort types = refl
same-sort variables = refl
same-sort memories = refl
same-sort tables = refl
same-sort clauses = refl
same-sort blocks = refl

bare-sum : (f : Item → ℕ) → ((x : Item) → f (bare_item x) ≡ f x) → (xs : List Item) → sum_by f (map bare_item xs) ≡ sum_by f xs
bare-sum f same [] = refl
bare-sum f same (x ∷ xs) =
    sum_by-cons f (bare_item x) (map bare_item xs) ∙ (λ i. same x i + bare-sum f same xs i) ∙ sym (sum_by-cons f x xs)

same-sum : (f : Item → ℕ) → ((x : Item) → f (bare_item x) ≡ f x) → (xs ys : List Item) → map bare_item xs ≡ map bare_item ys
    → sum_by f xs ≡ sum_by f ys
same-sum f same xs ys e = sym (bare-sum f same xs) ∙ ap (sum_by f) e ∙ bare-sum f same ys

-- what is counted before an item and of it
sum-so-far : (f : Item → ℕ) → ((x : Item) → f (bare_item x) ≡ f x) → (whole front rest : List Item) (x : Item) (s : List Item)
    → whole ≡ front ++ x ∷ rest → map bare_item s ≡ map bare_item front → sum_by f s + f x ≤ sum_by f whole
sum-so-far f same whole front rest x s is good =
    omega (arith, same-sum f same s front good, ap (sum_by f) is, sum_by-append f front (x ∷ rest), sum_by-cons f x rest)

room-for : (whole front rest : List Item) (x : Item) (s : List Item)
    → ((sort : Sort) → count_by (λ y. is_same_sort sort (sort_of y)) whole ≤ limit_of sort)
    → whole ≡ front ++ x ∷ rest → map bare_item s ≡ map bare_item front → is_full (sort_of x) s ≡ false
room-for whole front rest x s counts is good =
    let sort : Sort = sort_of x in
    let one_of : Item → ℕ = λ y. cond (is_same_sort sort (sort_of y)) 1 0 in
    let itself : one_of x ≡ 1 = ap (λ (b : Bool). cond b 1 0) (same-sort sort) in
    let so_far = sum-so-far one_of
    (λ y. ap (λ (k : Sort). cond (is_same_sort sort k) 1 0) (bare-sort y)) whole front rest x s is good in
    let most = counts sort in
    lt-leb (limit_of sort) (count_by (λ y. is_same_sort sort (sort_of y)) s) (omega (arith, itself, so_far, most))

items-written : {at : ℕ} (items : List Item) → list_all is_item items ≡ true
    → ((sort : Sort) → count_by (λ y. is_same_sort sort (sort_of y)) items ≤ limit_of sort)
    → sum_by facts_of items ≤ 300 → Writes (repeated Items.more_items []) at (flat_map (λ x. line_shapes (item_lines x)) items)
    (λ xs. map bare_item xs ≡ map bare_item items)
items-written {at} items all counts facts =
    many Items.more_items (λ x. line_shapes (item_lines x)) items (λ front xs. map bare_item xs ≡ map bare_item front)
    (λ k front rest x s is good. made {G = λ m. bare_item m ≡ bare_item x} (λ m. s ++ m ∷ [])
    (item-written s x (one-of is_item items front rest x is all) (room-for items front rest x s counts is good)
    (omega (arith, sum-so-far facts_of bare-facts items front rest x s is good, facts)))
    (λ m same. more-same bare_item s front m x good same))
    at [] items [] refl refl

setting-written : {at : ℕ} (text : List ℕ) (o : Option Number) → kind_of text ≡ token_kind.Word → is_option o ≡ true
    → Writes (Items.setting text) at (line_shapes (option_lines text o)) (λ m. bare_option m ≡ bare_option o)
unfolding is_reserved_word reserved_words
setting-written text None is h =
    shaped (sym lines-none) (right (Items.word text ▷ λ _. Items.number ▷ λ n. Items.sign (codes ";") ▷ λ _. nothing (Some n))
    (none refl))
setting-written text (Some n) is h =
    shaped (sym (one-line (Line.token text ∷ Line.token (decimal n.value) ∷ []))) (left (nothing None) (skip-word text is (λ _.
    next {G = λ m. m.value ≡ n.value} (a-number n.value h)
    (λ m same. skip-sign (codes ";") refl (λ _. none (λ i. Some (record { value = same i; place = start })))))))

flat-lines : (items : List Item) → line_shapes (flat_map item_lines items) ≡ flat_map (λ x. line_shapes (item_lines x)) items
flat-lines [] = lines-none
flat-lines (x ∷ items) =
    ap line_shapes (flat_map-cons item_lines x items) ∙ lines-append (item_lines x) (flat_map item_lines items)
    ∙ ap (λ (ss : List Shape). line_shapes (item_lines x) ++ ss) (flat-lines items)
    ∙ sym (flat_map-cons (λ y. line_shapes (item_lines y)) x items)

-- the lines of a set, and the text's end
end-shape : List Shape
end-shape = (token_kind.End, []) ∷ []

set-shapes : (name : List ℕ) (period : Number) (splits depth : Option Number) (items : List Item)
    → line_shapes (set_lines name period splits depth items)
    ≡ (shapes (set_pieces name) ++ sh (codes ";") ∷ []) ++ ((shapes (period_pieces period) ++ sh (codes ";") ∷ [])
    ++ (line_shapes (option_lines (codes "splits") splits) ++ (line_shapes (option_lines (codes "depth") depth) ++ flat_map
    (λ x. line_shapes (item_lines x)) items)))
set-shapes name period splits depth items =
    let split : List Line = option_lines (codes "splits") splits in
    let deep : List Line = option_lines (codes "depth") depth in
    let last : List Line = flat_map item_lines items in
    lines-append (one_line (set_pieces name)) (one_line (period_pieces period) ++ (split ++ (deep ++ last)))
    ∙ (λ i. one-line (set_pieces name) i ++ lines-append (one_line (period_pieces period)) (split ++ (deep ++ last)) i)
    ∙ ap (λ (ss : List Shape). (shapes (set_pieces name) ++ sh (codes ";") ∷ []) ++ ss)
    ((λ i. one-line (period_pieces period) i ++ lines-append split (deep ++ last) i)
    ∙ ap (λ (ss : List Shape). (shapes (period_pieces period) ++ sh (codes ";") ∷ []) ++ (line_shapes split ++ ss))
    (lines-append deep last ∙ ap (λ (ss : List Shape). line_shapes deep ++ ss) (flat-lines items)))

set-ended : (a b c : List Shape) → (a ++ (b ++ c)) ++ end-shape ≡ a ++ (b ++ (c ++ end-shape))
set-ended a b c = append_assoc a (b ++ c) end-shape ∙ ap (λ (ss : List Shape). a ++ ss) (append_assoc b c end-shape)

set-written : (name : List ℕ) (period : Number) (splits depth : Option Number) (items : List Item)
    → IsSet name period splits depth items
    → Writes set 0 (line_shapes (set_lines name period splits depth items) ++ end-shape)
    (λ parts. bare_parts parts
    ≡ bare_parts (record { name = name; period = period; splits = splits; depth = depth; items = items }))
unfolding is_reserved_word reserved_words end-shape
set-written name period splits depth items h =
    let (numbers, deep) = and_parts (is_number period.value && is_option splits) (is_option depth) h.numbers in
    let (small, split) = and_parts (is_number period.value) (is_option splits) numbers in
    let layed = ap (λ (ss : List Shape). ss ++ end-shape) (set-shapes name period splits depth items) in
    let terminated = set-ended (line_shapes (option_lines (codes "splits") splits)) (line_shapes (option_lines (codes "depth") depth))
    (flat_map (λ x. line_shapes (item_lines x)) items) in
    let front = λ (ss : List Shape). sh (codes "set") ∷ sh name ∷ sh (codes ";") ∷ sh (codes "period") ∷ sh
    (decimal period.value) ∷ sh (codes "ms") ∷ sh (codes ";") ∷ ss in
    shaped (sym (layed ∙ ap front terminated)) (skip-word (codes "set") refl (λ _. next {G = λ w. w.text ≡ name} (a-name name h.named)
    (λ w text.
    skip-sign (codes ";") refl
    (λ _. skip-word (codes "period") refl (λ _. next {G = λ n. n.value ≡ period.value} (a-number period.value small)
    (λ n same.
    skip-word (codes "ms") refl (λ _. skip-sign (codes ";") refl (λ _.
    and_then {G = λ m. bare_option m ≡ bare_option splits} (setting-written (codes "splits") splits refl split) (λ s same_splits.
    and_then {G = λ m. bare_option m ≡ bare_option depth} (setting-written (codes "depth") depth refl deep) (λ d same_depth.
    and_then {G = λ xs. map bare_item xs ≡ map bare_item items} (items-written items h.parts h.counts h.facts) (λ xs same_items.
    next {G = λ _. Unit {0}} (one (token_kind.End, []) (λ place. (place, refl, refl, tt))) (λ _ _.
    none (λ i. record {
      name = text i;
      period = record { value = same i; place = start };
      splits = same_splits i;
      depth =
          same_depth i;
      items = same_items i;
    })))))))))))))

-- by the law of canonical tokens
pub round-trip : CanonicalTokens → (tree : Tree) → (steps : List Step) × (parts : Parts)
    × AreLexemes (canonical tree) (lexemes steps) × set 0 steps parts × PassNoLimit steps × (bare_parts parts ≡ bare_parts (parts_of tree))
unfolding line_shapes end-shape
round-trip law tree =
    let (tokens, are, same_shapes) = law tree in
    let ls : List Lexeme = lexemes_of (canonical tree) tokens in
    let written = set-written tree.name tree.period tree.splits tree.depth tree.items tree.lawful in
    let spelt = written.all ls (map-map shape (lexeme_of (canonical tree)) tokens ∙ same_shapes) in
    (spelt.steps, spelt.value, (tokens, are, sym spelt.same), spelt.means, spelt.no_limit, spelt.good)
