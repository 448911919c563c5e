-- The items for a number have no places of their own.
use Rattle.std.proofs.Common.{◌≡◌, ◌∙◌, sym, ap, refl, ℕ, zero, suc, ◌+◌, true, List, [], ◌∷◌, ◌++◌, map, None}
use Rattle.std.specs.List.{flat_map, range_with_len}
use Rattle.std.proofs.lemmas.List.{map-append}
use Rattle.ft_tree.specs.declared.expr.Expr.{Expr}
use Rattle.ft_tree.specs.declared.expr.Expr.TheVariants as expr
use Rattle.ft_tree.specs.declared.item.Word.{Word}
use Rattle.ft_tree.specs.declared.item.Bound.{Bound}
use Rattle.ft_tree.specs.declared.item.Kind.{Kind}
use Rattle.ft_tree.specs.declared.item.Row.{Row}
use Rattle.ft_tree.specs.declared.item.SectionWord.TheVariants as section
use Rattle.ft_tree.specs.declared.item.FactItem.TheVariants as fact
use Rattle.ft_tree.specs.declared.item.Item.{Item}
use Rattle.ft_tree.specs.declared.item.Item.TheVariants as item
use Rattle.ft_tree.specs.meaning.Bare.{BareSet, bare_bound, bare_expr, bare_item, bare_kind, bare_layer, bare_row, bare_set, bare_word, start}
use Rattle.ft_gen.specs.building.Drafts.{Draft, number, name, truth, before, aged, denied, negated, joined, RowDraft, expr_of, row_of}
use Rattle.ft_gen.specs.building.Drafts.{ItemDraft, variable, memory, table, shown, aimed, item_of, number_bound, word_of}
use Rattle.ft_gen.specs.building.Items.{blocks, drafts, items_for, items_of, switch_type}
use Rattle.ft_gen.proofs.DraftLemmas.{fold_draft, folded}
use Rattle.ft_gen.proofs.TextLemmas.{period}

bare-layers : (d : Draft) → fold_draft Expr bare_layer d ≡ expr_of d
bare-layers (number value) = refl
bare-layers (name text) = refl
bare-layers (truth value) = refl
bare-layers (before text) = refl
bare-layers (aged text) = refl
bare-layers (denied part) = ap (λ (e : Expr). expr.Not e start) (bare-layers part)
bare-layers (negated part) = ap (λ (e : Expr). expr.Neg e start) (bare-layers part)
bare-layers (joined op left right) =
    ap (λ (e : Expr). expr.Two op e (fold_draft Expr bare_layer right) start) (bare-layers left)
    ∙ ap (λ (e : Expr). expr.Two op (expr_of left) e start) (bare-layers right)

bare-draft : (d : Draft) → bare_expr (expr_of d) ≡ expr_of d
unfolding bare_expr
bare-draft d = folded Expr bare_layer d ∙ bare-layers d

abbrev one_row : Expr → Expr → Row
one_row head entry = record { place = start; head = head; entries = entry ∷ [] }

bare-rows : (rows : List RowDraft) → map bare_row (map row_of rows) ≡ map row_of rows
bare-rows [] = refl
bare-rows (row ∷ rows) =
    ap (λ (e : Expr). one_row e (bare_expr (expr_of row.entry)) ∷ map bare_row (map row_of rows)) (bare-draft row.head)
    ∙ ap (λ (e : Expr). one_row (expr_of row.head) e ∷ map bare_row (map row_of rows)) (bare-draft row.entry)
    ∙ ap (λ (more : List Row). row_of row ∷ more) (bare-rows rows)

-- the parts of a draft that are given as trees have no places of their own
abbrev IsBare : ItemDraft → Type 0
IsBare (variable word text of init) = (bare_kind of ≡ of) × (bare_bound init ≡ init)
IsBare (memory text cond hold) = Unit {0}
IsBare (table section target rows) = Unit {0}
IsBare (shown text takes shows cond) = map bare_word takes ≡ takes
IsBare (aimed text takes uses goal) = (map bare_word takes ≡ takes) × (map bare_word uses ≡ uses)

bare-item : (d : ItemDraft) → IsBare d → bare_item (item_of d) ≡ item_of d
bare-item (variable word text of init) (same_kind, same_init) =
    ap (λ (k : Kind). item.Variable word (word_of text) k (bare_bound init)) same_kind
    ∙ ap (λ (b : Bound). item.Variable word (word_of text) of b) same_init
bare-item (memory text cond hold) same =
    ap (λ (e : Expr). item.Held section.Req (word_of text) e (number_bound hold)) (bare-draft cond)
bare-item (table section target rows) same =
    ap (λ (e : Expr). item.Normal section (word_of target) (e ∷ []) (map bare_row (map row_of rows))) (bare-draft (truth true))
    ∙ ap (λ (own : List Row). item.Normal section (word_of target) (expr_of (truth true) ∷ []) own) (bare-rows rows)
bare-item (shown text takes shows cond) same =
    ap (λ (own : List Word). item.Block (word_of text) own [] (fact.Shows (word_of shows) (bare_expr (expr_of cond)) ∷ [])) same
    ∙ ap (λ (e : Expr). item.Block (word_of text) takes [] (fact.Shows (word_of shows) e ∷ [])) (bare-draft cond)
bare-item (aimed text takes uses goal) (same_takes, same_uses) =
    ap (λ (own : List Word). item.Block (word_of text) own (map bare_word uses) (fact.Goal (word_of goal) ∷ [])) same_takes
    ∙ ap (λ (own : List Word). item.Block (word_of text) takes own (fact.Goal (word_of goal) ∷ [])) same_uses

abbrev AllBare : List ItemDraft → Type 0
AllBare [] = Unit {0}
AllBare (d ∷ ds) = IsBare d × AllBare ds

bare-items : (ds : List ItemDraft) → AllBare ds → map bare_item (map item_of ds) ≡ map item_of ds
bare-items [] same = refl
bare-items (d ∷ ds) (here, there) =
    ap (λ (own : Item). own ∷ map bare_item (map item_of ds)) (bare-item d here)
    ∙ ap (λ (more : List Item). item_of d ∷ more) (bare-items ds there)

bare-for : (k : ℕ) → map bare_item (items_for k) ≡ items_for k
bare-for k =
    let of_blocks : AllBare (blocks k) = (refl, ((refl, refl), tt)) in
    bare-items (drafts k) (
      (refl, refl),
      (
        (refl, refl),
        (
          (refl, refl),
          (
            (refl, refl),
            (
              (refl, refl),
              (tt, (tt, (tt, (tt, (tt, (tt, of_blocks)))))),
            ),
          ),
        ),
      ),
    )

bare-range : (from count : ℕ) → map bare_item (flat_map items_for (range_with_len from count)) ≡ flat_map items_for (range_with_len from count)
bare-range from zero = refl
bare-range from (suc count) =
    map-append bare_item (items_for from) (flat_map items_for (range_with_len (from + 1) count))
    ∙ ap (λ (own : List Item). own ++ map bare_item (flat_map items_for (range_with_len (from + 1) count))) (bare-for from)
    ∙ ap (λ (more : List Item). items_for from ++ more) (bare-range (from + 1) count)

abbrev parts : List ℕ → List Item → BareSet
parts text items = record { name = text; period = period; splits = None; depth = None; items = items }

pub bare-made : (n : ℕ) (text : List ℕ) (items : List Item) → items ≡ items_of n → bare_set text period None None items ≡ parts text items
bare-made n text items listed =
    let same : map bare_item items ≡ items =
    ap (λ (own : List Item). map bare_item own) listed ∙ ap (λ (more : List Item). switch_type ∷ more) (bare-range 1 n) ∙ sym listed in
    ap (λ (own : List Item). parts text own) same
