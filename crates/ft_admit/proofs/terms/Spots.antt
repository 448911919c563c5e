-- What a tree without a fault spells passes each test that the terms and conditions of its clean expressions pass.
use Rattle.std.proofs.Common.{◌≡◌, ◌∙◌, sym, subst, refl, ◌≤◌, Bool, true, ◌&&◌, List, [], ◌∷◌, ◌++◌, map, length, None, is_none, nat_le}
use Rattle.std.proofs.Common.{leb-true, true≢false, if◌then◌else◌}
use Rattle.std.specs.List.{flat_map, list_all}
use Rattle.std.proofs.lemmas.Bool.{and_from, and_parts}
use Rattle.ft_tree.specs.declared.expr.Expr.{Expr}
use Rattle.ft_tree.specs.declared.item.FactItem.{FactItem}
use Rattle.ft_tree.specs.declared.item.FactItem.TheVariants as fact_item
use Rattle.ft_tree.specs.declared.item.Item.{Item}
use Rattle.ft_tree.specs.declared.item.Item.TheVariants as item
use Rattle.ft_tree.specs.declared.item.NatWord.{NatWord}
use Rattle.ft_tree.specs.declared.item.NatWord.TheVariants as moment
use Rattle.ft_tree.specs.declared.item.Row.{Row}
use Rattle.ft_tree.specs.declared.item.SectionWord.{SectionWord}
use Rattle.ft_tree.specs.declared.item.SectionWord.TheVariants as section_word
use Rattle.ft_tree.specs.declared.item.VRow.{VRow}
use Rattle.ft_tree.specs.declared.item.Word.{Word}
use Rattle.ft_tree.specs.meaning.Expression.{expr_pieces}
use Rattle.ft_tree.specs.meaning.Limits.{are_entries, are_listed, is_bound, is_count, is_expr, is_fact, is_hold, is_item, is_lawful, is_row}
use Rattle.ft_tree.specs.meaning.Limits.{is_side as is_side_word, is_vrow, is_word, nested}
use Rattle.ft_tree.specs.laws.Chains.{five-hold, four-hold, three-hold}
use Rattle.ft_core.specs.declared.tables.Block.{Block}
use Rattle.ft_core.specs.declared.tables.Fact.{Fact}
use Rattle.ft_core.specs.declared.tables.Fact.TheVariants as fact
use Rattle.ft_core.specs.declared.tables.Grid.{Grid}
use Rattle.ft_core.specs.declared.tables.Grid.TheVariants as grid
use Rattle.ft_core.specs.declared.tables.Memory.{Memory}
use Rattle.ft_core.specs.declared.tables.Memory.TheVariants.{Held, Hyst}
use Rattle.ft_core.specs.declared.tables.Section.{Section}
use Rattle.ft_core.specs.declared.tables.Section.TheVariants as section
use Rattle.ft_core.specs.declared.tables.Side.{Side}
use Rattle.ft_core.specs.declared.tables.Side.TheVariants as side
use Rattle.ft_core.specs.declared.tables.Table.{Table}
use Rattle.ft_core.specs.declared.term.Cond.{Cond}
use Rattle.ft_core.specs.declared.term.Term.{Term}
use Rattle.ft_core.specs.checked.Sound.{side_of}
use Rattle.ft_names.specs.declared.asked.Asked.{Asked}
use Rattle.ft_names.specs.declared.asked.Asked.TheVariants as asked
use Rattle.ft_names.specs.declared.asked.ExprKind.TheVariants.{Number}
use Rattle.ft_names.specs.declared.site.Site.{Site}
use Rattle.ft_names.specs.declared.site.Site.TheVariants as site
use Rattle.ft_names.specs.declared.walk.Entries.TheVariants.{Conditions, Terms}
use Rattle.ft_names.specs.declared.walk.Role.TheVariants as role
use Rattle.ft_names.specs.meaning.Cards.{Env}
use Rattle.ft_names.specs.meaning.Parts.{first_part}
use Rattle.ft_names.specs.meaning.Spots.{Spot, condition, conditions, fact_spots, item_spots, moment_site, named, number, row_spots}
use Rattle.ft_names.specs.meaning.Spots.{section_site, term_for, terms, vector_row}
use Rattle.ft_types.specs.meaning.Mismatch.{asked_for, mismatch, mismatch_spot}
use Rattle.ft_types.specs.meaning.Sides.{side_in, side_spot, wrong_side}
use Rattle.ft_measure.specs.meaning.SlopeFaults.{slope_in, slope_spot}
use Rattle.ft_measure.specs.meaning.Slopes.{slope}
use Rattle.ft_build.specs.meaning.Blocks.{build_block, fact_of}
use Rattle.ft_build.specs.meaning.Conditions.{cond_of}
use Rattle.ft_build.specs.meaning.Tables.{build_clause, build_memory, build_table, head_of, inverted_grid, is_moment, normal_grid}
use Rattle.ft_build.specs.meaning.Tables.{row_conds, row_terms, section_of, side_of as side_by, vector_grid, vector_terms}
use Rattle.ft_build.specs.meaning.Terms.{term_of}
use Rattle.ft_admit.proofs.terms.Lists.{all-flat_map, all-follow, is-none, parts-pass}
use Rattle.ft_admit.proofs.terms.Clean.{IsClean, same-asked}

-- a clean expression of few tokens
pub record IsFine (env : Env) (s : Site) (e : Expr) : Type 0 where
  pub asked : Asked
  pub clean : IsClean env s asked e
  pub few : length (expr_pieces e) ≤ 1000

-- no fault of the wrong side, of the wrong kind, or of a term that isn't linear
abbrev pub is_clean : Env → Spot → Bool
is_clean env spot = is_none (side_spot env spot) && (is_none (mismatch_spot env spot) && is_none (slope_spot env spot))

-- a clean item within the limits
abbrev pub is_fine_item : Env → Item → Bool
is_fine_item env x = list_all (is_clean env) (item_spots x) && is_item x

-- where the tables of a section, and the memories of a side, stand
abbrev pub section_place : Section → Site
section_place section.In = site.In
section_place section.Req = site.Req
section_place section.Sof = site.Sof
section_place section.Out = site.Out

abbrev pub side_place : Side → Site
side_place side.Req = site.Req
side_place side.Sof = site.Sof

same-section : (w : SectionWord) → section_place (section_of w) ≡ section_site w
same-section section_word.In = refl
same-section section_word.Req = refl
same-section section_word.Sof = refl
same-section section_word.Out = refl

same-side : (w : SectionWord) → is_side_word w ≡ true → side_place (side_by w) ≡ section_site w
same-side section_word.Req e = refl
same-side section_word.Sof e = refl
same-side section_word.In e = absurd (true≢false (sym e))
same-side section_word.Out e = absurd (true≢false (sym e))

alone : (b : Bool) → b ≡ true → (b && true) ≡ true
alone b h = and_from b true h refl

three-pass : (a b c : Bool) → a ≡ true → b ≡ true → c ≡ true → (a && b && c) ≡ true
three-pass a b c h k l = and_from (a && b) c (and_from a b h k) l

module _ (env : Env) where
  fine-by : (s : Site) (a : Asked) (e : Expr) → side_in env s e ≡ None → first_part (mismatch env) a e ≡ None → slope_in env e ≡ None
      → is_expr e ≡ true → IsFine env s e
  fine-by s a e sides kinds slopes lawful = record {
    asked = a;
    clean = record {
      sides = same-asked (wrong_side env s) e a asked.Anything ∙ sides;
      kinds = kinds;
      slopes = same-asked (slope env) e a asked.Anything ∙ slopes;
    };
    few = leb-true (length (expr_pieces e)) 1000
        (three-hold (is_lawful e) (nat_le (length (expr_pieces e)) 1000) (nat_le (nested e).depth 64) lawful).1;
  }

  no-faults : (spot : Spot) → is_clean env spot ≡ true
      → (side_spot env spot ≡ None) × (mismatch_spot env spot ≡ None) × (slope_spot env spot ≡ None)
  no-faults spot h =
      let first = and_parts (is_none (side_spot env spot)) (is_none (mismatch_spot env spot) && is_none (slope_spot env spot)) h in
      let rest = and_parts (is_none (mismatch_spot env spot)) (is_none (slope_spot env spot)) first.1 in
      (is-none (side_spot env spot) first.0, is-none (mismatch_spot env spot) rest.0, is-none (slope_spot env spot) rest.1)

  fine-condition : (s : Site) (e : Expr) → is_clean env (condition s e) ≡ true → is_expr e ≡ true → IsFine env s e
  fine-condition s e h k = let none = no-faults (condition s e) h in fine-by s asked.Condition e none.0 none.1 none.2 k

  fine-number : (s : Site) (e : Expr) → is_clean env (number s e) ≡ true → is_expr e ≡ true → IsFine env s e
  fine-number s e h k = let none = no-faults (number s e) h in fine-by s (asked.Term Number) e none.0 none.1 none.2 k

  fine-term : (s : Site) (w : Word) (e : Expr) → is_clean env (term_for s w e) ≡ true → is_expr e ≡ true → IsFine env s e
  fine-term s w e h k = let none = no-faults (term_for s w e) h in fine-by s (asked_for (env w.text)) e none.0 none.1 none.2 k

-- tests of conditions and of terms, by where they stand
module _ (of_cond : Site → Cond → Bool) (of_term : Site → Term → Bool) where
  abbrev pub grid_passes : Site → Grid → Bool
  grid_passes s (grid.Normal target columns rows entries) = list_all (of_cond s) columns && list_all (of_cond s) rows
      && list_all (list_all (of_term s)) entries
  grid_passes s (grid.Inverted target headers rows entries) = list_all (of_term s) headers && list_all (of_cond s) rows
      && list_all (list_all (of_cond s)) entries
  grid_passes s (grid.Vector columns targets entries) = list_all (of_cond s) columns && list_all (list_all (of_term s)) entries

  abbrev pub table_passes : Table → Bool
  table_passes table = grid_passes (section_place table.section) table.grid

  abbrev pub memory_at : Site → Memory → Bool
  memory_at s (Held name sd c hold) = of_cond s c
  memory_at s (Hyst name sd e lo hi start) = of_term s e

  abbrev pub memory_passes : Memory → Bool
  memory_passes memory = memory_at (side_place (side_of memory)) memory

  abbrev pub fact_passes : Fact → Bool
  fact_passes (fact.Invariant name c) = of_cond site.Shows c
  fact_passes (fact.Goal x) = true

  abbrev pub block_passes : Block → Bool
  block_passes block = list_all fact_passes block.facts

  -- what clean expressions spell passes
  pub record Passes (env : Env) : Type 0 where
    pub conds : (s : Site) (e : Expr) → IsFine env s e → of_cond s (cond_of env e) ≡ true
    pub terms : (s : Site) (e : Expr) → IsFine env s e → of_term s (term_of env e) ≡ true

  module _ (env : Env) (passes : Passes env) where
    abbrev AreClean : List Spot → Type 0
    AreClean list = list_all (is_clean env) list ≡ true

    conds-pass : (s : Site) (es : List Expr) → AreClean (conditions s es) → list_all is_expr es ≡ true
        → list_all (of_cond s) (map (cond_of env) es) ≡ true
    conds-pass s [] h k = refl
    conds-pass s (e ∷ es) h k =
        let clean = and_parts (is_clean env (condition s e)) (list_all (is_clean env) (conditions s es)) h in
        let lawful = and_parts (is_expr e) (list_all is_expr es) k in
        and_from (of_cond s (cond_of env e)) (list_all (of_cond s) (map (cond_of env) es))
        (passes.conds s e (fine-condition env s e clean.0 lawful.0)) (conds-pass s es clean.1 lawful.1)

    terms-pass : (s : Site) (w : Word) (es : List Expr) → AreClean (terms s w es) → list_all is_expr es ≡ true
        → list_all (of_term s) (map (term_of env) es) ≡ true
    terms-pass s w [] h k = refl
    terms-pass s w (e ∷ es) h k =
        let clean = and_parts (is_clean env (term_for s w e)) (list_all (is_clean env) (terms s w es)) h in
        let lawful = and_parts (is_expr e) (list_all is_expr es) k in
        and_from (of_term s (term_of env e)) (list_all (of_term s) (map (term_of env) es))
        (passes.terms s e (fine-term env s w e clean.0 lawful.0)) (terms-pass s w es clean.1 lawful.1)

    exprs-of : (es : List Expr) → are_entries es ≡ true → list_all is_expr es ≡ true
    exprs-of es h = (and_parts (is_count 32 (length es)) (list_all is_expr es) h).1

    normal-rows : (s : Site) (w : Word) (rows : List Row) → AreClean (flat_map (row_spots Terms s w) rows) → list_all is_row rows ≡ true
        → (list_all (of_cond s) (map (head_of env) rows) ≡ true) × (list_all (list_all (of_term s)) (map (row_terms env) rows) ≡ true)
    normal-rows s w [] h k = (refl, refl)
    normal-rows s w (row ∷ rows) h k =
        let (own, rest) = parts-pass (is_clean env) (row_spots Terms s w row) (flat_map (row_spots Terms s w) rows) h in
        let (head, entries) = and_parts (is_clean env (condition s row.head)) (list_all (is_clean env) (terms s w row.entries)) own in
        let (lawful, others) = and_parts (is_row row) (list_all is_row rows) k in
        let (first, second) = and_parts (is_expr row.head) (are_entries row.entries) lawful in
        let (heads, more) = normal-rows s w rows rest others in (
          and_from (of_cond s (head_of env row)) (list_all (of_cond s) (map (head_of env) rows))
              (passes.conds s row.head (fine-condition env s row.head head first)) heads,
          and_from (list_all (of_term s) (row_terms env row)) (list_all (list_all (of_term s)) (map (row_terms env) rows))
              (terms-pass s w row.entries entries (exprs-of row.entries second)) more,
        )

    inverted-rows : (s : Site) (w : Word) (rows : List Row) → AreClean (flat_map (row_spots Conditions s w) rows)
        → list_all is_row rows ≡ true
        → (list_all (of_cond s) (map (head_of env) rows) ≡ true) × (list_all (list_all (of_cond s)) (map (row_conds env) rows) ≡ true)
    inverted-rows s w [] h k = (refl, refl)
    inverted-rows s w (row ∷ rows) h k =
        let (own, rest) = parts-pass (is_clean env) (row_spots Conditions s w row) (flat_map (row_spots Conditions s w) rows) h in
        let (head, entries) = and_parts (is_clean env (condition s row.head)) (list_all (is_clean env) (conditions s row.entries)) own in
        let (lawful, others) = and_parts (is_row row) (list_all is_row rows) k in
        let (first, second) = and_parts (is_expr row.head) (are_entries row.entries) lawful in
        let (heads, more) = inverted-rows s w rows rest others in (
          and_from (of_cond s (head_of env row)) (list_all (of_cond s) (map (head_of env) rows))
              (passes.conds s row.head (fine-condition env s row.head head first)) heads,
          and_from (list_all (of_cond s) (row_conds env row)) (list_all (list_all (of_cond s)) (map (row_conds env) rows))
              (conds-pass s row.entries entries (exprs-of row.entries second)) more,
        )

    vector-rows : (w : SectionWord) (rows : List VRow) → AreClean (flat_map (vector_row w) rows) → list_all is_vrow rows ≡ true
        → list_all (list_all (of_term (section_site w))) (map (vector_terms env) rows) ≡ true
    vector-rows w [] h k = refl
    vector-rows w (row ∷ rows) h k =
        let (own, rest) = parts-pass (is_clean env) (vector_row w row) (flat_map (vector_row w) rows) h in
        let (head, entries) = and_parts (is_clean env (named (role.Target w) row.target))
        (list_all (is_clean env) (terms (section_site w) row.target row.entries)) own in
        let (lawful, others) = and_parts (is_vrow row) (list_all is_vrow rows) k in
        let (first, second) = and_parts (is_word row.target) (are_entries row.entries) lawful in
        and_from (list_all (of_term (section_site w)) (vector_terms env row))
        (list_all (list_all (of_term (section_site w))) (map (vector_terms env) rows))
        (terms-pass (section_site w) row.target row.entries entries (exprs-of row.entries second)) (vector-rows w rows rest others)

    facts-pass : (facts : List FactItem) → AreClean (flat_map fact_spots facts) → list_all is_fact facts ≡ true
        → list_all fact_passes (map (fact_of env) facts) ≡ true
    facts-pass [] h k = refl
    facts-pass (fact_item.Shows name c ∷ facts) h k =
        let (own, rest) = parts-pass (is_clean env) (condition site.Shows c ∷ []) (flat_map fact_spots facts) h in
        let (lawful, others) = and_parts (is_fact (fact_item.Shows name c)) (list_all is_fact facts) k in
        and_from (of_cond site.Shows (cond_of env c)) (list_all fact_passes (map (fact_of env) facts))
        (passes.conds site.Shows c (fine-condition env site.Shows c (and_parts (is_clean env (condition site.Shows c)) true own).0
        (and_parts (is_word name) (is_expr c) lawful).1)) (facts-pass facts rest others)
    facts-pass (fact_item.Goal con ∷ facts) h k =
        let (own, rest) = parts-pass (is_clean env) (named role.Goal con ∷ []) (flat_map fact_spots facts) h in
        let (lawful, others) = and_parts (is_fact (fact_item.Goal con)) (list_all is_fact facts) k in
        facts-pass facts rest others

    at-section : (w : SectionWord) (g : Grid) → grid_passes (section_site w) g ≡ true
        → (grid_passes (section_place (section_of w)) g && true)
        ≡ true
    at-section w g h = alone (grid_passes (section_place (section_of w)) g) (subst (λ s. grid_passes s g ≡ true) (sym (same-section w)) h)

    item-tables : (x : Item) → AreClean (item_spots x) → is_item x ≡ true → list_all table_passes (build_table env x) ≡ true
    item-tables (item.Normal w target columns rows) h k =
        let clean = (and_parts (is_clean env (named (role.Target w) target)) _ h).1 in
        let (header, body) = parts-pass (is_clean env) (conditions (section_site w) columns)
        (flat_map (row_spots Terms (section_site w) target) rows) clean in
        let (word, entries, count, lawful) = four-hold (is_word target) (are_entries columns) (is_count 32 (length rows))
        (list_all is_row rows) k in
        let (heads, terms) = normal-rows (section_site w) target rows body lawful in
        at-section w (normal_grid env target.text columns rows)
        (three-pass (list_all (of_cond (section_site w)) (map (cond_of env) columns))
        (list_all (of_cond (section_site w)) (map (head_of env) rows))
        (list_all (list_all (of_term (section_site w))) (map (row_terms env) rows))
        (conds-pass (section_site w) columns header (exprs-of columns entries)) heads terms)
    item-tables (item.Inverted w target headers rows) h k =
        let clean = (and_parts (is_clean env (named (role.Target w) target)) _ h).1 in
        let (header, body) = parts-pass (is_clean env) (terms (section_site w) target headers)
        (flat_map (row_spots Conditions (section_site w) target) rows) clean in
        let (word, entries, count, lawful) = four-hold (is_word target) (are_entries headers) (is_count 32 (length rows))
        (list_all is_row rows) k in
        let (heads, conds) = inverted-rows (section_site w) target rows body lawful in
        at-section w (inverted_grid env target.text headers rows)
        (three-pass (list_all (of_term (section_site w)) (map (term_of env) headers))
        (list_all (of_cond (section_site w)) (map (head_of env) rows))
        (list_all (list_all (of_cond (section_site w))) (map (row_conds env) rows))
        (terms-pass (section_site w) target headers header (exprs-of headers entries)) heads conds)
    item-tables (item.Vector w columns rows) h k =
        let (header, body) = parts-pass (is_clean env) (conditions (section_site w) columns) (flat_map (vector_row w) rows) h in
        let (entries, count, lawful) = three-hold (are_entries columns) (is_count 32 (length rows)) (list_all is_vrow rows) k in
        at-section w (vector_grid env columns rows)
        (and_from (list_all (of_cond (section_site w)) (map (cond_of env) columns))
        (list_all (list_all (of_term (section_site w))) (map (vector_terms env) rows))
        (conds-pass (section_site w) columns header (exprs-of columns entries)) (vector-rows w rows body lawful))
    item-tables (item.Constant name sign value) h k = refl
    item-tables (item.RangeType name lo hi) h k = refl
    item-tables (item.EnumType name members) h k = refl
    item-tables (item.Variable word name of init) h k = refl
    item-tables (item.Held w name c hold) h k = refl
    item-tables (item.Hyst w name term lo hi start) h k = refl
    item-tables (item.Nat m c) h k = refl
    item-tables (item.Block name takes uses facts) h k = refl

    item-memories : (items : List Item) (x : Item) → AreClean (item_spots x) → is_item x ≡ true
        → list_all memory_passes (build_memory items env x) ≡ true
    item-memories items (item.Held w name c hold) h k =
        let (sided, word, lawful, held) = four-hold (is_side_word w) (is_word name) (is_expr c) (is_hold hold) k in
        let clean = (and_parts (is_clean env (condition (section_site w) c)) _ h).0 in
        alone (of_cond (side_place (side_by w)) (cond_of env c))
        (subst (λ s. of_cond s (cond_of env c) ≡ true) (sym (same-side w sided))
        (passes.conds (section_site w) c (fine-condition env (section_site w) c clean lawful)))
    item-memories items (item.Hyst w name e lo hi start) h k =
        let (sided, word, lawful, low, high) = five-hold (is_side_word w) (is_word name) (is_expr e) (is_bound lo) (is_bound hi) k in
        let clean = (and_parts (is_clean env (number (section_site w) e)) _ h).0 in
        alone (of_term (side_place (side_by w)) (term_of env e))
        (subst (λ s. of_term s (term_of env e) ≡ true) (sym (same-side w sided))
        (passes.terms (section_site w) e (fine-number env (section_site w) e clean lawful)))
    item-memories items (item.Constant name sign value) h k = refl
    item-memories items (item.RangeType name lo hi) h k = refl
    item-memories items (item.EnumType name members) h k = refl
    item-memories items (item.Variable word name of init) h k = refl
    item-memories items (item.Normal w target columns rows) h k = refl
    item-memories items (item.Inverted w target headers rows) h k = refl
    item-memories items (item.Vector w columns rows) h k = refl
    item-memories items (item.Nat m c) h k = refl
    item-memories items (item.Block name takes uses facts) h k = refl

    clause-passes : (m n : NatWord) (c : Cond) → of_cond (moment_site n) c ≡ true
        → list_all (of_cond (moment_site m)) (if is_moment m n then c ∷ [] else []) ≡ true
    clause-passes moment.First moment.First c h = alone (of_cond site.First c) h
    clause-passes moment.Always moment.Always c h = alone (of_cond site.Always c) h
    clause-passes moment.Step moment.Step c h = alone (of_cond site.Step c) h
    clause-passes moment.First moment.Always c h = refl
    clause-passes moment.First moment.Step c h = refl
    clause-passes moment.Always moment.First c h = refl
    clause-passes moment.Always moment.Step c h = refl
    clause-passes moment.Step moment.First c h = refl
    clause-passes moment.Step moment.Always c h = refl

    item-clauses : (m : NatWord) (x : Item) → AreClean (item_spots x) → is_item x ≡ true
        → list_all (of_cond (moment_site m)) (build_clause m env x) ≡ true
    item-clauses m (item.Nat n c) h k =
        clause-passes m n (cond_of env c) (passes.conds (moment_site n) c
        (fine-condition env (moment_site n) c (and_parts (is_clean env (condition (moment_site n) c)) true h).0 k))
    item-clauses m (item.Constant name sign value) h k = refl
    item-clauses m (item.RangeType name lo hi) h k = refl
    item-clauses m (item.EnumType name members) h k = refl
    item-clauses m (item.Variable word name of init) h k = refl
    item-clauses m (item.Held w name c hold) h k = refl
    item-clauses m (item.Hyst w name term lo hi start) h k = refl
    item-clauses m (item.Normal w target columns rows) h k = refl
    item-clauses m (item.Inverted w target headers rows) h k = refl
    item-clauses m (item.Vector w columns rows) h k = refl
    item-clauses m (item.Block name takes uses facts) h k = refl

    item-blocks : (x : Item) → AreClean (item_spots x) → is_item x ≡ true → list_all block_passes (build_block env x) ≡ true
    item-blocks (item.Block name takes uses facts) h k =
        let (word, listed, used, some, lawful) = five-hold (is_word name) (are_listed takes) (are_listed uses) (nat_le 1 (length facts))
        (list_all is_fact facts) k in
        let clean = (parts-pass (is_clean env) (map (named role.Taken) takes ++ map (named role.Used) uses)
        (flat_map fact_spots facts) h).1 in
        alone (list_all fact_passes (map (fact_of env) facts)) (facts-pass facts clean lawful)
    item-blocks (item.Constant name sign value) h k = refl
    item-blocks (item.RangeType name lo hi) h k = refl
    item-blocks (item.EnumType name members) h k = refl
    item-blocks (item.Variable word name of init) h k = refl
    item-blocks (item.Held w name c hold) h k = refl
    item-blocks (item.Hyst w name term lo hi start) h k = refl
    item-blocks (item.Normal w target columns rows) h k = refl
    item-blocks (item.Inverted w target headers rows) h k = refl
    item-blocks (item.Vector w columns rows) h k = refl
    item-blocks (item.Nat m c) h k = refl

    each : {Y : Type 0} (test : Y → Bool) (build : Item → List Y)
        → ((x : Item) → AreClean (item_spots x) → is_item x ≡ true → list_all test (build x) ≡ true)
        → (items : List Item) → list_all (is_fine_item env) items ≡ true → list_all test (flat_map build items) ≡ true
    each test build one items h =
        all-flat_map test build items
        ∙ all-follow (is_fine_item env) (λ x. list_all test (build x)) items
        (λ x k. let both = and_parts (list_all (is_clean env) (item_spots x)) (is_item x) k in one x both.0 both.1) h

    module _ (items : List Item) (fine : list_all (is_fine_item env) items ≡ true) where
      pub tables-pass : list_all table_passes (flat_map (build_table env) items) ≡ true
      tables-pass = each table_passes (build_table env) item-tables items fine

      pub memories-pass : list_all memory_passes (flat_map (build_memory items env) items) ≡ true
      memories-pass = each memory_passes (build_memory items env) (item-memories items) items fine

      pub clauses-pass : (m : NatWord) → list_all (of_cond (moment_site m)) (flat_map (build_clause m env) items) ≡ true
      clauses-pass m = each (of_cond (moment_site m)) (build_clause m env) (item-clauses m) items fine

      pub blocks-pass : list_all block_passes (flat_map (build_block env) items) ≡ true
      blocks-pass = each block_passes (build_block env) item-blocks items fine
