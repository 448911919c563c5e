-- The terms and conditions of the set of a tree without a fault are lawful.
use Rattle.std.proofs.Common.{◌≡◌, ◌∙◌, sym, refl, ℕ, Bool, true, ◌&&◌, List, ◌++◌, Option, Some, is_none, slice_get}
use Rattle.std.specs.Prelude.{IsTrue}
use Rattle.std.specs.List.{Contains, flat_map, list_all}
use Rattle.std.proofs.lemmas.Bool.{and_parts}
use Rattle.ft_tree.specs.declared.item.Item.{Item}
use Rattle.ft_tree.specs.declared.item.NatWord.TheVariants.{First, Always, Step}
use Rattle.ft_tree.specs.declared.item.Number.{Number}
use Rattle.ft_tree.specs.laws.Chains.{three-hold}
use Rattle.ft_tree.specs.meaning.Limits.{is_item}
use Rattle.ft_core.specs.declared.tables.Block.{Block}
use Rattle.ft_core.specs.declared.tables.Fact.TheVariants.{Invariant}
use Rattle.ft_core.specs.declared.tables.Grid.{Grid}
use Rattle.ft_core.specs.declared.tables.Grid.TheVariants.{Normal, Inverted, Vector}
use Rattle.ft_core.specs.declared.tables.Memory.{Memory}
use Rattle.ft_core.specs.declared.tables.Memory.TheVariants.{Held, Hyst}
use Rattle.ft_core.specs.declared.tables.Section.{Section}
use Rattle.ft_core.specs.declared.tables.Section.TheVariants as section
use Rattle.ft_core.specs.declared.tables.Side.{Side}
use Rattle.ft_core.specs.declared.tables.Side.TheVariants as side
use Rattle.ft_core.specs.declared.tables.Table.{Table}
use Rattle.ft_core.specs.declared.tables.Var.{Var}
use Rattle.ft_core.specs.declared.term.Cond.{Cond}
use Rattle.ft_core.specs.declared.term.Term.{Term}
use Rattle.ft_core.specs.meaning.Reads.{Read, cond_reads, grid_reads, memory_reads, term_reads}
use Rattle.ft_core.specs.checked.Blocks.{may_show}
use Rattle.ft_core.specs.checked.Short.{is_short, is_short_grid, is_short_memory, is_short_term}
use Rattle.ft_core.specs.checked.Size.{is_sized, is_sized_grid, is_sized_memory, is_sized_term}
use Rattle.ft_core.specs.checked.Sound.{AllRead, may_read, on_side, side_of}
use Rattle.ft_core.specs.laws.Lists.{all_pass}
use Rattle.ft_core.specs.laws.Places.{contained}
use Rattle.ft_names.specs.declared.site.Site.{Site}
use Rattle.ft_names.specs.declared.site.Site.TheVariants as site
use Rattle.ft_names.specs.meaning.Cards.{Env, env_of}
use Rattle.ft_names.specs.meaning.Spots.{item_spots, spots}
use Rattle.ft_types.specs.meaning.Mismatch.{mismatch_spot}
use Rattle.ft_types.specs.meaning.Sides.{side_spot}
use Rattle.ft_measure.specs.laws.Bounded.{LinearIsSmall, ValuesBounded}
use Rattle.ft_measure.specs.meaning.SlopeFaults.{slope_spot}
use Rattle.ft_build.specs.declared.parts.Parts.{Parts}
use Rattle.ft_build.specs.meaning.Sets.{set_of}
use Rattle.ft_admit.specs.laws.TermFacts.{HaveLawfulTerms, TermsAreLawful}
use Rattle.ft_admit.specs.meaning.Faultless.{IsFaultless}
use Rattle.ft_admit.proofs.terms.Lists.{all-both, all-flat_map, all-follow, joined-passes, none-passes}
use Rattle.ft_admit.proofs.terms.Cards.{AreThere, are-there}
use Rattle.ft_admit.proofs.terms.Reads.{may_at, read-allowed}
use Rattle.ft_admit.proofs.terms.Sizes.{sized-allowed, term-short}
use Rattle.ft_admit.proofs.terms.Spots.{Passes, block_passes, blocks-pass, clauses-pass, fact_passes, grid_passes, is_clean, is_fine_item}
use Rattle.ft_admit.proofs.terms.Spots.{memories-pass, memory_at, memory_passes, section_place, side_place, table_passes, tables-pass}

-- what a table or a memory reads passes where what its conditions and terms read does
module _ (may : Site → Read → Bool) where
  abbrev pub reads_of_cond : Site → Cond → Bool
  reads_of_cond s c = list_all (may s) (cond_reads c)

  abbrev pub reads_of_term : Site → Term → Bool
  reads_of_term s t = list_all (may s) (term_reads t)

  conds-read : (s : Site) (cs : List Cond) → list_all (reads_of_cond s) cs ≡ true → list_all (may s) (flat_map cond_reads cs) ≡ true
  conds-read s cs h = all-flat_map (may s) cond_reads cs ∙ h

  terms-read : (s : Site) (ts : List Term) → list_all (reads_of_term s) ts ≡ true → list_all (may s) (flat_map term_reads ts) ≡ true
  terms-read s ts h = all-flat_map (may s) term_reads ts ∙ h

  cond-rows-read : (s : Site) (rows : List (List Cond)) → list_all (list_all (reads_of_cond s)) rows ≡ true
      → list_all (may s) (flat_map (flat_map cond_reads) rows) ≡ true
  cond-rows-read s rows h = all-flat_map (may s) (flat_map cond_reads) rows
      ∙ all-follow (list_all (reads_of_cond s)) (λ row. list_all (may s) (flat_map cond_reads row)) rows (conds-read s) h

  term-rows-read : (s : Site) (rows : List (List Term)) → list_all (list_all (reads_of_term s)) rows ≡ true
      → list_all (may s) (flat_map (flat_map term_reads) rows) ≡ true
  term-rows-read s rows h = all-flat_map (may s) (flat_map term_reads) rows
      ∙ all-follow (list_all (reads_of_term s)) (λ row. list_all (may s) (flat_map term_reads row)) rows (terms-read s) h

  grid-reads : (s : Site) (g : Grid) → grid_passes reads_of_cond reads_of_term s g ≡ true → list_all (may s) (grid_reads g) ≡ true
  grid-reads s (Normal target columns rows terms) h =
      let (first, third, fourth) = three-hold (list_all (reads_of_cond s) columns) (list_all (reads_of_cond s) rows)
      (list_all (list_all (reads_of_term s)) terms) h in
      joined-passes (may s) (flat_map cond_reads columns ++ flat_map cond_reads rows) (flat_map (flat_map term_reads) terms)
      (joined-passes (may s) (flat_map cond_reads columns) (flat_map cond_reads rows)
      (conds-read s columns first) (conds-read s rows third))
      (term-rows-read s terms fourth)
  grid-reads s (Inverted target terms rows grid) h =
      let (first, third, fourth) = three-hold (list_all (reads_of_term s) terms) (list_all (reads_of_cond s) rows)
      (list_all (list_all (reads_of_cond s)) grid) h in
      joined-passes (may s) (flat_map term_reads terms ++ flat_map cond_reads rows) (flat_map (flat_map cond_reads) grid)
      (joined-passes (may s) (flat_map term_reads terms) (flat_map cond_reads rows) (terms-read s terms first) (conds-read s rows third))
      (cond-rows-read s grid fourth)
  grid-reads s (Vector columns targets terms) h =
      let (first, third) = and_parts (list_all (reads_of_cond s) columns) (list_all (list_all (reads_of_term s)) terms) h in
      joined-passes (may s) (flat_map cond_reads columns) (flat_map (flat_map term_reads) terms) (conds-read s columns first)
      (term-rows-read s terms third)

  memory-reads : (s : Site) (m : Memory) → memory_at reads_of_cond reads_of_term s m ≡ true
      → list_all (may s) (memory_reads (Some m)) ≡ true
  memory-reads s (Held name sd c hold) h = h
  memory-reads s (Hyst name sd e lo hi start) h = h

module _ (vars : List Var) (memories : List Memory) where
  same-may : (s : Section) (r : Read) → may_at vars memories (section_place s) r ≡ may_read vars memories s r
  same-may section.In r = refl
  same-may section.Req r = refl
  same-may section.Sof r = refl
  same-may section.Out r = refl

  same-on-side : (s : Side) (r : Read) → may_at vars memories (side_place s) r ≡ on_side vars memories s r
  same-on-side side.Req r = refl
  same-on-side side.Sof r = refl

  abbrev sized_cond : Site → Cond → Bool
  sized_cond s c = is_sized vars memories c

  abbrev sized_term : Site → Term → Bool
  sized_term s t = is_sized_term vars memories t

  grid-sized : (s : Site) (g : Grid) → grid_passes sized_cond sized_term s g ≡ true → is_sized_grid vars memories g ≡ true
  grid-sized s (Normal target columns rows terms) h = h
  grid-sized s (Inverted target terms rows grid) h = h
  grid-sized s (Vector columns targets terms) h = h

  memory-sized : (s : Site) (m : Memory) → memory_at sized_cond sized_term s m ≡ true → is_sized_memory vars memories m ≡ true
  memory-sized s (Held name sd c hold) h = h
  memory-sized s (Hyst name sd e lo hi start) h = h

abbrev short_cond : Site → Cond → Bool
short_cond s c = is_short c

abbrev short_term : Site → Term → Bool
short_term s t = is_short_term t

grid-short : (s : Site) (g : Grid) → grid_passes short_cond short_term s g ≡ true → is_short_grid g ≡ true
grid-short s (Normal target columns rows terms) h = h
grid-short s (Inverted target terms rows grid) h = h
grid-short s (Vector columns targets terms) h = h

memory-short : (s : Site) (m : Memory) → memory_at short_cond short_term s m ≡ true → is_short_memory m ≡ true
memory-short s (Held name sd c hold) h = h
memory-short s (Hyst name sd e lo hi start) h = h

-- each condition of a list passes, and so does each of its reads
each-reads : (p : Read → Bool) (cs : List Cond) → list_all (λ c. list_all p (cond_reads c)) cs ≡ true → AllRead p cs
each-reads p cs h k c r at in-c =
    all_pass p (cond_reads c) (all_pass (λ d. list_all p (cond_reads d)) cs h c (contained cs k c at)) r in-c

-- each invariant passes where each block does
each-invariant : (of_cond : Site → Cond → Bool) (of_term : Site → Term → Bool) (blocks : List Block)
    → list_all (block_passes of_cond of_term) blocks ≡ true → (b f : ℕ) (block : Block) (name : List ℕ) (c : Cond)
    → slice_get blocks b ≡ Some block → slice_get block.facts f ≡ Some (Invariant name c) → of_cond site.Shows c ≡ true
each-invariant of_cond of_term blocks h b f block name c at there =
    all_pass (fact_passes of_cond of_term) block.facts
    (all_pass (block_passes of_cond of_term) blocks h block (contained blocks b block at))
    (Invariant name c) (contained block.facts f (Invariant name c) there)

three-lists : {X : Type 0} (p : X → Bool) (a b c : List X) → list_all p a ≡ true → list_all p b ≡ true → list_all p c ≡ true
    → list_all p (a ++ b ++ c) ≡ true
three-lists p a b c h k l = joined-passes p (a ++ b) c (joined-passes p a b h k) l

module _ (bounds : ValuesBounded) (linear : LinearIsSmall) (name : List ℕ) (period : Number) (splits depth : Option Number)
    (items : List Item)
    (faultless : IsFaultless name period splits depth items) where
  abbrev env : Env
  env = env_of items

  abbrev set : Parts
  set = set_of name period splits depth items

  clean-spots : list_all (is_clean env) (spots items) ≡ true
  clean-spots =
      all-both (λ s. is_none (side_spot env s)) (λ s. is_none (mismatch_spot env s) && is_none (slope_spot env s)) (spots items)
      (none-passes (side_spot env) (spots items) faultless.sides)
      (all-both (λ s. is_none (mismatch_spot env s)) (λ s. is_none (slope_spot env s)) (spots items)
      (none-passes (mismatch_spot env) (spots items) faultless.kinds) (none-passes (slope_spot env) (spots items) faultless.slopes))

  fine : list_all (is_fine_item env) items ≡ true
  fine = all-both (λ x. list_all (is_clean env) (item_spots x)) is_item items
      (sym (all-flat_map (is_clean env) item_spots items) ∙ clean-spots) faultless.lawful.parts

  there : AreThere env set.vars set.memories
  there = are-there items faultless.lawful.parts

  abbrev may : Site → Read → Bool
  may = may_at set.vars set.memories

  reads : Passes (reads_of_cond may) (reads_of_term may) env
  reads = record {
    conds = λ s e h. (read-allowed env set.vars set.memories there s e h.asked h.clean).1;
    terms = λ s e h. (read-allowed env set.vars set.memories there s e h.asked h.clean).0;
  }

  sizes : Passes (sized_cond set.vars set.memories) (sized_term set.vars set.memories) env
  sizes = record {
    conds = λ s e h. (sized-allowed bounds linear env set.vars set.memories there s e h.asked h.clean).sized;
    terms = λ s e h. (sized-allowed bounds linear env set.vars set.memories there s e h.asked h.clean).fits.small;
  }

  lengths : Passes short_cond short_term env
  lengths = record {
    conds = λ s e h. (sized-allowed bounds linear env set.vars set.memories there s e h.asked h.clean).short h.few;
    terms = λ s e h. term-short bounds linear env set.vars set.memories there s e h.few
        (sized-allowed bounds linear env set.vars set.memories there s e h.asked h.clean).fits.factored;
  }

  table-reads : (k : ℕ) (table : Table) (r : Read) → slice_get set.tables k ≡ Some table → Contains (grid_reads table.grid) r
      → IsTrue (may_read set.vars set.memories table.section r)
  table-reads k table r at in-grid =
      let passes = all_pass (table_passes (reads_of_cond may) (reads_of_term may)) set.tables
      (tables-pass (reads_of_cond may) (reads_of_term may) env reads items fine) table (contained set.tables k table at) in
      let s : Site = section_place table.section in
      sym (same-may set.vars set.memories table.section r)
      ∙ all_pass (may s) (grid_reads table.grid) (grid-reads may s table.grid passes) r in-grid

  memory-reads-side : (m : ℕ) (memory : Memory) (r : Read) → slice_get set.memories m ≡ Some memory
      → Contains (memory_reads (Some memory)) r → IsTrue (on_side set.vars set.memories (side_of memory) r)
  memory-reads-side m memory r at in-memory =
      let passes = all_pass (memory_passes (reads_of_cond may) (reads_of_term may)) set.memories
      (memories-pass (reads_of_cond may) (reads_of_term may) env reads items fine) memory (contained set.memories m memory at) in
      let s : Site = side_place (side_of memory) in
      sym (same-on-side set.vars set.memories (side_of memory) r)
      ∙ all_pass (may s) (memory_reads (Some memory)) (memory-reads may s memory passes) r in-memory

  lawful : HaveLawfulTerms set
  lawful = record {
    tables_read = table-reads;
    memories_read = memory-reads-side;
    first_reads = each-reads (may site.First) set.first (clauses-pass (reads_of_cond may) (reads_of_term may) env reads items fine First);
    always_reads = each-reads (may site.Always) set.always
        (clauses-pass (reads_of_cond may) (reads_of_term may) env reads items fine Always);
    step_reads = each-reads (may site.Step) set.step (clauses-pass (reads_of_cond may) (reads_of_term may) env reads items fine Step);
    invariants_read = λ b f block name c r at in-block in-cond.
        all_pass (may_show set.vars set.memories) (cond_reads c)
        (each-invariant (reads_of_cond may) (reads_of_term may) set.blocks
        (blocks-pass (reads_of_cond may) (reads_of_term may) env reads items fine) b f block name c at in-block) r in-cond;
    sized_memories = all-follow (memory_passes (sized_cond set.vars set.memories) (sized_term set.vars set.memories))
        (is_sized_memory set.vars set.memories) set.memories
        (λ m h. memory-sized set.vars set.memories (side_place (side_of m)) m h)
        (memories-pass (sized_cond set.vars set.memories) (sized_term set.vars set.memories) env sizes items fine);
    sized_tables = all-follow (table_passes (sized_cond set.vars set.memories) (sized_term set.vars set.memories))
        (λ table. is_sized_grid set.vars set.memories table.grid) set.tables
        (λ t h. grid-sized set.vars set.memories (section_place t.section) t.grid h)
        (tables-pass (sized_cond set.vars set.memories) (sized_term set.vars set.memories) env sizes items fine);
    sized_clauses = three-lists (is_sized set.vars set.memories) set.first set.always set.step
        (clauses-pass (sized_cond set.vars set.memories) (sized_term set.vars set.memories) env sizes items fine First)
        (clauses-pass (sized_cond set.vars set.memories) (sized_term set.vars set.memories) env sizes items fine Always)
        (clauses-pass (sized_cond set.vars set.memories) (sized_term set.vars set.memories) env sizes items fine Step);
    invariants_sized = λ b f block name c at in-block.
        each-invariant (sized_cond set.vars set.memories) (sized_term set.vars set.memories) set.blocks
        (blocks-pass (sized_cond set.vars set.memories) (sized_term set.vars set.memories) env sizes items fine)
        b f block name c at in-block;
    short = record {
      of_memories = all-follow (memory_passes short_cond short_term) is_short_memory set.memories
          (λ m h. memory-short (side_place (side_of m)) m h) (memories-pass short_cond short_term env lengths items fine);
      of_tables = all-follow (table_passes short_cond short_term) (λ table. is_short_grid table.grid) set.tables
          (λ t h. grid-short (section_place t.section) t.grid h) (tables-pass short_cond short_term env lengths items fine);
      of_clauses = three-lists is_short set.first set.always set.step
          (clauses-pass short_cond short_term env lengths items fine First)
          (clauses-pass short_cond short_term env lengths items fine Always)
          (clauses-pass short_cond short_term env lengths items fine Step);
    };
    invariants_short = λ b f block name c at in-block.
        each-invariant short_cond short_term set.blocks (blocks-pass short_cond short_term env lengths items fine)
        b f block name c at in-block;
  }

-- whatever the tree is
pub terms-lawful : ValuesBounded → LinearIsSmall → TermsAreLawful
terms-lawful bounds linear = λ name period splits depth items faultless. lawful bounds linear name period splits depth items faultless
