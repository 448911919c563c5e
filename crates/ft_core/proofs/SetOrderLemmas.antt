-- From an order of what the items of a set read comes the order that a checked set has.
use Rattle.std.proofs.Common.{arith, ◌≡◌, ◌∙◌, sym, ap, subst, refl, inl, inr, ⊎_elim, ℕ, zero, suc, ◌+◌, ◌<◌, ◌≤◌, Bool, true, false, ◌||◌}
use Rattle.std.proofs.Common.{IsTrue, true≢false, List, [], ◌∷◌, ◌++◌, length, slice_get, Option, Some, None, Contains, if◌then◌else◌}
use Rattle.std.specs.Prelude.{slice_index_or, nat_lt, ◌==◌}
use Rattle.std.specs.List.{flat_map, list_any, zip}
use Rattle.std.proofs.lemmas.Bool.{cases_Bool, ltb-true, ltb-false, or_left, or_right}
use Rattle.std.proofs.lemmas.List.Elements.{Contains-append_cases, Contains-append_left, Contains-append_right}
use Rattle.std.proofs.lemmas.Option.{none-some, slice_get_within, slice_get-get_or, get_or_from_slice_get}
use Rattle.ft_core.specs.declared.tables.Var.{Var}
use Rattle.ft_core.specs.declared.tables.Memory.{Memory}
use Rattle.ft_core.specs.declared.tables.Table.{Table}
use Rattle.ft_core.specs.declared.tables.Grid.{Grid}
use Rattle.ft_core.specs.declared.tables.Grid.TheVariants.{Normal, Inverted, Vector}
use Rattle.ft_core.specs.declared.tables.Section.{Section}
use Rattle.ft_core.specs.declared.tables.Section.TheVariants as section
use Rattle.ft_core.specs.declared.tables.Side.{Side}
use Rattle.ft_core.specs.declared.tables.Side.TheVariants as side
use Rattle.ft_core.specs.declared.term.Term.{Term}
use Rattle.ft_core.specs.declared.term.Cond.{Cond}
use Rattle.ft_core.specs.walk.Gathering.{grid_reads_for, if_target, is_of_side, row_reads, table_reads_for}
use Rattle.ft_core.specs.meaning.Grids.{defines, is_for, is_section, cells_for}
use Rattle.ft_core.specs.meaning.Items.{AreReads, IsNumbering, OrderGivesSetOrder, ReadsWhatIsThere, item, item_read}
use Rattle.ft_core.specs.meaning.Kinds.{Kinds, defined_kinds, is_of, side_kinds}
use Rattle.ft_core.specs.meaning.Order.{HasRank, IsOrder, ReadsItem}
use Rattle.ft_core.specs.meaning.Reads.{Read, at_now, at_before, of_memory, of_age, cond_reads, term_reads, grid_reads, memory_reads}
use Rattle.ft_core.specs.meaning.Reads.{cell_reads}
use Rattle.ft_core.specs.checked.Sound.{HasOrder, IsRank, is_current, is_memory_of, item_reads, may_read, on_side}
use Rattle.ft_core.proofs.CellReads.{tables-out}
use Rattle.ft_core.proofs.ItemLemmas.{read-below}
use Rattle.ft_core.proofs.OrderLaws.{gives-rank}

-- a variable of some kinds is there
pub is-there : (vars : List Var) (kinds : Kinds) (x : ℕ) → is_of vars kinds x ≡ true → x < length vars
is-there vars kinds x is = elim (cases_Bool (nat_lt x (length vars))) [
  | inl low ↦ ltb-true x (length vars) low
  | inr high ↦ absurd (true≢false (sym is ∙ none vars kinds x (ltb-false x (length vars) high)))
]
  where
    none : (vars : List Var) (kinds : Kinds) (x : ℕ) → length vars ≤ x → is_of vars kinds x ≡ false
    none [] kinds x past = refl
    none (v ∷ vars) kinds zero past = absurd (omega (arith, past))
    none (v ∷ vars) kinds (suc x) past = none vars (λ y u. kinds (suc y) u) x (omega (arith, past))

is-memory : (memories : List Memory) (s : Side) (m : ℕ) → is_memory_of memories s m ≡ true → m < length memories
is-memory [] s m is = absurd (true≢false (sym is))
is-memory (memory ∷ memories) s zero is = omega arith
is-memory (memory ∷ memories) s (suc m) is = let less = is-memory memories s m is in omega (arith, less)

variable-item : (vars memories x : ℕ) → x < vars → item_read vars memories (at_now x) ≡ Some x
variable-item vars memories x low = ap (λ (b : Bool). if b then Some x else None) (below x vars low)
  where
    below : (a b : ℕ) → a < b → nat_lt a b ≡ true
    below a b less = grind (arith, less)

memory-item : (vars memories m : ℕ) → m < memories → item_read vars memories (of_memory m) ≡ Some (vars + m)
memory-item vars memories m low = ap (λ (b : Bool). if b then Some (vars + m) else None) (below m memories low)
  where
    below : (a b : ℕ) → a < b → nat_lt a b ≡ true
    below a b less = grind (arith, less)

-- what may be read on a side, and is of this scan, is an item
side-item : (vars : List Var) (memories : List Memory) (s : Side) (q : Read) → on_side vars memories s q ≡ true → is_current q ≡ true
    → (l : ℕ) × (item_read (length vars) (length memories) q ≡ Some l)
side-item vars memories s (at_now x) may now = (x, variable-item (length vars) (length memories) x (is-there vars (side_kinds s) x may))
side-item vars memories s (at_before x) may now = absurd (true≢false (sym now))
side-item vars memories s (of_memory m) may now = (
  length vars + m,
  memory-item (length vars) (length memories) m
      (is-memory memories s m may),
)
side-item vars memories s (of_age m) may now = absurd (true≢false (sym may))

-- what is read for a variable, the grid reads, and it defines the variable
of-target : {X : Type 0} (target k : ℕ) (reads : List X) (q : X) → Contains (if_target target reads k) q → ((target == k) ≡ true)
    × Contains reads q
of-target target k reads q c = by_test (target == k) refl c
  where
    by_test : (b : Bool) → (target == k) ≡ b → Contains (if b then reads else []) q → ((target == k) ≡ true) × Contains reads q
    by_test true e c = (e, c)
    by_test false e c = absurd (omega (arith, c.1))

row-of : (k : ℕ) (columns : List Cond) (targets : List ℕ) (terms : List (List Term)) (q : Read)
    → Contains (flat_map (λ r. if_target r.0 (row_reads columns r.1) k) (zip targets terms)) q
    → (list_any (λ target. target == k) targets ≡ true) × Contains (flat_map cond_reads columns ++ flat_map (flat_map term_reads) terms) q
row-of k columns [] terms q c = absurd (omega (arith, c.1))
row-of k columns (t ∷ targets) [] q c = absurd (omega (arith, c.1))
row-of k columns (t ∷ targets) (row ∷ terms) q c = ⊎_elim
    (λ here. let at = of-target t k (row_reads columns row) q here in (
      or_left (t == k) (list_any (λ target. target == k) targets) at.0,
      ⊎_elim (λ column. Contains-append_left (flat_map cond_reads columns) (flat_map (flat_map term_reads) (row ∷ terms)) q column)
          (λ entry. Contains-append_right (flat_map cond_reads columns) (flat_map (flat_map term_reads) (row ∷ terms)) q
          (Contains-append_left (flat_map term_reads row) (flat_map (flat_map term_reads) terms) q entry))
          (Contains-append_cases (flat_map cond_reads columns) (flat_map term_reads row) q at.1),
    ))
    (λ later. let deeper = row-of k columns targets terms q later in (
      or_right (t == k) (list_any (λ target. target == k) targets) deeper.0,
      ⊎_elim (λ column. Contains-append_left (flat_map cond_reads columns) (flat_map (flat_map term_reads) (row ∷ terms)) q column)
          (λ entry. Contains-append_right (flat_map cond_reads columns) (flat_map (flat_map term_reads) (row ∷ terms)) q
          (Contains-append_right (flat_map term_reads row) (flat_map (flat_map term_reads) terms) q entry))
          (Contains-append_cases (flat_map cond_reads columns) (flat_map (flat_map term_reads) terms) q deeper.1),
    ))
    (Contains-append_cases (if_target t (row_reads columns row) k) (flat_map (λ r. if_target r.0 (row_reads columns r.1) k)
    (zip targets terms)) q c)

of-grid : (k : ℕ) (g : Grid) (q : Read) → Contains (grid_reads_for k g) q → (defines g k ≡ true) × Contains (grid_reads g) q
of-grid k (Normal target columns rows terms) q c = of-target target k _ q c
of-grid k (Inverted target terms rows grid) q c = of-target target k _ q c
of-grid k (Vector columns targets terms) q c = row-of k columns targets terms q c

-- the section of a table of a side
side-section : (vars : List Var) (memories : List Memory) (s : Section) (q : Read) → is_of_side s ≡ true → may_read vars memories s q ≡ true
    → (z : Side) × (on_side vars memories z q ≡ true)
side-section vars memories section.In q is may = absurd (true≢false (sym is))
side-section vars memories section.Req q is may = (side.Req, may)
side-section vars memories section.Sof q is may = (side.Sof, may)
side-section vars memories section.Out q is may = absurd (true≢false (sym is))

module _ (vars : List Var) (memories : List Memory) (tables : List Table) (there : ReadsWhatIsThere vars memories tables) where
  abbrev V : ℕ
  V = length vars

  abbrev M : ℕ
  M = length memories

  -- an item, and one that it reads
  abbrev Both : Read → Read → Type 0
  Both r q = (k l : ℕ) × (item_read V M r ≡ Some k) × (item_read V M q ≡ Some l)

  of-table : (x i : ℕ) (t : Table) (q : Read) → slice_get tables i ≡ Some t → Contains (table_reads_for x t) q → is_current q ≡ true
      → Both (at_now x) q
  of-table x i t q e c now = by_side (is_of_side t.section) refl c
    where
      by_side : (b : Bool) → is_of_side t.section ≡ b → Contains (if b then grid_reads_for x t.grid else []) q → Both (at_now x) q
      by_side true is c =
          let g = of-grid x t.grid q c in
          let s = side-section vars memories t.section q is (there.tables_read i t q e g.1) in
          let l = side-item vars memories s.0 q s.1 now in
          (x, l.0, variable-item V M x (is-there vars (defined_kinds t.section) x (there.targets i x t e g.0)), l.1)
      by_side false is c = absurd (omega (arith, c.1))

  from-tables : (x : ℕ) (q : Read) (ts : List Table) → Contains (flat_map (table_reads_for x) ts) q → (i : ℕ) × (t : Table)
      × (slice_get ts i ≡ Some t) × Contains (table_reads_for x t) q
  from-tables x q [] c = absurd (omega (arith, c.1))
  from-tables x q (t ∷ ts) c = ⊎_elim (λ here. (0, t, refl, here)) (λ later. let d = from-tables x q ts later in (suc d.0, d.1, d.2, d.3))
      (Contains-append_cases (table_reads_for x t) (flat_map (table_reads_for x) ts) q c)

  of-memory : (m : ℕ) (q : Read) → Contains (memory_reads (slice_get memories m)) q → is_current q ≡ true → Both (of_memory m) q
  of-memory m q c now = at (slice_get memories m) refl c
    where
      at : (found : Option Memory) → slice_get memories m ≡ found → Contains (memory_reads found) q → Both (of_memory m) q
      at None e c = absurd (omega (arith, c.1))
      at (Some memory) e c =
          let l = side-item vars memories _ q (there.memories_read m memory q e c) now in
          (V + m, l.0, memory-item V M m (slice_get_within memories m memory e), l.1)

  both : (r q : Read) → Contains (item_reads memories tables r) q → is_current q ≡ true → Both r q
  both (at_now x) q c now = let d = from-tables x q tables (tables-out q x tables c) in of-table x d.0 d.1 q d.2 d.3 now
  both (of_memory m) q c now = of-memory m q c now
  both (at_before x) q c now = absurd (omega (arith, c.1))
  both (of_age m) q c now = absurd (omega (arith, c.1))

  module _ (numbers : List ℕ) (reads : List (List ℕ)) (numbering : IsNumbering (V + M) numbers)
      (are : AreReads V memories tables numbers reads)
      (rank : ℕ → ℕ) (ranked : HasRank reads rank) where
    -- the rank of an item's number, and 0 for what is none
    rank_of : Option ℕ → ℕ
    rank_of None = 0
    rank_of (Some k) = rank (slice_index_or numbers k 0)

    number : (k : ℕ) → k < V + M → slice_get numbers k ≡ Some (slice_index_or numbers k 0)
    number k less = let long = numbering.long in slice_get-get_or numbers k 0 (omega (arith, long, less))

    number-low : (k : ℕ) → k < V + M → slice_index_or numbers k 0 < length reads
    number-low k less = let low = numbering.below k _ (number k less) in let long = are.long in omega (arith, low, long)

    bounded : (r : Read) → rank_of (item_read V M r) < V + M
    unfolding rank_of
    bounded r = at (item_read V M r) refl
      where
        at : (o : Option ℕ) → item_read V M r ≡ o → rank_of o < V + M
        at None e = let some = there.some in omega (arith, some)
        at (Some k) e =
            let low = ranked.bounded (slice_index_or numbers k 0) (number-low k (read-below V M r k e).0) in
            let long = are.long in omega (arith, low, long)

    falls : (r q : Read) → Contains (item_reads memories tables r) q → is_current q ≡ true
        → rank_of (item_read V M q) < rank_of (item_read V M r)
    unfolding rank_of
    falls r q c now =
        let b = both r q c now in
        let k = read-below V M r b.0 b.2 in
        let l = read-below V M q b.1 b.3 in
        let reads_it = are.each (slice_index_or numbers b.0 0) (slice_index_or numbers b.1 0)
        (b.0, b.1, number b.0 k.0, number b.1 l.0, (q, subst (λ (s : Read). Contains (item_reads memories tables s) q) (sym k.1) c, b.3)) in
        subst (λ o. rank_of o < rank_of (item_read V M r)) (sym b.3)
        (subst (λ o. rank_of (Some b.1) < rank_of o) (sym b.2) (ranked.falls _ _ (number-low b.0 k.0) reads_it))

pub gives-set-order : OrderGivesSetOrder
gives-set-order vars memories tables numbers reads order there numbering are is =
    let ranked = gives-rank reads order is in (
      λ r. rank_of vars memories tables there numbers reads numbering are ranked.0 ranked.1 (item_read (length vars) (length memories) r),
      record {
        bounded = bounded vars memories tables there numbers reads numbering are ranked.0 ranked.1;
        falls = falls vars memories tables there numbers reads numbering are ranked.0 ranked.1;
      },
    )
