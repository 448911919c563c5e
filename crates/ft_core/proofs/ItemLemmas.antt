-- The lists of what items read are those that the definitions ask for, and an order of them is an order of the set.
use Rattle.std.proofs.Common.{◌≡◌, ◌∙◌, sym, ap, subst, refl, inl, inr, ℕ, ◌+◌, ◌-◌, ◌<◌, ◌≤◌, Bool, true, false, cond, List, [], ◌∷◌, ◌++◌}
use Rattle.std.proofs.Common.{map, length, slice_get, Option, Some, None, Contains, arith}
use Rattle.std.specs.Prelude.{nat_lt, slice_index_or}
use Rattle.std.specs.List.{flat_map, list_all, cons_option}
use Rattle.std.proofs.lemmas.Bool.{cases_Bool, ltb-true, ltb-false, le-ltb}
use Rattle.std.proofs.lemmas.List.{get_or_append_left, get_or-append_right, get_or-map, get_or_past, length-append, length-map}
use Rattle.std.proofs.lemmas.List.Elements.{Contains-append_right, Contains-append_cases}
use Rattle.std.proofs.lemmas.Option.{none-some, same_Some, slice_get-get_or}
use Rattle.std.proofs.Props.{props}
use Rattle.std.proofs.Math.Logic.{∥∥₁_elim}
use Rattle.ft_core.specs.declared.tables.Memory.{Memory}
use Rattle.ft_core.specs.declared.tables.Table.{Table}
use Rattle.ft_core.specs.declared.tables.Var.{Var}
use Rattle.ft_core.specs.walk.Gathering.{AreVariableReads, items_in, table_reads_for}
use Rattle.ft_core.specs.meaning.Grids.{is_shaped}
use Rattle.ft_core.specs.meaning.Items.{ArePlainReads, IsScanOrder, ReadsWithin, item, item_read}
use Rattle.ft_core.specs.meaning.Order.{AreItems, IsCircle, IsOrder, ReadsItem}
use Rattle.ft_core.specs.meaning.Reads.{Read, at_now, at_before, of_memory, of_age, memory_reads}
use Rattle.ft_core.specs.checked.Sound.{HasOrder, item_reads, is_current}
use Rattle.ft_core.proofs.CellReads.{tables-in, tables-out}
use Rattle.ft_core.proofs.OrderLaws.{excludes}
use Rattle.ft_core.specs.laws.Places.{some-at}

-- the items in a list of reads
module _ (vars memories : ℕ) where
  -- a read is one of the items that it is made of
  abbrev Names : List Read → ℕ → Type 0
  Names reads q = (r : Read) × Contains reads r × (item_read vars memories r ≡ Some q)

  first : (r : Read) (reads : List Read) → Contains (r ∷ reads) r
  first r reads = (0, omega arith, refl)

  later : (r s : Read) (reads : List Read) → Contains reads s → Contains (r ∷ reads) s
  later r s reads h = Contains-append_right (r ∷ []) reads s h

  named-later : (r : Read) (reads : List Read) (q : ℕ) → Names reads q → Names (r ∷ reads) q
  named-later r reads q n = (n.0, later r n.0 reads n.1, n.2)

  single : {A : Type 0} (a b : A) → Contains (a ∷ []) b → a ≡ b
  single a b h = let at : h.0 ≡ 0 = omega (arith, h.1) in sym (ap (λ (i : ℕ). slice_index_or (a ∷ []) i b) at) ∙ h.2

  pub items-out : (reads : List Read) (q : ℕ) → Contains (items_in vars memories reads) q → Names reads q
  items-out [] q h = absurd (omega (arith, h.1))
  items-out (r ∷ reads) q h = by_item (item_read vars memories r) refl (items-out reads q) h
    where
      by_item : (o : Option ℕ) → item_read vars memories r ≡ o → (Contains (items_in vars memories reads) q → Names reads q)
          → Contains (cons_option o (items_in vars memories reads)) q → Names (r ∷ reads) q
      by_item None e deeper h = named-later r reads q (deeper h)
      by_item (Some k) e deeper h = elim (Contains-append_cases (k ∷ []) (items_in vars memories reads) q h) [
        | inl here ↦ (r, first r reads, e ∙ ap Some (single k q here))
        | inr there ↦ named-later r reads q (deeper there)
      ]

  pub items-in : (reads : List Read) (q : ℕ) (r : Read) → Contains reads r → item_read vars memories r ≡ Some q
      → Contains (items_in vars memories reads) q
  items-in [] q r h is = absurd (omega (arith, h.1))
  items-in (s ∷ reads) q r h is = elim (Contains-append_cases (s ∷ []) reads r h) [
    | inl here ↦ by_item (item_read vars memories s) (ap (item_read vars memories) (single s r here) ∙ is)
    | inr there ↦ deeper (item_read vars memories s) (items-in reads q r there is)
  ]
    where
      by_item : (o : Option ℕ) → o ≡ Some q → Contains (cons_option o (items_in vars memories reads)) q
      by_item None e = absurd (none-some q e)
      by_item (Some k) e = (0, omega arith, same_Some k q e)

      deeper : (o : Option ℕ) → Contains (items_in vars memories reads) q → Contains (cons_option o (items_in vars memories reads)) q
      deeper None h = h
      deeper (Some k) h = Contains-append_right (k ∷ []) (items_in vars memories reads) q h

  -- an item that is read is one, and the read is of it
  pub read-below : (r : Read) (q : ℕ) → item_read vars memories r ≡ Some q → (q < vars + memories) × (item vars q ≡ r)
      × (is_current r ≡ true)
  read-below (at_now x) q is = by_test (nat_lt x vars) refl is
    where
      by_test : (b : Bool) → nat_lt x vars ≡ b → cond b (Some x) None ≡ Some q → (q < vars + memories) × (item vars q ≡ at_now x)
          × (true ≡ true)
      by_test true e is =
          let same = same_Some x q is in
          let below = ltb-true x vars e in (
            omega (arith, same, below),
            subst (λ (k : ℕ). item vars k ≡ at_now x) same
                (ap (λ (b : Bool). cond b (at_now x) (of_memory (x - vars))) e),
            refl,
          )
      by_test false e is = absurd (none-some q is)
  read-below (of_memory m) q is = by_test (nat_lt m memories) refl is
    where
      by_test : (b : Bool) → nat_lt m memories ≡ b → cond b (Some (vars + m)) None ≡ Some q → (q < vars + memories)
          × (item vars q ≡ of_memory m) × (true ≡ true)
      by_test true e is =
          let same = same_Some (vars + m) q is in
          let below = ltb-true m memories e in
          let past = le-ltb (vars + m) vars (omega arith) in
          let back : vars + m - vars ≡ m = omega arith in (
            omega (arith, same, below),
            subst (λ (k : ℕ). item vars k ≡ of_memory m) same
                (ap (λ (b : Bool). cond b (at_now (vars + m)) (of_memory (vars + m - vars))) past ∙ ap of_memory back),
            refl,
          )
      by_test false e is = absurd (none-some q is)
  read-below (at_before x) q is = absurd (none-some q is)
  read-below (of_age m) q is = absurd (none-some q is)

-- lists that were made of the tables and the memories
module _ (vars : ℕ) (memories : List Memory) (tables : List Table) (own lists : List (List ℕ))
    (shaped : list_all (λ t. is_shaped t.grid) tables ≡ true) (read : AreVariableReads vars (length memories) tables own)
    (are : lists ≡ own ++ map (λ memory. items_in vars (length memories) (memory_reads (Some memory))) memories) where
  of_one : Memory → List ℕ
  of_one memory = items_in vars (length memories) (memory_reads (Some memory))

  all-long : length lists ≡ vars + length memories
  all-long = ap length are ∙ length-append own (map (λ memory. items_in vars (length memories) (memory_reads (Some memory))) memories)
      ∙ (λ i. read.0 i + length-map memories (λ memory. items_in vars (length memories) (memory_reads (Some memory))) i)

  variable-list : (k : ℕ) → k < vars → slice_index_or lists k [] ≡ items_in vars (length memories) (flat_map (table_reads_for k) tables)
  variable-list k less = ap (λ (l : List (List ℕ)). slice_index_or l k []) are
      ∙ get_or_append_left own (map (λ memory. items_in vars (length memories) (memory_reads (Some memory))) memories) [] k
      (let long = read.0 in omega (arith, less, long)) ∙ read.1 k less

  memory-list : (k : ℕ) → vars ≤ k → k < vars + length memories → slice_index_or lists k []
      ≡ items_in vars (length memories) (memory_reads (slice_get memories (k - vars)))
  memory-list k past less =
      let within : k - vars < length memories = omega arith in
      let found = some-at memories (k - vars) within in
      let there = slice_get-get_or memories (k - vars) found.0 within in
      ap (λ (l : List (List ℕ)). slice_index_or l k []) are
      ∙ get_or-append_right own (map (λ memory. items_in vars (length memories) (memory_reads (Some memory))) memories) vars k [] read.0
      past
      ∙ get_or-map (λ memory. items_in vars (length memories) (memory_reads (Some memory))) memories (k - vars) found.0 [] within
      ∙ ap (λ (o : Option Memory). items_in vars (length memories) (memory_reads o)) (sym there)

  within-item : (k q : ℕ) → ReadsWithin vars memories tables k q → k < vars + length memories → ReadsItem lists k q
  within-item k q h less = by_test (nat_lt k vars) refl h.1
    where
      by_test : (b : Bool) → nat_lt k vars ≡ b → Contains (item_reads memories tables (cond b (at_now k) (of_memory (k - vars)))) h.0
          → ReadsItem lists k q
      by_test true e c = subst (λ (l : List ℕ). Contains l q) (sym (variable-list k (ltb-true k vars e)))
          (items-in vars (length memories) (flat_map (table_reads_for k) tables) q h.0 (tables-out h.0 k tables c) h.2)
      by_test false e c = subst (λ (l : List ℕ). Contains l q) (sym (memory-list k (ltb-false k vars e) less))
          (items-in vars (length memories) (memory_reads (slice_get memories (k - vars))) q h.0 c h.2)

  item-within : (k q : ℕ) → ReadsItem lists k q → ReadsWithin vars memories tables k q
  item-within k q h = by_test (nat_lt k vars) refl
    where
      less : k < vars + length memories
      less = elim (cases_Bool (nat_lt k (vars + length memories))) [
        | inl e ↦ ltb-true k (vars + length memories) e
        | inr e ↦ let long = all-long in let past = ltb-false k (vars + length memories) e in
            let none = subst (λ (l : List ℕ). Contains l q) (get_or_past lists k [] (omega (arith, long, past))) h in
            absurd (omega (arith, none.1))
      ]

      by_test : (b : Bool) → nat_lt k vars ≡ b → (r : Read) × Contains
          (item_reads memories tables (cond b (at_now k) (of_memory (k - vars)))) r × (item_read vars (length memories) r ≡ Some q)
      by_test true e = let found = items-out vars (length memories) (flat_map (table_reads_for k) tables) q
          (subst (λ (l : List ℕ). Contains l q) (variable-list k (ltb-true k vars e)) h) in
          (found.0, tables-in found.0 k tables shaped found.1, found.2)
      by_test false e = items-out vars (length memories) (memory_reads (slice_get memories (k - vars))) q
          (subst (λ (l : List ℕ). Contains l q) (memory-list k (ltb-false k vars e) less) h)

  pub are-reads : ArePlainReads vars memories tables lists
  are-reads = record { long = all-long; each = λ k q less h. within-item k q h less; only = item-within }

-- the same of slices that are lent
pub of-lent : (vars lent_vars : ℕ) (memories lent_memories : List Memory) (tables lent_tables : List Table) (reads : List (List ℕ))
    → lent_vars ≡ vars → lent_memories ≡ memories
    → lent_tables ≡ tables → ArePlainReads lent_vars lent_memories lent_tables reads → ArePlainReads vars memories tables reads
of-lent vars lent_vars memories lent_memories tables lent_tables reads same same_memories same_tables are =
    subst (λ (n : ℕ). ArePlainReads n memories tables reads) same
    (subst (λ (ms : List Memory). ArePlainReads lent_vars ms tables reads) same_memories
    (subst (λ (ts : List Table). ArePlainReads lent_vars lent_memories ts reads) same_tables are))

-- lists of what items read
module _ (vars : ℕ) (memories : List Memory) (tables : List Table) (reads : List (List ℕ)) (are : ArePlainReads vars memories tables reads)
  where
    pub are-items : AreItems reads
    are-items k q h = let r = are.only k q h in let long = are.long in let below = (read-below vars (length memories) r.0 q r.2).0 in
        omega (arith, long, below)

    pub scan-order : (order : List ℕ) → IsOrder reads order → IsScanOrder vars memories tables order
    scan-order order h = record {
      each = λ k less. let long = are.long in h.each k (omega (arith, less, long));
      once = h.once;
      items = λ k p is. let long = are.long in let less = h.items k p is in omega (arith, less, long);
      before = λ k q p is r. let long = are.long in let less = h.items k p is in
          h.before k q p is (are.each k q (omega (arith, less, long)) r);
    }

-- the rank of a checked set leaves no circle
pub no-circle : (vars : List Var) (memories : List Memory) (tables : List Table) (reads : List (List ℕ))
    → ∥ HasOrder vars memories tables ∥₁
    → ArePlainReads (length vars) memories tables reads → (items : List ℕ) → IsCircle reads items → ⊥
no-circle vars memories tables reads ordered are items circle = ∥∥₁_elim ordered (hlevel props)
    (λ o. excludes reads (λ k. o.0 (item (length vars) k)) (record {
      bounded = λ k less. let long = are.long in let below = o.1.bounded (item (length vars) k) in omega (arith, long, below);
      falls = λ k q less h. let r = are.only k q h in let facts = read-below (length vars) (length memories) r.0 q r.2 in
          subst (λ (s : Read). o.0 s < o.0 (item (length vars) k)) (sym facts.1) (o.1.falls (item (length vars) k) r.0 r.1 facts.2);
    }) items circle)
