-- What an item of a side reads is known once all before it in an order is made.
use Rattle.std.proofs.Common.{◌≡◌, ◌∙◌, sym, ap, subst, refl, ◌⊎◌, inl, inr, ℕ, zero, suc, ◌+◌, ◌-◌, ◌<◌, Bool, true, false, ◌||◌, cond}
use Rattle.std.proofs.Common.{List, [], ◌∷◌, length, slice_get, Option, Some, None, arith, ⊎_elim, true≢false}
use Rattle.std.specs.Prelude.{nat_lt, ◌==◌}
use Rattle.std.specs.List.{Contains, flat_map, list_any}
use Rattle.std.proofs.lemmas.Bool.{and_parts, or_cases, or_left, or_right, cond-true, cond-false, lt-ltb, le-ltb, eq-eqb}
use Rattle.std.proofs.lemmas.Option.{none-some, same_Some, slice_get_within}
use Rattle.ft_core.specs.declared.tables.Tables.{Tables}
use Rattle.ft_core.specs.declared.tables.Table.{Table}
use Rattle.ft_core.specs.declared.tables.Var.{Var}
use Rattle.ft_core.specs.declared.tables.Memory.{Memory}
use Rattle.ft_core.specs.declared.tables.Side.{Side}
use Rattle.ft_core.specs.declared.tables.Side.TheVariants as side
use Rattle.ft_core.specs.declared.tables.Section.TheVariants as section
use Rattle.ft_core.specs.declared.tables.Grid.TheVariants.{Vector}
use Rattle.ft_core.specs.declared.term.Cond.{Cond}
use Rattle.ft_core.specs.declared.term.Term.{Term}
use Rattle.ft_core.specs.meaning.Kinds.{Kinds, given_kinds, defined_kinds, side_kinds, section_of, is_of}
use Rattle.ft_core.specs.meaning.Grids.{cells_for, defines, is_section, is_for, is_shaped}
use Rattle.ft_core.specs.meaning.Items.{item, item_read, IsScanOrder}
use Rattle.ft_core.specs.meaning.Reads.{Read, at_now, at_before, of_memory, of_age, cond_reads, memory_reads, grid_reads, cell_reads}
use Rattle.ft_core.specs.checked.Sound.{side_of, is_side, is_memory_of, on_side, may_read, item_reads}
use Rattle.ft_core.specs.laws.Lists.{in_all}
use Rattle.ft_core.specs.laws.Sections.{is_for_from, of_side, same_section, same_side}
use Rattle.ft_scan.specs.steps.Plan.{IsKnown, AreKnown}
use Rattle.ft_scan.specs.steps.Planning.{HasMade}
use Rattle.ft_scan.specs.declared.plan.Planned.{Planned}
use Rattle.ft_scan.proofs.ColumnLemmas.{column-reads}
use Rattle.ft_scan.proofs.TableLemmas.{all_at}
use Rattle.ft_scan.specs.laws.Laws.{Laws}

-- a variable that stands in a set stands at a place
pub of-within : (vars : List Var) (kinds : Kinds) (x : ℕ) → is_of vars kinds x ≡ true → x < length vars
of-within vars kinds x is = go (slice_get vars x) refl is
  where
    go : (o : Option Var) → slice_get vars x ≡ o → elim o as (λ z. Bool) [ None ↦ false | Some v ↦ kinds x v ] ≡ true → x < length vars
    go None e t = absurd (true≢false (sym t))
    go (Some v) e t = slice_get_within vars x v e

pub memory-within : (memories : List Memory) (s : Side) (m : ℕ) → is_memory_of memories s m ≡ true → (memory : Memory)
    × (slice_get memories m ≡ Some memory) × (side_of memory ≡ s)
memory-within memories s m is = go (slice_get memories m) refl is
  where
    go : (o : Option Memory) → slice_get memories m ≡ o → elim o as (λ z. Bool) [ None ↦ false | Some memory ↦ is_side (side_of memory) s ]
        ≡ true
        → (memory : Memory) × (slice_get memories m ≡ Some memory) × (side_of memory ≡ s)
    go None e t = absurd (true≢false (sym t))
    go (Some memory) e t = (memory, e, same_side (side_of memory) s t)

-- a variable of a side is given or defined
side-cases : (vars : List Var) (s : Side) (x : ℕ) → is_of vars (side_kinds s) x ≡ true → (is_of vars (given_kinds s) x ≡ true)
    ⊎ (is_of vars (defined_kinds (section_of s)) x ≡ true)
side-cases vars s x is = go (slice_get vars x) is
  where
    go : (o : Option Var) → elim o as (λ z. Bool) [ None ↦ false | Some v ↦ side_kinds s x v ] ≡ true
        → (elim o as (λ z. Bool) [ None ↦ false | Some v ↦ given_kinds s x v ] ≡ true)
        ⊎ (elim o as (λ z. Bool) [ None ↦ false | Some v ↦ defined_kinds (section_of s) x v ] ≡ true)
    go None t = absurd (true≢false (sym t))
    go (Some v) t = or_cases (given_kinds s x v) (defined_kinds (section_of s) x v) t

may-on : (vars : List Var) (memories : List Memory) (s : Side) (r : Read) → may_read vars memories (section_of s) r ≡ true
    → on_side vars memories s r ≡ true
may-on vars memories side.Req r e = e
may-on vars memories side.Sof r e = e

module _ (L : Laws) (S : Tables) (s : Side) (order : List ℕ) (right : IsScanOrder (length S.vars) S.memories S.tables order) (at k : ℕ)
    (here : slice_get order at ≡ Some k)
    (planned : Planned) (made : HasMade S s order at planned) where
  -- an item that this one reads
  earlier : (r : Read) (q : ℕ) → Contains (item_reads S.memories S.tables (item (length S.vars) k)) r
      → item_read (length S.vars) (length S.memories) r ≡ Some q
      → (p : ℕ) × (p < at) × (slice_get order p ≡ Some q)
  earlier r q reads is = right.before k q at here (r, reads, is)

  -- what is of the side is known, if this item reads it
  pub known-read : (r : Read) → Contains (item_reads S.memories S.tables (item (length S.vars) k)) r → on_side S.vars S.memories s r ≡ true
      → IsKnown S s planned.steps (length planned.steps) r
  known-read (at_now x) reads own = ⊎_elim
      (λ given. inl given)
      (λ defined.
      let is : item_read (length S.vars) (length S.memories) (at_now x) ≡ Some x =
      cond-true (nat_lt x (length S.vars)) (Some x) None (lt-ltb x (length S.vars)
      (of-within S.vars (defined_kinds (section_of s)) x defined)) in
      let p = earlier (at_now x) x reads is in
      inr (made.variables p.0 x p.1 p.2 defined))
      (side-cases S.vars s x own)
  known-read (at_before x) reads own = own
  known-read (of_memory m) reads own =
      let is : item_read (length S.vars) (length S.memories) (of_memory m) ≡ Some (length S.vars + m) =
      cond-true (nat_lt m (length S.memories)) (Some (length S.vars + m)) None
      (let there = memory-within S.memories s m own in lt-ltb m (length S.memories) (slice_get_within S.memories m there.0 there.1)) in
      let p = earlier (of_memory m) (length S.vars + m) reads is in
      made.memories p.0 (length S.vars + m) m p.1 p.2 refl own
  known-read (of_age m) reads own = absurd (true≢false (sym own))

  -- a table of the side reads what is of the side
  own-table : (place : ℕ) (table : Table) (x : ℕ) (r : Read) → slice_get S.tables place ≡ Some table → is_for (section_of s) x table ≡ true
      → Contains (grid_reads table.grid) r → on_side S.vars S.memories s r ≡ true
  own-table place table x r there own c =
      let its = same_section table.section (section_of s) (and_parts (is_section table.section (section_of s)) (defines table.grid x) own).0
      in
      may-on S.vars S.memories s r (subst (λ n. may_read S.vars S.memories n r ≡ true) its (S.sound.tables_read place table r there c))

  has-target : (targets : List ℕ) (row : ℕ) → slice_get targets row ≡ Some k → list_any (λ target. target == k) targets ≡ true
  has-target [] row e = absurd (none-some k e)
  has-target (t ∷ targets) zero e = or_left (t == k) (list_any (λ target. target == k) targets) (eq-eqb t k (same_Some t k e))
  has-target (t ∷ targets) (suc row) e = or_right (t == k) (list_any (λ target. target == k) targets) (has-target targets row e)

  module _ (is : k < length S.vars) where
    item-is : item (length S.vars) k ≡ at_now k
    item-is = cond-true (nat_lt k (length S.vars)) (at_now k) (of_memory (k - length S.vars)) (lt-ltb k (length S.vars) is)

    -- what the item's own cells of a table of the side read is known
    pub known-cells : (place : ℕ) (table : Table) → slice_get S.tables place ≡ Some table → is_for (section_of s) k table ≡ true
        → AreKnown S s planned.steps (length planned.steps) (flat_map cell_reads (cells_for k table.grid))
    known-cells place table there own r c = known-read r
        (subst (λ i. Contains (item_reads S.memories S.tables i) r) (sym item-is)
        (in_all (λ (t : Table). cond (is_for section.Req k t || is_for section.Sof k t) (flat_map cell_reads (cells_for k t.grid)) [])
        S.tables place table r there
        (subst (λ b. Contains (cond b (flat_map cell_reads (cells_for k table.grid)) []) r) (sym (of_side s k table own)) c)))
        (own-table place table k r there own (L.own_reads table.grid k r c))

    -- the same of a row of a vector table
    module _ (place row : ℕ) (columns : List Cond) (targets : List ℕ) (terms : List (List Term))
        (there : slice_get S.tables place ≡ Some (record { section = section_of s; grid = Vector columns targets terms }))
        (target : slice_get targets row ≡ Some k) where
      pub known-entries : AreKnown S s planned.steps (length planned.steps)
          (flat_map cell_reads (cells_for k (Vector columns targets terms)))
      known-entries = known-cells place (record { section = section_of s; grid = Vector columns targets terms }) there
          (is_for_from (section_of s) k (record { section = section_of s; grid = Vector columns targets terms }) refl
          (has-target targets row target))

      -- and of its columns
      pub known-columns : AreKnown S s planned.steps (length planned.steps) (flat_map cond_reads columns)
      known-columns r c = known-entries r
          (column-reads columns targets terms (all_at (λ (t : Table). is_shaped t.grid) S.tables place _ S.sound.shapes there) row k r
          target c)

  -- what a memory of the side reads is known
  pub known-memory : (m : ℕ) → k ≡ length S.vars + m → is_memory_of S.memories s m ≡ true
      → AreKnown S s planned.steps (length planned.steps) (item_reads S.memories S.tables (of_memory m))
  known-memory m is own r c =
      let there = memory-within S.memories s m own in
      let item-is : item (length S.vars) k ≡ of_memory m =
      cond-false (nat_lt k (length S.vars)) (at_now k) (of_memory (k - length S.vars)) (le-ltb k (length S.vars) (omega (arith, is)))
      ∙ ap of_memory (omega (arith, is)) in
      known-read r (subst (λ i. Contains (item_reads S.memories S.tables i) r) (sym item-is) c)
      (subst (λ t. on_side S.vars S.memories t r ≡ true) there.2
      (S.sound.memories_read m there.0 r there.1 (subst (λ o. Contains (memory_reads o) r) there.1 c)))
