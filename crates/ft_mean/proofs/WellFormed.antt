-- A checked set with its variables, tables and ranks at hand, as the other lemmas use them.
use Rattle.std.proofs.Common.{◌≡◌, ◌∙◌, sym, ap, subst, refl, ℕ, zero, suc, ◌<◌, ◌≤◌, pos, ◌<ℤ◌, ◌≤ℤ◌, Bool, true, false, ◌||◌, cond, max}
use Rattle.std.proofs.Common.{◌+◌, length, slice_index_or, List, [], ◌∷◌, Option, Some, None, slice_get, arith, ⊎_elim, true≢false}
use Rattle.std.specs.Prelude.{IsTrue}
use Rattle.std.specs.List.{Contains, list_any, flat_map}
use Rattle.std.proofs.lemmas.Int.{ints}
use Rattle.std.proofs.lemmas.Bool.{and_parts, or_cases, cases_Bool, cond_both, cond-true, cond-false}
use Rattle.std.proofs.Props.{props}
use Rattle.std.proofs.Math.Logic.{∥∥₁_elim}
use Rattle.ft_base.specs.Interval.{IsWithin}
use Rattle.ft_core.specs.declared.tables.Tables.{Tables}
use Rattle.ft_core.specs.declared.tables.Table.{Table}
use Rattle.ft_core.specs.declared.tables.Var.{Var}
use Rattle.ft_core.specs.declared.tables.Memory.{Memory}
use Rattle.ft_core.specs.declared.tables.Memory.TheVariants.{Held, Hyst}
use Rattle.ft_core.specs.declared.tables.Side.{Side}
use Rattle.ft_core.specs.declared.tables.Side.TheVariants as side
use Rattle.ft_core.specs.declared.tables.Section.{Section}
use Rattle.ft_core.specs.declared.tables.Section.TheVariants as section
use Rattle.ft_core.specs.laws.Lists.{in_all}
use Rattle.ft_core.specs.laws.Sections.{is_for_from, of_side, same_section, same_side}
use Rattle.ft_core.specs.meaning.Kinds.{Kinds, monitored, outputs, side_kinds, defined_kinds, section_of}
use Rattle.ft_core.specs.meaning.Grids.{cells_for, defines, is_section, is_for}
use Rattle.ft_core.specs.meaning.Reads.{Read, at_now, at_before, of_memory, of_age, memory_reads, grid_reads, cell_reads}
use Rattle.ft_core.specs.checked.Sound.{side_of, is_side, on_side, now_of, may_read, is_current, item_reads, IsRank, HasOrder, IsHold}
use Rattle.ft_mean.specs.meaning.Reading.{IsVar}

-- the table at this place, where it is of this section
abbrev pub IsTable : Tables → Section → ℕ → Table → Type 0
IsTable S section k table = (slice_get S.tables k ≡ Some table) × (table.section ≡ section)

abbrev pub IsOf : Tables → Kinds → ℕ → Type 0
IsOf S kinds x = (v : Var) × IsVar S kinds x v

abbrev pub OnSide : Tables → Side → Read → Type 0
OnSide S s (at_now x) = IsOf S (side_kinds s) x
OnSide S s (at_before x) = IsOf S (side_kinds s) x
OnSide S s (of_memory m) = (memory : Memory) × (slice_get S.memories m ≡ Some memory) × (side_of memory ≡ s)
OnSide S s (of_age m) = ⊥

abbrev pub NowOf : Tables → Kinds → Read → Type 0
NowOf S kinds (at_now x) = IsOf S kinds x
NowOf S kinds (at_before x) = ⊥
NowOf S kinds (of_memory m) = ⊥
NowOf S kinds (of_age m) = ⊥

abbrev pub MayRead : Tables → Section → Read → Type 0
MayRead S section.In r = NowOf S monitored r
MayRead S section.Req r = OnSide S side.Req r
MayRead S section.Sof r = OnSide S side.Sof r
MayRead S section.Out r = NowOf S outputs r

pub record IsOrder (S : Tables) (rank : Read → ℕ) : Type 0 where
  pub bounded : (r : Read) → rank r < length S.vars + length S.memories
  pub tables : (s : Side) (k : ℕ) (table : Table) (x : ℕ) (r : Read) → IsTable S (section_of s) k table → IsTrue (defines table.grid x)
      → Contains (flat_map cell_reads (cells_for x table.grid)) r → IsTrue (is_current r) → rank r < rank (at_now x)
  pub memories : (m : ℕ) (r : Read) → Contains (memory_reads (slice_get S.memories m)) r → IsTrue (is_current r)
      → rank r < rank (of_memory m)

-- a timer has a hold, and the bounds of a band lie apart
abbrev pub IsSoundMemory : Memory → Type 0
IsSoundMemory (Held name s cond hold) = IsHold hold
IsSoundMemory (Hyst name s e lo hi start) = lo <ℤ hi

pub record IsWellFormed (S : Tables) : Type 0 where
  pub goes_on : pos 0 ≤ℤ S.period
  pub inits : (x : ℕ) (v : Var) → slice_get S.vars x ≡ Some v → IsWithin v.range v.init
  pub sound : (m : ℕ) (memory : Memory) → slice_get S.memories m ≡ Some memory → IsSoundMemory memory
  pub tables_read : (k : ℕ) (table : Table) (r : Read) → slice_get S.tables k ≡ Some table → Contains (grid_reads table.grid) r
      → MayRead S table.section r
  pub memories_read : (m : ℕ) (memory : Memory) (r : Read) → slice_get S.memories m ≡ Some memory → Contains (memory_reads (Some memory)) r
      → OnSide S (side_of memory) r
  pub has_table : (section : Section) (x : ℕ) (v : Var) → IsVar S (defined_kinds section) x v
      → (k : ℕ) × (table : Table) × IsTable S section k table × IsTrue (defines table.grid x)
  pub one_table : (section : Section) (x k l : ℕ) (a b : Table) → IsTable S section k a → IsTable S section l b
      → IsTrue (defines a.grid x) → IsTrue (defines b.grid x) → k ≡ l
  pub rank : Read → ℕ
  pub order : IsOrder S rank

module _ (S : Tables) where
  pub of_test : (kinds : Kinds) (x : ℕ) (o : Option Var) → slice_get S.vars x ≡ o
      → elim o as (λ z. Bool) [ None ↦ false | Some v ↦ kinds x v ] ≡ true → IsOf S kinds x
  of_test kinds x None e t = absurd (true≢false (sym t))
  of_test kinds x (Some v) e t = (v, (e, t))

  memory_test : (s : Side) (m : ℕ) (o : Option Memory) → slice_get S.memories m ≡ o
      → elim o as (λ z. Bool) [ None ↦ false | Some memory ↦ is_side (side_of memory) s ] ≡ true → OnSide S s (of_memory m)
  memory_test s m None e t = absurd (true≢false (sym t))
  memory_test s m (Some memory) e t = (memory, e, same_side (side_of memory) s t)

  pub side_test : (s : Side) (r : Read) → on_side S.vars S.memories s r ≡ true → OnSide S s r
  side_test s (at_now x) t = of_test (side_kinds s) x (slice_get S.vars x) refl t
  side_test s (at_before x) t = of_test (side_kinds s) x (slice_get S.vars x) refl t
  side_test s (of_memory m) t = memory_test s m (slice_get S.memories m) refl t
  side_test s (of_age m) t = absurd (true≢false (sym t))

  now_test : (kinds : Kinds) (r : Read) → now_of S.vars kinds r ≡ true → NowOf S kinds r
  now_test kinds (at_now x) t = of_test kinds x (slice_get S.vars x) refl t
  now_test kinds (at_before x) t = absurd (true≢false (sym t))
  now_test kinds (of_memory m) t = absurd (true≢false (sym t))
  now_test kinds (of_age m) t = absurd (true≢false (sym t))

  pub read_test : (s : Section) (r : Read) → may_read S.vars S.memories s r ≡ true → MayRead S s r
  read_test section.In r t = now_test monitored r t
  read_test section.Req r t = side_test side.Req r t
  read_test section.Sof r t = side_test side.Sof r t
  read_test section.Out r t = now_test outputs r t

  any_table : (section : Section) (x : ℕ) (tables : List Table) → list_any (is_for section x) tables ≡ true
      → (k : ℕ) × (table : Table) × (slice_get tables k ≡ Some table) × (is_for section x table ≡ true)
  any_table section x [] e = absurd (true≢false (sym e))
  any_table section x (t ∷ tables) e = ⊎_elim
      (λ here. (zero, t, refl, here))
      (λ more. let at = any_table section x tables more in (suc at.0, at.1, at.2, at.3))
      (or_cases (is_for section x t) (list_any (is_for section x) tables) e)

-- the greatest number over a list of reads
abbrev greatest : (Read → ℕ) → List Read → ℕ
greatest f [] = zero
greatest f (q ∷ qs) = max (f q) (greatest f qs)

head-in : (q : Read) (qs : List Read) → Contains (q ∷ qs) q
head-in q qs = (zero, omega arith, refl)

tail-in : (q r : Read) (qs : List Read) → Contains qs r → Contains (q ∷ qs) r
tail-in q r qs c = (suc c.0, omega (arith, c.1), c.2)

greatest_least : (f : Read → ℕ) (k : ℕ) (qs : List Read) → ((q : Read) → Contains qs q → f q ≤ k) → greatest f qs ≤ k
greatest_least f k [] h = omega arith
greatest_least f k (q ∷ qs) h =
    let here = h q (head-in q qs) in let more = greatest_least f k qs (λ r c. h r (tail-in q r qs c)) in omega (arith, here, more)

greatest_at : (f : Read → ℕ) (qs : List Read) (k : ℕ) (q : Read) → k < length qs → slice_index_or qs k q ≡ q → f q ≤ greatest f qs
greatest_at f [] k q l e = absurd (omega (arith, l))
greatest_at f (y ∷ ys) zero q l e = let is = ap f e in omega (arith, is)
greatest_at f (y ∷ ys) (suc k) q l e = let more = greatest_at f ys k q (omega (arith, l)) e in omega (arith, more)

greatest_same : (f g : Read → ℕ) (qs : List Read) → ((q : Read) → Contains qs q → f q ≡ g q) → greatest f qs ≡ greatest g qs
greatest_same f g [] h = refl
greatest_same f g (q ∷ qs) h =
    let here = h q (head-in q qs) in let more = greatest_same f g qs (λ r c. h r (tail-in q r qs c)) in λ i. max (here i) (more i)

module _ (vars : List Var) (memories : List Memory) (tables : List Table) where
  -- how many items read each other from this one on, up to n
  pub level : ℕ → Read → ℕ
  level zero r = zero
  level (suc n) r = greatest (λ q. cond (is_current q) (suc (level n q)) zero) (item_reads memories tables r)

  abbrev pub whole : Read → ℕ
  whole = level (length vars + length memories)

  module _ (rank : Read → ℕ) (h : IsRank vars memories tables rank) where
    level_low : (n : ℕ) (r : Read) → level n r ≤ rank r
    unfolding level
    level_low zero r = omega arith
    level_low (suc n) r = greatest_least (λ q. cond (is_current q) (suc (level n q)) zero) (rank r) (item_reads memories tables r)
        (λ q c. cond_both (is_current q) (suc (level n q)) zero (λ k. k ≤ rank r)
        (λ now. let low = level_low n q in let falls = h.falls r q c now in omega (arith, low, falls))
        (λ past. omega arith))

    level_settled : (n : ℕ) (r : Read) → rank r < n → level n r ≡ level (suc n) r
    unfolding level
    level_settled zero r below = absurd (omega (arith, below))
    level_settled (suc n) r below = greatest_same _ _ (item_reads memories tables r) (λ q c.
        ⊎_elim (λ now. let falls = h.falls r q c now in let rest = level_settled n q (omega (arith, falls, below)) in
        λ i. cond (is_current q) (suc (rest i)) zero)
        (λ past. cond-false (is_current q) (suc (level n q)) zero past ∙ sym (cond-false (is_current q) (suc (level (suc n) q)) zero past))
        (cases_Bool (is_current q)))

    level_rank : IsRank vars memories tables whole
    unfolding level
    level_rank = record {
      bounded = λ r. let low = level_low (length vars + length memories) r in let below = h.bounded r in omega (arith, low, below);
      falls = λ r q c now.
          let settled = level_settled (length vars + length memories) r (h.bounded r) in
          let more = greatest_at (λ q. cond (is_current q) (suc (whole q)) zero) (item_reads memories tables r) c.0 q c.1 c.2 in
          let is = cond-true (is_current q) (suc (whole q)) zero now in
          omega (arith, settled, more, is);
    }

  -- a fact without a second proof needs no rank at hand
  pub ranked : ∥ HasOrder vars memories tables ∥₁ → IsRank vars memories tables whole
  ranked h = ∥∥₁_elim h (hlevel props) (λ o. level_rank o.0 o.1)

pub opened : (S : Tables) → IsWellFormed S
opened S = let h = S.sound in record {
  goes_on = omega (arith, ints, h.has_period.0);
  inits = h.inits;
  sound = λ m memory is. elim memory as (λ (x : Memory). slice_get S.memories m ≡ Some x → IsSoundMemory x) [
    | Held name s c hold ↦ λ e. h.timers m name s c hold e
    | Hyst name s e lo hi start ↦ λ there. h.bands m name s e lo hi start there
  ] is;
  tables_read = λ k table r is c. read_test S table.section r (h.tables_read k table r is c);
  memories_read = λ m memory r is c. side_test S (side_of memory) r (h.memories_read m memory r is c);
  has_table = λ section x v is.
      let at = any_table S section x S.tables (h.has_table section x (ap
      (λ o. elim o as (λ z. Bool) [ None ↦ false | Some u ↦ defined_kinds section x u ]) is.0 ∙ is.1)) in
      let both = and_parts (is_section at.1.section section) (defines at.1.grid x) at.3 in
      (at.0, at.1, (at.2, same_section at.1.section section both.0), both.1);
  one_table = λ section x k l a b ia ib da db. h.one_table section x k l a b ia.0 ib.0 (is_for_from section x a ia.1 da)
      (is_for_from section x b ib.1 db);
  rank = whole S.vars S.memories S.tables;
  order = let rank = ranked S.vars S.memories S.tables h.order in record {
    bounded = rank.bounded;
    tables = λ s k table x r is d c now. rank.falls (at_now x) r
        (in_all (λ (t : Table). cond (is_for section.Req x t || is_for section.Sof x t) (flat_map cell_reads (cells_for x t.grid)) [])
        S.tables k table r is.0
        (subst (λ b. Contains (cond b (flat_map cell_reads (cells_for x table.grid)) []) r)
        (sym (of_side s x table (is_for_from (section_of s) x table is.1 d))) c)) now;
    memories = λ m r c now. rank.falls (of_memory m) r c now;
  };
}
