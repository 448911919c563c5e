-- What clauses, tables, memories and invariants of a checked set read stands in the set, without a tactic: the crates above cite these too.
use Rattle.std.proofs.Common.{◌≡◌, sym, refl, ℕ, ◌<◌, Bool, true, false, length, Option, Some, None, slice_get, true≢false}
use Rattle.std.specs.Prelude.{IsTrue}
use Rattle.std.proofs.lemmas.Bool.{ltb-true}
use Rattle.std.proofs.lemmas.Option.{slice_get_within}
use Rattle.ft_core.specs.declared.tables.Tables.{Tables}
use Rattle.ft_core.specs.declared.tables.Var.{Var}
use Rattle.ft_core.specs.declared.tables.Memory.{Memory}
use Rattle.ft_core.specs.declared.tables.Section.{Section}
use Rattle.ft_core.specs.declared.tables.Section.TheVariants as section
use Rattle.ft_core.specs.declared.tables.Side.{Side}
use Rattle.ft_core.specs.declared.tables.Side.TheVariants as side
use Rattle.ft_core.specs.checked.Blocks.{AreBlocks, may_show, is_held}
use Rattle.ft_core.specs.checked.Checked.{IsChecked, AreChecked}
use Rattle.ft_core.specs.checked.Sound.{on_side, now_of, step_of, may_read, side_of, is_side}
use Rattle.ft_core.specs.meaning.Kinds.{Kinds, is_of, side_kinds, monitored, outputs}
use Rattle.ft_core.specs.meaning.Reads.{Read, at_now, at_before, of_memory, of_age}
use Rattle.ft_mean.specs.meaning.Reading.{IsVar}
use Rattle.ft_claims.specs.laws.GoodLaws.{IsThere}

-- what was checked of a set beside its meaning, opened
pub checked_of : (S : Tables) → AreChecked S.name S.splits S.depth S.vars S.memories S.tables S.first S.always S.step S.blocks
unfolding IsChecked
checked_of S = S.checked

-- and of its blocks
pub blocks_of : (S : Tables) → AreBlocks S.vars S.memories S.blocks
blocks_of S = (checked_of S).facts

-- what stands in the set and is of one scan
abbrev pub IsOfScan : Tables → Read → Type 0
IsOfScan S (at_now x) = x < length S.vars
IsOfScan S (at_before x) = ⊥
IsOfScan S (of_memory m) = m < length S.memories
IsOfScan S (of_age m) = m < length S.memories

pub there : (S : Tables) (r : Read) → IsOfScan S r → IsThere S r
there S (at_now x) on = on
there S (at_before x) on = absurd on
there S (of_memory m) on = on
there S (of_age m) on = on

module _ (S : Tables) where
  -- a variable of some kinds
  pub var_of : (kinds : Kinds) (x : ℕ) → IsTrue (is_of S.vars kinds x) → (v : Var) × IsVar S kinds x v
  var_of kinds x is = by_var (slice_get S.vars x) refl is
    where
      by_var : (o : Option Var) → slice_get S.vars x ≡ o → elim o as (λ z. Bool) [ None ↦ false | Some v ↦ kinds x v ] ≡ true
          → (v : Var) × IsVar S kinds x v
      by_var None e t = absurd (true≢false (sym t))
      by_var (Some v) e t = (v, (e, t))

  var_there : (kinds : Kinds) (x : ℕ) → IsTrue (is_of S.vars kinds x) → x < length S.vars
  var_there kinds x is = let v = var_of kinds x is in slice_get_within S.vars x v.0 v.1.0

  memory_there : (test : Memory → Bool) (m : ℕ) (o : Option Memory) → slice_get S.memories m ≡ o
      → elim o as (λ z. Bool) [ None ↦ false | Some memory ↦ test memory ] ≡ true → m < length S.memories
  memory_there test m None e t = absurd (true≢false (sym t))
  memory_there test m (Some memory) e t = slice_get_within S.memories m memory e

  held_there : (m : ℕ) (o : Option Memory) → slice_get S.memories m ≡ o → is_held o ≡ true → m < length S.memories
  held_there m None e t = absurd (true≢false (sym t))
  held_there m (Some memory) e t = slice_get_within S.memories m memory e

  -- what may be read at a scan alone
  pub now_there : (kinds : Kinds) (r : Read) → IsTrue (now_of S.vars kinds r) → IsOfScan S r
  now_there kinds (at_now x) may = var_there kinds x may
  now_there kinds (at_before x) may = absurd (true≢false (sym may))
  now_there kinds (of_memory m) may = absurd (true≢false (sym may))
  now_there kinds (of_age m) may = absurd (true≢false (sym may))

  -- at a step
  pub step_there : (kinds : Kinds) (r : Read) → IsTrue (step_of S.vars kinds r) → IsThere S r
  step_there kinds (at_now x) may = var_there kinds x may
  step_there kinds (at_before x) may = var_there kinds x may
  step_there kinds (of_memory m) may = absurd (true≢false (sym may))
  step_there kinds (of_age m) may = absurd (true≢false (sym may))

  -- on a side
  pub side_there : (s : Side) (r : Read) → IsTrue (on_side S.vars S.memories s r) → IsThere S r
  side_there s (at_now x) may = var_there (side_kinds s) x may
  side_there s (at_before x) may = var_there (side_kinds s) x may
  side_there s (of_memory m) may = memory_there (λ memory. is_side (side_of memory) s) m (slice_get S.memories m) refl may
  side_there s (of_age m) may = absurd (true≢false (sym may))

  -- by a section
  pub may_there : (section : Section) (r : Read) → IsTrue (may_read S.vars S.memories section r) → IsThere S r
  may_there section.In r may = there S r (now_there monitored r may)
  may_there section.Req r may = side_there side.Req r may
  may_there section.Sof r may = side_there side.Sof r may
  may_there section.Out r may = there S r (now_there outputs r may)

  -- by an invariant
  pub fact_there : (r : Read) → IsTrue (may_show S.vars S.memories r) → IsOfScan S r
  fact_there (at_now x) may = ltb-true x (length S.vars) may
  fact_there (at_before x) may = absurd (true≢false (sym may))
  fact_there (of_memory m) may = ltb-true m (length S.memories) may
  fact_there (of_age m) may = held_there m (slice_get S.memories m) refl may
