-- What was checked of the blocks of a set: what each takes, uses and shows.
use Rattle.std.specs.Prelude.{ℕ, ◌≡◌, ◌≤◌, ◌<◌, nat_lt, Bool, true, false, ◌||◌, IsTrue, List, length, slice_get, Option, Some, None}
use Rattle.std.specs.List.{Contains, list_all, sum_by}
use Rattle.ft_core.specs.declared.tables.Var.{Var}
use Rattle.ft_core.specs.declared.tables.Memory.{Memory}
use Rattle.ft_core.specs.declared.tables.Memory.TheVariants.{Held, Hyst}
use Rattle.ft_core.specs.declared.tables.Section.TheVariants as section
use Rattle.ft_core.specs.declared.tables.Fact.{Fact}
use Rattle.ft_core.specs.declared.tables.Fact.TheVariants.{Invariant, Goal}
use Rattle.ft_core.specs.declared.tables.Take.{Take}
use Rattle.ft_core.specs.declared.tables.Take.TheVariants as take
use Rattle.ft_core.specs.declared.tables.Block.{Block}
use Rattle.ft_core.specs.declared.term.Cond.{Cond}
use Rattle.ft_core.specs.meaning.Kinds.{controlled, defined_kinds, is_of}
use Rattle.ft_core.specs.checked.Distinct.{AreDistinct}
use Rattle.ft_core.specs.meaning.Reads.{Read, at_now, at_before, of_memory, of_age, cond_reads}
use Rattle.ft_core.specs.checked.Size.{is_sized}
use Rattle.ft_core.specs.checked.Short.{is_short}

abbrev pub is_held : Option Memory → Bool
is_held (Some (Held name side cond hold)) = true
is_held (Some (Hyst name side e lo hi start)) = false
is_held None = false

-- what an invariant may read: every variable and memory at this scan, of both sides, and the age of a `held`
abbrev pub may_show : List Var → List Memory → Read → Bool
may_show vars memories (at_now x) = nat_lt x (length vars)
may_show vars memories (at_before x) = false
may_show vars memories (of_memory m) = nat_lt m (length memories)
may_show vars memories (of_age m) = is_held (slice_get memories m)

-- what a block may take: a variable that a REQ or SOF table defines, so neither a monitored one nor an input, and any memory
abbrev pub may_take : List Var → List Memory → Take → Bool
may_take vars memories (take.Variable x) = is_of vars (defined_kinds section.Req) x || is_of vars (defined_kinds section.Sof) x
may_take vars memories (take.Memory m) = nat_lt m (length memories)

abbrev pub is_invariant : Option Fact → Bool
is_invariant (Some (Invariant name cond)) = true
is_invariant (Some (Goal con)) = false
is_invariant None = false

-- the fact at this place of this block is there, and an invariant
abbrev pub names_invariant : List Block → ℕ × ℕ → Bool
names_invariant blocks used = elim (slice_get blocks used.0) [ None ↦ false | Some block ↦ is_invariant (slice_get block.facts used.1) ]

pub record AreBlocks (vars : List Var) (memories : List Memory) (blocks : List Block) : Type 0 where
  pub few : length blocks ≤ 400
  pub few_facts : sum_by (λ block. length block.facts) blocks ≤ 400
  pub some_fact : (b : ℕ) (block : Block) → slice_get blocks b ≡ Some block → 0 < length block.facts
  pub takes : (b : ℕ) (block : Block) (t : Take) → slice_get blocks b ≡ Some block → Contains block.takes t
      → IsTrue (may_take vars memories t)
  pub takes_differ : (b : ℕ) (block : Block) → slice_get blocks b ≡ Some block → AreDistinct block.takes
  pub uses : (b : ℕ) (block : Block) (used : ℕ × ℕ) → slice_get blocks b ≡ Some block → Contains block.uses used
      → IsTrue (names_invariant blocks used)
  pub uses_differ : (b : ℕ) (block : Block) → slice_get blocks b ≡ Some block → AreDistinct block.uses
  pub invariants_read : (b f : ℕ) (block : Block) (name : List ℕ) (cond : Cond) (r : Read) → slice_get blocks b ≡ Some block
      → slice_get block.facts f ≡ Some (Invariant name cond) → Contains (cond_reads cond) r → IsTrue (may_show vars memories r)
  pub invariants_sized : (b f : ℕ) (block : Block) (name : List ℕ) (cond : Cond) → slice_get blocks b ≡ Some block
      → slice_get block.facts f ≡ Some (Invariant name cond) → IsTrue (is_sized vars memories cond)
  pub invariants_short : (b f : ℕ) (block : Block) (name : List ℕ) (cond : Cond) → slice_get blocks b ≡ Some block
      → slice_get block.facts f ≡ Some (Invariant name cond) → IsTrue (is_short cond)
  pub goals : (b f x : ℕ) (block : Block) → slice_get blocks b ≡ Some block → slice_get block.facts f ≡ Some (Goal x)
      → IsTrue (is_of vars controlled x)
