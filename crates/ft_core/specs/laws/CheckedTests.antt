-- Tests that compute on a set that is written out, and together say that it is checked.
use Rattle.std.specs.Prelude.{ℕ, ◌-◌, ◌≡◌, ◌==◌, nat_le, nat_lt, ℤ, pos, int_le, unsigned_abs, Bool, true, false, not, ◌&&◌, ◌||◌, List, []}
use Rattle.std.specs.Prelude.{◌∷◌, ◌++◌, length}
use Rattle.std.specs.List.{list_all, list_any, sum_by}
use Rattle.std.specs.Str.{bytes_eq}
use Rattle.ft_core.specs.declared.tables.Var.{Var}
use Rattle.ft_core.specs.declared.tables.Memory.{Memory}
use Rattle.ft_core.specs.declared.tables.Memory.TheVariants.{Held, Hyst}
use Rattle.ft_core.specs.declared.tables.Table.{Table}
use Rattle.ft_core.specs.declared.tables.Grid.{Grid}
use Rattle.ft_core.specs.declared.tables.Grid.TheVariants.{Normal, Inverted, Vector}
use Rattle.ft_core.specs.declared.tables.Fact.{Fact}
use Rattle.ft_core.specs.declared.tables.Fact.TheVariants.{Invariant, Goal}
use Rattle.ft_core.specs.declared.tables.Take.{Take}
use Rattle.ft_core.specs.declared.tables.Take.TheVariants as take
use Rattle.ft_core.specs.declared.tables.Block.{Block}
use Rattle.ft_core.specs.declared.term.Cond.{Cond}
use Rattle.ft_core.specs.meaning.Kinds.{monitored, controlled, defined_kinds, is_of}
use Rattle.ft_core.specs.meaning.Reads.{cond_reads}
use Rattle.ft_core.specs.checked.Size.{is_sized}
use Rattle.ft_core.specs.checked.Blocks.{may_show, may_take, names_invariant}
use Rattle.ft_core.specs.checked.Checked.{IsChecked}
use Rattle.ft_core.specs.checked.Names.{declared_names, is_set_name}
use Rattle.ft_core.specs.checked.Short.{is_short, is_short_memory, is_short_grid}

-- whether no element stands twice, by a test of two elements
abbrev pub all_differ : {A : Type 0} → (A → A → Bool) → List A → Bool
all_differ same [] = true
all_differ same (x ∷ xs) = not (list_any (same x) xs) && all_differ same xs

abbrev pub is_same_place : (a b : ℕ × ℕ) → Bool
is_same_place a b = (a.0 == b.0) && (a.1 == b.1)

abbrev pub is_same_take : Take → Take → Bool
is_same_take (take.Variable x) (take.Variable y) = x == y
is_same_take (take.Memory m) (take.Memory n) = m == n
is_same_take _ _ = false

-- whether bounds are in order and at most 1,000,000,000 either way
abbrev pub is_bounded : (lo hi : ℤ) → Bool
is_bounded lo hi = int_le lo hi && (nat_le (unsigned_abs lo) 1000000000 && nat_le (unsigned_abs hi) 1000000000)

abbrev pub is_bounded_memory : Memory → Bool
is_bounded_memory (Held name side cond hold) = true
is_bounded_memory (Hyst name side e lo hi start) = is_bounded lo hi

-- whether these are the first so many numbers
abbrev pub is_enum_range : ℕ → ℤ × ℤ → Bool
is_enum_range count range =
    int_le range.0 (pos 0) && (int_le (pos 0) range.0 && (int_le range.1 (pos (count - 1)) && int_le (pos (count - 1)) range.1))

-- whether a number has no members, and an enum at most 64 names that differ from each other and from what is declared, and their range
abbrev pub is_typed : List (List ℕ) → Var → Bool
is_typed declared v =
    list_all is_set_name v.members && (all_differ bytes_eq v.members &&
    (list_all (λ member. not (list_any (bytes_eq member) declared)) v.members
    && (nat_le (length v.members) 64 && (length v.members == 0 || is_enum_range (length v.members) v.range))))

-- whether a grid defines variables that pass a test, none twice
abbrev pub has_targets : (ℕ → Bool) → Grid → Bool
has_targets may (Normal target columns rows terms) = may target
has_targets may (Inverted target terms rows grid) = may target
has_targets may (Vector columns targets terms) = list_all may targets && all_differ (λ x y. x == y) targets

abbrev pub is_shown : List Var → List Memory → Fact → Bool
is_shown vars memories (Invariant name cond) = list_all (may_show vars memories) (cond_reads cond)
    && (is_sized vars memories cond && is_short cond)
is_shown vars memories (Goal x) = is_of vars controlled x

abbrev pub is_block : List Var → List Memory → List Block → Block → Bool
is_block vars memories blocks block =
    nat_lt 0 (length block.facts) && (list_all (may_take vars memories) block.takes && (all_differ is_same_take block.takes
    && (list_all (names_invariant blocks) block.uses && (all_differ is_same_place block.uses
    && list_all (is_shown vars memories) block.facts))))

-- each field computes: by `refl`, or by `simp` with the equations of terms, sizes and lengths
pub record PassesChecks (name : List ℕ) (splits depth : ℕ) (vars : List Var) (memories : List Memory) (tables : List Table)
    (first always step : List Cond) (blocks : List Block) : Type 0 where
  pub named : list_all is_set_name (name ∷ declared_names vars memories blocks) ≡ true
  pub differ : all_differ bytes_eq (declared_names vars memories blocks) ≡ true
  pub numbers : (nat_le splits 200000 && (nat_le 1 depth && nat_le depth 8)) ≡ true
  pub monitored_at : ℕ
  pub some_monitored : is_of vars monitored monitored_at ≡ true
  pub controlled_at : ℕ
  pub some_controlled : is_of vars controlled controlled_at ≡ true
  pub ranges : list_all (λ v. is_bounded v.range.0 v.range.1) vars ≡ true
  pub bands : list_all is_bounded_memory memories ≡ true
  pub typed : list_all (is_typed (declared_names vars memories blocks)) vars ≡ true
  pub targets : list_all (λ table. has_targets (is_of vars (defined_kinds table.section)) table.grid) tables ≡ true
  pub short_memories : list_all is_short_memory memories ≡ true
  pub short_tables : list_all (λ table. is_short_grid table.grid) tables ≡ true
  pub short_clauses : list_all is_short (first ++ always ++ step) ≡ true
  pub few_blocks : (nat_le (length blocks) 400 && nat_le (sum_by (λ block. length block.facts) blocks) 400) ≡ true
  pub each_block : list_all (is_block vars memories blocks) blocks ≡ true

-- what passes the tests is checked
abbrev pub CheckedByTests : Type 0
CheckedByTests = (name : List ℕ) (splits depth : ℕ) (vars : List Var) (memories : List Memory) (tables : List Table)
    (first always step : List Cond)
    (blocks : List Block) → PassesChecks name splits depth vars memories tables first always step blocks
    → IsChecked name splits depth vars memories tables first always step blocks
