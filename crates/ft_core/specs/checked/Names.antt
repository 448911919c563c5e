-- The names of a set: which texts are names, what declares one, and that no two declarations have the same.
use Rattle.std.specs.Prelude.{ℕ, ◌≡◌, nat_le, ◌==◌, Bool, false, ◌&&◌, ◌||◌, IsTrue, List, [], ◌∷◌, ◌++◌, length, map, slice_get, Some}
use Rattle.std.specs.List.{Contains, list_all, flat_map}
use Rattle.ft_base.specs.Digits.{is_digit}
use Rattle.ft_base.specs.Names.{is_letter}
use Rattle.ft_core.specs.declared.tables.Var.{Var}
use Rattle.ft_core.specs.declared.tables.Memory.{Memory}
use Rattle.ft_core.specs.declared.tables.Memory.TheVariants.{Held, Hyst}
use Rattle.ft_core.specs.declared.tables.Fact.{Fact}
use Rattle.ft_core.specs.declared.tables.Fact.TheVariants.{Invariant, Goal}
use Rattle.ft_core.specs.declared.tables.Block.{Block}
use Rattle.ft_core.specs.checked.Distinct.{AreDistinct}

-- `_`, `.`, `(` or `)`
abbrev pub is_mark : ℕ → Bool
is_mark byte = (byte == 95) || (byte == 46) || (byte == 40) || (byte == 41)

abbrev pub is_set_name_byte : ℕ → Bool
is_set_name_byte byte = is_letter byte || is_digit byte || is_mark byte

-- a letter, and after it letters, digits and marks
abbrev pub is_lettered : List ℕ → Bool
is_lettered [] = false
is_lettered (first ∷ rest) = is_letter first && list_all is_set_name_byte rest

-- what a name in a set may be, in a set that is derived from another too: such bytes, at most 50 of them
abbrev pub is_set_name : List ℕ → Bool
is_set_name text = is_lettered text && nat_le (length text) 50

abbrev pub memory_name : Memory → List ℕ
memory_name (Held name side cond hold) = name
memory_name (Hyst name side e lo hi start) = name

-- an invariant declares its name
abbrev pub fact_names : Fact → List (List ℕ)
fact_names (Invariant name cond) = name ∷ []
fact_names (Goal con) = []

-- the names of variables, memories, blocks and invariants
abbrev pub declared_names : List Var → List Memory → List Block → List (List ℕ)
declared_names vars memories blocks =
    map (λ v. v.name) vars ++ map memory_name memories ++ map (λ b. b.name) blocks ++ flat_map (λ b. flat_map fact_names b.facts) blocks

-- what was checked of the names of a set. The set's own may be that of something in it
pub record AreNamed (name : List ℕ) (vars : List Var) (memories : List Memory) (blocks : List Block) : Type 0 where
  pub set : IsTrue (is_set_name name)
  pub declared : IsTrue (list_all is_set_name (declared_names vars memories blocks))
  pub differ : AreDistinct (declared_names vars memories blocks)
  pub members : (x : ℕ) (v : Var) → slice_get vars x ≡ Some v → IsTrue (list_all is_set_name v.members)
  pub members_differ : (x : ℕ) (v : Var) → slice_get vars x ≡ Some v → AreDistinct v.members
  -- no member is called as something that is declared
  pub members_apart : (x : ℕ) (v : Var) (member : List ℕ) → slice_get vars x ≡ Some v → Contains v.members member
      → Contains (declared_names vars memories blocks) member → ⊥
