-- When the design implements the requirement, and where they first differ.
-- Source: the acceptance condition of Parnas and Madey, for relations that are functions.
use Rattle.std.specs.Prelude.{◌≡◌, ◌≢◌, ℕ, ◌<◌, ◌≤◌, length}
use Rattle.ft_core.specs.declared.tables.Tables.{Tables}
use Rattle.ft_core.specs.declared.tables.Var.{Var}
use Rattle.ft_core.specs.declared.tables.Side.TheVariants as side
use Rattle.ft_core.specs.meaning.Kinds.{controlled}
use Rattle.ft_mean.specs.meaning.Allowed.{Allowed}
use Rattle.ft_mean.specs.meaning.Fits.{Fits, InputMap, OutputMap, Only, side_reading}
use Rattle.ft_mean.specs.meaning.Reading.{Scans, IsVar, reading_of}

-- what an allowed list h comes to: the one requirement trace r, the one list of inputs i that IN makes of h, the one
-- design trace s over i, and the one list of controlled values c that OUT makes of s
pub record Runs (S : Tables) (h r i s c : Scans) : Type 0 where
  pub allowed : Allowed S h
  pub required : Only (Fits S side.Req h) r
  pub inputs : Only (InputMap S h) i
  pub design : Only (Fits S side.Sof i) s
  pub outputs : Only (OutputMap S s) c

-- at scan t the controlled values of the requirement are those that the design puts out
abbrev pub SameAt : Tables → (r c : Scans) → ℕ → Type 0
SameAt S r c t = (x : ℕ) (v : Var) → IsVar S controlled x v → side_reading S side.Req r t x ≡ reading_of S controlled c t x

-- the design implements the requirement on every allowed list, of any length
abbrev pub Refines : Tables → Type 0
Refines S = (h : Scans) → Allowed S h → (r i s c : Scans) × Runs S h r i s c × ((t : ℕ) → t < length h → SameAt S r c t)

-- on the allowed list h some controlled value differs at scan k, and none before it
pub record FirstDiffers (S : Tables) (h : Scans) (k : ℕ) : Type 0 where
  pub r : Scans
  pub i : Scans
  pub s : Scans
  pub c : Scans
  pub runs : Runs S h r i s c
  pub in_list : k < length h
  pub same_before : (t : ℕ) → t < k → SameAt S r c t
  pub variable : ℕ
  pub declared : Var
  pub is_controlled : IsVar S controlled variable declared
  pub differs : side_reading S side.Req r k variable ≢ reading_of S controlled c k variable

-- no monitored list of at most n scans shows a difference
abbrev pub ShortSafe : Tables → ℕ → Type 0
ShortSafe S n = (h : Scans) (k : ℕ) → length h ≤ n → FirstDiffers S h k → ⊥
