-- Numbers for the names of the scans of a list, and the lists that have the values of a point.
use Rattle.std.specs.Prelude.{ℕ, ◌+◌, ◌-◌, ◌*◌, ◌/◌, ◌≡◌, ◌<◌, ℤ, nat_lt, IsTrue, IsFalse, List, length, Some, slice_get, if◌then◌else◌}
use Rattle.std.specs.List.{list_all}
use Rattle.ft_core.specs.declared.tables.Tables.{Tables}
use Rattle.ft_core.specs.declared.tables.Var.{Var}
use Rattle.ft_core.specs.declared.tables.Memory.{Memory}
use Rattle.ft_core.specs.declared.tables.Section.{Section}
use Rattle.ft_core.specs.declared.tables.Section.TheVariants as section
use Rattle.ft_core.specs.meaning.Kinds.{monitored, controlled, defined_kinds}
use Rattle.ft_linear.specs.meaning.Form.{values_at}
use Rattle.ft_mean.specs.meaning.Memory.{kept}
use Rattle.ft_mean.specs.meaning.Reading.{Reading, Scans, IsVar, reading_of}
use Rattle.ft_claims.specs.declared.claim.Claim.{Claim}
use Rattle.ft_claims.specs.meaning.Areas.{is_used, used, place_in}
use Rattle.ft_claims.specs.meaning.Claims.{claim_true}
use Rattle.ft_claims.specs.meaning.Names.{width}
use Rattle.ft_claims.specs.meaning.Parts.{definition, move_of}
use Rattle.ft_oblige.specs.laws.ListPartLaws.{InListSpans}
use Rattle.ft_oblige.specs.meaning.Lists.{list_frame, list_spans, nat_claims}

-- the values that numbers give the variables of each scan
abbrev pub reading_by : Tables → (ℕ → ℤ) → Reading
reading_by S σ t x = σ (t * width S + x)

-- a section gives its variables their values at each of n scans
abbrev pub MeetsSection : Tables → Section → ℕ → (ℕ → ℤ) → Type 0
MeetsSection S section n σ = (t x : ℕ) (v : Var) → t < n → IsVar S (defined_kinds section) x v
    → IsTrue (claim_true σ (definition S section (list_frame S t) x))

-- the environment's clauses are met at each of n scans
abbrev pub MeetsNat : Tables → ℕ → (ℕ → ℤ) → Type 0
MeetsNat S n σ = (t : ℕ) → t < n → IsTrue (list_all (claim_true σ) (nat_claims S t))

-- numbers in their spans that meet each definition of IN, REQ and SOF, each move and the environment's clauses over n scans
pub record MeetsScans (S : Tables) (n : ℕ) (σ : ℕ → ℤ) : Type 0 where
  pub spans : InListSpans S n σ
  pub inputs : MeetsSection S section.In n σ
  pub required : MeetsSection S section.Req n σ
  pub designed : MeetsSection S section.Sof n σ
  pub moved : (t m : ℕ) (memory : Memory) → t < n → slice_get S.memories m ≡ Some memory
      → IsTrue (claim_true σ (move_of S (list_frame S t) m (Some memory)))
  pub clauses : MeetsNat S n σ

-- OUT gives each controlled variable its value at the scans before k, and at scan k not some
pub record MeetsDifference (S : Tables) (k : ℕ) (σ : ℕ → ℤ) : Type 0 where
  pub same_before : MeetsSection S section.Out k σ
  pub variable : ℕ
  pub declared : Var
  pub is_controlled : IsVar S controlled variable declared
  pub differs : IsFalse (claim_true σ (definition S section.Out (list_frame S k) variable))

-- the number of each name of many scans along a reading
abbrev pub list_state : Tables → Reading → ℕ → ℤ
list_state S ρ n =
    if nat_lt (n - n / width S * width S) (length S.vars) then ρ (n / width S) (n - n / width S * width S)
    else kept S ρ (n / width S) (n - n / width S * width S - length S.vars)

-- a list has the values of a point at each name of a monitored variable that the formula has
abbrev pub HasValues : Tables → ℕ → List Claim → List ℤ → Scans → Type 0
HasValues S n parts p h = (t x : ℕ) (v : Var) → t < n → IsVar S monitored x v
    → IsTrue (is_used (length (list_spans S n)) parts (t * width S + x))
    → values_at p (place_in (used (length (list_spans S n)) parts) (t * width S + x)) ≡ reading_of S monitored h t x
