-- What the names of two scans may stand for.
use Rattle.std.specs.Prelude.{ℕ, ◌+◌, ◌≡◌, ◌<◌, ℤ, pos, IsTrue, List, length, Some, slice_get, ◌++◌, map}
use Rattle.std.specs.List.{list_all}
use Rattle.ft_base.specs.Interval.{IsWithin}
use Rattle.ft_core.specs.declared.tables.Tables.{Tables}
use Rattle.ft_core.specs.declared.tables.Var.{Var}
use Rattle.ft_core.specs.declared.tables.Memory.{Memory}
use Rattle.ft_mean.specs.laws.Moves.{span_of}
use Rattle.ft_claims.specs.declared.claim.Claim.{Claim}
use Rattle.ft_claims.specs.meaning.Claims.{claim_true}
use Rattle.ft_claims.specs.meaning.Names.{width, memo}

-- variables their values, and memories what they keep
pub record InSpans (S : Tables) (σ : ℕ → ℤ) : Type 0 where
  pub now : (x : ℕ) (v : Var) → slice_get S.vars x ≡ Some v → IsWithin v.range (σ (0 + x))
  pub kept_now : (m : ℕ) (memory : Memory) → slice_get S.memories m ≡ Some memory → IsWithin (span_of memory) (σ (memo S 0 m))
  pub past : (x : ℕ) (v : Var) → slice_get S.vars x ≡ Some v → IsWithin v.range (σ (width S + x))
  pub kept_past : (m : ℕ) (memory : Memory) → slice_get S.memories m ≡ Some memory → IsWithin (span_of memory) (σ (memo S (width S) m))

-- the same where every memory is a bit
pub record InCoverSpans (S : Tables) (σ : ℕ → ℤ) : Type 0 where
  pub now : (x : ℕ) (v : Var) → slice_get S.vars x ≡ Some v → IsWithin v.range (σ (0 + x))
  pub bits_now : (m : ℕ) → m < length S.memories → IsWithin (pos 0, pos 1) (σ (memo S 0 m))
  pub past : (x : ℕ) (v : Var) → slice_get S.vars x ≡ Some v → IsWithin v.range (σ (width S + x))
  pub bits_past : (m : ℕ) → m < length S.memories → IsWithin (pos 0, pos 1) (σ (memo S (width S) m))

-- numbers for the names of two scans, where every memory is a bit, that make all of these true
pub record MeetsAll (S : Tables) (parts : List Claim) (σ : ℕ → ℤ) : Type 0 where
  pub spans : InCoverSpans S σ
  pub are : IsTrue (list_all (claim_true σ) parts)

-- the span of each name of a scan, in order, where every memory is a bit
abbrev pub bit_span : Memory → ℤ × ℤ
bit_span m = (pos 0, pos 1)

abbrev pub cover_scan_spans : Tables → List (ℤ × ℤ)
cover_scan_spans S = map (λ v. v.range) S.vars ++ map bit_span S.memories

-- of this scan and the scan before
abbrev pub cover_spans : Tables → List (ℤ × ℤ)
cover_spans S = cover_scan_spans S ++ cover_scan_spans S
