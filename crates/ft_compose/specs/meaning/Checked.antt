-- When certificates close all obligations of a set, and the first of them that doesn't hold, is missing, or is one too many.
use Rattle.std.specs.Prelude.{ℕ, ◌+◌, ◌-◌, ◌≡◌, ◌<◌, ◌^◌, true, List, length, Some, slice_get}
use Rattle.ft_core.specs.declared.tables.Tables.{Tables}
use Rattle.ft_settle.specs.meaning.Settled.{settled}
use Rattle.ft_cert.specs.meaning.Evidence.{IsFirstRefused}
use Rattle.ft_cert.specs.meaning.Parts.{whole_of}
use Rattle.ft_cert.specs.meaning.Tree.{Tree, nodes_of}
use Rattle.ft_claims.specs.meaning.Areas.{Obliged}
use Rattle.ft_oblige.specs.meaning.Obligations.{IsObligation, obligation_count}
use Rattle.ft_cover.specs.meaning.Covered.{IsCertOf, AreCerts}
use Rattle.ft_compose.specs.declared.checking.CertsFault.{CertsFault}
use Rattle.ft_compose.specs.declared.checking.CertsFault.TheVariants.{Refused, NoMemory}

-- the nodes of each certificate have numbers of 32 bits
abbrev pub AreNumbered : List Tree → Type 0
AreNumbered certs = (i : ℕ) (cert : Tree) → slice_get certs i ≡ Some cert → length (nodes_of cert) < 2 ^ 32

-- one certificate for each obligation of the set, in order
abbrev pub AreAllCerts : Tables → List Tree → Type 0
AreAllCerts S certs = AreCerts S true (obligation_count S) certs

-- those before the n-th, from 1, hold for their obligations
abbrev pub HoldBefore : Tables → (n : ℕ) → List Tree → Type 0
HoldBefore S n certs = (i : ℕ) (cert : Tree) → i + 1 < n → slice_get certs i ≡ Some cert → IsCertOf S (i + 1) cert

-- the first node in prefix order, from 1, at which a certificate doesn't hold for the obligation with this number
pub record IsRefusedAt (S : Tables) (n node : ℕ) (cert : Tree) : Type 0 where
  pub obliged : Obliged
  pub its : IsObligation S n obliged
  pub first : IsFirstRefused (settled obliged.formula) (whole_of (settled obliged.formula) obliged.spans) cert node

-- where certificates fail first: at a node of the n-th, or after all that are there and needed, where one is missing or too many
pub data IsFirstFault (S : Tables) (certs : List Tree) (n node : ℕ) : Type 0 where
  at_node : (cert : Tree) → 0 < n → slice_get certs (n - 1) ≡ Some cert → IsRefusedAt S n node cert → HoldBefore S n certs
      → IsFirstFault S certs n node
  missing : length certs < obligation_count S → n ≡ length certs + 1 → node ≡ 0 → HoldBefore S n certs → IsFirstFault S certs n node
  extra : obligation_count S < length certs → n ≡ obligation_count S + 1 → node ≡ 0 → HoldBefore S n certs → IsFirstFault S certs n node

-- of memory nothing can be said
abbrev pub IsCertsFault : Tables → List Tree → CertsFault → Type 0
IsCertsFault S certs (Refused n node) = IsFirstFault S certs n node
IsCertsFault S certs NoMemory = Unit {0}
