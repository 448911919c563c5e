-- What is known while certificates are checked one after another.
use Rattle.std.specs.Prelude.{ℕ, ◌+◌, ◌≡◌, ◌<◌, List, length, Some, slice_get}
use Rattle.ft_core.specs.declared.tables.Tables.{Tables}
use Rattle.ft_cert.specs.meaning.Tree.{Tree}
use Rattle.ft_check.specs.declared.fault.CertFault.{CertFault}
use Rattle.ft_check.specs.declared.fault.CertFault.TheVariants as fault
use Rattle.ft_oblige.specs.meaning.Obligations.{obligation_count}
use Rattle.ft_cover.specs.meaning.Attempted.{IsClosedAt}
use Rattle.ft_compose.specs.declared.checking.CertsFault.{CertsFault}
use Rattle.ft_compose.specs.declared.checking.CertsFault.TheVariants.{Refused, NoMemory}
use Rattle.ft_compose.specs.meaning.Checked.{IsRefusedAt}

-- what is told of the obligation with this number, where its certificate is refused
abbrev pub told_of : (number : ℕ) → CertFault → CertsFault
told_of number (fault.Node node) = Refused number node
told_of number fault.NoMemory = NoMemory

-- why the certificate of the n-th obligation is refused
abbrev pub IsRefusal : Tables → (n : ℕ) → Tree → CertsFault → Type 0
IsRefusal S n cert (Refused number node) = (number ≡ n) × IsRefusedAt S n node cert
IsRefusal S n cert NoMemory = Unit {0}

-- the first n certificates close their obligations
abbrev pub CloseFirst : Tables → (n : ℕ) → List Tree → Type 0
CloseFirst S n certs = (i : ℕ) (cert : Tree) → i < n → slice_get certs i ≡ Some cert → IsClosedAt S (i + 1) cert

-- one closes each obligation of the set
abbrev pub CloseAll : Tables → List Tree → Type 0
CloseAll S certs = (length certs ≡ obligation_count S) × CloseFirst S (obligation_count S) certs
