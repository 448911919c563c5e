-- The milliseconds from scan to scan, where scans begin, and what each variable is one scan before. Proofs use these laws and
-- never the definitions.
use Rattle.std.specs.Prelude.{ℕ, zero, suc, ◌-◌, ◌≡◌, ◌<◌, ◌≤◌, ℤ, pos, ◌+ℤ◌, ◌*ℤ◌, ◌≤ℤ◌, IsTrue, IsFalse}
use Rattle.ft_core.specs.declared.tables.Tables.{Tables}
use Rattle.ft_mean.specs.meaning.Reading.{Reading, init_of, begins, begun, elapsed, since, scan_before, before}

-- no time goes back
abbrev pub ElapsedUp : Type 0
ElapsedUp = (S : Tables) (ρ : Reading) (t : ℕ) → pos 0 ≤ℤ elapsed S (ρ t)

-- a scan is no time after itself
abbrev pub SinceNone : Type 0
SinceNone = (S : Tables) (ρ : Reading) (t : ℕ) → since S ρ t t ≡ pos 0

-- one scan further, it is what elapses there longer ago
abbrev pub SinceNext : Type 0
SinceNext = (S : Tables) (ρ : Reading) (j t : ℕ) → j ≤ t → since S ρ j (suc t) ≡ since S ρ j t +ℤ elapsed S (ρ (suc t))

-- what lies further back is no less long ago
abbrev pub SinceFalls : Type 0
SinceFalls = (S : Tables) (ρ : Reading) (t j k : ℕ) → j ≤ k → since S ρ k t ≤ℤ since S ρ j t

-- the last scan that begins is not after this one
abbrev pub BegunLow : Type 0
BegunLow = (S : Tables) (ρ : Reading) (t : ℕ) → begun S ρ t ≤ t

-- it is this one, where this one begins
abbrev pub BegunHere : Type 0
BegunHere = (S : Tables) (ρ : Reading) (t : ℕ) → IsTrue (begins S ρ t) → begun S ρ t ≡ t

-- and else the one of the scan before
abbrev pub BegunPast : Type 0
BegunPast = (S : Tables) (ρ : Reading) (t : ℕ) → IsFalse (begins S ρ (suc t)) → begun S ρ (suc t) ≡ begun S ρ t

-- scan 0 begins
abbrev pub BeginsFirst : Type 0
BeginsFirst = (S : Tables) (ρ : Reading) → IsTrue (begins S ρ zero)

-- each variable is at its `init` one scan before a scan that begins
abbrev pub BeforeBegins : Type 0
BeforeBegins = (S : Tables) (ρ : Reading) (t x : ℕ) → IsTrue (begins S ρ t) → before S ρ t x ≡ init_of S x

-- and else as at the scan before
abbrev pub BeforeLater : Type 0
BeforeLater = (S : Tables) (ρ : Reading) (t x : ℕ) → IsFalse (begins S ρ (suc t)) → before S ρ (suc t) x ≡ ρ t x

-- which is one less
abbrev pub ScanBefore : Type 0
ScanBefore = (t : ℕ) → scan_before (suc t) ≡ t

-- readings that agree before a scan have the same one scan before it
abbrev pub BeforeSame : Type 0
BeforeSame = (S : Tables) (a b : Reading) (t x : ℕ) → ((j : ℕ) → j < t → a j x ≡ b j x) → before S a t x ≡ before S b t x

-- no scan begins but scan 0
abbrev pub BeginsOnce : Type 0
BeginsOnce = (S : Tables) (ρ : Reading) (t : ℕ) → IsFalse (begins S ρ (suc t))

-- so that is the last one at every scan
abbrev pub BegunFirst : Type 0
BegunFirst = (S : Tables) (ρ : Reading) (t : ℕ) → begun S ρ t ≡ zero

-- a period elapses from each scan to the next
abbrev pub ElapsedPeriod : Type 0
ElapsedPeriod = (S : Tables) (now : ℕ → ℤ) → elapsed S now ≡ S.period

-- so each scan is as many periods ago as scans
abbrev pub SincePeriods : Type 0
SincePeriods = (S : Tables) (ρ : Reading) (j t : ℕ) → since S ρ j t ≡ pos (t - j) *ℤ S.period
