-- The moves of memories by their parts.
use Rattle.std.specs.Prelude.{ℕ, ℤ, pos, negsuc, Bool, [], ◌∷◌, if◌then◌else◌}
use Rattle.ft_core.specs.declared.tables.Tables.{Tables}
use Rattle.ft_core.specs.declared.term.Term.{Term}
use Rattle.ft_core.specs.declared.term.Cond.{Cond}
use Rattle.ft_claims.specs.declared.claim.Sym.{Sym}
use Rattle.ft_claims.specs.declared.claim.Sym.TheVariants.{Num, Slot, Add}
use Rattle.ft_claims.specs.declared.claim.Claim.{Claim}
use Rattle.ft_claims.specs.declared.claim.Claim.TheVariants.{Le, Lt, Not, And}
use Rattle.ft_claims.specs.meaning.Claims.{equal}
use Rattle.ft_claims.specs.meaning.Names.{Frame, memo, sym_of, claim_of}

-- that a memory of a scan whose names begin there keeps this number
abbrev pub keeps : Tables → (base m : ℕ) → ℤ → Claim
keeps S base m n = equal (Slot (memo S base m)) (Num n)

-- the condition is false, and there is no age
abbrev pub age_ends : Tables → Frame → ℕ → Cond → Claim
age_ends S frame m c = And (Not (claim_of S frame c) ∷ keeps S frame.this m (negsuc 0) ∷ [])

-- at a scan that begins: the condition is true, and the age is 0
abbrev pub age_begins : Tables → Frame → ℕ → Cond → Claim
age_begins S frame m c = And (claim_of S frame c ∷ keeps S frame.this m (pos 0) ∷ [])

-- the condition has become true
abbrev pub age_restarts : Tables → Frame → ℕ → Cond → Claim
age_restarts S frame m c = And (claim_of S frame c ∷ keeps S frame.prior m (negsuc 0) ∷ keeps S frame.this m (pos 0) ∷ [])

-- the condition was true one scan before
abbrev pub had_age : Tables → Frame → ℕ → Claim
had_age S frame m = Not (Lt (Slot (memo S frame.prior m)) (Num (pos 0)))

-- the age before with the milliseconds since then
abbrev pub older : Tables → Frame → ℕ → Sym
older S frame m = Add (Slot (memo S frame.prior m)) (Num S.period)

-- that this is at most the hold
abbrev pub is_short : Tables → Frame → ℕ → ℤ → Claim
is_short S frame m hold = Le (older S frame m) (Num hold)

-- that the age is this
abbrev pub has_grown : Tables → Frame → ℕ → Claim
has_grown S frame m = equal (Slot (memo S frame.this m)) (older S frame m)

abbrev pub age_grows : Tables → Frame → ℕ → Cond → ℤ → Claim
age_grows S frame m c hold =
    And (claim_of S frame c ∷ had_age S frame m ∷ is_short S frame m hold ∷ has_grown S frame m ∷ [])

abbrev pub age_is_full : Tables → Frame → ℕ → Cond → ℤ → Claim
age_is_full S frame m c hold = And (claim_of S frame c ∷ had_age S frame m ∷ Not (is_short S frame m hold) ∷ keeps S frame.this m hold ∷ [])

-- that a term is below the upper bound of a band, and that it is at most the lower one
abbrev pub is_below : Tables → Frame → Term → ℤ → Claim
is_below S frame e hi = Lt (sym_of S frame e) (Num hi)

abbrev pub is_low : Tables → Frame → Term → ℤ → Claim
is_low S frame e lo = Le (sym_of S frame e) (Num lo)

abbrev pub band_rises : Tables → Frame → ℕ → Term → (hi : ℤ) → Claim
band_rises S frame m e hi = And (Not (is_below S frame e hi) ∷ keeps S frame.this m (pos 1) ∷ [])

abbrev pub band_falls : Tables → Frame → ℕ → Term → (lo hi : ℤ) → Claim
band_falls S frame m e lo hi = And (is_below S frame e hi ∷ is_low S frame e lo ∷ Not (keeps S frame.this m (pos 1)) ∷ [])

-- the bit before, or where the scan begins the start
abbrev pub bit_before : Tables → Frame → ℕ → (start : Bool) → Sym
bit_before S frame m start = if frame.anew then Num (if start then pos 1 else pos 0) else Slot (memo S frame.prior m)

-- that the bit is this
abbrev pub same_bit : Tables → Frame → ℕ → (start : Bool) → Claim
same_bit S frame m start = equal (Slot (memo S frame.this m)) (bit_before S frame m start)

abbrev pub band_stays : Tables → Frame → ℕ → Term → (lo hi : ℤ) → (start : Bool) → Claim
band_stays S frame m e lo hi start =
    And (is_below S frame e hi ∷ Not (is_low S frame e lo) ∷ same_bit S frame m start ∷ [])
