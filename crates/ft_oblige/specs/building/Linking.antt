-- The links of memories by their parts.
use Rattle.std.specs.Prelude.{ℕ, ℤ, pos, [], ◌∷◌}
use Rattle.ft_core.specs.declared.tables.Tables.{Tables}
use Rattle.ft_core.specs.declared.term.Term.{Term}
use Rattle.ft_core.specs.declared.term.Cond.{Cond}
use Rattle.ft_claims.specs.declared.claim.Claim.{Claim}
use Rattle.ft_claims.specs.declared.claim.Claim.TheVariants.{Le, Lt, Not, And, Or}
use Rattle.ft_claims.specs.declared.claim.Sym.TheVariants.{Num, Slot}
use Rattle.ft_claims.specs.meaning.Claims.{equal}
use Rattle.ft_claims.specs.meaning.Names.{Frame, memo, sym_of, claim_of}

-- that the bit of a memory is 1
abbrev pub is_bit : Tables → Frame → ℕ → Claim
is_bit S frame m = equal (Slot (memo S frame.this m)) (Num (pos 1))

abbrev pub held_link : Tables → Frame → ℕ → Cond → Claim
held_link S frame m c = Or (Not (is_bit S frame m) ∷ claim_of S frame c ∷ [])

abbrev pub upper_link : Tables → Frame → ℕ → Term → ℤ → Claim
upper_link S frame m e hi = Or (Lt (sym_of S frame e) (Num hi) ∷ is_bit S frame m ∷ [])

abbrev pub lower_link : Tables → Frame → ℕ → Term → ℤ → Claim
lower_link S frame m e lo = Or (Not (Le (sym_of S frame e) (Num lo)) ∷ Not (is_bit S frame m) ∷ [])

abbrev pub hyst_link : Tables → Frame → ℕ → Term → (lo hi : ℤ) → Claim
hyst_link S frame m e lo hi = And (upper_link S frame m e hi ∷ lower_link S frame m e lo ∷ [])
