-- Terms and conditions of a set with its names numbered: for each scan the variables in order of declaration and then the memories.
use Rattle.std.specs.Prelude.{ℕ, ◌+◌, ℤ, pos, Bool, [], ◌∷◌, length, Option, Some, None, slice_get, if◌then◌else◌}
use Rattle.std.specs.Ordering.{int_eq}
use Rattle.ft_core.specs.declared.tables.Tables.{Tables}
use Rattle.ft_core.specs.declared.tables.Memory as tables
use Rattle.ft_core.specs.declared.tables.Memory.TheVariants.{Held, Hyst}
use Rattle.ft_core.specs.declared.term.Term.{Term, Term-F, fold-Term}
use Rattle.ft_core.specs.declared.term.Term.TheOpen as term
use Rattle.ft_core.specs.declared.term.Cond.{Cond, Cond-F, fold-Cond}
use Rattle.ft_core.specs.declared.term.Cond.TheOpen as cond
use Rattle.ft_mean.specs.meaning.Reading.{init_of}
use Rattle.ft_mean.specs.laws.Moves.{is_true_at}
use Rattle.ft_mean.specs.meaning.Value.{View}
use Rattle.ft_claims.specs.declared.claim.Sym.{Sym}
use Rattle.ft_claims.specs.declared.claim.Sym.TheVariants.{Num, Slot, Neg, Add, Sub, Times, Div}
use Rattle.ft_claims.specs.declared.claim.Claim.{Claim}
use Rattle.ft_claims.specs.declared.claim.Claim.TheVariants.{Lt, Not, And, Or}
use Rattle.ft_claims.specs.meaning.Claims.{equal, compared}

-- how many names a scan has
abbrev pub width : Tables → ℕ
width S = length S.vars + length S.memories

-- where the names of a scan and of the scan before begin, whether the scan begins anew, and whether every memory is a bit
pub record Frame : Type 0 where
  pub this : ℕ
  pub prior : ℕ
  pub anew : Bool
  pub bits : Bool

-- the number of a memory of a scan whose names begin there
abbrev pub memo : Tables → (base m : ℕ) → ℕ
memo S base m = base + (length S.vars + m)

abbrev pub layer_sym : Tables → Frame → Term-F Sym → Sym
layer_sym S frame (term.Num n) = Num n
layer_sym S frame (term.Now x) = Slot (frame.this + x)
layer_sym S frame (term.Prev x) = if frame.anew then Num (init_of S x) else Slot (frame.prior + x)
layer_sym S frame (term.Age m) = Slot (memo S frame.this m)
layer_sym S frame (term.Neg e) = Neg e
layer_sym S frame (term.Add a b) = Add a b
layer_sym S frame (term.Sub a b) = Sub a b
layer_sym S frame (term.Times c e) = Times c e
layer_sym S frame (term.Div e k) = Div e k

unfoldable pub sym_of : Tables → Frame → Term → Sym
sym_of S frame = fold-Term Sym (layer_sym S frame)

-- a memory as a condition: a timer at its hold, or a bit that is 1
abbrev pub recalled : Option tables.Memory → Sym → Claim
recalled None z = equal z (Num (pos 1))
recalled (Some (Held name side c hold)) z = Not (Lt z (Num hold))
recalled (Some (Hyst name side e lo hi start)) z = equal z (Num (pos 1))

-- the memory that a number is kept for, where not every memory is a bit
abbrev pub keeper : Tables → Frame → ℕ → Option tables.Memory
keeper S frame m = if frame.bits then None else slice_get S.memories m

abbrev pub layer_claim : Tables → Frame → Cond-F Claim → Claim
layer_claim S frame cond.Yes = And []
layer_claim S frame cond.No = Or []
layer_claim S frame (cond.Compare r a b) = compared r (sym_of S frame a) (sym_of S frame b)
layer_claim S frame (cond.Memory m) = recalled (keeper S frame m) (Slot (memo S frame.this m))
layer_claim S frame (cond.Not a) = Not a
layer_claim S frame (cond.And a b) = And (a ∷ b ∷ [])
layer_claim S frame (cond.Or a b) = Or (a ∷ b ∷ [])

unfoldable pub claim_of : Tables → Frame → Cond → Claim
claim_of S frame = fold-Cond Claim (layer_claim S frame)

-- whether the memory that keeps a number is true
abbrev pub kept_true : Option tables.Memory → ℤ → Bool
kept_true None z = int_eq z (pos 1)
kept_true (Some memory) z = is_true_at memory z

-- what numbers for the names tell of a scan
abbrev pub view : Tables → Frame → (ℕ → ℤ) → View
view S frame σ = record {
  now = λ x. σ (frame.this + x);
  before = λ x. if frame.anew then init_of S x else σ (frame.prior + x);
  age = λ m. σ (memo S frame.this m);
  memory = λ m. kept_true (keeper S frame m) (σ (memo S frame.this m));
}
