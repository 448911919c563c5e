-- The names of terms and conditions, layer by layer.
use Rattle.std.proofs.Common.{◌≡◌, ℕ, ◌+◌, ℤ, [], ◌∷◌, if◌then◌else◌}
use Rattle.ft_core.specs.declared.tables.Tables.{Tables}
use Rattle.ft_core.specs.declared.term.Rel.{Rel}
use Rattle.ft_core.specs.declared.term.Term.{Term}
use Rattle.ft_core.specs.declared.term.Term.TheOpen as tl
use Rattle.ft_core.specs.declared.term.Term.TheVariants as term
use Rattle.ft_core.specs.declared.term.Term.TheVariants.{rolls-Num, rolls-Now, rolls-Prev, rolls-Age, rolls-Neg, rolls-Add, rolls-Sub}
use Rattle.ft_core.specs.declared.term.Term.TheVariants.{rolls-Times, rolls-Div}
use Rattle.ft_core.specs.declared.term.Cond.{Cond}
use Rattle.ft_core.specs.declared.term.Cond.TheOpen as cl
use Rattle.ft_core.specs.declared.term.Cond.TheVariants as condition
use Rattle.ft_core.specs.declared.term.Cond.TheVariants.{rolls-Yes, rolls-No, rolls-Compare, rolls-Memory, rolls-Not, rolls-And, rolls-Or}
use Rattle.ft_mean.specs.meaning.Reading.{init_of}
use Rattle.ft_claims.specs.declared.claim.Sym.TheVariants as out
use Rattle.ft_claims.specs.declared.claim.Claim.TheVariants as claim
use Rattle.ft_claims.specs.meaning.Claims.{compared}
use Rattle.ft_claims.specs.meaning.Names.{Frame, memo, sym_of, claim_of, recalled, keeper}
use Rattle.ft_claims.proofs.ReadLemmas.{sym-rolled, claim-rolled}

module _ (S : Tables) (frame : Frame) where
  pub names-Num : (n : ℤ) → sym_of S frame (term.Num n) ≡ out.Num n
  names-Num n = sym-rolled S frame _ (tl.Num n) (rolls-Num n)

  pub names-Now : (x : ℕ) → sym_of S frame (term.Now x) ≡ out.Slot (frame.this + x)
  names-Now x = sym-rolled S frame _ (tl.Now x) (rolls-Now x)

  pub names-Prev : (x : ℕ) → sym_of S frame (term.Prev x) ≡ (if frame.anew then out.Num (init_of S x) else out.Slot (frame.prior + x))
  names-Prev x = sym-rolled S frame _ (tl.Prev x) (rolls-Prev x)

  pub names-Age : (m : ℕ) → sym_of S frame (term.Age m) ≡ out.Slot (memo S frame.this m)
  names-Age m = sym-rolled S frame _ (tl.Age m) (rolls-Age m)

  pub names-Neg : (e : Term) → sym_of S frame (term.Neg e) ≡ out.Neg (sym_of S frame e)
  names-Neg e = sym-rolled S frame _ (tl.Neg e) (rolls-Neg e)

  pub names-Add : (a b : Term) → sym_of S frame (term.Add a b) ≡ out.Add (sym_of S frame a) (sym_of S frame b)
  names-Add a b = sym-rolled S frame _ (tl.Add a b) (rolls-Add a b)

  pub names-Sub : (a b : Term) → sym_of S frame (term.Sub a b) ≡ out.Sub (sym_of S frame a) (sym_of S frame b)
  names-Sub a b = sym-rolled S frame _ (tl.Sub a b) (rolls-Sub a b)

  pub names-Times : (c : ℤ) (e : Term) → sym_of S frame (term.Times c e) ≡ out.Times c (sym_of S frame e)
  names-Times c e = sym-rolled S frame _ (tl.Times c e) (rolls-Times c e)

  pub names-Div : (e : Term) (k : ℤ) → sym_of S frame (term.Div e k) ≡ out.Div (sym_of S frame e) k
  names-Div e k = sym-rolled S frame _ (tl.Div e k) (rolls-Div e k)

  pub claims-Yes : claim_of S frame condition.Yes ≡ claim.And []
  claims-Yes = claim-rolled S frame _ cl.Yes rolls-Yes

  pub claims-No : claim_of S frame condition.No ≡ claim.Or []
  claims-No = claim-rolled S frame _ cl.No rolls-No

  pub claims-Compare : (r : Rel) (a b : Term) → claim_of S frame (condition.Compare r a b)
      ≡ compared r (sym_of S frame a) (sym_of S frame b)
  claims-Compare r a b = claim-rolled S frame _ (cl.Compare r a b) (rolls-Compare r a b)

  pub claims-Memory : (m : ℕ) → claim_of S frame (condition.Memory m) ≡ recalled (keeper S frame m) (out.Slot (memo S frame.this m))
  claims-Memory m = claim-rolled S frame _ (cl.Memory m) (rolls-Memory m)

  pub claims-Not : (a : Cond) → claim_of S frame (condition.Not a) ≡ claim.Not (claim_of S frame a)
  claims-Not a = claim-rolled S frame _ (cl.Not a) (rolls-Not a)

  pub claims-And : (a b : Cond) → claim_of S frame (condition.And a b) ≡ claim.And (claim_of S frame a ∷ claim_of S frame b ∷ [])
  claims-And a b = claim-rolled S frame _ (cl.And a b) (rolls-And a b)

  pub claims-Or : (a b : Cond) → claim_of S frame (condition.Or a b) ≡ claim.Or (claim_of S frame a ∷ claim_of S frame b ∷ [])
  claims-Or a b = claim-rolled S frame _ (cl.Or a b) (rolls-Or a b)

pub ruleset names = (names-Num, names-Now, names-Prev, names-Age, names-Neg, names-Add, names-Sub, names-Times, names-Div)

pub ruleset claims = (claims-Yes, claims-No, claims-Compare, claims-Memory, claims-Not, claims-And, claims-Or)
