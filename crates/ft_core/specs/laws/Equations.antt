-- Terms and conditions by their parts: induction, and what each reads by what its parts read.
use Rattle.std.proofs.Common.{◌≡◌, ◌∙◌, sym, ap, subst, ℕ, ℤ, List, [], ◌∷◌, ◌++◌}
use Rattle.ft_core.specs.declared.term.Rel.{Rel}
use Rattle.ft_core.specs.declared.term.Term.{Term, Term-F, map-Term, fold-Term, roll-Term, fold-roll-Term, ind-Term}
use Rattle.ft_core.specs.declared.term.Term.TheOpen as tl
use Rattle.ft_core.specs.declared.term.Term.TheVariants.{Num, Now, Prev, Age, Neg, Add, Sub, Times, Div, rolls-Num, rolls-Now, rolls-Prev}
use Rattle.ft_core.specs.declared.term.Term.TheVariants.{rolls-Age, rolls-Neg, rolls-Add, rolls-Sub, rolls-Times, rolls-Div}
use Rattle.ft_core.specs.declared.term.Cond.{Cond, Cond-F, map-Cond, fold-Cond, roll-Cond, fold-roll-Cond, ind-Cond}
use Rattle.ft_core.specs.declared.term.Cond.TheOpen as cl
use Rattle.ft_core.specs.declared.term.Cond.TheVariants.{Yes, No, Compare, Memory, Not, And, Or, rolls-Yes, rolls-No, rolls-Compare}
use Rattle.ft_core.specs.declared.term.Cond.TheVariants.{rolls-Memory, rolls-Not, rolls-And, rolls-Or}
use Rattle.ft_core.specs.meaning.Reads.{Read, at_now, at_before, of_memory, of_age, term_reads, layer_term_reads, cond_reads}
use Rattle.ft_core.specs.meaning.Reads.{layer_cond_reads}

-- what holds of each kind of term where it holds of its parts
pub record TermInductive (P : Term → Type 0) : Type 0 where
  pub num : (n : ℤ) → P (Num n)
  pub now : (x : ℕ) → P (Now x)
  pub prev : (x : ℕ) → P (Prev x)
  pub aged : (m : ℕ) → P (Age m)
  pub negated : (e : Term) → P e → P (Neg e)
  pub added : (a b : Term) → P a → P b → P (Add a b)
  pub less : (a b : Term) → P a → P b → P (Sub a b)
  pub scaled : (c : ℤ) (e : Term) → P e → P (Times c e)
  pub divided : (e : Term) (k : ℤ) → P e → P (Div e k)

of_term_layer : (P : Term → Type 0) → TermInductive P → (y : Term-F ((t : Term) × P t))
    → P (roll-Term (map-Term ((t : Term) × P t) Term (λ e. e.0) y))
of_term_layer P h (tl.Num n) = subst P (sym (rolls-Num n)) (h.num n)
of_term_layer P h (tl.Now x) = subst P (sym (rolls-Now x)) (h.now x)
of_term_layer P h (tl.Prev x) = subst P (sym (rolls-Prev x)) (h.prev x)
of_term_layer P h (tl.Age m) = subst P (sym (rolls-Age m)) (h.aged m)
of_term_layer P h (tl.Neg e) = subst P (sym (rolls-Neg e.0)) (h.negated e.0 e.1)
of_term_layer P h (tl.Add a b) = subst P (sym (rolls-Add a.0 b.0)) (h.added a.0 b.0 a.1 b.1)
of_term_layer P h (tl.Sub a b) = subst P (sym (rolls-Sub a.0 b.0)) (h.less a.0 b.0 a.1 b.1)
of_term_layer P h (tl.Times c e) = subst P (sym (rolls-Times c e.0)) (h.scaled c e.0 e.1)
of_term_layer P h (tl.Div e k) = subst P (sym (rolls-Div e.0 k)) (h.divided e.0 k e.1)

pub term_induction : (P : Term → Type 0) → TermInductive P → (t : Term) → P t
term_induction P h = ind-Term P (λ x y is. subst (λ z. P (roll-Term z)) is (of_term_layer P h y))

-- what holds of each kind of condition where it holds of its parts
pub record CondInductive (P : Cond → Type 0) : Type 0 where
  pub yes : P Yes
  pub no : P No
  pub compare : (r : Rel) (a b : Term) → P (Compare r a b)
  pub memory : (m : ℕ) → P (Memory m)
  pub negated : (a : Cond) → P a → P (Not a)
  pub both : (a b : Cond) → P a → P b → P (And a b)
  pub either : (a b : Cond) → P a → P b → P (Or a b)

of_layer : (P : Cond → Type 0) → CondInductive P → (y : Cond-F ((c : Cond) × P c))
    → P (roll-Cond (map-Cond ((c : Cond) × P c) Cond (λ e. e.0) y))
of_layer P h cl.Yes = subst P (sym rolls-Yes) h.yes
of_layer P h cl.No = subst P (sym rolls-No) h.no
of_layer P h (cl.Compare r a b) = subst P (sym (rolls-Compare r a b)) (h.compare r a b)
of_layer P h (cl.Memory m) = subst P (sym (rolls-Memory m)) (h.memory m)
of_layer P h (cl.Not a) = subst P (sym (rolls-Not a.0)) (h.negated a.0 a.1)
of_layer P h (cl.And a b) = subst P (sym (rolls-And a.0 b.0)) (h.both a.0 b.0 a.1 b.1)
of_layer P h (cl.Or a b) = subst P (sym (rolls-Or a.0 b.0)) (h.either a.0 b.0 a.1 b.1)

pub cond_induction : (P : Cond → Type 0) → CondInductive P → (c : Cond) → P c
cond_induction P h = ind-Cond P (λ x y is. subst (λ z. P (roll-Cond z)) is (of_layer P h y))

-- a fold at a term or condition that is rolled from a layer
pub term_folds : (A : Type 0) (step : Term-F A → A) (t : Term) (a_layer : Term-F Term) → roll-Term a_layer ≡ t
    → fold-Term A step t ≡ step (map-Term Term A (fold-Term A step) a_layer)
term_folds A step t a_layer is = ap (fold-Term A step) (sym is) ∙ fold-roll-Term A step a_layer

pub cond_folds : (A : Type 0) (step : Cond-F A → A) (c : Cond) (a_layer : Cond-F Cond) → roll-Cond a_layer ≡ c
    → fold-Cond A step c ≡ step (map-Cond Cond A (fold-Cond A step) a_layer)
cond_folds A step c a_layer is = ap (fold-Cond A step) (sym is) ∙ fold-roll-Cond A step a_layer

pub reads-rolled : (t : Term) (a_layer : Term-F Term) → roll-Term a_layer ≡ t → term_reads t
    ≡ layer_term_reads (map-Term Term (List Read) term_reads a_layer)
unfolding term_reads
reads-rolled = term_folds (List Read) layer_term_reads

pub cond_reads-rolled : (c : Cond) (a_layer : Cond-F Cond) → roll-Cond a_layer ≡ c → cond_reads c
    ≡ layer_cond_reads (map-Cond Cond (List Read) cond_reads a_layer)
unfolding cond_reads
cond_reads-rolled = cond_folds (List Read) layer_cond_reads

pub reads-Num : (n : ℤ) → term_reads (Num n) ≡ []
reads-Num n = reads-rolled _ (tl.Num n) (rolls-Num n)

pub reads-Now : (x : ℕ) → term_reads (Now x) ≡ at_now x ∷ []
reads-Now x = reads-rolled _ (tl.Now x) (rolls-Now x)

pub reads-Prev : (x : ℕ) → term_reads (Prev x) ≡ at_before x ∷ []
reads-Prev x = reads-rolled _ (tl.Prev x) (rolls-Prev x)

pub reads-Age : (m : ℕ) → term_reads (Age m) ≡ of_age m ∷ []
reads-Age m = reads-rolled _ (tl.Age m) (rolls-Age m)

pub reads-Neg : (e : Term) → term_reads (Neg e) ≡ term_reads e
reads-Neg e = reads-rolled _ (tl.Neg e) (rolls-Neg e)

pub reads-Add : (a b : Term) → term_reads (Add a b) ≡ term_reads a ++ term_reads b
reads-Add a b = reads-rolled _ (tl.Add a b) (rolls-Add a b)

pub reads-Sub : (a b : Term) → term_reads (Sub a b) ≡ term_reads a ++ term_reads b
reads-Sub a b = reads-rolled _ (tl.Sub a b) (rolls-Sub a b)

pub reads-Times : (c : ℤ) (e : Term) → term_reads (Times c e) ≡ term_reads e
reads-Times c e = reads-rolled _ (tl.Times c e) (rolls-Times c e)

pub reads-Div : (e : Term) (k : ℤ) → term_reads (Div e k) ≡ term_reads e
reads-Div e k = reads-rolled _ (tl.Div e k) (rolls-Div e k)

pub reads-Yes : cond_reads Yes ≡ []
reads-Yes = cond_reads-rolled _ cl.Yes rolls-Yes

pub reads-No : cond_reads No ≡ []
reads-No = cond_reads-rolled _ cl.No rolls-No

pub reads-Compare : (r : Rel) (a b : Term) → cond_reads (Compare r a b) ≡ term_reads a ++ term_reads b
reads-Compare r a b = cond_reads-rolled _ (cl.Compare r a b) (rolls-Compare r a b)

pub reads-Memory : (m : ℕ) → cond_reads (Memory m) ≡ of_memory m ∷ []
reads-Memory m = cond_reads-rolled _ (cl.Memory m) (rolls-Memory m)

pub reads-Not : (a : Cond) → cond_reads (Not a) ≡ cond_reads a
reads-Not a = cond_reads-rolled _ (cl.Not a) (rolls-Not a)

pub reads-And : (a b : Cond) → cond_reads (And a b) ≡ cond_reads a ++ cond_reads b
reads-And a b = cond_reads-rolled _ (cl.And a b) (rolls-And a b)

pub reads-Or : (a b : Cond) → cond_reads (Or a b) ≡ cond_reads a ++ cond_reads b
reads-Or a b = cond_reads-rolled _ (cl.Or a b) (rolls-Or a b)
