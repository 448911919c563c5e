-- The value of a term and the truth of a condition by their parts: one equation for each variant.
use Rattle.std.proofs.Common.{◌∙◌, sym, ap}
use Rattle.std.specs.Prelude.{◌≡◌, ℕ, ℤ, ◌+ℤ◌, ◌-ℤ◌, ◌*ℤ◌, neg_ℤ, Bool, true, false, not, ◌&&◌, ◌||◌}
use Rattle.ft_base.specs.Division.{floor_of}
use Rattle.ft_core.specs.declared.term.Rel.{Rel}
use Rattle.ft_core.specs.declared.term.Term.{Term, Term-F, map-Term, fold-Term, roll-Term, fold-roll-Term}
use Rattle.ft_core.specs.declared.term.Term.TheOpen as tl
use Rattle.ft_core.specs.declared.term.Term.TheVariants.{Num, Now, Prev, Age, Neg, Add, Sub, Times, Div, rolls-Num, rolls-Now, rolls-Prev}
use Rattle.ft_core.specs.declared.term.Term.TheVariants.{rolls-Age, rolls-Neg, rolls-Add, rolls-Sub, rolls-Times, rolls-Div}
use Rattle.ft_core.specs.declared.term.Cond.{Cond, Cond-F, map-Cond, fold-Cond, roll-Cond, fold-roll-Cond}
use Rattle.ft_core.specs.declared.term.Cond.TheOpen as cl
use Rattle.ft_core.specs.declared.term.Cond.TheVariants.{Yes, No, Compare, Memory, Not, And, Or, rolls-Yes, rolls-No, rolls-Compare}
use Rattle.ft_core.specs.declared.term.Cond.TheVariants.{rolls-Memory, rolls-Not, rolls-And, rolls-Or}
use Rattle.ft_mean.specs.meaning.Value.{View, value, layer_value, compares, truth, layer_truth}

value-rolled : (v : View) (e : Term) (layer : Term-F Term) → roll-Term layer ≡ e → value v e
    ≡ layer_value v (map-Term Term ℤ (value v) layer)
unfolding value
value-rolled v e layer is = ap (fold-Term ℤ (layer_value v)) (sym is) ∙ fold-roll-Term ℤ (layer_value v) layer

truth-rolled : (v : View) (c : Cond) (layer : Cond-F Cond) → roll-Cond layer ≡ c → truth v c
    ≡ layer_truth v (map-Cond Cond Bool (truth v) layer)
unfolding truth
truth-rolled v c layer is = ap (fold-Cond Bool (layer_truth v)) (sym is) ∙ fold-roll-Cond Bool (layer_truth v) layer

module _ (v : View) where
  pub value-Num : (n : ℤ) → value v (Num n) ≡ n
  value-Num n = value-rolled v _ (tl.Num n) (rolls-Num n)

  pub value-Now : (x : ℕ) → value v (Now x) ≡ v.now x
  value-Now x = value-rolled v _ (tl.Now x) (rolls-Now x)

  pub value-Prev : (x : ℕ) → value v (Prev x) ≡ v.before x
  value-Prev x = value-rolled v _ (tl.Prev x) (rolls-Prev x)

  pub value-Age : (m : ℕ) → value v (Age m) ≡ v.age m
  value-Age m = value-rolled v _ (tl.Age m) (rolls-Age m)

  pub value-Neg : (e : Term) → value v (Neg e) ≡ neg_ℤ (value v e)
  value-Neg e = value-rolled v _ (tl.Neg e) (rolls-Neg e)

  pub value-Add : (a b : Term) → value v (Add a b) ≡ value v a +ℤ value v b
  value-Add a b = value-rolled v _ (tl.Add a b) (rolls-Add a b)

  pub value-Sub : (a b : Term) → value v (Sub a b) ≡ value v a -ℤ value v b
  value-Sub a b = value-rolled v _ (tl.Sub a b) (rolls-Sub a b)

  pub value-Times : (c : ℤ) (e : Term) → value v (Times c e) ≡ c *ℤ value v e
  value-Times c e = value-rolled v _ (tl.Times c e) (rolls-Times c e)

  pub value-Div : (e : Term) (k : ℤ) → value v (Div e k) ≡ floor_of (value v e) k
  value-Div e k = value-rolled v _ (tl.Div e k) (rolls-Div e k)

  pub truth-Yes : truth v Yes ≡ true
  truth-Yes = truth-rolled v _ cl.Yes rolls-Yes

  pub truth-No : truth v No ≡ false
  truth-No = truth-rolled v _ cl.No rolls-No

  pub truth-Compare : (r : Rel) (a b : Term) → truth v (Compare r a b) ≡ compares r (value v a) (value v b)
  truth-Compare r a b = truth-rolled v _ (cl.Compare r a b) (rolls-Compare r a b)

  pub truth-Memory : (m : ℕ) → truth v (Memory m) ≡ v.memory m
  truth-Memory m = truth-rolled v _ (cl.Memory m) (rolls-Memory m)

  pub truth-Not : (a : Cond) → truth v (Not a) ≡ not (truth v a)
  truth-Not a = truth-rolled v _ (cl.Not a) (rolls-Not a)

  pub truth-And : (a b : Cond) → truth v (And a b) ≡ (truth v a && truth v b)
  truth-And a b = truth-rolled v _ (cl.And a b) (rolls-And a b)

  pub truth-Or : (a b : Cond) → truth v (Or a b) ≡ (truth v a || truth v b)
  truth-Or a b = truth-rolled v _ (cl.Or a b) (rolls-Or a b)

-- all of them, for a tactic to rewrite by
pub ruleset evaluation = (
  value-Num,
  value-Now,
  value-Prev,
  value-Age,
  value-Neg,
  value-Add,
  value-Sub,
  value-Times,
  value-Div,
  truth-Yes,
  truth-No,
  truth-Compare,
  truth-Memory,
  truth-Not,
  truth-And,
  truth-Or,
)
