-- Tests of conditions that go by those of their parts.
use Rattle.std.proofs.Common.{◌≡◌, Bool, true, false}
use Rattle.ft_tree.specs.declared.expr.Op.{Op}
use Rattle.ft_tree.specs.declared.expr.Op.TheVariants as op
use Rattle.ft_core.specs.declared.term.Cond.{Cond}
use Rattle.ft_core.specs.declared.term.Cond.TheVariants as cond
use Rattle.ft_core.specs.declared.term.Rel.{Rel}
use Rattle.ft_core.specs.declared.term.Term.{Term}
use Rattle.ft_build.specs.meaning.Conditions.{operator_cond, truth_cond}

module _ (of_cond : Cond → Bool) (of_term : Term → Bool) where
  -- a condition passes where its parts do
  pub record Composes : Type 0 where
    pub yes : of_cond cond.Yes ≡ true
    pub no : of_cond cond.No ≡ true
    pub compare : (r : Rel) (s t : Term) → of_term s ≡ true → of_term t ≡ true → of_cond (cond.Compare r s t) ≡ true
    pub negated : (a : Cond) → of_cond a ≡ true → of_cond (cond.Not a) ≡ true
    pub both : (a b : Cond) → of_cond a ≡ true → of_cond b ≡ true → of_cond (cond.And a b) ≡ true
    pub either : (a b : Cond) → of_cond a ≡ true → of_cond b ≡ true → of_cond (cond.Or a b) ≡ true

  module _ (composes : Composes) where
    pub truth-passes : (b : Bool) → of_cond (truth_cond b) ≡ true
    truth-passes true = composes.yes
    truth-passes false = composes.no

    -- what an operator makes passes
    pub conds-pass : (o : Op) (a b : Cond) (s t : Term) → of_cond a ≡ true → of_cond b ≡ true → of_term s ≡ true → of_term t ≡ true
        → of_cond (operator_cond o a b s t) ≡ true
    conds-pass op.Or a b s t h k p q = composes.either a b h k
    conds-pass op.And a b s t h k p q = composes.both a b h k
    conds-pass op.Eq a b s t h k p q = composes.compare _ s t p q
    conds-pass op.Ne a b s t h k p q = composes.compare _ s t p q
    conds-pass op.Lt a b s t h k p q = composes.compare _ s t p q
    conds-pass op.Le a b s t h k p q = composes.compare _ s t p q
    conds-pass op.Gt a b s t h k p q = composes.compare _ s t p q
    conds-pass op.Ge a b s t h k p q = composes.compare _ s t p q
    conds-pass op.Add a b s t h k p q = composes.no
    conds-pass op.Sub a b s t h k p q = composes.no
    conds-pass op.Mul a b s t h k p q = composes.no
    conds-pass op.Div a b s t h k p q = composes.no
