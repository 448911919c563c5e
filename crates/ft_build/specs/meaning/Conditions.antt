-- The conditions that expressions spell. Each expression has one: a part that spells none counts as false.
use Rattle.std.specs.Prelude.{pos, Bool, Option, Some, None, if◌then◌else◌}
use Rattle.ft_tree.specs.declared.expr.Op.{Op}
use Rattle.ft_tree.specs.declared.expr.Op.TheVariants as op
use Rattle.ft_tree.specs.declared.expr.Expr.{Expr, Expr-F, para-Expr}
use Rattle.ft_tree.specs.declared.expr.Expr.TheOpen as layer
use Rattle.ft_core.specs.declared.term.Rel.{Rel}
use Rattle.ft_core.specs.declared.term.Rel.TheVariants as rel
use Rattle.ft_core.specs.declared.term.Term.{Term}
use Rattle.ft_core.specs.declared.term.Term.TheVariants.{Num, Now}
use Rattle.ft_core.specs.declared.term.Cond.{Cond}
use Rattle.ft_core.specs.declared.term.Cond.TheVariants.{Yes, No, Compare, Memory, Not, And, Or}
use Rattle.ft_names.specs.declared.card.Card.{Card}
use Rattle.ft_names.specs.declared.card.Card.TheVariants as card
use Rattle.ft_names.specs.meaning.Cards.{Env}
use Rattle.ft_build.specs.meaning.Terms.{prev_term, term_of}

-- a `bool` term as a condition
abbrev pub is_one : Term → Cond
is_one e = Compare rel.Eq e (Num (pos 1))

abbrev pub name_cond : Option Card → Cond
name_cond (Some (card.Memory place side hold)) = Memory place
name_cond (Some (card.Variable place word values)) = is_one (Now place)
name_cond _ = No

abbrev pub truth_cond : Bool → Cond
truth_cond value = if value then Yes else No

-- the relation that an operator stands for, where it compares
abbrev pub rel_of : Op → Option Rel
rel_of op.Eq = Some rel.Eq
rel_of op.Ne = Some rel.Ne
rel_of op.Lt = Some rel.Lt
rel_of op.Le = Some rel.Le
rel_of op.Gt = Some rel.Gt
rel_of op.Ge = Some rel.Ge
rel_of op.Or = None
rel_of op.And = None
rel_of op.Add = None
rel_of op.Sub = None
rel_of op.Mul = None
rel_of op.Div = None

abbrev pub joined : Op → (a b : Cond) → Cond
joined op.Or a b = Or a b
joined op.And a b = And a b
joined _ a b = No

-- of two terms where it compares, and else of two conditions
abbrev pub operator_cond : Op → (a b : Cond) → (x y : Term) → Cond
operator_cond o a b x y = elim (rel_of o) [ Some relation ↦ Compare relation x y | None ↦ joined o a b ]

-- each operand comes with its own condition
abbrev pub cond_layer : Env → Expr-F (Expr × Cond) → Cond
cond_layer env (layer.Num value place) = No
cond_layer env (layer.Name name place) = name_cond (env name)
cond_layer env (layer.Truth value place) = truth_cond value
cond_layer env (layer.Prev name place) = is_one (prev_term (env name))
cond_layer env (layer.Age name place) = No
cond_layer env (layer.Not of place) = Not of.1
cond_layer env (layer.Neg of place) = No
cond_layer env (layer.Two o left right place) = operator_cond o left.1 right.1 (term_of env left.0) (term_of env right.0)

unfoldable pub cond_of : Env → Expr → Cond
cond_of env = para-Expr Cond (cond_layer env)
