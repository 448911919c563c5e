-- The value of a term and the truth of a condition.
use Rattle.std.specs.Prelude.{ℕ, ℤ, ◌+ℤ◌, ◌-ℤ◌, ◌*ℤ◌, neg_ℤ, int_le, int_lt, Bool, true, false, not, ◌&&◌, ◌||◌}
use Rattle.std.specs.Ordering.{int_eq}
use Rattle.ft_base.specs.Division.{floor_of}
use Rattle.ft_core.specs.declared.term.Rel.{Rel}
use Rattle.ft_core.specs.declared.term.Rel.TheVariants as rel
use Rattle.ft_core.specs.declared.term.Term.{Term, Term-F, fold-Term}
use Rattle.ft_core.specs.declared.term.Term.TheOpen as term
use Rattle.ft_core.specs.declared.term.Cond.{Cond, Cond-F, fold-Cond}
use Rattle.ft_core.specs.declared.term.Cond.TheOpen as cond

-- all that a term or a condition can ask of a scan: each variable at this scan and one scan before, the age of each
-- timer, and the truth of each memory
pub record View : Type 0 where
  pub now : ℕ → ℤ
  pub before : ℕ → ℤ
  pub age : ℕ → ℤ
  pub memory : ℕ → Bool

-- the value of a term, from the values of its parts
abbrev pub layer_value : View → Term-F ℤ → ℤ
layer_value V (term.Num n) = n
layer_value V (term.Now x) = V.now x
layer_value V (term.Prev x) = V.before x
layer_value V (term.Age m) = V.age m
layer_value V (term.Neg e) = neg_ℤ e
layer_value V (term.Add a b) = a +ℤ b
layer_value V (term.Sub a b) = a -ℤ b
layer_value V (term.Times c e) = c *ℤ e
layer_value V (term.Div e k) = floor_of e k

unfoldable pub value : View → Term → ℤ
value V = fold-Term ℤ (layer_value V)

abbrev pub compares : Rel → ℤ → ℤ → Bool
compares rel.Eq a b = int_eq a b
compares rel.Ne a b = not (int_eq a b)
compares rel.Lt a b = int_lt a b
compares rel.Le a b = int_le a b
compares rel.Gt a b = int_lt b a
compares rel.Ge a b = int_le b a

-- the truth of a condition, from the truths of its parts
abbrev pub layer_truth : View → Cond-F Bool → Bool
layer_truth V cond.Yes = true
layer_truth V cond.No = false
layer_truth V (cond.Compare r a b) = compares r (value V a) (value V b)
layer_truth V (cond.Memory m) = V.memory m
layer_truth V (cond.Not a) = not a
layer_truth V (cond.And a b) = a && b
layer_truth V (cond.Or a b) = a || b

unfoldable pub truth : View → Cond → Bool
truth V = fold-Cond Bool (layer_truth V)
