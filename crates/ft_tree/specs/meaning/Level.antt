-- How tightly expressions bind: the levels of the grammar, and what each operator takes.
use Rattle.std.specs.Prelude.{ℕ, Bool, List, codes, nat_lt}
use Rattle.ft_tree.specs.declared.expr.Op.{Op}
use Rattle.ft_tree.specs.declared.expr.Op.TheVariants.{Or, And, Eq, Ne, Lt, Le, Gt, Ge, Add, Sub, Mul, Div}
use Rattle.ft_tree.specs.declared.level.Level.{Level}
use Rattle.ft_tree.specs.declared.level.Level.TheVariants.{Disjunction, Conjunction, Negation, Comparison, Sum, Product, Unary, Atom}

-- the place of a level among all, from the loosest
abbrev pub rank : Level → ℕ
rank Disjunction = 0
rank Conjunction = 1
rank Negation = 2
rank Comparison = 3
rank Sum = 4
rank Product = 5
rank Unary = 6
rank Atom = 7

-- whether an expression of the first level takes parentheses where one of the second may stand
abbrev pub is_looser : Level → Level → Bool
is_looser level other = nat_lt (rank level) (rank other)

-- the next tighter level
abbrev pub tighter : Level → Level
tighter Disjunction = Conjunction
tighter Conjunction = Negation
tighter Negation = Comparison
tighter Comparison = Sum
tighter Sum = Product
tighter Product = Unary
tighter Unary = Atom
tighter Atom = Atom

-- the level of what an operator makes
abbrev pub op_level : Op → Level
op_level Or = Disjunction
op_level And = Conjunction
op_level Eq = Comparison
op_level Ne = Comparison
op_level Lt = Comparison
op_level Le = Comparison
op_level Gt = Comparison
op_level Ge = Comparison
op_level Add = Sum
op_level Sub = Sum
op_level Mul = Product
op_level Div = Product

-- operators of one level group to the left, and comparisons don't chain
abbrev pub left_of : Level → Level
left_of Comparison = Sum
left_of Disjunction = Disjunction
left_of Conjunction = Conjunction
left_of Negation = Negation
left_of Sum = Sum
left_of Product = Product
left_of Unary = Unary
left_of Atom = Atom

-- the loosest level of a left operand that takes no parentheses
abbrev pub left_level : Op → Level
left_level op = left_of (op_level op)

-- the loosest level of a right operand that takes no parentheses
abbrev pub right_level : Op → Level
right_level op = tighter (op_level op)

-- the token of an operator
abbrev pub op_sign : Op → List ℕ
op_sign Or = codes "or"
op_sign And = codes "and"
op_sign Eq = codes "="
op_sign Ne = codes "<>"
op_sign Lt = codes "<"
op_sign Le = codes "<="
op_sign Gt = codes ">"
op_sign Ge = codes ">="
op_sign Add = codes "+"
op_sign Sub = codes "-"
op_sign Mul = codes "*"
op_sign Div = codes "div"
