use Rattle.std.proofs.Common.{◌≡◌, ℕ, ◌+◌, ◌*◌, length}
use Rattle.ft_parse.specs.parsers.Precedence.{inner_by, operand_by}
use Rattle.ft_read.specs.parsers.Tokens.{ops_of}
use Rattle.ft_read.specs.parsers.Combinators.{can}
use Rattle.ft_parse.specs.parsers.Repetition.{many}
use Rattle.ft_parse.specs.parsers.Expressions.{right_by}
use Rattle.ft_read.specs.declared.operators.Precedence.{Precedence}
use Rattle.ft_read.specs.declared.operators.Precedence.TheVariants.{Disjunction, Conjunction, Comparison, Sum, Product}
use Rattle.ft_parse.proofs.expressions.+expression.Given as goal

abbrev rank : Precedence → ℕ
rank Disjunction = 5
rank Conjunction = 4
rank Comparison = 3
rank Sum = 2
rank Product = 1

abbrev pub decreases-chain : goal.decreases-chain
decreases-chain l = 32 * l.room + (4 * rank l.precedence + 3)

abbrev pub decreases-right : goal.decreases-right
decreases-right l = 32 * l.room + (4 * rank l.precedence + 2)

abbrev pub decreases-operand : goal.decreases-operand
decreases-operand l = 32 * l.room + (4 * rank l.precedence + 1)

abbrev pub decreases-negation : goal.decreases-negation
decreases-negation l = 32 * l.room + 16

abbrev pub decreases-opposite : goal.decreases-opposite
decreases-opposite l = 32 * l.room + 15

abbrev pub decreases-comparison : goal.decreases-comparison
decreases-comparison l = 32 * l.room + 15

abbrev pub decreases-unary : goal.decreases-unary
decreases-unary l = 32 * l.room + 4

abbrev pub decreases-negative : goal.decreases-negative
decreases-negative l = 32 * l.room + 3

abbrev pub decreases-atom : goal.decreases-atom
decreases-atom l = 32 * l.room + 3

abbrev pub decreases-group : goal.decreases-group
decreases-group l = 32 * l.room + 2

abbrev pub invariant-chain-loop-alloc : goal.invariant-chain-loop-alloc
invariant-chain-loop-alloc l =
    many (can (ops_of l.precedence)) (right_by l.site (ops_of l.precedence)
    (operand_by l.precedence l.site (inner_by l.room l.site) l.room)) l.initial.left l.initial.cursor
    ≡ many (can (ops_of l.precedence)) (right_by l.site (ops_of l.precedence)
    (operand_by l.precedence l.site (inner_by l.room l.site) l.room)) l.left l.cursor

abbrev pub decreases-chain-loop-alloc : goal.decreases-chain-loop-alloc
decreases-chain-loop-alloc l = length l.cursor.rest
