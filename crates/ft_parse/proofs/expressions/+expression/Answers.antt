use Rattle.std.proofs.Common.{rules, ◌≡◌, true, Ok}
use Rattle.ft_parse.specs.parsers.Precedence.{inner_by, operand_by}
use Rattle.ft_read.specs.parsers.Tokens.{ops_of}
use Rattle.ft_read.specs.parsers.Combinators.{begins, can}
use Rattle.ft_parse.specs.parsers.Expressions.{right_by}
use Rattle.ft_parse.proofs.PrecedenceLemmas.{chain_less, of_conjunctions, of_products, of_sums}
use Rattle.ft_parse.proofs.expressions.+expression.Goals as goal

pub chain-loop-alloc-smaller : goal.chain-loop-alloc-smaller
chain-loop-alloc-smaller t c =
    let tested : begins (can (ops_of c.args.precedence)) c.loop-alloc.cursor.rest ≡ true = search rules in
    let read : right_by c.args.site (ops_of c.args.precedence) (operand_by c.args.precedence c.args.site (inner_by c.args.room c.args.site)
    c.args.room) c.loop-alloc.left c.loop-alloc.cursor
    ≡ (Ok c.in_ok-left-2.left, c.right.new.cursor) = search rules in
    chain_less c.args.precedence c.args.site c.args.room c.loop-alloc.left c.in_ok-left-2.left c.loop-alloc.cursor c.right.new.cursor tested
    read

pub operand-returns-in-Disjunction : goal.operand-returns-in-Disjunction
operand-returns-in-Disjunction t c = rw (c.in-Disjunction.is, of_conjunctions c.args.site c.args.room c.args.cursor.now) c.chain.ensures

pub operand-returns-in-Comparison : goal.operand-returns-in-Comparison
operand-returns-in-Comparison t c =
    rw (c.in-Comparison.is, of_sums c.args.site c.args.room c.args.cursor.now) c.chain-in-Comparison.ensures

pub operand-returns-in-Sum : goal.operand-returns-in-Sum
operand-returns-in-Sum t c = rw (c.in-Sum.is, of_products c.args.site c.args.room c.args.cursor.now) c.chain-in-Sum.ensures
