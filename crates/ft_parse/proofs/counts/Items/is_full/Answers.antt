use Rattle.std.proofs.Common.{rules, ◌≡◌, arith}
use Rattle.ft_tree.specs.meaning.Limits as limits
use Rattle.ft_parse.specs.parsers.Counts.{count_of, up_to_most}
use Rattle.ft_parse.proofs.CountLemmas.{full}
use Rattle.ft_parse.proofs.counts.Items.is_full.Goals as goal

pub returns-in-Clauses : goal.returns-in-Clauses
returns-in-Clauses c =
    let counted : c.self.inside.counts.clauses ≡ up_to_most (count_of limits.clauses c.args.self.now) = search rules in
    rw c.in-Clauses.is (full 100 c.self.inside.counts.clauses (count_of limits.clauses c.args.self.now) (omega arith) counted)

pub returns-in-Blocks : goal.returns-in-Blocks
returns-in-Blocks c =
    let counted : c.self.inside.counts.blocks ≡ up_to_most (count_of limits.blocks c.args.self.now) = search rules in
    rw c.in-Blocks.is (full 300 c.self.inside.counts.blocks (count_of limits.blocks c.args.self.now) (omega arith) counted)
