use Rattle.std.proofs.Common.{rules, ◌≡◌, ◌<◌, ◌+◌, length}
use Rattle.ft_farkas.proofs.KeepingLemmas.{source-written}
use Rattle.ft_farkas.proofs.sources.write_source.Goals as goal

pub returns-clause-entries : goal.returns-clause-entries
returns-clause-entries c lines there k =
    let place : c.len.result + 1 + c.args.at ≡ length c.args.part.now.spans + 1 + c.args.at = search rules in
    let room : c.len.result + 1 + c.args.at < length c.write_line.new.row = search rules in
    source-written c.args.formula.now c.args.part.now c.requires.over lines c.args.at c.args.line c.write_line.new.row (c.len.result + 1 + c.args.at) place room c.write_line.ensures.entries there k
