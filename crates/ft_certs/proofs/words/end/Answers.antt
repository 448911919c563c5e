use Rattle.std.proofs.Common.{sym}
use Rattle.std.proofs.lemmas.List.{nil_from_length}
use Rattle.ft_certs.proofs.WordLemmas.{end-stuck-empty, end-stuck}
use Rattle.ft_certs.proofs.words.end.Goals as goal

pub returns-in_default-clause-stopped : goal.returns-in_default-clause-stopped
returns-in_default-clause-stopped c = end-stuck-empty c.args.ends.now c.args.bytes.now c.requires (nil_from_length c.args.bytes.now c.in_default.ensures.cases)

pub returns-then-not-is_end-clause-stopped : goal.returns-then-not-is_end-clause-stopped
returns-then-not-is_end-clause-stopped c =
    end-stuck c.args.ends.now c.args.bytes.now c.requires c.in-Some.first.now c.in-Some.rest.now c.in-Some.ensures.cases.0 (sym c.if-not-is_end.ensures)
