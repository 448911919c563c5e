use Rattle.ft_certs.proofs.WordLemmas.{word-ended, word-stuck}
use Rattle.std.proofs.lemmas.List.{nil_from_length}
use Rattle.ft_certs.proofs.words.word.Goals as goal

pub returns-in_default-clause-stopped : goal.returns-in_default-clause-stopped
returns-in_default-clause-stopped c =
    word-ended c.args.word.now c.word.byte-index c.word-test.true c.args.bytes.now c.word.rest.now c.word.invariant (nil_from_length c.word.rest.now c.in_default.ensures.cases)

pub returns-then-first-byte-clause-stopped : goal.returns-then-first-byte-clause-stopped
returns-then-first-byte-clause-stopped c =
    word-stuck c.args.word.now c.word.byte-index c.word-test.true c.args.bytes.now c.word.rest.now c.in-Some.first.now c.in-Some.more.now c.word.invariant
    c.in-Some.ensures.cases.0 c.if-first-byte.true
