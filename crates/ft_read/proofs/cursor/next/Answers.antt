use Rattle.std.proofs.Common.{rules, ◌≡◌, ◌∷◌}
use Rattle.ft_read.proofs.LexemeLemmas.{rest-lies, first-lies}
use Rattle.ft_read.proofs.cursor.next.Goals as goal

pub returns-clause-rest_lies : goal.returns-clause-rest_lies
returns-clause-rest_lies c = λ text all.
    let parts : c.args.tokens.now ≡ c.in_ok-token.token.now ∷ c.in_ok-token.rest.now = search rules in
    rest-lies text _ _ _ parts all

pub returns-clause-first_lies : goal.returns-clause-first_lies
returns-clause-first_lies c = λ text all.
    let parts : c.args.tokens.now ≡ c.in_ok-token.token.now ∷ c.in_ok-token.rest.now = search rules in
    first-lies text _ _ _ parts all
