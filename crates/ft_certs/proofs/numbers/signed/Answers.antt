use Rattle.std.proofs.Common.{◌≡◌, ◌∙◌, sym, ap, ℕ, ◌∷◌}
use Rattle.std.proofs.lemmas.List.{nil_from_length}
use Rattle.ft_certs.specs.building.Pieces.{Numbers, Signeds}
use Rattle.ft_certs.proofs.StuckLemmas.{head-same, stopped-as}
use Rattle.ft_certs.proofs.SignedLemmas.{natural-stuck, negative-stuck, signed-ended}
use Rattle.ft_certs.proofs.numbers.signed.Goals as goal

pub returns-in_default-clause-stopped : goal.returns-in_default-clause-stopped
returns-in_default-clause-stopped c =
    signed-ended c.args.ends.now c.requires c.args.bytes.now (nil_from_length c.args.bytes.now c.in_default.ensures.cases)

pub returns-then-first-eq45-clause-stopped : goal.returns-then-first-eq45-clause-stopped
returns-then-first-eq45-clause-stopped c =
    let parts : c.args.bytes.now ≡ 45 ∷ c.in-Some.digits.now =
    c.in-Some.ensures.cases.0 ∙ ap (λ (b : ℕ). b ∷ c.in-Some.digits.now) c.if-first-eq45.true in
    stopped-as c.negative.result (Numbers 1 999999999999999999 c.args.ends.now) (Signeds c.args.ends.now) c.in-Some.digits.now c.args.bytes.now
    (λ left s. negative-stuck c.args.ends.now c.requires c.args.bytes.now c.in-Some.digits.now left parts s) c.negative.ensures.stopped

pub returns-else-first-eq45-clause-stopped : goal.returns-else-first-eq45-clause-stopped
returns-else-first-eq45-clause-stopped c =
    stopped-as c.natural.result (Numbers 0 999999999999999999 c.args.ends.now) (Signeds c.args.ends.now) c.args.bytes.now c.args.bytes.now
    (λ left s. natural-stuck c.args.ends.now c.requires c.args.bytes.now left
    (λ v e. c.if-first-eq45.false (head-same c.in-Some.first.now 45 c.in-Some.digits.now v (sym c.in-Some.ensures.cases.0 ∙ e))) s)
    c.natural.ensures.stopped
