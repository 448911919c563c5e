use Rattle.std.proofs.Common.{◌∙◌, ap, sym, [], ◌∷◌}
use Rattle.ft_claims.specs.declared.claim.Claim.TheVariants as claim
use Rattle.ft_oblige.specs.building.Stating.{beyond}
use Rattle.ft_oblige.proofs.stating.beyond.Goals as goal

pub returns-in_ok-whole-in-Some : goal.returns-in_ok-whole-in-Some
returns-in_ok-whole-in-Some c =
    c.in_ok-whole-in-Some.ensures ∙ (λ i. claim.And (c.args.condition ∷ c.in_ok-outside-in-Some.ensures i ∷ []))
    ∙ ap (λ r. beyond c.args.tables.now c.args.frame.now r c.args.condition c.args.term.now) (sym c.in-Some.is)

pub returns-in-None : goal.returns-in-None
returns-in-None c =
    ap claim.Or c.new.ensures ∙ ap (λ r. beyond c.args.tables.now c.args.frame.now r c.args.condition c.args.term.now) (sym c.in-None.is)
