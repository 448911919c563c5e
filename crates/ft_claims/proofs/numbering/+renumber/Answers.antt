use Rattle.std.proofs.Common.{◌∙◌, sym, ap, pos, map}
use Rattle.ft_settle.specs.declared.raw.Raw.TheVariants as raw
use Rattle.ft_claims.specs.meaning.Areas.{number_by, renumber}
use Rattle.ft_claims.proofs.ObligedLemmas.{renumber-Le, renumber-Not, renumber-And, renumber-Or}
use Rattle.ft_claims.proofs.numbering.+renumber.Goals as goal

pub renumber-returns-in_ok-whole-in-Le : goal.renumber-returns-in_ok-whole-in-Le
renumber-returns-in_ok-whole-in-Le t c =
    let ρ = number_by c.args.numbers.now in
    ap raw.Le c.in_ok-whole-in-Le.ensures ∙ sym (renumber-Le ρ (λ u. pos 0) c.in-Le.form) ∙ sym (ap (renumber ρ) c.in-Le.is)

pub renumber-returns-in_ok-denial-in-Not : goal.renumber-returns-in_ok-denial-in-Not
renumber-returns-in_ok-denial-in-Not t c =
    let ρ = number_by c.args.numbers.now in
    c.in_ok-denial-in-Not.ensures ∙ ap raw.Not (c.in_ok-whole-in-Not.ensures ∙ ap (renumber ρ) c.get.ensures)
    ∙ sym (renumber-Not ρ (λ u. pos 0) c.in-Not.inner) ∙ sym (ap (renumber ρ) c.in-Not.is)

pub renumber-returns-in_ok-list-in-And : goal.renumber-returns-in_ok-list-in-And
renumber-returns-in_ok-list-in-And t c =
    let ρ = number_by c.args.numbers.now in
    ap raw.And (c.in_ok-list-in-And.ensures ∙ ap (map (renumber ρ)) c.as_slice.ensures) ∙ sym (renumber-And ρ (λ u. pos 0) c.in-And.parts)
    ∙ sym (ap (renumber ρ) c.in-And.is)

pub renumber-returns-in_ok-list-in-Or : goal.renumber-returns-in_ok-list-in-Or
renumber-returns-in_ok-list-in-Or t c =
    let ρ = number_by c.args.numbers.now in
    ap raw.Or (c.in_ok-list-in-Or.ensures ∙ ap (map (renumber ρ)) c.as_slice-in-Or.ensures) ∙ sym (renumber-Or ρ (λ u. pos 0) c.in-Or.parts)
    ∙ sym (ap (renumber ρ) c.in-Or.is)
