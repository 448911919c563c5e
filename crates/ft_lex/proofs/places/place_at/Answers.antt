use Rattle.std.proofs.Common.{ap, arith}
use Rattle.ft_base.specs.declared.place.Place.{Place}
use Rattle.ft_lex.proofs.PlaceLemmas.{line-small, column-small}
use Rattle.ft_lex.proofs.places.place_at.Goals as goal

pub next-place-requires : goal.next-place-requires
next-place-requires c =
    let text = c.args.text.now in
    let at = c.loop-at.at in
    let lines = ap (λ (p : Place). p.line) c.loop-at.invariant in
    let columns = ap (λ (p : Place). p.column) c.loop-at.invariant in
    (omega (arith, lines, line-small text at (omega arith)), omega (arith, columns, column-small text at (omega arith)))
