use Rattle.std.proofs.Common.{◌∙◌, sym, ap, rules, FitsSigned, w64}
use Rattle.std.proofs.lemmas.Int.{to_z-of_z}
use Rattle.std.proofs.lemmas.Option.{none-some, same_Some}
use Rattle.ft_mean.specs.meaning.Value.{value}
use Rattle.ft_scan.proofs.FrameLemmas.{term_safe}
use Rattle.ft_scan.proofs.cells.entry_value.Goals as goal

pub value_of-requires : goal.value_of-requires
value_of-requires g c = term_safe (g.L.Look.view c.args.look.now) c.args.grid.now c.args.row c.args.column c.in-Some.term.now
    (sym c.in-Some.ensures) c.requires.safe

pub unreachable-requires : goal.unreachable-requires
unreachable-requires g c = none-some c.requires.entry.0 (c.in-None.ensures ∙ c.requires.entry.1)

pub returns : goal.returns
returns g c = λ e is.
    let fits : FitsSigned w64 c.value_of.result = search rules in
    simp to_z-of_z (c.value_of.ensures ∙ ap (value (g.L.Look.view c.args.look.now))
    (same_Some c.in-Some.term.now e (c.in-Some.ensures ∙ is)))
