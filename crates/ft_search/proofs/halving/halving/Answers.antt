use Rattle.std.proofs.Common.{◌∙◌, sym, ap, true, false, List, length, arith}
use Rattle.std.proofs.lemmas.Option.{slice_get_within}
use Rattle.ft_linear.specs.meaning.Form.{LinView}
use Rattle.ft_search.specs.searching.Single.{NoneBy}
use Rattle.ft_search.proofs.HalvingLemmas.{below-more, from-none}
use Rattle.ft_search.proofs.halving.halving.Goals as goal

pub loop-atom-preserved : goal.loop-atom-preserved
loop-atom-preserved c =
    let f = c.args.formula.now in
    let p = c.args.part.now in
    let none = sym c.is_some.ensures ∙ c.if-is_some.false in
    below-more f p c.loop-atom.atom c.loop-atom.invariant
    (from-none (NoneBy f p c.loop-atom.atom true) c.by_atom-single.result none c.by_atom-single.ensures.yes)
    (from-none (NoneBy f p c.loop-atom.atom false) c.by_atom-single.result none c.by_atom-single.ensures.no)

pub returns-clause-none : goal.returns-clause-none
returns-clause-none c a s u h =
    let long = ap (λ (ls : List LinView). length ls) c.atoms.ensures in
    let within = slice_get_within c.args.formula.now.atoms a h.l h.form in
    c.loop-atom.invariant a (omega (arith, long, within)) s u h
