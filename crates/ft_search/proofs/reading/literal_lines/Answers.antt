use Rattle.std.proofs.Common.{◌∙◌, sym, ap, List, ◌∷◌, arith}
use Rattle.std.specs.List.{flat_map}
use Rattle.std.proofs.lemmas.List.{take_all}
use Rattle.ft_linear.specs.declared.lines.Line.TheVariants.{Atom}
use Rattle.ft_linear.specs.meaning.Form.{Factor}
use Rattle.ft_search.specs.searching.Kept.{other_line}
use Rattle.ft_search.proofs.ReadingLemmas.{single-is}
use Rattle.ft_search.proofs.reading.literal_lines.Goals as goal

pub returns : goal.returns
returns c =
    let all = take_all c.factors.factor-index c.factors-factor-items.result.now (omega arith) in
    c.factors.invariant
    ∙ ap (λ (fs : List Factor). Atom c.args.atom c.args.value 1 ∷ flat_map (other_line c.args.value c.args.unknown) fs)
    (all ∙ c.factors-factor-items.ensures.value)
    ∙ sym (single-is c.args.atom c.args.value c.args.unknown c.args.form.now)
