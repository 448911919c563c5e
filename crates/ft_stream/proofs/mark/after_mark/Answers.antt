use Rattle.std.proofs.Common.{◌+◌, ◌-◌, ◌∙◌, Some, None, length, drop, length-drop, arith}
use Rattle.std.proofs.lemmas.Bool.Decides.{Decides-eqb}
use Rattle.std.proofs.lemmas.List.{take_all}
use Rattle.std.proofs.lemmas.Slice.Eq.{strip_prefix_is}
use Rattle.ft_stream.specs.meaning.Mark.{mark}
use Rattle.ft_stream.proofs.MarkLemmas.{at-once, at-place, nowhere}
use Rattle.ft_stream.proofs.mark.after_mark.Goals as goal

pub returns-in-Some : goal.returns-in-Some
returns-in-Some c = at-once c.args.bytes.now c.in-Some.after.now
    (strip_prefix_is Decides-eqb c.args.bytes.now mark (Some c.in-Some.after) c.in-Some.ensures.cases)

pub returns-in-Some-find : goal.returns-in-Some-find
returns-in-Some-find c =
    let bytes = c.args.bytes.now in
    let end = c.in-Some-find.at + 8 in
    take_all (length bytes - end) (drop end bytes) (omega (arith, length-drop end bytes))
    ∙ at-place bytes (strip_prefix_is Decides-eqb bytes mark None c.in_default.ensures.cases) c.in-Some-find.at c.in-Some-find.ensures

pub returns-in-None : goal.returns-in-None
returns-in-None c =
    let bytes = c.args.bytes.now in
    nowhere bytes (strip_prefix_is Decides-eqb bytes mark None c.in_default.ensures.cases) c.in-None.ensures
