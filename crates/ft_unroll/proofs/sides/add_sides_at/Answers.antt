use Rattle.std.proofs.Common.{◌≡◌, ◌++◌}
use Rattle.std.proofs.lemmas.Result.{on_ok_weaker}
use Rattle.ft_core.specs.declared.tables.Section.TheVariants as section
use Rattle.ft_oblige.specs.meaning.Lists.{definitions_at, moves_at}
use Rattle.ft_unroll.proofs.StepLemmas.{four-in-turn}
use Rattle.ft_unroll.proofs.sides.add_sides_at.Goals as goal

pub returns : goal.returns
returns c =
    let S = c.args.tables.now in
    let t = c.args.scan in
    on_ok_weaker c.add_moves.result
    (λ (e : c.add_moves.new.parts ≡ c.add_definitions-3.new.parts ++ moves_at S t).
    four-in-turn (definitions_at S section.Req t) (definitions_at S section.Sof t) (definitions_at S section.In t) (moves_at S t)
    c.args.parts.now c.add_definitions.new.parts c.add_definitions-2.new.parts c.add_definitions-3.new.parts c.add_moves.new.parts
    c.in_ok-add_definitions.ensures c.in_ok-add_definitions-2.ensures c.in_ok-add_definitions-3.ensures e)
    c.add_moves.ensures
