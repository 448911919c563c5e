use Rattle.std.proofs.Common.{arith}
use Rattle.std.proofs.lemmas.Option.{slice_get_within}
use Rattle.ft_core.specs.meaning.Kinds.{defined_kinds, section_of}
use Rattle.ft_scan.proofs.FrameLemmas.{frame_keeps, of_kinds}
use Rattle.ft_scan.proofs.stepping.find_cell.Goals as goal

pub value_by-value-requires-clause-keeps : goal.value_by-value-requires-clause-keeps
value_by-value-requires-clause-keeps c = frame_keeps c.args.tables.now c.args.frame.now c.requires.frame

pub set-requires : goal.set-requires
set-requires c =
    let at = of_kinds c.args.tables.now.vars (defined_kinds (section_of c.requires.can.0)) c.args.variable c.requires.can.1.of_side in
    let below = slice_get_within c.args.tables.now.vars c.args.variable at.0 at.1 in
    omega (arith, below, c.requires.frame.now)
