use Rattle.std.proofs.Common.{◌≡◌, take}
use Rattle.std.specs.List.{flat_map}
use Rattle.ft_claims.specs.meaning.Areas.{with_marks}
use Rattle.ft_claims.specs.meaning.Formulas.{unknowns_of}
use Rattle.ft_claims.proofs.marking.+mark.Given as goal

abbrev pub invariant-mark_all-loop-part : goal.invariant-mark_all-loop-part
invariant-mark_all-loop-part l = l.marks ≡ with_marks l.initial.marks (flat_map unknowns_of (take l.part-index l.parts))
