use Rattle.std.proofs.Common.{◌≡◌, ◌≤◌, ◌+◌, length, drop}
use Rattle.ft_cert.specs.meaning.Evidence.{EachBelow, by_its_kind, placed_of}
use Rattle.ft_cert.specs.meaning.Parts.{whole_of}
use Rattle.ft_cert.specs.walk.Waiting.{placed_by}
use Rattle.ft_check.specs.checking.Room.{IsRoomFor}
use Rattle.ft_check.proofs.checking.check.Given as goal

abbrev pub invariant-nodes : goal.invariant-nodes
invariant-nodes l = record {
  rest : drop l.node-index (placed_of l.formula (whole_of l.formula l.area.spans) l.cert)
      ≡ placed_by l.formula l.descent.parts (drop l.node-index l.nodes);
  before : EachBelow (by_its_kind l.formula) (placed_of l.formula (whole_of l.formula l.area.spans) l.cert) l.node-index;
  number : l.number ≡ l.node-index;
  unknowns : l.descent.unknowns ≡ length l.area.spans;
  atoms : l.descent.atoms ≡ length l.formula.atoms;
  spare : length l.nodes ≤ l.node-index + l.descent.spare;
  room : IsRoomFor l.formula (length l.area.spans) l.room;
}
