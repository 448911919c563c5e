use Rattle.ft_stream.proofs.law.laws.Goals as goal

pub returns : goal.returns
returns c = record {
  after_last = c.allowed_after_last.ensures;
  by_scan = c.allowed_by_scan.ensures;
  at_place = c.row_laws.ensures.at_place;
  in_front = c.row_laws.ensures.in_front;
}
