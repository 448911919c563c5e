use Rattle.ft_replay.proofs.law.laws.Goals as goal

pub returns : goal.returns
returns c = record {
  allowed_by_scan = c.allowed_by_scan.ensures;
  maps_by_scan = c.maps_by_scan.ensures;
  one_image = c.one_image.ensures;
  one_trace = c.one_trace.ensures;
  outputs_alone = c.outputs_alone.ensures;
  inside = c.row_laws.ensures.inside;
  at_place = c.row_laws.ensures.at_place;
  in_front = c.row_laws.ensures.in_front;
}
