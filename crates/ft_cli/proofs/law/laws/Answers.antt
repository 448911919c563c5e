use Rattle.ft_cli.proofs.law.laws.Goals as goal

pub returns : goal.returns
returns c = record {
  one_set = c.one_set.ensures;
  shows_none = c.cover_laws.ensures.proper_shows_none;
  has_point = c.point_laws.ensures.has_point;
  tables_have = c.number_laws.ensures.tables;
  compose = c.faultless_compose.ensures;
  failing_open = c.failure_laws.ensures.open;
  by_scan = c.allowed_by_scan.ensures;
  in_front = c.row_laws.ensures.in_front;
  one_history = c.one_history.ensures;
  written = c.written_is_spelled.ensures;
  mark = c.mark_is_skipped.ensures.first;
}
