use Rattle.ft_cover.proofs.law.laws.Goals as goal

pub returns : goal.returns
returns c = record {
  keep_sizes = c.safety_laws.ensures.views;
  tables_safe = c.safety_laws.ensures.tables;
  by_less = c.safety_laws.ensures.by_less;
  overlaps = c.cell_laws.ensures.overlaps;
  ranges = c.cell_laws.ensures.ranges;
  two = c.cell_laws.ensures.two;
  of_one = c.cell_laws.ensures.of_one;
  one = c.cell_laws.ensures.one;
  kept = c.cell_laws.ensures.kept;
  once = c.cell_laws.ensures.once;
  shows_none = c.cover_laws.ensures.proper_shows_none;
  settled = c.formula_laws.ensures.settled;
  local = c.point_laws.ensures.local;
  show = c.point_laws.ensures.show;
  proper = c.point_laws.ensures.proper;
  made = c.value_laws.ensures.made;
  numbers = c.number_laws.ensures.tables;
  one_obligation = c.number_laws.ensures.one;
}
