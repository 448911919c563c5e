use Rattle.ft_compose.proofs.law.deciding_laws.Goals as goal

pub returns : goal.returns
returns c = record {
  all = c.laws.ensures;
  ranked = c.order_gives_rank.ensures;
  same_cell = c.evaluation_laws.ensures.same_cell;
  keep_sizes = c.safety_laws.ensures.views;
  tables_safe = c.safety_laws.ensures.tables;
  has_table = c.table_laws.ensures.has_table;
  cells_are = c.table_laws.ensures.cells_are;
  sections = c.table_laws.ensures.sections;
  once = c.cell_laws.ensures.once;
  settled = c.formula_laws.ensures.settled;
  proper = c.point_laws.ensures.proper;
  tables_have = c.number_laws.ensures.tables;
  one_obligation = c.number_laws.ensures.one;
  slots_differ = c.kept_laws.ensures.differ;
  have_values = c.kept_laws.ensures.values;
  are_kept = c.kept_laws.ensures.kept;
}
