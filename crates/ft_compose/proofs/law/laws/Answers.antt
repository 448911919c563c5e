use Rattle.ft_compose.proofs.law.laws.Goals as goal

pub returns : goal.returns
returns c = record {
  same_value = c.evaluation_laws.ensures.same_value;
  same_truth = c.evaluation_laws.ensures.same_truth;
  same_defined = c.table_laws.ensures.same_defined;
  may_read = c.table_laws.ensures.may_read;
  memories_move = c.memories_move.ensures;
  one_trace = c.one_trace.ensures;
  one_image = c.one_image.ensures;
  runs_are_whole = c.whole_laws.ensures.joint;
  conditions_say = c.claim_laws.ensures.conditions;
  cells_say = c.claim_laws.ensures.cells;
  definitions_say = c.claim_laws.ensures.definitions;
  moves_say = c.claim_laws.ensures.moves;
  conditions_good = c.good_laws.ensures.conditions;
  cells_good = c.good_laws.ensures.cells;
  definitions_good = c.good_laws.ensures.definitions;
  points_tell = c.formula_laws.ensures.points;
  numbers_make_points = c.formula_laws.ensures.numbers;
  true_alike = c.formula_laws.ensures.alike;
  numbers_are_made = c.value_laws.ensures.made;
  points_are_of_numbers = c.value_laws.ensures.points;
  parts_good = c.part_laws.ensures.good;
  others_good = c.part_laws.ensures.others;
  slots_are_names = c.part_laws.ensures.names;
  slots_have_some = c.part_laws.ensures.some;
  slots_are_spans = c.part_laws.ensures.spans;
  facts_have_numbers = c.number_laws.ensures.facts;
}
