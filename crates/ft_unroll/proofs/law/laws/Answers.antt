use Rattle.ft_unroll.proofs.law.laws.Goals as goal

pub returns : goal.returns
returns c = record {
  same_value = c.evaluation_laws.ensures.same_value;
  same_truth = c.evaluation_laws.ensures.same_truth;
  same_defined = c.table_laws.ensures.same_defined;
  may_read = c.table_laws.ensures.may_read;
  memories_move = c.memories_move.ensures;
  begins_first = c.time_laws.ensures.begins_first;
  begins_once = c.time_laws.ensures.begins_once;
  same_nat = c.look_laws.ensures.same_nat;
  same_rows = c.row_laws.ensures.same_rows;
  at_place = c.row_laws.ensures.at_place;
  in_range = c.row_laws.ensures.in_range;
  has_rows = c.row_laws.ensures.has_rows;
  allowed_shorter = c.trace_laws.ensures.allowed;
  differs_shorter = c.trace_laws.ensures.differs;
  runs_are_whole = c.whole_laws.ensures.joint;
  wholes_split = c.whole_laws.ensures.splits;
  splits_differ = c.whole_laws.ensures.differs;
  conditions_say = c.claim_laws.ensures.conditions;
  definitions_say = c.claim_laws.ensures.definitions;
  moves_say = c.claim_laws.ensures.moves;
  points_tell = c.formula_laws.ensures.points;
  numbers_make_points = c.formula_laws.ensures.numbers;
  settled_alike = c.formula_laws.ensures.settled;
  points_are_of_numbers = c.value_laws.ensures.points;
  lists_good = c.list_part_laws.ensures.lists;
  differences_good = c.list_part_laws.ensures.differences;
  lists_are_names = c.list_part_laws.ensures.names;
  lists_have_some = c.list_part_laws.ensures.some;
  lists_are_spans = c.list_part_laws.ensures.spans;
}
