use Rattle.ft_scan.proofs.law.laws.Goals as goal

pub returns : goal.returns
returns c = record {
  same_value = c.evaluation_laws.ensures.same_value;
  same_truth = c.evaluation_laws.ensures.same_truth;
  same_truths = c.evaluation_laws.ensures.same_truths;
  remember = c.memory_laws.ensures.remember;
  ageless = c.memory_laws.ensures.ageless;
  same_side = c.look_laws.ensures.same_side;
  local = c.look_laws.ensures.local;
  same_held = c.past_laws.ensures.same_held;
  same_hyst = c.past_laws.ensures.same_hyst;
  hyst_begins = c.past_laws.ensures.hyst_begins;
  hyst_goes_on = c.past_laws.ensures.hyst_goes_on;
  begun_low = c.time_laws.ensures.begun_low;
  begins_first = c.time_laws.ensures.begins_first;
  before_begins = c.time_laws.ensures.before_begins;
  before_later = c.time_laws.ensures.before_later;
  scan_before = c.time_laws.ensures.scan_before;
  before_same = c.time_laws.ensures.before_same;
  begins_once = c.time_laws.ensures.begins_once;
  begun_first = c.time_laws.ensures.begun_first;
  since_periods = c.time_laws.ensures.since_periods;
  inside = c.row_laws.ensures.inside;
  taken = c.row_laws.ensures.taken;
  same_rows = c.row_laws.ensures.same_rows;
  at_place = c.row_laws.ensures.at_place;
  in_range = c.row_laws.ensures.in_range;
  in_front = c.row_laws.ensures.in_front;
  given_or_defined = c.row_laws.ensures.given_or_defined;
  has_table = c.table_laws.ensures.has_table;
  cells_are = c.table_laws.ensures.cells_are;
  own_reads = c.table_laws.ensures.own_reads;
  same_defined = c.table_laws.ensures.same_defined;
  one_value = c.table_laws.ensures.one_value;
  sections = c.table_laws.ensures.sections;
  longer = c.trace_laws.ensures.longer;
}
