use Rattle.ft_claims.proofs.law.laws.Goals as goal

pub returns : goal.returns
returns c = record {
  same_value = c.evaluation_laws.ensures.same_value;
  same_truth = c.evaluation_laws.ensures.same_truth;
  same_cell = c.evaluation_laws.ensures.same_cell;
  same_holding = c.evaluation_laws.ensures.same_holding;
  cells_read = c.table_laws.ensures.cells_read;
  own_reads = c.table_laws.ensures.own_reads;
}
