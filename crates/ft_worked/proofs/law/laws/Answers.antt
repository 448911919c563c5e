use Rattle.ft_worked.proofs.law.laws.Goals as goal

pub returns : goal.returns
returns c = record {
  one_trace = c.one_trace.ensures;
  one_image = c.one_image.ensures;
  wholes = c.whole_laws.ensures.joint;
  remember = c.memory_laws.ensures.remember;
  same_held = c.past_laws.ensures.same_held;
  begun_first = c.time_laws.ensures.begun_first;
  since_periods = c.time_laws.ensures.since_periods;
}
